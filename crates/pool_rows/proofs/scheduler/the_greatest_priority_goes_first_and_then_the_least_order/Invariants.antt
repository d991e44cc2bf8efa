use Rattle.pool_rows.proofs.scheduler.the_greatest_priority_goes_first_and_then_the_least_order.Given as goal

abbrev pub ghosts-by_priority : goal.ghosts-by_priority
ghosts-by_priority g a = record { name = a.blank.name; parts = a.blank.parts }
