use Rattle.pool_rows.proofs.queues.each_source_has_its_own_tasks_in_order.Given as goal

abbrev pub ghosts-by_source : goal.ghosts-by_source
ghosts-by_source g a = record { name = a.blank.name; parts = a.blank.parts }
