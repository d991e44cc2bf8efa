use Rattle.bench.proofs.scheduler.enqueued.Given as goal

abbrev pub ghosts-enqueued_in : goal.ghosts-enqueued_in
ghosts-enqueued_in a = record { name = a.blank.name; parts = a.blank.parts }
