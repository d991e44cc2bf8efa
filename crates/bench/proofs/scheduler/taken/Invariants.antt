use Rattle.bench.proofs.scheduler.taken.Given as goal

abbrev pub ghosts-taken_in : goal.ghosts-taken_in
ghosts-taken_in a = record { name = a.blank.name; parts = a.blank.parts }
