use Rattle.pool_rows.proofs.queued_tasks.a_signal_moves_its_tasks.Given as goal

abbrev pub ghosts-by_signal : goal.ghosts-by_signal
ghosts-by_signal g a = record { name = a.blank.name; parts = a.blank.parts }
