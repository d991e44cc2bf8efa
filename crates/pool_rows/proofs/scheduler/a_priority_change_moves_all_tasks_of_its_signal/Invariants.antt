use Rattle.pool_rows.proofs.scheduler.a_priority_change_moves_all_tasks_of_its_signal.Given as goal

abbrev pub ghosts-by_signal : goal.ghosts-by_signal
ghosts-by_signal g a = record { name = a.blank.name; parts = a.blank.parts }
