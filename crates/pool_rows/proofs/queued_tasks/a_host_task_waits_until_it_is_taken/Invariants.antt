use Rattle.pool_rows.proofs.queued_tasks.a_host_task_waits_until_it_is_taken.Given as goal

abbrev pub ghosts-asked : goal.ghosts-asked
ghosts-asked g a = record { name = a.blank.name; parts = a.blank.parts }
