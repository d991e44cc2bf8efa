use Rattle.pool_rows.proofs.shared.tests.both_sides_of_a_pool_give_back_their_own.Given as goal

abbrev pub ghosts-a_task_and_a_scheduler_task : goal.ghosts-a_task_and_a_scheduler_task
ghosts-a_task_and_a_scheduler_task g a = record { name = a.blank.name; parts = a.blank.parts }
