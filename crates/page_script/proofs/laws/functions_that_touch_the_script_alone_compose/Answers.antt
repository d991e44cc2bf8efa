use Rattle.page_script.proofs.Lifting.{OnlyScript-adds, OnlyScript-then}
use Rattle.page_script.proofs.Tasking.{OnlyScript-tasks, Tasks-then}
use Rattle.page_script.proofs.laws.functions_that_touch_the_script_alone_compose.Goals as goal

pub returns : goal.returns
returns c = record { adds = OnlyScript-adds; alone = OnlyScript-then; no_tasks = OnlyScript-tasks; tasks = Tasks-then }
