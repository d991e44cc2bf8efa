use Rattle.page_script.proofs.Tasking.{subscribe-tasks, notify_rejected-tasks, checkpoint_ended-tasks, all_made-tasks, race_made-tasks, pass_on-tasks}
use Rattle.page_script.proofs.laws.what_queues_tasks_touches_the_script_alone.Goals as goal

pub returns : goal.returns
returns c = record {
  subscribed = subscribe-tasks;
  rejected = notify_rejected-tasks;
  checkpoint = checkpoint_ended-tasks;
  all = all_made-tasks;
  race = race_made-tasks;
  passed = pass_on-tasks;
}
