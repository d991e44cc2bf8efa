-- Performing the first task of a source only adds lines.
use Rattle.std.proofs.Common.{List, refl, Option, Some, None, slice_get}
use Rattle.page_types.specs.Events.{Stamped}
use Rattle.page_types.specs.declared.Source.{Source}
use Rattle.page_types.specs.declared.Source.TheVariants.{User, Net, Dom, Timer, Render, Sched, Idle}
use Rattle.page_parts.specs.HostClosures.{HostClosure}
use Rattle.lang_meaning.specs.Machine.{finish, Caller}
use Rattle.lang_meaning.specs.Following.{CallsFollow}
use Rattle.page_model.specs.State.{Page, Task, HostTask, SchedTask, on_page}
use Rattle.page_model.specs.PageTime.{first_task}
use Rattle.page_model.specs.SchedulerTasks.{first_sched, without_sched}
use Rattle.page_model.specs.Invoke.{in_task}
use Rattle.page_model.specs.PageSignals.{host_task_of}
use Rattle.page_model.specs.Additions.{after, TurnAdds}
use Rattle.page_model.specs.Choosing.{Rules, chosen_answer}
use Rattle.page_model.specs.Turns.{without_task, not_dropped, perform_host, perform_task, perform_first, perform_first_sched, perform}
use Rattle.page_model.proofs.Adding.Runs.{in_task-adds}
use Rattle.page_model.proofs.Adding.Turns.{perform_steps-adds, perform_sched-adds, task_done-adds, host_answered-adds}

module _ (es : List Stamped) {C : Type 0} (rules : Rules C) (call : Caller Page) (calls_add : CallsFollow (after es) call call) where
  perform_host-adds : (t : HostTask) (k : Option HostClosure) (c : C) → TurnAdds es (λ m. perform_host rules call t k m c)
  perform_host-adds t None c m = task_done-adds es rules call calls_add c (finish m) _ refl
  perform_host-adds t (Some k) c m = host_answered-adds es rules call calls_add t (chosen_answer rules k.kind t.number c) c m

  perform_task-adds : (task : Task) (t : Option HostTask) (c : C) → TurnAdds es (λ m. perform_task rules call task t m c)
  perform_task-adds task None c m = task_done-adds es rules call calls_add c _ _ (perform_steps-adds es (in_task call) (in_task-adds es call calls_add) task.steps m)
  perform_task-adds task (Some t) c m = perform_host-adds t (not_dropped (slice_get m.host.hosts t.closure)) c m

  perform_first-adds : (task : Option Task) (c : C) → TurnAdds es (λ m. perform_first rules call task m c)
  perform_first-adds None c m = refl
  perform_first-adds (Some task) c m = perform_task-adds task (host_task_of task.steps) c (on_page (without_task task.number) m)

  perform_first_sched-adds : (t : Option SchedTask) (c : C) → TurnAdds es (λ m. perform_first_sched call t m c)
  perform_first_sched-adds None c m = refl
  perform_first_sched-adds (Some t) c m = task_done-adds es rules call calls_add c _ _ (perform_sched-adds es (in_task call) (in_task-adds es call calls_add) t (on_page (without_sched t.registration) m))

  pub perform-adds : (source : Source) (c : C) → TurnAdds es (λ m. perform rules call source m c)
  perform-adds Sched c m = perform_first_sched-adds (first_sched m.host) c m
  perform-adds User c m = perform_first-adds (first_task User m.host.tasks) c m
  perform-adds Net c m = perform_first-adds (first_task Net m.host.tasks) c m
  perform-adds Dom c m = perform_first-adds (first_task Dom m.host.tasks) c m
  perform-adds Timer c m = perform_first-adds (first_task Timer m.host.tasks) c m
  perform-adds Render c m = perform_first-adds (first_task Render m.host.tasks) c m
  perform-adds Idle c m = perform_first-adds (first_task Idle m.host.tasks) c m
