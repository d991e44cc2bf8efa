-- The lists of the task sources and those of the scheduler beside each other in one pool.
use Rattle.std.proofs.Common.{◌≡◌, ◌≢◌, ℕ, ◌<◌, ◌≤◌, length, refl, ◌∙◌, arith}
use mathlib.Core.Path.{fun_ext}
use Rattle.page_types.specs.declared.Source.{Source}
use Rattle.page_types.specs.declared.Source.TheVariants.{User, Net, Dom, Timer, Render, Sched, Idle}
use Rattle.task_pool.specs.Lists.{Lists, list_of}
use Rattle.task_queues.specs.declared.queues.Queues.{Queues}
use Rattle.task_queues.specs.BySource.{list_number, tasks_of, StandIn, IsApart}
use Rattle.post_task.specs.Levels.{Sched as SchedLevels, Queue, all_queues, Lone, waiting, Kept}
use Rattle.post_task.proofs.Best.{InQueues}
use Rattle.post_task.proofs.Tasks.{lone_in}
use Rattle.post_task.proofs.Sharing.{apart-kept, apart-waiting}
use Rattle.page_tasks.specs.declared.page_task.PageTask.{PageTask}
use Rattle.page_tasks.specs.Standing.{AreApart}

pub list_within : (queues : Queues PageTask) (pool : Lists PageTask) (s : Source) → StandIn queues pool → s ≢ Sched → list_number queues s < length pool.lists
list_within queues pool User h other = omega (arith, h, queues.rising.0, queues.rising.1, queues.rising.2, queues.rising.3, queues.rising.4)
list_within queues pool Net h other = omega (arith, h, queues.rising.1, queues.rising.2, queues.rising.3, queues.rising.4)
list_within queues pool Dom h other = omega (arith, h, queues.rising.2, queues.rising.3, queues.rising.4)
list_within queues pool Timer h other = omega (arith, h, queues.rising.3, queues.rising.4)
list_within queues pool Render h other = omega (arith, h, queues.rising.4)
list_within queues pool Idle h other = h
list_within queues pool Sched h other = absurd (other refl)

-- a queue's list is no source's
pub beside : (pool : Lists PageTask) (queues : Queues PageTask) (sched : SchedLevels) → AreApart pool queues sched → (q : Queue) → InQueues q (all_queues sched.levels) → IsApart queues q.list
beside pool queues sched a q i = λ s other. lone_in (list_number queues s) (all_queues sched.levels) q (a.apart s other) i

module _ (queues : Queues PageTask) (old new : Lists PageTask) where
  tasks_by : (sched : SchedLevels) → AreApart old queues sched → ((l : ℕ) → Lone l (all_queues sched.levels) → list_of new l ≡ list_of old l) → (s : Source) → tasks_of queues new s ≡ tasks_of queues old s
  tasks_by sched a same User = same (list_number queues User) (a.apart User (λ e. cc))
  tasks_by sched a same Net = same (list_number queues Net) (a.apart Net (λ e. cc))
  tasks_by sched a same Dom = same (list_number queues Dom) (a.apart Dom (λ e. cc))
  tasks_by sched a same Timer = same (list_number queues Timer) (a.apart Timer (λ e. cc))
  tasks_by sched a same Render = same (list_number queues Render) (a.apart Render (λ e. cc))
  tasks_by sched a same Idle = same (list_number queues Idle) (a.apart Idle (λ e. cc))
  tasks_by sched a same Sched = refl

  -- where only queues' lists changed, the sources have the same tasks
  pub same_tasks : (sched : SchedLevels) → AreApart old queues sched → ((l : ℕ) → Lone l (all_queues sched.levels) → list_of new l ≡ list_of old l) → tasks_of queues new ≡ tasks_of queues old
  same_tasks sched a same = fun_ext (tasks_by sched a same)

  -- where only sources' lists changed, the same scheduler tasks wait
  pub same_waiting : (sched : SchedLevels) → AreApart old queues sched → ((l : ℕ) → IsApart queues l → list_of new l ≡ list_of old l) → waiting sched.levels new ≡ waiting sched.levels old
  same_waiting sched a same = apart-waiting sched.levels old new (λ q i. same q.list (beside old queues sched a q i))

  -- and the lists of both sides stand apart as before
  pub source_changed : (sched : SchedLevels) → AreApart old queues sched → ((l : ℕ) → IsApart queues l → list_of new l ≡ list_of old l) → StandIn queues new → length new.lists ≡ length old.lists → AreApart new queues sched
  source_changed sched a same stand count =
      record {
        stand = stand;
        kept = apart-kept sched old new (omega (arith, count)) (λ q i. same q.list (beside old queues sched a q i)) a.kept;
        apart = a.apart;
        others = λ l apart lone. same l apart ∙ a.others l apart lone;
      }

  -- so they do where only queues' lists changed, and none left the queues
  pub sched_changed : (sched after : SchedLevels) → AreApart old queues sched → ((l : ℕ) → Lone l (all_queues sched.levels) → list_of new l ≡ list_of old l) → Kept after new
      → ((l : ℕ) → l < length old.lists → Lone l (all_queues sched.levels) → Lone l (all_queues after.levels)) → ((l : ℕ) → Lone l (all_queues after.levels) → Lone l (all_queues sched.levels))
      → length old.lists ≤ length new.lists → AreApart new queues after
  sched_changed sched after a same kept made stay count =
      record {
        stand = omega (arith, a.stand, count);
        kept = kept;
        apart = λ s other. made (list_number queues s) (list_within queues old s a.stand other) (a.apart s other);
        others = λ l apart lone. same l (stay l lone) ∙ a.others l apart (stay l lone);
      }
