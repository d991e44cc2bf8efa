-- The queues of the scheduler's tasks beside other lists of their pool.
use Rattle.std.proofs.Common.{◌≡◌, ◌≤◌, List, [], ◌∷◌, ◌++◌, map, length, sym, ◌∙◌, ap, subst, inl, inr, refl, arith}
use Rattle.task_pool.specs.Lists.{Entry, Lists, list_of}
use Rattle.post_task.specs.declared.level.Level.{Level}
use Rattle.post_task.specs.Waiting.{Waiting}
use Rattle.post_task.specs.Levels.{Sched, Queue, all_queues, in_queue, of_queue, waiting_in, waiting, Rises, AreKept, Kept}
use Rattle.post_task.proofs.Best.{InQueues}
use Rattle.post_task.proofs.Firsts.{firsts_same}

module _ {T : Type 0} where
  apart_kept : (old new : Lists T) (qs : List Queue) → length old.lists ≤ length new.lists → ((q : Queue) → InQueues q qs → list_of new q.list ≡ list_of old q.list) → AreKept old qs → AreKept new qs
  apart_kept old new [] more same k = tt
  apart_kept old new (q ∷ qs) more same k = (omega (arith, k.0, more), subst (λ (es : List (Entry T)). Rises es) (sym (same q (inl refl))) k.1, k.2, apart_kept old new qs more (λ p i. same p (inr i)) k.3)

  apart_in : (old new : Lists T) (qs : List Queue) → ((q : Queue) → InQueues q qs → list_of new q.list ≡ list_of old q.list) → waiting_in new qs ≡ waiting_in old qs
  apart_in old new [] same = refl
  apart_in old new (q ∷ qs) same =
      ap (λ (es : List (Entry T)). map (in_queue q) es ++ waiting_in new qs) (same q (inl refl))
      ∙ ap (λ (w : List (Waiting T)). of_queue old q ++ w) (apart_in old new qs (λ p i. same p (inr i)))

  -- the queues stand as before where no list of theirs has changed
  pub apart-kept : (sched : Sched) (old new : Lists T) → length old.lists ≤ length new.lists → ((q : Queue) → InQueues q (all_queues sched.levels) → list_of new q.list ≡ list_of old q.list) → Kept sched old → Kept sched new
  apart-kept sched old new more same k = record { lists = apart_kept old new (all_queues sched.levels) more same k.lists; fixed = k.fixed; heads = k.heads ∙ sym (firsts_same old new sched.levels same) }

  -- and the same tasks wait
  pub apart-waiting : (levels : List Level) (old new : Lists T) → ((q : Queue) → InQueues q (all_queues levels) → list_of new q.list ≡ list_of old q.list) → waiting levels new ≡ waiting levels old
  apart-waiting levels old new same = apart_in old new (all_queues levels) same
