-- No list leaves the queues, and a new one is that of a signal only where its room was made.
use Rattle.std.proofs.Common.{◌≡◌, ℕ, None, List, [], ◌∷◌, ◌++◌, map, refl, ap, subst, ◌∙◌}
use Rattle.page_types.specs.declared.Priority.{Priority}
use Rattle.page_types.specs.declared.Priority.TheVariants.{Background, UserVisible, UserBlocking}
use Rattle.task_pool.specs.Lists.{Lists}
use Rattle.post_task.specs.declared.level.Level.{Level}
use Rattle.post_task.specs.declared.level.PrioSource.{PrioSource}
use Rattle.post_task.specs.declared.level.PrioSource.TheVariants.{Fixed, Signal}
use Rattle.post_task.specs.Levels.{Queue, all_queues, queues_of, Lone, priority_in, moved_level, Added}
use Rattle.post_task.proofs.Moves.{moved_queue, list_stays, all_moved, all-append, added_others}

lone_before : (n : ℕ) (qs more : List Queue) → Lone n (qs ++ more) → Lone n qs
lone_before n [] more l = tt
lone_before n (q ∷ qs) more l = (l.0, lone_before n qs more l.1)

moved_back : (s : ℕ) (p : Priority) (n : ℕ) (qs : List Queue) → Lone n (map (moved_queue s p) qs) → Lone n qs
moved_back s p n [] l = tt
moved_back s p n (q ∷ qs) l = (λ e. l.0 (list_stays s p q ∙ e), moved_back s p n qs l.1)

pub lone_still : (s : ℕ) (p : Priority) (levels : List Level) (n : ℕ) → Lone n (all_queues (map (moved_level s p) levels)) → Lone n (all_queues levels)
lone_still s p levels n lone = moved_back s p n (all_queues levels) (subst (λ (qs : List Queue). Lone n qs) (all_moved s p levels) lone)

module _ {T : Type 0} where
  pub lone_stays : (old new : List Level) (before after : Lists T) (source : PrioSource) (priority : Priority) → Added old new before after source priority → (n : ℕ) → Lone n (all_queues new) → Lone n (all_queues old)
  lone_stays old new before after source priority a n lone =
      lone_before n (all_queues old) (queues_of a.level) (subst (λ (qs : List Queue). Lone n qs) (ap all_queues a.is ∙ all-append old a.level) lone)

  -- the three fixed priorities are no signal's
  pub three_signals : (l0 l1 l2 l3 : List Level) (p0 p1 p2 p3 : Lists T) → l0 ≡ [] → Added l0 l1 p0 p1 (Fixed Background) Background → Added l1 l2 p1 p2 (Fixed UserVisible) UserVisible → Added l2 l3 p2 p3 (Fixed UserBlocking) UserBlocking
      → (s : ℕ) → priority_in l3 (Signal s) ≡ None
  three_signals l0 l1 l2 l3 p0 p1 p2 p3 none a b c s =
      added_others l2 l3 p2 p3 (Fixed UserBlocking) UserBlocking c (Signal s) refl
      ∙ added_others l1 l2 p1 p2 (Fixed UserVisible) UserVisible b (Signal s) refl
      ∙ added_others l0 l1 p0 p1 (Fixed Background) Background a (Signal s) refl
      ∙ ap (λ (ls : List Level). priority_in ls (Signal s)) none
