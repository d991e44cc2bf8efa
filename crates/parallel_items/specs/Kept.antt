-- What the parts keep.
use Rattle.std.specs.Prelude.{◌≡◌, ℕ, ◌+◌, ◌≤◌, not, ◌&&◌, ◌||◌, Bool, true, List, [], ◌∷◌, map, nat_eq, if◌then◌else◌}
use Rattle.std.specs.BinaryHeap.{IsHeap}
use Rattle.std.specs.List.{list_any, AllByRecursion}
use Rattle.std.specs.Ordering.{nat_cmp, ordering_then}
use Rattle.std.specs.declared.cmp.Reverse.{Reverse}
use Rattle.std.specs.declared.cmp.Ordering.{Ordering}
use Rattle.page_base.specs.declared.moment.Micros.{Micros}
use Rattle.page_parts.specs.Setup.{are_in_order}
use Rattle.page_parts.specs.Timers.{Timers, ActiveTimer, has_id}
use Rattle.page_parts.specs.Words.{is_there}
use Rattle.page_model.specs.State.{Completing, IdleTimer}
use Rattle.page_model.specs.PageSignals.{is_delay_of}
use Rattle.arrivals_text.specs.declared.arrival.Arrival as read
use Rattle.timer_map.specs.Kept.{AreNumbered, IsKept}
use Rattle.timer_map.specs.Seen.{timers_in_order}
use Rattle.parallel_items.specs.declared.completion.Completion.{Completion}
use Rattle.parallel_items.specs.declared.idle.IdleTimeout.{IdleTimeout}
use Rattle.parallel_items.specs.InParallel.{TimerOwner}
use Rattle.parallel_items.specs.Steps.{owner_of}
use Rattle.parallel_items.specs.Seen.{completion_seen, steps_of, completings_of, owners_of, idle_timers_of, arrivals_of}

-- ---- timers

-- how many items pass a test
abbrev pub how_many : {X : Type 0} → (X → Bool) → List X → ℕ
how_many test [] = 0
how_many test (x ∷ xs) = (if test x then 1 else 0) + how_many test xs

-- how many completion steps are the delayed `postTask` of a registration
abbrev pub delays_of : ℕ → List Completing → ℕ
delays_of r cs = how_many (λ c. is_delay_of r c.completion) cs

-- the completion steps are those of the active timers
abbrev pub HaveSteps : List ActiveTimer → List Completing → Type 0
HaveSteps active cs = map (λ t. t.start) active ≡ map (λ c. c.start) cs

-- the set of registrations tells which have a delayed `postTask`, and none has two
abbrev pub AreDelays : List ℕ → List Completing → Type 0
AreDelays set cs = (r : ℕ) → delays_of r cs ≡ (if list_any (nat_eq r) set then 1 else 0)

-- the registration of which these completion steps are the delayed `postTask` is in the set now, and no other changed
abbrev pub NotesDelay : Completion → (old new : ℕ → Bool) → Type 0
NotesDelay completion old new = (r : ℕ) → new r ≡ (old r || is_delay_of r (completion_seen completion))

-- that registration is in the set no longer, and no other changed
abbrev pub ForgetsDelay : Completion → (old new : ℕ → Bool) → Type 0
ForgetsDelay completion old new = (r : ℕ) → new r ≡ (old r && not (is_delay_of r (completion_seen completion)))

-- each id in the map of ids has an owner, and no other id has
abbrev pub HaveOwners : Timers → List TimerOwner → Type 0
HaveOwners t owners = (id : ℕ) → has_id id t ≡ is_there (owner_of id owners)

pub record AreKept (t : Timers) (completions : List (ℕ × Completion)) (set : List ℕ) (held : List (ℕ × ℕ)) : Type 0 where
  pub numbered : AreNumbered (λ (entry : ℕ × Completion). entry.0) t.starts_made completions
  pub steps : HaveSteps t.active (completings_of t.starts_made completions)
  pub delays : AreDelays set (completings_of t.starts_made completions)
  pub owners_numbered : AreNumbered (λ (entry : ℕ × ℕ). entry.0) t.ids_made held
  pub owners : HaveOwners t (owners_of t.ids_made held)

-- the moments and the start numbers of the active timers of completion steps
abbrev pub started_of : List (ℕ × (ℕ × Completion)) → List (ℕ × ℕ)
started_of rows = map (λ (e : ℕ × (ℕ × Completion)). (e.0, e.1.0)) rows

-- the completion steps stand in the order in which their active timers come due
pub record AreInRows (t : Timers) (rows : List (ℕ × (ℕ × Completion))) : Type 0 where
  pub started : IsKept t.starts_made (started_of rows)
  pub active : t.active ≡ timers_in_order t.starts_made (started_of rows)

-- both
pub record AreKeptInRows (t : Timers) (rows : List (ℕ × (ℕ × Completion))) (set : List ℕ) (held : List (ℕ × ℕ)) : Type 0 where
  pub in_rows : AreInRows t rows
  pub parts : AreKept t (steps_of rows) set held

-- ---- idle timeouts

-- the order of the heap: an idle timeout is greater where it is due earlier, or is due together and was started earlier
abbrev pub sooner : (x y : Reverse IdleTimeout) → Ordering
sooner x y =
    ordering_then (nat_cmp y.0.due.0 x.0.due.0)
    (ordering_then (nat_cmp y.0.handle x.0.handle) (nat_cmp y.0.registration x.0.registration))

-- the timeouts stand as in a heap, and by their handles
pub record AreIdleKept (last : ℕ) (timeouts : List (Reverse IdleTimeout)) : Type 0 where
  pub heap : IsHeap sooner timeouts
  pub numbered : AreNumbered (λ (t : IdleTimer). t.handle) last (idle_timers_of timeouts)

-- ---- arrivals

-- an arrival stands in the map under its time and a number that was given
abbrev pub IsPlaced : (made : ℕ) → (Micros × ℕ) × read.Arrival → Type 0
IsPlaced made entry = (entry.0.0.0 ≡ entry.1.at.0) × (entry.0.1 ≤ made)

pub record AreArrivalsKept (made : ℕ) (entries : List ((Micros × ℕ) × read.Arrival)) : Type 0 where
  pub placed : AllByRecursion (IsPlaced made) entries
  pub in_order : are_in_order (arrivals_of entries) ≡ true
