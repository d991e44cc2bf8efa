-- The priorities that the scheduler's levels say.
use Rattle.std.proofs.Common.{◌≡◌, ℕ, Bool, true, false, cond, List, [], ◌∷◌, Option, None, Some, eqb, refl, sym, ◌∙◌, ap, subst}
use Rattle.std.specs.Prelude.{option_map, unwrap_or, IsSome}
use Rattle.std.specs.List.{find}
use Rattle.page_types.specs.declared.Priority.{Priority}
use Rattle.page_types.specs.declared.Priority.TheVariants.{UserVisible}
use Rattle.post_task.specs.declared.level.Level.{Level}
use Rattle.post_task.specs.declared.level.PrioSource.{PrioSource}
use Rattle.post_task.specs.declared.level.PrioSource.TheVariants.{Fixed, Signal}
use Rattle.post_task.specs.Waiting.{same_source}
use Rattle.post_task.specs.Levels.{has_source, priority_in, HasRoom}
use Rattle.page_tasks.specs.Queued.{SignalPriority, priority_for, HasPriority, Queued}
use Rattle.page_tasks.specs.Standing.{priorities_in}

abbrev with_first : Option SignalPriority → List SignalPriority → List SignalPriority
with_first None more = more
with_first (Some x) more = x ∷ more

module _ (s : ℕ) (level : Level) (rest : List Level) (same : priority_for (priorities_in rest) s ≡ priority_in rest (Signal s)) where
  at_source : (source : PrioSource) → level.source ≡ source → priority_for (priorities_in (level ∷ rest)) s ≡ priority_in (level ∷ rest) (Signal s)
  at_source (Fixed f) is =
      let e : has_source (Signal s) level ≡ false = ap (λ (x : PrioSource). same_source x (Signal s)) is in
      let first : priorities_in (level ∷ rest) ≡ priorities_in rest = rw is in
      ap (λ ps. priority_for ps s) first ∙ same ∙ sym (ap (λ (b : Bool). option_map (λ (l : Level). l.priority) (cond b (Some level) (find (has_source (Signal s)) rest))) e)
  at_source (Signal a) is =
      let e : has_source (Signal s) level ≡ eqb a s = ap (λ (x : PrioSource). same_source x (Signal s)) is in
      let first : priorities_in (level ∷ rest) ≡ record { signal = a; priority = level.priority } ∷ priorities_in rest = rw is in
      ap (λ ps. priority_for ps s) first ∙ by (eqb a s) ∙ sym (ap (λ (b : Bool). option_map (λ (l : Level). l.priority) (cond b (Some level) (find (has_source (Signal s)) rest))) e)
    where
      by : (b : Bool) → option_map (λ (p : SignalPriority). p.priority) (cond b (Some (record { signal = a; priority = level.priority })) (find (λ (p : SignalPriority). eqb p.signal s) (priorities_in rest)))
          ≡ option_map (λ (l : Level). l.priority) (cond b (Some level) (find (has_source (Signal s)) rest))
      by true = refl
      by false = same

-- a signal's priority, by its level
pub priority_is : (levels : List Level) (s : ℕ) → priority_for (priorities_in levels) s ≡ priority_in levels (Signal s)
priority_is [] s = refl
priority_is (level ∷ rest) s = at_source s level rest (priority_is rest s) level.source refl

-- a source that has a priority has room
pub has_room : (levels : List Level) (q : Queued) (source : PrioSource) → q.priorities ≡ priorities_in levels → HasPriority q source → HasRoom levels source
has_room levels q (Fixed f) is h = tt
has_room levels q (Signal s) is h = subst (λ (o : Option Priority). IsSome o) (ap (λ ps. priority_for ps s) is ∙ priority_is levels s) h

some_unwrapped : (o : Option Priority) → IsSome o → o ≡ Some (unwrap_or o UserVisible)
some_unwrapped None h = absurd (cc)
some_unwrapped (Some p) h = refl

pub priority_there : (levels : List Level) (source : PrioSource) → ((f : Priority) → priority_in levels (Fixed f) ≡ Some f) → HasRoom levels source → priority_in levels source ≡ Some (unwrap_or (priority_in levels source) UserVisible)
priority_there levels (Fixed f) fixed h = fixed f ∙ ap (λ o. Some (unwrap_or o UserVisible)) (sym (fixed f))
priority_there levels (Signal s) fixed h = some_unwrapped (priority_in levels (Signal s)) h
