-- The pieces of a priority change, one after another.
use Rattle.std.proofs.Common.{◌≡◌, ℕ, suc, List, [], ◌∷◌, refl, ap, cond, ◌||◌}
use Rattle.std.specs.Prelude.{codes}
use Rattle.page_types.specs.Values.{SignalValue}
use Rattle.page_types.specs.declared.Priority.{Priority}
use Rattle.page_parts.specs.TaskSignals.{is_changing, followers, priority_of}
use Rattle.page_parts.specs.Listeners.{AtSignal, snapshot}
use Rattle.page_model.specs.State.{Page}
use Rattle.page_model.specs.Invoke.{WhenReported}
use Rattle.page_model.specs.PageSignals.{change_begun, has_priority, priority_value}
use Rattle.page_model.specs.Folds.{ChangePiece, ChangeOf, EndChange, ChangesLeft, next_listener, changes_of, each_change, change_from, changes_from, go_on}

same_everywhere : {A B : Type 0} {f g : A → B} → ((x : A) → f x ≡ g x) → f ≡ g
same_everywhere h = λ i. λ x. h x i

-- the changes of several signals are those pieces
each-pieces : (priority : Priority) (n : ℕ) (ss : List ℕ) (more : List ChangePiece) (p : Page) → each_change (change_from priority n) n ss more (changes_from priority more) p ≡ changes_from priority (changes_of n ss more) p
each-pieces priority n [] more p = refl
each-pieces priority n (s ∷ ss) more p =
    ap (λ next. change_from priority n s (changes_of n ss more) next p) (same_everywhere (each-pieces priority n ss more))

-- a change that is not passed over is a fold: its listeners, its followers and its end
pub change-opens : (when : WhenReported) (priority : Priority) (n s : ℕ) (more : List ChangePiece) (p : Page) → changes_from priority (ChangeOf (suc n) s ∷ more) p
    ≡ cond (is_changing p.prios s || has_priority p.prios s priority) (changes_from priority more p)
    (go_on (record {
      when = when;
      args = SignalValue s ∷ priority_value (priority_of p.prios s) ∷ [];
      listeners = snapshot (AtSignal s) (codes "prioritychange") (change_begun s priority p).listeners;
      rest = ChangesLeft priority (changes_of n (followers p.prios s) (EndChange s ∷ more));
    }) (change_begun s priority p))
change-opens when priority n s more p =
    let listeners = snapshot (AtSignal s) (codes "prioritychange") (change_begun s priority p).listeners in
    let pieces = changes_of n (followers p.prios s) (EndChange s ∷ more) in
    ap (λ next. cond (is_changing p.prios s || has_priority p.prios s priority) (changes_from priority more p)
    (next_listener (SignalValue s ∷ priority_value (priority_of p.prios s) ∷ []) listeners (ChangesLeft priority pieces) next (change_begun s priority p)))
    (same_everywhere (each-pieces priority n (followers p.prios s) (EndChange s ∷ more)))
