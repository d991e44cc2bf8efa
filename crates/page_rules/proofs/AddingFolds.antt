-- Open folds only add lines: with other events before theirs they come to the same.
use Rattle.std.proofs.Common.{◌≡◌, ℕ, zero, suc, Bool, true, false, cond, List, [], ◌∷◌, Option, Some, None, refl, ap, ◌∙◌, ◌||◌}
use Rattle.std.specs.Prelude.{codes}
use Rattle.page_types.specs.Values.{Value, SignalValue}
use Rattle.page_types.specs.Events.{Stamped, Ret}
use Rattle.page_types.specs.declared.Priority.{Priority}
use Rattle.page_parts.specs.Kinds.{Func}
use Rattle.page_parts.specs.AbortGraph.{marked}
use Rattle.page_parts.specs.TaskSignals.{priority_of, is_changing, followers}
use Rattle.page_parts.specs.Listeners.{AtSignal, snapshot, is_listening}
use Rattle.lang_meaning.specs.HostSteps.{CallbackEnd, CallbackValue, CallbackThrow}
use Rattle.page_model.specs.State.{Page, the_registration}
use Rattle.page_model.specs.Invoke.{WhenReported, when_reported, call_begun, call_ended, thrown, report_before, report_after}
use Rattle.page_model.specs.PageSignals.{run_algorithms, reason_set, change_begun, change_ended, has_priority, priority_value}
use Rattle.page_model.specs.Additions.{after, Adds}
use Rattle.page_model.specs.Folds.{ChangePiece, ChangeOf, EndChange, Rest, AbortsLeft, ChangesLeft, Fold, Reached, begin_listener, next_listener, fire, aborts_from, changes_of, each_change, change_from, changes_from, rest_from, go_on, callback_ended, begin_abort, begin_change}
use Rattle.page_model.proofs.Adding.Lines.{run_algorithms-adds, reason_set-adds, report_before-adds, report_after-adds}
use Rattle.page_rules.specs.FoldActs.{reached_after}

module _ (es : List Stamped) where
  abbrev ReachedAdds : (Page → Reached) → Type 0
  ReachedAdds f = (p : Page) → f (after es p) ≡ reached_after es (f p)

  cond-adds : (b : Bool) (f g : Page → Reached) (p : Page) → f (after es p) ≡ reached_after es (f p) → g (after es p) ≡ reached_after es (g p)
      → cond b (f (after es p)) (g (after es p)) ≡ reached_after es (cond b (f p) (g p))
  cond-adds true f g p one other = one
  cond-adds false f g p one other = other

  begin_listener-adds : (o : Option Func) (when : WhenReported) (args : List Value) (rs : List ℕ) (rest : Rest) (next : Page → Reached) → ReachedAdds next → ReachedAdds (begin_listener o when args rs rest next)
  begin_listener-adds None when args rs rest next h p = h (call_ended Ret p)
  begin_listener-adds (Some f) when args rs rest next h p = refl

  pub next_listener-adds : (args : List Value) (rs : List ℕ) (rest : Rest) (next : Page → Reached) → ReachedAdds next → ReachedAdds (next_listener args rs rest next)
  next_listener-adds args [] rest next h p = h p
  next_listener-adds args (r ∷ rs) rest next h p =
      let called : Page → Reached = λ q. begin_listener (the_registration q r).callback (when_reported (the_registration q r).role) args rs rest (next_listener args rs rest next) (call_begun r q) in
      cond-adds (is_listening r p.listeners) called (next_listener args rs rest next) p
      (begin_listener-adds (the_registration p r).callback (when_reported (the_registration p r).role) args rs rest (next_listener args rs rest next) (next_listener-adds args rs rest next h) (call_begun r p))
      (next_listener-adds args rs rest next h p)

  fire-adds : (s : ℕ) (name : List ℕ) (args : List Value) (rest : Rest) (next : Page → Reached) → ReachedAdds next → ReachedAdds (fire s name args rest next)
  fire-adds s name args rest next h p = next_listener-adds args (snapshot (AtSignal s) name p.listeners) rest next h p

  pub aborts_from-adds : (ss : List ℕ) → ReachedAdds (aborts_from ss)
  aborts_from-adds [] p = refl
  aborts_from-adds (s ∷ ss) p =
      ap (fire s (codes "abort") (SignalValue s ∷ []) (AbortsLeft ss) (aborts_from ss)) (run_algorithms-adds es s p)
      ∙ fire-adds s (codes "abort") (SignalValue s ∷ []) (AbortsLeft ss) (aborts_from ss) (aborts_from-adds ss) (run_algorithms s p)

  each_change-adds : (one : ℕ → List ChangePiece → (Page → Reached) → Page → Reached) (chain : ℕ)
      → ((s : ℕ) (more : List ChangePiece) (next : Page → Reached) → ReachedAdds next → ReachedAdds (one s more next))
      → (ss : List ℕ) (more : List ChangePiece) (next : Page → Reached) → ReachedAdds next → ReachedAdds (each_change one chain ss more next)
  each_change-adds one chain adds [] more next h p = h p
  each_change-adds one chain adds (s ∷ ss) more next h p = adds s (changes_of chain ss more) (each_change one chain ss more next) (each_change-adds one chain adds ss more next h) p

  change_from-adds : (priority : Priority) (n s : ℕ) (more : List ChangePiece) (next : Page → Reached) → ReachedAdds next → ReachedAdds (change_from priority n s more next)
  change_from-adds priority zero s more next h p = h p
  change_from-adds priority (suc n) s more next h p =
      let ss = followers p.prios s in
      let rest : Rest = ChangesLeft priority (changes_of n ss (EndChange s ∷ more)) in
      let behind : Page → Reached = each_change (change_from priority n) n ss (EndChange s ∷ more) (λ q. next (change_ended s q)) in
      let told : Page → Reached = λ q. fire s (codes "prioritychange") (SignalValue s ∷ priority_value (priority_of p.prios s) ∷ []) rest behind (change_begun s priority q) in
      cond-adds (is_changing p.prios s || has_priority p.prios s priority) next told p (h p)
      (fire-adds s (codes "prioritychange") (SignalValue s ∷ priority_value (priority_of p.prios s) ∷ []) rest behind
      (each_change-adds (change_from priority n) n (change_from-adds priority n) ss (EndChange s ∷ more) (λ q. next (change_ended s q)) (λ q. h (change_ended s q)))
      (change_begun s priority p))

  pub changes_from-adds : (priority : Priority) (more : List ChangePiece) → ReachedAdds (changes_from priority more)
  changes_from-adds priority [] p = refl
  changes_from-adds priority (ChangeOf n s ∷ more) p = change_from-adds priority n s more (changes_from priority more) (changes_from-adds priority more) p
  changes_from-adds priority (EndChange s ∷ more) p = changes_from-adds priority more (change_ended s p)

  pub rest_from-adds : (rest : Rest) → ReachedAdds (rest_from rest)
  rest_from-adds (AbortsLeft ss) p = aborts_from-adds ss p
  rest_from-adds (ChangesLeft priority more) p = changes_from-adds priority more p

  -- a fold goes on
  pub go_on-adds : (fold : Fold) → ReachedAdds (go_on fold)
  go_on-adds fold p = next_listener-adds fold.args fold.listeners fold.rest (rest_from fold.rest) (rest_from-adds fold.rest) p

  -- a callback has ended
  pub callback_ended-adds : (when : WhenReported) (end : CallbackEnd) → Adds es (callback_ended when end)
  callback_ended-adds when (CallbackValue v) p = refl
  callback_ended-adds when (CallbackThrow v) p = ap (report_after when v) (report_before-adds es when v (thrown v p)) ∙ report_after-adds es when v (report_before when v (thrown v p))

  -- an abort and a change begin
  pub begin_abort-adds : (s : ℕ) (reason : Value) → ReachedAdds (begin_abort s reason)
  begin_abort-adds s reason p =
      ap (aborts_from (marked s p.signals)) (reason_set-adds es reason (marked s p.signals) p)
      ∙ aborts_from-adds (marked s p.signals) (reason_set reason (marked s p.signals) p)

  pub begin_change-adds : (priority : Priority) (chain s : ℕ) → ReachedAdds (begin_change priority chain s)
  begin_change-adds priority chain s p = changes_from-adds priority (ChangeOf chain s ∷ []) p
