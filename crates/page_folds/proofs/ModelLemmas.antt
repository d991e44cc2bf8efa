-- The steps of a fold are those that a page takes.
use Rattle.std.proofs.Common.{◌≡◌, ℕ, zero, suc, ◌-◌, Bool, true, false, cond, ◌||◌, List, [], ◌∷◌, length, Option, Some, None, refl, ap, sym, ◌∙◌, arith}
use Rattle.std.specs.Prelude.{◌==◌, codes, option_map, unwrap_or, slice_get, slice_set}
use Rattle.std.proofs.lemmas.Bool.Decides.{nat_tests}
use Rattle.page_types.specs.Values.{Value, UnitValue, SignalValue}
use Rattle.page_types.specs.Events.{Ret}
use Rattle.page_types.specs.declared.Priority.{Priority}
use Rattle.page_parts.specs.Kinds.{Func}
use Rattle.page_parts.specs.Words.{is_there}
use Rattle.page_parts.specs.AbortGraph.{SignalRecord, Signals, fresh_signal, the_signal, reason_of, with_algorithms}
use Rattle.page_parts.specs.TaskSignals.{PrioRecord, Prios, same_priority, record_of, priority_of, is_changing, followers, changed_at, ended}
use Rattle.page_parts.specs.Listeners.{Listener, AtSignal, snapshot, is_listening}
use Rattle.page_model.specs.State.{Page, the_registration}
use Rattle.page_model.specs.Invoke.{when_reported, call_begun, call_ended}
use Rattle.page_model.specs.PageSignals.{abort_registrations, run_algorithms, reason_value, priority_value, has_priority}
use Rattle.page_model.specs.PageSignals as page
use Rattle.page_model.specs.Folds.{ChangePiece, ChangeOf, EndChange, Rest, AbortsLeft, ChangesLeft, Reached, begin_listener, next_listener, fire, changes_of, each_change, rest_from}
use Rattle.page_model.specs.Folds as model
use Rattle.page_model.specs.FoldBounds.{HasRecord, CanChange}
use Rattle.page_events.specs.Dispatching.{next_listening, behind_next}
use Rattle.page_events.specs.declared.target.Target.{Target}
use Rattle.page_events.specs.declared.target.Target.TheVariants.{Signal}
use Rattle.page_folds.specs.declared.step.FoldStep.{FoldStep}
use Rattle.page_folds.specs.declared.step.FoldStep.TheVariants as step
use Rattle.page_folds.specs.Steps.{Parts, Stage, Between, Algorithms, ToTell, ToFire, Calling, OpenFold, listener_next, stage_next, or_then, algorithms_taken, aborts_from, before_change, change_from, changes_from, change_begun, change_ended}
use Rattle.page_folds.specs.Steps as steps
use Rattle.page_folds.specs.OfModel.{page_with, Kind, OfDispatch, OfAbort, OfChange, arguments_of, stage_meaning, step_meaning, came_meaning, HaveReason, Fits, StepIs, DispatchIs, AbortIs, ChangeIs}

-- ---- a stage

-- what comes after listeners may be told in another way
next-same : (args : List Value) (left : List ℕ) (rest : Rest) (next other : Page → Reached) → ((p : Page) → next p ≡ other p)
    → (p : Page) → next_listener args left rest next p ≡ next_listener args left rest other p
next-same args [] rest next other same p = same p
next-same args (r ∷ left) rest next other same p =
    by (is_listening r p.listeners) (the_registration p r).callback (next-same args left rest next other same)
  where
    by : (b : Bool) (f : Option Func) → ((q : Page) → next_listener args left rest next q ≡ next_listener args left rest other q)
        → cond b (begin_listener f (when_reported (the_registration p r).role) args left rest (next_listener args left rest next) (call_begun r p)) (next_listener args left rest next p)
        ≡ cond b (begin_listener f (when_reported (the_registration p r).role) args left rest (next_listener args left rest other) (call_begun r p)) (next_listener args left rest other p)
    by true None again = again (call_ended Ret (call_begun r p))
    by true (Some f) again = refl
    by false f again = again p

-- a step and the fold after it, or what comes where there is none
abbrev or_meaning : Kind → Option (FoldStep × Stage) → Rest → Page → Reached
or_meaning kind None rest p = rest_from rest p
or_meaning kind (Some a) rest p = step_meaning kind a.0 (record { stage = a.1; rest = rest }) p

listener_next-at : (ls : List Listener) (target : Target) (r : ℕ) (left : List ℕ) (b : Bool) → is_listening r ls ≡ b
    → listener_next ls target (r ∷ left) ≡ cond b (Some (step.Listener target r, Calling target left)) (listener_next ls target left)
listener_next-at ls target r left b e =
    ap (λ c. elim (cond c (Some r) (next_listening ls left)) as (λ _. Option (FoldStep × Stage)) [ None ↦ None | Some x ↦ Some (step.Listener target x, Calling target (cond c left (behind_next ls left))) ]) e
    ∙ by b
  where
    by : (c : Bool) → elim (cond c (Some r) (next_listening ls left)) as (λ _. Option (FoldStep × Stage)) [ None ↦ None | Some x ↦ Some (step.Listener target x, Calling target (cond c left (behind_next ls left))) ]
        ≡ cond c (Some (step.Listener target r, Calling target left)) (listener_next ls target left)
    by true = refl
    by false = refl

listener-is : (kind : Kind) (target : Target) (left : List ℕ) (rest : Rest) (p : Page)
    → next_listener (arguments_of kind target) left rest (rest_from rest) p ≡ or_meaning kind (listener_next p.listeners target left) rest p
listener-is kind target [] rest p = refl
listener-is kind target (r ∷ left) rest p =
    by (is_listening r p.listeners) (listener-is kind target left rest p)
    ∙ sym (ap (λ o. or_meaning kind o rest p) (listener_next-at p.listeners target r left (is_listening r p.listeners) refl))
  where
    by : (b : Bool) → next_listener (arguments_of kind target) left rest (rest_from rest) p ≡ or_meaning kind (listener_next p.listeners target left) rest p
        → cond b
        (begin_listener
        (the_registration p r).callback
        (when_reported (the_registration p r).role)
        (arguments_of kind target)
        left
        rest
        (next_listener (arguments_of kind target) left rest (rest_from rest))
        (call_begun r p))
        (next_listener (arguments_of kind target) left rest (rest_from rest) p)
        ≡ or_meaning kind (cond b (Some (step.Listener target r, Calling target left)) (listener_next p.listeners target left)) rest p
    by true again = refl
    by false again = again

stage-is : (kind : Kind) (stage : Stage) (rest : Rest) (p : Page) → stage_meaning kind stage rest p ≡ or_meaning kind (stage_next p.listeners stage) rest p
stage-is kind Between rest p = refl
stage-is kind (Algorithms s []) rest p = listener-is kind (Signal s) (snapshot (AtSignal s) (codes "abort") p.listeners) rest p
stage-is kind (Algorithms s (a ∷ left)) rest p = refl
stage-is kind (ToTell s before) rest p = refl
stage-is kind (ToFire s) rest p = listener-is kind (Signal s) (snapshot (AtSignal s) (codes "prioritychange") p.listeners) rest p
stage-is kind (Calling target left) rest p = listener-is kind target left rest p

-- ---- aborts

same_place : {X Y : Type 0} (f : X → Y) (xs : List X) (i j : ℕ) (x d : X) → f x ≡ f (unwrap_or (slice_get xs i) d) → f (unwrap_or (slice_get (slice_set xs i x) j) d) ≡ f (unwrap_or (slice_get xs j) d)
same_place f [] i j x d e = refl
same_place f (y ∷ xs) zero zero x d e = e
same_place f (y ∷ xs) zero (suc j) x d e = refl
same_place f (y ∷ xs) (suc i) zero x d e = refl
same_place f (y ∷ xs) (suc i) (suc j) x d e = same_place f xs i j x d e

-- algorithms that are taken leave the reasons
reason-kept : (ss : Signals Value) (s t : ℕ) → reason_of (with_algorithms s [] ss) t ≡ reason_of ss t
reason-kept ss zero t = refl
reason-kept ss (suc s) zero = refl
reason-kept ss (suc s) (suc t) =
    same_place (λ (r : SignalRecord Value). r.reason) ss s t (record (the_signal ss (suc s)) { algorithms = [] }) fresh_signal refl

-- what comes after changes in a row may be told in another way, where it may after each
each-same : (priority : Priority) (n : ℕ)
    → ((s : ℕ) (more : List ChangePiece) (next other : Page → Reached) → ((q : Page) → next q ≡ other q) → (q : Page) → model.change_from priority n s more next q ≡ model.change_from priority n s more other q)
    → (ss : List ℕ) (more : List ChangePiece) (next other : Page → Reached) → ((q : Page) → next q ≡ other q)
    → (q : Page) → each_change (model.change_from priority n) n ss more next q ≡ each_change (model.change_from priority n) n ss more other q
each-same priority n one [] more next other same q = same q
each-same priority n one (s ∷ ss) more next other same q = one s (changes_of n ss more) _ _ (each-same priority n one ss more next other same) q

-- what comes after a change may be told in another way
change-same : (priority : Priority) (n s : ℕ) (more : List ChangePiece) (next other : Page → Reached) → ((q : Page) → next q ≡ other q)
    → (q : Page) → model.change_from priority n s more next q ≡ model.change_from priority n s more other q
change-same priority zero s more next other same q = same q
change-same priority (suc n) s more next other same q =
    by (is_changing q.prios s || has_priority q.prios s priority)
    (each-same priority n (change-same priority n) (followers q.prios s) (EndChange s ∷ more) (λ r. next (page.change_ended s r)) (λ r. other (page.change_ended s r)) (λ r. same (page.change_ended s r)))
  where
    by : (b : Bool)
        → ((r : Page) → each_change (model.change_from priority n) n (followers q.prios s) (EndChange s ∷ more) (λ r. next (page.change_ended s r)) r
        ≡ each_change (model.change_from priority n) n (followers q.prios s) (EndChange s ∷ more) (λ r. other (page.change_ended s r)) r)
        → cond b (next q) (fire s (codes "prioritychange") (SignalValue s ∷ priority_value (priority_of q.prios s) ∷ []) (ChangesLeft priority (changes_of n (followers q.prios s) (EndChange s ∷ more)))
        (each_change (model.change_from priority n) n (followers q.prios s) (EndChange s ∷ more) (λ r. next (page.change_ended s r))) (page.change_begun s priority q))
        ≡ cond b (other q) (fire s (codes "prioritychange") (SignalValue s ∷ priority_value (priority_of q.prios s) ∷ []) (ChangesLeft priority (changes_of n (followers q.prios s) (EndChange s ∷ more)))
        (each_change (model.change_from priority n) n (followers q.prios s) (EndChange s ∷ more) (λ r. other (page.change_ended s r))) (page.change_begun s priority q))
    by true again = same q
    by false again =
        next-same (SignalValue s ∷ priority_value (priority_of q.prios s) ∷ []) (snapshot (AtSignal s) (codes "prioritychange") (page.change_begun s priority q).listeners) _ _ _ again (page.change_begun s priority q)

-- a signal has a priority where one is changed
signal-kept : (f : PrioRecord → PrioRecord) → ((r : PrioRecord) → (f r).signal ≡ r.signal) → (r : PrioRecord) (b : Bool) → (cond b (f r) r).signal ≡ r.signal
signal-kept f same r true = same r
signal-kept f same r false = refl

record-kept : (s : ℕ) (f : PrioRecord → PrioRecord) → ((r : PrioRecord) → (f r).signal ≡ r.signal) → (ps : Prios) (t : ℕ) → HasRecord ps t → HasRecord (changed_at s f ps) t
record-kept s f same [] t h = h
record-kept s f same (r ∷ rs) t h = by (record-kept s f same rs t) (r.signal == t) refl h
  where
    by : (HasRecord rs t → HasRecord (changed_at s f rs) t) → (b : Bool) → (r.signal == t) ≡ b → HasRecord (r ∷ rs) t → HasRecord (changed_at s f (r ∷ rs)) t
    by again true e h = rw (signal-kept f same r (r.signal == s), e) refl
    by again false e h = rw (signal-kept f same r (r.signal == s), e) (again (rw e at h))

can-kept : (s : ℕ) (ps : Prios) (more : List ChangePiece) → CanChange ps more → CanChange (ended s ps) more
can-kept s ps [] h = tt
can-kept s ps (ChangeOf n t ∷ more) h = (record-kept s (λ r. record r { changing = false }) (λ r. refl) ps t h.0, can-kept s ps more h.1)
can-kept s ps (EndChange t ∷ more) h = can-kept s ps more h

priority-there : (o : Option PrioRecord) → is_there o ≡ true → is_there (option_map (λ (r : PrioRecord). r.priority) o) ≡ true
priority-there None e = cc
priority-there (Some r) e = refl

none_passes : (z a b : Bool) (o : Option Priority) → z ≡ false → a ≡ false → b ≡ false → cond (z || a || b) None o ≡ o
none_passes true a b o e f g = cc
none_passes false true b o e f g = cc
none_passes false false true o e f g = cc
none_passes false false false o e f g = refl

-- a signal that has a priority has a record, and then there is one
record-there : (o : Option PrioRecord) (own : Priority) → option_map (λ (r : PrioRecord). r.priority) o ≡ Some own → is_there o ≡ true
record-there None own e = cc
record-there (Some r) own e = refl

some-there : (ps : Prios) (s : ℕ) (own : Priority) → priority_of ps s ≡ Some own → length ps ≡ suc (length ps - 1)
some-there [] s own e = cc
some-there (r ∷ rs) s own e = omega arith

module _ (p : Page) where
  abbrev at : Parts Value → Page
  at ps = page_with ps p

  value-kept : (ps : Parts Value) (s t : ℕ) → reason_value (at (algorithms_taken s ps)) t ≡ reason_value (at ps) t
  value-kept ps s t = ap (λ o. unwrap_or o UnitValue) (reason-kept ps.signals s t)

  have-kept : (reason : Value) (ps : Parts Value) (s : ℕ) (ss : List ℕ) → HaveReason reason (at ps) ss → HaveReason reason (at (algorithms_taken s ps)) ss
  have-kept reason ps s [] h = tt
  have-kept reason ps s (t ∷ ss) h = (value-kept ps s t ∙ h.0, have-kept reason ps s ss h.1)

  -- the algorithms of a signal are run with the reason
  algorithms-are : (reason : Value) (ps : Parts Value) (s : ℕ) → reason_value (at ps) s ≡ reason
      → run_algorithms s (at ps) ≡ abort_registrations reason (the_signal ps.signals s).algorithms (at (algorithms_taken s ps))
  algorithms-are reason ps s h =
      ap (λ r. abort_registrations r (the_signal ps.signals s).algorithms (at (algorithms_taken s ps))) h

  pub aborts-are : (reason : Value) (ss : List ℕ) (ps : Parts Value) → HaveReason reason (at ps) ss
      → model.aborts_from ss (at ps) ≡ came_meaning (OfAbort reason) (aborts_from ss ps) p
  aborts-are reason [] ps h = refl
  aborts-are reason (s ∷ ss) ps h =
      let own = Algorithms s (the_signal ps.signals s).algorithms in
      ap (fire s (codes "abort") (SignalValue s ∷ []) (AbortsLeft ss) (model.aborts_from ss)) (algorithms-are reason ps s h.0)
      ∙ stage-is (OfAbort reason) own (AbortsLeft ss) (at (algorithms_taken s ps))
      ∙ by (stage_next ps.listeners own) (aborts-are reason ss (algorithms_taken s ps) (have-kept reason ps s ss h.1))
    where
      by : (o : Option (FoldStep × Stage)) → model.aborts_from ss (at (algorithms_taken s ps)) ≡ came_meaning (OfAbort reason) (aborts_from ss (algorithms_taken s ps)) p
          → or_meaning (OfAbort reason) o (AbortsLeft ss) (at (algorithms_taken s ps))
          ≡ came_meaning (OfAbort reason) (or_then o (AbortsLeft ss) (aborts_from ss) (algorithms_taken s ps)) p
      by None again = again
      by (Some a) again = refl

  -- ---- changes

  each-is : (priority : Priority) (n : ℕ) (ss : List ℕ) (more : List ChangePiece) (next : Page → Reached) → ((q : Page) → next q ≡ model.changes_from priority more q)
      → (q : Page) → each_change (model.change_from priority n) n ss more next q ≡ model.changes_from priority (changes_of n ss more) q
  each-is priority n [] more next same q = same q
  each-is priority n (s ∷ ss) more next same q = change-same priority n s (changes_of n ss more) _ _ (each-is priority n ss more next same) q

  change-is : (last priority : Priority) (n s : ℕ) (more : List ChangePiece) (ps : Parts Value) → HasRecord ps.prios s
      → model.changes_from priority more (at ps) ≡ came_meaning (OfChange last) (changes_from priority more ps) p
      → model.changes_from priority (ChangeOf (suc n) s ∷ more) (at ps) ≡ came_meaning (OfChange last) (changes_from priority (ChangeOf (suc n) s ∷ more) ps) p
  change-is last priority n s more ps h again =
      by (suc n == 0) (grind (arith, nat_tests)) (is_changing ps.prios s) (has_priority ps.prios s priority) (priority_of ps.prios s) refl (priority-there (record_of ps.prios s) h)
    where
      by : (z : Bool) → z ≡ false → (a b : Bool) (o : Option Priority) → priority_of ps.prios s ≡ o → is_there o ≡ true
          → cond (a || b) (model.changes_from priority more (at ps))
          (fire s (codes "prioritychange") (SignalValue s ∷ priority_value (priority_of ps.prios s) ∷ []) (ChangesLeft priority (changes_of n (followers ps.prios s) (EndChange s ∷ more)))
          (each_change (model.change_from priority n) n (followers ps.prios s) (EndChange s ∷ more) (λ q. model.changes_from priority more (page.change_ended s q))) (page.change_begun s priority (at ps)))
          ≡ came_meaning (OfChange last) (change_from (cond (z || a || b) None o) priority (suc n) s more (changes_from priority more) ps) p
      by true e a b o at_o there = cc
      by false e true b o at_o there = again
      by false e false true o at_o there = again
      by false e false false None at_o there = cc
      by false e false false (Some before) at_o there =
          let begun_at = page.change_begun s priority (at ps) in
          let ss = followers ps.prios s in
          let heard_by = snapshot (AtSignal s) (codes "prioritychange") ps.listeners in
          let less : n ≡ suc n - 1 = omega arith in
          ap (λ (x : Option Priority). next_listener (SignalValue s ∷ priority_value x ∷ []) heard_by (ChangesLeft priority (changes_of n ss (EndChange s ∷ more)))
          (each_change (model.change_from priority n) n ss (EndChange s ∷ more) (λ q. model.changes_from priority more (page.change_ended s q))) begun_at) at_o
          ∙ next-same (SignalValue s ∷ priority_value (Some before) ∷ []) heard_by (ChangesLeft priority (changes_of n ss (EndChange s ∷ more))) _ (model.changes_from priority (changes_of n ss (EndChange s ∷ more)))
          (each-is priority n ss (EndChange s ∷ more) _ (λ q. refl)) begun_at
          ∙ ap (λ (m : ℕ). next_listener (SignalValue s ∷ priority_value (Some before) ∷ []) heard_by (ChangesLeft priority (changes_of m ss (EndChange s ∷ more)))
          (model.changes_from priority (changes_of m ss (EndChange s ∷ more))) begun_at) less

  changes-are : (last priority : Priority) (more : List ChangePiece) (ps : Parts Value) → CanChange ps.prios more
      → model.changes_from priority more (at ps) ≡ came_meaning (OfChange last) (changes_from priority more ps) p
  changes-are last priority [] ps h = refl
  changes-are last priority (ChangeOf zero s ∷ more) ps h = changes-are last priority more ps h.1
  changes-are last priority (ChangeOf (suc n) s ∷ more) ps h = change-is last priority n s more ps h.0 (changes-are last priority more ps h.1)
  changes-are last priority (EndChange s ∷ more) ps h = changes-are last priority more (change_ended s ps) (can-kept s ps.prios more h)

  -- ---- a fold

  rest-is : (kind : Kind) (rest : Rest) (ps : Parts Value) → Fits kind rest (at ps) → rest_from rest (at ps) ≡ came_meaning kind (steps.rest_from rest ps) p
  rest-is (OfDispatch args) (AbortsLeft []) ps h = refl
  rest-is (OfDispatch args) (AbortsLeft (s ∷ ss)) ps h = absurd h
  rest-is (OfDispatch args) (ChangesLeft priority more) ps h = absurd h
  rest-is (OfAbort reason) (AbortsLeft ss) ps h = aborts-are reason ss ps h
  rest-is (OfAbort reason) (ChangesLeft priority more) ps h = absurd h
  rest-is (OfChange last) (AbortsLeft ss) ps h = absurd h
  rest-is (OfChange last) (ChangesLeft priority more) ps h = changes-are last priority more ps h

  pub step-is : (kind : Kind) (fold : OpenFold) (ps : Parts Value) → StepIs kind fold ps p
  step-is kind fold ps h =
      stage-is kind fold.stage fold.rest (at ps) ∙ by (stage_next ps.listeners fold.stage) (rest-is kind fold.rest ps h)
    where
      by : (o : Option (FoldStep × Stage)) → rest_from fold.rest (at ps) ≡ came_meaning kind (steps.rest_from fold.rest ps) p
          → or_meaning kind o fold.rest (at ps) ≡ came_meaning kind (or_then o fold.rest (steps.rest_from fold.rest) ps) p
      by None again = again
      by (Some a) again = refl

  -- ---- how folds begin

  pub dispatch-is : (args : List Value) (target : Target) (name : List ℕ) (ps : Parts Value) → DispatchIs args target name ps p
  dispatch-is args target name ps = refl

  pub abort-is : (s : ℕ) (reason : Value) (ps : Parts Value) → AbortIs s reason ps p
  abort-is s reason ps = refl

  pub change-begins : (s : ℕ) (priority : Priority) (ps : Parts Value) → ChangeIs s priority ps p
  change-begins s priority ps own at_own other still =
      let n = length ps.prios - 1 in
      let chain = some-there ps.prios s own at_own in
      let not_zero : (length ps.prios == 0) ≡ false = grind (arith, nat_tests) in
      let differs : has_priority ps.prios s priority ≡ false = ap (λ (o : Option Priority). elim o as (λ _. Bool) [ None ↦ false | Some q ↦ same_priority q priority ]) at_own ∙ other in
      let begins : before_change (length ps.prios) ps.prios s priority ≡ Some own = none_passes (length ps.prios == 0) (is_changing ps.prios s) (has_priority ps.prios s priority) (priority_of ps.prios s) not_zero still differs ∙ at_own in
      ap (λ (m : ℕ). model.changes_from priority (ChangeOf m s ∷ []) (at ps)) chain
      ∙ change-is own priority n s [] ps (record-there (record_of ps.prios s) own at_own) refl
      ∙ ap (λ (m : ℕ). came_meaning (OfChange own) (changes_from priority (ChangeOf m s ∷ []) ps) p) (sym chain)
      ∙ ap (λ (o : Option Priority). came_meaning (OfChange own) (change_from o priority (length ps.prios) s [] (changes_from priority []) ps) p) begins
