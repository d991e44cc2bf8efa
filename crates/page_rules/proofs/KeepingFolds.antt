-- The page as a host leaves its time and what else stays; by `busy` its time goes on.
use Rattle.std.proofs.Common.{◌≡◌, ℕ, zero, suc, ◌+◌, ◌≤◌, arith, Bool, true, false, cond, ◌||◌, List, [], ◌∷◌, Option, Some, None, refl, ℤ, pos, negsuc, length, leb-true, le_refl}
use Rattle.std.specs.Prelude.{codes, nat_le}
use Rattle.page_types.specs.Values.{Value, SignalValue}
use Rattle.page_types.specs.declared.FaultName.TheVariants.{TypeError, RangeError, NotAllowedError}
use Rattle.page_types.specs.declared.Op.{Op}
use Rattle.page_types.specs.declared.Op.TheVariants.{Busy, AbortOp, SetPriority}
use Rattle.page_types.specs.declared.Priority.{Priority}
use Rattle.page_types.specs.Events.{Ret}
use Rattle.page_parts.specs.Words.{is_there, not_below_zero}
use Rattle.page_parts.specs.Kinds.{Func, int_in, controller_in}
use Rattle.page_parts.specs.AbortGraph.{marked}
use Rattle.page_parts.specs.TaskSignals.{priority_of, is_changing, followers}
use Rattle.page_parts.specs.Listeners.{AtSignal, snapshot, is_listening}
use Rattle.lang_meaning.specs.Machine.{Done, Gives, Throws, Returns, OutOfFuel, branch, given, throw_fault}
use Rattle.lang_meaning.specs.PureOperations.{argument}
use Rattle.lang_meaning.specs.HostSteps.{CallbackEnd, CallbackValue, CallbackThrow, Stepped, Ask, AskOp, AskResume, on_ask, is_busy}
use Rattle.page_model.specs.State.{Page, the_registration}
use Rattle.page_model.specs.Invoke.{WhenReported, when_reported, call_begun, call_ended, thrown, report_before, in_script}
use Rattle.page_model.specs.PageSignals.{run_algorithms, reason_set, change_begun, change_ended, has_priority, priority_value}
use Rattle.page_model.specs.Operations.{priority_in, reason_given, int_within, does, busy_for, operation, may_operate}
use Rattle.page_model.specs.Folds.{ChangePiece, ChangeOf, EndChange, Rest, AbortsLeft, ChangesLeft, Fold, Reached, Finished, Calls, begin_listener, next_listener, fire, aborts_from, changes_of, each_change, change_from, changes_from, rest_from, go_on, callback_ended, begin_abort, begin_change}
use Rattle.page_model.specs.PageHost.{Hosting, reached_step, resume_innermost, step_fault, step_given, step_abort, step_change_by, step_change, bare, no_calls, done_step, step_op, step_known, page_rules}
use Rattle.page_model.proofs.Bounding.Bounded.{and-second}
use Rattle.page_rules.specs.Steady.{StaysInScript, TakesAtMost, SteadyInScript, asks_busy, asked_page, reached_page}
use Rattle.page_rules.proofs.KeepingPages.{Lasting, lasting, lasting-steady, Has, DoneHas, Keeps, run_algorithms-keeps, reason_set-keeps, report_before-keeps, report_after-keeps}
use Rattle.page_rules.proofs.KeepingOperations.{operations-keep}

-- ---- Open folds

module _ (kept : Lasting) where
  abbrev ReachedKeeps : (Page → Reached) → Type 0
  ReachedKeeps f = (p : Page) → Has kept p → Has kept (reached_page (f p))

  chosen-keeps : (b : Bool) (r other : Reached) → Has kept (reached_page r) → Has kept (reached_page other) → Has kept (reached_page (cond b r other))
  chosen-keeps true r other h k = h
  chosen-keeps false r other h k = k

  begin_listener-keeps : (o : Option Func) (when : WhenReported) (args : List Value) (rs : List ℕ) (rest : Rest) (next : Page → Reached) → ReachedKeeps next → ReachedKeeps (begin_listener o when args rs rest next)
  begin_listener-keeps None when args rs rest next k p h = k (call_ended Ret p) h
  begin_listener-keeps (Some f) when args rs rest next k p h = h

  next_listener-keeps : (args : List Value) (rs : List ℕ) (rest : Rest) (next : Page → Reached) → ReachedKeeps next → ReachedKeeps (next_listener args rs rest next)
  next_listener-keeps args [] rest next k p h = k p h
  next_listener-keeps args (r ∷ rs) rest next k p h =
      let called : Page → Reached = λ q. begin_listener (the_registration p r).callback (when_reported (the_registration p r).role) args rs rest (next_listener args rs rest next) q in
      chosen-keeps (is_listening r p.listeners) (called (call_begun r p)) (next_listener args rs rest next p)
      (begin_listener-keeps (the_registration p r).callback (when_reported (the_registration p r).role) args rs rest (next_listener args rs rest next) (next_listener-keeps args rs rest next k) (call_begun r p) h)
      (next_listener-keeps args rs rest next k p h)

  fire-keeps : (s : ℕ) (name : List ℕ) (args : List Value) (rest : Rest) (next : Page → Reached) → ReachedKeeps next → ReachedKeeps (fire s name args rest next)
  fire-keeps s name args rest next k p h = next_listener-keeps args (snapshot (AtSignal s) name p.listeners) rest next k p h

  aborts_from-keeps : (ss : List ℕ) → ReachedKeeps (aborts_from ss)
  aborts_from-keeps [] p h = h
  aborts_from-keeps (s ∷ ss) p h = fire-keeps s (codes "abort") (SignalValue s ∷ []) (AbortsLeft ss) (aborts_from ss) (aborts_from-keeps ss) (run_algorithms s p) (run_algorithms-keeps kept s p h)

  each_change-keeps : (one : ℕ → List ChangePiece → (Page → Reached) → Page → Reached) (chain : ℕ)
      → ((s : ℕ) (more : List ChangePiece) (next : Page → Reached) → ReachedKeeps next → ReachedKeeps (one s more next))
      → (ss : List ℕ) (more : List ChangePiece) (next : Page → Reached) → ReachedKeeps next → ReachedKeeps (each_change one chain ss more next)
  each_change-keeps one chain keeps [] more next k p h = k p h
  each_change-keeps one chain keeps (s ∷ ss) more next k p h = keeps s (changes_of chain ss more) (each_change one chain ss more next) (each_change-keeps one chain keeps ss more next k) p h

  change_from-keeps : (priority : Priority) (n s : ℕ) (more : List ChangePiece) (next : Page → Reached) → ReachedKeeps next → ReachedKeeps (change_from priority n s more next)
  change_from-keeps priority zero s more next k p h = k p h
  change_from-keeps priority (suc n) s more next k p h =
      let ss = followers p.prios s in
      let rest : Rest = ChangesLeft priority (changes_of n ss (EndChange s ∷ more)) in
      let behind : Page → Reached = each_change (change_from priority n) n ss (EndChange s ∷ more) (λ q. next (change_ended s q)) in
      let args : List Value = SignalValue s ∷ priority_value (priority_of p.prios s) ∷ [] in
      chosen-keeps (is_changing p.prios s || has_priority p.prios s priority) (next p) (fire s (codes "prioritychange") args rest behind (change_begun s priority p)) (k p h)
      (fire-keeps s (codes "prioritychange") args rest behind
      (each_change-keeps (change_from priority n) n (change_from-keeps priority n) ss (EndChange s ∷ more) (λ q. next (change_ended s q)) (λ q h. k (change_ended s q) h))
      (change_begun s priority p) h)

  changes_from-keeps : (priority : Priority) (more : List ChangePiece) → ReachedKeeps (changes_from priority more)
  changes_from-keeps priority [] p h = h
  changes_from-keeps priority (ChangeOf n s ∷ more) p h = change_from-keeps priority n s more (changes_from priority more) (changes_from-keeps priority more) p h
  changes_from-keeps priority (EndChange s ∷ more) p h = changes_from-keeps priority more (change_ended s p) h

  rest_from-keeps : (rest : Rest) → ReachedKeeps (rest_from rest)
  rest_from-keeps (AbortsLeft ss) p h = aborts_from-keeps ss p h
  rest_from-keeps (ChangesLeft priority more) p h = changes_from-keeps priority more p h

  -- a fold goes on
  go_on-keeps : (fold : Fold) → ReachedKeeps (go_on fold)
  go_on-keeps fold p h = next_listener-keeps fold.args fold.listeners fold.rest (rest_from fold.rest) (rest_from-keeps fold.rest) p h

  -- a callback has ended
  callback_ended-keeps : (when : WhenReported) (end : CallbackEnd) → Keeps kept (callback_ended when end)
  callback_ended-keeps when (CallbackValue v) p h = h
  callback_ended-keeps when (CallbackThrow v) p h = report_after-keeps kept when v (report_before when v (thrown v p)) (report_before-keeps kept when v (thrown v p) h)

  -- an abort and a change begin
  begin_abort-keeps : (s : ℕ) (reason : Value) → ReachedKeeps (begin_abort s reason)
  begin_abort-keeps s reason p h = aborts_from-keeps (marked s p.signals) (reason_set reason (marked s p.signals) p) (reason_set-keeps kept reason (marked s p.signals) p h)

  begin_change-keeps : (priority : Priority) (chain s : ℕ) → ReachedKeeps (begin_change priority chain s)
  begin_change-keeps priority chain s p h = changes_from-keeps priority (ChangeOf chain s ∷ []) p h

  -- ---- Steps of the host

  abbrev StepHas : Stepped Hosting → Type 0
  StepHas s = Has kept s.host.page

  reached-keeps : (folds : List Fold) (r : Reached) → Has kept (reached_page r) → StepHas (reached_step folds r)
  reached-keeps folds (Finished p) h = h
  reached-keeps folds (Calls f fold p) h = h

  done-keeps : (folds : List Fold) (d : Done Page) → DoneHas kept d → StepHas (done_step folds d)
  done-keeps folds (Gives v m) h = h
  done-keeps folds (Throws v m) h = h
  done-keeps folds (Returns v m) h = h
  done-keeps folds (OutOfFuel m) h = h

  step_given-keeps : {X : Type 0} (folds : List Fold) (o : Option X) (p : Page) (next : X → Stepped Hosting) → Has kept p → ((x : X) → StepHas (next x)) → StepHas (step_given folds o p next)
  step_given-keeps folds None p next h k = h
  step_given-keeps folds (Some x) p next h k = k x

  choice-keeps : (b : Bool) (s other : Stepped Hosting) → StepHas s → StepHas other → StepHas (cond b s other)
  choice-keeps true s other h k = h
  choice-keeps false s other h k = k

  abort-keeps : (folds : List Fold) (c reason : Value) (p : Page) → Has kept p → StepHas (step_abort folds c reason p)
  abort-keeps folds c reason p h =
      step_given-keeps folds (controller_in c) p (λ s. reached_step folds (begin_abort s (reason_given reason) p)) h
      (λ s. reached-keeps folds (begin_abort s (reason_given reason) p) (begin_abort-keeps s (reason_given reason) p h))

  change_by-keeps : (folds : List Fold) (s : ℕ) (priority : Priority) (p : Page) → Has kept p → StepHas (step_change_by folds s priority p)
  change_by-keeps folds s priority p h =
      let begun : Stepped Hosting = reached_step folds (begin_change priority (length p.prios) s p) in
      choice-keeps (is_there (priority_of p.prios s)) (cond (is_changing p.prios s) (step_fault folds NotAllowedError p) begun) (step_fault folds TypeError p)
      (choice-keeps (is_changing p.prios s) (step_fault folds NotAllowedError p) begun h
      (reached-keeps folds (begin_change priority (length p.prios) s p) (begin_change-keeps priority (length p.prios) s p h)))
      h

  change-keeps : (folds : List Fold) (c v : Value) (p : Page) → Has kept p → StepHas (step_change folds c v p)
  change-keeps folds c v p h =
      step_given-keeps folds (controller_in c) p (λ s. step_given folds (priority_in v) p (λ priority. step_change_by folds s priority p)) h
      (λ s. step_given-keeps folds (priority_in v) p (λ priority. step_change_by folds s priority p) h (λ priority. change_by-keeps folds s priority p h))

  op-keeps : (folds : List Fold) (op : Op) → is_busy op ≡ false → (args : List Value) (p : Page) → Has kept p → StepHas (step_op folds op args p)
  op-keeps folds Busy e args p h = cc
  op-keeps folds AbortOp e args p h = abort-keeps folds (argument args 0) (argument args 1) p h
  op-keeps folds SetPriority e args p h = change-keeps folds (argument args 0) (argument args 1) p h
  op-keeps folds op e args p h = done-keeps folds (operation (in_script no_calls) op args (bare p)) (operations-keep kept (in_script no_calls) args (bare p) h op)

  known-keeps : (folds : List Fold) (op : Op) → is_busy op ≡ false → (args : List Value) (p : Page) → Has kept p → StepHas (step_known folds op args p)
  known-keeps folds op e args p h = choice-keeps (may_operate p op args) (step_op folds op args p) (step_fault folds TypeError p) (op-keeps folds op e args p h) h

  resume-keeps : (folds : List Fold) (end : CallbackEnd) (p : Page) → Has kept p → StepHas (resume_innermost folds end p)
  resume-keeps [] end p h = h
  resume-keeps (fold ∷ folds) end p h =
      reached-keeps folds (go_on fold (callback_ended fold.when end p)) (go_on-keeps fold (callback_ended fold.when end p) (callback_ended-keeps fold.when end p h))

  rules-keep : (ask : Ask) → asks_busy ask ≡ false → (h : Hosting) → Has kept h.page → StepHas (on_ask page_rules ask h)
  rules-keep (AskOp op args) e h k = known-keeps h.folds op e args h.page k
  rules-keep (AskResume ticket end) e h k = resume-keeps h.folds end h.page k

-- ---- What the time of a page is then

steadily : (p : Page) (r : Reached) → Has (lasting p) (reached_page r) → SteadyInScript p (reached_page r)
steadily p r h = lasting-steady p (reached_page r) h

pub begin_abort-steady : (s : ℕ) (reason : Value) (p : Page) → SteadyInScript p (reached_page (begin_abort s reason p))
begin_abort-steady s reason p = steadily p (begin_abort s reason p) (begin_abort-keeps (lasting p) s reason p refl)

pub begin_change-steady : (priority : Priority) (chain s : ℕ) (p : Page) → SteadyInScript p (reached_page (begin_change priority chain s p))
begin_change-steady priority chain s p = steadily p (begin_change priority chain s p) (begin_change-keeps (lasting p) priority chain s p refl)

pub callback_ended-steady : (when : WhenReported) (end : CallbackEnd) (p : Page) → SteadyInScript p (callback_ended when end p)
callback_ended-steady when end p = lasting-steady p (callback_ended when end p) (callback_ended-keeps (lasting p) when end p refl)

pub go_on-steady : (fold : Fold) (p : Page) → SteadyInScript p (reached_page (go_on fold p))
go_on-steady fold p = steadily p (go_on fold p) (go_on-keeps (lasting p) fold p refl)

pub ask-steady : (ask : Ask) (h : Hosting) → asks_busy ask ≡ false → SteadyInScript h.page (asked_page ask h)
ask-steady ask h e = lasting-steady h.page (asked_page ask h) (rules-keep (lasting h.page) ask e h refl)

-- ---- `busy`

-- what stays within a script, and at most 1,000,000,000 microseconds
abbrev pub Soon : Page → Page → Type 0
Soon p q = StaysInScript p q × TakesAtMost 1000000000 p q

pub time-stays : (p : Page) (t : ℕ) → StaysInScript p (record p { now = t })
time-stays p t = record {
  stays = record { form = refl; trace = refl; turns = refl; names = refl; refresh_period = refl; latencies = refl };
  level = refl;
  scheduling = refl;
  performing = refl;
  arrivals = refl;
  last_opportunity = refl;
  last_idle_start = refl;
  idle_period_end = refl;
  scheduling_states = refl;
}

soon-same : (p : Page) → Soon p p
soon-same p = (time-stays p p.now, record { later = le_refl p.now; soon = omega arith })

within : (n : ℤ) → int_within (pos 0) (pos 1000000000) n ≡ true → not_below_zero n ≤ 1000000000
within (pos n) e = leb-true n 1000000000 (and-second (nat_le 0 n) (nat_le n 1000000000) e)
within (negsuc n) e = omega arith

busy-soon : (folds : List Fold) (p : Page) (o : Option ℤ) → Soon p (done_step folds (given o TypeError (record (bare p) { fuel = 0 }) busy_for)).host.page
busy-soon folds p None = soon-same p
busy-soon folds p (Some n) = by (int_within (pos 0) (pos 1000000000) n) refl
  where
    by : (b : Bool) → int_within (pos 0) (pos 1000000000) n ≡ b → Soon p (done_step folds (branch b (record (bare p) { fuel = 0 }) (does (λ q. record q { now = q.now + not_below_zero n })) (throw_fault RangeError))).host.page
    by true e = let few = within n e in (time-stays p (p.now + not_below_zero n), record { later = omega arith; soon = omega (arith, few) })
    by false e = soon-same p

-- whatever the page is asked
steady-soon : (p q : Page) → SteadyInScript p q → Soon p q
steady-soon p q h = let same = h.now in (h.stays, record { later = omega (arith, same); soon = omega (arith, same) })

pub ask-soon : (ask : Ask) (h : Hosting) → Soon h.page (asked_page ask h)
ask-soon (AskOp Busy args) h = busy-soon h.folds h.page (int_in (argument args 0))
ask-soon (AskOp op args) h = steady-soon h.page _ (ask-steady (AskOp op args) h refl)
ask-soon (AskResume ticket end) h = steady-soon h.page _ (ask-steady (AskResume ticket end) h refl)
