-- The page as a host leaves all numbers given, and gives out values that are known.
use Rattle.std.proofs.Common.{ℕ, zero, suc, ◌||◌, Bool, true, false, cond, List, [], ◌∷◌, Option, Some, None, length, slice_get}
use Rattle.std.specs.Prelude.{codes}
use Rattle.page_types.specs.Values.{Value, UnitValue, SignalValue}
use Rattle.page_types.specs.declared.FaultName.{FaultName}
use Rattle.page_types.specs.declared.FaultName.TheVariants.{TypeError, NotAllowedError, AbortError}
use Rattle.page_types.specs.declared.Op.{Op}
use Rattle.page_types.specs.declared.Op.TheVariants.{AbortOp, SetPriority}
use Rattle.page_types.specs.declared.Priority.{Priority}
use Rattle.page_types.specs.declared.RegKind.TheVariants.{Listener as ListenerKind}
use Rattle.page_types.specs.Events.{Ret, Throw}
use Rattle.page_types.specs.Tree.{Program}
use Rattle.page_parts.specs.Words.{is_there}
use Rattle.page_parts.specs.Spelling.{spelled}
use Rattle.page_parts.specs.Kinds.{Func, is_unit, a_fault, controller_in}
use Rattle.page_parts.specs.AbortGraph.{marked}
use Rattle.page_parts.specs.TaskSignals.{priority_of, is_changing, followers}
use Rattle.page_parts.specs.Listeners.{AtSignal, snapshot, is_listening}
use Rattle.lang_meaning.specs.Machine.{Done, Gives, Throws, Returns, OutOfFuel}
use Rattle.lang_meaning.specs.PureOperations.{argument}
use Rattle.lang_meaning.specs.HostSteps.{HostStep, StepValue, StepThrow, StepInvoke, CallbackEnd, CallbackValue, CallbackThrow, Stepped, Ask, AskOp, AskResume, on_ask}
use Rattle.page_model.specs.State.{Page, OfKind, the_registration}
use Rattle.page_model.specs.Invoke.{WhenReported, BeforeCheckpoint, AfterCheckpoint, Never, when_reported, call_begun, call_ended, thrown, report_before, report_after, in_script}
use Rattle.page_model.specs.PageSignals.{run_algorithms, reason_set, change_begun, change_ended, has_priority, priority_value}
use Rattle.page_model.specs.Operations.{priority_in, reason_given, operation, may_operate}
use Rattle.page_model.specs.Folds.{ChangePiece, ChangeOf, EndChange, Rest, AbortsLeft, ChangesLeft, Fold, Reached, Finished, Calls, begin_listener, next_listener, fire, aborts_from, changes_of, each_change, change_from, changes_from, rest_from, go_on, callback_ended, begin_abort, begin_change}
use Rattle.page_model.specs.PageHost.{Hosting, reached_step, resume_innermost, step_fault, step_given, step_abort, step_change_by, step_change, bare, no_calls, done_step, step_op, step_known, page_rules}
use Rattle.page_model.specs.Numbers.{Each, IfThere, Made, made_by, Grows, IsGiven, IsKnown, AreKnown, IsFor}
use Rattle.async_segments.specs.OnPage.{PieceIsGiven, RestIsGiven, FoldIsGiven}
use Rattle.page_model.proofs.GivenNumbers.Growing.{Each-more, Each-get, unwrapped, Grows-same, Grows-then, signal-grows, values-grow, signals-grow, IsFor-grows, InSignals, InPrios, InListeners, Held, Onward, stays, onward-then}
use Rattle.page_model.proofs.GivenNumbers.Parts.{marked-given, followers-known, snapshot-given, controller_in-given}
use Rattle.page_model.proofs.GivenNumbers.Pages.{call_begun-held, call_ended-held, the_registration-given, run_algorithms-held, reason_set-held, change_begun-held, change_ended-held}
use Rattle.page_model.proofs.GivenNumbers.Evaluation.{keeping}
use Rattle.page_model.proofs.GivenNumbers.Runs.{priority_value-known, CallsGo, finish-goes, in_script-goes}
use Rattle.page_model.proofs.GivenNumbers.Operations.{operation-goes}
use Rattle.page_model.proofs.Holding.Evaluation.{Holds}

-- ---- open folds

-- what a fold came to
abbrev ReachedIsGiven : Made → Reached → Type 0
ReachedIsGiven n (Finished p) = Onward n p
ReachedIsGiven n (Calls f fold p) = Onward n p × AreKnown (made_by p) f.bound × FoldIsGiven (made_by p) fold

piece-grows : (n n' : Made) → Grows n n' → (piece : ChangePiece) → PieceIsGiven n piece → PieceIsGiven n' piece
piece-grows n n' g (ChangeOf chain s) h = signal-grows n n' g s h
piece-grows n n' g (EndChange s) h = tt

rest-grows : (n n' : Made) → Grows n n' → (rest : Rest) → RestIsGiven n rest → RestIsGiven n' rest
rest-grows n n' g (AbortsLeft ss) h = signals-grow n n' g ss h
rest-grows n n' g (ChangesLeft priority pieces) h = Each-more (PieceIsGiven n) (PieceIsGiven n') (piece-grows n n' g) pieces h

listeners-grow : (n n' : Made) → Grows n n' → (rs : List ℕ) → Each (IsFor (OfKind ListenerKind) n) rs → Each (IsFor (OfKind ListenerKind) n') rs
listeners-grow n n' g rs h = Each-more (IsFor (OfKind ListenerKind) n) (IsFor (OfKind ListenerKind) n') (IsFor-grows n n' g (OfKind ListenerKind)) rs h

pub fold-grows : (n n' : Made) → Grows n n' → (fold : Fold) → FoldIsGiven n fold → FoldIsGiven n' fold
fold-grows n n' g fold h = (values-grow n n' g fold.args h.0, listeners-grow n n' g fold.listeners h.1, rest-grows n n' g fold.rest h.2)

reached-wider : (n n' : Made) → Grows n n' → (r : Reached) → ReachedIsGiven n' r → ReachedIsGiven n r
reached-wider n n' g (Finished p) h = (Grows-then n n' (made_by p) g h.0, h.1)
reached-wider n n' g (Calls f fold p) h = ((Grows-then n n' (made_by p) g h.0.0, h.0.1), h.1, h.2)

-- from every page that is reached from where n was given out
abbrev Go : Made → (Page → Reached) → Type 0
Go n f = (p : Page) → Onward n p → ReachedIsGiven (made_by p) (f p)

chosen-go : (n : Made) (b : Bool) (r other : Reached) → ReachedIsGiven n r → ReachedIsGiven n other → ReachedIsGiven n (cond b r other)
chosen-go n true r other h k = h
chosen-go n false r other h k = k

-- a step to another page, and what is reached from there
onto : (n : Made) (f : Page → Reached) → Go n f → (p q : Page) → Onward n p → Onward (made_by p) q → ReachedIsGiven (made_by p) (f q)
onto n f go p q o k = reached-wider (made_by p) (made_by q) k.0 (f q) (go q (onward-then n p q o k))

begin_listener-go : (n : Made) (o : Option Func) (when : WhenReported) (args : List Value) (rs : List ℕ) (rest : Rest) (next : Page → Reached) → Go n next → (p : Page) → Onward n p →
    IfThere (λ f. AreKnown (made_by p) f.bound) o → Each (IsKnown n) args → Each (IsFor (OfKind ListenerKind) n) rs → RestIsGiven n rest → ReachedIsGiven (made_by p) (begin_listener o when args rs rest next p)
begin_listener-go n None when args rs rest next go p o b x y z = onto n next go p (call_ended Ret p) o (call_ended-held Ret p o.1)
begin_listener-go n (Some f) when args rs rest next go p o b x y z =
    (stays p o.1, b, (values-grow n (made_by p) o.0 args x, listeners-grow n (made_by p) o.0 rs y, rest-grows n (made_by p) o.0 rest z))

next_listener-go : (n : Made) (args : List Value) (rs : List ℕ) (rest : Rest) (next : Page → Reached) → Each (IsKnown n) args → Each (IsFor (OfKind ListenerKind) n) rs → RestIsGiven n rest → Go n next → Go n (next_listener args rs rest next)
next_listener-go n args [] rest next x y z go p o = go p o
next_listener-go n args (r ∷ rs) rest next x y z go p o =
    let later = next_listener-go n args rs rest next x y.1 z go in
    let called = call_begun r p in
    let k = call_begun-held r p o.1 (IsFor-grows n (made_by p) o.0 (OfKind ListenerKind) r y.0).registration in
    chosen-go (made_by p) (is_listening r p.listeners) (begin_listener (the_registration p r).callback (when_reported (the_registration p r).role) args rs rest (next_listener args rs rest next) called) (next_listener args rs rest next p)
    (begin_listener-go n (the_registration p r).callback (when_reported (the_registration p r).role) args rs rest (next_listener args rs rest next) later called (onward-then n p called o k) (the_registration-given p r o.1).callback x y.1 z)
    (later p o)

fire-go : (p : Page) → Held (made_by p) p → (s : ℕ) (name : List ℕ) (args : List Value) (rest : Rest) (next : Page → Reached) → Each (IsKnown (made_by p)) args → RestIsGiven (made_by p) rest → Go (made_by p) next → ReachedIsGiven (made_by p) (fire s name args rest next p)
fire-go p h s name args rest next x z go =
    next_listener-go (made_by p) args (snapshot (AtSignal s) name p.listeners) rest next x (snapshot-given (made_by p) (AtSignal s) name p.listeners (h InListeners)) z go p (stays p h)

aborts_from-go : (n : Made) (ss : List ℕ) → Each (IsGiven n.signals) ss → Go n (aborts_from ss)
aborts_from-go n [] x p o = stays p o.1
aborts_from-go n (s ∷ ss) x p o =
    let q = run_algorithms s p in
    let k = run_algorithms-held s p o.1 in
    let g = Grows-then n (made_by p) (made_by q) o.0 k.0 in
    let left = signals-grow n (made_by q) g ss x.1 in
    reached-wider (made_by p) (made_by q) k.0 (aborts_from (s ∷ ss) p)
    (fire-go q k.1 s (codes "abort") (SignalValue s ∷ []) (AbortsLeft ss) (aborts_from ss) (signal-grows n (made_by q) g s x.0, tt) left (aborts_from-go (made_by q) ss left))

changes_of-given : (n : Made) (chain : ℕ) (ss : List ℕ) (more : List ChangePiece) → Each (IsGiven n.signals) ss → Each (PieceIsGiven n) more → Each (PieceIsGiven n) (changes_of chain ss more)
changes_of-given n chain [] more x y = y
changes_of-given n chain (s ∷ ss) more x y = (x.0, changes_of-given n chain ss more x.1 y)

abbrev OneGoes : (ℕ → List ChangePiece → (Page → Reached) → Page → Reached) → Type 0
OneGoes one = (n : Made) (s : ℕ) (more : List ChangePiece) (next : Page → Reached) → IsGiven n.signals s → Each (PieceIsGiven n) more → Go n next → Go n (one s more next)

each_change-go : (one : ℕ → List ChangePiece → (Page → Reached) → Page → Reached) (chain : ℕ) → OneGoes one → (n : Made) (ss : List ℕ) (more : List ChangePiece) (next : Page → Reached) → Each (IsGiven n.signals) ss → Each (PieceIsGiven n) more → Go n next → Go n (each_change one chain ss more next)
each_change-go one chain goes n [] more next x y go = go
each_change-go one chain goes n (s ∷ ss) more next x y go = goes n s (changes_of chain ss more) (each_change one chain ss more next) x.0 (changes_of-given n chain ss more x.1 y) (each_change-go one chain goes n ss more next x.1 y go)

change_from-go : (priority : Priority) (chain : ℕ) → OneGoes (change_from priority chain)
change_from-go priority zero n s more next x y go p o = go p o
change_from-go priority (suc chain) n s more next x y go p o =
    let q = change_begun s priority p in
    let k = change_begun-held s priority p o.1 in
    let g = Grows-then n (made_by p) (made_by q) o.0 k.0 in
    let ss = followers p.prios s in
    let follow = signals-grow (made_by p) (made_by q) k.0 ss (followers-known (made_by p) p.prios s (o.1 InPrios)) in
    let pieces = Each-more (PieceIsGiven n) (PieceIsGiven (made_by q)) (piece-grows n (made_by q) g) more y in
    let behind : Page → Reached = each_change (change_from priority chain) chain ss (EndChange s ∷ more) (λ r. next (change_ended s r)) in
    chosen-go (made_by p) (is_changing p.prios s || has_priority p.prios s priority) (next p) (fire s (codes "prioritychange") (SignalValue s ∷ priority_value (priority_of p.prios s) ∷ []) (ChangesLeft priority (changes_of chain ss (EndChange s ∷ more))) behind q) (go p o)
    (reached-wider (made_by p) (made_by q) k.0 (fire s (codes "prioritychange") (SignalValue s ∷ priority_value (priority_of p.prios s) ∷ []) (ChangesLeft priority (changes_of chain ss (EndChange s ∷ more))) behind q)
    (fire-go q k.1 s (codes "prioritychange") (SignalValue s ∷ priority_value (priority_of p.prios s) ∷ []) (ChangesLeft priority (changes_of chain ss (EndChange s ∷ more))) behind
    (signal-grows n (made_by q) g s x, (priority_value-known (made_by q) (priority_of p.prios s), tt))
    (changes_of-given (made_by q) chain ss (EndChange s ∷ more) follow (tt, pieces))
    (each_change-go (change_from priority chain) chain (change_from-go priority chain) (made_by q) ss (EndChange s ∷ more) (λ r. next (change_ended s r)) follow (tt, pieces)
    (λ r u. onto n next go r (change_ended s r) (Grows-then n (made_by q) (made_by r) g u.0, u.1) (change_ended-held s r u.1)))))

changes_from-go : (n : Made) (priority : Priority) (pieces : List ChangePiece) → Each (PieceIsGiven n) pieces → Go n (changes_from priority pieces)
changes_from-go n priority [] x p o = stays p o.1
changes_from-go n priority (ChangeOf chain s ∷ more) x p o = change_from-go priority chain n s more (changes_from priority more) x.0 x.1 (changes_from-go n priority more x.1) p o
changes_from-go n priority (EndChange s ∷ more) x p o = onto n (changes_from priority more) (changes_from-go n priority more x.1) p (change_ended s p) o (change_ended-held s p o.1)

rest_from-go : (n : Made) (rest : Rest) → RestIsGiven n rest → Go n (rest_from rest)
rest_from-go n (AbortsLeft ss) x = aborts_from-go n ss x
rest_from-go n (ChangesLeft priority pieces) x = changes_from-go n priority pieces x

go_on-go : (n : Made) (fold : Fold) → FoldIsGiven n fold → Go n (go_on fold)
go_on-go n fold x = next_listener-go n fold.args fold.listeners fold.rest (rest_from fold.rest) x.0 x.1 x.2 (rest_from-go n fold.rest x.2)

report_before-onward : (when : WhenReported) (v : Value) (p : Page) → Held (made_by p) p → Onward (made_by p) (report_before when v p)
report_before-onward BeforeCheckpoint v p h = stays p h
report_before-onward AfterCheckpoint v p h = stays p h
report_before-onward Never v p h = stays p h

report_after-onward : (when : WhenReported) (v : Value) (p : Page) → Held (made_by p) p → Onward (made_by p) (report_after when v p)
report_after-onward BeforeCheckpoint v p h = stays p h
report_after-onward AfterCheckpoint v p h = stays p h
report_after-onward Never v p h = stays p h

callback_ended-onward : (when : WhenReported) (end : CallbackEnd) (p : Page) → Held (made_by p) p → Onward (made_by p) (callback_ended when end p)
callback_ended-onward when (CallbackValue v) p h = call_ended-held Ret p h
callback_ended-onward when (CallbackThrow v) p h =
    let a = call_ended-held (Throw (spelled p.names v)) p h in
    let b = report_before-onward when v (thrown v p) a.1 in
    onward-then (made_by p) (report_before when v (thrown v p)) (report_after when v (report_before when v (thrown v p))) (onward-then (made_by p) (thrown v p) (report_before when v (thrown v p)) a b) (report_after-onward when v (report_before when v (thrown v p)) b.1)

-- ---- steps of the host

-- the page and its open folds
abbrev pub HostIsGiven : Hosting → Type 0
HostIsGiven h = Held (made_by h.page) h.page × Each (FoldIsGiven (made_by h.page)) h.folds

abbrev pub StepIsKnown : Made → HostStep → Type 0
StepIsKnown n (StepValue v) = IsKnown n v
StepIsKnown n (StepThrow v) = IsKnown n v
StepIsKnown n (StepInvoke f args ticket) = IsKnown n f × Each (IsKnown n) args

abbrev pub StepIsGiven : Made → Stepped Hosting → Type 0
StepIsGiven n s = Grows n (made_by s.host.page) × HostIsGiven s.host × StepIsKnown (made_by s.host.page) s.step

folds-grow : (n n' : Made) → Grows n n' → (folds : List Fold) → Each (FoldIsGiven n) folds → Each (FoldIsGiven n') folds
folds-grow n n' g folds h = Each-more (FoldIsGiven n) (FoldIsGiven n') (fold-grows n n' g) folds h

reached-given : (n : Made) (folds : List Fold) → Each (FoldIsGiven n) folds → (r : Reached) → ReachedIsGiven n r → StepIsGiven n (reached_step folds r)
reached-given n folds x (Finished p) h = (h.0, (h.1, folds-grow n (made_by p) h.0 folds x), tt)
reached-given n folds x (Calls f fold p) h = (h.0.0, (h.0.1, (h.2, folds-grow n (made_by p) h.0.0 folds x)), (h.1, h.2.0))

fault-given : (folds : List Fold) (name : FaultName) (p : Page) → Held (made_by p) p → Each (FoldIsGiven (made_by p)) folds → StepIsGiven (made_by p) (step_fault folds name p)
fault-given folds name p h x = (Grows-same (made_by p), (h, x), tt)

no_program : Program
no_program = record { items = []; names = [] }

done-given : (folds : List Fold) (p : Page) → Each (FoldIsGiven (made_by p)) folds → (d : Done Page) → Holds (keeping no_program) (bare p) d → StepIsGiven (made_by p) (done_step folds d)
done-given folds p x (Gives v m) h = (h.0, (h.1.0, folds-grow (made_by p) (made_by m.host) h.0 folds x), h.2)
done-given folds p x (Throws v m) h = (h.0, (h.1.0, folds-grow (made_by p) (made_by m.host) h.0 folds x), h.2)
done-given folds p x (Returns v m) h = (h.0, (h.1.0, folds-grow (made_by p) (made_by m.host) h.0 folds x), h.2)
done-given folds p x (OutOfFuel m) h = (h.0, (h.1.0, folds-grow (made_by p) (made_by m.host) h.0 folds x), tt)

argument-given : (n : Made) (args : List Value) (k : ℕ) → Each (IsKnown n) args → IsKnown n (argument args k)
argument-given n args k h = unwrapped (IsKnown n) (slice_get args k) UnitValue (Each-get (IsKnown n) args k h) tt

reason-given : (n : Made) (v : Value) → IsKnown n v → IsKnown n (reason_given v)
reason-given n v h = by_unit (is_unit v)
  where
    by_unit : (b : Bool) → IsKnown n (cond b (a_fault AbortError) v)
    by_unit true = tt
    by_unit false = h

choice-given : (n : Made) (b : Bool) (s other : Stepped Hosting) → StepIsGiven n s → StepIsGiven n other → StepIsGiven n (cond b s other)
choice-given n true s other h k = h
choice-given n false s other h k = k

given-given : {X : Type 0} (P : X → Type 0) (folds : List Fold) (o : Option X) (p : Page) (next : X → Stepped Hosting) → Held (made_by p) p → Each (FoldIsGiven (made_by p)) folds → IfThere P o → ((x : X) → P x → StepIsGiven (made_by p) (next x)) → StepIsGiven (made_by p) (step_given folds o p next)
given-given P folds None p next h x y k = fault-given folds TypeError p h x
given-given P folds (Some v) p next h x y k = k v y

any-there : {X : Type 0} (o : Option X) → IfThere (λ (x : X). Unit {0}) o
any-there None = tt
any-there (Some x) = tt

module _ (folds : List Fold) (p : Page) (h : Held (made_by p) p) (x : Each (FoldIsGiven (made_by p)) folds) where
  begin_abort-given : (s : ℕ) (reason : Value) → IsGiven (made_by p).signals s → IsKnown (made_by p) reason → ReachedIsGiven (made_by p) (begin_abort s reason p)
  begin_abort-given s reason g v =
      let ss = marked s p.signals in
      let k = reason_set-held reason ss p h v in
      onto (made_by p) (aborts_from ss) (aborts_from-go (made_by p) ss (marked-given (made_by p) s p.signals g (h InSignals))) p (reason_set reason ss p) (stays p h) k

  abort-given : (c reason : Value) → IsKnown (made_by p) c → IsKnown (made_by p) reason → StepIsGiven (made_by p) (step_abort folds c reason p)
  abort-given c reason g v =
      given-given (IsGiven (made_by p).signals) folds (controller_in c) p (λ s. reached_step folds (begin_abort s (reason_given reason) p)) h x (controller_in-given (made_by p) c g)
      (λ s y. reached-given (made_by p) folds x (begin_abort s (reason_given reason) p) (begin_abort-given s (reason_given reason) y (reason-given (made_by p) reason v)))

  change_by-given : (s : ℕ) (priority : Priority) → IsGiven (made_by p).signals s → StepIsGiven (made_by p) (step_change_by folds s priority p)
  change_by-given s priority g =
      let begun : Stepped Hosting = reached_step folds (begin_change priority (length p.prios) s p) in
      choice-given (made_by p) (is_there (priority_of p.prios s)) (cond (is_changing p.prios s) (step_fault folds NotAllowedError p) begun) (step_fault folds TypeError p)
      (choice-given (made_by p) (is_changing p.prios s) (step_fault folds NotAllowedError p) begun (fault-given folds NotAllowedError p h x)
      (reached-given (made_by p) folds x (begin_change priority (length p.prios) s p) (changes_from-go (made_by p) priority (ChangeOf (length p.prios) s ∷ []) (g, tt) p (stays p h))))
      (fault-given folds TypeError p h x)

  change-given : (c v : Value) → IsKnown (made_by p) c → StepIsGiven (made_by p) (step_change folds c v p)
  change-given c v g =
      given-given (IsGiven (made_by p).signals) folds (controller_in c) p (λ s. step_given folds (priority_in v) p (λ priority. step_change_by folds s priority p)) h x (controller_in-given (made_by p) c g)
      (λ s y. given-given (λ priority. Unit {0}) folds (priority_in v) p (λ priority. step_change_by folds s priority p) h x (any-there (priority_in v)) (λ priority z. change_by-given s priority y))

  no_calls-go : CallsGo no_program no_calls
  no_calls-go f args m g k = finish-goes no_program m g

  op-given : (op : Op) (args : List Value) → Each (IsKnown (made_by p)) args → StepIsGiven (made_by p) (step_op folds op args p)
  op-given AbortOp args k = abort-given (argument args 0) (argument args 1) (argument-given (made_by p) args 0 k) (argument-given (made_by p) args 1 k)
  op-given SetPriority args k = change-given (argument args 0) (argument args 1) (argument-given (made_by p) args 0 k)
  op-given op args k = done-given folds p x (operation (in_script no_calls) op args (bare p)) (operation-goes no_program (in_script no_calls) (in_script-goes no_program no_calls no_calls-go) op args (bare p) (h, tt, tt) k)

  known-given : (op : Op) (args : List Value) → Each (IsKnown (made_by p)) args → StepIsGiven (made_by p) (step_known folds op args p)
  known-given op args k = choice-given (made_by p) (may_operate p op args) (step_op folds op args p) (step_fault folds TypeError p) (op-given op args k) (fault-given folds TypeError p h x)

resume-given : (folds : List Fold) (end : CallbackEnd) (p : Page) → Held (made_by p) p → Each (FoldIsGiven (made_by p)) folds → StepIsGiven (made_by p) (resume_innermost folds end p)
resume-given [] end p h x = (Grows-same (made_by p), (h, tt), tt)
resume-given (fold ∷ folds) end p h x =
    reached-given (made_by p) folds x.1 (go_on fold (callback_ended fold.when end p))
    (onto (made_by p) (go_on fold) (go_on-go (made_by p) fold x.0) p (callback_ended fold.when end p) (stays p h) (callback_ended-onward fold.when end p h))

abbrev pub AskIsKnown : Made → Ask → Type 0
AskIsKnown n (AskOp op args) = Each (IsKnown n) args
AskIsKnown n (AskResume ticket end) = Unit {0}

pub asked-given : (ask : Ask) (h : Hosting) → HostIsGiven h → AskIsKnown (made_by h.page) ask → StepIsGiven (made_by h.page) (on_ask page_rules ask h)
asked-given (AskOp op args) h g k = known-given h.folds h.page g.0 g.1 op args k
asked-given (AskResume ticket end) h g k = resume-given h.folds end h.page g.0 g.1
