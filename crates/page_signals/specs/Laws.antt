-- How the part's calls are what the model's page does.
use Rattle.std.specs.Prelude.{◌≡◌, ℕ, true, false, if◌then◌else◌, List, [], ◌∷◌, length, map, None, Some, ⊤}
use Rattle.page_types.specs.Values.{Value}
use Rattle.page_types.specs.Events.{Abort, Drop, Prio}
use Rattle.page_types.specs.declared.Priority.{Priority}
use Rattle.page_types.specs.declared.RegKind.TheVariants.{Listener as ListenerKind}
use Rattle.page_parts.specs.Kinds.{Func}
use Rattle.page_parts.specs.AbortGraph.{Signals, the_signal, marked, add_algorithm, remove_algorithm}
use Rattle.page_parts.specs.TaskSignals.{priority_of, is_changing, give, begun, ended}
use Rattle.page_parts.specs.Listeners as parts
use Rattle.page_model.specs.State.{Page, the_registration, last_registration, emit, emit_each}
use Rattle.page_model.specs.Invoke.{WhenReported, when_reported, register, call_begun}
use Rattle.page_model.specs.PageSignals as model
use Rattle.page_model.specs.Operations.{with_signals, listener_added, listener_removed}
use Rattle.page_model.specs.Folds as folds
use Rattle.page_model.specs.Folds.{Fold, Reached, Finished as Done, Calls, begin_listener, go_on}
use Rattle.page_events.specs.declared.target.Target.{Target}
use Rattle.page_events.specs.Seen.{seen_target}
use Rattle.page_folds.specs.Steps.{Stage, Between, Algorithms, ToTell, ToFire, Calling}
use Rattle.page_folds.specs.OfModel.{Kind, arguments_of, left_in, meaning}
use Rattle.page_signals.specs.Signalling.{Open, Signalling, with_signalling, signalling_of, on_signals, on_prios, on_listeners}
use Rattle.page_signals.specs.Steps.{IsMade, reason_set, dispatch_opened, abort_opened, change_opened, algorithms_taken, Visit, Algorithm, Listener, Changed, Finished, stepped, Falls}
use Rattle.page_signals.specs.Kept.{AreFitting}

-- ---- fields

-- the fields of a page that was given others are those
abbrev pub SignallingIs : Signalling → Page → Type 0
SignallingIs st p =
    (signalling_of (with_signalling st p) st.folds ≡ st)
    × ((folds : List Open) → with_signalling (signalling_of p folds) p ≡ p)

-- ---- calls on the fields, less their lines

abbrev pub WithSignalsIs : (Signals Value → Signals Value) → List Open → Page → Type 0
WithSignalsIs f os p = with_signals f p ≡ with_signalling (on_signals f (signalling_of p os)) p

abbrev pub GivePriorityIs : ℕ → Priority → List Open → Page → Type 0
GivePriorityIs s priority os p =
    model.give_priority s priority p ≡ emit (Prio s priority) (with_signalling (on_prios (give s priority) (signalling_of p os)) p)

abbrev pub ChangeBegunIs : ℕ → Priority → List Open → Page → Type 0
ChangeBegunIs s priority os p =
    model.change_begun s priority p ≡ emit (Prio s priority) (with_signalling (on_prios (begun s priority) (signalling_of p os)) p)

abbrev pub ChangeEndedIs : ℕ → List Open → Page → Type 0
ChangeEndedIs s os p = model.change_ended s p ≡ with_signalling (on_prios (ended s) (signalling_of p os)) p

abbrev pub WatchIs : (s r : ℕ) → List Open → Page → Type 0
WatchIs s r os p = model.watch (Some s) r p ≡ with_signalling (on_signals (add_algorithm s r) (signalling_of p os)) p

abbrev pub UnwatchIs : (s r : ℕ) → List Open → Page → Type 0
UnwatchIs s r os p =
    (the_registration p r).signal ≡ Some s
    → model.unwatch r p ≡ with_signalling (on_signals (remove_algorithm s r) (signalling_of p os)) p

-- a listener is added under the registration that was made for it
abbrev pub ListenerAddedIs : parts.Target → (name : List ℕ) → Func → List Open → Page → Type 0
ListenerAddedIs target name f os p =
    let made = register ListenerKind (Some f) None p in
    listener_added target name f p
    ≡ with_signalling (on_listeners (parts.add target name (last_registration made)) (signalling_of made os)) made

-- so it is with any open folds, on every page
abbrev pub ListenersAreAdded : parts.Target → (name : List ℕ) → Func → Type 0
ListenersAreAdded target name f = (os : List Open) (p : Page) → ListenerAddedIs target name f os p

abbrev pub ListenerRemovedIs : ℕ → List Open → Page → Type 0
ListenerRemovedIs r os p =
    parts.is_listening r p.listeners ≡ true
    → listener_removed r p ≡ emit (Drop r) (with_signalling (on_listeners (parts.off r) (signalling_of p os)) p)

abbrev pub ReasonSetIs : ℕ → Value → List Open → Page → Type 0
ReasonSetIs s reason os p =
    let ss = marked s p.signals in
    model.reason_set reason ss p ≡ emit_each (map Abort ss) (with_signalling (reason_set s reason (signalling_of p os)) p)

abbrev pub RunAlgorithmsIs : ℕ → List Open → Page → Type 0
RunAlgorithmsIs s os p =
    model.run_algorithms s p
    ≡ model.abort_registrations (model.reason_value p s) (the_signal p.signals s).algorithms
    (with_signalling (algorithms_taken s (signalling_of p os)) p)

-- ---- open folds

-- what the listeners of a fold that calls some get
abbrev pub arguments_in : Kind → Stage → List Value
arguments_in kind (Calling target left) = arguments_of kind target
arguments_in kind Between = []
arguments_in kind (Algorithms s left) = []
arguments_in kind (ToTell s before) = []
arguments_in kind (ToFire s) = []

-- an open fold as the model's, while a callback runs under it
abbrev pub as_fold : Open → Fold
as_fold o =
    record {
      when = o.when;
      args = arguments_in o.kind o.fold.stage;
      listeners = left_in o.fold.stage;
      rest = o.fold.rest;
    }

-- a fold that calls listeners goes on, where its callback has ended
abbrev pub GoesOnIs : Kind → WhenReported → Target → List ℕ → folds.Rest → Page → Type 0
GoesOnIs kind when target left rest p =
    let o : Open = record { kind = kind; when = when; fold = record { stage = Calling target left; rest = rest } } in
    go_on (as_fold o) p ≡ meaning o.kind o.fold p

-- so it does whatever is left, on every page
abbrev pub FoldsGoOn : Kind → WhenReported → Target → Type 0
FoldsGoOn kind when target = (left : List ℕ) (rest : folds.Rest) (p : Page) → GoesOnIs kind when target left rest p

-- what a page does with the innermost of these folds
abbrev pub innermost_meaning : List Open → Page → Reached
innermost_meaning [] p = Done p
innermost_meaning (o ∷ around) p = meaning o.kind o.fold p

-- a listener's callback begins, under the innermost of these folds; an absent one has ended at once
abbrev pub listener_meaning : List Open → ℕ → List Value → Page → Reached
listener_meaning [] r args p = Done p
listener_meaning (o ∷ around) r args p =
    begin_listener
    (the_registration p r).callback
    (when_reported (the_registration p r).role)
    args
    (left_in o.fold.stage)
    o.fold.rest
    (meaning o.kind o.fold)
    (call_begun r p)

-- what a page with these fields does at a step, and with the fold after it
abbrev pub visit_meaning : Visit × Signalling → Page → Reached
visit_meaning (Algorithm r reason, st) p = innermost_meaning st.folds (model.abort_registration reason r (with_signalling st p))
visit_meaning (Listener r args, st) p = listener_meaning st.folds r args (with_signalling st p)
visit_meaning (Changed s before priority, st) p = innermost_meaning st.folds (emit (Prio s priority) (with_signalling st p))
visit_meaning (Finished, st) p = Done (with_signalling st p)

-- what a page does with the innermost fold is its next step, and what it does with the fold then
abbrev pub StepIs : Signalling → Page → Type 0
StepIs st p =
    AreFitting st → AreFitting (stepped st).1
    → innermost_meaning st.folds (with_signalling st p) ≡ visit_meaning (stepped st) p

-- the innermost of these folds calls listeners with these arguments
abbrev pub CallsWith : List Value → List Open → Type 0
CallsWith args [] = ⊥
CallsWith args (o ∷ around) = arguments_in o.kind o.fold.stage ≡ args

-- so it is after a step that calls a listener
abbrev pub IsCalling : Visit × Signalling → Type 0
IsCalling (Algorithm r reason, st) = ⊤
IsCalling (Listener r args, st) = CallsWith args st.folds
IsCalling (Changed s before priority, st) = ⊤
IsCalling (Finished, st) = ⊤

abbrev pub CallingIs : Signalling → Type 0
CallingIs st = IsCalling (stepped st)

-- then the model's fold, while the callback runs, is the open one with when its throw is reported
abbrev pub CallIs : Func → WhenReported → List Value → Open → Page → Type 0
CallIs f when args o p =
    CallsWith args (o ∷ [])
    → begin_listener (Some f) when args (left_in o.fold.stage) o.fold.rest (meaning o.kind o.fold) p
    ≡ Calls f (as_fold (record o { when = when })) p

-- ---- how folds begin

abbrev pub DispatchIs : Target → (name : List ℕ) → (args : List Value) → Signalling → Page → Type 0
DispatchIs target name args st p =
    folds.begin_dispatch (seen_target target) name args (with_signalling st p)
    ≡ innermost_meaning (dispatch_opened target name args st).folds (with_signalling (dispatch_opened target name args st) p)

-- so a dispatch begins on every page
abbrev pub DispatchesBegin : Target → (name : List ℕ) → (args : List Value) → Type 0
DispatchesBegin target name args = (st : Signalling) (p : Page) → DispatchIs target name args st p

-- a line is written for each signal on which the reason was set
abbrev pub AbortIs : ℕ → Value → Signalling → Page → Type 0
AbortIs s reason st p =
    IsMade s st.signals
    → folds.begin_abort s reason (with_signalling st p)
    ≡ innermost_meaning (abort_opened s reason st).folds
    (emit_each (map Abort (marked s st.signals)) (with_signalling (abort_opened s reason st) p))

-- a change of a signal that has this priority already does nothing, and any other begins as its fold
abbrev pub ChangeIs : ℕ → Priority → Signalling → Page → Type 0
ChangeIs s priority st p =
    is_changing st.prios s ≡ false
    → (own : Priority) → priority_of st.prios s ≡ Some own
    → folds.begin_change priority (length st.prios) s (with_signalling st p)
    ≡ (if model.has_priority st.prios s priority then Done (with_signalling st p)
    else innermost_meaning (change_opened s priority st).folds (with_signalling (change_opened s priority st) p))

-- less is left to visit after each step that is not the end
abbrev pub FallsAt : Signalling → Type 0
FallsAt st = Falls (stepped st).0 st (stepped st).1
