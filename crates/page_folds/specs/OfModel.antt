-- The steps of a fold as those of the model's page.
use Rattle.std.specs.Prelude.{◌≡◌, ℕ, ⊤, false, List, [], ◌∷◌, ◌++◌, length, map, Some, codes}
use Rattle.page_types.specs.Values.{Value, UnitValue, SignalValue}
use Rattle.page_types.specs.Events.{Abort, Prio}
use Rattle.page_types.specs.declared.Priority.{Priority}
use Rattle.page_parts.specs.AbortGraph.{marked}
use Rattle.page_parts.specs.TaskSignals.{priority_of, same_priority, is_changing}
use Rattle.abort_graph.specs.ByValue.{by_value}
use Rattle.page_model.specs.State.{Page, the_registration, emit, emit_each}
use Rattle.page_model.specs.Invoke.{when_reported, call_begun}
use Rattle.page_model.specs.PageSignals.{abort_registration, abort_registrations, reason_value, priority_value}
use Rattle.page_model.specs.Folds.{Rest, AbortsLeft, ChangesLeft, Reached, Finished, begin_listener, next_listener, fire, rest_from}
use Rattle.page_model.specs.Folds as model
use Rattle.page_model.specs.FoldBounds.{CanChange}
use Rattle.page_events.specs.declared.target.Target.{Target}
use Rattle.page_events.specs.declared.target.Target.TheVariants.{Window, Signal}
use Rattle.page_events.specs.Seen.{seen_target}
use Rattle.page_folds.specs.declared.step.FoldStep.{FoldStep}
use Rattle.page_folds.specs.declared.step.FoldStep.TheVariants as step
use Rattle.page_folds.specs.Steps.{Parts, Stage, Between, Algorithms, ToTell, ToFire, Calling, OpenFold, Came, Ends, Gives, goes_on, change_begun, reason_set, dispatch_fold, abort_fold, change_fold}

-- ---- Ours: what the model's page does with an open fold

-- the page with these parts
abbrev pub page_with : Parts Value → Page → Page
page_with ps p = record p { listeners = ps.listeners; signals = ps.signals; prios = ps.prios }

-- which fold it is: a dispatch with the arguments of its listeners, an abort with its reason, or a change, with the priority before of
-- the signal that was told last
pub data Kind : Type 0 where
  OfDispatch : List Value → Kind
  OfAbort : Value → Kind
  OfChange : Priority → Kind

-- a signal as an argument
abbrev pub target_value : Target → List Value
target_value Window = []
target_value (Signal s) = SignalValue s ∷ []

-- the arguments of listeners
abbrev pub arguments_of : Kind → Target → List Value
arguments_of (OfDispatch args) target = args
arguments_of (OfAbort reason) target = target_value target
arguments_of (OfChange before) target = target_value target ++ priority_value (Some before) ∷ []

-- the reason that algorithms are run with
abbrev pub reason_in : Kind → Value
reason_in (OfDispatch args) = UnitValue
reason_in (OfAbort reason) = reason
reason_in (OfChange before) = UnitValue

-- a priority that was set is told
abbrev pub told : ℕ → Rest → Page → Page
told s (AbortsLeft ss) p = p
told s (ChangesLeft priority more) p = emit (Prio s priority) p

-- what a page does with a fold at this stage
abbrev pub stage_meaning : Kind → Stage → Rest → Page → Reached
stage_meaning kind Between rest p = rest_from rest p
stage_meaning kind (Algorithms s left) rest p =
    fire s (codes "abort") (arguments_of kind (Signal s)) rest (rest_from rest) (abort_registrations (reason_in kind) left p)
stage_meaning kind (ToTell s before) rest p =
    fire s (codes "prioritychange") (arguments_of (OfChange before) (Signal s)) rest (rest_from rest) (told s rest p)
stage_meaning kind (ToFire s) rest p = fire s (codes "prioritychange") (arguments_of kind (Signal s)) rest (rest_from rest) p
stage_meaning kind (Calling target left) rest p = next_listener (arguments_of kind target) left rest (rest_from rest) p

abbrev pub meaning : Kind → OpenFold → Page → Reached
meaning kind fold p = stage_meaning kind fold.stage fold.rest p

-- the listeners that are left
abbrev pub left_in : Stage → List ℕ
left_in (Calling target left) = left
left_in stage = []

-- what a page does at a step, and with the fold after it: an algorithm is run, a listener is called, or a change is told
abbrev pub step_meaning : Kind → FoldStep → OpenFold → Page → Reached
step_meaning kind (step.Algorithm a) fold p = meaning kind fold (abort_registration (reason_in kind) a p)
step_meaning kind (step.Listener target r) fold p =
    begin_listener
    (the_registration p r).callback
    (when_reported (the_registration p r).role)
    (arguments_of kind target)
    (left_in fold.stage)
    fold.rest
    (meaning kind fold)
    (call_begun r p)
step_meaning kind (step.Changed s before) fold p = meaning (OfChange before) fold (told s fold.rest p)
step_meaning kind step.Finished fold p = Finished p

-- what a page does where a fold comes to this
abbrev pub came_meaning : Kind → Came Value → Page → Reached
came_meaning kind (Ends ps) p = Finished (page_with ps p)
came_meaning kind (Gives s fold ps) p = step_meaning kind s fold (page_with ps p)

-- these signals are aborted with this reason
abbrev pub HaveReason : Value → Page → List ℕ → Type 0
HaveReason reason p [] = ⊤
HaveReason reason p (s ∷ ss) = (reason_value p s ≡ reason) × HaveReason reason p ss

-- what is left fits the kind of the fold
abbrev pub Fits : Kind → Rest → Page → Type 0
Fits (OfDispatch args) (AbortsLeft []) p = ⊤
Fits (OfAbort reason) (AbortsLeft ss) p = HaveReason reason p ss
Fits (OfChange before) (ChangesLeft priority more) p = CanChange p.prios more
Fits kind rest p = ⊥

-- what a page does with an open fold is its next step, and what it does with the fold then
abbrev pub StepIs : Kind → OpenFold → Parts Value → Page → Type 0
StepIs kind fold ps p =
    Fits kind fold.rest (page_with ps p) → meaning kind fold (page_with ps p) ≡ came_meaning kind (goes_on fold ps) p

-- ---- Ours: reasons by number

-- the parts with the value f n in place of each reason n
abbrev pub parts_by : (ℕ → Value) → Parts ℕ → Parts Value
parts_by f ps = record { listeners = ps.listeners; signals = by_value f ps.signals; prios = ps.prios }

abbrev pub came_by : (ℕ → Value) → Came ℕ → Came Value
came_by f (Ends ps) = Ends (parts_by f ps)
came_by f (Gives s fold ps) = Gives s fold (parts_by f ps)

-- a fold goes on in the same way with numbers as with values
abbrev pub NumbersAre : (ℕ → Value) → OpenFold → Parts ℕ → Type 0
NumbersAre f fold ps = goes_on fold (parts_by f ps) ≡ came_by f (goes_on fold ps)

-- ---- Ours: how folds begin

-- a dispatch begins as its fold
abbrev pub DispatchIs : (args : List Value) → Target → (name : List ℕ) → Parts Value → Page → Type 0
DispatchIs args target name ps p =
    model.begin_dispatch (seen_target target) name args (page_with ps p)
    ≡ meaning (OfDispatch args) (dispatch_fold target name ps) (page_with ps p)

-- so it does on every page
abbrev pub DispatchesBegin : (args : List Value) → Target → (name : List ℕ) → Type 0
DispatchesBegin args target name = (ps : Parts Value) (p : Page) → DispatchIs args target name ps p

-- an abort begins as its fold, once a line is written for each signal
abbrev pub AbortIs : (s : ℕ) (reason : Value) → Parts Value → Page → Type 0
AbortIs s reason ps p =
    let ss = marked s ps.signals in
    model.begin_abort s reason (page_with ps p)
    ≡ meaning (OfAbort reason) (abort_fold ss) (emit_each (map Abort ss) (page_with (reason_set s reason ps) p))

-- a change of a signal that has another priority, and of which no change is in progress, begins as its fold
abbrev pub ChangeIs : (s : ℕ) → Priority → Parts Value → Page → Type 0
ChangeIs s priority ps p =
    (own : Priority) → priority_of ps.prios s ≡ Some own → same_priority own priority ≡ false → is_changing ps.prios s ≡ false →
    model.begin_change priority (length ps.prios) s (page_with ps p)
    ≡ meaning (OfChange own) (change_fold s priority own ps) (page_with (change_begun s priority ps) p)
