-- How folds are opened, and go on by single steps.
use Rattle.std.specs.Prelude.{ℕ, ◌<◌, ◌≤◌, Bool, false, List, [], ◌∷◌, length, map, Option, Some, None, ⊤, if◌then◌else◌, unwrap_or}
use Rattle.page_types.specs.Values.{Value, UnitValue}
use Rattle.page_types.specs.declared.Priority.{Priority}
use Rattle.page_parts.specs.AbortGraph.{Signals, reason_of, marked, with_reason, with_algorithms}
use Rattle.page_parts.specs.TaskSignals.{priority_of, same_priority, begun}
use Rattle.page_model.specs.Invoke.{WhenReported, Never}
use Rattle.page_model.specs.Folds.{Rest, AbortsLeft, ChangesLeft}
use Rattle.page_events.specs.declared.target.Target.{Target}
use Rattle.page_folds.specs.declared.step.FoldStep.{FoldStep}
use Rattle.page_folds.specs.declared.step.FoldStep.TheVariants as step
use Rattle.page_folds.specs.Steps.{OpenFold, Came, Ends, Gives, goes_on, dispatch_fold, abort_fold, change_fold}
use Rattle.page_folds.specs.Visits.{innermost_visits}
use Rattle.page_folds.specs.Calls.{calls}
use Rattle.page_folds.specs.OfModel.{Kind, OfDispatch, OfAbort, OfChange, arguments_of, reason_in}
use Rattle.page_signals.specs.Signalling.{Open, Signalling, parts_of, with_parts}

-- ---- Ours: how folds are opened

-- signal number s was made
abbrev pub IsMade : ℕ → Signals Value → Type 0
IsMade s ss = (0 < s) × (s ≤ length ss)

-- the reason of a signal, unit where it is not aborted
abbrev pub reason_at : Signals Value → ℕ → Value
reason_at ss s = unwrap_or (reason_of ss s) UnitValue

-- one more fold is open, under which no callback runs yet
abbrev pub opened : Kind → OpenFold → Signalling → Signalling
opened kind fold st = record st { folds = record { kind = kind; when = Never; fold = fold } ∷ st.folds }

-- an event is fired at a target
abbrev pub dispatch_opened : Target → (name : List ℕ) → (args : List Value) → Signalling → Signalling
dispatch_opened target name args st = opened (OfDispatch args) (dispatch_fold target name (parts_of st)) st

-- the reason is set on a signal that is not aborted, and on those that depend on it
abbrev pub reason_set : ℕ → Value → Signalling → Signalling
reason_set s reason st = record st { signals = with_reason reason (marked s st.signals) st.signals }

-- then the abort steps of these signals come, with the reason that the signal has
abbrev pub abort_opened : ℕ → Value → Signalling → Signalling
abort_opened s reason st =
    let done = reason_set s reason st in opened (OfAbort (reason_at done.signals s)) (abort_fold (marked s st.signals)) done

-- a change of a signal whose priority is `own`: none where it has the new one already
abbrev pub change_opened_from : Option Priority → ℕ → Priority → Signalling → Signalling
change_opened_from None s priority st = st
change_opened_from (Some own) s priority st =
    if same_priority own priority then st else opened (OfChange own)
    (change_fold s priority own (parts_of st)) (record st { prios = begun s priority st.prios })

abbrev pub change_opened : ℕ → Priority → Signalling → Signalling
change_opened s priority st = change_opened_from (priority_of st.prios s) s priority st

-- the algorithms of a signal are taken
abbrev pub algorithms_taken : ℕ → Signalling → Signalling
algorithms_taken s st = record st { signals = with_algorithms s [] st.signals }

-- when a throw of the callback that runs under the innermost fold is reported
abbrev pub reported_in : WhenReported → List Open → List Open
reported_in when [] = []
reported_in when (o ∷ around) = record o { when = when } ∷ around

abbrev pub reported : WhenReported → Signalling → Signalling
reported when st = record st { folds = reported_in when st.folds }

abbrev pub when_in : List Open → WhenReported
when_in [] = Never
when_in (o ∷ around) = o.when

-- whether the innermost of these folds calls listeners
abbrev pub is_calling_in : List Open → Bool
is_calling_in [] = false
is_calling_in (o ∷ around) = calls o.fold.stage

-- ---- Ours: steps

-- What is to be done next under the innermost fold: an algorithm is run with a reason, a listener is called with arguments, or a
-- priority that was set is told. At the end nothing is left, and the fold is closed.
pub data Visit : Type 0 where
  Algorithm : (registration : ℕ) (reason : Value) → Visit
  Listener : (registration : ℕ) (arguments : List Value) → Visit
  Changed : (signal : ℕ) (before priority : Priority) → Visit
  Finished : Visit

-- the priority that a change sets; where no change is left the one that it was
abbrev pub priority_to : Priority → Rest → Priority
priority_to before (AbortsLeft ss) = before
priority_to before (ChangesLeft priority more) = priority

-- a step of a fold of this kind, where this is left behind it
abbrev pub visit_of : Kind → Rest → FoldStep → Visit
visit_of kind rest (step.Algorithm a) = Algorithm a (reason_in kind)
visit_of kind rest (step.Listener target r) = Listener r (arguments_of kind target)
visit_of kind rest (step.Changed s before) = Changed s before (priority_to before rest)
visit_of kind rest step.Finished = Finished

-- which fold it is after a step
abbrev pub kind_after : Kind → FoldStep → Kind
kind_after kind (step.Algorithm a) = kind
kind_after kind (step.Listener target r) = kind
kind_after kind (step.Changed s before) = OfChange before
kind_after kind step.Finished = kind

-- the fold after a step
abbrev pub open_after : Open → FoldStep → OpenFold → Open
open_after o s fold = record { kind = kind_after o.kind s; when = o.when; fold = fold }

-- a step of an open fold, with these around it, and what stands after it
abbrev pub came_after : Open → List Open → Came Value → Visit × Signalling
came_after o around (Ends ps) = (Finished, with_parts ps around)
came_after o around (Gives s fold ps) = (visit_of o.kind fold.rest s, with_parts ps (open_after o s fold ∷ around))

-- the innermost of these folds goes on; with none open nothing is left
abbrev pub stepped_in : List Open → Signalling → Visit × Signalling
stepped_in [] st = (Finished, st)
stepped_in (o ∷ around) st = came_after o around (goes_on o.fold (parts_of st))

abbrev pub stepped : Signalling → Visit × Signalling
stepped st = stepped_in st.folds st

-- how many algorithms, listeners and changes the innermost fold has still to visit
abbrev pub to_visit : Signalling → ℕ
to_visit st = innermost_visits (parts_of st) (map (λ o. o.fold) st.folds)

-- at each step that is not the end, less is left to visit
abbrev pub Falls : Visit → (before after : Signalling) → Type 0
Falls (Algorithm a reason) before after = to_visit after < to_visit before
Falls (Listener r args) before after = to_visit after < to_visit before
Falls (Changed s own priority) before after = to_visit after < to_visit before
Falls Finished before after = ⊤
