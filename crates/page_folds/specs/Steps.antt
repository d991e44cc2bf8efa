-- Dispatch, abort and priority change by single steps, on what they read and change of a page.
use Rattle.std.specs.Prelude.{◌≡◌, ℕ, ◌+◌, ◌-◌, if◌then◌else◌, ◌||◌, ◌==◌, List, [], ◌∷◌, length, Option, Some, None, codes}
use Rattle.page_types.specs.declared.Priority.{Priority}
use Rattle.page_parts.specs.AbortGraph.{Signals, the_signal, marked, with_reason, with_algorithms}
use Rattle.page_parts.specs.TaskSignals.{Prios, priority_of, is_changing, followers, begun, ended}
use Rattle.page_parts.specs.Listeners.{Listener, AtSignal, snapshot}
use Rattle.page_model.specs.PageSignals.{has_priority}
use Rattle.page_model.specs.Folds.{ChangePiece, ChangeOf, EndChange, Rest, AbortsLeft, ChangesLeft, changes_of}
use Rattle.page_events.specs.declared.target.Target.{Target}
use Rattle.page_events.specs.declared.target.Target.TheVariants.{Signal}
use Rattle.page_events.specs.Seen.{seen_target}
use Rattle.page_events.specs.Dispatching.{next_listening, behind_next}
use Rattle.page_folds.specs.declared.step.FoldStep.{FoldStep}
use Rattle.page_folds.specs.declared.step.FoldStep.TheVariants as step

-- ---- Ours: folds by steps

-- what folds read and change of a page: the listeners, the signals and the priorities. R is the type of a reason: the signals of the code
-- have numbers, and those of a page have values.
pub record Parts (R : Type 0) : Type 0 where
  pub listeners : List Listener
  pub signals : Signals R
  pub prios : Prios

-- what a fold is at between two steps
pub data Stage : Type 0 where
  -- nothing has begun of what is left
  Between : Stage
  -- the abort algorithms of a signal that are left; after them `abort` is fired at it
  Algorithms : (signal : ℕ) (left : List ℕ) → Stage
  -- the priority of a signal was set, which is still to be told
  ToTell : (signal : ℕ) (before : Priority) → Stage
  -- `prioritychange` is to be fired at a signal
  ToFire : (signal : ℕ) → Stage
  -- the listeners of a dispatch that are left
  Calling : (target : Target) (left : List ℕ) → Stage

-- an open fold: what it is at, and what comes then
pub record OpenFold : Type 0 where
  pub stage : Stage
  pub rest : Rest

-- what a fold comes to: its end, or a step, and the fold after it
pub data Came (R : Type 0) : Type 0 where
  Ends : Parts R → Came R
  Gives : FoldStep → OpenFold → Parts R → Came R

-- DOM, "Dispatching events": the first of these listeners that was not removed, and those behind it
abbrev pub listener_next : List Listener → Target → List ℕ → Option (FoldStep × Stage)
listener_next ls target left =
    elim (next_listening ls left) [ None ↦ None | Some r ↦ Some (step.Listener target r, Calling target (behind_next ls left)) ]

-- an event of this name is fired at a signal: the first of its listeners as they are now
abbrev pub fired : List Listener → List ℕ → ℕ → Option (FoldStep × Stage)
fired ls name s = listener_next ls (Signal s) (snapshot (AtSignal s) name ls)

-- the next step of a stage, none where it is over
abbrev pub stage_next : List Listener → Stage → Option (FoldStep × Stage)
stage_next ls Between = None
stage_next ls (Algorithms s []) = fired ls (codes "abort") s
stage_next ls (Algorithms s (a ∷ left)) = Some (step.Algorithm a, Algorithms s left)
stage_next ls (ToTell s before) = Some (step.Changed s before, ToFire s)
stage_next ls (ToFire s) = fired ls (codes "prioritychange") s
stage_next ls (Calling target left) = listener_next ls target left

-- the same while these abort algorithms of a signal are left
abbrev pub algorithm_next : List Listener → (signal : ℕ) → (left : List ℕ) → Option (FoldStep × Stage)
algorithm_next ls s left = stage_next ls (Algorithms s left)

-- this step, or what comes where there is none
abbrev pub or_then : {R : Type 0} → Option (FoldStep × Stage) → Rest → (Parts R → Came R) → Parts R → Came R
or_then None rest next ps = next ps
or_then (Some (s, stage)) rest next ps = Gives s (record { stage = stage; rest = rest }) ps

-- the algorithms of a signal are taken
abbrev pub algorithms_taken : {R : Type 0} → ℕ → Parts R → Parts R
algorithms_taken s ps = record ps { signals = with_algorithms s [] ps.signals }

-- DOM, "Interface AbortSignal": the abort steps of each of these signals: its algorithms, and then `abort` is fired at it
abbrev pub aborts_from : {R : Type 0} → List ℕ → Parts R → Came R
aborts_from [] ps = Ends ps
aborts_from (s ∷ ss) ps =
    or_then (stage_next ps.listeners (Algorithms s (the_signal ps.signals s).algorithms)) (AbortsLeft ss) (aborts_from ss)
    (algorithms_taken s ps)

-- a change begins, and ends
abbrev pub change_begun : {R : Type 0} → ℕ → Priority → Parts R → Parts R
change_begun s priority ps = record ps { prios = begun s priority ps.prios }

abbrev pub change_ended : {R : Type 0} → ℕ → Parts R → Parts R
change_ended s ps = record ps { prios = ended s ps.prios }

-- The priority before a change of a signal, where no chain of followers is longer than `chain`. None where it is passed over: while a
-- change of it is in progress, where this is its priority already, and where it has none.
abbrev pub before_change : (chain : ℕ) → Prios → (s : ℕ) → Priority → Option Priority
before_change chain prios s priority =
    if chain == 0 || is_changing prios s || has_priority prios s priority then None else priority_of prios s

-- Prioritized Task Scheduling, "The TaskSignal Interface": a change of one signal, before other pieces: it is passed over, or its
-- priority is set, and then come `prioritychange`, the changes of its followers and the change's end
abbrev pub change_from : {R : Type 0} → Option Priority → Priority → (chain s : ℕ) → List ChangePiece → (Parts R → Came R)
    → Parts R → Came R
change_from None priority chain s more next ps = next ps
change_from (Some before) priority chain s more next ps =
    Gives (step.Changed s before)
    (record {
      stage = ToFire s;
      rest = ChangesLeft priority (changes_of (chain - 1) (followers ps.prios s) (EndChange s ∷ more));
    })
    (change_begun s priority ps)

-- the pieces of a change
abbrev pub changes_from : {R : Type 0} → Priority → List ChangePiece → Parts R → Came R
changes_from priority [] ps = Ends ps
changes_from priority (ChangeOf chain s ∷ more) ps =
    change_from (before_change chain ps.prios s priority) priority chain s more (changes_from priority more) ps
changes_from priority (EndChange s ∷ more) ps = changes_from priority more (change_ended s ps)

-- what comes after a stage
abbrev pub rest_from : {R : Type 0} → Rest → Parts R → Came R
rest_from (AbortsLeft ss) ps = aborts_from ss ps
rest_from (ChangesLeft priority more) ps = changes_from priority more ps

-- a fold goes on by one step
abbrev pub goes_on : {R : Type 0} → OpenFold → Parts R → Came R
goes_on fold ps = or_then (stage_next ps.listeners fold.stage) fold.rest (rest_from fold.rest) ps

-- ---- Ours: how a fold begins

-- an event is fired at a target
abbrev pub dispatch_fold : {R : Type 0} → Target → List ℕ → Parts R → OpenFold
dispatch_fold target name ps = record { stage = Calling target (snapshot (seen_target target) name ps.listeners); rest = AbortsLeft [] }

-- a signal is aborted: the reason was set on these signals
abbrev pub abort_fold : List ℕ → OpenFold
abort_fold ss = record { stage = Between; rest = AbortsLeft ss }

-- the reason is set on a signal and those that depend on it
abbrev pub reason_set : {R : Type 0} → ℕ → R → Parts R → Parts R
reason_set s reason ps = record ps { signals = with_reason reason (marked s ps.signals) ps.signals }

-- the priority of a signal was set, and was `before` until then
abbrev pub change_fold : {R : Type 0} → ℕ → (priority before : Priority) → Parts R → OpenFold
change_fold s priority before ps =
    record {
      stage = ToTell s before;
      rest = ChangesLeft priority (changes_of (length ps.prios - 1) (followers ps.prios s) (EndChange s ∷ []));
    }

-- ---- Ours: tickets

-- the parts and the open folds, the innermost first
pub record Standing (R : Type 0) : Type 0 where
  pub parts : Parts R
  pub folds : List OpenFold

-- a fold's ticket is the number of folds that are open around it; this one is the innermost fold's
abbrev pub IsInnermost : ℕ → List OpenFold → Type 0
IsInnermost ticket folds = length folds ≡ ticket + 1

-- one more fold is open
abbrev pub opened : {R : Type 0} → OpenFold → Parts R → List OpenFold → Standing R
opened fold ps around = record { parts = ps; folds = fold ∷ around }

-- a dispatch begins
abbrev pub dispatch_begun : {R : Type 0} → Target → List ℕ → Standing R → Standing R
dispatch_begun target name st = opened (dispatch_fold target name st.parts) st.parts st.folds

-- an abort begins
abbrev pub abort_begun : {R : Type 0} → (s : ℕ) (reason : R) → Standing R → Standing R
abort_begun s reason st = opened (abort_fold (marked s st.parts.signals)) (reason_set s reason st.parts) st.folds

-- a step of the innermost fold, with these around it, and what stands after it: at its end the fold is closed
abbrev pub after : {R : Type 0} → Came R → List OpenFold → FoldStep × Standing R
after (Ends ps) around = (step.Finished, record { parts = ps; folds = around })
after (Gives s fold ps) around = (s, opened fold ps around)

-- the innermost fold goes on; with none open nothing is left to visit
abbrev pub stepped_in : {R : Type 0} → List OpenFold → Parts R → FoldStep × Standing R
stepped_in [] ps = after (Ends ps) []
stepped_in (fold ∷ around) ps = after (goes_on fold ps) around

abbrev pub stepped : {R : Type 0} → Standing R → FoldStep × Standing R
stepped st = stepped_in st.folds st.parts

-- the folds around the innermost one
abbrev pub outer : List OpenFold → List OpenFold
outer [] = []
outer (fold ∷ around) = around
