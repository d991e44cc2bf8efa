-- The folds of the code as those of the definitions.
use Rattle.std.specs.Prelude.{◌≡◌, ℕ, ◌-◌, List, [], ◌∷◌, map, reverse, Option, Some, None}
use Rattle.std.specs.Vec.Iter.{into_iter_items}
use Rattle.page_types.specs.declared.Priority.{Priority}
use Rattle.page_parts.specs.AbortGraph.{Signals}
use Rattle.page_parts.specs.Listeners.{Listener}
use Rattle.page_parts.specs.TaskSignals.{Prios, followers, begun}
use Rattle.page_model.specs.Folds.{ChangePiece, EndChange, Rest, AbortsLeft, ChangesLeft, changes_of}
use Rattle.page_folds.specs.declared.step.FoldStep.{FoldStep}
use Rattle.page_folds.specs.declared.step.FoldStep.TheVariants as step
use Rattle.page_folds.specs.declared.stage.Stage as code
use Rattle.page_folds.specs.declared.stage.Stage.TheVariants as code_stage
use Rattle.page_folds.specs.declared.stage.Advance.{Advance}
use Rattle.page_folds.specs.declared.changes.Level.{Level}
use Rattle.page_folds.specs.declared.changes.Begun.{Begun}
use Rattle.page_folds.specs.declared.changes.Changes.{Changes}
use Rattle.page_folds.specs.declared.changes.Told.{Told}
use Rattle.page_folds.specs.declared.fold.Rest as code_rests
use Rattle.page_folds.specs.declared.fold.Rest.TheVariants as code_rest
use Rattle.page_folds.specs.declared.fold.Fold.{Fold}
use Rattle.page_folds.specs.declared.fold.Next.{Next}
use Rattle.page_folds.specs.declared.folds.Folds.{Folds}
use Rattle.page_folds.specs.Steps.{Parts, Stage, Between, Algorithms, ToTell, ToFire, Calling, OpenFold, Came, Ends, Gives, before_change, aborts_from, changes_from, goes_on, Standing}

abbrev pub stage_seen : code.Stage → Stage
stage_seen code_stage.Between = Between
stage_seen (code_stage.Algorithms s left) = Algorithms s (into_iter_items left)
stage_seen (code_stage.ToTell s before) = ToTell s before
stage_seen (code_stage.ToFire s) = ToFire s
stage_seen (code_stage.Calling target left) = Calling target left

abbrev pub advance_seen : Option Advance → Option (FoldStep × Stage)
advance_seen None = None
advance_seen (Some a) = Some (a.step, stage_seen a.stage)

-- the changes in progress, the innermost first: of each its followers that are left, and its end
abbrev pub pieces_of : List Level → List ChangePiece
pieces_of [] = []
pieces_of (l ∷ outer) = changes_of l.chain (into_iter_items l.followers) (EndChange l.signal ∷ pieces_of outer)

abbrev pub rest_seen : code_rests.Rest → Rest
rest_seen (code_rest.Aborts left) = AbortsLeft (into_iter_items left)
rest_seen (code_rest.Changes left) = ChangesLeft left.priority (pieces_of left.levels.items)

abbrev pub fold_seen : Fold → OpenFold
fold_seen f = record { stage = stage_seen f.stage; rest = rest_seen f.rest }

-- an open fold with this stage and what comes then
abbrev pub fold_of : code.Stage → code_rests.Rest → OpenFold
fold_of stage rest = fold_seen (record { stage = stage; rest = rest })

-- a change of signal number s to this priority that has begun, or was passed over
abbrev pub IsBegun : (chain s : ℕ) (priority : Priority) → (old : Prios) → Option Begun → (new : Prios) → Type 0
IsBegun chain s priority before None after = (before_change chain before s priority ≡ None) × (after ≡ before)
IsBegun chain s priority before (Some b) after =
    (before_change chain before s priority ≡ Some b.before)
    × (after ≡ begun s priority before)
    × (pieces_of (b.level ∷ []) ≡ changes_of (chain - 1) (followers before s) (EndChange s ∷ []))

-- what the next change comes to
abbrev pub came_to_told : {R : Type 0} → Option Told → Parts R → Came R
came_to_told None ps = Ends ps
came_to_told (Some t) ps =
    Gives (step.Changed t.signal t.before)
    (record { stage = ToFire t.signal; rest = ChangesLeft t.left.priority (pieces_of t.left.levels.items) })
    ps

-- what a step comes to
abbrev pub came_to : {R : Type 0} → Option Next → Parts R → Came R
came_to None ps = Ends ps
came_to (Some n) ps = Gives n.step (fold_seen n.fold) ps

-- A call goes on from the parts `old_…` as the definitions do, to this and the parts `new_…`. It reads the listeners.

-- a fold by one step
abbrev pub GoesOn : {R : Type 0} → Fold → List Listener → (old_signals : Signals R) → (old_prios : Prios) → Option Next
    → (new_signals : Signals R) → (new_prios : Prios) → Type 0
GoesOn fold ls old_signals old_prios next new_signals new_prios =
    came_to next (record { listeners = ls; signals = new_signals; prios = new_prios })
    ≡ goes_on (fold_seen fold) (record { listeners = ls; signals = old_signals; prios = old_prios })

-- the abort steps of these signals, whatever the priorities are
abbrev pub AbortsOn : {R : Type 0} → (left : List ℕ) → List Listener → (old_signals : Signals R) → Option Next
    → (new_signals : Signals R) → Type 0
AbortsOn left ls old_signals next new_signals =
    (prios : Prios) →
    came_to next (record { listeners = ls; signals = new_signals; prios = prios })
    ≡ aborts_from left (record { listeners = ls; signals = old_signals; prios = prios })

-- changes, whatever the listeners and signals are
abbrev pub ChangesOn : Changes → (old_prios : Prios) → Option Next → (new_prios : Prios) → Type 0
ChangesOn changes old_prios next new_prios =
    (ls : List Listener) (ss : Signals ℕ) →
    came_to next (record { listeners = ls; signals = ss; prios = new_prios })
    ≡ changes_from changes.priority (pieces_of changes.levels.items) (record { listeners = ls; signals = ss; prios = old_prios })

-- the same, of the change that is to be told
abbrev pub TellsOn : Changes → (old_prios : Prios) → Option Told → (new_prios : Prios) → Type 0
TellsOn changes old_prios told new_prios =
    (ls : List Listener) (ss : Signals ℕ) →
    came_to_told told (record { listeners = ls; signals = ss; prios = new_prios })
    ≡ changes_from changes.priority (pieces_of changes.levels.items) (record { listeners = ls; signals = ss; prios = old_prios })

-- the parts, and the open folds of which the innermost stands last
abbrev pub parts_of : Folds → Parts ℕ
parts_of f = record { listeners = f.listeners; signals = f.signals; prios = f.prios }

abbrev pub open_of : Folds → List OpenFold
open_of f = reverse (map fold_seen f.open_folds.items)

abbrev pub standing : Folds → Standing ℕ
standing f = record { parts = parts_of f; folds = open_of f }
