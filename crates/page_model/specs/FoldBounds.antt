-- How many callbacks an open fold may still call, and the bounds of a page by which it is a number of 64 bits.
use Rattle.std.specs.Prelude.{◌≡◌, ℕ, ◌+◌, ◌*◌, ◌^◌, ◌≤◌, ◌<◌, true, if◌then◌else◌, List, [], ◌∷◌, length, ⊤, codes, ◌==◌}
use Rattle.page_types.specs.Values.{Value}
use Rattle.page_types.specs.declared.Priority.{Priority}
use Rattle.page_parts.specs.Words.{is_there}
use Rattle.page_parts.specs.AbortGraph.{Signals, the_signal}
use Rattle.page_parts.specs.TaskSignals.{Prios, same_priority, record_of, followers}
use Rattle.page_parts.specs.Listeners.{Listener, AtSignal, snapshot}
use Rattle.lang_meaning.specs.HostSteps.{HostStep, StepValue, StepThrow, StepInvoke}
use Rattle.page_model.specs.State.{Page}
use Rattle.page_model.specs.Folds.{ChangePiece, ChangeOf, EndChange, Rest, AbortsLeft, ChangesLeft, Fold}
use Rattle.page_model.specs.PageHost.{Hosting}

-- ---- Ours: how many callbacks are left

-- how many signals have a priority other than this one
abbrev pub others : Priority → Prios → ℕ
others priority [] = 0
others priority (r ∷ rs) = (if same_priority r.priority priority then 0 else 1) + others priority rs

-- how many listeners hear the abort of a signal
abbrev pub heard : List Listener → ℕ → ℕ
heard ls s = length (snapshot (AtSignal s) (codes "abort") ls)

-- the same of several signals
abbrev pub all_heard : List Listener → List ℕ → ℕ
all_heard ls [] = 0
all_heard ls (s ∷ ss) = heard ls s + all_heard ls ss

-- what is counted of a page: its registrations, its listeners, its signals and its signals with a priority
pub record Counted : Type 0 where
  pub registrations : ℕ
  pub listeners : List Listener
  pub signals : Signals Value
  pub prios : Prios

-- those of a page
abbrev pub counted : Page → Counted
counted p = record { registrations = length p.registrations; listeners = p.listeners; signals = p.signals; prios = p.prios }

-- how many callbacks may still come after the listeners: those that hear the aborts; and of a priority change fewer than 2 ^ 32 for each
-- signal that has another priority,
-- since each change that is not passed over gives the priority to one more signal
abbrev pub rest_left : Counted → Rest → ℕ
rest_left c (AbortsLeft ss) = all_heard c.listeners ss
rest_left c (ChangesLeft priority more) = others priority c.prios * (2 ^ 32)

-- how many callbacks of a fold may still come
abbrev pub fold_left : Counted → Fold → ℕ
fold_left c fold = rest_left c fold.rest + length fold.listeners

-- the same of the innermost of these folds
abbrev pub innermost_left : Counted → List Fold → ℕ
innermost_left c [] = 0
innermost_left c (fold ∷ folds) = fold_left c fold

-- how many callbacks may still come under the ticket of the innermost fold, where none of them takes fuel
abbrev pub to_visit : Hosting → ℕ → ℕ
to_visit h ticket = innermost_left (counted h.page) h.folds

-- ---- Ours: bounds

-- a signal has a priority
abbrev pub HasRecord : Prios → ℕ → Type 0
HasRecord ps s = is_there (record_of ps s) ≡ true

-- each of these signals has a priority
abbrev pub AllHaveRecords : Prios → List ℕ → Type 0
AllHaveRecords ps [] = ⊤
AllHaveRecords ps (s ∷ ss) = HasRecord ps s × AllHaveRecords ps ss

-- how many times a number is in a list
abbrev pub times : List ℕ → ℕ → ℕ
times [] n = 0
times (m ∷ ms) n = (if n == m then 1 else 0) + times ms n

-- fewer than 2 ^ 32 registrations, each listener with its own; fewer than 2 ^ 32 signals, each of which depends on another one at most
-- once; each with a priority at most once;
-- and each signal that follows another has a priority.
pub record AreBounded (c : Counted) : Type 0 where
  pub registrations : c.registrations ≤ 4294967295
  pub listeners : length c.listeners ≤ c.registrations
  pub signals : length c.signals ≤ 4294967295
  pub dependents : (s d : ℕ) → times (the_signal c.signals s).dependents d ≤ 1
  pub none_ahead : (s d : ℕ) → length c.signals < d → times (the_signal c.signals s).dependents d ≡ 0
  pub prios : length c.prios ≤ length c.signals
  pub followers : (s : ℕ) → AllHaveRecords c.prios (followers c.prios s)

-- a page is within these bounds
abbrev pub IsBounded : Page → Type 0
IsBounded p = AreBounded (counted p)

-- each signal that is still to change has a priority
abbrev pub CanChange : Prios → List ChangePiece → Type 0
CanChange ps [] = ⊤
CanChange ps (ChangeOf n s ∷ more) = HasRecord ps s × CanChange ps more
CanChange ps (EndChange s ∷ more) = CanChange ps more

-- what comes after the listeners is within the bounds
abbrev pub RestIsBounded : Prios → Rest → Type 0
RestIsBounded ps (AbortsLeft ss) = (s : ℕ) → times ss s ≤ 2
RestIsBounded ps (ChangesLeft priority more) = CanChange ps more

-- a fold is within the bounds
abbrev pub FoldIsBounded : Prios → Fold → Type 0
FoldIsBounded ps fold = (length fold.listeners ≤ 4294967295) × RestIsBounded ps fold.rest

-- each of these folds is
abbrev pub FoldsAreBounded : Prios → List Fold → Type 0
FoldsAreBounded ps [] = ⊤
FoldsAreBounded ps (fold ∷ folds) = FoldIsBounded ps fold × FoldsAreBounded ps folds

-- the page and its open folds are
abbrev pub HostIsBounded : Hosting → Type 0
HostIsBounded h = IsBounded h.page × FoldsAreBounded h.page.prios h.folds

-- where a callback comes next, fewer are left than so many
abbrev pub FewerLeft : (ℕ → ℕ) → ℕ → HostStep → Type 0
FewerLeft left before (StepValue v) = ⊤
FewerLeft left before (StepThrow v) = ⊤
FewerLeft left before (StepInvoke f args ticket) = left ticket < before
