-- What the part keeps.
use Rattle.std.specs.Prelude.{◌≡◌, ℕ, ◌<◌, ◌≤◌, List, [], ◌∷◌, length, ⊤, Some}
use Rattle.std.specs.List.{AllByRecursion}
use Rattle.page_parts.specs.AbortGraph.{SignalRecord, Signals, reason_of}
use Rattle.page_parts.specs.TaskSignals.{Prios, followers}
use Rattle.page_model.specs.State.{Page}
use Rattle.page_model.specs.Folds.{Rest, AbortsLeft, ChangesLeft}
use Rattle.page_model.specs.FoldBounds.{AllHaveRecords, CanChange}
use Rattle.abort_graph.specs.ByValue.{AreAmong}
use Rattle.page_folds.specs.Steps.{Parts, Stage, Between, Algorithms, ToTell, ToFire, Calling, OpenFold, Standing}
use Rattle.page_folds.specs.OfModel.{Fits}
use Rattle.page_signals.specs.declared.opened.Kind.{Kind}
use Rattle.page_signals.specs.declared.opened.Kind.TheVariants.{Dispatch, Abort, Change}
use Rattle.page_signals.specs.declared.opened.Open as code
use Rattle.page_signals.specs.Registrations.{AreRegistrations}
use Rattle.page_signals.specs.Signalling.{Open, Signalling, with_signalling}

-- ---- what callers know

-- what is left of an open fold fits its kind, on every page with these fields
abbrev pub FoldFits : Signalling → Open → Type 0
FoldFits st o = (p : Page) → Fits o.kind o.fold.rest (with_signalling st p)

-- that is so for each open fold
abbrev pub AreFitting : Signalling → Type 0
AreFitting st = AllByRecursion (FoldFits st) st.folds

-- ---- what the code keeps

-- the dependent signals of a signal are among the first m, and its algorithms are registrations
pub record IsSound (m : ℕ) (q : SignalRecord ℕ) : Type 0 where
  pub dependents : AllByRecursion (λ d. (0 < d) × (d ≤ m)) q.dependents
  pub algorithms : AreRegistrations q.algorithms

abbrev pub AreSound : ℕ → Signals ℕ → Type 0
AreSound m ss = AllByRecursion (IsSound m) ss

-- these signals are aborted, with this reason
abbrev pub HaveReason : ℕ → Signals ℕ → List ℕ → Type 0
HaveReason n ss left = AllByRecursion (λ s. reason_of ss s ≡ Some n) left

-- each signal that follows another has a priority
abbrev pub FollowersHave : Prios → Type 0
FollowersHave ps = (s : ℕ) → AllHaveRecords ps (followers ps s)

-- what comes after a stage fits the kind: an abort has one of the first n reasons, a change is one to its priority
abbrev pub RestFits : ℕ → Parts ℕ → Kind → Rest → Type 0
RestFits n ps (Dispatch args) (AbortsLeft []) = ⊤
RestFits n ps (Abort r) (AbortsLeft left) = (r < n) × HaveReason r ps.signals left
RestFits n ps (Change to before) (ChangesLeft priority more) = (to ≡ priority) × CanChange ps.prios more
RestFits n ps kind rest = ⊥

-- algorithms that are left are registrations, and what is to be told is of a change
abbrev pub StageFits : Kind → Stage → Type 0
StageFits kind Between = ⊤
StageFits kind (Algorithms s left) = AreRegistrations left
StageFits (Change to before) (ToTell s own) = ⊤
StageFits kind (ToTell s own) = ⊥
StageFits kind (ToFire s) = ⊤
StageFits kind (Calling target left) = ⊤

-- as many kinds as folds, each of which fits
abbrev pub AreOpen : ℕ → Parts ℕ → List code.Open → List OpenFold → Type 0
AreOpen n ps [] [] = ⊤
AreOpen n ps (o ∷ os) (fold ∷ folds) =
    RestFits n ps o.kind fold.rest × StageFits o.kind fold.stage × AreOpen n ps os folds
AreOpen n ps os folds = ⊥

-- the first n values are those of reasons
pub record IsKept (n : ℕ) (st : Standing ℕ) (opened : List code.Open) : Type 0 where
  pub among : AreAmong n st.parts.signals
  pub sound : AreSound (length st.parts.signals) st.parts.signals
  pub followers : FollowersHave st.parts.prios
  pub folds : AreOpen n st.parts opened st.folds
