-- What callers know of open folds.
use Rattle.std.proofs.Common.{◌≡◌, ℕ, suc, List, [], ◌∷◌, length, refl, ap, ◌∙◌}
use Rattle.std.specs.Prelude.{unwrap_or, option_map}
use Rattle.std.specs.List.{AllByRecursion}
use Rattle.page_types.specs.Values.{Value, UnitValue}
use Rattle.page_model.specs.State.{Page}
use Rattle.page_model.specs.Folds.{Rest, AbortsLeft, ChangesLeft}
use Rattle.abort_graph.specs.ByValue.{value_in}
use Rattle.abort_graph.proofs.ByValueLemmas.{reason_by}
use Rattle.page_folds.specs.Steps.{Parts, OpenFold, Standing}
use Rattle.page_folds.specs.Calls.{calls_in}
use Rattle.page_folds.specs.OfModel.{Fits, HaveReason as PageHasReason, page_with, parts_by}
use Rattle.page_signals.specs.declared.opened.Kind.{Kind}
use Rattle.page_signals.specs.declared.opened.Kind.TheVariants.{Dispatch, Abort, Change}
use Rattle.page_signals.specs.declared.opened.Open as code
use Rattle.page_signals.specs.Signalling.{Open, with_parts}
use Rattle.page_signals.specs.Steps.{is_calling_in}
use Rattle.page_signals.specs.Seen.{kind_seen, opens_of}
use Rattle.page_signals.specs.Kept.{FoldFits, AreFitting, HaveReason, RestFits, AreOpen, IsKept}
use Rattle.page_signals.proofs.StepLemmas.{seen_by}

have-seen : (values : List Value) (r : ℕ) (ps : Parts ℕ) (p : Page) (left : List ℕ) → HaveReason r ps.signals left
    → PageHasReason (value_in values r) (page_with (parts_by (value_in values) ps) p) left
have-seen values r ps p [] have = tt
have-seen values r ps p (s ∷ left) have =
    (ap (λ o. unwrap_or o UnitValue) (reason_by (value_in values) ps.signals s ∙ ap (option_map (value_in values)) have.0), have-seen values r ps p left have.1)

rest-seen : (n : ℕ) (values : List Value) (ps : Parts ℕ) (p : Page) (kind : Kind) (rest : Rest) → RestFits n ps kind rest
    → Fits (kind_seen values kind) rest (page_with (parts_by (value_in values) ps) p)
rest-seen n values ps p (Dispatch args) (AbortsLeft []) fits = tt
rest-seen n values ps p (Dispatch args) (AbortsLeft (s ∷ left)) fits = absurd fits
rest-seen n values ps p (Dispatch args) (ChangesLeft priority more) fits = absurd fits
rest-seen n values ps p (Abort r) (AbortsLeft left) fits = have-seen values r ps p left fits.1
rest-seen n values ps p (Abort r) (ChangesLeft priority more) fits = absurd fits
rest-seen n values ps p (Change to before) (AbortsLeft left) fits = absurd fits
rest-seen n values ps p (Change to before) (ChangesLeft priority more) fits = fits.1

opens-fit : (n : ℕ) (values : List Value) (ps : Parts ℕ) (all : List Open) (os : List code.Open) (folds : List OpenFold) → AreOpen n ps os folds
    → AllByRecursion (FoldFits (with_parts (parts_by (value_in values) ps) all)) (opens_of values os folds)
opens-fit n values ps all [] [] fit = tt
opens-fit n values ps all [] (fold ∷ folds) fit = absurd fit
opens-fit n values ps all (o ∷ os) [] fit = absurd fit
opens-fit n values ps all (o ∷ os) (fold ∷ folds) fit =
    ((λ p. rest-seen n values ps p o.kind fold.rest fit.0), opens-fit n values ps all os folds fit.2)

-- what is left of each fold fits its kind
pub kept-fits : (n : ℕ) (values : List Value) (os : List code.Open) (st : Standing ℕ) → IsKept n st os → AreFitting (seen_by values os st)
kept-fits n values os st kept = opens-fit n values st.parts (opens_of values os st.folds) os st.folds kept.folds

-- as many kinds as folds
same-count : (n : ℕ) (values : List Value) (ps : Parts ℕ) (os : List code.Open) (folds : List OpenFold) → AreOpen n ps os folds
    → length (opens_of values os folds) ≡ length os
same-count n values ps [] [] fit = refl
same-count n values ps [] (fold ∷ folds) fit = absurd fit
same-count n values ps (o ∷ os) [] fit = absurd fit
same-count n values ps (o ∷ os) (fold ∷ folds) fit = ap suc (same-count n values ps os folds fit.2)

fold-count : (n : ℕ) (ps : Parts ℕ) (os : List code.Open) (folds : List OpenFold) → AreOpen n ps os folds → length folds ≡ length os
fold-count n ps [] [] fit = refl
fold-count n ps [] (fold ∷ folds) fit = absurd fit
fold-count n ps (o ∷ os) [] fit = absurd fit
fold-count n ps (o ∷ os) (fold ∷ folds) fit = ap suc (fold-count n ps os folds fit.2)

pub opened-count : (n : ℕ) (values : List Value) (os : List code.Open) (st : Standing ℕ) → IsKept n st os → length (seen_by values os st).folds ≡ length os
opened-count n values os st kept = same-count n values st.parts os st.folds kept.folds

pub folds-count : (n : ℕ) (os : List code.Open) (st : Standing ℕ) → IsKept n st os → length st.folds ≡ length os
folds-count n os st kept = fold-count n st.parts os st.folds kept.folds

-- whether the innermost fold calls listeners
pub calling-seen : (n : ℕ) (values : List Value) (os : List code.Open) (st : Standing ℕ) → IsKept n st os → calls_in st.folds ≡ is_calling_in (seen_by values os st).folds
calling-seen n values os st kept = by os st.folds kept.folds
  where
    by : (os : List code.Open) (folds : List OpenFold) → AreOpen n st.parts os folds → calls_in folds ≡ is_calling_in (opens_of values os folds)
    by [] [] fit = refl
    by [] (fold ∷ folds) fit = absurd fit
    by (o ∷ os) [] fit = absurd fit
    by (o ∷ os) (fold ∷ folds) fit = refl
