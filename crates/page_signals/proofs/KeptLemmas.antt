-- What the part keeps, call by call.
use Rattle.std.proofs.Common.{◌≡◌, ℕ, ◌≤◌, List, [], ◌∷◌, length, sym, subst, arith}
use Rattle.page_parts.specs.AbortGraph.{Signals}
use Rattle.page_parts.specs.TaskSignals.{Prios}
use Rattle.page_model.specs.Folds.{Rest, AbortsLeft, ChangesLeft}
use Rattle.abort_graph.specs.ByValue.{AreAmong}
use Rattle.page_folds.specs.Steps.{Parts, OpenFold, Standing}
use Rattle.page_signals.specs.declared.opened.Kind.{Kind}
use Rattle.page_signals.specs.declared.opened.Kind.TheVariants.{Dispatch, Abort, Change}
use Rattle.page_signals.specs.declared.opened.Open as code
use Rattle.page_signals.specs.Kept.{FollowersHave, RestFits, StageFits, AreOpen, AreSound, IsKept}
use Rattle.page_signals.proofs.GraphLemmas.{Later, AreWell, have-later}
use Rattle.page_signals.proofs.PrioLemmas.{StillHas, can-still}

-- parts that come after others: reasons and records stay
pub record After (n m : ℕ) (ps qs : Parts ℕ) : Type 0 where
  pub more : n ≤ m
  pub later : Later ps.signals qs.signals
  pub still : StillHas ps.prios qs.prios

pub rest-after : (n m : ℕ) (ps qs : Parts ℕ) → After n m ps qs → (kind : Kind) (rest : Rest) → RestFits n ps kind rest → RestFits m qs kind rest
rest-after n m ps qs after (Dispatch args) (AbortsLeft []) fits = tt
rest-after n m ps qs after (Dispatch args) (AbortsLeft (s ∷ ss)) fits = absurd fits
rest-after n m ps qs after (Dispatch args) (ChangesLeft priority more) fits = absurd fits
rest-after n m ps qs after (Abort r) (AbortsLeft left) fits = (omega (arith, fits.0, after.more), have-later r ps.signals qs.signals left after.later fits.1)
rest-after n m ps qs after (Abort r) (ChangesLeft priority more) fits = absurd fits
rest-after n m ps qs after (Change to before) (AbortsLeft left) fits = absurd fits
rest-after n m ps qs after (Change to before) (ChangesLeft priority more) fits = (fits.0, can-still ps.prios qs.prios more after.still fits.1)

pub open-after : (n m : ℕ) (ps qs : Parts ℕ) → After n m ps qs → (os : List code.Open) (folds : List OpenFold) → AreOpen n ps os folds → AreOpen m qs os folds
open-after n m ps qs after [] [] fit = tt
open-after n m ps qs after [] (fold ∷ folds) fit = absurd fit
open-after n m ps qs after (o ∷ os) [] fit = absurd fit
open-after n m ps qs after (o ∷ os) (fold ∷ folds) fit =
    (rest-after n m ps qs after o.kind fold.rest fit.0, fit.1, open-after n m ps qs after os folds fit.2)

-- other signals
pub kept-signals : (n m : ℕ) (st : Standing ℕ) (os : List code.Open) (ss : Signals ℕ) → n ≤ m → Later st.parts.signals ss → AreAmong m ss → AreWell ss
    → IsKept n st os → IsKept m (record st { parts = record st.parts { signals = ss } }) os
kept-signals n m st os ss le later among well kept =
    record {
      among = among;
      sound = well;
      followers = kept.followers;
      folds = open-after n m st.parts (record st.parts { signals = ss }) (record { more = le; later = later; still = λ s h. h }) os st.folds kept.folds;
    }

-- other priorities
pub kept-prios : (n : ℕ) (st : Standing ℕ) (os : List code.Open) (ps : Prios) → StillHas st.parts.prios ps → FollowersHave ps
    → IsKept n st os → IsKept n (record st { parts = record st.parts { prios = ps } }) os
kept-prios n st os ps still have kept =
    record {
      among = kept.among;
      sound = kept.sound;
      followers = have;
      folds = open-after n n st.parts (record st.parts { prios = ps }) (record { more = omega arith; later = λ s n h. h; still = still }) os st.folds kept.folds;
    }

-- one more fold
pub kept-opened : (n : ℕ) (st : Standing ℕ) (os : List code.Open) (o : code.Open) (fold : OpenFold) → RestFits n st.parts o.kind fold.rest
    → StageFits o.kind fold.stage → IsKept n st os → IsKept n (record st { folds = fold ∷ st.folds }) (o ∷ os)
kept-opened n st os o fold rest stage kept =
    record { among = kept.among; sound = kept.sound; followers = kept.followers; folds = (rest, stage, kept.folds) }

-- the priorities alone
pub kept-lost : (n : ℕ) (st : Standing ℕ) (os : List code.Open) → st.parts.signals ≡ [] → st.folds ≡ [] → os ≡ [] → FollowersHave st.parts.prios → IsKept n st os
kept-lost n st os signals folds none have =
    let A : Signals ℕ → Type 0 = AreAmong n in
    let S : Signals ℕ → Type 0 = λ ss. AreSound (length ss) ss in
    let F : List OpenFold → Type 0 = λ fs. AreOpen n st.parts os fs in
    let O : List code.Open → Type 0 = λ xs. AreOpen n st.parts xs [] in
    record { among = subst A (sym signals) tt; sound = subst S (sym signals) tt; followers = have; folds = subst F (sym folds) (subst O (sym none) tt) }
