-- Lines that were compared with those of a trace: which of them it has.
use Rattle.std.proofs.Common.{◌≡◌, ℕ, suc, ◌+◌, Bool, true, false, cond, List, [], ◌∷◌, ◌++◌, length, Option, Some, None, refl, ap, ◌∙◌, arith, inl, inr}
use Rattle.std.specs.Prelude.{is_some}
use Rattle.std.proofs.lemmas.Bool.{eqb-true, eq-eqb}
use Rattle.page_parts.specs.TraceText.{line_text}
use Rattle.trace_text.specs.declared.lines.NoLine.TheVariants.{Failed, Differs}
use Rattle.trace_text.specs.Line.{Line, Head, Of}
use Rattle.trace_text.specs.Given.{after_all, next, StopsAmong}
use Rattle.trace_text.specs.Checks.{Kept, check_keeping, met, same_line}
use Rattle.trace_check.specs.Verdicts.{are_first, agreeing}
use Rattle.trace_check.proofs.OneLine.{text-same, bytes-same}

-- ---- lines that are the same

pub line-is : (a b : Line) → same_line a b ≡ true → a ≡ b
line-is (Head a) (Head b) h = ap Head (eqb-true a b h)
line-is (Of a) (Of b) h = ap Of (text-same a b h)
line-is (Head a) (Of b) h = absurd (cc)
line-is (Of a) (Head b) h = absurd (cc)

pub same-line : (a : Line) → same_line a a ≡ true
same-line (Head a) = eq-eqb a a refl
same-line (Of a) = bytes-same (line_text a)

-- ---- the first lines

-- some lines are the first ones of themselves with more behind
pub first-of : (lines rest : List Line) → are_first lines (lines ++ rest) ≡ true
first-of [] rest = refl
first-of (line ∷ lines) rest = let more = first-of lines rest in rw (same-line line, more) refl

-- ---- a comparison

abbrev kept : List Line → ℕ → Option Kept
kept left matched = Some (record { left = left; matched = matched })

none-stays : (lines : List Line) → after_all check_keeping None lines ≡ None
none-stays [] = refl
none-stays (line ∷ lines) = none-stays lines

-- what is left of a trace, of which all these lines were met
pub record Met (lines left : List Line) (matched : ℕ) (after : Option Kept) : Type 0 where
  pub rest : List Line
  pub whole : left ≡ lines ++ rest
  pub now : after ≡ kept rest (matched + length lines)

met-step : (line other : Line) (lines left : List Line) (matched : ℕ) (after : Option Kept) (same : Bool) → same_line other line ≡ same
    → (after ≡ after_all check_keeping (kept left (suc matched)) lines → Met lines left (suc matched) after)
    → after ≡ after_all check_keeping (cond same (kept left (suc matched)) None) lines → is_some after ≡ true → Met (line ∷ lines) (other ∷ left) matched after
met-step line other lines left matched after true same more is some =
    let m = more is in
    let first = line-is other line same in
    let counted : suc matched + length lines ≡ matched + length (line ∷ lines) = omega arith in
    record { rest = m.rest; whole = ap (λ l. l ∷ left) first ∙ ap (λ ls. line ∷ ls) m.whole; now = m.now ∙ ap (kept m.rest) counted }
met-step line other lines left matched after false same more is some = let none = is ∙ none-stays lines in absurd (cc)

pub all-met : (lines left : List Line) (matched : ℕ) (after : Option Kept) → after ≡ after_all check_keeping (kept left matched) lines → is_some after ≡ true → Met lines left matched after
all-met [] left matched after is some = let counted : matched ≡ matched + 0 = omega arith in record { rest = left; whole = refl; now = is ∙ ap (kept left) counted }
all-met (line ∷ lines) [] matched after is some = let none = is ∙ none-stays lines in absurd (cc)
all-met (line ∷ lines) (other ∷ left) matched after is some =
    met-step line other lines left matched after (same_line other line) refl (λ is. all-met lines left (suc matched) after is some) is some

-- ---- a line that differs

stopped-none : (lines : List Line) (after : Option Kept) → StopsAmong check_keeping Differs None lines after → after ≡ None
stopped-none [] after h = absurd h.0
stopped-none (line ∷ lines) after (inl h) = h.0
stopped-none (line ∷ lines) after (inr h) = stopped-none lines after h

-- the lines that were met before the first one that is another, which there is
pub record Differed (lines left : List Line) (matched : ℕ) (now : Kept) : Type 0 where
  pub counted : now.matched ≡ matched + agreeing lines left
  pub differs : are_first lines left ≡ false

differed-first : (line : Line) (lines left : List Line) (matched : ℕ) (now : Kept) → Some now ≡ kept left matched → met left matched line ≡ None → Differed (line ∷ lines) left matched now
differed-first line lines [] matched now is none =
    let same : now.matched ≡ matched = cc in
    record { counted = omega (arith, same); differs = refl }
differed-first line lines (other ∷ left) matched now is none = by_line (same_line other line) refl none
  where
    by_line : (same : Bool) → same_line other line ≡ same → cond same (kept left (suc matched)) None ≡ None → Differed (line ∷ lines) (other ∷ left) matched now
    by_line true e h = absurd (cc)
    by_line false e h =
        let same : now.matched ≡ matched = cc in
        record { counted = rw e (omega (arith, same)); differs = rw e refl }

pub one-differed : (lines left : List Line) (matched : ℕ) (now : Kept) → StopsAmong check_keeping Differs (kept left matched) lines (Some now) → Differed lines left matched now
one-differed [] left matched now h = absurd h.0
one-differed (line ∷ lines) left matched now (inl h) = differed-first line lines left matched now h.0 h.1
one-differed (line ∷ lines) [] matched now (inr h) = let none = stopped-none lines (Some now) h in absurd (cc)
one-differed (line ∷ lines) (other ∷ left) matched now (inr h) = by_line (same_line other line) refl h (one-differed lines left (suc matched) now)
  where
    by_line : (same : Bool) → same_line other line ≡ same → StopsAmong check_keeping Differs (cond same (kept left (suc matched)) None) lines (Some now)
        → (StopsAmong check_keeping Differs (kept left (suc matched)) lines (Some now) → Differed lines left (suc matched) now) → Differed (line ∷ lines) (other ∷ left) matched now
    by_line true e h more =
        let m = more h in
        let counted = m.counted in
        record { counted = rw e (omega (arith, counted)); differs = rw e m.differs }
    by_line false e h more = let none = stopped-none lines (Some now) h in absurd (cc)

-- ---- no line fails

pub none-failed : (lines : List Line) (told : Option Kept) (now : Kept) → StopsAmong check_keeping Failed told lines (Some now) → ⊥
none-failed [] told now h = h.0
none-failed (line ∷ lines) None now (inl h) = cc
none-failed (line ∷ lines) (Some before) now (inl h) = h.2
none-failed (line ∷ lines) told now (inr h) = none-failed lines (next check_keeping told line) now h
