-- Lines that are counted one by one.
use Rattle.std.proofs.Common.{◌≡◌, ◌≤◌, ℕ, suc, ◌+◌, ◌-◌, ◌^◌, ◌&&◌, IsTrue, length, min, Bool, true, false, cond, List, [], ◌∷◌, map, Option, Some, None, refl, sym, ap, ◌∙◌, arith}
use Rattle.page_types.specs.Counts.{raised}
use Rattle.page_types.specs.declared.End.{End}
use Rattle.page_types.specs.Events.{Event, EndLine, Stamped}
use Rattle.trace_text.specs.Line.{Of}
use Rattle.trace_text.specs.Given.{after_all}
use Rattle.trace_text.specs.Summaries.{Counts, is_turn, is_call, is_drop, is_settle, end_after, last_end, how_many, counts_of, counts_after, count_keeping}
use Rattle.trace_text.specs.Trace.{is_end, ends, are_in_order, is_whole}

-- a number and that of further events, lowered
abbrev pub more : (Event → Bool) → ℕ → List Stamped → ℕ
more test before es = min (before + how_many test es) (2 ^ 64 - 1)

lowered-more : (n k : ℕ) → min (min (n + 1) (2 ^ 64 - 1) + k) (2 ^ 64 - 1) ≡ min (n + suc k) (2 ^ 64 - 1)
lowered-more n k = omega arith

more-step : (test : Event → Bool) (before : ℕ) (e : Stamped) (es : List Stamped) (b : Bool) → test e.event ≡ b → more test (cond b (raised before) before) es ≡ more test before (e ∷ es)
more-step test before e es true is = rw is (lowered-more before (how_many test es))
more-step test before e es false is = rw is refl

-- the counts and those of further events
abbrev pub with_more : Counts → List Stamped → Counts
with_more c es = record { turns = more is_turn c.turns es; calls = more is_call c.calls es; drops = more is_drop c.drops es; settles = more is_settle c.settles es; end = last_end c.end es }

pub record IsLow (c : Counts) : Type 0 where
  turns : c.turns ≤ 2 ^ 64 - 1
  calls : c.calls ≤ 2 ^ 64 - 1
  drops : c.drops ≤ 2 ^ 64 - 1
  settles : c.settles ≤ 2 ^ 64 - 1

counted-low : (n : ℕ) (b : Bool) → n ≤ 2 ^ 64 - 1 → cond b (raised n) n ≤ 2 ^ 64 - 1
counted-low n true h = omega (arith, h)
counted-low n false h = h

after-low : (c : Counts) (event : Event) → IsLow c → IsLow (counts_after c event)
after-low c event low = record {
  turns = counted-low c.turns (is_turn event) low.turns;
  calls = counted-low c.calls (is_call event) low.calls;
  drops = counted-low c.drops (is_drop event) low.drops;
  settles = counted-low c.settles (is_settle event) low.settles;
}

lowered-none : (n : ℕ) → n ≤ 2 ^ 64 - 1 → n ≡ min (n + 0) (2 ^ 64 - 1)
lowered-none n h = omega (arith, h)

more-none : (test : Event → Bool) (n : ℕ) → n ≤ 2 ^ 64 - 1 → n ≡ more test n []
more-none test n h = lowered-none n h

same_counts : {a a' b b' c c' d d' : ℕ} {end : Option End} → a ≡ a' → b ≡ b' → c ≡ c' → d ≡ d'
    → ◌≡◌ {A = Counts} (record { turns = a; calls = b; drops = c; settles = d; end = end }) (record { turns = a'; calls = b'; drops = c'; settles = d'; end = end })
same_counts h i j k = rw (h, i, j, k) refl

-- the counts after the lines of some events
pub after-lines : (c : Counts) (es : List Stamped) → IsLow c → after_all count_keeping (Some c) (map Of es) ≡ Some (with_more c es)
after-lines c [] low = ap Some (same_counts (more-none is_turn c.turns low.turns) (more-none is_call c.calls low.calls) (more-none is_drop c.drops low.drops) (more-none is_settle c.settles low.settles))
after-lines c (e ∷ es) low =
    after-lines (counts_after c e.event) es (after-low c e.event low)
    ∙ ap Some (same_counts (more-step is_turn c.turns e es _ refl) (more-step is_call c.calls e es _ refl) (more-step is_drop c.drops e es _ refl) (more-step is_settle c.settles e es _ refl))

none-low : IsLow (counts_of [])
none-low = record { turns = omega arith; calls = omega arith; drops = omega arith; settles = omega arith }

from_none : (k : ℕ) → min (min 0 (2 ^ 64 - 1) + k) (2 ^ 64 - 1) ≡ min k (2 ^ 64 - 1)
from_none k = omega arith

pub lines-counted : (es : List Stamped) → after_all count_keeping (Some (counts_of [])) (map Of es) ≡ Some (counts_of es)
lines-counted es =
    after-lines (counts_of []) es none-low
    ∙ ap Some (same_counts (from_none (how_many is_turn es)) (from_none (how_many is_call es)) (from_none (how_many is_drop es)) (from_none (how_many is_settle es)))

ends-told : (before : Option End) (event : Event) → is_end event ≡ true → end_after before event ≡ None → ⊥
ends-told before (EndLine end) is none = cc
ends-told before event is none = cc

-- a whole trace has an end
pub end-told : (before : Option End) (es : List Stamped) → ends es ≡ true → last_end before es ≡ None → ⊥
end-told before [] is none = cc
end-told before (e ∷ []) is none = ends-told before e.event is none
end-told before (e ∷ next ∷ es) is none = end-told (end_after before e.event) (next ∷ es) is none

pub empty_by_length : {X : Type 0} (xs : List X) → length xs ≡ 0 → xs ≡ []
empty_by_length [] none = refl
empty_by_length (x ∷ xs) none = absurd (omega (arith, none))

right_of : (a b : Bool) → (a && b) ≡ true → b ≡ true
right_of true b is = is
right_of false b is = cc

whole-ends : (es : List Stamped) → IsTrue (is_whole es) → ends es ≡ true
whole-ends es whole = right_of (are_in_order es) (ends es) whole

-- once all lines of a whole trace are counted, its end is told
pub all_counted : (counts : Counts) (rest es : List Stamped) → rest ≡ [] → after_all count_keeping (Some counts) (map Of rest) ≡ Some (counts_of es) → counts.end ≡ None → IsTrue (is_whole es) → ⊥
all_counted counts [] es empty is none whole = let same : counts ≡ counts_of es = cc in end-told None es (whole-ends es whole) (ap (λ (c : Counts). c.end) (sym same) ∙ none)
all_counted counts (e ∷ rest) es empty is none whole = cc
