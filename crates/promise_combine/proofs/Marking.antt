-- The marks that tell which places have reported.
use Rattle.std.proofs.Common.{◌≡◌, ℕ, zero, suc, ◌<◌, ◌≤◌, arith, List, [], ◌∷◌, length, get_or, Bool, true, false, ◌||◌, refl, ap, sym, subst, ◌∙◌, inl, inr, get_or-set_same, get_or-set_other}
use Rattle.std.specs.Prelude.{◌==◌, ◌↔◌, IsTrue, not, replicate, slice_get, slice_set, unwrap_or}
use Rattle.std.proofs.lemmas.Bool.Decides.{eqb_tells}
use Rattle.std.proofs.lemmas.List.{length-set, length-replicate}
use Rattle.std.proofs.lemmas.Option.{unwrap_or-slice_get}
use Rattle.page_parts.specs.Words.{and_last, has_number}
use Rattle.page_parts.specs.Combinators.{Combine}
use Rattle.promise_combine.specs.Reports.{has_reported, AreMarked}

-- ---- No place has reported

unmarked : (n k : ℕ) → unwrap_or (slice_get (replicate n false) k) false ≡ false
unmarked zero k = refl
unmarked (suc n) zero = refl
unmarked (suc n) (suc k) = unmarked n k

pub marked-none : (n : ℕ) → AreMarked n [] (replicate n false)
marked-none n = record { each = length-replicate n false; told = unmarked n }

-- ---- One more place

or_true : (a b : Bool) → b ≡ true → (a || b) ≡ true
or_true true b h = refl
or_true false b h = h

has_number-own : (ks : List ℕ) (p k : ℕ) → (p == k) ≡ true → has_number (and_last ks p) k ≡ true
has_number-own [] p k h = ap (λ b. b || false) h
has_number-own (m ∷ ks) p k h = or_true (m == k) (has_number (and_last ks p) k) (has_number-own ks p k h)

has_number-other : (ks : List ℕ) (p k : ℕ) → (p == k) ≡ false → has_number (and_last ks p) k ≡ has_number ks k
has_number-other [] p k h = ap (λ b. b || false) h
has_number-other (m ∷ ks) p k h = ap (λ b. (m == k) || b) (has_number-other ks p k h)

pub marked-last : (n : ℕ) (ks : List ℕ) (ms : List Bool) (p : ℕ) → AreMarked n ks ms → p < n → AreMarked n (and_last ks p) (slice_set ms p true)
marked-last n ks ms p marked within = record { each = length-set ms p true ∙ marked.each; told = told }
  where
    inside : p < length ms
    inside = subst (λ l. p < l) (sym marked.each) within

    told : (k : ℕ) → unwrap_or (slice_get (slice_set ms p true) k) false ≡ has_number (and_last ks p) k
    told k =
        unwrap_or-slice_get (slice_set ms p true) k false
        ∙ elim (eqb_tells p k) [
          | inl e ↦ ap (λ i. get_or (slice_set ms p true) i false) (sym e.1) ∙ get_or-set_same ms p true false inside ∙ sym (has_number-own ks p k e.0)
          | inr e ↦ get_or-set_other ms p k true false (λ same. e.1 (sym same)) ∙ sym (unwrap_or-slice_get ms k false) ∙ marked.told k ∙ sym (has_number-other ks p k e.0)
        ]

-- ---- The mark at a place

closed : (m : Bool) → not m ≡ true → m ≡ false
closed true h = sym h
closed false h = refl

-- an element may report where its mark stands for no report
pub may_report-there : (now : Combine) (n place : ℕ) (ks : List ℕ) (ms : List Bool) (m : Bool) → AreMarked n ks ms → n ≡ now.count → has_reported place now ≡ has_number ks place
    → place < length ms → m ≡ get_or ms place false → IsTrue (not m) ↔ ((place < now.count) × (has_reported place now ≡ false))
may_report-there now n place ks ms m marked count same within read =
    let mark : m ≡ has_number ks place = read ∙ sym (unwrap_or-slice_get ms place false) ∙ marked.told place in
    let inside : place < now.count = subst (λ l. place < l) (marked.each ∙ count) within in (
      λ free. (inside, same ∙ sym mark ∙ closed m free),
      λ may. ap not (mark ∙ sym same ∙ may.1),
    )

-- and none may where there is no mark
pub may_report-past : (now : Combine) (n place : ℕ) (ks : List ℕ) (ms : List Bool) → AreMarked n ks ms → n ≡ now.count
    → length ms ≤ place → IsTrue false ↔ ((place < now.count) × (has_reported place now ≡ false))
may_report-past now n place ks ms marked count past = (
  λ free. cc,
  λ may. absurd (omega (arith, may.0, past, marked.each, count)),
)
