-- The names before a place, and the fault of the name there.
use Rattle.std.proofs.Common.{◌≡◌, ℕ, zero, suc, ◌+◌, ◌<◌, ◌≤◌, List, [], ◌∷◌, ◌++◌, take, length, get_or, Option, Some, None, inl, inr, refl, sym, ap, ◌∙◌, arith}
use Rattle.std.specs.Prelude.{slice_get}
use Rattle.std.proofs.lemmas.Option.{slice_get_past}
use Rattle.std.proofs.lemmas.Bool.{cases_eq, cases_lt}
use Rattle.lang_ast.specs.NameFaults.{Fault, fault_of, fault_in, fault_at}
use Rattle.lang_names.specs.declared.occurrence.Occurrence.{Occurrence}
use Rattle.lang_names.specs.Collected.{seen_occurrence, seen_all}

take_one_more : (xs : List Occurrence) (i : ℕ) (x : Occurrence) → x ≡ get_or xs i x → i < length xs → seen_all (take (suc i) xs) ≡ seen_all (take i xs) ++ seen_occurrence x ∷ []
take_one_more [] i x e lt = absurd (omega arith)
take_one_more (y ∷ xs) zero x e lt = ap (λ z. seen_occurrence z ∷ []) (sym e)
take_one_more (y ∷ xs) (suc i) x e lt = ap (λ os. seen_occurrence y ∷ os) (take_one_more xs i x e (omega arith))

pub one_more : (xs : List Occurrence) (i : ℕ) (x : Occurrence) → x ≡ get_or xs i x → i < length xs → seen_all (take (i + 1) xs) ≡ seen_all (take i xs) ++ seen_occurrence x ∷ []
one_more xs i x e lt = let n : i + 1 ≡ suc i = omega arith in ap (λ k. seen_all (take k xs)) n ∙ take_one_more xs i x e lt

-- where nothing was found before a place, nor there, nothing was found before the next
pub none_more : (f : ℕ → Option Fault) (i : ℕ) → ((j : ℕ) → j < i → f j ≡ None) → f i ≡ None → (j : ℕ) → j < i + 1 → f j ≡ None
none_more f i before here j lt = elim (cases_eq j i) [ inl e ↦ ap f e ∙ here | inr apart ↦ before j (omega (arith, lt, apart)) ]

taken : (xs : List Occurrence) (i : ℕ) → take i (seen_all xs) ≡ seen_all (take i xs)
taken [] zero = refl
taken [] (suc i) = refl
taken (y ∷ xs) zero = refl
taken (y ∷ xs) (suc i) = ap (λ os. seen_occurrence y ∷ os) (taken xs i)

at_place : (xs : List Occurrence) (i : ℕ) (x : Occurrence) → x ≡ get_or xs i x → i < length xs → slice_get (seen_all xs) i ≡ Some (seen_occurrence x)
at_place [] i x e lt = absurd (omega arith)
at_place (y ∷ xs) zero x e lt = ap (λ z. Some (seen_occurrence z)) (sym e)
at_place (y ∷ xs) (suc i) x e lt = at_place xs i x e (omega arith)

pub fault_here : (xs : List Occurrence) (i : ℕ) (x : Occurrence) → x ≡ get_or xs i x → i < length xs → fault_at (seen_all xs) i ≡ fault_of (seen_all xs) (seen_all (take i xs)) (seen_occurrence x)
fault_here xs i x e lt =
    ap (λ before. fault_in (seen_all xs) before (slice_get (seen_all xs) i)) (taken xs i) ∙ ap (fault_in (seen_all xs) (seen_all (take i xs))) (at_place xs i x e lt)

length_seen : (xs : List Occurrence) → length (seen_all xs) ≡ length xs
length_seen [] = refl
length_seen (x ∷ xs) = ap suc (length_seen xs)

pub none_past : (xs : List Occurrence) (i : ℕ) → length xs ≤ i → fault_at (seen_all xs) i ≡ None
none_past xs i past = let e = length_seen xs in ap (fault_in (seen_all xs) (take i (seen_all xs))) (slice_get_past (seen_all xs) i (omega (arith, e, past)))

-- nothing was found before the end, so there is nothing
pub none_at_all : (xs : List Occurrence) (i : ℕ) → length xs ≤ i → ((j : ℕ) → j < i → fault_at (seen_all xs) j ≡ None) → (place : ℕ) → fault_at (seen_all xs) place ≡ None
none_at_all xs i past before place = elim (cases_lt place i) [ inl lt ↦ before place lt | inr ge ↦ none_past xs place (omega (arith, past, ge)) ]
