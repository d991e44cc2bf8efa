-- Numbers that are noted, and those among them whose promises are not handled.
use Rattle.std.proofs.Common.{◌≡◌, ℕ, zero, suc, ◌<◌, ◌≤◌, ◌-◌, arith, List, [], ◌∷◌, length, get_or, Bool, true, false, cond, not, ◌&&◌, ◌||◌, refl, ap, sym, ◌∙◌, inl, inr, get_or-set_same, get_or-set_other}
use Rattle.std.specs.Prelude.{slice_set, ◌==◌}
use Rattle.std.proofs.lemmas.Bool.Decides.{eqb_tells}
use Rattle.std.proofs.lemmas.Option.{unwrap_or-slice_get}
use Rattle.page_parts.specs.Words.{and_last, without, has_number, numbered}
use Rattle.page_parts.specs.Promises.{PromiseRecord, pending_promise}
use Rattle.promise_core.specs.Held.{unhandled}
use Rattle.page_notices.specs.Marks.{AreMarked}

-- ---- A mark for each number

-- a number was noted before, or it is the one at the end
has_number-last : (ns : List ℕ) (n m : ℕ) → has_number (and_last ns n) m ≡ (has_number ns m || (n == m))
has_number-last [] n m = by_test (n == m)
  where
    by_test : (b : Bool) → (b || false) ≡ b
    by_test true = refl
    by_test false = refl
has_number-last (k ∷ ns) n m = ap (λ b. (k == m) || b) (has_number-last ns n m) ∙ regroup (k == m)
  where
    regroup : (a : Bool) → (a || (has_number ns m || (n == m))) ≡ ((a || has_number ns m) || (n == m))
    regroup true = refl
    regroup false = refl

or_true : (a : Bool) → (a || true) ≡ true
or_true true = refl
or_true false = refl

or_false : (a : Bool) → (a || false) ≡ a
or_false true = refl
or_false false = refl

numbered-get_or : {X : Type 0} (xs : List X) (n : ℕ) (d : X) → numbered xs (suc n) d ≡ get_or xs n d
numbered-get_or xs n d = unwrap_or-slice_get xs n d

-- a mark that is set
marked : (marks : List Bool) (i n m : ℕ) → suc i ≡ n → n ≤ length marks → numbered (slice_set marks i true) m false ≡ (numbered marks m false || (n == m))
marked marks i n zero e h =
    elim (eqb_tells n zero) [
      | inl same ↦ absurd (omega (arith, e, same.1))
      | inr other ↦ sym other.0
    ]
marked marks i n (suc m) e h =
    elim (eqb_tells n (suc m)) [
      | inl same ↦
          let at : m ≡ i = omega (arith, e, same.1) in
          numbered-get_or (slice_set marks i true) m false ∙ ap (λ j. get_or (slice_set marks i true) j false) at
          ∙ get_or-set_same marks i true false (omega (arith, e, h))
          ∙ sym (ap (λ b. numbered marks (suc m) false || b) same.0 ∙ or_true (numbered marks (suc m) false))
      | inr other ↦
          numbered-get_or (slice_set marks i true) m false
          ∙ get_or-set_other marks i m true false (λ at. other.1 (sym e ∙ ap suc (sym at)))
          ∙ sym (numbered-get_or marks m false) ∙ sym (ap (λ b. numbered marks (suc m) false || b) other.0 ∙ or_false (numbered marks (suc m) false))
    ]

-- the number with that mark is noted
pub AreMarked-set : (marks : List Bool) (ns : List ℕ) (n : ℕ) → 0 < n → n ≤ length marks → AreMarked marks ns → AreMarked (slice_set marks (n - 1) true) (and_last ns n)
AreMarked-set marks ns n a h are = record {
  told = λ m. marked marks (n - 1) n m (omega (arith, a)) h ∙ ap (λ b. b || (n == m)) (are.told m) ∙ sym (has_number-last ns n m);
}

-- ---- Who is outstanding

and_false : (a : Bool) → (a && false) ≡ false
and_false true = refl
and_false false = refl

-- what the test leaves in is there
has_number-without : (f : ℕ → Bool) (ns : List ℕ) (n : ℕ) → has_number (without f ns) n ≡ (has_number ns n && not (f n))
has_number-without f [] n = refl
has_number-without f (m ∷ ns) n = by_test (f m) refl (has_number-without f ns n)
  where
    by_test : (b : Bool) → f m ≡ b → has_number (without f ns) n ≡ (has_number ns n && not (f n))
        → has_number (cond b (without f ns) (m ∷ without f ns)) n ≡ (((m == n) || has_number ns n) && not (f n))
    by_test false e rest =
        elim (eqb_tells m n) [
          | inl same ↦
              ap (λ c. c || has_number (without f ns) n) same.0
              ∙ sym (ap (λ c. (c || has_number ns n) && not (f n)) same.0 ∙ ap not (sym (ap f same.1) ∙ e))
          | inr other ↦
              ap (λ c. c || has_number (without f ns) n) other.0 ∙ rest ∙ sym (ap (λ c. (c || has_number ns n) && not (f n)) other.0)
        ]
    by_test true e rest =
        elim (eqb_tells m n) [
          | inl same ↦
              let out : not (f n) ≡ false = ap not (sym (ap f same.1) ∙ e) in
              rest ∙ ap (λ c. has_number ns n && c) out ∙ and_false (has_number ns n)
              ∙ sym (ap (λ c. ((m == n) || has_number ns n) && c) out ∙ and_false ((m == n) || has_number ns n))
          | inr other ↦ rest ∙ sym (ap (λ c. (c || has_number ns n) && not (f n)) other.0)
        ]

-- a number is among the unhandled ones where it was noted and its promise is not handled
pub has_number-unhandled : (ps : List PromiseRecord) (ns : List ℕ) (n : ℕ) → has_number (unhandled ps ns) n ≡ (has_number ns n && not (numbered ps n pending_promise).handled)
has_number-unhandled ps ns n = has_number-without (λ m. (numbered ps m pending_promise).handled) ns n
