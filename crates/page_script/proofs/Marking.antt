-- A mark for each promise: one more at the end, and the mark of a number.
use Rattle.std.proofs.Common.{◌≡◌, ℕ, zero, suc, ◌+◌, ◌-◌, ◌<◌, arith, Bool, true, false, cond, ◌||◌, List, [], ◌∷◌, ◌++◌, length, Option, Some, None, refl, sym, ap, ◌∙◌, inl, inr}
use Rattle.std.specs.Prelude.{find, ◌==◌}
use Rattle.std.proofs.lemmas.Bool.Decides.{eqb_tells}
use Rattle.page_parts.specs.Words.{has_number, numbered}
use Rattle.page_parts.specs.Notices.{Notices, make}
use Rattle.page_parts.specs.Promises.{pending_promise}
use Rattle.page_model.specs.State.{Element}
use Rattle.promise_core.proofs.Records.{length-and_last}
use Rattle.page_script.specs.declared.parts.Mark.{Mark}
use Rattle.page_script.specs.declared.parts.Mark.TheVariants as mark
use Rattle.page_script.specs.Marks.{Marked, numbers_with, elements_with, script_numbers, elements_from, with_promise}

script_numbers-last : (xs : List Mark) (m : Mark) (n p : ℕ) → p ≡ n + length xs → script_numbers n (xs ++ m ∷ []) ≡ numbers_with m p (script_numbers n xs)
script_numbers-last [] mark.Plain n p e = refl
script_numbers-last [] mark.OfScript n p e = let same : n ≡ p = omega (arith, e) in ap (λ k. k ∷ []) same
script_numbers-last [] (mark.Element c k) n p e = refl
script_numbers-last (mark.Plain ∷ xs) m n p e = script_numbers-last xs m (suc n) p (omega (arith, e))
script_numbers-last (mark.Element c k ∷ xs) m n p e = script_numbers-last xs m (suc n) p (omega (arith, e))
script_numbers-last (mark.OfScript ∷ xs) m n p e = ap (λ ns. n ∷ ns) (script_numbers-last xs m (suc n) p (omega (arith, e))) ∙ before m
  where
    before : (m : Mark) → (n ∷ numbers_with m p (script_numbers (suc n) xs)) ≡ numbers_with m p (n ∷ script_numbers (suc n) xs)
    before mark.Plain = refl
    before mark.OfScript = refl
    before (mark.Element c k) = refl

elements_from-last : (xs : List Mark) (m : Mark) (n p : ℕ) → p ≡ n + length xs → elements_from n (xs ++ m ∷ []) ≡ elements_with m p (elements_from n xs)
elements_from-last [] mark.Plain n p e = refl
elements_from-last [] mark.OfScript n p e = refl
elements_from-last [] (mark.Element c k) n p e = let same : n ≡ p = omega (arith, e) in ap (λ q. record { promise = q; combinator = c; place = k } ∷ []) same
elements_from-last (mark.Plain ∷ xs) m n p e = elements_from-last xs m (suc n) p (omega (arith, e))
elements_from-last (mark.OfScript ∷ xs) m n p e = elements_from-last xs m (suc n) p (omega (arith, e))
elements_from-last (mark.Element c k ∷ xs) m n p e =
    ap (λ es. record { promise = n; combinator = c; place = k } ∷ es) (elements_from-last xs m (suc n) p (omega (arith, e))) ∙ before m
  where
    before : (m : Mark) → (record { promise = n; combinator = c; place = k } ∷ elements_with m p (elements_from (suc n) xs)) ≡ elements_with m p (record { promise = n; combinator = c; place = k } ∷ elements_from (suc n) xs)
    before mark.Plain = refl
    before mark.OfScript = refl
    before (mark.Element c' k') = refl

-- one more promise, and its mark
pub marked-last : (s : Notices) (marks : List Mark) (m : Mark) → length marks ≡ length s.promises
    → record { notices = make s; script_promises = script_numbers 1 (marks ++ m ∷ []); elements = elements_from 1 (marks ++ m ∷ []) }
    ≡ with_promise m (record { notices = s; script_promises = script_numbers 1 marks; elements = elements_from 1 marks })
marked-last s marks m e =
    let p = length (make s).promises in
    let at : p ≡ 1 + length marks = omega (arith, length-and_last s.promises pending_promise, e) in
    ap (λ ns. let s' : Marked = record { notices = make s; script_promises = ns; elements = elements_from 1 (marks ++ m ∷ []) } in s') (script_numbers-last marks m 1 p at)
    ∙ ap (λ es. let s' : Marked = record { notices = make s; script_promises = numbers_with m p (script_numbers 1 marks); elements = es } in s') (elements_from-last marks m 1 p at)

-- the same of what a call left
pub marked-made : (s s' : Notices) (marks marks' : List Mark) (m : Mark) → s' ≡ make s → marks' ≡ marks ++ m ∷ [] → length marks ≡ length s.promises
    → record { notices = s'; script_promises = script_numbers 1 marks'; elements = elements_from 1 marks' }
    ≡ with_promise m (record { notices = s; script_promises = script_numbers 1 marks; elements = elements_from 1 marks })
marked-made s s' marks marks' m made more e =
    ap (λ n. let q : Marked = record { notices = n; script_promises = script_numbers 1 marks'; elements = elements_from 1 marks' } in q) made
    ∙ ap (λ ms. let q : Marked = record { notices = make s; script_promises = script_numbers 1 ms; elements = elements_from 1 ms } in q) more
    ∙ marked-last s marks m e

-- ---- The mark of a number

-- whether a mark is that of a promise which the script made itself
abbrev pub is_script : Mark → Bool
is_script mark.Plain = false
is_script mark.OfScript = true
is_script (mark.Element c k) = false

-- the element that promise number n is by its mark
abbrev pub element_by : ℕ → Mark → Option Element
element_by n mark.Plain = None
element_by n mark.OfScript = None
element_by n (mark.Element c k) = Some (record { promise = n; combinator = c; place = k })

-- a number other than the first one's
other : (n p : ℕ) → n < p → (n == p) ≡ false
other n p h = elim (eqb_tells n p) [ inl same ↦ absurd (omega (arith, same.1, h)) | inr differs ↦ differs.0 ]

equal : (n p : ℕ) → p ≡ n → (n == p) ≡ true
equal n p e = elim (eqb_tells n p) [ inl same ↦ same.0 | inr differs ↦ absurd (differs.1 (sym e)) ]

-- numbers before the first one are not among those
script_below : (xs : List Mark) (n p : ℕ) → p < n → has_number (script_numbers n xs) p ≡ false
script_below [] n p h = refl
script_below (mark.Plain ∷ xs) n p h = script_below xs (suc n) p (omega (arith, h))
script_below (mark.Element c k ∷ xs) n p h = script_below xs (suc n) p (omega (arith, h))
script_below (mark.OfScript ∷ xs) n p h =
    elim (eqb_tells n p) [
      | inl same ↦ absurd (omega (arith, same.1, h))
      | inr differs ↦ ap (λ b. b || has_number (script_numbers (suc n) xs) p) differs.0 ∙ script_below xs (suc n) p (omega (arith, h))
    ]

element_below : (xs : List Mark) (n p : ℕ) → p < n → find (λ e. e.promise == p) (elements_from n xs) ≡ None
element_below [] n p h = refl
element_below (mark.Plain ∷ xs) n p h = element_below xs (suc n) p (omega (arith, h))
element_below (mark.OfScript ∷ xs) n p h = element_below xs (suc n) p (omega (arith, h))
element_below (mark.Element c k ∷ xs) n p h =
    elim (eqb_tells n p) [
      | inl same ↦ absurd (omega (arith, same.1, h))
      | inr differs ↦
          ap (λ b. cond b (Some (record { promise = n; combinator = c; place = k })) (find (λ e. e.promise == p) (elements_from (suc n) xs))) differs.0
          ∙ element_below xs (suc n) p (omega (arith, h))
    ]

script_at : (xs : List Mark) (n p i : ℕ) → p ≡ i + n → has_number (script_numbers n xs) p ≡ is_script (numbered xs (suc i) mark.Plain)
script_at [] n p i e = refl
script_at (mark.Plain ∷ xs) n p zero e = script_below xs (suc n) p (omega (arith, e))
script_at (mark.Element c k ∷ xs) n p zero e = script_below xs (suc n) p (omega (arith, e))
script_at (mark.OfScript ∷ xs) n p zero e = ap (λ b. b || has_number (script_numbers (suc n) xs) p) (equal n p (omega (arith, e)))
script_at (mark.Plain ∷ xs) n p (suc i) e = script_at xs (suc n) p i (omega (arith, e))
script_at (mark.Element c k ∷ xs) n p (suc i) e = script_at xs (suc n) p i (omega (arith, e))
script_at (mark.OfScript ∷ xs) n p (suc i) e =
    ap (λ b. b || has_number (script_numbers (suc n) xs) p) (other n p (omega (arith, e))) ∙ script_at xs (suc n) p i (omega (arith, e))

element_at : (xs : List Mark) (n p i : ℕ) → p ≡ i + n → find (λ e. e.promise == p) (elements_from n xs) ≡ element_by p (numbered xs (suc i) mark.Plain)
element_at [] n p i e = refl
element_at (mark.Plain ∷ xs) n p zero e = element_below xs (suc n) p (omega (arith, e))
element_at (mark.OfScript ∷ xs) n p zero e = element_below xs (suc n) p (omega (arith, e))
element_at (mark.Element c k ∷ xs) n p zero e =
    let same : n ≡ p = omega (arith, e) in
    ap (λ b. cond b (Some (record { promise = n; combinator = c; place = k })) (find (λ e. e.promise == p) (elements_from (suc n) xs))) (equal n p (sym same))
    ∙ ap (λ q. Some (record { promise = q; combinator = c; place = k })) same
element_at (mark.Plain ∷ xs) n p (suc i) e = element_at xs (suc n) p i (omega (arith, e))
element_at (mark.OfScript ∷ xs) n p (suc i) e = element_at xs (suc n) p i (omega (arith, e))
element_at (mark.Element c k ∷ xs) n p (suc i) e =
    ap (λ b. cond b (Some (record { promise = n; combinator = c; place = k })) (find (λ e. e.promise == p) (elements_from (suc n) xs))) (other n p (omega (arith, e)))
    ∙ element_at xs (suc n) p i (omega (arith, e))

number_before : (p : ℕ) → 0 < p → p ≡ suc (p - 1)
number_before p h = omega (arith, h)

-- whether the script made promise number p itself, by its mark
pub script_told : (xs : List Mark) (p : ℕ) (m : Mark) → 0 < p → m ≡ numbered xs p mark.Plain → is_script m ≡ has_number (script_numbers 1 xs) p
script_told xs p m h e =
    ap is_script (e ∙ ap (λ q. numbered xs q mark.Plain) (number_before p h)) ∙ sym (script_at xs 1 p (p - 1) (omega (arith, h)))

-- the element that promise number p is, by its mark
pub element_told : (xs : List Mark) (p : ℕ) (m : Mark) → 0 < p → m ≡ numbered xs p mark.Plain → element_by p m ≡ find (λ e. e.promise == p) (elements_from 1 xs)
element_told xs p m h e =
    ap (element_by p) (e ∙ ap (λ q. numbered xs q mark.Plain) (number_before p h)) ∙ sym (element_at xs 1 p (p - 1) (omega (arith, h)))
