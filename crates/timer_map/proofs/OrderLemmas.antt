-- Items in the order of their numbers.
use Rattle.std.proofs.Common.{◌≡◌, ℕ, zero, suc, ◌+◌, ◌<◌, ◌≤◌, Bool, true, false, cond, ◌⊎◌, inl, inr, List, [], ◌∷◌, ◌++◌, map, Option, Some, None, find, nat_eq, eqb, refl, sym, subst, ◌∙◌, ap, true≢false, arith, add-one}
use Rattle.std.proofs.lemmas.Bool.{eqb-true, eq-eqb}
use Rattle.std.proofs.lemmas.List.Elements.{All-from_recursion, recursion_from_All}
use Rattle.std.proofs.lemmas.List.Sorted.{IsPermutation-sym, IsPermutation-map, All-permutation}
use Rattle.std.proofs.lemmas.Map.Keys.{IsDistinct-IsPermutation, IsDistinct-head, IsDistinct-tail, IsDistinct-cons}
use Rattle.std.specs.List.{AllByRecursion, IsDistinct}
use Rattle.std.specs.List.Sorted.{IsPermutation}
use Rattle.std.specs.Option.{option_to_list}
use Rattle.page_parts.specs.Words.{without}
use Rattle.timer_map.specs.InOrder.{numbered_as, in_order}
use Rattle.timer_map.specs.Kept.{Given, AreNumbered}

pub eqb_flip : (a b : ℕ) → eqb a b ≡ eqb b a
eqb_flip a b = grind (arith)

-- a fact about each item stays where they change places
pub each_permuted : {X : Type 0} (P : X → Type 0) (xs ys : List X) → IsPermutation xs ys → AllByRecursion P xs → AllByRecursion P ys
each_permuted P xs ys p each = recursion_from_All P ys (All-permutation P xs ys p (All-from_recursion P xs each))

each_append : {X : Type 0} (P : X → Type 0) (xs ys : List X) → AllByRecursion P xs → AllByRecursion P ys → AllByRecursion P (xs ++ ys)
each_append P [] ys p q = q
each_append P (x ∷ xs) ys p q = (p.0, each_append P xs ys p.1 q)

-- and where some are left out
pub each_without : {X : Type 0} (P : X → Type 0) (test : X → Bool) (xs : List X) → AllByRecursion P xs → AllByRecursion P (without test xs)
each_without P test [] each = tt
each_without P test (x ∷ xs) each =
    elim (test x) as (λ b. AllByRecursion P (cond b (without test xs) (x ∷ without test xs))) [
      | true ↦ each_without P test xs each.1
      | false ↦ (each.0, each_without P test xs each.1)
    ]

without_append : {X : Type 0} (test : X → Bool) (xs ys : List X) → without test (xs ++ ys) ≡ without test xs ++ without test ys
without_append test [] ys = refl
without_append test (x ∷ xs) ys = by (test x) (without_append test xs ys)
  where
    by : (b : Bool) → without test (xs ++ ys) ≡ without test xs ++ without test ys → cond b (without test (xs ++ ys)) (x ∷ without test (xs ++ ys)) ≡ cond b (without test xs) (x ∷ without test xs) ++ without test ys
    by true rest = rest
    by false rest = ap (λ l. x ∷ l) rest

-- nothing is left out where each fails the test
pub without_none : {X : Type 0} (test : X → Bool) (xs : List X) → AllByRecursion (λ x. test x ≡ false) xs → without test xs ≡ xs
without_none test [] each = refl
without_none test (x ∷ xs) each = let rest = without_none test xs each.1 in rw (each.0, rest)

-- ---- one of a list

-- x is one of the items
abbrev pub Member : {X : Type 0} → X → List X → Type 0
Member x [] = ⊥
Member x (y ∷ ys) = (y ≡ x) ⊎ Member x ys

member_left : {X : Type 0} (x : X) (xs ys : List X) → Member x xs → Member x (xs ++ ys)
member_left x [] ys member = absurd member
member_left x (t ∷ xs) ys (inl e) = inl e
member_left x (t ∷ xs) ys (inr member) = inr (member_left x xs ys member)

member_last : {X : Type 0} (x : X) (xs : List X) → Member x (xs ++ x ∷ [])
member_last x [] = inl refl
member_last x (t ∷ xs) = inr (member_last x xs)

-- what holds of each item holds of one
pub member_has : {X : Type 0} (P : X → Type 0) (x : X) (xs : List X) → AllByRecursion P xs → Member x xs → P x
member_has P x [] each member = absurd member
member_has P x (t ∷ xs) each (inl e) = subst P e each.0
member_has P x (t ∷ xs) each (inr member) = member_has P x xs each.1 member

-- ---- the first that passes a test

module _ {X : Type 0} (test : X → Bool) where
  -- it passes
  pub find_passes : (xs : List X) (a : X) → find test xs ≡ Some a → test a ≡ true
  find_passes [] a h = cc
  find_passes (x ∷ xs) a h = by (test x) refl (find_passes xs a) h
    where
      by : (b : Bool) → test x ≡ b → (find test xs ≡ Some a → test a ≡ true) → cond b (Some x) (find test xs) ≡ Some a → test a ≡ true
      by true e rest h = let same : x ≡ a = cc in subst (λ y. test y ≡ true) same e
      by false e rest h = rest h

  -- it is one of the items
  pub find_member : (xs : List X) (a : X) → find test xs ≡ Some a → Member a xs
  find_member [] a h = cc
  find_member (x ∷ xs) a h = by (test x) (find_member xs a) h
    where
      by : (b : Bool) → (find test xs ≡ Some a → Member a xs) → cond b (Some x) (find test xs) ≡ Some a → Member a (x ∷ xs)
      by true rest h = inl cc
      by false rest h = inr (rest h)

  -- there is none where each fails
  pub find_none : (xs : List X) → AllByRecursion (λ x. test x ≡ false) xs → find test xs ≡ None
  find_none [] each = refl
  find_none (x ∷ xs) each = let rest = find_none xs each.1 in let here = each.0 in grind (arith, here, rest)

  pub none_passes : (xs : List X) → find test xs ≡ None → AllByRecursion (λ x. test x ≡ false) xs
  none_passes [] h = tt
  none_passes (x ∷ xs) h = by (test x) refl (none_passes xs) h
    where
      by : (b : Bool) → test x ≡ b → (find test xs ≡ None → AllByRecursion (λ x. test x ≡ false) xs)
          → cond b (Some x) (find test xs) ≡ None → (test x ≡ false) × AllByRecursion (λ x. test x ≡ false) xs
      by true e rest h = let never : ⊥ = cc in absurd never
      by false e rest h = (e, rest h)

  -- an item that passes alone is the first that does
  pub find_only : (a : X) (xs : List X) → test a ≡ true → Member a xs → AllByRecursion (λ b. test b ≡ true → b ≡ a) xs → find test xs ≡ Some a
  find_only a [] passes member only = absurd member
  find_only a (x ∷ xs) passes member only = by (test x) refl member (λ there. find_only a xs passes there only.1)
    where
      by : (b : Bool) → test x ≡ b → Member a (x ∷ xs) → (Member a xs → find test xs ≡ Some a) → cond b (Some x) (find test xs) ≡ Some a
      by true e member rest = ap Some (only.0 e)
      by false e (inl same) rest = absurd (true≢false (sym passes ∙ sym (ap test same) ∙ e))
      by false e (inr there) rest = rest there

-- ---- items with numbers

module _ {X : Type 0} (number : X → ℕ) where
  -- it has that number
  pub found_number : (n : ℕ) (xs : List X) (a : X) → numbered_as number n xs ≡ Some a → number a ≡ n
  found_number n xs a h = eqb-true (number a) n (find_passes (λ x. eqb (number x) n) xs a h)

  -- the others have other numbers
  others_differ : (k n : ℕ) (xs : List X) → k ≡ n → AllByRecursion (λ y. eqb k y ≡ false) (map number xs) → AllByRecursion (λ x. eqb (number x) n ≡ false) xs
  others_differ k n [] e each = tt
  others_differ k n (x ∷ xs) e each = (sym (ap (λ m. eqb (number x) m) e) ∙ eqb_flip (number x) k ∙ each.0, others_differ k n xs e each.1)

  differ_others : (k : ℕ) (xs : List X) → AllByRecursion (λ x. eqb k (number x) ≡ false) xs → AllByRecursion (λ y. nat_eq k y ≡ false) (map number xs)
  differ_others k [] each = tt
  differ_others k (x ∷ xs) each = (each.0, differ_others k xs each.1)

  heads_differ : (k : ℕ) (xs : List X) → AllByRecursion (λ y. nat_eq k y ≡ false) (map number xs) → AllByRecursion (λ x. eqb k (number x) ≡ false) xs
  heads_differ k [] each = tt
  heads_differ k (x ∷ xs) each = (each.0, heads_differ k xs each.1)

  -- with distinct numbers it is the only one of its number
  pub only_one : (n : ℕ) (xs : List X) (a : X) → IsDistinct nat_eq (map number xs) → numbered_as number n xs ≡ Some a
      → AllByRecursion (λ b. eqb (number b) n ≡ true → b ≡ a) xs
  only_one n [] a distinct h = tt
  only_one n (x ∷ xs) a distinct h = by (eqb (number x) n) refl (λ k. only_one n xs a (IsDistinct-tail nat_eq (number x) (map number xs) distinct) k) h
    where
      weaker : (us : List X) → AllByRecursion (λ u. eqb (number u) n ≡ false) us → AllByRecursion (λ b. eqb (number b) n ≡ true → b ≡ a) us
      weaker [] each = tt
      weaker (u ∷ us) each = (λ yes. absurd (true≢false (sym yes ∙ each.0)), weaker us each.1)

      by : (b : Bool) → eqb (number x) n ≡ b → (numbered_as number n xs ≡ Some a → AllByRecursion (λ b. eqb (number b) n ≡ true → b ≡ a) xs)
          → cond b (Some x) (numbered_as number n xs) ≡ Some a
          → (eqb (number x) n ≡ true → x ≡ a) × AllByRecursion (λ b. eqb (number b) n ≡ true → b ≡ a) xs
      by true e rest h =
          let same : x ≡ a = cc in
          (λ yes. same, weaker xs (others_differ (number x) n xs (eqb-true (number x) n e) (IsDistinct-head nat_eq (number x) (map number xs) distinct)))
      by false e rest h = (λ yes. absurd (true≢false (sym yes ∙ e)), rest h)

  -- an item is found by its number
  pub found_itself : (a : X) (xs : List X) → IsDistinct nat_eq (map number xs) → Member a xs → numbered_as number (number a) xs ≡ Some a
  found_itself a [] distinct member = absurd member
  found_itself a (x ∷ xs) distinct (inl e) = let same : eqb (number x) (number a) ≡ true = eq-eqb (number x) (number a) (ap number e) in rw same (ap Some e)
  found_itself a (x ∷ xs) distinct (inr member) =
      let apart = member_has (λ y. eqb (number x) (number y) ≡ false) a xs (heads_differ (number x) xs (IsDistinct-head nat_eq (number x) (map number xs) distinct)) member in
      rw apart (found_itself a xs (IsDistinct-tail nat_eq (number x) (map number xs) distinct) member)

  -- it is the same where items with distinct numbers change places
  pub found_permuted : (n : ℕ) (xs ys : List X) → IsPermutation xs ys → IsDistinct nat_eq (map number xs) → numbered_as number n ys ≡ numbered_as number n xs
  found_permuted n xs ys p distinct =
      let there : numbered_as number n xs ≡ numbered_as number n xs = refl in
      let here : numbered_as number n ys ≡ numbered_as number n ys = refl in
      by (numbered_as number n xs) there (numbered_as number n ys) here
    where
      by : (r : Option X) → numbered_as number n xs ≡ r → (q : Option X) → numbered_as number n ys ≡ q → q ≡ r
      by None e None f = refl
      by None e (Some b) f =
          let none = find_none (λ x. eqb (number x) n) ys (each_permuted (λ x. eqb (number x) n ≡ false) xs ys p (none_passes (λ x. eqb (number x) n) xs e)) in cc
      by (Some a) e None f =
          let none = find_none (λ x. eqb (number x) n) xs (each_permuted (λ x. eqb (number x) n ≡ false) ys xs (IsPermutation-sym xs ys p) (none_passes (λ x. eqb (number x) n) ys f)) in cc
      by (Some a) e (Some b) f =
          let only = each_permuted (λ b. eqb (number b) n ≡ true → b ≡ a) xs ys p (only_one n xs a distinct e) in
          ap Some (member_has (λ b. eqb (number b) n ≡ true → b ≡ a) b ys only (find_member (λ x. eqb (number x) n) ys b f) (eq-eqb (number b) n (found_number n ys b f)))

  pub distinct_permuted : (xs ys : List X) → IsPermutation xs ys → IsDistinct nat_eq (map number xs) → IsDistinct nat_eq (map number ys)
  distinct_permuted xs ys p distinct = IsDistinct-IsPermutation nat_eq eqb_flip (map number xs) (map number ys) (IsPermutation-map number xs ys p) distinct

  pub distinct_without : (test : X → Bool) (xs : List X) → IsDistinct nat_eq (map number xs) → IsDistinct nat_eq (map number (without test xs))
  distinct_without test [] distinct = distinct
  distinct_without test (x ∷ xs) distinct =
      let rest = distinct_without test xs (IsDistinct-tail nat_eq (number x) (map number xs) distinct) in
      let apart = heads_differ (number x) xs (IsDistinct-head nat_eq (number x) (map number xs) distinct) in
      elim (test x) as (λ b. IsDistinct nat_eq (map number (cond b (without test xs) (x ∷ without test xs)))) [
        | true ↦ rest
        | false ↦ IsDistinct-cons nat_eq (number x) (map number (without test xs)) (differ_others (number x) (without test xs) (each_without (λ y. eqb (number x) (number y) ≡ false) test xs apart)) rest
      ]

  -- ---- the order of the numbers

  order_same : (last : ℕ) (xs ys : List X) → ((n : ℕ) → n ≤ last → numbered_as number n ys ≡ numbered_as number n xs) → in_order number last ys ≡ in_order number last xs
  order_same zero xs ys same = refl
  order_same (suc last) xs ys same =
      let before = order_same last xs ys (λ n le. same n (omega arith)) in
      let here = same (suc last) (omega arith) in
      rw (before, here)

  -- items change places
  pub order_permuted : (last : ℕ) (xs ys : List X) → IsPermutation xs ys → IsDistinct nat_eq (map number xs) → in_order number last ys ≡ in_order number last xs
  order_permuted last xs ys p distinct = order_same last xs ys (λ n le. found_permuted n xs ys p distinct)

  -- an item with the next number goes last
  pub order_pushed : (last : ℕ) (new : X) (xs ys : List X) → number new ≡ last + 1 → IsPermutation (new ∷ xs) ys → IsDistinct nat_eq (map number (new ∷ xs))
      → in_order number (last + 1) ys ≡ in_order number last xs ++ new ∷ []
  order_pushed last new xs ys next p distinct =
      let before = order_same last xs ys (λ n le. found_permuted n (new ∷ xs) ys p distinct ∙ passed n le) in
      let here : numbered_as number (suc last) ys ≡ Some new = found_permuted (suc last) (new ∷ xs) ys p distinct ∙ met in
      ap (λ n. in_order number n ys) (add-one last) ∙ (rw (before, here))
    where
      passed : (n : ℕ) → n ≤ last → numbered_as number n (new ∷ xs) ≡ numbered_as number n xs
      passed n le = let other : eqb (number new) n ≡ false = grind (arith, le, next) in rw other

      met : numbered_as number (suc last) (new ∷ xs) ≡ Some new
      met = let same : eqb (number new) (suc last) ≡ true = eq-eqb (number new) (suc last) (omega (arith, next)) in rw same

  -- some items are left out
  pub order_without : (test : X → Bool) (last : ℕ) (xs : List X) → IsDistinct nat_eq (map number xs)
      → in_order number last (without test xs) ≡ without test (in_order number last xs)
  order_without test zero xs distinct = refl
  order_without test (suc last) xs distinct =
      let before = order_without test last xs distinct in
      let here = piece (suc last) xs distinct in
      rw (without_append, before, here)
    where
      by : (n : ℕ) (x : X) (xs : List X) → IsDistinct nat_eq (map number (x ∷ xs)) → (a : Bool) → test x ≡ a → (b : Bool) → eqb (number x) n ≡ b
          → option_to_list (numbered_as number n (without test xs)) ≡ without test (option_to_list (numbered_as number n xs))
          → option_to_list (numbered_as number n (cond a (without test xs) (x ∷ without test xs))) ≡ without test (option_to_list (cond b (Some x) (numbered_as number n xs)))
      by n x xs distinct true t true e rest =
          let apart = others_differ (number x) n xs (eqb-true (number x) n e) (IsDistinct-head nat_eq (number x) (map number xs) distinct) in
          let none = find_none (λ y. eqb (number y) n) (without test xs) (each_without (λ y. eqb (number y) n ≡ false) test xs apart) in
          rw (none, t)
      by n x xs distinct true t false e rest = rest
      by n x xs distinct false t true e rest = rw (e, t)
      by n x xs distinct false t false e rest = rw e rest

      piece : (n : ℕ) (xs : List X) → IsDistinct nat_eq (map number xs)
          → option_to_list (numbered_as number n (without test xs)) ≡ without test (option_to_list (numbered_as number n xs))
      piece n [] distinct = refl
      piece n (x ∷ xs) distinct = by n x xs distinct (test x) refl (eqb (number x) n) refl (piece n xs (IsDistinct-tail nat_eq (number x) (map number xs) distinct))

  -- an item leaves
  pub order_popped : (last : ℕ) (x : X) (xs ys : List X) → IsPermutation xs (x ∷ ys) → IsDistinct nat_eq (map number xs)
      → in_order number last ys ≡ without (λ y. eqb (number y) (number x)) (in_order number last xs)
  order_popped last x xs ys p distinct =
      let apart = distinct_permuted xs (x ∷ ys) p distinct in
      let itself : eqb (number x) (number x) ≡ true = eq-eqb (number x) (number x) refl in
      let stay = without_none (λ y. eqb (number y) (number x)) ys (others_differ (number x) (number x) ys refl (IsDistinct-head nat_eq (number x) (map number ys) apart)) in
      let left : without (λ y. eqb (number y) (number x)) (x ∷ ys) ≡ ys = rw itself stay in
      sym (ap (in_order number last) left) ∙ order_without (λ y. eqb (number y) (number x)) last (x ∷ ys) apart
      ∙ ap (without (λ y. eqb (number y) (number x))) (order_permuted last xs (x ∷ ys) p distinct)

  pub member_in_order : (x : X) (last : ℕ) (xs : List X) → numbered_as number (number x) xs ≡ Some x → 0 < number x → number x ≤ last → Member x (in_order number last xs)
  member_in_order x zero xs found above le = absurd (omega arith)
  member_in_order x (suc last) xs found above le = by (eqb (number x) (suc last)) refl (λ less. member_in_order x last xs found above less)
    where
      by : (b : Bool) → eqb (number x) (suc last) ≡ b → (number x ≤ last → Member x (in_order number last xs))
          → Member x (in_order number last xs ++ option_to_list (numbered_as number (suc last) xs))
      by true e rest =
          let here : numbered_as number (suc last) xs ≡ Some x = subst (λ n. numbered_as number n xs ≡ Some x) (eqb-true (number x) (suc last) e) found in
          subst (λ r. Member x (in_order number last xs ++ option_to_list r)) (sym here) (member_last x (in_order number last xs))
      by false e rest =
          let less : number x ≤ last = grind (arith, e, le) in
          member_left x (in_order number last xs) (option_to_list (numbered_as number (suc last) xs)) (rest less)

  pub each_in_order : (P : X → Type 0) (last : ℕ) (xs : List X) → AllByRecursion P xs → AllByRecursion P (in_order number last xs)
  each_in_order P zero xs each = tt
  each_in_order P (suc last) xs each =
      each_append P (in_order number last xs) (option_to_list (numbered_as number (suc last) xs)) (each_in_order P last xs each) (by (numbered_as number (suc last) xs) refl)
    where
      by : (r : Option X) → numbered_as number (suc last) xs ≡ r → AllByRecursion P (option_to_list r)
      by None e = tt
      by (Some a) e = (member_has P a xs each (find_member (λ x. eqb (number x) (suc last)) xs a e), tt)

  -- an item that alone passes a test is found in the order too
  pub find_in_order : (test : X → Bool) (last : ℕ) (xs : List X) → AreNumbered number last xs
      → ((a : X) → find test xs ≡ Some a → AllByRecursion (λ b. test b ≡ true → b ≡ a) xs)
      → find test (in_order number last xs) ≡ find test xs
  find_in_order test last xs numbered only = by (find test xs) refl
    where
      by : (r : Option X) → find test xs ≡ r → find test (in_order number last xs) ≡ r
      by None e = find_none test (in_order number last xs) (each_in_order (λ x. test x ≡ false) last xs (none_passes test xs e))
      by (Some a) e =
          let member = find_member test xs a e in
          let given = member_has (λ x. Given last (number x)) a xs (recursion_from_All (λ x. Given last (number x)) xs numbered.given) member in
          let there = member_in_order a last xs (found_itself a xs numbered.distinct member) given.0 given.1 in
          find_only test a (in_order number last xs) (find_passes test xs a e) there (each_in_order (λ b. test b ≡ true → b ≡ a) last xs (only a e))

  -- ---- the numbers stay distinct and given

  differs : (last : ℕ) (xs : List X) → AllByRecursion (λ x. Given last (number x)) xs → AllByRecursion (λ y. nat_eq (last + 1) y ≡ false) (map number xs)
  differs last [] given = tt
  differs last (x ∷ xs) given = let le : number x ≤ last = given.0.1 in (grind (arith, le), differs last xs given.1)

  pub distinct_pushed : (last : ℕ) (new : X) (xs : List X) → number new ≡ last + 1 → AreNumbered number last xs → IsDistinct nat_eq (map number (new ∷ xs))
  distinct_pushed last new xs next numbered =
      let apart = differs last xs (recursion_from_All (λ x. Given last (number x)) xs numbered.given) in
      IsDistinct-cons nat_eq (number new) (map number xs) (subst (λ n. AllByRecursion (λ y. nat_eq n y ≡ false) (map number xs)) (sym next) apart) numbered.distinct

  more_given : (last : ℕ) (xs : List X) → AllByRecursion (λ x. Given last (number x)) xs → AllByRecursion (λ x. Given (last + 1) (number x)) xs
  more_given last [] each = tt
  more_given last (x ∷ xs) each = ((each.0.0, omega (arith, each.0.1)), more_given last xs each.1)

  pub numbered_permuted : (last : ℕ) (xs ys : List X) → IsPermutation xs ys → AreNumbered number last xs → AreNumbered number last ys
  numbered_permuted last xs ys p numbered =
      record { distinct = distinct_permuted xs ys p numbered.distinct; given = All-permutation (λ x. Given last (number x)) xs ys p numbered.given }

  pub numbered_pushed : (last : ℕ) (new : X) (xs ys : List X) → number new ≡ last + 1 → IsPermutation (new ∷ xs) ys → AreNumbered number last xs → AreNumbered number (last + 1) ys
  numbered_pushed last new xs ys next p numbered =
      let given = more_given last xs (recursion_from_All (λ x. Given last (number x)) xs numbered.given) in
      let all = All-from_recursion (λ x. Given (last + 1) (number x)) (new ∷ xs) ((omega (arith, next), omega (arith, next)), given) in
      numbered_permuted (last + 1) (new ∷ xs) ys p (record { distinct = distinct_pushed last new xs next numbered; given = all })

  pub numbered_popped : (last : ℕ) (x : X) (xs ys : List X) → IsPermutation xs (x ∷ ys) → AreNumbered number last xs → AreNumbered number last ys
  numbered_popped last x xs ys p numbered =
      let all = numbered_permuted last xs (x ∷ ys) p numbered in
      record {
        distinct = IsDistinct-tail nat_eq (number x) (map number ys) all.distinct;
        given = All-from_recursion (λ x. Given last (number x)) ys (recursion_from_All (λ x. Given last (number x)) (x ∷ ys) all.given).1;
      }

  pub numbered_without : (test : X → Bool) (last : ℕ) (xs : List X) → AreNumbered number last xs → AreNumbered number last (without test xs)
  numbered_without test last xs numbered =
      let given = recursion_from_All (λ x. Given last (number x)) xs numbered.given in
      record {
        distinct = distinct_without test xs numbered.distinct;
        given = All-from_recursion (λ x. Given last (number x)) (without test xs) (each_without (λ x. Given last (number x)) test xs given);
      }
