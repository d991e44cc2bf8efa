-- How often sources are passed over by a fair policy.
use Rattle.std.proofs.Common.{◌≡◌, ℕ, zero, suc, ◌+◌, ◌≤◌, ◌<◌, Bool, true, false, ◌&&◌, ◌||◌, cond, List, [], ◌∷◌, refl, ap, sym, ◌∙◌, subst, arith, nat_lt, nat_le, filter, count_by, length}
use Rattle.std.specs.List.{list_any}
use Rattle.std.specs.Option.{unwrap_or}
use Rattle.std.proofs.lemmas.List.Sums.{sum_by-cons, count_by-le-length}
use Rattle.page_types.specs.declared.Source.{Source}
use Rattle.page_types.specs.declared.Source.TheVariants.{User, Net, Dom, Timer, Render, Sched, Idle}
use Rattle.page_parts.specs.Setup.{Policy, Fair}
use Rattle.page_parts.specs.Sources.{default_list, same_source}
use Rattle.page_parts.specs.WrittenChoices.{Runnable, is_runnable, by_rank, count_of, counts_now, counts_after, greatest_from, greatest, by_fair}
use Rattle.loop_policy.specs.Policies.{is_policy}
use Rattle.loop_policy.specs.Choosing.{AreBelow}
use Rattle.loop_policy.proofs.Runnables.{same_is, same_itself}
use Rattle.loop_policy.proofs.Legal.{listed_in}
use Rattle.std.proofs.lemmas.Bool.Decides.{nat_tests}

-- ---- counting

count_cons : (p : Source → Bool) (x : Source) (xs : List Source) → count_by p (x ∷ xs) ≡ cond (p x) 1 0 + count_by p xs
count_cons p x xs = sum_by-cons (λ y. cond (p y) 1 0) x xs

one_fewer : (a b : Bool) → (a ≡ true → b ≡ true) → cond a 1 0 ≤ cond b 1 0
one_fewer true true h = omega arith
one_fewer true false h = let e = h refl in cc
one_fewer false b h = omega arith

fewer : (p q : Source → Bool) (xs : List Source) → ((s : Source) → p s ≡ true → q s ≡ true) → count_by p xs ≤ count_by q xs
fewer p q [] h = omega arith
fewer p q (x ∷ xs) h = omega (arith, count_cons p x xs, count_cons q x xs, one_fewer (p x) (q x) (h x), fewer p q xs h)

one_less : (p q : Source → Bool) (c : Source) (xs : List Source) → ((s : Source) → p s ≡ true → q s ≡ true) → p c ≡ false → q c ≡ true
    → (x : Source) → (b : Bool) → same_source c x ≡ b → (b || list_any (same_source c) xs) ≡ true
    → (list_any (same_source c) xs ≡ true → count_by p xs + 1 ≤ count_by q xs)
    → count_by p (x ∷ xs) + 1 ≤ count_by q (x ∷ xs)
one_less p q c xs h out in_it x true same any more =
    let is = same_is c x same in
    let px : p x ≡ false = subst (λ y. p y ≡ false) is out in
    let qx : q x ≡ true = subst (λ y. q y ≡ true) is in_it in
    let left : count_by p (x ∷ xs) ≡ 0 + count_by p xs = count_cons p x xs ∙ ap (λ b. cond b 1 0 + count_by p xs) px in
    let right : count_by q (x ∷ xs) ≡ 1 + count_by q xs = count_cons q x xs ∙ ap (λ b. cond b 1 0 + count_by q xs) qx in
    omega (arith, left, right, fewer p q xs h)
one_less p q c xs h out in_it x false same any more =
    omega (arith, count_cons p x xs, count_cons q x xs, one_fewer (p x) (q x) (h x), more any)

fewer_one : (p q : Source → Bool) (c : Source) (xs : List Source) → ((s : Source) → p s ≡ true → q s ≡ true) → p c ≡ false → q c ≡ true
    → list_any (same_source c) xs ≡ true → count_by p xs + 1 ≤ count_by q xs
fewer_one p q c [] h out in_it any = cc
fewer_one p q c (x ∷ xs) h out in_it any = one_less p q c xs h out in_it x (same_source c x) refl any (fewer_one p q c xs h out in_it)

some_counted_step : (p : Source → Bool) (x : Source) (xs : List Source) (b : Bool) → p x ≡ b → 0 < cond b 1 0 + count_by p xs → (0 < count_by p xs → (s : Source) × (p s ≡ true)) → (s : Source) × (p s ≡ true)
some_counted_step p x xs true e h more = (x, e)
some_counted_step p x xs false e h more = more (omega arith)

some_counted : (p : Source → Bool) (xs : List Source) → 0 < count_by p xs → (s : Source) × (p s ≡ true)
some_counted p [] h = absurd (omega arith)
some_counted p (x ∷ xs) h = some_counted_step p x xs (p x) refl (omega (arith, count_cons p x xs)) (some_counted p xs)

-- ---- the greatest count

not_below_step : (counts : List ℕ) (best x : Source) (xs : List Source) (v : Bool) → nat_lt (count_of counts best) (count_of counts x) ≡ v
    → count_of counts x ≤ count_of counts (greatest_from counts x xs) → count_of counts best ≤ count_of counts (greatest_from counts best xs)
    → (count_of counts best ≤ count_of counts (greatest_from counts (cond v x best) xs)) × (count_of counts x ≤ count_of counts (greatest_from counts (cond v x best) xs))
not_below_step counts best x xs true t other same = grind (arith, nat_tests)
not_below_step counts best x xs false t other same = grind (arith, nat_tests)

not_below : (counts : List ℕ) (best : Source) (xs : List Source) → count_of counts best ≤ count_of counts (greatest_from counts best xs)
not_below counts best [] = omega arith
not_below counts best (x ∷ xs) =
    (not_below_step counts best x xs (nat_lt (count_of counts best) (count_of counts x)) refl (not_below counts x xs) (not_below counts best xs)).0

not_below_first : (counts : List ℕ) (best x : Source) (xs : List Source) → count_of counts x ≤ count_of counts (greatest_from counts best (x ∷ xs))
not_below_first counts best x xs =
    (not_below_step counts best x xs (nat_lt (count_of counts best) (count_of counts x)) refl (not_below counts x xs) (not_below counts best xs)).1

not_below_next : (counts : List ℕ) (best x : Source) (xs : List Source) (s : Source) (t : Bool) → same_source s x ≡ t → (t || list_any (same_source s) xs) ≡ true
    → ((best : Source) → list_any (same_source s) xs ≡ true → count_of counts s ≤ count_of counts (greatest_from counts best xs))
    → count_of counts s ≤ count_of counts (greatest_from counts best (x ∷ xs))
not_below_next counts best x xs s true same any more =
    subst (λ y. count_of counts y ≤ count_of counts (greatest_from counts best (x ∷ xs))) (sym (same_is s x same)) (not_below_first counts best x xs)
not_below_next counts best x xs s false same any more = more (cond (nat_lt (count_of counts best) (count_of counts x)) x best) any

not_below_any : (counts : List ℕ) (best : Source) (xs : List Source) (s : Source) → list_any (same_source s) xs ≡ true → count_of counts s ≤ count_of counts (greatest_from counts best xs)
not_below_any counts best [] s any = cc
not_below_any counts best (x ∷ xs) s any = not_below_next counts best x xs s (same_source s x) refl any (λ other. not_below_any counts other xs s)

among_step : (test : Source → Bool) (x : Source) (xs : List Source) (s : Source) (t u : Bool) → same_source s x ≡ t → test x ≡ u → test s ≡ true
    → (t || list_any (same_source s) xs) ≡ true → (list_any (same_source s) xs ≡ true → list_any (same_source s) (filter test xs) ≡ true)
    → list_any (same_source s) (cond u (x ∷ filter test xs) (filter test xs)) ≡ true
among_step test x xs s true true same is h any more = rw same refl
among_step test x xs s true false same is h any more = let h' = subst (λ y. test y ≡ true) (same_is s x same) h in cc
among_step test x xs s false true same is h any more = rw (same, more any) refl
among_step test x xs s false false same is h any more = more any

among : (test : Source → Bool) (xs : List Source) (s : Source) → test s ≡ true → list_any (same_source s) xs ≡ true → list_any (same_source s) (filter test xs) ≡ true
among test [] s h any = cc
among test (x ∷ xs) s h any = among_step test x xs s (same_source s x) (test x) refl refl h any (among test xs s h)

chosen_first : (counts : List ℕ) (x : Source) (xs : List Source) (s : Source) (t : Bool) → same_source s x ≡ t → (t || list_any (same_source s) xs) ≡ true
    → count_of counts s ≤ count_of counts (greatest_from counts x xs)
chosen_first counts x xs s true same any = subst (λ y. count_of counts y ≤ count_of counts (greatest_from counts x xs)) (sym (same_is s x same)) (not_below counts x xs)
chosen_first counts x xs s false same any = not_below_any counts x xs s any

not_below_chosen : (counts : List ℕ) (xs : List Source) (s other : Source) → list_any (same_source s) xs ≡ true → count_of counts s ≤ count_of counts (unwrap_or (greatest counts xs) other)
not_below_chosen counts [] s other any = cc
not_below_chosen counts (x ∷ xs) s other any = chosen_first counts x xs s (same_source s x) refl any

-- ---- the counts after a choice

zeroed_count : (rs : List Runnable) (counts : List ℕ) (s : Source) → count_of (counts_now rs counts) s ≡ cond (is_runnable rs s) (count_of counts s) 0
zeroed_count rs counts User = refl
zeroed_count rs counts Render = refl
zeroed_count rs counts Sched = refl
zeroed_count rs counts Timer = refl
zeroed_count rs counts Net = refl
zeroed_count rs counts Dom = refl
zeroed_count rs counts Idle = refl

next_count : (rs : List Runnable) (chosen : Source) (counts : List ℕ) (s : Source)
    → count_of (counts_after rs chosen counts) s ≡ cond (same_source s chosen) 0 (cond (is_runnable rs s) (suc (count_of counts s)) 0)
next_count rs chosen counts User = refl
next_count rs chosen counts Render = refl
next_count rs chosen counts Sched = refl
next_count rs chosen counts Timer = refl
next_count rs chosen counts Net = refl
next_count rs chosen counts Dom = refl
next_count rs chosen counts Idle = refl

default_has : (s : Source) → list_any (same_source s) default_list ≡ true
default_has s = listed_in default_list refl s

not_more_case : (n count : ℕ) (b : Bool) → 1 ≤ n → nat_le n (cond b count 0) ≡ true → nat_le n count ≡ true
not_more_case n count true pos h = h
not_more_case n count false pos h = grind (arith, nat_tests)

one_back_case : (n count : ℕ) (same b : Bool) → nat_le (n + 1) (cond same 0 (cond b (suc count) 0)) ≡ true → nat_le n count ≡ true
one_back_case n count true b h = grind (arith, nat_tests)
one_back_case n count false true h = grind (arith, nat_tests)
one_back_case n count false false h = grind (arith, nat_tests)

passed_case : (k n count : ℕ) (b : Bool) → 1 ≤ k → k ≤ n → nat_le n (cond b count 0) ≡ true → (b && nat_le k (cond b count 0)) ≡ true
passed_case k n count true pos le h = grind (arith, nat_tests)
passed_case k n count false pos le h = grind (arith, nat_tests)

further : (n a b : ℕ) → nat_le n a ≡ true → a ≤ b → nat_le n b ≡ true
further n a b h le = grind (arith, nat_tests)

-- a source has a count of at least so many
abbrev reaches : List ℕ → ℕ → Source → Bool
reaches counts n s = nat_le n (count_of counts s)

not_more : (rs : List Runnable) (counts : List ℕ) (n : ℕ) (s : Source) → 1 ≤ n → reaches (counts_now rs counts) n s ≡ true → reaches counts n s ≡ true
not_more rs counts n s pos h =
    let e = zeroed_count rs counts s in
    not_more_case n (count_of counts s) (is_runnable rs s) pos (sym (ap (nat_le n) e) ∙ h)

one_back : (rs : List Runnable) (chosen : Source) (counts : List ℕ) (n : ℕ) (s : Source) → 1 ≤ n → reaches (counts_after rs chosen counts) (n + 1) s ≡ true → reaches counts n s ≡ true
one_back rs chosen counts n s pos h =
    let e = next_count rs chosen counts s in
    one_back_case n (count_of counts s) (same_source s chosen) (is_runnable rs s) (sym (ap (nat_le (n + 1)) e) ∙ h)

chosen_starts_again : (rs : List Runnable) (chosen : Source) (counts : List ℕ) (n : ℕ) → 1 ≤ n → reaches (counts_after rs chosen counts) n chosen ≡ false
chosen_starts_again rs chosen counts n pos =
    let e = next_count rs chosen counts chosen in
    let same = same_itself chosen in
    rw (e, same) (grind (arith, nat_tests))

is_passed_over : (k n : ℕ) (rs : List Runnable) (counts : List ℕ) (s : Source) → 1 ≤ k → k ≤ n → reaches (counts_now rs counts) n s ≡ true
    → (is_runnable rs s && nat_le k (count_of (counts_now rs counts) s)) ≡ true
is_passed_over k n rs counts s pos le h =
    let e = zeroed_count rs counts s in
    rw e (passed_case k n (count_of counts s) (is_runnable rs s) pos le (sym (ap (nat_le n) e) ∙ h))

chosen_reaches : (k n : ℕ) (rs : List Runnable) (counts : List ℕ) (s : Source) → 1 ≤ k → k ≤ n → reaches (counts_now rs counts) n s ≡ true
    → reaches (counts_now rs counts) n (by_fair k (counts_now rs counts) rs) ≡ true
chosen_reaches k n rs counts s pos le h =
    let now = counts_now rs counts in
    let test : Source → Bool = λ s. is_runnable rs s && nat_le k (count_of now s) in
    let any = among test default_list s (is_passed_over k n rs counts s pos le h) (default_has s) in
    let above : count_of now s ≤ count_of now (by_fair k now rs) = not_below_chosen now (filter test default_list) s (by_rank default_list rs) any in
    further n (count_of now s) (count_of now (by_fair k now rs)) h above

all_but_one : (p : Source → Bool) (c : Source) (xs : List Source) → p c ≡ false → list_any (same_source c) xs ≡ true → count_by p xs + 1 ≤ length xs
all_but_one p c xs out any =
    let all : Source → Bool = λ s. true in
    omega (arith, fewer_one p all c xs (λ s h. refl) out refl any, count_by-le-length all xs)

fewer_next : (p q r : Source → Bool) (c : Source) (xs : List Source) (j n : ℕ) → count_by q xs ≡ n → ((s : Source) → p s ≡ true → q s ≡ true) → ((s : Source) → q s ≡ true → r s ≡ true)
    → p c ≡ false → list_any (same_source c) xs ≡ true → ((s : Source) → q s ≡ true → q c ≡ true) → j + 1 ≤ 6 → count_by r xs + j ≤ 6 → count_by p xs + (j + 1) ≤ 6
fewer_next p q r c xs j zero none pq qr out any chosen le below = omega (arith, fewer p q xs pq)
fewer_next p q r c xs j (suc n) some pq qr out any chosen le below =
    let found = some_counted q xs (omega arith) in
    omega (arith, fewer_one p q c xs pq out (chosen found.0 found.1) any, fewer q r xs qr)

stay_at : (k : ℕ) (rs : List Runnable) (counts : List ℕ) (sources : List Source) (chosen : Source) → 1 ≤ k → length sources ≡ 7 → list_any (same_source chosen) sources ≡ true
    → chosen ≡ by_fair k (counts_now rs counts) rs
    → ((j : ℕ) → j ≤ 6 → count_by (reaches counts (k + j)) sources + j ≤ 6)
    → (j : ℕ) → j ≤ 6 → count_by (reaches (counts_after rs chosen (counts_now rs counts)) (k + j)) sources + j ≤ 6
stay_at k rs counts sources chosen pos seven any is below zero le =
    omega (arith, all_but_one (reaches (counts_after rs chosen (counts_now rs counts)) (k + zero)) chosen sources (chosen_starts_again rs chosen (counts_now rs counts) (k + zero) (omega arith)) any)
stay_at k rs counts sources chosen pos seven any is below (suc j) le =
    let now = counts_now rs counts in
    let e : k + suc j ≡ k + j + 1 = omega arith in
    let bound = fewer_next (reaches (counts_after rs chosen now) (k + suc j)) (reaches now (k + j)) (reaches counts (k + j)) chosen sources j _ refl
    (λ s h. one_back rs chosen now (k + j) s (omega arith) (subst (λ n. reaches (counts_after rs chosen now) n s ≡ true) e h))
    (λ s h. not_more rs counts (k + j) s (omega arith) h)
    (chosen_starts_again rs chosen now (k + suc j) (omega arith)) any
    (λ s h. subst (λ c. reaches now (k + j) c ≡ true) (sym is) (chosen_reaches k (k + j) rs counts s pos (omega arith) h))
    (omega arith) (below j (omega arith)) in
    omega (arith, bound)

-- the counts stay below their bounds
pub stay_below : (k : ℕ) (rs : List Runnable) (counts : List ℕ) → 1 ≤ k → AreBelow (Fair k) counts
    → AreBelow (Fair k) (counts_after rs (by_fair k (counts_now rs counts) rs) (counts_now rs counts))
stay_below k rs counts pos below =
    let chosen = by_fair k (counts_now rs counts) rs in
    stay_at k rs counts default_list chosen pos refl (default_has chosen) refl below

none_counted : (p : Source → Bool) (s : Source) (xs : List Source) (b : Bool) → p s ≡ b → list_any (same_source s) xs ≡ true → count_by p xs ≡ 0 → p s ≡ false
none_counted p s xs false e any none = e
none_counted p s xs true e any none =
    let never : Source → Bool = λ s. false in
    let one = fewer_one never p s xs (λ x h. cc) refl e any in
    absurd (omega arith)

at_most : (n count : ℕ) → nat_le n count ≡ false → count < n
at_most n count h = grind (arith, nat_tests)

-- so each count is below K + 6
pub count_below : (k : ℕ) (counts : List ℕ) → AreBelow (Fair k) counts → (s : Source) → count_of counts s < k + 6
count_below k counts below s =
    at_most (k + 6) (count_of counts s) (none_counted (reaches counts (k + 6)) s default_list (reaches counts (k + 6) s) refl (default_has s) (omega (arith, below 6 (omega arith))))

pub zeroed_below : (k : ℕ) (rs : List Runnable) (counts : List ℕ) → AreBelow (Fair k) counts → (s : Source) → count_of (counts_now rs counts) s < k + 6
zeroed_below k rs counts below s =
    elim (is_runnable rs s) as (λ b. count_of (counts_now rs counts) s ≡ cond b (count_of counts s) 0 → count_of (counts_now rs counts) s < k + 6) [
      | true ↦ λ e. omega (arith, count_below k counts below s)
      | false ↦ λ e. omega (arith, count_below k counts below s)
    ] (zeroed_count rs counts s)

pub few : (k : ℕ) → (nat_le 1 k && nat_le k 1000) ≡ true → (1 ≤ k) × (k ≤ 1000)
few k h = grind (arith, nat_tests)

abbrev pub Holds : Policy → List ℕ → Type 0
Holds policy counts = (is_policy policy ≡ true) × AreBelow policy counts

pub has_room : (policy : Policy) (counts now : List ℕ) (k : ℕ) (rs : List Runnable) → policy ≡ Fair k → Holds policy counts → now ≡ counts_now rs counts
    → (s : Source) → count_of now s + 1 < 4294967296
has_room policy counts now k rs is holds zeroed s =
    let h = subst (λ p. Holds p counts) is holds in
    let small = few k h.0 in
    subst (λ xs. count_of xs s + 1 < 4294967296) (sym zeroed) (omega (arith, zeroed_below k rs counts h.1 s))

pub holds_on : (policy : Policy) (counts now after : List ℕ) (k : ℕ) (rs : List Runnable) (chosen : Source) → policy ≡ Fair k → Holds policy counts → now ≡ counts_now rs counts
    → chosen ≡ by_fair k now rs → after ≡ counts_after rs chosen now → Holds policy after
holds_on policy counts now after k rs chosen is holds zeroed picked counted =
    let h = subst (λ p. Holds p counts) is holds in
    let below = stay_below k rs counts (few k h.0).0 h.1 in
    let picked' : chosen ≡ by_fair k (counts_now rs counts) rs = picked ∙ ap (λ xs. by_fair k xs rs) zeroed in
    let counted' : after ≡ counts_after rs (by_fair k (counts_now rs counts) rs) (counts_now rs counts) = counted ∙ ap (λ xs. counts_after rs chosen xs) zeroed ∙ ap (λ s. counts_after rs s (counts_now rs counts)) picked' in
    let fair : Holds (Fair k) after = (h.0, subst (λ xs. AreBelow (Fair k) xs) (sym counted') below) in
    subst (λ p. Holds p after) (sym is) fair
