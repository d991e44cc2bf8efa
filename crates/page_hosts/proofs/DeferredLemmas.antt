-- Closures that were given up, laid over those of a port.
use Rattle.std.proofs.Common.{◌≡◌, ◌≤◌, ◌<◌, ℕ, zero, suc, Bool, true, false, not, cond, ◌&&◌, List, [], ◌∷◌, ◌++◌, length, drop, Option, None, Some, Result, Ok, Err, refl, sym, ap, ◌∙◌, arith}
use Rattle.std.specs.Prelude.{ℤ, IfOk, IsTrue, OnOk, slice_get, slice_set, option_map}
use Rattle.std.specs.Option.{option_map_or}
use Rattle.page_types.specs.declared.HostMark.{HostMark}
use Rattle.page_types.specs.declared.HostMark.TheVariants.{Live, Queued, Fired, Dropped}
use Rattle.page_parts.specs.HostClosures.{HostClosure, meets, fired}
use Rattle.host_jobs.specs.Closures.{is_live, takes, is_live_at, takes_at, meets_at, after_drop, changed_at, fired_at, dropped_at}
use Rattle.page_hosts.specs.Deferred.{is_given_up, given_up_where, given_up_in}
use Rattle.page_hosts.proofs.HostLemmas.{get_beyond}

-- ---- one closure

same : (o : Option HostClosure) → o ≡ option_map (given_up_where false) o
same None = refl
same (Some c) = refl

pub get_is : (bs : List Bool) (cs : List HostClosure) (k : ℕ)
    → slice_get (given_up_in bs cs) k ≡ option_map (given_up_where (is_given_up bs k)) (slice_get cs k)
get_is [] cs k = same (slice_get cs k)
get_is (b ∷ bs) [] k = refl
get_is (b ∷ bs) (c ∷ cs) zero = refl
get_is (b ∷ bs) (c ∷ cs) (suc k) = get_is bs cs k

live_where : (b : Bool) (c : HostClosure) → is_live (given_up_where b c).mark ≡ is_live c.mark && not b
live_where false c = by (is_live c.mark)
  where
    by : (l : Bool) → l ≡ l && true
    by true = refl
    by false = refl
live_where true c = by c.mark refl
  where
    by : (m : HostMark) → c.mark ≡ m → is_live (after_drop c).mark ≡ is_live c.mark && false
    by Live e = rw e
    by Queued e = rw e
    by Fired e = rw e
    by Dropped e = rw e

pub live_is : (bs : List Bool) (cs : List HostClosure) (k : ℕ) → is_live_at (given_up_in bs cs) k ≡ is_live_at cs k && not (is_given_up bs k)
live_is bs cs k = ap (λ o. option_map_or (λ (c : HostClosure). is_live c.mark) o false) (get_is bs cs k) ∙ by (slice_get cs k)
  where
    by : (o : Option HostClosure)
        → option_map_or (λ c. is_live c.mark) (option_map (given_up_where (is_given_up bs k)) o) false
        ≡ option_map_or (λ c. is_live c.mark) o false && not (is_given_up bs k)
    by None = refl
    by (Some c) = live_where (is_given_up bs k) c

-- what is not given by the mark stays
alike : {X : Type 0} (f : HostClosure → X) → ((c : HostClosure) (m : HostMark) → f (record c { mark = m }) ≡ f c)
    → (b : Bool) (c : HostClosure) → f (given_up_where b c) ≡ f c
alike f apart false c = refl
alike f apart true c = by (is_live c.mark)
  where
    by : (l : Bool) → f (cond l (record c { mark = Dropped }) c) ≡ f c
    by true = apart c Dropped
    by false = refl

told_alike : (f : HostClosure → Bool) → ((c : HostClosure) (m : HostMark) → f (record c { mark = m }) ≡ f c)
    → (bs : List Bool) (cs : List HostClosure) (k : ℕ)
    → option_map_or f (slice_get (given_up_in bs cs) k) false ≡ option_map_or f (slice_get cs k) false
told_alike f apart bs cs k = ap (λ o. option_map_or f o false) (get_is bs cs k) ∙ by (slice_get cs k)
  where
    by : (o : Option HostClosure) → option_map_or f (option_map (given_up_where (is_given_up bs k)) o) false ≡ option_map_or f o false
    by None = refl
    by (Some c) = alike f apart (is_given_up bs k) c

pub takes_is : (bs : List Bool) (cs : List HostClosure) (k : ℕ) (x : ℤ) → takes_at (given_up_in bs cs) k x ≡ takes_at cs k x
takes_is bs cs k x = told_alike (λ c. takes c x) (λ c m. refl) bs cs k

pub meets_is : (bs : List Bool) (cs : List HostClosure) (k : ℕ) (x : ℤ) (answer : Result ℤ ℤ) → meets_at (given_up_in bs cs) k x answer ≡ meets_at cs k x answer
meets_is bs cs k x answer = told_alike (λ c. meets c.kind x answer) (λ c m. refl) bs cs k

both : (a b : Bool) → a && not b ≡ true → (a ≡ true) × (b ≡ false)
both true true h = Prim.cc
both true false h = (refl, refl)
both false b h = Prim.cc

pub was_live : (bs : List Bool) (cs : List HostClosure) (k : ℕ) → is_live_at (given_up_in bs cs) k ≡ true → is_live_at cs k ≡ true
was_live bs cs k h = (both (is_live_at cs k) (is_given_up bs k) (sym (live_is bs cs k) ∙ h)).0

pub not_given : (bs : List Bool) (cs : List HostClosure) (k : ℕ) → is_live_at (given_up_in bs cs) k ≡ true → is_given_up bs k ≡ false
not_given bs cs k h = (both (is_live_at cs k) (is_given_up bs k) (sym (live_is bs cs k) ∙ h)).1

-- ---- changes

set_is : (bs : List Bool) (cs : List HostClosure) (k : ℕ) (d : HostClosure)
    → given_up_in bs (slice_set cs k d) ≡ slice_set (given_up_in bs cs) k (given_up_where (is_given_up bs k) d)
set_is [] cs k d = refl
set_is (b ∷ bs) [] k d = refl
set_is (b ∷ bs) (c ∷ cs) zero d = refl
set_is (b ∷ bs) (c ∷ cs) (suc k) d = ap (λ (ds : List HostClosure). given_up_where b c ∷ ds) (set_is bs cs k d)

pub fired_is : (bs : List Bool) (cs : List HostClosure) (k : ℕ) → is_given_up bs k ≡ false → given_up_in bs (fired_at cs k) ≡ fired_at (given_up_in bs cs) k
fired_is bs cs k not_so = by (slice_get cs k) refl
  where
    all : List HostClosure
    all = given_up_in bs cs

    by : (o : Option HostClosure) → slice_get cs k ≡ o → given_up_in bs (option_map_or (λ c. slice_set cs k (fired c)) o cs) ≡ fired_at all k
    by None e = sym (ap (λ o. option_map_or (λ (c : HostClosure). slice_set all k (fired c)) o all) (get_is bs cs k ∙ ap (option_map (given_up_where (is_given_up bs k))) e))
    by (Some c) e =
        set_is bs cs k (fired c)
        ∙ ap (λ b. slice_set all k (given_up_where b (fired c))) not_so
        ∙ sym (ap (λ o. option_map_or (λ (c : HostClosure). slice_set all k (fired c)) o all)
        (get_is bs cs k ∙ ap (option_map (given_up_where (is_given_up bs k))) e ∙ ap (λ b. Some (given_up_where b c)) not_so))

-- an answer meets the relation of both
pub by_meeting : {E : Type 0} (result : Result (Result ℤ ℤ) E) (bs : List Bool) (cs : List HostClosure) (k : ℕ) (x : ℤ)
    → IfOk result (λ answer. IsTrue (meets_at cs k x answer)) → IfOk result (λ answer. IsTrue (meets_at (given_up_in bs cs) k x answer))
by_meeting (Ok answer) bs cs k x h = meets_is bs cs k x answer ∙ h
by_meeting (Err e) bs cs k x h = tt

-- an answer fires it in both
pub by_firing : {X E : Type 0} (result : Result X E) (bs : List Bool) (cs now : List HostClosure) (k : ℕ) → is_given_up bs k ≡ false
    → OnOk result (now ≡ fired_at cs k) → OnOk result (given_up_in bs now ≡ fired_at (given_up_in bs cs) k)
by_firing (Ok x) bs cs now k not_so h = ap (given_up_in bs) h ∙ fired_is bs cs k not_so
by_firing (Err e) bs cs now k not_so h = tt

changed_later : (f : HostClosure → HostClosure) (c : HostClosure) (cs : List HostClosure) (k : ℕ) → changed_at f (c ∷ cs) (suc k) ≡ c ∷ changed_at f cs k
changed_later f c cs k = by (slice_get cs k)
  where
    by : (o : Option HostClosure) → option_map_or (λ d. slice_set (c ∷ cs) (suc k) (f d)) o (c ∷ cs) ≡ c ∷ option_map_or (λ d. slice_set cs k (f d)) o cs
    by None = refl
    by (Some d) = refl

twice : (c : HostClosure) → after_drop c ≡ after_drop (after_drop c)
twice c = by c.mark refl
  where
    by : (m : HostMark) → m ≡ c.mark → after_drop c ≡ after_drop (after_drop c)
    by Live e = rw (← e)
    by Queued e = rw (← e)
    by Fired e = rw (← e)
    by Dropped e = rw (← e)

pub given_up_is : (bs : List Bool) (cs : List HostClosure) (k : ℕ) → k < length bs → given_up_in (slice_set bs k true) cs ≡ dropped_at (given_up_in bs cs) k
given_up_is [] cs k below = absurd (omega (arith, below))
given_up_is (b ∷ bs) [] zero below = refl
given_up_is (b ∷ bs) [] (suc k) below = refl
given_up_is (true ∷ bs) (c ∷ cs) zero below = ap (λ (d : HostClosure). d ∷ given_up_in bs cs) (twice c)
given_up_is (false ∷ bs) (c ∷ cs) zero below = refl
given_up_is (b ∷ bs) (c ∷ cs) (suc k) below =
    ap (λ (ds : List HostClosure). given_up_where b c ∷ ds) (given_up_is bs cs k (omega (arith, below)))
    ∙ sym (changed_later after_drop (given_up_where b c) (given_up_in bs cs) k)

length_is : (bs : List Bool) (cs : List HostClosure) → length (given_up_in bs cs) ≡ length cs
length_is [] cs = refl
length_is (b ∷ bs) [] = refl
length_is (b ∷ bs) (c ∷ cs) = ap suc (length_is bs cs)

-- there is no closure of this number
pub none_there : (bs : List Bool) (cs : List HostClosure) (k : ℕ) → length cs ≤ k → given_up_in bs cs ≡ dropped_at (given_up_in bs cs) k
none_there bs cs k beyond =
    let all = given_up_in bs cs in
    sym (ap (λ o. option_map_or (λ (c : HostClosure). slice_set all k (after_drop c)) o all) (get_beyond all k (omega (arith, length_is bs cs, beyond))))

length_set : (cs : List HostClosure) (k : ℕ) (c : HostClosure) → length (slice_set cs k c) ≡ length cs
length_set [] k c = refl
length_set (d ∷ cs) zero c = refl
length_set (d ∷ cs) (suc k) c = ap suc (length_set cs k c)

pub fired_length : (cs : List HostClosure) (k : ℕ) → length (fired_at cs k) ≡ length cs
fired_length cs k = by (slice_get cs k)
  where
    by : (o : Option HostClosure) → length (option_map_or (λ c. slice_set cs k (fired c)) o cs) ≡ length cs
    by None = refl
    by (Some c) = length_set cs k (fired c)

-- ---- none given up so far

pub one_more : (bs : List Bool) (cs : List HostClosure) → given_up_in (bs ++ false ∷ []) cs ≡ given_up_in bs cs
one_more [] [] = refl
one_more [] (c ∷ cs) = refl
one_more (b ∷ bs) [] = refl
one_more (b ∷ bs) (c ∷ cs) = ap (λ (ds : List HostClosure). given_up_where b c ∷ ds) (one_more bs cs)

-- ---- dropping them one after another

-- those from number n on
abbrev pub dropped_from : (n : ℕ) → List Bool → List HostClosure → List HostClosure
dropped_from n [] cs = cs
dropped_from n (b ∷ bs) cs = dropped_from (suc n) bs (cond b (dropped_at cs n) cs)

get_next : (done cs : List HostClosure) (c : HostClosure) → slice_get (done ++ c ∷ cs) (length done) ≡ Some c
get_next [] cs c = refl
get_next (d ∷ done) cs c = get_next done cs c

set_next : (done cs : List HostClosure) (c d : HostClosure) → slice_set (done ++ c ∷ cs) (length done) d ≡ done ++ d ∷ cs
set_next [] cs c d = refl
set_next (x ∷ done) cs c d = ap (λ (ds : List HostClosure). x ∷ ds) (set_next done cs c d)

dropped_next : (done cs : List HostClosure) (c : HostClosure) → dropped_at (done ++ c ∷ cs) (length done) ≡ done ++ after_drop c ∷ cs
dropped_next done cs c =
    ap (λ o. option_map_or (λ (d : HostClosure). slice_set (done ++ c ∷ cs) (length done) (after_drop d)) o (done ++ c ∷ cs)) (get_next done cs c)
    ∙ set_next done cs c (after_drop c)

no_next : (cs : List HostClosure) (n : ℕ) → length cs ≤ n → dropped_at cs n ≡ cs
no_next cs n beyond = ap (λ o. option_map_or (λ (c : HostClosure). slice_set cs n (after_drop c)) o cs) (get_beyond cs n beyond)

no_more : (n : ℕ) (bs : List Bool) (cs : List HostClosure) → length cs ≤ n → dropped_from n bs cs ≡ cs
no_more n [] cs beyond = refl
no_more n (true ∷ bs) cs beyond = ap (dropped_from (suc n) bs) (no_next cs n beyond) ∙ no_more (suc n) bs cs (omega (arith, beyond))
no_more n (false ∷ bs) cs beyond = no_more (suc n) bs cs (omega (arith, beyond))

added : (done cs : List HostClosure) (c : HostClosure) → (done ++ c ∷ []) ++ cs ≡ done ++ c ∷ cs
added [] cs c = refl
added (d ∷ done) cs c = ap (λ (ds : List HostClosure). d ∷ ds) (added done cs c)

length-added : (done : List HostClosure) (c : HostClosure) → length (done ++ c ∷ []) ≡ suc (length done)
length-added [] c = refl
length-added (d ∷ done) c = ap suc (length-added done c)

behind : (n : ℕ) (bs : List Bool) (done cs : List HostClosure) → length done ≡ n → dropped_from n bs (done ++ cs) ≡ done ++ given_up_in bs cs
behind n [] done cs e = refl
behind n (b ∷ bs) done [] e = all_done b
  where
    whole : (ds : List HostClosure) → ds ++ [] ≡ ds
    whole [] = refl
    whole (d ∷ ds) = ap (λ (es : List HostClosure). d ∷ es) (whole ds)

    all_done : (b : Bool) → dropped_from n (b ∷ bs) (done ++ []) ≡ done ++ []
    all_done b = ap (dropped_from n (b ∷ bs)) (whole done) ∙ no_more n (b ∷ bs) done (omega (arith, e)) ∙ sym (whole done)
behind n (true ∷ bs) done (c ∷ cs) e =
    ap (λ k. dropped_from (suc n) bs (dropped_at (done ++ c ∷ cs) k)) (sym e)
    ∙ ap (dropped_from (suc n) bs) (dropped_next done cs c ∙ sym (added done cs (after_drop c)))
    ∙ behind (suc n) bs (done ++ after_drop c ∷ []) cs (length-added done (after_drop c) ∙ ap suc e)
    ∙ added done (given_up_in bs cs) (after_drop c)
behind n (false ∷ bs) done (c ∷ cs) e =
    ap (dropped_from (suc n) bs) (sym (added done cs c))
    ∙ behind (suc n) bs (done ++ c ∷ []) cs (length-added done c ∙ ap suc e)
    ∙ added done (given_up_in bs cs) c

pub all_dropped : (bs : List Bool) (cs : List HostClosure) → dropped_from 0 bs cs ≡ given_up_in bs cs
all_dropped bs cs = behind 0 bs [] cs refl

-- all of them were looked at
pub all_seen : (bs : List Bool) (cs : List HostClosure) (k : ℕ) → length bs ≤ k → dropped_from k (drop k bs) cs ≡ cs
all_seen bs cs k all = ap (λ (more : List Bool). dropped_from k more cs) (none_left bs k all)
  where
    none_left : (bs : List Bool) (k : ℕ) → length bs ≤ k → drop k bs ≡ []
    none_left [] zero all = refl
    none_left [] (suc k) all = refl
    none_left (b ∷ bs) zero all = absurd (omega (arith, all))
    none_left (b ∷ bs) (suc k) all = none_left bs k (omega (arith, all))
