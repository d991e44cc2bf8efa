-- A page's closures and those of its port.
use Rattle.std.proofs.Common.{◌≡◌, ◌≢◌, ◌≤◌, ◌^◌, ◌⊎◌, inl, inr, ℕ, zero, suc, Bool, true, false, not, cond, ◌&&◌, List, [], ◌∷◌, length, map, Option, None, Some, Result, Ok, Err, refl, sym, ap, subst, ◌∙◌, eqb, nat_cmp, arith}
use Rattle.std.specs.Int.{FitsUnsignedBits}
use lib.IntN.{nat_abs}
use Rattle.std.specs.Prelude.{ℤ, pos, negsuc, IsTrue, slice_get, slice_set, option_map, is_some, OnOk, OnErr}
use Rattle.std.specs.List.{list_all}
use Rattle.std.specs.Option.{option_map_or}
use Rattle.std.specs.BTreeMap.{is_at}
use Rattle.std.proofs.Math.Bool.{false≢true}
use Rattle.std.proofs.lemmas.Bool.{eqb-true}
use Rattle.std.proofs.lemmas.Bool.Decides.{nat_tests}
use Rattle.page_types.specs.declared.HostMark.{HostMark}
use Rattle.page_types.specs.declared.HostMark.TheVariants.{Live, Queued, Fired, Dropped}
use Rattle.page_parts.specs.HostClosures.{HostClosure, meets, fired}
use Rattle.host_jobs.specs.Closures.{is_live, takes, is_live_at, takes_at, meets_at, dropped, after_drop, changed_at, fired_at, dropped_at}
use Rattle.host_jobs.specs.KeptAnswers.{next_kept, FollowsKept}
use Rattle.host_jobs.specs.declared.answer.NoHost.{NoHost}
use Rattle.host_jobs.specs.Overlay.{queued, queued_where, overlaid, AsksToo, IsLiveOrDropped, queued_at}
use Rattle.host_jobs.proofs.OverlayLemmas.{closure_is, live_is, takes_is, count_is, asked_is, fired_is, drop_is}
use Rattle.page_fields.proofs.FieldLemmas as fields
use Rattle.page_model.specs.Operations.{is_fresh, fitting, int_within}
use Rattle.page_model.specs.PageSignals.{drop_at}
use Rattle.page_model.specs.Turns.{not_dropped}
use Rattle.page_hosts.specs.Hosts.{closure_in, is_fresh_at, IsUnfired, ask_at, fire_at, IsQueued, is_unqueued_mark, is_unqueued, unasked, AreOfPort, AreHeld}

-- ---- what is told of one closure

fresh_mark : (m : HostMark) → is_fresh m ≡ is_live m
fresh_mark Live = refl
fresh_mark Queued = refl
fresh_mark Fired = refl
fresh_mark Dropped = refl

fresh_live : (hosts : List HostClosure) (k : ℕ) → is_fresh_at hosts k ≡ is_live_at hosts k
fresh_live hosts k = by (slice_get hosts k)
  where
    by : (o : Option HostClosure) → option_map_or (λ c. is_fresh c.mark) o false ≡ option_map_or (λ c. is_live c.mark) o false
    by None = refl
    by (Some c) = fresh_mark c.mark

pub fresh_is : (asked : ℕ → Bool) (cs : List HostClosure) (k : ℕ) → is_fresh_at (overlaid asked cs) k ≡ is_live_at cs k && not (asked k)
fresh_is asked cs k = fresh_live (overlaid asked cs) k ∙ live_is asked cs k

pub fits_is : (hosts : List HostClosure) (k : ℕ) (x : ℤ) → is_some (fitting (slice_get hosts k) x) ≡ takes_at hosts k x
fits_is hosts k x = by (slice_get hosts k)
  where
    chosen : (c : HostClosure) (b : Bool) → is_some (cond b (Some c) None) ≡ b
    chosen c true = refl
    chosen c false = refl

    by : (o : Option HostClosure) → is_some (fitting o x) ≡ option_map_or (λ c. takes c x) o false
    by None = refl
    by (Some c) = chosen c (int_within c.low c.high x)

pub meets_is : (asked : ℕ → Bool) (cs : List HostClosure) (k : ℕ) (x : ℤ) (answer : Result ℤ ℤ) → meets_at (overlaid asked cs) k x answer ≡ meets_at cs k x answer
meets_is asked cs k x answer = ap (λ o. option_map_or (λ (c : HostClosure). meets c.kind x answer) o false) (closure_is asked cs k) ∙ by (slice_get cs k)
  where
    chosen : (c : HostClosure) (b : Bool) → meets (cond b (queued c) c).kind x answer ≡ meets c.kind x answer
    chosen c true = refl
    chosen c false = refl

    by : (o : Option HostClosure)
        → option_map_or (λ c. meets c.kind x answer) (option_map (queued_where (asked k)) o) false ≡ option_map_or (λ c. meets c.kind x answer) o false
    by None = refl
    by (Some c) = chosen c (asked k && is_live c.mark)

next_alike : (f g : Result ℤ ℤ → Bool) → ((a : Result ℤ ℤ) → f a ≡ g a) → (kept : List (Result ℤ ℤ)) → next_kept f kept ≡ next_kept g kept
next_alike f g alike [] = refl
next_alike f g alike (a ∷ more) = ap (λ b. cond b (Some (a, more)) None) (alike a)

-- the kept answers go by what a test says
pub follows_alike : (f g : Result ℤ ℤ → Bool) → ((a : Result ℤ ℤ) → f a ≡ g a) → (kept : Option (List (Result ℤ ℤ))) (result : Result (Result ℤ ℤ) NoHost) (after : Option (List (Result ℤ ℤ)))
    → FollowsKept f kept result after → FollowsKept g kept result after
follows_alike f g alike None result after follows = follows
follows_alike f g alike (Some kept) (Ok a) after follows = (follows.0, follows.1, sym (next_alike f g alike kept) ∙ follows.2)
follows_alike f g alike (Some kept) (Err e) after follows = (follows.0, follows.1, (sym (next_alike f g alike kept) ∙ follows.2.0, follows.2.1))

-- ---- all closures of a port are unmarked

first : (a b : Bool) → IsTrue (a && b) → a ≡ true
first true b both = refl
first false b both = absurd (false≢true both)

others : (a b : Bool) → IsTrue (a && b) → IsTrue b
others true b both = both
others false b both = absurd (false≢true both)

all_at : (cs : List HostClosure) (k : ℕ) (c : HostClosure) → IsTrue (list_all is_unqueued cs) → slice_get cs k ≡ Some c → is_unqueued c ≡ true
all_at [] k c all there = cc
all_at (d ∷ cs) zero c all there =
    let same : d ≡ c = cc in
    rw (← same) (first (is_unqueued d) (list_all is_unqueued cs) all)
all_at (d ∷ cs) (suc k) c all there = all_at cs k c (others (is_unqueued d) (list_all is_unqueued cs) all) there

all_set : (cs : List HostClosure) (k : ℕ) (c : HostClosure) → IsTrue (list_all is_unqueued cs) → is_unqueued c ≡ true → IsTrue (list_all is_unqueued (slice_set cs k c))
all_set [] k c all one = all
all_set (d ∷ cs) zero c all one = rw one (others (is_unqueued d) (list_all is_unqueued cs) all)
all_set (d ∷ cs) (suc k) c all one = rw (first (is_unqueued d) (list_all is_unqueued cs) all) (all_set cs k c (others (is_unqueued d) (list_all is_unqueued cs) all) one)

length_set : (cs : List HostClosure) (k : ℕ) (c : HostClosure) → length (slice_set cs k c) ≡ length cs
length_set [] k c = refl
length_set (d ∷ cs) zero c = refl
length_set (d ∷ cs) (suc k) c = ap suc (length_set cs k c)

change_keeps : (change : HostClosure → HostClosure) (cs : List HostClosure) (k : ℕ) → ((c : HostClosure) → is_unqueued c ≡ true → is_unqueued (change c) ≡ true)
    → AreOfPort cs → AreOfPort (changed_at change cs k)
change_keeps change cs k each of_port = by (slice_get cs k) refl
  where
    by : (o : Option HostClosure) → slice_get cs k ≡ o → AreOfPort (option_map_or (λ c. slice_set cs k (change c)) o cs)
    by None e = of_port
    by (Some c) e = record {
      count = rw (length_set cs k (change c)) of_port.count;
      unqueued = all_set cs k (change c) of_port.unqueued (each c (all_at cs k c of_port.unqueued e));
    }

fired_keeps : (cs : List HostClosure) (k : ℕ) → AreOfPort cs → AreOfPort (fired_at cs k)
fired_keeps cs k of_port = change_keeps fired cs k (λ c one. refl) of_port

-- an answer fires the closure, and a refusal changes none
pub kept_by : (result : Result (Result ℤ ℤ) NoHost) (old new : List HostClosure) (k : ℕ) → OnOk result (new ≡ fired_at old k) → OnErr result (new ≡ old) → AreOfPort old → AreOfPort new
kept_by (Ok answer) old new k marks same of_port = rw marks (fired_keeps old k of_port)
kept_by (Err e) old new k marks same of_port = rw same of_port

after_drop_keeps : (c : HostClosure) → is_unqueued c ≡ true → is_unqueued (after_drop c) ≡ true
after_drop_keeps c one = by (is_live c.mark)
  where
    by : (b : Bool) → is_unqueued (cond b (dropped c) c) ≡ true
    by true = refl
    by false = one

pub dropped_keeps : (cs : List HostClosure) (k : ℕ) → AreOfPort cs → AreOfPort (dropped_at cs k)
dropped_keeps cs k of_port = change_keeps after_drop cs k after_drop_keeps of_port

with_mark : (c : HostClosure) (m : HostMark) → m ≡ c.mark → record c { mark = m } ≡ c
with_mark c m e = ap (λ n. record c { mark = n }) e

unasked_one : (c : HostClosure) (asked : Bool) → is_unqueued c ≡ true → unasked (queued_where asked c) ≡ c
unasked_one c asked one = by c.mark refl asked one
  where
    by : (m : HostMark) → m ≡ c.mark → (b : Bool) → is_unqueued (record c { mark = m }) ≡ true → unasked (cond (b && is_live m) (queued c) (record c { mark = m })) ≡ c
    by Live e true one = with_mark c Live e
    by Live e false one = with_mark c Live e
    by Queued e b one = absurd (false≢true one)
    by Fired e true one = with_mark c Fired e
    by Fired e false one = with_mark c Fired e
    by Dropped e true one = with_mark c Dropped e
    by Dropped e false one = with_mark c Dropped e

-- what the page sees without its own marks is what the port tells
pub unasked_is : (asked : ℕ → Bool) (cs : List HostClosure) → IsTrue (list_all is_unqueued cs) → map unasked (overlaid asked cs) ≡ cs
unasked_is asked [] all = refl
unasked_is asked (c ∷ cs) all =
    ap (λ (d : HostClosure). d ∷ map unasked (overlaid (λ k. asked (suc k)) cs)) (unasked_one c (asked 0) (first (is_unqueued c) (list_all is_unqueued cs) all))
    ∙ ap (λ (ds : List HostClosure). c ∷ ds) (unasked_is (λ k. asked (suc k)) cs (others (is_unqueued c) (list_all is_unqueued cs) all))

-- ---- a closure that was not fired

live_or_dropped : (c : HostClosure) (asked : Bool) → is_unqueued c ≡ true → (queued_where asked c).mark ≢ Fired → (c.mark ≡ Live) ⊎ (c.mark ≡ Dropped)
live_or_dropped c asked one unfired = by c.mark refl asked one unfired
  where
    by : (m : HostMark) → c.mark ≡ m → (b : Bool) → is_unqueued (record c { mark = m }) ≡ true → (cond (b && is_live m) (queued c) (record c { mark = m })).mark ≢ Fired
        → (c.mark ≡ Live) ⊎ (c.mark ≡ Dropped)
    by Live e b one unfired = inl e
    by Queued e b one unfired = absurd (false≢true one)
    by Fired e true one unfired = absurd (unfired refl)
    by Fired e false one unfired = absurd (unfired refl)
    by Dropped e b one unfired = inr e

pub unfired_is : (asked : ℕ → Bool) (cs : List HostClosure) (k : ℕ) → AreOfPort cs → IsUnfired (overlaid asked cs) k → IsLiveOrDropped cs k
unfired_is asked cs k of_port unfired c there =
    live_or_dropped c (asked k) (all_at cs k c of_port.unqueued there) (unfired (queued_where (asked k) c) (closure_is asked cs k ∙ ap (option_map (queued_where (asked k))) there))

pub undropped_is : (asked : ℕ → Bool) (cs : List HostClosure) (k : ℕ) → IsLiveOrDropped cs k → is_some (not_dropped (slice_get (overlaid asked cs) k)) ≡ is_live_at cs k
undropped_is asked cs k may = ap (λ o. is_some (not_dropped o)) (closure_is asked cs k) ∙ by (slice_get cs k) refl
  where
    one : (c : HostClosure) (b : Bool) → (c.mark ≡ Live) ⊎ (c.mark ≡ Dropped) → is_some (not_dropped (Some (queued_where b c))) ≡ is_live c.mark
    one c true (inl live) = rw live
    one c false (inl live) = rw live
    one c true (inr was) = rw was
    one c false (inr was) = rw was

    by : (o : Option HostClosure) → slice_get cs k ≡ o → is_some (not_dropped (option_map (queued_where (asked k)) o)) ≡ option_map_or (λ c. is_live c.mark) o false
    by None e = refl
    by (Some c) e = one c (asked k) (may c e)

-- ---- changes

ask_at_is : (hosts : List HostClosure) (k : ℕ) → ask_at k (slice_get hosts k) hosts ≡ queued_at hosts k
ask_at_is hosts k = by (slice_get hosts k)
  where
    by : (o : Option HostClosure) → ask_at k o hosts ≡ option_map_or (λ c. slice_set hosts k (queued c)) o hosts
    by None = refl
    by (Some c) = refl

pub ask_is : (asked now : ℕ → Bool) (cs : List HostClosure) (k : ℕ) → IsTrue (is_fresh_at (overlaid asked cs) k) → AsksToo k asked now
    → overlaid now cs ≡ ask_at k (slice_get (overlaid asked cs) k) (overlaid asked cs)
ask_is asked now cs k fresh asks = asked_is asked now cs k (rw (fresh_live (overlaid asked cs) k) at fresh) asks ∙ sym (ask_at_is (overlaid asked cs) k)

fire_at_is : (hosts : List HostClosure) (k : ℕ) → fire_at k (slice_get hosts k) hosts ≡ fired_at hosts k
fire_at_is hosts k = by (slice_get hosts k)
  where
    by : (o : Option HostClosure) → fire_at k o hosts ≡ option_map_or (λ c. slice_set hosts k (fired c)) o hosts
    by None = refl
    by (Some c) = refl

pub fire_is : (asked : ℕ → Bool) (cs : List HostClosure) (k : ℕ) → overlaid asked (fired_at cs k) ≡ fire_at k (slice_get (overlaid asked cs) k) (overlaid asked cs)
fire_is asked cs k = fired_is asked cs k ∙ sym (fire_at_is (overlaid asked cs) k)

pub give_up_is : (asked : ℕ → Bool) (cs : List HostClosure) (k : ℕ) → IsLiveOrDropped cs k → overlaid asked (dropped_at cs k) ≡ drop_at k (slice_get (overlaid asked cs) k) (overlaid asked cs)
give_up_is asked cs k may = drop_is asked cs k may ∙ sym (fields.dropped_is k (overlaid asked cs))

-- ---- the set of numbers that were asked

pub at_same : (a b : ℕ) → is_at (nat_cmp a) b ≡ eqb a b
at_same a b = grind (arith, nat_tests)

eqb_other : (a b : ℕ) → b ≢ a → eqb a b ≡ false
eqb_other a b other = grind (arith, nat_tests)

eqb_self : (a : ℕ) → eqb a a ≡ true
eqb_self a = grind (arith, nat_tests)

pub asks_too : (k : ℕ) (old new : ℕ → Bool) → ((j : ℕ) → new j ≡ cond (is_at (nat_cmp k) j) true (old j)) → AsksToo k old new
asks_too k old new each = record {
  this = each k ∙ ap (λ b. cond b true (old k)) (at_same k k ∙ eqb_self k);
  others = λ j other. each j ∙ ap (λ b. cond b true (old j)) (at_same k j ∙ eqb_other k j other);
}

-- ---- a number that no closure has

pub get_beyond : (cs : List HostClosure) (k : ℕ) → length cs ≤ k → slice_get cs k ≡ None
get_beyond [] k beyond = refl
get_beyond (c ∷ cs) zero beyond = absurd (omega arith)
get_beyond (c ∷ cs) (suc k) beyond = get_beyond cs k (omega arith)

-- a number that a script gives, as a closure's number
pub takes_found : (asked : ℕ → Bool) (cs : List HostClosure) (k x : ℤ) (n : ℕ) → FitsUnsignedBits 32 k → n ≡ nat_abs k
    → takes_at cs n x ≡ is_some (fitting (closure_in (overlaid asked cs) k) x)
takes_found asked cs (pos k) x n fits same =
    ap (λ j. takes_at cs j x) same ∙ sym (takes_is asked cs k x) ∙ sym (fits_is (overlaid asked cs) k x)
takes_found asked cs (negsuc k) x n fits same = absurd fits

-- no closure has a number that is no u32
pub takes_not_found : (asked : ℕ → Bool) (cs : List HostClosure) (k x : ℤ) → length cs ≤ 2 ^ 32 → ¬ FitsUnsignedBits 32 k
    → false ≡ is_some (fitting (closure_in (overlaid asked cs) k) x)
takes_not_found asked cs (pos k) x count outside =
    sym (ap (λ (o : Option HostClosure). is_some (fitting o x)) (get_beyond (overlaid asked cs) k (omega (arith, count_is asked cs))))
takes_not_found asked cs (negsuc k) x count outside = refl

-- ---- those that were asked and have not answered

get_set_same : (cs : List HostClosure) (k : ℕ) (c d : HostClosure) → slice_get (slice_set cs k d) k ≡ Some c → c ≡ d
get_set_same [] k c d there = cc
get_set_same (e ∷ cs) zero c d there = cc
get_set_same (e ∷ cs) (suc k) c d there = get_set_same cs k c d there

get_set_other : (cs : List HostClosure) (k j : ℕ) (d : HostClosure) → eqb k j ≡ false → slice_get (slice_set cs k d) j ≡ slice_get cs j
get_set_other [] k j d other = refl
get_set_other (e ∷ cs) zero zero d other = absurd (false≢true (sym other))
get_set_other (e ∷ cs) zero (suc j) d other = refl
get_set_other (e ∷ cs) (suc k) zero d other = refl
get_set_other (e ∷ cs) (suc k) (suc j) d other = get_set_other cs k j d (grind (arith, nat_tests, other))

-- a change of closure k, where it is there
pub changed_same : (change : HostClosure → HostClosure) (cs : List HostClosure) (k : ℕ) (c : HostClosure) → slice_get (changed_at change cs k) k ≡ Some c
    → (d : HostClosure) × (slice_get cs k ≡ Some d) × (c ≡ change d)
changed_same change cs k c there = by (slice_get cs k) refl there
  where
    by : (o : Option HostClosure) → slice_get cs k ≡ o → slice_get (option_map_or (λ d. slice_set cs k (change d)) o cs) k ≡ Some c
        → (d : HostClosure) × (slice_get cs k ≡ Some d) × (c ≡ change d)
    by None e there = absurd (let never : ⊥ = cc in never)
    by (Some d) e there = (d, e, get_set_same cs k c (change d) there)

pub changed_other : (change : HostClosure → HostClosure) (cs : List HostClosure) (k j : ℕ) → eqb k j ≡ false → slice_get (changed_at change cs k) j ≡ slice_get cs j
changed_other change cs k j other = by (slice_get cs k)
  where
    by : (o : Option HostClosure) → slice_get (option_map_or (λ d. slice_set cs k (change d)) o cs) j ≡ slice_get cs j
    by None = refl
    by (Some d) = get_set_other cs k j (change d) other

live_mark : (c : HostClosure) → is_live c.mark ≡ true → c.mark ≡ Live
live_mark c live = by c.mark live
  where
    by : (m : HostMark) → is_live m ≡ true → m ≡ Live
    by Live e = refl
    by Queued e = absurd (false≢true e)
    by Fired e = absurd (false≢true e)
    by Dropped e = absurd (false≢true e)

live_there : (cs : List HostClosure) (k : ℕ) → is_live_at cs k ≡ true → IsLiveOrDropped cs k
live_there cs k live c there =
    inl (live_mark c (sym (ap (λ o. option_map_or (λ (d : HostClosure). is_live d.mark) o false) there) ∙ live))

-- none was asked
pub none_held : (asked : ℕ → Bool) (cs : List HostClosure) → ((k : ℕ) → asked k ≡ false) → AreOfPort cs → AreHeld asked cs
none_held asked cs none of_port = record { of_port = of_port; unfired = λ k is. absurd (false≢true (sym (none k) ∙ is)) }

-- one more was asked
pub asked_held : (asked now : ℕ → Bool) (cs : List HostClosure) (k : ℕ) → IsTrue (is_fresh_at (overlaid asked cs) k)
    → ((j : ℕ) → now j ≡ cond (is_at (nat_cmp k) j) true (asked j)) → AreHeld asked cs → AreHeld now cs
asked_held asked now cs k fresh each held = record {
  of_port = held.of_port;
  unfired = λ j is. by j (eqb k j) refl (sym (each j ∙ ap (λ b. cond b true (asked j)) (at_same k j)) ∙ is);
}
  where
    by : (j : ℕ) (b : Bool) → eqb k j ≡ b → cond b true (asked j) ≡ true → IsLiveOrDropped cs j
    by j true same is =
        let P : ℕ → Type 0 = IsLiveOrDropped cs in
        subst P (eqb-true k j same) (live_there cs k (first (is_live_at cs k) (not (asked k)) (sym (fresh_is asked cs k) ∙ fresh)))
    by j false same is = held.unfired j is

-- one has answered
pub fired_held : (asked now : ℕ → Bool) (cs : List HostClosure) (k : ℕ)
    → ((j : ℕ) → now j ≡ cond (is_at (nat_cmp k) j) false (asked j)) → AreHeld asked cs → AreHeld now (fired_at cs k)
fired_held asked now cs k each held = record {
  of_port = fired_keeps cs k held.of_port;
  unfired = λ j is. by j (eqb k j) refl (sym (each j ∙ ap (λ b. cond b false (asked j)) (at_same k j)) ∙ is);
}
  where
    by : (j : ℕ) (b : Bool) → eqb k j ≡ b → cond b false (asked j) ≡ true → IsLiveOrDropped (fired_at cs k) j
    by j true same is = absurd (false≢true is)
    by j false same is = λ c there. held.unfired j is c (sym (changed_other fired cs k j same) ∙ there)

-- one was dropped
pub dropped_held : (asked : ℕ → Bool) (cs : List HostClosure) (k : ℕ) → AreHeld asked cs → AreHeld asked (dropped_at cs k)
dropped_held asked cs k held = record {
  of_port = dropped_keeps cs k held.of_port;
  unfired = λ j is. by j (eqb k j) refl is;
}
  where
    one : (d : HostClosure) → (d.mark ≡ Live) ⊎ (d.mark ≡ Dropped) → ((after_drop d).mark ≡ Live) ⊎ ((after_drop d).mark ≡ Dropped)
    one d (inl live) = inr (ap (λ m. (cond (is_live m) (dropped d) d).mark) live)
    one d (inr was) = inr (ap (λ m. (cond (is_live m) (dropped d) d).mark) was ∙ was)

    at : (c : HostClosure) → asked k ≡ true → slice_get (dropped_at cs k) k ≡ Some c → (c.mark ≡ Live) ⊎ (c.mark ≡ Dropped)
    at c is there =
        let was = changed_same after_drop cs k c there in
        let P : HostClosure → Type 0 = λ c. (c.mark ≡ Live) ⊎ (c.mark ≡ Dropped) in
        subst P (sym was.2) (one was.0 (held.unfired k is was.0 was.1))

    by : (j : ℕ) (b : Bool) → eqb k j ≡ b → asked j ≡ true → IsLiveOrDropped (dropped_at cs k) j
    by j true same is =
        let P : ℕ → Type 0 = λ j. asked j ≡ true → IsLiveOrDropped (dropped_at cs k) j in
        subst P (eqb-true k j same) (λ is c there. at c is there) is
    by j false same is = λ c there. held.unfired j is c (sym (changed_other after_drop cs k j same) ∙ there)

-- the mark of one that the port has fired says so, whether it was asked or not
overlaid_alike : (asked now : ℕ → Bool) (cs : List HostClosure)
    → ((k : ℕ) (c : HostClosure) → slice_get cs k ≡ Some c → is_live c.mark ≡ true → now k ≡ asked k) → overlaid now cs ≡ overlaid asked cs
overlaid_alike asked now [] same = refl
overlaid_alike asked now (c ∷ cs) same =
    ap (λ (d : HostClosure). d ∷ overlaid (λ k. now (suc k)) cs) (by (is_live c.mark) refl)
    ∙ ap (λ (ds : List HostClosure). queued_where (asked 0) c ∷ ds)
    (overlaid_alike (λ k. asked (suc k)) (λ k. now (suc k)) cs (λ k d there live. same (suc k) d there live))
  where
    none : (a : Bool) → cond (a && false) (queued c) c ≡ c
    none true = refl
    none false = refl

    by : (b : Bool) → is_live c.mark ≡ b → cond (now 0 && b) (queued c) c ≡ cond (asked 0 && b) (queued c) c
    by true e = ap (λ a. cond (a && true) (queued c) c) (same 0 c refl e)
    by false e = none (now 0) ∙ sym (none (asked 0))

pub answered_overlaid : (asked now : ℕ → Bool) (cs : List HostClosure) (k : ℕ) → ((j : ℕ) → now j ≡ cond (is_at (nat_cmp k) j) false (asked j))
    → overlaid now (fired_at cs k) ≡ overlaid asked (fired_at cs k)
answered_overlaid asked now cs k each = overlaid_alike asked now (fired_at cs k) (λ j c there live. by j c there live (eqb k j) refl)
  where
    by : (j : ℕ) (c : HostClosure) → slice_get (fired_at cs k) j ≡ Some c → is_live c.mark ≡ true → (b : Bool) → eqb k j ≡ b → now j ≡ asked j
    by j c there live true same =
        let was = changed_same fired cs k c (ap (slice_get (fired_at cs k)) (eqb-true k j same) ∙ there) in
        absurd (false≢true (sym (ap (λ (d : HostClosure). is_live d.mark) was.2) ∙ live))
    by j c there live false same = each j ∙ ap (λ b. cond b false (asked j)) (at_same k j ∙ same)

-- ---- whether one was asked and has not answered

pub asked_unfired : (asked : ℕ → Bool) (cs : List HostClosure) (k : ℕ) → AreHeld asked cs → asked k ≡ true → IsUnfired (overlaid asked cs) k
asked_unfired asked cs k held is c there fired_mark = by (slice_get cs k) refl (sym (closure_is asked cs k) ∙ there)
  where
    one : (d : HostClosure) → (d.mark ≡ Live) ⊎ (d.mark ≡ Dropped) → (b : Bool) → (queued_where b d).mark ≡ Fired → ⊥
    one d (inl live) true e = let never : Queued ≡ Fired = sym (ap (λ m. (cond (is_live m) (queued d) d).mark) live) ∙ e in cc
    one d (inl live) false e = let never : Live ≡ Fired = sym live ∙ e in cc
    one d (inr was) true e = let never : Dropped ≡ Fired = sym (ap (λ m. (cond (is_live m) (queued d) d).mark) was ∙ was) ∙ e in cc
    one d (inr was) false e = let never : Dropped ≡ Fired = sym was ∙ e in cc

    by : (o : Option HostClosure) → slice_get cs k ≡ o → option_map (queued_where (asked k)) o ≡ Some c → ⊥
    by None e found = cc
    by (Some d) e found =
        let same : queued_where (asked k) d ≡ c = cc in
        one d (held.unfired k is d e) (asked k) (ap (λ (x : HostClosure). x.mark) same ∙ fired_mark)

pub queued_asked : (asked : ℕ → Bool) (cs : List HostClosure) (k : ℕ) → AreOfPort cs → IsQueued (overlaid asked cs) k → asked k ≡ true
queued_asked asked cs k of_port found = by (slice_get cs k) refl (sym (closure_is asked cs k) ∙ found.1)
  where
    one : (d : HostClosure) (b : Bool) → is_unqueued d ≡ true → (queued_where b d).mark ≡ Queued → b ≡ true
    one d true un e = refl
    one d false un e = absurd (false≢true (sym (ap is_unqueued_mark e) ∙ un))

    by : (o : Option HostClosure) → slice_get cs k ≡ o → option_map (queued_where (asked k)) o ≡ Some found.0 → asked k ≡ true
    by None e there = absurd (let never : ⊥ = cc in never)
    by (Some d) e there =
        let same : queued_where (asked k) d ≡ found.0 = cc in
        one d (asked k) (all_at cs k d of_port.unqueued e) (ap (λ (x : HostClosure). x.mark) same ∙ found.2)
