-- What each call on signals keeps of their reasons, dependent signals and algorithms.
use Rattle.std.proofs.Common.{◌≡◌, ℕ, zero, suc, ◌+◌, ◌^◌, ◌<◌, ◌≤◌, ◌==◌, Bool, true, false, cond, List, [], ◌∷◌, length, Option, None, Some, refl, ap, sym, subst, arith}
use Rattle.std.specs.Prelude.{slice_get, slice_set, unwrap_or, not, filter}
use Rattle.std.specs.List.{AllByRecursion}
use Rattle.page_parts.specs.Words.{and_last, without, with_numbered, is_there}
use Rattle.page_parts.specs.AbortGraph.{SignalRecord, Signals, fresh_signal, the_signal, reason_of, is_aborted, make, make_aborted, first_reason, all_sources, with_dependent, depend_on, any, marked, with_reason, with_algorithms, add_algorithm, remove_algorithm}
use Rattle.page_signals.specs.Registrations.{AreRegistrations}
use Rattle.page_signals.specs.Kept.{IsSound, AreSound, HaveReason}

-- ---- lists

pub all-last : {X : Type 0} (P : X → Type 0) (xs : List X) (x : X) → AllByRecursion P xs → P x → AllByRecursion P (and_last xs x)
all-last P [] x all here = (here, tt)
all-last P (y ∷ xs) x all here = (all.0, all-last P xs x all.1 here)

pub all-more : {X : Type 0} (P Q : X → Type 0) (xs : List X) → ((x : X) → P x → Q x) → AllByRecursion P xs → AllByRecursion Q xs
all-more P Q [] more all = tt
all-more P Q (x ∷ xs) more all = (more x all.0, all-more P Q xs more all.1)

pub all-set : {X : Type 0} (P : X → Type 0) (xs : List X) (k : ℕ) (x : X) → AllByRecursion P xs → P x → AllByRecursion P (slice_set xs k x)
all-set P [] k x all here = tt
all-set P (y ∷ xs) zero x all here = (here, all.1)
all-set P (y ∷ xs) (suc k) x all here = (all.0, all-set P xs k x all.1 here)

pub all-get : {X : Type 0} (P : X → Type 0) (xs : List X) (k : ℕ) (d : X) → AllByRecursion P xs → P d → P (unwrap_or (slice_get xs k) d)
all-get P [] k d all none = none
all-get P (y ∷ xs) zero d all none = all.0
all-get P (y ∷ xs) (suc k) d all none = all-get P xs k d all.1 none

pub all-without : {X : Type 0} (P : X → Type 0) (test : X → Bool) (xs : List X) → AllByRecursion P xs → AllByRecursion P (without test xs)
all-without P test [] all = tt
all-without P test (x ∷ xs) all = by (test x) (all-without P test xs all.1)
  where
    by : (b : Bool) → AllByRecursion P (without test xs) → AllByRecursion P (cond b (without test xs) (x ∷ without test xs))
    by true again = again
    by false again = (all.0, again)

length-last : {X : Type 0} (xs : List X) (x : X) → length (and_last xs x) ≡ length xs + 1
length-last [] x = omega arith
length-last (y ∷ xs) x = omega (arith, length-last xs x)

length-slice_set : {X : Type 0} (xs : List X) (k : ℕ) (x : X) → length (slice_set xs k x) ≡ length xs
length-slice_set [] k x = refl
length-slice_set (y ∷ xs) zero x = omega arith
length-slice_set (y ∷ xs) (suc k) x = omega (arith, length-slice_set xs k x)

length-with : {X : Type 0} (xs : List X) (s : ℕ) (x : X) → length (with_numbered xs s x) ≡ length xs
length-with xs zero x = refl
length-with xs (suc k) x = length-slice_set xs k x

-- ---- reasons stay

-- a signal that has a reason has it later too
abbrev pub Later : Signals ℕ → Signals ℕ → Type 0
Later old new = (s n : ℕ) → reason_of old s ≡ Some n → reason_of new s ≡ Some n

at-last : (ss : Signals ℕ) (q : SignalRecord ℕ) (k n : ℕ) → (unwrap_or (slice_get ss k) fresh_signal).reason ≡ Some n
    → (unwrap_or (slice_get (and_last ss q) k) fresh_signal).reason ≡ Some n
at-last [] q k n h = cc
at-last (x ∷ ss) q zero n h = h
at-last (x ∷ ss) q (suc k) n h = at-last ss q k n h

later-last : (ss : Signals ℕ) (q : SignalRecord ℕ) → Later ss (and_last ss q)
later-last ss q zero n h = cc
later-last ss q (suc k) n h = at-last ss q k n h

at-set : (ss : Signals ℕ) (k j : ℕ) (q : SignalRecord ℕ) (n : ℕ)
    → ((unwrap_or (slice_get ss k) fresh_signal).reason ≡ Some n → q.reason ≡ Some n)
    → (unwrap_or (slice_get ss j) fresh_signal).reason ≡ Some n → (unwrap_or (slice_get (slice_set ss k q) j) fresh_signal).reason ≡ Some n
at-set [] k j q n keeps h = h
at-set (x ∷ ss) zero zero q n keeps h = keeps h
at-set (x ∷ ss) zero (suc j) q n keeps h = h
at-set (x ∷ ss) (suc k) zero q n keeps h = h
at-set (x ∷ ss) (suc k) (suc j) q n keeps h = at-set ss k j q n keeps h

later-with : (ss : Signals ℕ) (s : ℕ) (q : SignalRecord ℕ) → ((n : ℕ) → reason_of ss s ≡ Some n → q.reason ≡ Some n) → Later ss (with_numbered ss s q)
later-with ss zero q keeps t n h = h
later-with ss (suc k) q keeps zero n h = cc
later-with ss (suc k) q keeps (suc j) n h = at-set ss k j q n (keeps n) h

pub later-algorithms : (ss : Signals ℕ) (s : ℕ) (as' : List ℕ) → Later ss (with_algorithms s as' ss)
later-algorithms ss s as' = later-with ss s (record (the_signal ss s) { algorithms = as' }) (λ n h. h)

later-dependent : (d : ℕ) (sources : List ℕ) (ss : Signals ℕ) → Later ss (with_dependent d sources ss)
later-dependent d [] ss t n h = h
later-dependent d (s ∷ more) ss t n h =
    let q = record (the_signal ss s) { dependents = and_last (the_signal ss s).dependents d } in
    later-dependent d more (with_numbered ss s q) t n (later-with ss s q (λ m e. e) t n h)

pub later-make : (ss : Signals ℕ) → Later ss (make ss)
later-make ss = later-last ss fresh_signal

pub later-aborted : (r : ℕ) (ss : Signals ℕ) → Later ss (make_aborted r ss)
later-aborted r ss = later-last ss (record { reason = Some r; sources = []; dependents = []; algorithms = [] })

pub later-any : (of : List ℕ) (ss : Signals ℕ) → Later ss (any of ss)
later-any of ss = by (first_reason ss of)
  where
    by : (o : Option ℕ) → Later ss (elim o as (λ _. Signals ℕ) [ Some v ↦ make_aborted v ss | None ↦ depend_on (all_sources ss [] of) ss ])
    by (Some v) = later-aborted v ss
    by None = λ t n h.
        let sources = all_sources ss [] of in
        let q : SignalRecord ℕ = record { reason = None; sources = sources; dependents = []; algorithms = [] } in
        later-dependent (length (and_last ss q)) sources (and_last ss q) t n (later-last ss q t n h)

-- a signal among these that has a reason has this one
abbrev AreFree : ℕ → Signals ℕ → List ℕ → Type 0
AreFree r ss left = AllByRecursion (λ s. (n : ℕ) → reason_of ss s ≡ Some n → n ≡ r) left

free-at : (ss : Signals ℕ) (k j r n : ℕ) (q : SignalRecord ℕ) → q.reason ≡ Some r
    → ((unwrap_or (slice_get ss j) fresh_signal).reason ≡ Some n → n ≡ r)
    → (unwrap_or (slice_get (slice_set ss k q) j) fresh_signal).reason ≡ Some n → n ≡ r
free-at [] k j r n q e free h = free h
free-at (x ∷ ss) zero zero r n q e free h = cc
free-at (x ∷ ss) zero (suc j) r n q e free h = free h
free-at (x ∷ ss) (suc k) zero r n q e free h = free h
free-at (x ∷ ss) (suc k) (suc j) r n q e free h = free-at ss k j r n q e free h

free-with : (ss : Signals ℕ) (s r : ℕ) (q : SignalRecord ℕ) → q.reason ≡ Some r → (t : ℕ) → ((n : ℕ) → reason_of ss t ≡ Some n → n ≡ r)
    → (n : ℕ) → reason_of (with_numbered ss s q) t ≡ Some n → n ≡ r
free-with ss zero r q e t free n h = free n h
free-with ss (suc k) r q e zero free n h = cc
free-with ss (suc k) r q e (suc j) free n h = free-at ss k j r n q e (free n) h

later-reasons : (r : ℕ) (left : List ℕ) (ss : Signals ℕ) → AreFree r ss left → Later ss (with_reason r left ss)
later-reasons r [] ss free t n h = h
later-reasons r (s ∷ more) ss free t n h =
    let q : SignalRecord ℕ = record (the_signal ss s) { reason = Some r } in
    let new = with_numbered ss s q in
    later-reasons r more new
    (all-more (λ t. (n : ℕ) → reason_of ss t ≡ Some n → n ≡ r) (λ t. (n : ℕ) → reason_of new t ≡ Some n → n ≡ r) more (free-with ss s r q refl) free.1)
    t n (later-with ss s q (λ m e. ap Some (sym (free.0 m e))) t n h)

free-dependents : (r : ℕ) (ss : Signals ℕ) (ds : List ℕ) → AreFree r ss (filter (λ d. not (is_aborted ss d)) ds)
free-dependents r ss [] = tt
free-dependents r ss (d ∷ ds) = by (reason_of ss d) refl (free-dependents r ss ds)
  where
    by : (o : Option ℕ) → reason_of ss d ≡ o → AreFree r ss (filter (λ d. not (is_aborted ss d)) ds)
        → AreFree r ss (cond (not (is_there o)) (d ∷ filter (λ d. not (is_aborted ss d)) ds) (filter (λ d. not (is_aborted ss d)) ds))
    by None e again = ((λ n h. cc), again)
    by (Some m) e again = again

pub free-marked : (r s : ℕ) (ss : Signals ℕ) → AreFree r ss (marked s ss)
free-marked r s ss = by (reason_of ss s) refl
  where
    by : (o : Option ℕ) → reason_of ss s ≡ o
        → AreFree r ss (cond (is_there o) [] (s ∷ filter (λ d. not (is_aborted ss d)) (the_signal ss s).dependents))
    by None e = ((λ n h. cc), free-dependents r ss (the_signal ss s).dependents)
    by (Some m) e = tt

pub later-marked : (r s : ℕ) (ss : Signals ℕ) → Later ss (with_reason r (marked s ss) ss)
later-marked r s ss = later-reasons r (marked s ss) ss (free-marked r s ss)

-- ---- signals are sound

fresh-sound : (m : ℕ) → IsSound m fresh_signal
fresh-sound m = record { dependents = tt; algorithms = tt }

sound-at : (m : ℕ) (ss : Signals ℕ) (s : ℕ) → AreSound m ss → IsSound m (the_signal ss s)
sound-at m ss zero sound = fresh-sound m
sound-at m ss (suc k) sound = all-get (IsSound m) ss k fresh_signal sound (fresh-sound m)

sound-with : (m : ℕ) (ss : Signals ℕ) (s : ℕ) (q : SignalRecord ℕ) → AreSound m ss → IsSound m q → AreSound m (with_numbered ss s q)
sound-with m ss zero q sound here = sound
sound-with m ss (suc k) q sound here = all-set (IsSound m) ss k q sound here

more-sound : (l m : ℕ) → l ≤ m → (q : SignalRecord ℕ) → IsSound l q → IsSound m q
more-sound l m le q sound =
    record {
      dependents = all-more (λ d. (0 < d) × (d ≤ l)) (λ d. (0 < d) × (d ≤ m)) q.dependents (λ d h. (h.0, omega (arith, h.1, le))) sound.dependents;
      algorithms = sound.algorithms;
    }

-- signals that are sound by their own number
abbrev pub AreWell : Signals ℕ → Type 0
AreWell ss = AreSound (length ss) ss

well-same : (ss new : Signals ℕ) → length new ≡ length ss → AreSound (length ss) new → AreWell new
well-same ss new e sound = let P : ℕ → Type 0 = λ m. AreSound m new in subst P (sym e) sound

well-last : (ss : Signals ℕ) (q : SignalRecord ℕ) → AreWell ss → ((m : ℕ) → IsSound m q) → AreWell (and_last ss q)
well-last ss q well here =
    let m = length (and_last ss q) in
    let le : length ss ≤ m = omega (arith, length-last ss q) in
    all-last (IsSound m) ss q (all-more (IsSound (length ss)) (IsSound m) ss (more-sound (length ss) m le) well) (here m)

pub well-make : (ss : Signals ℕ) → AreWell ss → AreWell (make ss)
well-make ss well = well-last ss fresh_signal well fresh-sound

pub well-aborted : (r : ℕ) (ss : Signals ℕ) → AreWell ss → AreWell (make_aborted r ss)
well-aborted r ss well =
    well-last ss (record { reason = Some r; sources = []; dependents = []; algorithms = [] }) well (λ m. record { dependents = tt; algorithms = tt })

well-with : (ss : Signals ℕ) (s : ℕ) (q : SignalRecord ℕ) → AreWell ss → IsSound (length ss) q → AreWell (with_numbered ss s q)
well-with ss s q well here = well-same ss (with_numbered ss s q) (length-with ss s q) (sound-with (length ss) ss s q well here)

pub well-algorithms : (ss : Signals ℕ) (s : ℕ) (as' : List ℕ) → AreRegistrations as' → AreWell ss → AreWell (with_algorithms s as' ss)
well-algorithms ss s as' here well =
    well-with ss s (record (the_signal ss s) { algorithms = as' }) well
    (record { dependents = (sound-at (length ss) ss s well).dependents; algorithms = here })

pub own-registrations : (ss : Signals ℕ) (s : ℕ) → AreWell ss → AreRegistrations (the_signal ss s).algorithms
own-registrations ss s well = (sound-at (length ss) ss s well).algorithms

pub well-add : (ss : Signals ℕ) (s r : ℕ) → r < 2 ^ 32 → AreWell ss → AreWell (add_algorithm s r ss)
well-add ss s r less well =
    well-algorithms ss s (and_last (the_signal ss s).algorithms r)
    (all-last (λ r. r < 2 ^ 32) (the_signal ss s).algorithms r (own-registrations ss s well) less) well

pub well-remove : (ss : Signals ℕ) (s r : ℕ) → AreWell ss → AreWell (remove_algorithm s r ss)
well-remove ss s r well =
    well-algorithms ss s (without (λ b. b == r) (the_signal ss s).algorithms)
    (all-without (λ r. r < 2 ^ 32) (λ b. b == r) (the_signal ss s).algorithms (own-registrations ss s well)) well

pub well-reasons : (r : ℕ) (left : List ℕ) (ss : Signals ℕ) → AreWell ss → AreWell (with_reason r left ss)
well-reasons r [] ss well = well
well-reasons r (s ∷ more) ss well =
    let q : SignalRecord ℕ = record (the_signal ss s) { reason = Some r } in
    let own = sound-at (length ss) ss s well in
    well-reasons r more (with_numbered ss s q) (well-with ss s q well (record { dependents = own.dependents; algorithms = own.algorithms }))

well-dependent : (d : ℕ) (sources : List ℕ) (ss : Signals ℕ) → 0 < d → d ≤ length ss → AreWell ss → AreWell (with_dependent d sources ss)
well-dependent d [] ss some le well = well
well-dependent d (s ∷ more) ss some le well =
    let own = the_signal ss s in
    let q : SignalRecord ℕ = record own { dependents = and_last own.dependents d } in
    let sound = sound-at (length ss) ss s well in
    let new = with_numbered ss s q in
    let le_new : d ≤ length new = omega (arith, length-with ss s q, le) in
    well-dependent d more new some le_new
    (well-with ss s q well
    (record {
      dependents = all-last (λ d. (0 < d) × (d ≤ length ss)) own.dependents d sound.dependents (some, le);
      algorithms = sound.algorithms;
    }))

pub well-any : (of : List ℕ) (ss : Signals ℕ) → AreWell ss → AreWell (any of ss)
well-any of ss well = by (first_reason ss of)
  where
    by : (o : Option ℕ) → AreWell (elim o as (λ _. Signals ℕ) [ Some v ↦ make_aborted v ss | None ↦ depend_on (all_sources ss [] of) ss ])
    by (Some v) = well-aborted v ss well
    by None =
        let sources = all_sources ss [] of in
        let q : SignalRecord ℕ = record { reason = None; sources = sources; dependents = []; algorithms = [] } in
        let made = and_last ss q in
        let some : 0 < length made = omega (arith, length-last ss q) in
        well-dependent (length made) sources made some (omega arith) (well-last ss q well (λ m. record { dependents = tt; algorithms = tt }))

-- ---- an abort sets its reason

-- signal number s was made
abbrev IsIn : Signals ℕ → ℕ → Type 0
IsIn ss s = (0 < s) × (s ≤ length ss)

set-there : (ss : Signals ℕ) (k : ℕ) (q : SignalRecord ℕ) → k < length ss → unwrap_or (slice_get (slice_set ss k q) k) fresh_signal ≡ q
set-there [] k q less = absurd (omega arith)
set-there (x ∷ ss) zero q less = refl
set-there (x ∷ ss) (suc k) q less = set-there ss k q (omega arith)

with-there : (ss : Signals ℕ) (s : ℕ) (q : SignalRecord ℕ) → IsIn ss s → the_signal (with_numbered ss s q) s ≡ q
with-there ss zero q made = absurd (omega (arith, made.0))
with-there ss (suc k) q made = set-there ss k q (omega (arith, made.1))

in-with : (ss : Signals ℕ) (s : ℕ) (q : SignalRecord ℕ) (t : ℕ) → IsIn ss t → IsIn (with_numbered ss s q) t
in-with ss s q t made = (made.0, omega (arith, made.1, length-with ss s q))

-- signals on which a reason is set have it
set-reasons : (r : ℕ) (left : List ℕ) (ss : Signals ℕ) → AreFree r ss left → AllByRecursion (IsIn ss) left → HaveReason r (with_reason r left ss) left
set-reasons r [] ss free made = tt
set-reasons r (s ∷ more) ss free made =
    let q : SignalRecord ℕ = record (the_signal ss s) { reason = Some r } in
    let new = with_numbered ss s q in
    let free_new = all-more (λ t. (n : ℕ) → reason_of ss t ≡ Some n → n ≡ r) (λ t. (n : ℕ) → reason_of new t ≡ Some n → n ≡ r) more (free-with ss s r q refl) free.1 in (
      later-reasons r more new free_new s r (ap (λ (x : SignalRecord ℕ). x.reason) (with-there ss s q made.0)),
      set-reasons r more new free_new (all-more (IsIn ss) (IsIn new) more (in-with ss s q) made.1),
    )

filter-all : (P : ℕ → Type 0) (test : ℕ → Bool) (xs : List ℕ) → AllByRecursion P xs → AllByRecursion P (filter test xs)
filter-all P test [] all = tt
filter-all P test (x ∷ xs) all = by (test x) (filter-all P test xs all.1)
  where
    by : (b : Bool) → AllByRecursion P (filter test xs) → AllByRecursion P (cond b (x ∷ filter test xs) (filter test xs))
    by true again = (all.0, again)
    by false again = again

marked-in : (s : ℕ) (ss : Signals ℕ) → AreWell ss → IsIn ss s → AllByRecursion (IsIn ss) (marked s ss)
marked-in s ss well made = by (is_aborted ss s)
  where
    by : (b : Bool) → AllByRecursion (IsIn ss) (cond b [] (s ∷ filter (λ d. not (is_aborted ss d)) (the_signal ss s).dependents))
    by true = tt
    by false = (made, filter-all (IsIn ss) (λ d. not (is_aborted ss d)) (the_signal ss s).dependents (sound-at (length ss) ss s well).dependents)

pub marked-have : (r s : ℕ) (ss : Signals ℕ) → AreWell ss → (0 < s) × (s ≤ length ss) → HaveReason r (with_reason r (marked s ss) ss) (marked s ss)
marked-have r s ss well made = set-reasons r (marked s ss) ss (free-marked r s ss) (marked-in s ss well made)

-- and signals that have a reason have it later
pub have-later : (n : ℕ) (old new : Signals ℕ) (left : List ℕ) → Later old new → HaveReason n old left → HaveReason n new left
have-later n old new left later have = all-more (λ s. reason_of old s ≡ Some n) (λ s. reason_of new s ≡ Some n) left (λ s e. later s n e) have
