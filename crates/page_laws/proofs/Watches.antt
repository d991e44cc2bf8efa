-- What signals can abort: what becomes of their abort algorithms in a change of the signals.
use Rattle.std.proofs.Common.{◌≡◌, ◌⊎◌, inl, inr, ℕ, zero, suc, ◌<◌, Bool, true, false, List, [], ◌∷◌, length, Option, Some, None, refl, sym, subst, ap, ◌∙◌, cond, arith, eqb-true, slice_get, unwrap_or}
use Rattle.std.specs.Prelude.{◌==◌, slice_set}
use Rattle.std.proofs.lemmas.Bool.{eq-eqb}
use Rattle.page_types.specs.Values.{Value}
use Rattle.page_parts.specs.AbortGraph.{SignalRecord, Signals, fresh_signal, the_signal, with_algorithms}
use Rattle.page_parts.specs.AbortGraph as AbortGraph
use Rattle.page_parts.specs.Words.{and_last, is_there, numbered, with_numbered, without}
use Rattle.page_model.proofs.GivenNumbers.Signals.{any-by_number, last-by_number, with-by_number}
use Rattle.page_types.specs.declared.RegKind.TheVariants as kind
use Rattle.page_model.proofs.GivenNumbers.Growing.{Held, InCompletions}
use Rattle.page_model.specs.Numbers.{CompletingIsGiven, CompletionIsGiven, IsGiven, made_by}
use Rattle.page_model.specs.State.{EnqueuePost, OfKind, Page}
use Rattle.page_laws.specs.Moves.{DelayWaits, IsIn, IsReleased, algorithms_at, role_at}
use Rattle.page_laws.proofs.Unarmed.{each-in}

-- what signal s could abort is released, or stays so, and the signal is not aborted anew
abbrev Keeps : Page → ℕ → SignalRecord Value → Type 0
Keeps p s x =
    (r : ℕ) → IsIn r (algorithms_at p.signals s)
    → IsReleased r p ⊎ (IsIn r x.algorithms × (is_there x.reason ≡ true → AbortGraph.is_aborted p.signals s ≡ true))

abbrev pub KeptBy : Page → Signals Value → Type 0
KeptBy p after = (s : ℕ) → Keeps p s (the_signal after s)

pub same-kept : (p : Page) (ss : Signals Value) → ss ≡ p.signals → KeptBy p ss
same-kept p ss e = subst (KeptBy p) (sym e) (λ s r i. inr (i, λ h. h))

-- a new signal could abort nothing before
none-there : (ss : Signals Value) → slice_get ss (length ss) ≡ None
none-there [] = refl
none-there (x ∷ ss) = none-there ss

new-keeps : (p : Page) (x : SignalRecord Value) → Keeps p (suc (length p.signals)) x
new-keeps p x r i = elim (subst (λ (o : Option (SignalRecord Value)). IsIn r (unwrap_or o fresh_signal).algorithms) (none-there p.signals) i) [ ]

pub make-kept : (p : Page) → KeptBy p (AbortGraph.make p.signals)
make-kept p = last-by_number (Keeps p) p.signals fresh_signal (new-keeps p fresh_signal) (same-kept p p.signals refl)

pub make_aborted-kept : (reason : Value) (p : Page) → KeptBy p (AbortGraph.make_aborted reason p.signals)
make_aborted-kept reason p =
    let x : SignalRecord Value = record { reason = Some reason; sources = []; dependents = []; algorithms = [] } in
    last-by_number (Keeps p) p.signals x (new-keeps p x) (same-kept p p.signals refl)

pub any-kept : (of : List ℕ) (p : Page) → KeptBy p (AbortGraph.any of p.signals)
any-kept of p =
    any-by_number (Keeps p) of p.signals (λ reason sources. new-keeps p (record { reason = reason; sources = sources; dependents = []; algorithms = [] })) (λ s x ds k. k) (same-kept p p.signals refl)

-- other algorithms of a signal
algorithms-kept : (s : ℕ) (rs : List ℕ) (p : Page) → ((r : ℕ) → IsIn r (algorithms_at p.signals s) → IsReleased r p ⊎ IsIn r rs) → KeptBy p (with_algorithms s rs p.signals)
algorithms-kept s rs p h =
    with-by_number (Keeps p) p.signals s (record (the_signal p.signals s) { algorithms = rs }) (λ r i. by_place r (h r i)) (same-kept p p.signals refl)
  where
    by_place : (r : ℕ) → IsReleased r p ⊎ IsIn r rs → IsReleased r p ⊎ (IsIn r rs × (AbortGraph.is_aborted p.signals s ≡ true → AbortGraph.is_aborted p.signals s ≡ true))
    by_place r (inl k) = inl k
    by_place r (inr i) = inr (i, λ a. a)

front : (x : ℕ) (xs : List ℕ) (y : ℕ) → IsIn x xs → IsIn x (and_last xs y)
front x [] y i = elim i [ ]
front x (z ∷ xs) y (inl e) = inl e
front x (z ∷ xs) y (inr i) = inr (front x xs y i)

last : (x : ℕ) (xs : List ℕ) → IsIn x (and_last xs x)
last x [] = inl refl
last x (y ∷ ys) = inr (last x ys)

pub watch-kept : (s r : ℕ) (p : Page) → KeptBy p (AbortGraph.add_algorithm s r p.signals)
watch-kept s r p = algorithms-kept s (and_last (algorithms_at p.signals s) r) p (λ q i. inr (front q (algorithms_at p.signals s) r i))

-- a registration that is released is taken off
pub unwatch-kept : (s r : ℕ) (p : Page) → IsReleased r p → KeptBy p (AbortGraph.remove_algorithm s r p.signals)
unwatch-kept s r p k = algorithms-kept s (without (λ b. b == r) (algorithms_at p.signals s)) p (λ q i. stays q (algorithms_at p.signals s) i)
  where
    stays : (q : ℕ) (xs : List ℕ) → IsIn q xs → IsReleased q p ⊎ IsIn q (without (λ b. b == r) xs)
    stays q [] i = elim i [ ]
    stays q (x ∷ xs) i = by_test (x == r) refl i (λ j. stays q xs j)
      where
        more : IsReleased q p ⊎ IsIn q (without (λ b. b == r) xs) → IsReleased q p ⊎ IsIn q (x ∷ without (λ b. b == r) xs)
        more (inl h) = inl h
        more (inr j) = inr (inr j)

        by_test : (b : Bool) → (x == r) ≡ b → IsIn q (x ∷ xs) → (IsIn q xs → IsReleased q p ⊎ IsIn q (without (λ b. b == r) xs)) → IsReleased q p ⊎ IsIn q (cond b (without (λ b. b == r) xs) (x ∷ without (λ b. b == r) xs))
        by_test true e (inl f) rest = inl (subst (λ (n : ℕ). IsReleased n p) (sym (f ∙ eqb-true x r e)) k)
        by_test true e (inr j) rest = rest j
        by_test false e (inl f) rest = inr (inl f)
        by_test false e (inr j) rest = more (rest j)

-- all that a signal could abort is released
pub taken-kept : (s : ℕ) (p : Page) → ((r : ℕ) → IsIn r (algorithms_at p.signals s) → IsReleased r p) → KeptBy p (with_algorithms s [] p.signals)
taken-kept s p h = algorithms-kept s [] p (λ r i. inl (h r i))

-- ---- a signal that was set is there

get-set : {X : Type 0} (xs : List X) (k : ℕ) (x d : X) → k < length xs → unwrap_or (slice_get (slice_set xs k x) k) d ≡ x
get-set [] k x d le = absurd (omega (arith, le))
get-set (y ∷ xs) zero x d le = refl
get-set (y ∷ xs) (suc k) x d le = get-set xs k x d (omega (arith, le))

pub set-there : {X : Type 0} (xs : List X) (s : ℕ) (x d : X) → IsGiven (length xs) s → numbered (with_numbered xs s x) s d ≡ x
set-there xs zero x d g = absurd (let one = g.from_one in omega (arith, one))
set-there xs (suc k) x d g = get-set xs k x d (let le = g.to_last in omega (arith, le))

get-apart : {X : Type 0} (xs : List X) (k j : ℕ) (x d : X) → (k ≡ j → ⊥) → unwrap_or (slice_get (slice_set xs k x) j) d ≡ unwrap_or (slice_get xs j) d
get-apart [] k j x d n = refl
get-apart (y ∷ xs) zero zero x d n = absurd (n refl)
get-apart (y ∷ xs) zero (suc j) x d n = refl
get-apart (y ∷ xs) (suc k) zero x d n = refl
get-apart (y ∷ xs) (suc k) (suc j) x d n = get-apart xs k j x d (λ e. n (ap suc e))

pub set-apart : {X : Type 0} (xs : List X) (s t : ℕ) (x d : X) → (s ≡ t → ⊥) → numbered (with_numbered xs s x) t d ≡ numbered xs t d
set-apart xs zero t x d n = refl
set-apart xs (suc k) zero x d n = refl
set-apart xs (suc k) (suc j) x d n = get-apart xs k j x d (λ e. n (ap suc e))

-- a registration that was added can be aborted
pub watch-there : (s r : ℕ) (ss : Signals Value) → IsGiven (length ss) s → IsIn r (algorithms_at (AbortGraph.add_algorithm s r ss) s)
watch-there s r ss g =
    let x : SignalRecord Value = record (the_signal ss s) { algorithms = and_last (algorithms_at ss s) r } in
    subst (λ (y : SignalRecord Value). IsIn r y.algorithms) (sym (set-there ss s x fresh_signal g)) (last r (algorithms_at ss s))

-- and the signal is aborted as it was
pub watch-aborted : (s r : ℕ) (ss : Signals Value) → IsGiven (length ss) s → AbortGraph.is_aborted (AbortGraph.add_algorithm s r ss) s ≡ AbortGraph.is_aborted ss s
watch-aborted s r ss g =
    let x : SignalRecord Value = record (the_signal ss s) { algorithms = and_last (algorithms_at ss s) r } in
    ap {A = SignalRecord Value} {B = Bool} (λ y. is_there y.reason) (set-there ss s x fresh_signal g)

-- none is left of what signal s could abort
pub taken-gone : (s r : ℕ) (ss : Signals Value) → IsIn r (algorithms_at (with_algorithms s [] ss) s) → ⊥
taken-gone zero r ss i = i
taken-gone (suc k) r ss i = by_place ss k i
  where
    by_place : (ss : Signals Value) (k : ℕ) → IsIn r (unwrap_or (slice_get (slice_set ss k (record (unwrap_or (slice_get ss k) fresh_signal) { algorithms = [] })) k) fresh_signal).algorithms → ⊥
    by_place [] k i = i
    by_place (x ∷ ss) zero i = i
    by_place (x ∷ ss) (suc k) i = by_place ss k i

-- the signals on which a reason is set are aborted now, and can abort what they could
pub reason-kept : (reason : Value) (of : List ℕ) (p : Page) (ss : Signals Value) → (s r : ℕ) → IsIn r (algorithms_at ss s) → IsIn r (algorithms_at (AbortGraph.with_reason reason of ss) s)
reason-kept reason [] p ss s r i = i
reason-kept reason (t ∷ more) p ss s r i = reason-kept reason more p (with_numbered ss t (record (the_signal ss t) { reason = Some reason })) s r (by_number (t == s) refl)
  where
    x : SignalRecord Value
    x = record (the_signal ss t) { reason = Some reason }

    by_number : (b : Bool) → (t == s) ≡ b → IsIn r (algorithms_at (with_numbered ss t x) s)
    by_number b e = with-by_number (λ n y. IsIn r (algorithms_at ss n) → IsIn r y.algorithms) ss t x (λ j. j) (λ n j. j) s i

-- whether a number is among these, or passes the test
abbrev pub among : List ℕ → (ℕ → Bool) → ℕ → Bool
among [] pend n = pend n
among (k ∷ ks) pend n = cond (n == k) true (among ks pend n)

pub reason-aborts : (reason : Value) (of : List ℕ) (ss : Signals Value) (pend : ℕ → Bool) (s : ℕ) → (AbortGraph.is_aborted ss s ≡ true → pend s ≡ true) → AbortGraph.is_aborted (AbortGraph.with_reason reason of ss) s ≡ true → among of pend s ≡ true
reason-aborts reason [] ss pend s h a = h a
reason-aborts reason (t ∷ more) ss pend s h a =
    by_number (s == t) refl
    (λ k. reason-aborts reason more (with_numbered ss t (record (the_signal ss t) { reason = Some reason })) pend s k a)
  where
    x : SignalRecord Value
    x = record (the_signal ss t) { reason = Some reason }

    by_number : (b : Bool) → (s == t) ≡ b
        → ((AbortGraph.is_aborted (with_numbered ss t x) s ≡ true → pend s ≡ true) → among more pend s ≡ true)
        → cond b true (among more pend s) ≡ true
    by_number true e go = refl
    by_number false e go = go (λ k. h (sym (ap {A = SignalRecord Value} {B = Bool} (λ y. is_there y.reason) (set-apart ss t s x fresh_signal (λ z. no_eq e z))) ∙ k))
      where
        false_true : false ≡ true → ⊥
        false_true e = Prim.cc

        no_eq : (s == t) ≡ false → t ≡ s → ⊥
        no_eq e z = false_true (sym e ∙ eq-eqb s t (sym z))

-- what waits for a host is no delayed post
pub host-undelayed : (r : ℕ) (p : Page) → Held (made_by p) p → role_at p.registrations r ≡ OfKind kind.Host → DelayWaits r p.completions → ⊥
host-undelayed r p h role d = no_post (sym (given.2).role ∙ role)
  where
    no_post : OfKind kind.Post ≡ OfKind kind.Host → ⊥
    no_post e = Prim.cc

    given : CompletionIsGiven (made_by p) (EnqueuePost r d.source)
    given = subst (CompletionIsGiven (made_by p)) d.own (each-in (CompletingIsGiven (made_by p)) p.completions (h InCompletions) d.steps d.there).completion
