-- New signals keep a page within bounds: no signal depends on another one more than once.
use Rattle.std.proofs.Common.{◌≡◌, ◌≢◌, ℕ, zero, suc, ◌+◌, ◌≤◌, ◌<◌, arith, Bool, true, false, List, [], ◌∷◌, ◌++◌, length, Option, Some, None, refl, ap, sym, subst, ◌∙◌, cond, ◌||◌, ◌⊎◌, inl, inr}
use Rattle.std.specs.Prelude.{◌==◌, slice_get, slice_set, unwrap_or}
use Rattle.std.proofs.lemmas.Bool.{eqb-true, eq-eqb}
use Rattle.std.proofs.lemmas.Bool.Decides.{eqb_tells}
use Rattle.page_types.specs.Values.{Value}
use Rattle.page_parts.specs.Words.{and_last, with_numbered, has_number}
use Rattle.page_parts.specs.AbortGraph.{Signals, SignalRecord, fresh_signal, the_signal, make_aborted, and_new, all_sources, sources_through, with_dependent, depend_on, any, first_reason}
use Rattle.page_model.specs.FoldBounds.{Counted, times, AreBounded}
use Rattle.page_model.proofs.Bounding.Counting.{and_last-length, with_numbered-length}

-- ---- lists of numbers

if_true : (k : ℕ) (b : Bool) → b ≡ true → cond b k 0 ≡ k
if_true k true e = refl
if_true k false e = cc

if_false : (k : ℕ) (b : Bool) → b ≡ false → cond b k 0 ≡ 0
if_false k true e = cc
if_false k false e = refl

false_true : false ≡ true → ⊥
false_true e = cc

and_last-times : (ns : List ℕ) (m n : ℕ) → times (and_last ns m) n ≡ times ns n + cond (n == m) 1 0
and_last-times [] m n = omega arith
and_last-times (k ∷ ns) m n = let rest = and_last-times ns m n in omega (arith, rest)

none_there : (ns : List ℕ) (n : ℕ) → has_number ns n ≡ false → times ns n ≡ 0
none_there [] n e = refl
none_there (m ∷ ms) n e = by (none_there ms n) (m == n) refl e
  where
    by : (has_number ms n ≡ false → times ms n ≡ 0) → (b : Bool) → (m == n) ≡ b → (b || has_number ms n) ≡ false → times (m ∷ ms) n ≡ 0
    by again true q e = absurd (false_true (sym e))
    by again false q e = other (eqb_tells n m)
      where
        other : ((n == m) ≡ true) × (n ≡ m) ⊎ ((n == m) ≡ false) × (n ≢ m) → times (m ∷ ms) n ≡ 0
        other (inl h) = absurd (false_true (sym q ∙ eq-eqb m n (sym h.1)))
        other (inr h) = let rest = again e in rw h.0 (omega (arith, rest))

-- each number is there at most once
abbrev Once : List ℕ → Type 0
Once ns = (n : ℕ) → times ns n ≤ 1

one_more : (known : List ℕ) (s : ℕ) → Once known → (b : Bool) → has_number known s ≡ b → Once (cond b known (and_last known s))
one_more known s h true e n = h n
one_more known s h false e n = by (n == s) refl
  where
    by : (b : Bool) → (n == s) ≡ b → times (and_last known s) n ≤ 1
    by true q =
        let same : n ≡ s = eqb-true n s q in
        let none : times known n ≡ 0 = subst (λ k. times known k ≡ 0) (sym same) (none_there known s e) in
        let last = and_last-times known s n in
        let one = if_true 1 (n == s) q in
        omega (arith, none, last, one)
    by false q =
        let few = h n in
        let last = and_last-times known s n in
        let zero' = if_false 1 (n == s) q in
        omega (arith, few, last, zero')

and_new-once : (more known : List ℕ) → Once known → Once (and_new known more)
and_new-once [] known h = h
and_new-once (s ∷ more) known h = and_new-once more (cond (has_number known s) known (and_last known s)) (one_more known s h (has_number known s) refl)

sources-once : (ss : Signals Value) (of known : List ℕ) → Once known → Once (all_sources ss known of)
sources-once ss [] known h = h
sources-once ss (s ∷ more) known h = sources-once ss more (and_new known (sources_through ss s)) (and_new-once (sources_through ss s) known h)

-- ---- a dependent signal joins those of its sources

set-joins : (d e b : ℕ) (ss : Signals Value) (i j : ℕ) → (i ≡ j → cond (e == d) 1 0 ≤ b)
    → times (unwrap_or (slice_get (slice_set ss i (record (unwrap_or (slice_get ss i) fresh_signal) { dependents = and_last (unwrap_or (slice_get ss i) fresh_signal).dependents d })) j) fresh_signal).dependents e
    ≤ times (unwrap_or (slice_get ss j) fresh_signal).dependents e + b
set-joins d e b [] i j h = omega arith
set-joins d e b (r ∷ ss) zero zero h = let last = and_last-times r.dependents d e in let few = h refl in omega (arith, last, few)
set-joins d e b (r ∷ ss) zero (suc j) h = omega arith
set-joins d e b (r ∷ ss) (suc i) zero h = omega arith
set-joins d e b (r ∷ ss) (suc i) (suc j) h = set-joins d e b ss i j (λ q. h (ap suc q))

one-joins : (d e s t : ℕ) (ss : Signals Value)
    → times (the_signal (with_numbered ss s (record (the_signal ss s) { dependents = and_last (the_signal ss s).dependents d })) t).dependents e
    ≤ times (the_signal ss t).dependents e + cond (e == d) (cond (t == s) 1 0) 0
one-joins d e zero t ss = omega arith
one-joins d e (suc s) zero ss = omega arith
one-joins d e (suc s) (suc t) ss = set-joins d e (cond (e == d) (cond (suc t == suc s) 1 0) 0) ss s t (λ h. by (e == d) h)
  where
    by : (b : Bool) → s ≡ t → cond b 1 0 ≤ cond b (cond (suc t == suc s) 1 0) 0
    by true h = let same = if_true 1 (suc t == suc s) (eq-eqb (suc t) (suc s) (ap suc (sym h))) in omega (arith, same)
    by false h = omega arith

with_dependent-times : (d e t : ℕ) (sources : List ℕ) (ss : Signals Value) → times (the_signal (with_dependent d sources ss) t).dependents e ≤ times (the_signal ss t).dependents e + cond (e == d) (times sources t) 0
with_dependent-times d e t [] ss = omega arith
with_dependent-times d e t (s ∷ more) ss =
    by _ _ _ (e == d) (one-joins d e s t ss) (with_dependent-times d e t more (with_numbered ss s (record (the_signal ss s) { dependents = and_last (the_signal ss s).dependents d })))
  where
    by : (a x y : ℕ) (b : Bool) → x ≤ y + cond b (cond (t == s) 1 0) 0 → a ≤ x + cond b (times more t) 0 → a ≤ y + cond b (times (s ∷ more) t) 0
    by a x y true h k = omega (arith, h, k)
    by a x y false h k = omega (arith, h, k)

with_dependent-length : (d : ℕ) (sources : List ℕ) (ss : Signals Value) → length (with_dependent d sources ss) ≡ length ss
with_dependent-length d [] ss = refl
with_dependent-length d (s ∷ more) ss =
    with_dependent-length d more (with_numbered ss s (record (the_signal ss s) { dependents = and_last (the_signal ss s).dependents d }))
    ∙ with_numbered-length ss s _

-- a new signal with no dependent ones is as one that is not there
last-alike : (ss : Signals Value) (x : SignalRecord Value) (t : ℕ) → x.dependents ≡ [] → (the_signal (and_last ss x) t).dependents ≡ (the_signal ss t).dependents
last-alike ss x zero h = refl
last-alike ss x (suc t) h = at ss t
  where
    at : (ss : Signals Value) (i : ℕ) → (unwrap_or (slice_get (ss ++ x ∷ []) i) fresh_signal).dependents ≡ (unwrap_or (slice_get ss i) fresh_signal).dependents
    at [] zero = h
    at [] (suc i) = refl
    at (y ∷ ss) zero = refl
    at (y ∷ ss) (suc i) = at ss i

-- ---- what new signals keep

module _ (c : Counted) (g : AreBounded c) (few : 1 + length c.signals ≤ 4294967295) where
  pub last-bounded : (x : SignalRecord Value) → x.dependents ≡ [] → AreBounded (record c { signals = and_last c.signals x })
  last-bounded x h =
      let more = and_last-length c.signals x in
      record {
        registrations = g.registrations;
        listeners = g.listeners;
        signals = omega (arith, more, few);
        dependents = λ s d. subst (λ ds. times ds d ≤ 1) (sym (last-alike c.signals x s h)) (g.dependents s d);
        none_ahead = λ s d l. subst (λ ds. times ds d ≡ 0) (sym (last-alike c.signals x s h)) (g.none_ahead s d (omega (arith, l, more)));
        prios = let p = g.prios in omega (arith, p, more);
        followers = g.followers;
      }

  module _ (sources : List ℕ) (once : Once sources) where
    abbrev x : SignalRecord Value
    x = record { reason = None; sources = sources; dependents = []; algorithms = [] }

    abbrev made : Signals Value
    made = and_last c.signals x

    abbrev d : ℕ
    d = length made

    new-times : (t e : ℕ) → times (the_signal (with_dependent d sources made) t).dependents e ≤ times (the_signal c.signals t).dependents e + cond (e == d) 1 0
    new-times t e =
        let joins = with_dependent-times d e t sources made in
        let alike = ap (λ ds. times ds e) (last-alike c.signals x t refl) in
        by _ _ _ _ (e == d) joins alike (once t)
      where
        by : (k l m y : ℕ) (q : Bool) → y ≤ k + cond q m 0 → k ≡ l → m ≤ 1 → y ≤ l + cond q 1 0
        by k l m y true j e a = omega (arith, j, e, a)
        by k l m y false j e a = omega (arith, j, e)

    depended-bounded : AreBounded (record c { signals = with_dependent d sources made })
    depended-bounded =
        let more = and_last-length c.signals x in
        let same = with_dependent-length d sources made in
        record {
          registrations = g.registrations;
          listeners = g.listeners;
          signals = omega (arith, more, same, few);
          dependents = λ t e. at_most_once t e (e == d) refl;
          none_ahead = λ t e l. ahead t e (omega (arith, l, same, more)) (omega (arith, l, same)) (e == d) refl;
          prios = let p = g.prios in omega (arith, p, more, same);
          followers = g.followers;
        }
      where
        at_most_once : (t e : ℕ) (b : Bool) → (e == d) ≡ b → times (the_signal (with_dependent d sources made) t).dependents e ≤ 1
        at_most_once t e true q =
            let n = new-times t e in
            let same : e ≡ d = eqb-true e d q in
            let more = and_last-length c.signals x in
            let none = g.none_ahead t e (omega (arith, same, more)) in
            let one = if_true 1 (e == d) q in
            omega (arith, n, none, one)
        at_most_once t e false q =
            let n = new-times t e in
            let one = g.dependents t e in
            let none = if_false 1 (e == d) q in
            omega (arith, n, none, one)

        ahead : (t e : ℕ) → length c.signals < e → d < e → (b : Bool) → (e == d) ≡ b → times (the_signal (with_dependent d sources made) t).dependents e ≡ 0
        ahead t e l k true q = let same : e ≡ d = eqb-true e d q in let never : ⊥ = omega (arith, same, k) in absurd never
        ahead t e l k false q =
            let n = new-times t e in
            let zero' = g.none_ahead t e l in
            let none = if_false 1 (e == d) q in
            omega (arith, n, none, zero')

  pub any-bounded : (of : List ℕ) → AreBounded (record c { signals = any of c.signals })
  any-bounded of = by (first_reason c.signals of)
    where
      by : (o : Option Value) → AreBounded (record c { signals = elim o [ Some v ↦ make_aborted v c.signals | None ↦ depend_on (all_sources c.signals [] of) c.signals ] })
      by (Some v) = last-bounded (record { reason = Some v; sources = []; dependents = []; algorithms = [] }) refl
      by None = depended-bounded (all_sources c.signals [] of) (sources-once c.signals of [] (λ n. omega arith))

pub any-length : (of : List ℕ) (ss : Signals Value) → length (any of ss) ≡ suc (length ss)
any-length of ss = by (first_reason ss of)
  where
    by : (o : Option Value) → length {A = SignalRecord Value} (elim o [ Some v ↦ make_aborted v ss | None ↦ depend_on (all_sources ss [] of) ss ]) ≡ suc (length ss)
    by None = with_dependent-length _ (all_sources ss [] of) (and_last ss _) ∙ and_last-length ss _
    by (Some v) = and_last-length ss _
