-- What a change of one promise leaves of the list of those to be notified about.
use Rattle.std.proofs.Common.{◌≡◌, ◌≢◌, ℕ, zero, suc, ◌<◌, ◌≤◌, arith, List, [], ◌∷◌, ◌++◌, length, get_or, Bool, true, false, cond, not, ◌&&◌, ◌||◌, refl, ap, sym, ◌∙◌, inl, inr, get_or-set_same, get_or-set_other}
use Rattle.std.specs.Prelude.{nat_lt, Option, Some, None, is_some, ◌==◌, slice_get, slice_set, unwrap_or, filter}
use Rattle.std.proofs.lemmas.Bool.{lt-ltb, ltb-true}
use Rattle.std.proofs.lemmas.Bool.Decides.{eqb_tells}
use Rattle.std.proofs.lemmas.Option.{unwrap_or-slice_get}
use Rattle.page_parts.specs.Words.{and_last, without, numbered, with_numbered}
use Rattle.page_types.specs.Values.{Value}
use Rattle.page_parts.specs.Kinds.{promise_in}
use Rattle.page_parts.specs.Promises.{PromiseRecord, Settled, Failed, Reaction, reject, resolve, resolve_unlocked, subscribe, subscribe_by, Change, pending_promise, settle, follow, no_change, has_failed}
use Rattle.page_parts.proofs.Numbered.{with_numbered-own}
use Rattle.promise_core.specs.Held.{Held, changed, made, no_longer_rejected, unhandled, all_within}
use Rattle.page_parts.specs.Promises.{the_promise}

-- ---- Truth values

both : (a b : Bool) → (a && b) ≡ true → (a ≡ true) × (b ≡ true)
both true b h = (refl, h)
both false b h = cc

and_true : (a b : Bool) → a ≡ true → b ≡ true → (a && b) ≡ true
and_true a b h k = ap (λ x. x && b) h ∙ k

-- ---- Promises by their numbers

numbered-get_or : {X : Type 0} (xs : List X) (n : ℕ) (d : X) → numbered xs (suc n) d ≡ get_or xs n d
numbered-get_or xs n d = unwrap_or-slice_get xs n d

-- the promise that was put in place
pub numbered-with : (ps : List PromiseRecord) (n : ℕ) (q d : PromiseRecord) → 0 < n → n ≤ length ps → numbered (with_numbered ps n q) n d ≡ q
numbered-with ps zero q d h k = absurd (omega (arith, h))
numbered-with ps (suc n) q d h k = numbered-get_or (slice_set ps n q) n d ∙ get_or-set_same ps n q d (omega (arith, k))

-- another promise
pub numbered-with_other : (ps : List PromiseRecord) (n m : ℕ) (q d : PromiseRecord) → m ≢ n → numbered (with_numbered ps n q) m d ≡ numbered ps m d
numbered-with_other ps zero m q d other = refl
numbered-with_other ps (suc n) zero q d other = refl
numbered-with_other ps (suc n) (suc m) q d other =
    numbered-get_or (slice_set ps n q) m d ∙ get_or-set_other ps n m q d (λ e. other (ap suc e)) ∙ sym (numbered-get_or ps m d)

-- a new promise is as one that is not there
pub numbered-made : (ps : List PromiseRecord) (n : ℕ) → numbered (and_last ps pending_promise) n pending_promise ≡ numbered ps n pending_promise
numbered-made ps zero = refl
numbered-made ps (suc n) = at_end ps n
  where
    at_end : (ps : List PromiseRecord) (i : ℕ) → unwrap_or (slice_get (ps ++ pending_promise ∷ []) i) pending_promise ≡ unwrap_or (slice_get ps i) pending_promise
    at_end [] zero = refl
    at_end [] (suc i) = refl
    at_end (q ∷ ps) zero = refl
    at_end (q ∷ ps) (suc i) = at_end ps i

-- ---- What `without` leaves

-- two tests that agree leave the same
without-same : (f g : ℕ → Bool) → ((x : ℕ) → f x ≡ g x) → (xs : List ℕ) → without f xs ≡ without g xs
without-same f g h [] = refl
without-same f g h (x ∷ xs) =
    ap (λ b. cond b (without f xs) (x ∷ without f xs)) (h x) ∙ ap (λ w. cond (g x) w (x ∷ w)) (without-same f g h xs)

-- the filter that keeps what fails the test
pub filter-not : (f : ℕ → Bool) (xs : List ℕ) → filter (λ x. not (f x)) xs ≡ without f xs
filter-not f [] = refl
filter-not f (x ∷ xs) =
    elim (f x) as (λ b. cond (not b) (x ∷ filter (λ y. not (f y)) xs) (filter (λ y. not (f y)) xs) ≡ cond b (without f xs) (x ∷ without f xs)) [
      | true ↦ filter-not f xs
      | false ↦ ap (λ w. x ∷ w) (filter-not f xs)
    ]

without_one : (a b : Bool) (x : ℕ) (g : ℕ → Bool) (w : List ℕ) → g x ≡ a → cond (a || b) (without g w) (x ∷ without g w) ≡ without g (cond b w (x ∷ w))
without_one true true x g w h = refl
without_one true false x g w h = ap (λ c. cond c (without g w) (x ∷ without g w)) (sym h)
without_one false true x g w h = refl
without_one false false x g w h = ap (λ c. cond c (without g w) (x ∷ without g w)) (sym h)

-- a test that also holds of n leaves out n besides
without-or : (f f' : ℕ → Bool) (n most : ℕ) → ((x : ℕ) → 0 < x → f' x ≡ ((x == n) || f x)) → (xs : List ℕ) → all_within most xs ≡ true → without f' xs ≡ without (λ m. m == n) (without f xs)
without-or f f' n most h [] k = refl
without-or f f' n most h (zero ∷ xs) k = cc
without-or f f' n most h (suc x ∷ xs) k =
    ap (λ b. cond b (without f' xs) (suc x ∷ without f' xs)) (h (suc x) (omega arith))
    ∙ ap (λ w. cond ((suc x == n) || f (suc x)) w (suc x ∷ w)) (without-or f f' n most h xs (both (nat_lt x most) (all_within most xs) k).1)
    ∙ without_one (suc x == n) (f (suc x)) (suc x) (λ m. m == n) (without f xs) refl

without-last : (f : ℕ → Bool) (xs : List ℕ) (x : ℕ) → f x ≡ false → without f (and_last xs x) ≡ and_last (without f xs) x
without-last f [] x h = ap (λ b. cond b [] (x ∷ [])) h
without-last f (y ∷ ys) x h =
    elim (f y) as (λ b. cond b (without f (and_last ys x)) (y ∷ without f (and_last ys x)) ≡ and_last (cond b (without f ys) (y ∷ without f ys)) x) [
      | true ↦ without-last f ys x h
      | false ↦ ap (λ w. y ∷ w) (without-last f ys x h)
    ]

-- ---- Numbers within a bound

pub all_within-more : (most : ℕ) (ns : List ℕ) → all_within most ns ≡ true → all_within (suc most) ns ≡ true
all_within-more most [] h = refl
all_within-more most (zero ∷ ns) h = h
all_within-more most (suc n ∷ ns) h =
    let parts = both (nat_lt n most) (all_within most ns) h in
    and_true (nat_lt n (suc most)) (all_within (suc most) ns) (lt-ltb n (suc most) (omega (arith, ltb-true n most parts.0))) (all_within-more most ns parts.1)

within_one : (most n : ℕ) → 0 < n → n ≤ most → all_within most (n ∷ []) ≡ true
within_one most zero h k = absurd (no h)
  where
    no : 0 < zero → ⊥
    no h = omega (arith, h)
within_one most (suc n) h k = and_true (nat_lt n most) true (lt-ltb n most (omega (arith, k))) refl

pub all_within-last : (most : ℕ) (ns : List ℕ) (n : ℕ) → all_within most ns ≡ true → 0 < n → n ≤ most → all_within most (and_last ns n) ≡ true
all_within-last most [] n h a b = within_one most n a b
all_within-last most (zero ∷ ns) n h a b = cc
all_within-last most (suc m ∷ ns) n h a b =
    let parts = both (nat_lt m most) (all_within most ns) h in
    and_true (nat_lt m most) (all_within most (and_last ns n)) parts.0 (all_within-last most ns n parts.1 a b)

pub all_within-without : (most : ℕ) (f : ℕ → Bool) (ns : List ℕ) → all_within most ns ≡ true → all_within most (without f ns) ≡ true
all_within-without most f [] h = refl
all_within-without most f (zero ∷ ns) h = cc
all_within-without most f (suc m ∷ ns) h =
    let parts = both (nat_lt m most) (all_within most ns) h in
    elim (f (suc m)) as (λ b. all_within most (cond b (without f ns) (suc m ∷ without f ns)) ≡ true) [
      | true ↦ all_within-without most f ns parts.1
      | false ↦ and_true (nat_lt m most) (all_within most (without f ns)) parts.0 (all_within-without most f ns parts.1)
    ]

-- ---- The list of those to be notified about

-- a change that leaves the handled mark leaves the list
pub unhandled-same : (ps : List PromiseRecord) (n : ℕ) (q : PromiseRecord) → 0 < n → n ≤ length ps → q.handled ≡ (numbered ps n pending_promise).handled → (ns : List ℕ)
    → unhandled (with_numbered ps n q) ns ≡ unhandled ps ns
unhandled-same ps n q h k same ns = without-same (λ m. (numbered (with_numbered ps n q) m pending_promise).handled) (λ m. (numbered ps m pending_promise).handled) each ns
  where
    each : (m : ℕ) → (numbered (with_numbered ps n q) m pending_promise).handled ≡ (numbered ps m pending_promise).handled
    each m =
        elim (eqb_tells m n) [
          | inl e ↦ ap (λ i. (numbered (with_numbered ps n q) i pending_promise).handled) e.1 ∙ ap (λ r. r.handled) (numbered-with ps n q pending_promise h k) ∙ same
              ∙ ap (λ i. (numbered ps i pending_promise).handled) (sym e.1)
          | inr e ↦ ap (λ r. r.handled) (numbered-with_other ps n m q pending_promise e.1)
        ]

-- a promise that is handled leaves the list
pub unhandled-handled : (ps : List PromiseRecord) (n : ℕ) (q : PromiseRecord) (most : ℕ) → 0 < n → n ≤ length ps → q.handled ≡ true → (ns : List ℕ) → all_within most ns ≡ true
    → unhandled (with_numbered ps n q) ns ≡ without (λ m. m == n) (unhandled ps ns)
unhandled-handled ps n q most h k marked ns ok =
    without-or (λ m. (numbered ps m pending_promise).handled) (λ m. (numbered (with_numbered ps n q) m pending_promise).handled) n most each ns ok
  where
    each : (m : ℕ) → 0 < m → (numbered (with_numbered ps n q) m pending_promise).handled ≡ ((m == n) || (numbered ps m pending_promise).handled)
    each m a =
        elim (eqb_tells m n) [
          | inl e ↦ ap (λ i. (numbered (with_numbered ps n q) i pending_promise).handled) e.1 ∙ ap (λ r. r.handled) (numbered-with ps n q pending_promise h k) ∙ marked
              ∙ ap (λ b. b || (numbered ps m pending_promise).handled) (sym e.0)
          | inr e ↦ ap (λ r. r.handled) (numbered-with_other ps n m q pending_promise e.1) ∙ ap (λ b. b || (numbered ps m pending_promise).handled) (sym e.0)
        ]

-- a new promise, which is not handled, leaves the list
pub unhandled-made : (ps : List PromiseRecord) (ns : List ℕ) → unhandled (and_last ps pending_promise) ns ≡ unhandled ps ns
unhandled-made ps ns =
    without-same (λ m. (numbered (and_last ps pending_promise) m pending_promise).handled) (λ m. (numbered ps m pending_promise).handled)
    (λ m. ap (λ r. r.handled) (numbered-made ps m)) ns

-- an unhandled promise joins the list
pub unhandled-last : (ps : List PromiseRecord) (ns : List ℕ) (n : ℕ) → (numbered ps n pending_promise).handled ≡ false → unhandled ps (and_last ns n) ≡ and_last (unhandled ps ns) n
unhandled-last ps ns n h = without-last (λ m. (numbered ps m pending_promise).handled) ns n h

-- ---- What is held, after a change

-- a promise's own record, put back
pub with_numbered-same : (ps : List PromiseRecord) (n : ℕ) (d : PromiseRecord) → with_numbered ps n (numbered ps n d) ≡ ps
with_numbered-same ps n d = with_numbered-own ps n d

-- what is held, where the numbers rejected unhandled are known
abbrev pub held_of : List PromiseRecord → List ℕ → Held
held_of ps ns = record { promises = ps; rejected = unhandled ps ns }

-- nothing happened to a promise
pub changed-not : (n : ℕ) (s : Held) → changed n (no_change (the_promise s.promises n)) s ≡ s
changed-not n s = ap (λ ps. record s { promises = ps }) (with_numbered-same s.promises n pending_promise)

-- a change that leaves the handled mark and rejects nothing
pub changed-kept : (ps : List PromiseRecord) (ns : List ℕ) (n : ℕ) (c : Change) → 0 < n → n ≤ length ps → c.promise.handled ≡ (numbered ps n pending_promise).handled → c.newly_rejected ≡ false
    → held_of (with_numbered ps n c.promise) ns ≡ changed n c (held_of ps ns)
changed-kept ps ns n c h k same not_rejected =
    ap (λ xs. held (with_numbered ps n c.promise) xs) (unhandled-same ps n c.promise h k same ns ∙ ap (λ b. cond b (and_last (unhandled ps ns) n) (unhandled ps ns)) (sym not_rejected))
  where
    held : List PromiseRecord → List ℕ → Held
    held ps ns = record { promises = ps; rejected = ns }

-- a promise that is settled, and noted where it is newly rejected
pub changed-settled : (ps : List PromiseRecord) (ns : List ℕ) (n : ℕ) (how : Settled) → 0 < n → n ≤ length ps
    → (let c = settle n (numbered ps n pending_promise) how in held_of (with_numbered ps n c.promise) (cond c.newly_rejected (and_last ns n) ns) ≡ changed n c (held_of ps ns))
changed-settled ps ns n how h k =
    ap (λ xs. held (with_numbered ps n (settle n q how).promise) xs)
    (unhandled-same ps n (settle n q how).promise h k refl (cond (has_failed how && not q.handled) (and_last ns n) ns) ∙ noted (has_failed how) q.handled refl)
  where
    q : PromiseRecord
    q = numbered ps n pending_promise

    held : List PromiseRecord → List ℕ → Held
    held ps ns = record { promises = ps; rejected = ns }

    noted : (failed marked : Bool) → (numbered ps n pending_promise).handled ≡ marked
        → unhandled ps (cond (failed && not marked) (and_last ns n) ns) ≡ cond (failed && not marked) (and_last (unhandled ps ns) n) (unhandled ps ns)
    noted false marked e = refl
    noted true true e = refl
    noted true false e = unhandled-last ps ns n e

-- a promise that is handled from now on
pub changed-handled : (ps : List PromiseRecord) (ns : List ℕ) (n most : ℕ) (c : Change) → 0 < n → n ≤ length ps → all_within most ns ≡ true → c.promise.handled ≡ true → c.newly_rejected ≡ false
    → held_of (with_numbered ps n c.promise) ns ≡ changed n c (no_longer_rejected n (held_of ps ns))
changed-handled ps ns n most c h k ok marked not_rejected =
    ap (λ xs. held (with_numbered ps n c.promise) xs)
    (unhandled-handled ps n c.promise most h k marked ns ok ∙ ap (λ b. cond b (and_last (without (λ m. m == n) (unhandled ps ns)) n) (without (λ m. m == n) (unhandled ps ns))) (sym not_rejected))
  where
    held : List PromiseRecord → List ℕ → Held
    held ps ns = record { promises = ps; rejected = ns }

-- a new promise
pub made-held : (ps : List PromiseRecord) (ns : List ℕ) → held_of (and_last ps pending_promise) ns ≡ made (held_of ps ns)
made-held ps ns = ap (held (and_last ps pending_promise)) (unhandled-made ps ns)
  where
    held : List PromiseRecord → List ℕ → Held
    held ps ns = record { promises = ps; rejected = ns }

-- a number that may be noted keeps the bound
pub all_within-note : (most : ℕ) (ns : List ℕ) (n : ℕ) (b : Bool) → all_within most ns ≡ true → 0 < n → n ≤ most → all_within most (cond b (and_last ns n) ns) ≡ true
all_within-note most ns n true h a k = all_within-last most ns n h a k
all_within-note most ns n false h a k = h

-- a settled promise does not follow
pub follow-settled : (n : ℕ) (q : PromiseRecord) (how : Settled) → is_some q.outcome ≡ true → follow n q how ≡ no_change q
follow-settled n q how h = by_outcome q.outcome h
  where
    by_outcome : (o : Option Settled) → is_some o ≡ true → elim o [ None ↦ settle n q how | Some before ↦ no_change q ] ≡ no_change q
    by_outcome None k = cc
    by_outcome (Some before) k = refl

-- a locked promise is not rejected, nor resolved
pub reject-locked : (n : ℕ) (q : PromiseRecord) (v : Value) → q.locked ≡ true → reject n q v ≡ no_change q
reject-locked n q v h = ap (λ b. cond b (no_change q) (settle n q (Failed v))) h

pub resolve-locked : (n : ℕ) (q : PromiseRecord) (v : Value) → q.locked ≡ true → resolve n q v ≡ no_change q
resolve-locked n q v h = ap (λ b. cond b (no_change q) (resolve_unlocked n q v (promise_in v))) h

-- whoever gets a reaction is handled, and is not settled by it
pub subscribe-marks : (n : ℕ) (q : PromiseRecord) (r : Reaction) → ((subscribe n q r).promise.handled ≡ true) × ((subscribe n q r).settled ≡ false) × ((subscribe n q r).newly_rejected ≡ false)
subscribe-marks n q r = by_outcome q.outcome
  where
    by_outcome : (o : Option Settled) → ((subscribe_by n q r o).promise.handled ≡ true) × ((subscribe_by n q r o).settled ≡ false) × ((subscribe_by n q r o).newly_rejected ≡ false)
    by_outcome None = (refl, refl, refl)
    by_outcome (Some how) = (refl, refl, refl)
