-- What a change of one promise does to the notices.
use Rattle.std.proofs.Common.{◌≡◌, ℕ, ◌<◌, ◌≤◌, List, [], length, Bool, true, false, cond, refl, ap, sym, ◌∙◌, subst, Option, Some, None, Result, Ok, Err}
use Rattle.std.specs.Prelude.{IfOk, ◌==◌}
use Rattle.page_types.specs.Values.{Value}
use Rattle.page_types.specs.declared.FaultName.TheVariants.{TypeError}
use Rattle.page_base.specs.declared.memory.MemoryFault.{MemoryFault}
use Rattle.page_parts.specs.Words.{and_last}
use Rattle.page_parts.specs.Kinds.{promise_in, a_fault}
use Rattle.page_parts.specs.Promises as Parts
use Rattle.page_parts.specs.Promises.{PromiseRecord, Settled, Fulfilled, Failed, Reaction, the_promise, resolve, resolve_unlocked, reject, follow, subscribe, settle, adopt, no_change, settled_value}
use Rattle.page_parts.specs.Notices.{Notices, promise_changed, make, note_outstanding}
use Rattle.page_values.specs.Written.{IsNumbered}
use Rattle.promise_core.specs.declared.record.Change.{Change}
use Rattle.promise_core.specs.Held.{Held, changed, made, no_longer_rejected, unhandled, all_within}
use Rattle.promise_core.specs.Changes as core
use Rattle.promise_core.proofs.HeldLemmas.{unhandled-same, unhandled-handled, unhandled-made, unhandled-last, subscribe-marks}
use Rattle.page_notices.specs.declared.jobs.NextJob.{NextJob}
use Rattle.page_notices.specs.State.{state_of}
use Rattle.page_notices.specs.Changes.{Brings, settling, no_longer_unhandled, IsNamed}

-- ---- A resolution leaves the handled mark

settle-marks : (n : ℕ) (q : PromiseRecord) (how : Settled) → (settle n q how).promise.handled ≡ q.handled
settle-marks n q how = refl

resolve_unlocked-marks : (n : ℕ) (q : PromiseRecord) (v : Value) (other : Option ℕ) → (resolve_unlocked n q v other).promise.handled ≡ q.handled
resolve_unlocked-marks n q v None = refl
resolve_unlocked-marks n q v (Some other) = by_test (other == n)
  where
    by_test : (b : Bool) → (cond b (settle n q (Failed (a_fault TypeError))) (adopt n q other)).promise.handled ≡ q.handled
    by_test true = refl
    by_test false = refl

pub resolve-marks : (n : ℕ) (q : PromiseRecord) (v : Value) → (resolve n q v).promise.handled ≡ q.handled
resolve-marks n q v = by_test q.locked
  where
    by_test : (b : Bool) → (cond b (no_change q) (resolve_unlocked n q v (promise_in v))).promise.handled ≡ q.handled
    by_test true = refl
    by_test false = resolve_unlocked-marks n q v (promise_in v)

pub reject-marks : (n : ℕ) (q : PromiseRecord) (v : Value) → (reject n q v).promise.handled ≡ q.handled
reject-marks n q v = by_test q.locked
  where
    by_test : (b : Bool) → (cond b (no_change q) (settle n q (Failed v))).promise.handled ≡ q.handled
    by_test true = refl
    by_test false = refl

pub follow-marks : (n : ℕ) (q : PromiseRecord) (how : Settled) → (follow n q how).promise.handled ≡ q.handled
follow-marks n q how = by_outcome q.outcome
  where
    by_outcome : (o : Option Settled) → (elim o as (λ _. Parts.Change) [ None ↦ settle n q how | Some before ↦ no_change q ]).promise.handled ≡ q.handled
    by_outcome None = refl
    by_outcome (Some before) = refl

-- ---- The notices after a change

-- a change that leaves the handled mark
state-changed : (h : Held) (js : List NextJob) (count : ℕ) (noted : List ℕ) (n : ℕ) (c : Parts.Change) → 0 < n → n ≤ length h.promises → c.promise.handled ≡ (the_promise h.promises n).handled
    → state_of (changed n c h) js count noted ≡ (promise_changed [] n c (state_of h js count noted)).notices
state-changed h js count noted n c a w same = ap (λ o. record (state_of (changed n c h) js count noted) { outstanding = o }) (unhandled-same h.promises n c.promise a w same noted)

-- a promise that is handled from now on
state-handled : (h : Held) (js : List NextJob) (count : ℕ) (noted : List ℕ) (n most : ℕ) (c : Parts.Change) → 0 < n → n ≤ length h.promises → all_within most noted ≡ true → c.promise.handled ≡ true
    → state_of (changed n c (no_longer_rejected n h)) js count noted ≡ (promise_changed [] n c (no_longer_unhandled n (state_of h js count noted))).notices
state-handled h js count noted n most c a w within marked =
    ap (λ o. record (state_of (changed n c (no_longer_rejected n h)) js count noted) { outstanding = o }) (unhandled-handled h.promises n c.promise most a w marked noted within)

-- a new promise
pub state-made : (h : Held) (js : List NextJob) (count : ℕ) (noted : List ℕ) → state_of (made h) js count noted ≡ make (state_of h js count noted)
state-made h js count noted = ap (λ o. record (state_of (made h) js count noted) { outstanding = o }) (unhandled-made h.promises noted)

-- an unhandled promise is noted
pub state-noted : (h : Held) (js : List NextJob) (count : ℕ) (noted : List ℕ) (n : ℕ) → (the_promise h.promises n).handled ≡ false → state_of h js count (and_last noted n) ≡ note_outstanding n (state_of h js count noted)
state-noted h js count noted n mark =
    ap (λ o. record (state_of h js count noted) { outstanding = o }) (unhandled-last h.promises noted n mark)
    ∙ sym (ap (λ b. cond b (state_of h js count noted) (record (state_of h js count noted) { outstanding = and_last (unhandled h.promises noted) n })) mark)

-- a call on the promises brought its change about for the notices
pub brought : (r : Result Change MemoryFault) (f : PromiseRecord → Parts.Change) → ((q : PromiseRecord) → (f q).promise.handled ≡ q.handled)
    → (n : ℕ) (h after : Held) (js : List NextJob) (count : ℕ) (noted : List ℕ) (old : Notices) → state_of h js count noted ≡ old → 0 < n → n ≤ length old.promises
    → IfOk r (λ told. core.Brings told n (f (the_promise h.promises n)) h after)
    → IfOk r (λ told. Brings told n (f (the_promise old.promises n)) old (state_of after js count noted))
brought (Err e) f same n h after js count noted old is a w g = tt
brought (Ok told) f same n h after js count noted old is a w g =
    let P : Notices → Type 0 = λ s. Brings told n (f (the_promise s.promises n)) s (state_of after js count noted) in
    subst P is (record {
      state = ap (λ x. state_of x js count noted) g.state
          ∙ state-changed h js count noted n (f (the_promise h.promises n)) a (subst (λ (s : Notices). n ≤ length s.promises) (sym is) w) (same (the_promise h.promises n));
      tells = g.tells;
    })

-- the same of a reaction that is given
pub brought_reaction : (r : Result Change MemoryFault) (n : ℕ) (x : Reaction) (h after : Held) (js : List NextJob) (count : ℕ) (noted : List ℕ) (most : ℕ) (old : Notices)
    → state_of h js count noted ≡ old → 0 < n → n ≤ length old.promises → all_within most noted ≡ true
    → IfOk r (λ told. core.Brings told n (subscribe n (the_promise h.promises n) x) (no_longer_rejected n h) after)
    → IfOk r (λ told. Brings told n (subscribe n (the_promise old.promises n) x) (no_longer_unhandled n old) (state_of after js count noted))
brought_reaction (Err e) n x h after js count noted most old is a w within g = tt
brought_reaction (Ok told) n x h after js count noted most old is a w within g =
    let P : Notices → Type 0 = λ s. Brings told n (subscribe n (the_promise s.promises n) x) (no_longer_unhandled n s) (state_of after js count noted) in
    subst P is (record {
      state = ap (λ y. state_of y js count noted) g.state
          ∙ state-handled h js count noted n most (subscribe n (the_promise h.promises n) x) a (subst (λ (s : Notices). n ≤ length s.promises) (sym is) w) within
          (subscribe-marks n (the_promise h.promises n) x).0;
      tells = g.tells;
    })

-- ---- The outcome that a change tells

pub settling-named : (count n : ℕ) (q : PromiseRecord) (how : Settled) → IsNumbered count (settled_value how) → IsNamed count (settling n q how).settled (settling n q how).promise.outcome
settling-named count n q (Failed v) h = by_test q.locked
  where
    by_test : (b : Bool) → IsNamed count (cond b (no_change q) (settle n q (Failed v))).settled (cond b (no_change q) (settle n q (Failed v))).promise.outcome
    by_test true = tt
    by_test false = h
settling-named count n q (Fulfilled v) h = by_test q.locked
  where
    by_other : (other : ℕ) (b : Bool) → let c = cond b (settle n q (Failed (a_fault TypeError))) (adopt n q other) in IsNamed count c.settled c.promise.outcome
    by_other other true = tt
    by_other other false = tt

    by_value : (o : Option ℕ) → IsNamed count (resolve_unlocked n q v o).settled (resolve_unlocked n q v o).promise.outcome
    by_value None = h
    by_value (Some other) = by_other other (other == n)

    by_test : (b : Bool) → let c = cond b (no_change q) (resolve_unlocked n q v (promise_in v)) in IsNamed count c.settled c.promise.outcome
    by_test true = tt
    by_test false = by_value (promise_in v)

pub follow-named : (count n : ℕ) (q : PromiseRecord) (how : Settled) → IsNumbered count (settled_value how) → IsNamed count (follow n q how).settled (follow n q how).promise.outcome
follow-named count n q how h = by_outcome q.outcome
  where
    by_outcome : (o : Option Settled) → let c = elim o as (λ _. Parts.Change) [ None ↦ settle n q how | Some before ↦ no_change q ] in IsNamed count c.settled c.promise.outcome
    by_outcome None = named how h
      where
        named : (how : Settled) → IsNumbered count (settled_value how) → IsNamed count true (Some how)
        named how h = h
    by_outcome (Some before) = tt
