-- How many callbacks are left falls from one callback of a fold to the next.
use Rattle.std.proofs.Common.{◌≡◌, ℕ, zero, suc, ◌+◌, ◌*◌, ◌^◌, ◌≤◌, ◌<◌, arith, Bool, true, false, List, [], ◌∷◌, length, map, ◌&&◌, Option, Some, None, refl, ap, sym, subst, ◌∙◌, cond, not, ◌||◌}
use Rattle.std.specs.Prelude.{◌==◌, filter, codes, option_map}
use Rattle.page_types.specs.Values.{Value, SignalValue}
use Rattle.page_types.specs.declared.Priority.{Priority}
use Rattle.page_types.specs.declared.Priority.TheVariants.{Background, UserVisible, UserBlocking}
use Rattle.page_types.specs.Events.{Ret}
use Rattle.page_parts.specs.Kinds.{Func}
use Rattle.page_parts.specs.Words.{same_bytes}
use Rattle.page_parts.specs.AbortGraph.{the_signal, marked}
use Rattle.page_parts.specs.AbortGraph as AbortGraph
use Rattle.page_parts.specs.TaskSignals.{PrioRecord, Prios, same_priority, record_of, changed_at, begun, ended, is_changing, followers, priority_of}
use Rattle.page_parts.specs.Listeners.{Listener, Target, Window, AtSignal, same_target, snapshot, is_listening}
use Rattle.page_model.specs.State.{Page, the_registration}
use Rattle.page_model.specs.Invoke.{WhenReported, when_reported, call_begun, call_ended}
use Rattle.page_model.specs.PageSignals.{run_algorithms, reason_set, change_begun, change_ended, has_priority, priority_value}
use Rattle.page_model.specs.Folds.{ChangePiece, ChangeOf, EndChange, Rest, AbortsLeft, ChangesLeft, Fold, Reached, Finished, Calls, begin_listener, next_listener, fire, aborts_from, changes_of, each_change, change_from, changes_from, rest_from, go_on, begin_abort, begin_change}
use Rattle.page_model.specs.FoldBounds.{others, heard, all_heard, times, rest_left, fold_left, Counted, counted, AreBounded, IsBounded, HasRecord, AllHaveRecords, CanChange, RestIsBounded, FoldIsBounded, FoldsAreBounded}
use Rattle.page_model.proofs.Bounding.Counting.{Stays, bounded-near, stays-near, stays-then, snapshot-length, run_algorithms-near, reason_set-near}

-- ---- signals with a priority

same_priority-same : (priority : Priority) → same_priority priority priority ≡ true
same_priority-same Background = refl
same_priority-same UserVisible = refl
same_priority-same UserBlocking = refl

or_false : (a b : Bool) → (a || b) ≡ false → b ≡ false
or_false true b e = cc
or_false false b e = e

others-length : (priority : Priority) (ps : Prios) → others priority ps ≤ length ps
others-length priority [] = omega arith
others-length priority (r ∷ rs) = by (others-length priority rs) (same_priority r.priority priority)
  where
    by : others priority rs ≤ length rs → (b : Bool) → cond b 0 1 + others priority rs ≤ suc (length rs)
    by h true = omega (arith, h)
    by h false = omega (arith, h)

pub followers-at : (x : PrioRecord) (rest : Prios) (t : ℕ) (b : Bool) → (x.signal == t) ≡ b → followers (x ∷ rest) t ≡ cond b x.followers (followers rest t)
followers-at x rest t b e = ap (λ c. elim (cond c (Some x) (record_of rest t)) [ None ↦ [] | Some r ↦ r.followers ]) e ∙ by b
  where
    by : (b : Bool) → elim (cond b (Some x) (record_of rest t)) [ None ↦ [] | Some r ↦ r.followers ] ≡ cond b x.followers (followers rest t)
    by true = refl
    by false = refl

has_priority-at : (x : PrioRecord) (rest : Prios) (t : ℕ) (priority : Priority) (b : Bool) → (x.signal == t) ≡ b → has_priority (x ∷ rest) t priority ≡ cond b (same_priority x.priority priority) (has_priority rest t priority)
has_priority-at x rest t priority b e = ap (λ c. elim (option_map (λ (r : PrioRecord). r.priority) (cond c (Some x) (record_of rest t))) [ None ↦ false | Some own ↦ same_priority own priority ]) e ∙ by b
  where
    by : (b : Bool) → elim (option_map (λ (r : PrioRecord). r.priority) (cond b (Some x) (record_of rest t))) [ None ↦ false | Some own ↦ same_priority own priority ] ≡ cond b (same_priority x.priority priority) (has_priority rest t priority)
    by true = refl
    by false = refl

module _ (s : ℕ) (f : PrioRecord → PrioRecord) (same_signal : (r : PrioRecord) → (f r).signal ≡ r.signal) where
  changed-signal : (r : PrioRecord) (b : Bool) → (cond b (f r) r).signal ≡ r.signal
  changed-signal r true = same_signal r
  changed-signal r false = refl

  pub changed-length : (ps : Prios) → length (changed_at s f ps) ≡ length ps
  changed-length [] = refl
  changed-length (r ∷ rs) = ap suc (changed-length rs)

  pub changed-stays : (ps : Prios) → Stays ps (changed_at s f ps)
  changed-stays [] t h = h
  changed-stays (r ∷ rs) t h = by (changed-stays rs t) (r.signal == t) refl h
    where
      by : (HasRecord rs t → HasRecord (changed_at s f rs) t) → (b : Bool) → (r.signal == t) ≡ b → HasRecord (r ∷ rs) t → HasRecord (changed_at s f (r ∷ rs)) t
      by again true e h = rw (changed-signal r (r.signal == s), e) refl
      by again false e h = rw (changed-signal r (r.signal == s), e) (again (rw e at h))

  module _ (same_followers : (r : PrioRecord) → (f r).followers ≡ r.followers) where
    changed-followers-one : (r : PrioRecord) (b : Bool) → (cond b (f r) r).followers ≡ r.followers
    changed-followers-one r true = same_followers r
    changed-followers-one r false = refl

    pub changed-followers : (ps : Prios) (t : ℕ) → followers (changed_at s f ps) t ≡ followers ps t
    changed-followers [] t = refl
    changed-followers (r ∷ rs) t = by (changed-followers rs t) (r.signal == t) refl
      where
        by : followers (changed_at s f rs) t ≡ followers rs t → (b : Bool) → (r.signal == t) ≡ b → followers (changed_at s f (r ∷ rs)) t ≡ followers (r ∷ rs) t
        by again true e =
            followers-at (cond (r.signal == s) (f r) r) (changed_at s f rs) t true (ap (λ n. n == t) (changed-signal r (r.signal == s)) ∙ e)
            ∙ (changed-followers-one r (r.signal == s) ∙ sym (followers-at r rs t true e))
        by again false e =
            followers-at (cond (r.signal == s) (f r) r) (changed_at s f rs) t false (ap (λ n. n == t) (changed-signal r (r.signal == s)) ∙ e)
            ∙ (again ∙ sym (followers-at r rs t false e))

-- ---- how many have another priority

module _ (priority : Priority) (s : ℕ) where
  abbrev setting : PrioRecord → PrioRecord
  setting r = record r { priority = priority; changing = true }

  others-fewer : (ps : Prios) → others priority (begun s priority ps) ≤ others priority ps
  others-fewer [] = omega arith
  others-fewer (r ∷ rs) = by (others-fewer rs) (r.signal == s)
    where
      by : others priority (begun s priority rs) ≤ others priority rs → (b : Bool) → cond (same_priority (cond b (setting r) r).priority priority) 0 1 + others priority (begun s priority rs) ≤ cond (same_priority r.priority priority) 0 1 + others priority rs
      by h true = rw (same_priority-same priority) (omega (arith, h))
      by h false = omega (arith, h)

  -- where a change that is not passed over begins, one more signal has the priority
  others-begun : (ps : Prios) → HasRecord ps s → has_priority ps s priority ≡ false → others priority (begun s priority ps) < others priority ps
  others-begun [] h e = cc
  others-begun (r ∷ rs) h e = by (others-begun rs) (others-fewer rs) (r.signal == s) refl h e
    where
      by : (HasRecord rs s → has_priority rs s priority ≡ false → others priority (begun s priority rs) < others priority rs) → others priority (begun s priority rs) ≤ others priority rs
          → (b : Bool) → (r.signal == s) ≡ b → HasRecord (r ∷ rs) s → has_priority (r ∷ rs) s priority ≡ false → others priority (begun s priority (r ∷ rs)) < others priority (r ∷ rs)
      by again fewer true q h e =
          let own : same_priority r.priority priority ≡ false = sym (has_priority-at r rs s priority true q) ∙ e in
          rw (q, same_priority-same priority, own) (omega (arith, fewer))
      by again fewer false q h e =
          let less = again (rw q at h) (sym (has_priority-at r rs s priority false q) ∙ e) in
          rw q (omega (arith, less))

  -- the end of a change leaves the priorities
  others-ended : (ps : Prios) → others priority (ended s ps) ≡ others priority ps
  others-ended [] = refl
  others-ended (r ∷ rs) = by (others-ended rs) (r.signal == s)
    where
      by : others priority (ended s rs) ≡ others priority rs → (b : Bool) → cond (same_priority (cond b (record r { changing = false }) r).priority priority) 0 1 + others priority (ended s rs) ≡ cond (same_priority r.priority priority) 0 1 + others priority rs
      by h true = ap (λ n. cond (same_priority r.priority priority) 0 1 + n) h
      by h false = ap (λ n. cond (same_priority r.priority priority) 0 1 + n) h

-- ---- what stays within bounds

pub all_have-stays : (ps qs : Prios) → Stays ps qs → (ss : List ℕ) → AllHaveRecords ps ss → AllHaveRecords qs ss
all_have-stays ps qs k [] h = tt
all_have-stays ps qs k (s ∷ ss) h = (k s h.0, all_have-stays ps qs k ss h.1)

can_change-stays : (ps qs : Prios) → Stays ps qs → (more : List ChangePiece) → CanChange ps more → CanChange qs more
can_change-stays ps qs k [] h = tt
can_change-stays ps qs k (ChangeOf n s ∷ more) h = (k s h.0, can_change-stays ps qs k more h.1)
can_change-stays ps qs k (EndChange s ∷ more) h = can_change-stays ps qs k more h

can_change-of : (ps : Prios) (n : ℕ) (ss : List ℕ) (more : List ChangePiece) → AllHaveRecords ps ss → CanChange ps more → CanChange ps (changes_of n ss more)
can_change-of ps n [] more h k = k
can_change-of ps n (s ∷ ss) more h k = (h.0, can_change-of ps n ss more h.1 k)

rest-stays : (ps qs : Prios) → Stays ps qs → (rest : Rest) → RestIsBounded ps rest → RestIsBounded qs rest
rest-stays ps qs k (AbortsLeft ss) h = h
rest-stays ps qs k (ChangesLeft priority more) h = can_change-stays ps qs k more h

pub fold-stays : (ps qs : Prios) → Stays ps qs → (fold : Fold) → FoldIsBounded ps fold → FoldIsBounded qs fold
fold-stays ps qs k fold h = (h.0, rest-stays ps qs k fold.rest h.1)

pub folds-stay : (ps qs : Prios) → Stays ps qs → (folds : List Fold) → FoldsAreBounded ps folds → FoldsAreBounded qs folds
folds-stay ps qs k [] h = tt
folds-stay ps qs k (fold ∷ folds) h = (fold-stays ps qs k fold h.0, folds-stay ps qs k folds h.1)

-- a change of one record that leaves its signal and its followers
pub bounded-changed : (s : ℕ) (f : PrioRecord → PrioRecord) → ((r : PrioRecord) → (f r).signal ≡ r.signal) → ((r : PrioRecord) → (f r).followers ≡ r.followers)
    → (c : Counted) → AreBounded c → AreBounded (record c { prios = changed_at s f c.prios })
bounded-changed s f h k c g =
    record {
      registrations = g.registrations;
      listeners = g.listeners;
      signals = g.signals;
      dependents = g.dependents;
      none_ahead = g.none_ahead;
      prios = let l = changed-length s f h c.prios in let m = g.prios in omega (arith, l, m);
      followers = λ t. subst (λ ss. AllHaveRecords (changed_at s f c.prios) ss) (sym (changed-followers s f h k c.prios t)) (all_have-stays c.prios (changed_at s f c.prios) (changed-stays s f h c.prios) (followers c.prios t) (g.followers t));
    }

-- ---- how many hear the aborts

-- 1 where a listener hears the abort of a signal
abbrev hears : Target → List ℕ → ℕ → ℕ
hears target name s = cond (same_target target (AtSignal s) && same_bytes name (codes "abort")) 1 0

abbrev all_hear : Target → List ℕ → List ℕ → ℕ
all_hear target name [] = 0
all_hear target name (s ∷ ss) = hears target name s + all_hear target name ss

all_hear-window : (name ss : List ℕ) → all_hear Window name ss ≡ 0
all_hear-window name [] = refl
all_hear-window name (s ∷ ss) = let n = all_hear-window name ss in omega (arith, n)

all_hear-signal : (t : ℕ) (name ss : List ℕ) → all_hear (AtSignal t) name ss ≤ times ss t
all_hear-signal t name [] = omega arith
all_hear-signal t name (s ∷ ss) = by (all_hear-signal t name ss) (t == s) (same_bytes name (codes "abort"))
  where
    by : all_hear (AtSignal t) name ss ≤ times ss t → (b c : Bool) → cond (b && c) 1 0 + all_hear (AtSignal t) name ss ≤ cond b 1 0 + times ss t
    by h true true = omega (arith, h)
    by h true false = omega (arith, h)
    by h false c = omega (arith, h)

all_hear-few : (target : Target) (name ss : List ℕ) → ((s : ℕ) → times ss s ≤ 2) → all_hear target name ss ≤ 2
all_hear-few Window name ss h = let n = all_hear-window name ss in omega (arith, n)
all_hear-few (AtSignal t) name ss h = let k = all_hear-signal t name ss in let m = h t in omega (arith, k, m)

heard-more : (l : Listener) (ls : List Listener) (s : ℕ) → heard (l ∷ ls) s ≡ hears l.target l.name s + heard ls s
heard-more l ls s = by (same_target l.target (AtSignal s) && same_bytes l.name (codes "abort"))
  where
    by : (b : Bool) → length (map (λ (x : Listener). x.registration) (cond b (l ∷ filter (λ x. same_target x.target (AtSignal s) && same_bytes x.name (codes "abort")) ls) (filter (λ x. same_target x.target (AtSignal s) && same_bytes x.name (codes "abort")) ls)))
        ≡ cond b 1 0 + length (map (λ (x : Listener). x.registration) (filter (λ x. same_target x.target (AtSignal s) && same_bytes x.name (codes "abort")) ls))
    by true = omega arith
    by false = omega arith

all_heard-none : (ss : List ℕ) → all_heard [] ss ≡ 0
all_heard-none [] = refl
all_heard-none (s ∷ ss) = let n = all_heard-none ss in omega (arith, n)

all_heard-more : (l : Listener) (ls : List Listener) (ss : List ℕ) → all_heard (l ∷ ls) ss ≡ all_hear l.target l.name ss + all_heard ls ss
all_heard-more l ls [] = omega arith
all_heard-more l ls (s ∷ ss) = let one = heard-more l ls s in let more = all_heard-more l ls ss in omega (arith, one, more)

-- each listener hears at most three of these aborts
all_heard-few : (ss : List ℕ) → ((s : ℕ) → times ss s ≤ 2) → (ls : List Listener) → all_heard ls ss ≤ 2 * length ls
all_heard-few ss h [] = let n = all_heard-none ss in omega (arith, n)
all_heard-few ss h (l ∷ ls) =
    let one = all_heard-more l ls ss in
    let few = all_hear-few l.target l.name ss h in
    let more = all_heard-few ss h ls in
    omega (arith, one, few, more)

-- how many callbacks are left is a number of 64 bits
pub fold-few : (c : Counted) (fold : Fold) → AreBounded c → FoldIsBounded c.prios fold → fold_left c fold < 2 ^ 64
fold-few c fold g h = by fold.rest h.1
  where
    by : (rest : Rest) → RestIsBounded c.prios rest → rest_left c rest + length fold.listeners < 2 ^ 64
    by (AbortsLeft ss) r = let k = all_heard-few ss r c.listeners in omega (arith, k, g.listeners, g.registrations, h.0)
    by (ChangesLeft priority more) r = let o = others-length priority c.prios in omega (arith, o, g.prios, g.signals, h.0)

-- ---- what a fold comes to

-- a page within bounds; where a callback comes, the fold is too, and fewer than so many are left
abbrev pub ReachesFewer : Prios → ℕ → Reached → Type 0
ReachesFewer ps most (Finished p) = IsBounded p × Stays ps p.prios
ReachesFewer ps most (Calls f fold p) = IsBounded p × Stays ps p.prios × FoldIsBounded p.prios fold × (fold_left (counted p) fold < most)

fewer-widens : (r : Reached) (ps qs : Prios) (a b : ℕ) → Stays ps qs → a ≤ b → ReachesFewer qs a r → ReachesFewer ps b r
fewer-widens (Finished p) ps qs a b k l h = (h.0, stays-then ps qs p.prios k h.1)
fewer-widens (Calls f fold p) ps qs a b k l h = (h.0, stays-then ps qs p.prios k h.1, h.2, let less = h.3 in omega (arith, l, less))

-- what comes after the listeners does so
abbrev RestReaches : Rest → (Page → Reached) → Type 0
RestReaches rest next = (p : Page) → IsBounded p → RestIsBounded p.prios rest → ReachesFewer p.prios (rest_left (counted p) rest) (next p)

module _ (args : List Value) (rest : Rest) (next : Page → Reached) (k : RestReaches rest next) where
  abbrev ListenersReach : List ℕ → Type 0
  ListenersReach rs = (p : Page) (most : ℕ) → IsBounded p → RestIsBounded p.prios rest → length rs ≤ 4294967295 → rest_left (counted p) rest + length rs ≤ most
      → ReachesFewer p.prios most (next_listener args rs rest next p)

  one-reaches : (r : ℕ) (rs : List ℕ) → ListenersReach rs → ListenersReach (r ∷ rs)
  one-reaches r rs again p most b h few l = by (is_listening r p.listeners)
    where
      by_callback : (f : Option Func) (when : WhenReported) → ReachesFewer p.prios most (begin_listener f when args rs rest (next_listener args rs rest next) (call_begun r p))
      by_callback None when = again (call_ended Ret (call_begun r p)) most b h (omega (arith, few)) (omega (arith, l))
      by_callback (Some f) when = (b, λ s h. h, (omega (arith, few), h), omega (arith, l))

      by : (c : Bool) → ReachesFewer p.prios most (cond c (begin_listener (the_registration p r).callback (when_reported (the_registration p r).role) args rs rest (next_listener args rs rest next) (call_begun r p)) (next_listener args rs rest next p))
      by false = again p most b h (omega (arith, few)) (omega (arith, l))
      by true = by_callback (the_registration p r).callback (when_reported (the_registration p r).role)

  listeners-reach : (rs : List ℕ) → ListenersReach rs
  listeners-reach [] p most b h few l = fewer-widens (next p) p.prios p.prios (rest_left (counted p) rest) most (λ s h. h) (omega (arith, l)) (k p b h)
  listeners-reach (r ∷ rs) p most b h few l = one-reaches r rs (listeners-reach rs) p most b h few l

  -- an event is fired at a signal
  fire-reaches : (s : ℕ) (name : List ℕ) (p : Page) (most : ℕ) → IsBounded p → RestIsBounded p.prios rest → rest_left (counted p) rest + 4294967295 ≤ most
      → ReachesFewer p.prios most (fire s name args rest next p)
  fire-reaches s name p most b h l =
      let short = snapshot-length (AtSignal s) name p.listeners in
      listeners-reach (snapshot (AtSignal s) name p.listeners) p most b h (omega (arith, short, b.listeners, b.registrations)) (omega (arith, short, b.listeners, b.registrations, l))

-- ---- abort

aborts-reach : (ss : List ℕ) (p : Page) → IsBounded p → ((s : ℕ) → times ss s ≤ 2) → ReachesFewer p.prios (all_heard p.listeners ss) (aborts_from ss p)
aborts-reach [] p b few = (b, λ s h. h)
aborts-reach (s ∷ ss) p b few =
    let near = run_algorithms-near s p in
    let q = run_algorithms s p in
    let bounded = bounded-near 0 (counted p) (counted q) near (let r = b.registrations in omega (arith, r)) b in
    let short = snapshot-length (AtSignal s) (codes "abort") q.listeners in
    let same = ap (λ ls. all_heard ls (s ∷ ss)) near.listeners in
    fewer-widens (aborts_from (s ∷ ss) p) p.prios q.prios (all_heard p.listeners (s ∷ ss)) (all_heard p.listeners (s ∷ ss))
    (stays-near 0 (counted p) (counted q) near) (omega arith)
    (listeners-reach (SignalValue s ∷ []) (AbortsLeft ss) (aborts_from ss) (λ q c h. aborts-reach ss q c h) (snapshot (AtSignal s) (codes "abort") q.listeners) q (all_heard p.listeners (s ∷ ss))
    bounded (λ t. let f = few t in omega (arith, f)) (omega (arith, short, bounded.listeners, bounded.registrations)) (omega (arith, same)))

-- ---- priority change

module _ (priority : Priority) where
  abbrev PiecesReach : List ChangePiece → (Page → Reached) → Type 0
  PiecesReach more next = RestReaches (ChangesLeft priority more) next

  abbrev OneReaches : (ℕ → List ChangePiece → (Page → Reached) → Page → Reached) → Type 0
  OneReaches one = (s : ℕ) (more : List ChangePiece) (next : Page → Reached) → PiecesReach more next → (p : Page) → IsBounded p → HasRecord p.prios s → CanChange p.prios more
      → ReachesFewer p.prios (others priority p.prios * (2 ^ 32)) (one s more next p)

  each-reaches : (n : ℕ) (one : ℕ → List ChangePiece → (Page → Reached) → Page → Reached) → OneReaches one → (ss : List ℕ) (more : List ChangePiece) (next : Page → Reached) → PiecesReach more next → PiecesReach (changes_of n ss more) (each_change one n ss more next)
  each-reaches n one c [] more next k p b h = k p b h
  each-reaches n one c (s ∷ ss) more next k p b h = c s (changes_of n ss more) (each_change one n ss more next) (each-reaches n one c ss more next k) p b h.0 h.1

  end-reaches : (s : ℕ) (more : List ChangePiece) (next : Page → Reached) → PiecesReach more next → PiecesReach (EndChange s ∷ more) (λ q. next (change_ended s q))
  end-reaches s more next k p b h =
      let same = others-ended priority s p.prios in
      let stays = changed-stays s (λ r. record r { changing = false }) (λ r. refl) p.prios in
      fewer-widens (next (change_ended s p)) p.prios (ended s p.prios) (others priority (ended s p.prios) * (2 ^ 32)) (others priority p.prios * (2 ^ 32)) stays (omega (arith, same))
      (k (change_ended s p) (bounded-changed s (λ r. record r { changing = false }) (λ r. refl) (λ r. refl) (counted p) b) (can_change-stays p.prios (ended s p.prios) stays more h))

  change-reaches : (n : ℕ) → OneReaches (change_from priority n)
  change-reaches zero s more next k p b r h = k p b h
  change-reaches (suc n) s more next k p b r h = by (change-reaches n) (is_changing p.prios s || has_priority p.prios s priority) refl
    where
      by : OneReaches (change_from priority n) → (c : Bool) → (is_changing p.prios s || has_priority p.prios s priority) ≡ c
          → ReachesFewer p.prios (others priority p.prios * (2 ^ 32)) (cond c (next p) (fire s (codes "prioritychange") (SignalValue s ∷ priority_value (priority_of p.prios s) ∷ []) (ChangesLeft priority (changes_of n (followers p.prios s) (EndChange s ∷ more)))
          (each_change (change_from priority n) n (followers p.prios s) (EndChange s ∷ more) (λ q. next (change_ended s q))) (change_begun s priority p)))
      by again true e = k p b h
      by again false e =
          let less = others-begun priority s p.prios r (or_false (is_changing p.prios s) (has_priority p.prios s priority) e) in
          let stays = changed-stays s (setting priority s) (λ r. refl) p.prios in
          fewer-widens (fire s (codes "prioritychange") (SignalValue s ∷ priority_value (priority_of p.prios s) ∷ []) (ChangesLeft priority (changes_of n (followers p.prios s) (EndChange s ∷ more)))
          (each_change (change_from priority n) n (followers p.prios s) (EndChange s ∷ more) (λ q. next (change_ended s q))) (change_begun s priority p))
          p.prios (begun s priority p.prios) (others priority p.prios * (2 ^ 32)) (others priority p.prios * (2 ^ 32)) stays (omega arith)
          (fire-reaches (SignalValue s ∷ priority_value (priority_of p.prios s) ∷ []) (ChangesLeft priority (changes_of n (followers p.prios s) (EndChange s ∷ more)))
          (each_change (change_from priority n) n (followers p.prios s) (EndChange s ∷ more) (λ q. next (change_ended s q)))
          (each-reaches n (change_from priority n) again (followers p.prios s) (EndChange s ∷ more) (λ q. next (change_ended s q)) (end-reaches s more next k))
          s (codes "prioritychange") (change_begun s priority p) (others priority p.prios * (2 ^ 32))
          (bounded-changed s (setting priority s) (λ r. refl) (λ r. refl) (counted p) b)
          (can_change-of (begun s priority p.prios) n (followers p.prios s) (EndChange s ∷ more) (all_have-stays p.prios (begun s priority p.prios) stays (followers p.prios s) (b.followers s)) (can_change-stays p.prios (begun s priority p.prios) stays more h))
          (omega (arith, less)))

  changes-reach : (more : List ChangePiece) → PiecesReach more (changes_from priority more)
  changes-reach [] p b h = (b, λ s h. h)
  changes-reach (ChangeOf n s ∷ more) p b h = change-reaches n s more (changes_from priority more) (changes-reach more) p b h.0 h.1
  changes-reach (EndChange s ∷ more) p b h = end-reaches s more (changes_from priority more) (changes-reach more) p b h

-- ---- folds

rest-reaches : (rest : Rest) → RestReaches rest (rest_from rest)
rest-reaches (AbortsLeft ss) p b h = aborts-reach ss p b h
rest-reaches (ChangesLeft priority more) p b h = changes-reach priority more p b h

-- a fold that goes on comes to fewer callbacks
pub fold-reaches : (fold : Fold) (p : Page) → IsBounded p → FoldIsBounded p.prios fold → ReachesFewer p.prios (fold_left (counted p) fold) (go_on fold p)
fold-reaches fold p b h = listeners-reach fold.args fold.rest (rest_from fold.rest) (rest-reaches fold.rest) fold.listeners p (fold_left (counted p) fold) b h.1 h.0 (omega arith)

filter-times : (test : ℕ → Bool) (ns : List ℕ) (n : ℕ) → times (filter test ns) n ≤ times ns n
filter-times test [] n = omega arith
filter-times test (m ∷ ms) n = by (filter-times test ms n) (test m)
  where
    by : times (filter test ms) n ≤ times ms n → (b : Bool) → times (cond b (m ∷ filter test ms) (filter test ms)) n ≤ cond (n == m) 1 0 + times ms n
    by h true = omega (arith, h)
    by h false = omega (arith, h)

one-time : (b : Bool) → cond b 1 0 ≤ 1
one-time true = omega arith
one-time false = omega arith

marked-times : (s : ℕ) (p : Page) → IsBounded p → (t : ℕ) → times (marked s p.signals) t ≤ 2
marked-times s p b t = by (AbortGraph.is_aborted p.signals s)
  where
    by : (c : Bool) → times (cond c [] (s ∷ filter (λ d. not (AbortGraph.is_aborted p.signals d)) (the_signal p.signals s).dependents)) t ≤ 2
    by true = omega arith
    by false =
        let short = filter-times (λ d. not (AbortGraph.is_aborted p.signals d)) (the_signal p.signals s).dependents t in
        let few = b.dependents s t in
        let once = one-time (t == s) in
        omega (arith, short, few, once)

pub abort-reaches : (s : ℕ) (reason : Value) (p : Page) → IsBounded p → ReachesFewer p.prios (2 ^ 64) (begin_abort s reason p)
abort-reaches s reason p b =
    let q = reason_set reason (marked s p.signals) p in
    let few = marked-times s p b in
    let near = reason_set-near reason (marked s p.signals) p in
    let bounded = bounded-near 0 (counted p) (counted q) near (let r = b.registrations in omega (arith, r)) b in
    let heard = all_heard-few (marked s p.signals) few q.listeners in
    fewer-widens (begin_abort s reason p) p.prios q.prios (all_heard q.listeners (marked s p.signals)) (2 ^ 64)
    (stays-near 0 (counted p) (counted q) near) (omega (arith, heard, bounded.listeners, bounded.registrations))
    (aborts-reach (marked s p.signals) q bounded few)

pub change-reaches-few : (priority : Priority) (n s : ℕ) (p : Page) → IsBounded p → HasRecord p.prios s → ReachesFewer p.prios (2 ^ 64) (begin_change priority n s p)
change-reaches-few priority n s p b h =
    let few = others-length priority p.prios in
    fewer-widens (begin_change priority n s p) p.prios p.prios (others priority p.prios * (2 ^ 32)) (2 ^ 64) (λ s h. h) (omega (arith, few, b.prios, b.signals))
    (changes-reach priority (ChangeOf n s ∷ []) p b (h, tt))
