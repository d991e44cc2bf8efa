-- What is left to visit falls at each step.
use Rattle.std.proofs.Common.{◌≡◌, ℕ, zero, suc, ◌+◌, ◌-◌, ◌≤◌, ◌<◌, Bool, true, false, cond, ◌||◌, List, [], ◌∷◌, length, Option, Some, None, refl, ap, sym, subst, ◌∙◌, arith}
use Rattle.std.specs.Prelude.{◌==◌, codes, sum_by, option_map, unwrap_or, slice_get, slice_set, ⊤}
use Rattle.std.proofs.lemmas.Bool.{false≢true}
use Rattle.std.proofs.lemmas.Bool.Decides.{nat_tests}
use Rattle.std.proofs.lemmas.List.Sums.{sum_by-cons, sum_by-le-sum_by}
use Rattle.page_types.specs.declared.Priority.{Priority}
use Rattle.page_types.specs.declared.Priority.TheVariants.{Background, UserVisible, UserBlocking}
use Rattle.page_parts.specs.AbortGraph.{SignalRecord, Signals, fresh_signal, the_signal, with_algorithms}
use Rattle.page_parts.specs.TaskSignals.{PrioRecord, Prios, same_priority, record_of, changed_at, begun, ended, is_changing, followers, priority_of}
use Rattle.page_parts.specs.Listeners.{Listener, AtSignal, snapshot, is_listening}
use Rattle.page_model.specs.PageSignals.{has_priority}
use Rattle.page_model.specs.Folds.{ChangePiece, ChangeOf, EndChange, Rest, AbortsLeft, ChangesLeft, changes_of}
use Rattle.page_events.specs.declared.target.Target.{Target}
use Rattle.page_events.specs.declared.target.Target.TheVariants.{Signal}
use Rattle.page_events.specs.Dispatching.{next_listening, behind_next}
use Rattle.page_folds.specs.declared.step.FoldStep.{FoldStep}
use Rattle.page_folds.specs.declared.step.FoldStep.TheVariants as step
use Rattle.page_folds.specs.Steps.{Parts, Stage, Between, Algorithms, ToTell, ToFire, Calling, OpenFold, Came, Ends, Gives, listener_next, stage_next, or_then, aborts_from, before_change, change_from, changes_from, rest_from, goes_on, Standing, after, stepped, stepped_in}
use Rattle.page_folds.specs.Visits.{heard, stage_visits, abort_visits, change_visits, piece_visits, rest_visits, fold_visits, to_visit, Falls}

-- ---- a stage

behind-fewer : (ls : List Listener) (left : List ℕ) (r : ℕ) → next_listening ls left ≡ Some r → length (behind_next ls left) < length left
behind-fewer ls [] r e = cc
behind-fewer ls (l ∷ left) r e = by (behind-fewer ls left r) (is_listening l ls) refl e
  where
    by : (next_listening ls left ≡ Some r → length (behind_next ls left) < length left) → (b : Bool) → is_listening l ls ≡ b → next_listening ls (l ∷ left) ≡ Some r → length (behind_next ls (l ∷ left)) < length (l ∷ left)
    by again true q e = rw q (omega arith)
    by again false q e = let less = again (rw q at e) in rw q (omega (arith, less))

-- fewer are left after the step, where there is one
abbrev AdvanceFalls : List Listener → ℕ → Option (FoldStep × Stage) → Type 0
AdvanceFalls ls n None = ⊤
AdvanceFalls ls n (Some a) = stage_visits ls a.1 < n

listener-falls : (ls : List Listener) (target : Target) (left : List ℕ) → AdvanceFalls ls (length left) (listener_next ls target left)
listener-falls ls target left = by (next_listening ls left) refl
  where
    by : (o : Option ℕ) → next_listening ls left ≡ o → AdvanceFalls ls (length left) (elim o [ None ↦ None | Some r ↦ Some (step.Listener target r, Calling target (behind_next ls left)) ])
    by None e = tt
    by (Some r) e = behind-fewer ls left r e

pub stage-falls : (ls : List Listener) (stage : Stage) → AdvanceFalls ls (stage_visits ls stage) (stage_next ls stage)
stage-falls ls Between = tt
stage-falls ls (Algorithms s []) = rw zero_plus (listener-falls ls (Signal s) (snapshot (AtSignal s) (codes "abort") ls))
  where
    zero_plus : 0 + heard ls (codes "abort") s ≡ heard ls (codes "abort") s
    zero_plus = omega arith
stage-falls ls (Algorithms s (a ∷ left)) = omega arith
stage-falls ls (ToTell s before) = omega arith
stage-falls ls (ToFire s) = listener-falls ls (Signal s) (snapshot (AtSignal s) (codes "prioritychange") ls)
stage-falls ls (Calling target left) = listener-falls ls target left

-- ---- aborts

-- fewer are left after the step, where a fold comes to one
abbrev pub CameFalls : {R : Type 0} → ℕ → Came R → Type 0
CameFalls n (Ends ps) = ⊤
CameFalls n (Gives s fold ps) = fold_visits ps fold < n

at_place : {X : Type 0} (f : X → ℕ) (xs : List X) (i j : ℕ) (x d : X) → f x ≤ f (unwrap_or (slice_get xs i) d) → f (unwrap_or (slice_get (slice_set xs i x) j) d) ≤ f (unwrap_or (slice_get xs j) d)
at_place f [] i j x d e = omega arith
at_place f (y ∷ xs) zero zero x d e = e
at_place f (y ∷ xs) zero (suc j) x d e = omega arith
at_place f (y ∷ xs) (suc i) zero x d e = omega arith
at_place f (y ∷ xs) (suc i) (suc j) x d e = at_place f xs i j x d e

-- a signal has no more algorithms where those of one were taken
taken-fewer : {R : Type 0} (ss : Signals R) (s t : ℕ) → length (the_signal (with_algorithms s [] ss) t).algorithms ≤ length (the_signal ss t).algorithms
taken-fewer ss zero t = omega arith
taken-fewer ss (suc s) zero = omega arith
taken-fewer {R} ss (suc s) (suc t) =
    at_place (λ (r : SignalRecord R). length r.algorithms) ss s t (record (the_signal ss (suc s)) { algorithms = [] }) fresh_signal (omega arith)

module _ {R : Type 0} (ls : List Listener) (prios : Prios) where
  abbrev with_signals : Signals R → Parts R
  with_signals ss = record { listeners = ls; signals = ss; prios = prios }

  aborts-fewer : (ss : Signals R) (s : ℕ) (left : List ℕ) → abort_visits (with_signals (with_algorithms s [] ss)) left ≤ abort_visits (with_signals ss) left
  aborts-fewer ss s [] = omega arith
  aborts-fewer ss s (t ∷ left) = omega (arith, taken-fewer ss s t, aborts-fewer ss s left)

  aborts-fall : (left : List ℕ) (ss : Signals R) (n : ℕ) → abort_visits (with_signals ss) left ≤ n → CameFalls n (aborts_from left (with_signals ss))
  aborts-fall [] ss n h = tt
  aborts-fall (s ∷ left) ss n h =
      let own = Algorithms s (the_signal ss s).algorithms in
      by (aborts-fall left (with_algorithms s [] ss) n) (stage_next ls own) (stage-falls ls own)
    where
      by : (abort_visits (with_signals (with_algorithms s [] ss)) left ≤ n → CameFalls n (aborts_from left (with_signals (with_algorithms s [] ss))))
          → (o : Option (FoldStep × Stage)) → AdvanceFalls ls (stage_visits ls (Algorithms s (the_signal ss s).algorithms)) o
          → CameFalls n (or_then o (AbortsLeft left) (aborts_from left) (with_signals (with_algorithms s [] ss)))
      by again None less = again (omega (arith, h, aborts-fewer ss s left))
      by again (Some a) less = omega (arith, h, less, aborts-fewer ss s left)

-- ---- changes

-- what the first record and the others give
followers-at : (x : PrioRecord) (rest : Prios) (t : ℕ) (b : Bool) → (x.signal == t) ≡ b → followers (x ∷ rest) t ≡ cond b x.followers (followers rest t)
followers-at x rest t b e = ap (λ c. elim (cond c (Some x) (record_of rest t)) [ None ↦ [] | Some r ↦ r.followers ]) e ∙ by b
  where
    by : (b : Bool) → elim (cond b (Some x) (record_of rest t)) [ None ↦ [] | Some r ↦ r.followers ] ≡ cond b x.followers (followers rest t)
    by true = refl
    by false = refl

has_priority-at : (x : PrioRecord) (rest : Prios) (t : ℕ) (priority : Priority) (b : Bool) → (x.signal == t) ≡ b → has_priority (x ∷ rest) t priority ≡ cond b (same_priority x.priority priority) (has_priority rest t priority)
has_priority-at x rest t priority b e = ap (λ c. elim (option_map (λ (r : PrioRecord). r.priority) (cond c (Some x) (record_of rest t))) [ None ↦ false | Some own ↦ same_priority own priority ]) e ∙ by b
  where
    by : (b : Bool) → elim (option_map (λ (r : PrioRecord). r.priority) (cond b (Some x) (record_of rest t))) [ None ↦ false | Some own ↦ same_priority own priority ] ≡ cond b (same_priority x.priority priority) (has_priority rest t priority)
    by true = refl
    by false = refl

module _ (priority : Priority) (s : ℕ) (f : PrioRecord → PrioRecord) (same_signal : (r : PrioRecord) → (f r).signal ≡ r.signal) (same_followers : (r : PrioRecord) → (f r).followers ≡ r.followers) (keeps : (r : PrioRecord) → same_priority r.priority priority ≡ true → same_priority (f r).priority priority ≡ true) where
  same_signal_at : (r : PrioRecord) (b : Bool) → (cond b (f r) r).signal ≡ r.signal
  same_signal_at r true = same_signal r
  same_signal_at r false = refl

  keeps_at : (r : PrioRecord) (b : Bool) → same_priority r.priority priority ≡ true → same_priority (cond b (f r) r).priority priority ≡ true
  keeps_at r true e = keeps r e
  keeps_at r false e = e

  keeps_priority : (ps : Prios) (t : ℕ) → has_priority ps t priority ≡ true → has_priority (changed_at s f ps) t priority ≡ true
  keeps_priority [] t e = e
  keeps_priority (r ∷ rs) t e = by (keeps_priority rs t) (r.signal == t) refl e
    where
      by : (has_priority rs t priority ≡ true → has_priority (changed_at s f rs) t priority ≡ true) → (b : Bool) → (r.signal == t) ≡ b → has_priority (r ∷ rs) t priority ≡ true → has_priority (changed_at s f (r ∷ rs)) t priority ≡ true
      by again true q e =
          has_priority-at (cond (r.signal == s) (f r) r) (changed_at s f rs) t priority true (ap (λ n. n == t) (same_signal_at r (r.signal == s)) ∙ q)
          ∙ keeps_at r (r.signal == s) (sym (has_priority-at r rs t priority true q) ∙ e)
      by again false q e =
          has_priority-at (cond (r.signal == s) (f r) r) (changed_at s f rs) t priority false (ap (λ n. n == t) (same_signal_at r (r.signal == s)) ∙ q)
          ∙ again (sym (has_priority-at r rs t priority false q) ∙ e)

  same_followers_at : (r : PrioRecord) (b : Bool) → (cond b (f r) r).followers ≡ r.followers
  same_followers_at r true = same_followers r
  same_followers_at r false = refl

  keeps_followers : (ps : Prios) (t : ℕ) → followers (changed_at s f ps) t ≡ followers ps t
  keeps_followers [] t = refl
  keeps_followers (r ∷ rs) t = by (keeps_followers rs t) (r.signal == t) refl
    where
      by : followers (changed_at s f rs) t ≡ followers rs t → (b : Bool) → (r.signal == t) ≡ b → followers (changed_at s f (r ∷ rs)) t ≡ followers (r ∷ rs) t
      by again true q =
          followers-at (cond (r.signal == s) (f r) r) (changed_at s f rs) t true (ap (λ n. n == t) (same_signal_at r (r.signal == s)) ∙ q)
          ∙ same_followers_at r (r.signal == s)
          ∙ sym (followers-at r rs t true q)
      by again false q =
          followers-at (cond (r.signal == s) (f r) r) (changed_at s f rs) t false (ap (λ n. n == t) (same_signal_at r (r.signal == s)) ∙ q)
          ∙ again
          ∙ sym (followers-at r rs t false q)

  module _ {R : Type 0} (ls : List Listener) (ss : Signals R) where
    abbrev with_prios : Prios → Parts R
    with_prios ps = record { listeners = ls; signals = ss; prios = ps }

    change-fewer : (n : ℕ) (ps : Prios) (t : ℕ) → change_visits priority (with_prios (changed_at s f ps)) n t ≤ change_visits priority (with_prios ps) n t
    change-fewer zero ps t = omega arith
    change-fewer (suc n) ps t =
        by (has_priority ps t priority) (has_priority (changed_at s f ps) t priority) (keeps_priority ps t)
        (sum_by-le-sum_by (change_visits priority (with_prios (changed_at s f ps)) n) (change_visits priority (with_prios ps) n) (followers ps t) (change-fewer n ps))
      where
        by : (b c : Bool) → (b ≡ true → c ≡ true)
            → sum_by (change_visits priority (with_prios (changed_at s f ps)) n) (followers ps t) ≤ sum_by (change_visits priority (with_prios ps) n) (followers ps t)
            → cond c 0 (1 + heard ls (codes "prioritychange") t + sum_by (change_visits priority (with_prios (changed_at s f ps)) n) (followers (changed_at s f ps) t))
            ≤ cond b 0 (1 + heard ls (codes "prioritychange") t + sum_by (change_visits priority (with_prios ps) n) (followers ps t))
        by b true h le = omega arith
        by true false h le = absurd (false≢true (h refl))
        by false false h le = rw (keeps_followers ps t) (omega (arith, le))

    pieces-fewer : (ps : Prios) (more : List ChangePiece) → piece_visits priority (with_prios (changed_at s f ps)) more ≤ piece_visits priority (with_prios ps) more
    pieces-fewer ps [] = omega arith
    pieces-fewer ps (ChangeOf n t ∷ more) = omega (arith, change-fewer n ps t, pieces-fewer ps more)
    pieces-fewer ps (EndChange t ∷ more) = pieces-fewer ps more

-- the pieces of signals that are to be changed, before others
pieces-of : {R : Type 0} (priority : Priority) (ps : Parts R) (n : ℕ) (ss : List ℕ) (more : List ChangePiece)
    → piece_visits priority ps (changes_of n ss more) ≡ sum_by (change_visits priority ps n) ss + piece_visits priority ps more
pieces-of priority ps n [] more = omega arith
pieces-of priority ps n (s ∷ ss) more = omega (arith, sum_by-cons (change_visits priority ps n) s ss, pieces-of priority ps n ss more)

same_priority-same : (priority : Priority) → same_priority priority priority ≡ true
same_priority-same Background = refl
same_priority-same UserVisible = refl
same_priority-same UserBlocking = refl

-- where a change begins, the chain is not at its end, and the priority is another one
begins-with : (chain : ℕ) (prios : Prios) (s : ℕ) (priority before : Priority) → before_change chain prios s priority ≡ Some before
    → (chain ≡ suc (chain - 1)) × (has_priority prios s priority ≡ false)
begins-with chain prios s priority before e = by (chain == 0) refl (is_changing prios s) (has_priority prios s priority) e
  where
    by : (a : Bool) → (chain == 0) ≡ a → (b c : Bool) → cond (a || b || c) None (priority_of prios s) ≡ Some before → (chain ≡ suc (chain - 1)) × (c ≡ false)
    by true q b c e = cc
    by false q true c e = cc
    by false q false true e = cc
    by false q false false e = (grind (arith, nat_tests), refl)

module _ {R : Type 0} (priority : Priority) (ls : List Listener) (ss : Signals R) where
  abbrev at_prios : Prios → Parts R
  at_prios ps = record { listeners = ls; signals = ss; prios = ps }

  begun-fewer : (s : ℕ) (n : ℕ) (ps : Prios) (t : ℕ) → change_visits priority (at_prios (begun s priority ps)) n t ≤ change_visits priority (at_prios ps) n t
  begun-fewer s = change-fewer priority s (λ r. record r { priority = priority; changing = true }) (λ r. refl) (λ r. refl) (λ r h. same_priority-same priority) ls ss

  pieces-begun : (s : ℕ) (ps : Prios) (more : List ChangePiece) → piece_visits priority (at_prios (begun s priority ps)) more ≤ piece_visits priority (at_prios ps) more
  pieces-begun s = pieces-fewer priority s (λ r. record r { priority = priority; changing = true }) (λ r. refl) (λ r. refl) (λ r h. same_priority-same priority) ls ss

  pieces-ended : (s : ℕ) (ps : Prios) (more : List ChangePiece) → piece_visits priority (at_prios (ended s ps)) more ≤ piece_visits priority (at_prios ps) more
  pieces-ended s = pieces-fewer priority s (λ r. record r { changing = false }) (λ r. refl) (λ r. refl) (λ r h. h) ls ss

  -- a change that begins, and what is left of it, its followers and other pieces
  begun-falls : (ps : Prios) (chain s : ℕ) (before : Priority) (more : List ChangePiece) → before_change chain ps s priority ≡ Some before
      → heard ls (codes "prioritychange") s + piece_visits priority (at_prios (begun s priority ps)) (changes_of (chain - 1) (followers ps s) (EndChange s ∷ more))
      < change_visits priority (at_prios ps) chain s + piece_visits priority (at_prios ps) more
  begun-falls ps chain s before more e =
      let b = begins-with chain ps s priority before e in
      let known : change_visits priority (at_prios ps) (suc (chain - 1)) s ≡ 1 + heard ls (codes "prioritychange") s + sum_by (change_visits priority (at_prios ps) (chain - 1)) (followers ps s) =
      ap (λ c. cond c 0 (1 + heard ls (codes "prioritychange") s + sum_by (change_visits priority (at_prios ps) (chain - 1)) (followers ps s))) b.1 in
      let whole : change_visits priority (at_prios ps) chain s ≡ change_visits priority (at_prios ps) (suc (chain - 1)) s = ap (λ n. change_visits priority (at_prios ps) n s) b.0 in
      let split = pieces-of priority (at_prios (begun s priority ps)) (chain - 1) (followers ps s) (EndChange s ∷ more) in
      let fewer = sum_by-le-sum_by (change_visits priority (at_prios (begun s priority ps)) (chain - 1)) (change_visits priority (at_prios ps) (chain - 1)) (followers ps s) (begun-fewer s (chain - 1) ps) in
      let others = pieces-begun s ps more in
      omega (arith, known, whole, split, fewer, others)

  changes-fall : (more : List ChangePiece) (ps : Prios) (n : ℕ) → piece_visits priority (at_prios ps) more ≤ n → CameFalls n (changes_from priority more (at_prios ps))
  changes-fall [] ps n h = tt
  changes-fall (EndChange s ∷ more) ps n h = changes-fall more (ended s ps) n (omega (arith, h, pieces-ended s ps more))
  changes-fall (ChangeOf chain s ∷ more) ps n h =
      by (changes-fall more ps n (omega (arith, h))) (before_change chain ps s priority) (λ before e. begun-falls ps chain s before more e) refl
    where
      by : CameFalls n (changes_from priority more (at_prios ps))
          → (o : Option Priority)
          → ((before : Priority) → before_change chain ps s priority ≡ Some before
          → heard ls (codes "prioritychange") s + piece_visits priority (at_prios (begun s priority ps)) (changes_of (chain - 1) (followers ps s) (EndChange s ∷ more))
          < change_visits priority (at_prios ps) chain s + piece_visits priority (at_prios ps) more)
          → before_change chain ps s priority ≡ o
          → CameFalls n (change_from o priority chain s more (changes_from priority more) (at_prios ps))
      by again None less e = again
      by again (Some before) less e = omega (arith, h, less before e)

-- ---- a fold

rest-falls : {R : Type 0} (rest : Rest) (ps : Parts R) (n : ℕ) → rest_visits ps rest ≤ n → CameFalls n (rest_from rest ps)
rest-falls (AbortsLeft left) ps n h = aborts-fall ps.listeners ps.prios left ps.signals n h
rest-falls (ChangesLeft priority more) ps n h = changes-fall priority ps.listeners ps.signals more ps.prios n h

pub fold-falls : {R : Type 0} (fold : OpenFold) (ps : Parts R) → CameFalls (fold_visits ps fold) (goes_on fold ps)
fold-falls fold ps =
    by (rest-falls fold.rest ps (fold_visits ps fold) (omega arith)) (stage_next ps.listeners fold.stage) (stage-falls ps.listeners fold.stage)
  where
    by : CameFalls (fold_visits ps fold) (rest_from fold.rest ps)
        → (o : Option (FoldStep × Stage)) → AdvanceFalls ps.listeners (stage_visits ps.listeners fold.stage) o
        → CameFalls (fold_visits ps fold) (or_then o fold.rest (rest_from fold.rest) ps)
    by again None less = again
    by again (Some a) less = omega (arith, less)

falls-by : {R : Type 0} (s : FoldStep) (before after : Standing R) → to_visit after < to_visit before → Falls s before after
falls-by step.Finished before after h = tt
falls-by (step.Algorithm a) before after h = h
falls-by (step.Listener target r) before after h = h
falls-by (step.Changed s b) before after h = h

came-falls : {R : Type 0} (came : Came R) (fold : OpenFold) (ps : Parts R) (around : List OpenFold) → CameFalls (fold_visits ps fold) came
    → Falls (after came around).0 (record { parts = ps; folds = fold ∷ around }) (after came around).1
came-falls (Ends q) fold ps around h = tt
came-falls (Gives s new q) fold ps around h =
    falls-by s (record { parts = ps; folds = fold ∷ around }) (record { parts = q; folds = new ∷ around }) h

falls-in : {R : Type 0} (folds : List OpenFold) (ps : Parts R) → Falls (stepped_in folds ps).0 (record { parts = ps; folds = folds }) (stepped_in folds ps).1
falls-in [] ps = tt
falls-in (fold ∷ around) ps = came-falls (goes_on fold ps) fold ps around (fold-falls fold ps)

-- at each step that is not the end, less is left to visit
pub step-falls : {R : Type 0} (s : FoldStep) (before after : Standing R) → (s, after) ≡ stepped before → Falls s before after
step-falls {R} s before after e =
    let P : FoldStep × Standing R → Type 0 = λ a. Falls a.0 before a.1 in subst P (sym e) (falls-in before.folds before.parts)
