-- The laws on sequences of calls: what each step keeps, and then all calls.
use Rattle.std.proofs.Common.{◌≡◌, ◌≢◌, ℕ, zero, suc, ◌+◌, ◌<◌, arith, List, [], ◌∷◌, ◌++◌, map, Bool, true, false, cond, refl, ap, sym, subst, ◌∙◌, inl, inr, append_assoc, append-nil}
use Rattle.std.specs.Prelude.{Option, Some, None, is_some, ◌==◌}
use Rattle.std.proofs.lemmas.Bool.{eq-eqb}
use Rattle.std.proofs.lemmas.Bool.Decides.{eqb_tells}
use Rattle.page_types.specs.Values.{Value}
use Rattle.page_parts.specs.Kinds.{promise_in, a_fault}
use Rattle.page_types.specs.declared.FaultName.TheVariants.{TypeError}
use Rattle.page_parts.specs.Words.{numbered, with_numbered}
use Rattle.page_parts.specs.Promises.{PromiseRecord, Settled, Fulfilled, Failed, Reaction, React, Change, pending_promise, no_change, settle, adopt, resolve, resolve_unlocked, reject, follow, subscribe, subscribe_by}
use Rattle.promise_core.specs.Held.{Held, IsMade, nothing_held}
use Rattle.page_parts.specs.Promises.{the_promise}
use Rattle.promise_core.specs.Calls.{Act, Resolve, Reject, Follow, Subscribe, Call, Make, TakeRejected, Of, step, before_step, after, after_all, IsOfMade, AreOfMade, settled_by, times_settled, reactions_of, reacted_by, reacted, given, subscribed}
use Rattle.promise_core.proofs.HeldLemmas.{numbered-with, numbered-with_other, numbered-made}

-- 1 for a pending promise, which may still settle
abbrev pub left : PromiseRecord → ℕ
left q = cond (is_some q.outcome) 0 1

-- a settled promise is locked and has no reaction that waits
pub record IsSound (q : PromiseRecord) : Type 0 where
  pub locked : is_some q.outcome ≡ true → q.locked ≡ true
  pub none_waits : is_some q.outcome ≡ true → q.reactions ≡ []

-- what a step of promise n, given these reactions, keeps
pub record Keeps (n : ℕ) (q : PromiseRecord) (gets : List Reaction) (c : Change) : Type 0 where
  pub sound : IsSound c.promise
  pub settles : cond c.settled 1 0 + left c.promise ≡ left q
  pub reacts : reactions_of n c.jobs ++ c.promise.reactions ≡ q.reactions ++ gets
  pub pending : is_some c.promise.outcome ≡ false → (is_some q.outcome ≡ false) × (reactions_of n c.jobs ≡ [])

false_true : false ≡ true → ⊥
false_true e = cc

eqb_same : (n : ℕ) → (n == n) ≡ true
eqb_same n = eq-eqb n n refl

reactions_of-all : (n : ℕ) (rs : List Reaction) → reactions_of n (map (React n) rs) ≡ rs
reactions_of-all n [] = refl
reactions_of-all n (r ∷ rs) = ap (λ b. cond b (r ∷ reactions_of n (map (React n) rs)) (reactions_of n (map (React n) rs))) (eqb_same n) ∙ ap (λ xs. r ∷ xs) (reactions_of-all n rs)

reactions_of-other : (n m : ℕ) (rs : List Reaction) → (m == n) ≡ false → reactions_of n (map (React m) rs) ≡ []
reactions_of-other n m [] h = refl
reactions_of-other n m (r ∷ rs) h = ap (λ b. cond b (r ∷ reactions_of n (map (React m) rs)) (reactions_of n (map (React m) rs))) h ∙ reactions_of-other n m rs h

keeps-nothing : (n : ℕ) (q : PromiseRecord) → IsSound q → Keeps n q [] (no_change q)
keeps-nothing n q sound = record { sound = sound; settles = omega arith; reacts = sym (append-nil q.reactions); pending = λ h. (h, refl) }

keeps-settle : (n : ℕ) (q : PromiseRecord) (how : Settled) → q.outcome ≡ None → Keeps n q [] (settle n q how)
keeps-settle n q how pending =
    record {
      sound = record { locked = λ h. refl; none_waits = λ h. refl };
      settles = sym (ap (λ o. cond (is_some o) 0 1) pending);
      reacts = ap (λ xs. xs ++ []) (reactions_of-all n q.reactions);
      pending = λ h. absurd (false_true (sym h));
    }

keeps-adopt : (n : ℕ) (q : PromiseRecord) (from : ℕ) → IsSound q → Keeps n q [] (adopt n q from)
keeps-adopt n q from sound =
    record { sound = record { locked = λ h. refl; none_waits = sound.none_waits }; settles = omega arith; reacts = sym (append-nil q.reactions); pending = λ h. (h, refl) }

-- one that is not locked is pending
pending_unlocked : (q : PromiseRecord) → IsSound q → q.locked ≡ false → q.outcome ≡ None
pending_unlocked q sound h = by_outcome q.outcome refl
  where
    by_outcome : (o : Option Settled) → q.outcome ≡ o → q.outcome ≡ None
    by_outcome None e = e
    by_outcome (Some how) e = let k : q.locked ≡ true = sound.locked (ap is_some e) in absurd (false_true (sym h ∙ k))

keeps-resolve : (n : ℕ) (q : PromiseRecord) (v : Value) → IsSound q → Keeps n q [] (resolve n q v)
keeps-resolve n q v sound = by_lock q.locked refl
  where
    other_than : (other : ℕ) (b : Bool) → q.locked ≡ false → Keeps n q [] (cond b (settle n q (Failed (a_fault TypeError))) (adopt n q other))
    other_than other true h = keeps-settle n q (Failed (a_fault TypeError)) (pending_unlocked q sound h)
    other_than other false h = keeps-adopt n q other sound

    by_promise : (o : Option ℕ) → q.locked ≡ false → Keeps n q [] (resolve_unlocked n q v o)
    by_promise None h = keeps-settle n q (Fulfilled v) (pending_unlocked q sound h)
    by_promise (Some other) h = other_than other (other == n) h

    by_lock : (b : Bool) → q.locked ≡ b → Keeps n q [] (cond b (no_change q) (resolve_unlocked n q v (promise_in v)))
    by_lock true h = keeps-nothing n q sound
    by_lock false h = by_promise (promise_in v) h

keeps-reject : (n : ℕ) (q : PromiseRecord) (v : Value) → IsSound q → Keeps n q [] (reject n q v)
keeps-reject n q v sound = by_lock q.locked refl
  where
    by_lock : (b : Bool) → q.locked ≡ b → Keeps n q [] (cond b (no_change q) (settle n q (Failed v)))
    by_lock true h = keeps-nothing n q sound
    by_lock false h = keeps-settle n q (Failed v) (pending_unlocked q sound h)

keeps-follow : (n : ℕ) (q : PromiseRecord) (how : Settled) → IsSound q → Keeps n q [] (follow n q how)
keeps-follow n q how sound = by_outcome q.outcome refl
  where
    by_outcome : (o : Option Settled) → q.outcome ≡ o → Keeps n q [] (elim o [ None ↦ settle n q how | Some before ↦ no_change q ])
    by_outcome None h = keeps-settle n q how h
    by_outcome (Some before) h = keeps-nothing n q sound

keeps-subscribe : (n : ℕ) (q : PromiseRecord) (r : Reaction) → IsSound q → Keeps n q (r ∷ []) (subscribe n q r)
keeps-subscribe n q r sound = by_outcome q.outcome refl
  where
    pending : q.outcome ≡ None → is_some q.outcome ≡ true → ⊥
    pending h k = false_true (sym (ap is_some h) ∙ k)

    by_outcome : (o : Option Settled) → q.outcome ≡ o → Keeps n q (r ∷ []) (subscribe_by n q r o)
    by_outcome None h =
        record { sound = record { locked = sound.locked; none_waits = λ k. absurd (pending h k) }; settles = omega arith; reacts = refl; pending = λ k. (k, refl) }
    by_outcome (Some how) h =
        record {
          sound = record { locked = sound.locked; none_waits = sound.none_waits };
          settles = omega arith;
          reacts = ap (λ b. cond b (r ∷ []) [] ++ q.reactions) (eqb_same n) ∙ (ap (λ xs. r ∷ xs) (sound.none_waits (ap is_some h)) ∙ sym (ap (λ xs. xs ++ r ∷ []) (sound.none_waits (ap is_some h))));
          pending = λ k. absurd (false_true (sym k ∙ ap is_some h));
        }

keeps-step : (a : Act) (n : ℕ) (q : PromiseRecord) → IsSound q → Keeps n q (given a) (step a n q)
keeps-step (Resolve v) n q sound = keeps-resolve n q v sound
keeps-step (Reject v) n q sound = keeps-reject n q v sound
keeps-step (Follow how) n q sound = keeps-follow n q how sound
keeps-step (Subscribe r) n q sound = keeps-subscribe n q r sound

-- the jobs of a step of another promise are none of promise n
others-settle : (n m : ℕ) (q : PromiseRecord) (how : Settled) → (m == n) ≡ false → reactions_of n (settle m q how).jobs ≡ []
others-settle n m q how h = reactions_of-other n m q.reactions h

others-step : (a : Act) (n m : ℕ) (q : PromiseRecord) → (m == n) ≡ false → reactions_of n (step a m q).jobs ≡ []
others-step (Resolve v) n m q h = by_lock q.locked
  where
    other_than : (other : ℕ) (b : Bool) → reactions_of n (cond b (settle m q (Failed (a_fault TypeError))) (adopt m q other)).jobs ≡ []
    other_than other true = others-settle n m q (Failed (a_fault TypeError)) h
    other_than other false = refl

    by_promise : (o : Option ℕ) → reactions_of n (resolve_unlocked m q v o).jobs ≡ []
    by_promise None = others-settle n m q (Fulfilled v) h
    by_promise (Some other) = other_than other (other == m)

    by_lock : (b : Bool) → reactions_of n (cond b (no_change q) (resolve_unlocked m q v (promise_in v))).jobs ≡ []
    by_lock true = refl
    by_lock false = by_promise (promise_in v)
others-step (Reject v) n m q h = by_lock q.locked
  where
    by_lock : (b : Bool) → reactions_of n (cond b (no_change q) (settle m q (Failed v))).jobs ≡ []
    by_lock true = refl
    by_lock false = others-settle n m q (Failed v) h
others-step (Follow how) n m q h = by_outcome q.outcome
  where
    by_outcome : (o : Option Settled) → reactions_of n (elim o as (λ x. Change) [ None ↦ settle m q how | Some before ↦ no_change q ]).jobs ≡ []
    by_outcome None = others-settle n m q how h
    by_outcome (Some before) = refl
others-step (Subscribe r) n m q h = by_outcome q.outcome
  where
    by_outcome : (o : Option Settled) → reactions_of n (subscribe_by m q r o).jobs ≡ []
    by_outcome None = refl
    by_outcome (Some how) = ap (λ b. cond b (r ∷ []) []) h

-- what one call keeps of promise n
pub record CallKeeps (n : ℕ) (c : Call) (s : Held) : Type 0 where
  pub sound : IsSound (the_promise (after c s).promises n)
  pub settles : settled_by n c s + left (the_promise (after c s).promises n) ≡ left (the_promise s.promises n)
  pub reacts : (more : List Reaction) → reacted_by n c s ++ ((the_promise (after c s).promises n).reactions ++ more) ≡ (the_promise s.promises n).reactions ++ (subscribed n (c ∷ []) ++ more)
  pub pending : is_some (the_promise (after c s).promises n).outcome ≡ false → (is_some (the_promise s.promises n).outcome ≡ false) × (reacted_by n c s ≡ [])

-- a call that does not name the promise
same-keeps : (n : ℕ) (c : Call) (s : Held) → the_promise (after c s).promises n ≡ the_promise s.promises n → settled_by n c s ≡ 0 → reacted_by n c s ≡ [] → subscribed n (c ∷ []) ≡ []
    → IsSound (the_promise s.promises n) → CallKeeps n c s
same-keeps n c s e none no_jobs not_given sound =
    record {
      sound = subst IsSound (sym e) sound;
      settles = omega (arith, none, ap left e);
      reacts = λ more. ap (λ xs. xs ++ ((the_promise (after c s).promises n).reactions ++ more)) no_jobs
          ∙ (ap (λ q. q.reactions ++ more) e ∙ sym (ap (λ xs. (the_promise s.promises n).reactions ++ (xs ++ more)) not_given));
      pending = λ h. (sym (ap (λ q. is_some q.outcome) e) ∙ h, no_jobs);
    }

before-promises : (a : Act) (n : ℕ) (s : Held) → (before_step a n s).promises ≡ s.promises
before-promises (Resolve v) n s = refl
before-promises (Reject v) n s = refl
before-promises (Follow how) n s = refl
before-promises (Subscribe r) n s = refl

after-own : (a : Act) (n : ℕ) (s : Held) → IsMade s n → the_promise (after (Of n a) s).promises n ≡ (step a n (the_promise s.promises n)).promise
after-own a n s is =
    ap (λ ps. numbered (with_numbered ps n (step a n (the_promise s.promises n)).promise) n pending_promise) (before-promises a n s)
    ∙ numbered-with s.promises n (step a n (the_promise s.promises n)).promise pending_promise is.counted is.within

after-other : (a : Act) (m n : ℕ) (s : Held) → IsMade s m → 0 < n → m ≢ n → the_promise (after (Of m a) s).promises n ≡ the_promise s.promises n
after-other a m n s is h ne =
    ap (λ ps. numbered (with_numbered ps m (step a m (the_promise s.promises m)).promise) n pending_promise) (before-promises a m s)
    ∙ numbered-with_other s.promises m n (step a m (the_promise s.promises m)).promise pending_promise (λ e. ne (sym e))

-- a call that names it
own-keeps : (a : Act) (n : ℕ) (s : Held) → IsMade s n → IsSound (the_promise s.promises n) → CallKeeps n (Of n a) s
own-keeps a n s is sound =
    let q = the_promise s.promises n in
    let keeps = keeps-step a n q sound in
    let e : the_promise (after (Of n a) s).promises n ≡ (step a n q).promise = after-own a n s is in
    let once : settled_by n (Of n a) s ≡ cond (step a n q).settled 1 0 = ap (λ b. cond b (cond (step a n q).settled 1 0) 0) (eqb_same n) in
    let gets : subscribed n (Of n a ∷ []) ≡ given a = append-nil (cond (n == n) (given a) []) ∙ ap (λ b. cond b (given a) []) (eqb_same n) in
    record {
      sound = subst IsSound (sym e) keeps.sound;
      settles = ap (λ t. t + left (the_promise (after (Of n a) s).promises n)) once ∙ (ap (λ r. cond (step a n q).settled 1 0 + left r) e ∙ keeps.settles);
      reacts = λ more. ap (λ r. reactions_of n (step a n q).jobs ++ (r.reactions ++ more)) e
          ∙ (sym (append_assoc (reactions_of n (step a n q).jobs) (step a n q).promise.reactions more)
          ∙ (ap (λ xs. xs ++ more) keeps.reacts ∙ (append_assoc q.reactions (given a) more ∙ sym (ap (λ xs. q.reactions ++ (xs ++ more)) gets))));
      pending = λ h. keeps.pending (sym (ap (λ r. is_some r.outcome) e) ∙ h);
    }

call-keeps : (n : ℕ) → 0 < n → (c : Call) (s : Held) → IsOfMade c s → IsSound (the_promise s.promises n) → CallKeeps n c s
call-keeps n h Make s is sound = same-keeps n Make s (numbered-made s.promises n) refl refl refl sound
call-keeps n h TakeRejected s is sound = same-keeps n TakeRejected s refl refl refl refl sound
call-keeps n h (Of m a) s is sound =
    elim (eqb_tells m n) [
      | inl e ↦ subst (λ k. CallKeeps n (Of k a) s) (sym e.1) (own-keeps a n s (subst (IsMade s) e.1 is) sound)
      | inr e ↦ same-keeps n (Of m a) s (after-other a m n s is h e.1) (ap (λ b. cond b (cond (step a m (the_promise s.promises m)).settled 1 0) 0) e.0)
          (others-step a n m (the_promise s.promises m) e.0) (ap (λ b. cond b (given a) [] ++ []) e.0) sound
    ]

-- ---- Of all calls

all-sound : (n : ℕ) → 0 < n → (cs : List Call) (s : Held) → AreOfMade cs s → IsSound (the_promise s.promises n) → IsSound (the_promise (after_all cs s).promises n)
all-sound n h [] s are sound = sound
all-sound n h (c ∷ cs) s are sound = all-sound n h cs (after c s) are.1 (call-keeps n h c s are.0 sound).sound

all-settles : (n : ℕ) → 0 < n → (cs : List Call) (s : Held) → AreOfMade cs s → IsSound (the_promise s.promises n) → times_settled n cs s + left (the_promise (after_all cs s).promises n) ≡ left (the_promise s.promises n)
all-settles n h [] s are sound = omega arith
all-settles n h (c ∷ cs) s are sound =
    let keeps = call-keeps n h c s are.0 sound in
    omega (arith, keeps.settles, all-settles n h cs (after c s) are.1 keeps.sound)

subscribed-first : (n : ℕ) (c : Call) (cs : List Call) → subscribed n (c ∷ []) ++ subscribed n cs ≡ subscribed n (c ∷ cs)
subscribed-first n Make cs = refl
subscribed-first n TakeRejected cs = refl
subscribed-first n (Of m a) cs = ap (λ xs. xs ++ subscribed n cs) (append-nil (cond (m == n) (given a) []))

all-reacts : (n : ℕ) → 0 < n → (cs : List Call) (s : Held) → AreOfMade cs s → IsSound (the_promise s.promises n)
    → reacted n cs s ++ (the_promise (after_all cs s).promises n).reactions ≡ (the_promise s.promises n).reactions ++ subscribed n cs
all-reacts n h [] s are sound = sym (append-nil (the_promise s.promises n).reactions)
all-reacts n h (c ∷ cs) s are sound =
    let keeps = call-keeps n h c s are.0 sound in
    append_assoc (reacted_by n c s) (reacted n cs (after c s)) (the_promise (after_all cs (after c s)).promises n).reactions
    ∙ (ap (λ xs. reacted_by n c s ++ xs) (all-reacts n h cs (after c s) are.1 keeps.sound)
    ∙ (keeps.reacts (subscribed n cs) ∙ ap (λ xs. (the_promise s.promises n).reactions ++ xs) (subscribed-first n c cs)))

all-pending : (n : ℕ) → 0 < n → (cs : List Call) (s : Held) → AreOfMade cs s → IsSound (the_promise s.promises n) → is_some (the_promise (after_all cs s).promises n).outcome ≡ false
    → (is_some (the_promise s.promises n).outcome ≡ false) × (reacted n cs s ≡ [])
all-pending n h [] s are sound p = (p, refl)
all-pending n h (c ∷ cs) s are sound p =
    let keeps = call-keeps n h c s are.0 sound in
    let rest = all-pending n h cs (after c s) are.1 keeps.sound p in
    let first = keeps.pending rest.0 in
    (first.0, ap (λ xs. xs ++ reacted n cs (after c s)) first.1 ∙ rest.1)

-- no promise is there at first
at-first : (n : ℕ) → the_promise nothing_held.promises n ≡ pending_promise
at-first zero = refl
at-first (suc n) = refl

sound-at-first : (n : ℕ) → IsSound (the_promise nothing_held.promises n)
sound-at-first n = subst IsSound (sym (at-first n)) (record { locked = λ h. absurd (false_true h); none_waits = λ h. refl })

one_or_none : (t : ℕ) (b : Bool) → t + cond b 0 1 ≡ 1 → t ≡ cond b 1 0
one_or_none t true h = omega (arith, h)
one_or_none t false h = omega (arith, h)

-- a promise settles once, or not
pub settles-once : (cs : List Call) (n : ℕ) → AreOfMade cs nothing_held → 0 < n → times_settled n cs nothing_held ≡ cond (is_some (the_promise (after_all cs nothing_held).promises n).outcome) 1 0
settles-once cs n are h = one_or_none (times_settled n cs nothing_held) (is_some (the_promise (after_all cs nothing_held).promises n).outcome) (all-settles n h cs nothing_held are (sound-at-first n) ∙ ap left (at-first n))

-- one job for each reaction of a settled promise
pub reacts-once : (cs : List Call) (n : ℕ) → AreOfMade cs nothing_held → 0 < n → is_some (the_promise (after_all cs nothing_held).promises n).outcome ≡ true → reacted n cs nothing_held ≡ subscribed n cs
reacts-once cs n are h settled =
    let sound = all-sound n h cs nothing_held are (sound-at-first n) in
    sym (append-nil (reacted n cs nothing_held)) ∙ (ap (λ xs. reacted n cs nothing_held ++ xs) (sym (sound.none_waits settled)) ∙ (all-reacts n h cs nothing_held are (sound-at-first n) ∙ ap (λ q. q.reactions ++ subscribed n cs) (at-first n)))

-- no job yet for a pending one
pub reacts-not_yet : (cs : List Call) (n : ℕ) → AreOfMade cs nothing_held → 0 < n → is_some (the_promise (after_all cs nothing_held).promises n).outcome ≡ false → reacted n cs nothing_held ≡ []
reacts-not_yet cs n are h pending = (all-pending n h cs nothing_held are (sound-at-first n) pending).1
