-- What the timers that wait tell: each has its registration's own id, which no other timer has, and is live in the map of ids, or its registration was dropped, or was a timeout and called.
use Rattle.std.proofs.Common.{◌≡◌, ◌⊎◌, inl, inr, ℕ, zero, suc, ◌≤◌, Bool, true, false, List, [], ◌∷◌, Option, Some, None, refl, sym, subst, ap, ◌∙◌, cond, length, arith, eqb-true, unwrap_or}
use Rattle.std.specs.Prelude.{◌==◌, find, option_map}
use Rattle.std.proofs.lemmas.Bool.{eq-eqb}
use Rattle.page_types.specs.declared.RegKind.TheVariants as kind
use Rattle.page_types.specs.Events.{Stamped}
use Rattle.page_parts.specs.Timers.{TimerId, Timers, with_id}
use Rattle.page_parts.specs.Words.{and_last, without}
use Rattle.page_model.specs.State.{OfKind, Registration, Task, TimerTask, Steps, RunTimer, Completion, Completing, QueueTimer}
use Rattle.page_model.specs.Numbers.{is_timer_role}
use Rattle.page_model.specs.PageTime.{completion_of, registration_with_id}
use Rattle.page_laws.specs.History.{History, is_call_of, is_drop_of, was_called, was_dropped}
use Rattle.page_laws.specs.Moves.{role_at, id_at, IsIn, HasSteps, is_free}
use Rattle.page_laws.proofs.Framed.{false_true}
use Rattle.page_laws.proofs.Over.{on_right, older-role, newest-role}
use Rattle.page_laws.proofs.Ready.{in-fewer, in-last}
use Rattle.page_laws.proofs.Registered.{at_number}

-- ---- the map of ids

-- whether an entry was found that has this handle
abbrev entry_has : ℕ → Option TimerId → Bool
entry_has h None = false
entry_has h (Some e) = e.handle == h

abbrev pub lives : ℕ → ℕ → List TimerId → Bool
lives id h ids = entry_has h (find (λ e. e.id == id) ids)

-- what another id leaves
pub lives-without : (id h other : ℕ) (ids : List TimerId) → (other ≡ id → ⊥) → lives id h (without (λ e. e.id == other) ids) ≡ lives id h ids
lives-without id h other [] apart = refl
lives-without id h other (d ∷ ids) apart = by_tests (d.id == other) refl (d.id == id) refl (lives-without id h other ids apart)
  where
    by_tests : (b : Bool) → (d.id == other) ≡ b → (c : Bool) → (d.id == id) ≡ c → lives id h (without (λ e. e.id == other) ids) ≡ lives id h ids
        → lives id h (cond b (without (λ e. e.id == other) ids) (d ∷ without (λ e. e.id == other) ids)) ≡ entry_has h (cond c (Some d) (find (λ e. e.id == id) ids))
    by_tests true q true z rest = absurd (apart (sym (eqb-true d.id other q) ∙ eqb-true d.id id z))
    by_tests true q false z rest = rest
    by_tests false q c z rest = ap {A = Bool} {B = Bool} (λ x. entry_has h (cond x (Some d) (find (λ e. e.id == id) (without (λ e. e.id == other) ids)))) z ∙ by_own c rest
      where
        by_own : (c : Bool) → lives id h (without (λ e. e.id == other) ids) ≡ lives id h ids
            → entry_has h (cond c (Some d) (find (λ e. e.id == id) (without (λ e. e.id == other) ids))) ≡ entry_has h (cond c (Some d) (find (λ e. e.id == id) ids))
        by_own true rest = refl
        by_own false rest = rest

lives-last : (id h : ℕ) (ids : List TimerId) (e : TimerId) → (e.id ≡ id → ⊥) → lives id h (and_last ids e) ≡ lives id h ids
lives-last id h [] e apart = by_test (e.id == id) refl
  where
    by_test : (b : Bool) → (e.id == id) ≡ b → entry_has h (cond b (Some e) None) ≡ false
    by_test true q = absurd (apart (eqb-true e.id id q))
    by_test false q = refl
lives-last id h (d ∷ ids) e apart = by_test (d.id == id) (lives-last id h ids e apart)
  where
    by_test : (b : Bool) → lives id h (and_last ids e) ≡ lives id h ids
        → entry_has h (cond b (Some d) (find (λ e. e.id == id) (and_last ids e))) ≡ entry_has h (cond b (Some d) (find (λ e. e.id == id) ids))
    by_test true rest = refl
    by_test false rest = rest

-- an id that is set with a handle has it, and other ids are as before
lives-set : (id h : ℕ) (ids : List TimerId) → lives id h (with_id id h ids) ≡ true
lives-set id h [] = by_test (id == id) (eq-eqb id id refl)
  where
    by_test : (b : Bool) → b ≡ true → entry_has h (cond b (Some (record { id = id; handle = h })) None) ≡ true
    by_test true q = eq-eqb h h refl
    by_test false q = q
lives-set id h (d ∷ ids) = by_test (d.id == id) refl (lives-set id h ids)
  where
    by_test : (b : Bool) → (d.id == id) ≡ b → lives id h (with_id id h ids) ≡ true → lives id h (and_last (cond b (without (λ e. e.id == id) ids) (d ∷ without (λ e. e.id == id) ids)) (record { id = id; handle = h })) ≡ true
    by_test true q rest = rest
    by_test false q rest = ap {A = Bool} {B = Bool} (λ x. entry_has h (cond x (Some d) (find (λ e. e.id == id) (and_last (without (λ e. e.id == id) ids) (record { id = id; handle = h }))))) q ∙ rest

pub lives-others : (id h other n : ℕ) (ids : List TimerId) → (other ≡ id → ⊥) → lives id h (with_id other n ids) ≡ lives id h ids
lives-others id h other n ids apart = lives-last id h (without (λ e. e.id == other) ids) (record { id = other; handle = n }) apart ∙ lives-without id h other ids apart

-- ---- where a timer's task waits

-- in the completion steps of an active timer, or in a queue
pub data Stands (t : TimerTask) (cs : List Completing) (ts : List Task) : Type 0 where
  to_come : (c : Completing) → IsIn c cs → c.completion ≡ QueueTimer t → Stands t cs ts
  queued : HasSteps (RunTimer t) ts → Stands t cs ts

-- it was dropped, or was a timeout and called
abbrev pub IsOver : List Registration → History → ℕ → Type 0
IsOver xs past r = (was_dropped past r ≡ true) ⊎ (role_at xs r ≡ OfKind kind.Timeout × was_called past r ≡ true)

pub record TimersFit (xs : List Registration) (v : Timers) (cs : List Completing) (ts : List Task) (past : History) : Type 0 where
  -- starts of completion steps
  pub most : (c : Completing) → IsIn c cs → c.start ≤ v.starts_made
  pub apart : (c d : Completing) → IsIn c cs → IsIn d cs → c.start ≡ d.start → c ≡ d
  -- ids of registrations
  pub ids : (r q : ℕ) → is_timer_role (role_at xs r) ≡ true → is_timer_role (role_at xs q) ≡ true → id_at xs r ≡ id_at xs q → r ≡ q
  -- timers that wait
  pub timed : (t : TimerTask) → Stands t cs ts → is_timer_role (role_at xs t.registration) ≡ true × id_at xs t.registration ≡ t.id
  pub live : (t : TimerTask) → Stands t cs ts → IsOver xs past t.registration ⊎ lives t.id t.handle v.ids ≡ true

-- what has a role is a registration
pub given-role : (xs : List Registration) (r : ℕ) → is_timer_role (role_at xs r) ≡ true → 1 ≤ r × r ≤ length xs
given-role xs zero h = absurd (none xs h)
  where
    none : (xs : List Registration) → is_timer_role (role_at xs 0) ≡ true → ⊥
    none [] h = false_true h
    none (x ∷ xs) h = false_true h
given-role xs (suc i) h = (omega arith, let a = within xs i h in omega (arith, a))
  where
    within : (xs : List Registration) (i : ℕ) → is_timer_role (role_at xs (suc i)) ≡ true → suc i ≤ length xs
    within [] i h = absurd (false_true h)
    within (x ∷ xs) zero h = omega arith
    within (x ∷ xs) (suc i) h = let a = within xs i h in omega (arith, a)

pub over-line : (e : Stamped) (xs : List Registration) (past : History) (r : ℕ) → IsOver xs past r → IsOver xs (e ∷ past) r
over-line e xs past r (inl d) = inl (on_right (is_drop_of r e.event) (was_dropped past r) d)
over-line e xs past r (inr c) = inr (c.0, on_right (is_call_of r e.event) (was_called past r) c.1)

pub line-fits : (e : Stamped) (xs : List Registration) (v : Timers) (cs : List Completing) (ts : List Task) (past : History) → TimersFit xs v cs ts past → TimersFit xs v cs ts (e ∷ past)
line-fits e xs v cs ts past f = record { most = f.most; apart = f.apart; ids = f.ids; timed = f.timed; live = λ t s. by_live t (f.live t s) }
  where
    by_live : (t : TimerTask) → IsOver xs past t.registration ⊎ lives t.id t.handle v.ids ≡ true → IsOver xs (e ∷ past) t.registration ⊎ lives t.id t.handle v.ids ≡ true
    by_live t (inl o) = inl (over-line e xs past t.registration o)
    by_live t (inr l) = inr l

-- no other timers, with the same map of ids
pub fewer-fits : (xs : List Registration) (v w : Timers) (cs ds : List Completing) (ts us : List Task) (past : History) → v.starts_made ≤ w.starts_made → w.ids ≡ v.ids
    → ((c : Completing) → IsIn c ds → IsIn c cs) → ((t : TimerTask) → Stands t ds us → Stands t cs ts) → TimersFit xs v cs ts past → TimersFit xs w ds us past
fewer-fits xs v w cs ds ts us past le same within stands f =
    record {
      most = λ c i. let a = f.most c (within c i) in omega (arith, a, le);
      apart = λ c d i j e. f.apart c d (within c i) (within d j) e;
      ids = f.ids;
      timed = λ t s. f.timed t (stands t s);
      live = λ t s. subst (λ (is : List TimerId). IsOver xs past t.registration ⊎ lives t.id t.handle is ≡ true) (sym same) (f.live t (stands t s));
    }

-- ---- tasks

pub steps-more : (steps : Steps) (t : Task) (ts : List Task) → (t.steps ≡ steps → ⊥) → HasSteps steps (and_last ts t) → HasSteps steps ts
steps-more steps t [] apart (inl e) = apart e
steps-more steps t [] apart (inr h) = h
steps-more steps t (u ∷ ts) apart (inl e) = inl e
steps-more steps t (u ∷ ts) apart (inr h) = inr (steps-more steps t ts apart h)

pub steps-last : (steps : Steps) (t : Task) (ts : List Task) → HasSteps steps (and_last ts t) → HasSteps steps ts ⊎ (t.steps ≡ steps)
steps-last steps t [] (inl e) = inr e
steps-last steps t [] (inr h) = inl h
steps-last steps t (u ∷ ts) (inl e) = inl (inl e)
steps-last steps t (u ∷ ts) (inr h) = by_rest (steps-last steps t ts h)
  where
    by_rest : HasSteps steps ts ⊎ (t.steps ≡ steps) → HasSteps steps (u ∷ ts) ⊎ (t.steps ≡ steps)
    by_rest (inl k) = inl (inr k)
    by_rest (inr e) = inr e

steps-fewer : (steps : Steps) (gone : Task → Bool) (ts : List Task) → HasSteps steps (without gone ts) → HasSteps steps ts
steps-fewer steps gone [] h = h
steps-fewer steps gone (t ∷ ts) h = by_test (gone t) h (steps-fewer steps gone ts)
  where
    by_test : (b : Bool) → HasSteps steps (cond b (without gone ts) (t ∷ without gone ts)) → (HasSteps steps (without gone ts) → HasSteps steps ts) → HasSteps steps (t ∷ ts)
    by_test true h rest = inr (rest h)
    by_test false (inl e) rest = inl e
    by_test false (inr k) rest = inr (rest k)

free_apart : (t : TimerTask) (steps : Steps) → is_free steps ≡ true → steps ≡ RunTimer t → ⊥
free_apart t steps h e = false_true (ap is_free (sym e) ∙ h)

pub task-stands : (n : Task) (t : TimerTask) (cs : List Completing) (ts : List Task) → is_free n.steps ≡ true → Stands t cs (and_last ts n) → Stands t cs ts
task-stands n t cs ts h (to_come c i e) = to_come c i e
task-stands n t cs ts h (queued s) = queued (steps-more (RunTimer t) n ts (free_apart t n.steps h) s)

pub left-stands : (gone : Task → Bool) (t : TimerTask) (cs : List Completing) (ts : List Task) → Stands t cs (without gone ts) → Stands t cs ts
left-stands gone t cs ts (to_come c i e) = to_come c i e
left-stands gone t cs ts (queued s) = queued (steps-fewer (RunTimer t) gone ts s)

pub gone-stands : (gone : Completing → Bool) (t : TimerTask) (cs : List Completing) (ts : List Task) → Stands t (without gone cs) ts → Stands t cs ts
gone-stands gone t cs ts (to_come c i e) = to_come c (in-fewer c gone cs i) e
gone-stands gone t cs ts (queued s) = queued s

-- completion steps that are found
pub record Found (start : ℕ) (k : Completion) (cs : List Completing) : Type 0 where
  pub steps : Completing
  pub there : IsIn steps cs
  pub own : steps.start ≡ start
  pub what : steps.completion ≡ k

pub found-steps : (start : ℕ) (k : Completion) (cs : List Completing) → completion_of cs start ≡ Some k → Found start k cs
found-steps start k [] e = Prim.cc
found-steps start k (c ∷ cs) e = by_test (c.start == start) refl e (found-steps start k cs)
  where
    by_test : (b : Bool) → (c.start == start) ≡ b → option_map (λ (d : Completing). d.completion) (cond b (Some c) (find (λ d. d.start == start) cs)) ≡ Some k → (completion_of cs start ≡ Some k → Found start k cs) → Found start k (c ∷ cs)
    by_test true q e rest = record { steps = c; there = inl refl; own = eqb-true c.start start q; what = ap {A = Option Completion} {B = Completion} (λ o. unwrap_or o c.completion) e }
    by_test false q e rest = let f = rest e in record { steps = f.steps; there = inr f.there; own = f.own; what = f.what }

-- ---- completion steps more

-- those of something else than a timer
pub other-fits : (xs : List Registration) (v w : Timers) (cs : List Completing) (ts : List Task) (past : History) (k : Completion) → ((t : TimerTask) → k ≡ QueueTimer t → ⊥) → w.starts_made ≡ suc v.starts_made → w.ids ≡ v.ids
    → TimersFit xs v cs ts past → TimersFit xs w (and_last cs (record { start = suc v.starts_made; completion = k })) ts past
other-fits xs v w cs ts past k other more same f =
    record {
      most = λ c i. by_most c (in-last c _ cs i);
      apart = λ c d i j e. by_both c d (in-last c _ cs i) (in-last d _ cs j) e;
      ids = f.ids;
      timed = λ t s. f.timed t (stands t s);
      live = λ t s. subst (λ (is : List TimerId). IsOver xs past t.registration ⊎ lives t.id t.handle is ≡ true) (sym same) (f.live t (stands t s));
    }
  where
    new : Completing
    new = record { start = suc v.starts_made; completion = k }

    by_most : (c : Completing) → IsIn c cs ⊎ (c ≡ record { start = suc v.starts_made; completion = k }) → c.start ≤ w.starts_made
    by_most c (inl i) = let a = f.most c i in omega (arith, a, more)
    by_most c (inr z) = let a = ap {A = Completing} {B = ℕ} (λ d. d.start) z in omega (arith, a, more)

    by_both : (c d : Completing) → IsIn c cs ⊎ (c ≡ record { start = suc v.starts_made; completion = k }) → IsIn d cs ⊎ (d ≡ record { start = suc v.starts_made; completion = k }) → c.start ≡ d.start → c ≡ d
    by_both c d (inl i) (inl j) e = f.apart c d i j e
    by_both c d (inl i) (inr z) e = let a = f.most c i in let b = ap {A = Completing} {B = ℕ} (λ d. d.start) z in absurd (omega (arith, a, b, e))
    by_both c d (inr z) (inl j) e = let a = f.most d j in let b = ap {A = Completing} {B = ℕ} (λ d. d.start) z in absurd (omega (arith, a, b, e))
    by_both c d (inr z) (inr y) e = z ∙ sym y

    by_place : (t : TimerTask) (c : Completing) → c.completion ≡ QueueTimer t → IsIn c cs ⊎ (c ≡ record { start = suc v.starts_made; completion = k }) → Stands t cs ts
    by_place t c e (inl i) = to_come c i e
    by_place t c e (inr z) = absurd (other t (sym (ap {A = Completing} {B = Completion} (λ d. d.completion) z) ∙ e))

    stands : (t : TimerTask) → Stands t (and_last cs (record { start = suc v.starts_made; completion = k })) ts → Stands t cs ts
    stands t (to_come c i e) = by_place t c e (in-last c _ cs i)
    stands t (queued s) = queued s

-- those of a timer, whose id has its handle then; no other timer that waits has the id
pub timer-fits : (xs : List Registration) (v w : Timers) (cs : List Completing) (ts : List Task) (past : History) (n : TimerTask) (start : ℕ) → start ≡ suc v.starts_made → w.starts_made ≡ start → w.ids ≡ with_id n.id n.handle v.ids
    → is_timer_role (role_at xs n.registration) ≡ true × id_at xs n.registration ≡ n.id → ((t : TimerTask) → Stands t cs ts → n.id ≡ t.id → ⊥)
    → TimersFit xs v cs ts past → TimersFit xs w (and_last cs (record { start = start; completion = QueueTimer n })) ts past
timer-fits xs v w cs ts past n start e0 more same own alone f =
    record {
      most = λ c i. by_most c (in-last c _ cs i);
      apart = λ c d i j e. by_both c d (in-last c _ cs i) (in-last d _ cs j) e;
      ids = f.ids;
      timed = λ t s. by_timed t (stands t s);
      live = λ t s. by_live t (stands t s);
    }
  where
    timers : Completion → TimerTask
    timers (QueueTimer t) = t
    timers k = n

    by_most : (c : Completing) → IsIn c cs ⊎ (c ≡ record { start = start; completion = QueueTimer n }) → c.start ≤ w.starts_made
    by_most c (inl i) = let a = f.most c i in omega (arith, a, more, e0)
    by_most c (inr z) = let a = ap {A = Completing} {B = ℕ} (λ d. d.start) z in omega (arith, a, more)

    by_both : (c d : Completing) → IsIn c cs ⊎ (c ≡ record { start = start; completion = QueueTimer n }) → IsIn d cs ⊎ (d ≡ record { start = start; completion = QueueTimer n }) → c.start ≡ d.start → c ≡ d
    by_both c d (inl i) (inl j) e = f.apart c d i j e
    by_both c d (inl i) (inr z) e = let a = f.most c i in let b = ap {A = Completing} {B = ℕ} (λ d. d.start) z in absurd (omega (arith, a, b, e, e0))
    by_both c d (inr z) (inl j) e = let a = f.most d j in let b = ap {A = Completing} {B = ℕ} (λ d. d.start) z in absurd (omega (arith, a, b, e, e0))
    by_both c d (inr z) (inr y) e = z ∙ sym y

    by_place : (t : TimerTask) (c : Completing) → c.completion ≡ QueueTimer t → IsIn c cs ⊎ (c ≡ record { start = start; completion = QueueTimer n }) → Stands t cs ts ⊎ (t ≡ n)
    by_place t c e (inl i) = inl (to_come c i e)
    by_place t c e (inr z) = inr (ap timers (sym e ∙ ap {A = Completing} {B = Completion} (λ d. d.completion) z))

    stands : (t : TimerTask) → Stands t (and_last cs (record { start = start; completion = QueueTimer n })) ts → Stands t cs ts ⊎ (t ≡ n)
    stands t (to_come c i e) = by_place t c e (in-last c _ cs i)
    stands t (queued s) = inl (queued s)

    by_timed : (t : TimerTask) → Stands t cs ts ⊎ (t ≡ n) → is_timer_role (role_at xs t.registration) ≡ true × id_at xs t.registration ≡ t.id
    by_timed t (inl s) = f.timed t s
    by_timed t (inr z) = subst (λ (u : TimerTask). is_timer_role (role_at xs u.registration) ≡ true × id_at xs u.registration ≡ u.id) (sym z) own

    of_old : (t : TimerTask) → Stands t cs ts → IsOver xs past t.registration ⊎ lives t.id t.handle v.ids ≡ true → IsOver xs past t.registration ⊎ lives t.id t.handle (with_id n.id n.handle v.ids) ≡ true
    of_old t s (inl o) = inl o
    of_old t s (inr l) = inr (lives-others t.id t.handle n.id n.handle v.ids (alone t s) ∙ l)

    by_live : (t : TimerTask) → Stands t cs ts ⊎ (t ≡ n) → IsOver xs past t.registration ⊎ lives t.id t.handle w.ids ≡ true
    by_live t (inl s) = subst (λ (is : List TimerId). IsOver xs past t.registration ⊎ lives t.id t.handle is ≡ true) (sym same) (of_old t s (f.live t s))
    by_live t (inr z) =
        inr (ap (lives t.id t.handle) same ∙ subst (λ (u : TimerTask). lives u.id u.handle (with_id n.id n.handle v.ids) ≡ true) (sym z) (lives-set n.id n.handle v.ids))

-- ---- an id leaves the map: each timer that has it is over

pub cleared-fits : (xs : List Registration) (v w : Timers) (cs : List Completing) (ts : List Task) (past : History) (id : ℕ) → w.starts_made ≡ v.starts_made → w.ids ≡ without (λ e. e.id == id) v.ids
    → ((t : TimerTask) → Stands t cs ts → id ≡ t.id → IsOver xs past t.registration) → TimersFit xs v cs ts past → TimersFit xs w cs ts past
cleared-fits xs v w cs ts past id more same over f =
    record { most = λ c i. let a = f.most c i in omega (arith, a, more); apart = f.apart; ids = f.ids; timed = f.timed; live = λ t s. by_id t s (id == t.id) refl (f.live t s) }
  where
    by_id : (t : TimerTask) → Stands t cs ts → (b : Bool) → (id == t.id) ≡ b → IsOver xs past t.registration ⊎ lives t.id t.handle v.ids ≡ true → IsOver xs past t.registration ⊎ lives t.id t.handle w.ids ≡ true
    by_id t s true q o = inl (over t s (eqb-true id t.id q))
    by_id t s false q (inl o) = inl o
    by_id t s false q (inr l) = inr (ap (lives t.id t.handle) same ∙ (lives-without t.id t.handle id v.ids (λ e. false_true (sym q ∙ eq-eqb id t.id e)) ∙ l))

-- the registration that is found by an id is there
pub found-id : (id q n : ℕ) (xs : List Registration) → 1 ≤ n → 1 ≤ q → q ≤ length xs → id_at xs q ≡ id → 1 ≤ registration_with_id id n xs
found-id id q n [] one at le e = absurd (omega (arith, at, le))
found-id id zero n (x ∷ xs) one at le e = absurd (omega (arith, at))
found-id id (suc zero) n (x ∷ xs) one at le e = by_test (x.timer_id == id) (eq-eqb x.timer_id id e)
  where
    by_test : (b : Bool) → b ≡ true → 1 ≤ cond b n (registration_with_id id (suc n) xs)
    by_test true q = one
    by_test false q = absurd (false_true q)
found-id id (suc (suc i)) n (x ∷ xs) one at le e = by_test (x.timer_id == id) (found-id id (suc i) (suc n) xs (omega arith) (omega arith) (omega (arith, le)) e)
  where
    by_test : (b : Bool) → 1 ≤ registration_with_id id (suc n) xs → 1 ≤ cond b n (registration_with_id id (suc n) xs)
    by_test true rest = one
    by_test false rest = rest

-- ---- registrations

pub older-id : (xs : List Registration) (x : Registration) (r : ℕ) → 1 ≤ r → (r ≡ suc (length xs) → ⊥) → id_at (and_last xs x) r ≡ id_at xs r
older-id xs x r one other = ap {A = Registration} {B = ℕ} (λ y. y.timer_id) (at_number xs x r one (λ e. absurd (other e)))

pub newest-id : (xs : List Registration) (x : Registration) (r : ℕ) → r ≡ suc (length xs) → id_at (and_last xs x) r ≡ x.timer_id
newest-id xs x r e = ap (id_at (and_last xs x)) e ∙ last xs
  where
    last : (xs : List Registration) → id_at (and_last xs x) (suc (length xs)) ≡ x.timer_id
    last [] = refl
    last (y ∷ ys) = last ys

-- a registration is made for no timer
pub grown-fits : (x : Registration) (xs : List Registration) (v : Timers) (cs : List Completing) (ts : List Task) (past : History) → is_timer_role x.role ≡ false → TimersFit xs v cs ts past → TimersFit (and_last xs x) v cs ts past
grown-fits x xs v cs ts past other f =
    record {
      most = f.most;
      apart = f.apart;
      ids = λ r q a b e. let c = old r a in let d = old q b in f.ids r q (sym (ap is_timer_role c.0) ∙ a) (sym (ap is_timer_role d.0) ∙ b) (sym c.1 ∙ (e ∙ d.1));
      timed = λ t s. by_timed t (f.timed t s);
      live = λ t s. by_live t (f.timed t s).0 (f.live t s);
    }
  where
    new : (r : ℕ) → r ≡ suc (length xs) → is_timer_role (role_at (and_last xs x) r) ≡ true → ⊥
    new r e h = false_true (sym other ∙ (ap is_timer_role (sym (newest-role xs x r e)) ∙ h))

    old : (r : ℕ) → is_timer_role (role_at (and_last xs x) r) ≡ true → role_at (and_last xs x) r ≡ role_at xs r × id_at (and_last xs x) r ≡ id_at xs r
    old r h = let g = given-role (and_last xs x) r h in (older-role xs x r g.0 (λ e. new r e h), older-id xs x r g.0 (λ e. new r e h))

    kept : (r : ℕ) → is_timer_role (role_at xs r) ≡ true → role_at (and_last xs x) r ≡ role_at xs r × id_at (and_last xs x) r ≡ id_at xs r
    kept r h = let g = given-role xs r h in let le = g.1 in (older-role xs x r g.0 (λ e. absurd (omega (arith, le, e))), older-id xs x r g.0 (λ e. absurd (omega (arith, le, e))))

    by_timed : (t : TimerTask) → is_timer_role (role_at xs t.registration) ≡ true × id_at xs t.registration ≡ t.id → is_timer_role (role_at (and_last xs x) t.registration) ≡ true × id_at (and_last xs x) t.registration ≡ t.id
    by_timed t h = let k = kept t.registration h.0 in (ap is_timer_role k.0 ∙ h.0, k.1 ∙ h.1)

    by_live : (t : TimerTask) → is_timer_role (role_at xs t.registration) ≡ true → IsOver xs past t.registration ⊎ lives t.id t.handle v.ids ≡ true → IsOver (and_last xs x) past t.registration ⊎ lives t.id t.handle v.ids ≡ true
    by_live t h (inl (inl d)) = inl (inl d)
    by_live t h (inl (inr c)) = inl (inr ((kept t.registration h).0 ∙ c.0, c.1))
    by_live t h (inr l) = inr l

-- one is made for a timer, with an id that no other has
pub timed-fits : (x : Registration) (xs : List Registration) (v : Timers) (cs : List Completing) (ts : List Task) (past : History) → ((q : ℕ) → id_at xs q ≡ x.timer_id → ⊥) → TimersFit xs v cs ts past → TimersFit (and_last xs x) v cs ts past
timed-fits x xs v cs ts past fresh f =
    record {
      most = f.most;
      apart = f.apart;
      ids = λ r q a b e. by_both r q a b (r == suc (length xs)) refl (q == suc (length xs)) refl e;
      timed = λ t s. by_timed t (f.timed t s);
      live = λ t s. by_live t (f.timed t s).0 (f.live t s);
    }
  where
    old : (r : ℕ) → is_timer_role (role_at (and_last xs x) r) ≡ true → (r == suc (length xs)) ≡ false → role_at (and_last xs x) r ≡ role_at xs r × id_at (and_last xs x) r ≡ id_at xs r
    old r h e =
        let g = given-role (and_last xs x) r h in (
          older-role xs x r g.0 (λ z. false_true (sym e ∙ eq-eqb r (suc (length xs)) z)),
          older-id xs x r g.0 (λ z. false_true (sym e ∙ eq-eqb r (suc (length xs)) z)),
        )

    by_both : (r q : ℕ) → is_timer_role (role_at (and_last xs x) r) ≡ true → is_timer_role (role_at (and_last xs x) q) ≡ true → (b : Bool) → (r == suc (length xs)) ≡ b → (c : Bool) → (q == suc (length xs)) ≡ c → id_at (and_last xs x) r ≡ id_at (and_last xs x) q → r ≡ q
    by_both r q a b true y true z e = eqb-true r (suc (length xs)) y ∙ sym (eqb-true q (suc (length xs)) z)
    by_both r q a b true y false z e = absurd (fresh q (sym (old q b z).1 ∙ (sym e ∙ newest-id xs x r (eqb-true r (suc (length xs)) y))))
    by_both r q a b false y true z e = absurd (fresh r (sym (old r a y).1 ∙ (e ∙ newest-id xs x q (eqb-true q (suc (length xs)) z))))
    by_both r q a b false y false z e = let c = old r a y in let d = old q b z in f.ids r q (sym (ap is_timer_role c.0) ∙ a) (sym (ap is_timer_role d.0) ∙ b) (sym c.1 ∙ (e ∙ d.1))

    kept : (r : ℕ) → is_timer_role (role_at xs r) ≡ true → role_at (and_last xs x) r ≡ role_at xs r × id_at (and_last xs x) r ≡ id_at xs r
    kept r h = let g = given-role xs r h in let le = g.1 in (older-role xs x r g.0 (λ e. absurd (omega (arith, le, e))), older-id xs x r g.0 (λ e. absurd (omega (arith, le, e))))

    by_timed : (t : TimerTask) → is_timer_role (role_at xs t.registration) ≡ true × id_at xs t.registration ≡ t.id → is_timer_role (role_at (and_last xs x) t.registration) ≡ true × id_at (and_last xs x) t.registration ≡ t.id
    by_timed t h = let k = kept t.registration h.0 in (ap is_timer_role k.0 ∙ h.0, k.1 ∙ h.1)

    by_live : (t : TimerTask) → is_timer_role (role_at xs t.registration) ≡ true → IsOver xs past t.registration ⊎ lives t.id t.handle v.ids ≡ true → IsOver (and_last xs x) past t.registration ⊎ lives t.id t.handle v.ids ≡ true
    by_live t h (inl (inl d)) = inl (inl d)
    by_live t h (inl (inr c)) = inl (inr ((kept t.registration h).0 ∙ c.0, c.1))
    by_live t h (inr l) = inr l
