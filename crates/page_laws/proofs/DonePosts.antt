-- Where a run ends for nothing is left to do, each posted task was called or dropped: it waits in an active timer and then among the scheduler's tasks, and neither is there then.
use Rattle.std.proofs.Common.{◌≡◌, ◌⊎◌, inl, inr, ℕ, zero, suc, ◌≤◌, Bool, true, false, List, Option, Some, None, refl, sym, subst, ap, ◌∙◌, arith, eqb-true}
use Rattle.std.specs.Prelude.{◌==◌}
use Rattle.page_types.specs.declared.RegKind.{RegKind}
use Rattle.page_types.specs.declared.RegKind.TheVariants as kind
use Rattle.page_types.specs.Tree.{Program}
use Rattle.page_parts.specs.HostClosures.{HostClosure}
use Rattle.page_parts.specs.Notices.{Notices}
use Rattle.page_parts.specs.Setup.{Setup}
use Rattle.page_parts.specs.TaskSignals.{Prios}
use Rattle.page_parts.specs.Words.{and_last, is_empty, without}
use Rattle.page_model.specs.PageTime.{completion_of}
use Rattle.page_model.specs.State.{Page, OfKind, Role, ScriptRole, Registration, SchedTask, PrioSource, TimerTask, Completion, Completing, QueueTimer, EnqueuePost, QueueSignal}
use Rattle.page_model.specs.Turns.{first_page, is_pending}
use Rattle.page_model.specs.View.{view}
use Rattle.page_laws.specs.History.{has_kind, is_some_and, kind_of, registered}
use Rattle.page_laws.specs.SchedulerLaws.{is_posted, posts_are_over}
use Rattle.page_laws.specs.TimerLaws.{was_done}
use Rattle.page_laws.specs.Moves.{Beginning, TheScript, ATimer, AFrame, AnIdle, ALateIdle, AListener, APost, AContinuation, AMicro, AReaction, DelayWaits, Dropping, timer_dropped, idle_dropped, listener_dropped, DueChange, timer_due, delay_due, signal_due, idle_due, answer_due, FirstPlace, nowhere, at_listener, at_timer, at_delay, at_idle, at_host, IsDueBy, Moves, PlaceChange, places_stay, task_queued, task_left, armed_again, signal_armed, id_cleared, idle_armed, completed, idle_started, idle_queued, Places, called_by, completions_but, fits_first, places, role_at, taken, with_queued, without_start}
use Rattle.page_laws.proofs.AtEnd.{done_test, moves-kept}
use Rattle.page_laws.proofs.Deadlines.{all-filter}
use Rattle.page_laws.proofs.DoneArms.{none-in, nothing-pending}
use Rattle.page_laws.proofs.DoneTimeout.{Kept_timers, none-found}
use Rattle.page_laws.proofs.DoneYield.{HasTask, behind, drop-queue, due-queue, first-queue, more, none-queued, place-queue, same}
use Rattle.page_laws.proofs.DueOrder.{Grounds, first-grounds, grounds-later}
use Rattle.page_laws.proofs.Framed.{false_true}
use Rattle.page_laws.proofs.Intervals.{kept-later}
use Rattle.page_laws.proofs.Numbered.{first-numbered}
use Rattle.page_laws.proofs.Over.{Fits, Leaving, in_front, in_still, is-last, moves-over}
use Rattle.page_laws.proofs.Paired.{Paired, first-paired, moves-paired}
use Rattle.page_laws.proofs.Registered.{kind_in_role, some-line}
use Rattle.page_laws.proofs.Scans.{Test, Kept}
use Rattle.page_laws.proofs.TimersLive.{found-steps}
use Rattle.page_laws.proofs.TimersStand.{first-stand}

-- a scheduler task of registration r waits, or its delay
abbrev InPosts : ℕ → Places → Notices → Type 0
InPosts r x s = HasTask r x.sched_tasks ⊎ DelayWaits r x.completions

-- ---- a delay goes on

more_steps : (r : ℕ) (cs : List Completing) (n : Completing) → DelayWaits r cs → DelayWaits r (and_last cs n)
more_steps r cs n d = record { steps = d.steps; there = in_front d.steps cs n d.there; source = d.source; own = d.own }

-- where other steps complete
left_steps : (r start : ℕ) (cs : List Completing) (d : DelayWaits r cs) → (d.steps.start == start) ≡ false → DelayWaits r (completions_but start cs)
left_steps r start cs d e = record { steps = d.steps; there = in_still d.steps (λ c. c.start == start) cs d.there e; source = d.source; own = d.own }

-- the steps that are found by the start of a delay are its own
own-steps : (p : Page) → Kept_timers p → (start : ℕ) (k : Completion) → completion_of p.completions start ≡ Some k → (r : ℕ) (d : DelayWaits r p.completions) → (d.steps.start == start) ≡ true → k ≡ EnqueuePost r d.source
own-steps p g start k e r d same =
    let found = found-steps start k p.completions e in
    sym found.what
    ∙ (ap {A = Completing} {B = Completion} (λ c. c.completion) (g.0.apart found.steps d.steps found.there d.there (found.own ∙ sym (eqb-true d.steps.start start same))) ∙ d.own)

no_timer : (t : TimerTask) (r : ℕ) (source : PrioSource) → QueueTimer t ≡ EnqueuePost r source → ⊥
no_timer t r source e = Prim.cc

no_signal : (q s r : ℕ) (source : PrioSource) → QueueSignal q s ≡ EnqueuePost r source → ⊥
no_signal q s r source e = Prim.cc

abbrev posts : ℕ → Completion → ℕ
posts r (EnqueuePost n source) = n
posts r k = r

-- steps that are no delay's complete
other_steps : (p : Page) → Kept_timers p → (start : ℕ) (k : Completion) → completion_of p.completions start ≡ Some k → ((r : ℕ) (source : PrioSource) → k ≡ EnqueuePost r source → ⊥) → (r : ℕ) → DelayWaits r p.completions → DelayWaits r (completions_but start p.completions)
other_steps p g start k e other r d = by_test (d.steps.start == start) refl
  where
    by_test : (b : Bool) → (d.steps.start == start) ≡ b → DelayWaits r (completions_but start p.completions)
    by_test true q = absurd (other r d.source (own-steps p g start k e r d q))
    by_test false q = left_steps r start p.completions d q

-- those of registration q complete
post_steps : (p : Page) → Kept_timers p → (start q : ℕ) (source : PrioSource) → completion_of p.completions start ≡ Some (EnqueuePost q source) → (r : ℕ) → DelayWaits r p.completions → (q ≡ r) ⊎ DelayWaits r (completions_but start p.completions)
post_steps p g start q source e r d = by_test (d.steps.start == start) refl
  where
    by_test : (b : Bool) → (d.steps.start == start) ≡ b → (q ≡ r) ⊎ DelayWaits r (completions_but start p.completions)
    by_test true z = inl (ap (posts r) (own-steps p g start (EnqueuePost q source) e r d z))
    by_test false z = inr (left_steps r start p.completions d z)

-- ---- what a change does

first-waits : {xs : List Registration} {ps : Prios} {n : ℕ} {x y : Places} (u : FirstPlace xs ps n x y) → fits_first kind.Post u ≡ true → (s : Notices) → InPosts n y s
first-waits nowhere at s = absurd (false_true at)
first-waits (at_listener target name q e) at s = absurd (false_true at)
first-waits (at_timer a t e first) at s = absurd (false_true at)
first-waits {x = x} (at_delay ms now q source e h) at s =
    inr (record { steps = record { start = suc x.timers.starts_made; completion = EnqueuePost q source }; there = is-last (record { start = suc x.timers.starts_made; completion = EnqueuePost q source }) x.completions; source = source; own = ap (λ n. EnqueuePost n source) e })
first-waits (at_idle q e) at s = absurd (false_true at)
first-waits (at_host c a e there live) at s = absurd (false_true at)

first-steps : {xs : List Registration} {ps : Prios} {n : ℕ} {x y : Places} (u : FirstPlace xs ps n x y) (r : ℕ) → DelayWaits r x.completions → DelayWaits r y.completions
first-steps nowhere r d = d
first-steps (at_listener target name q e) r d = d
first-steps {x = x} (at_timer a t e first) r d = more_steps r x.completions (record { start = a.start; completion = QueueTimer t }) d
first-steps {x = x} (at_delay ms now q source e h) r d = more_steps r x.completions (record { start = suc x.timers.starts_made; completion = EnqueuePost q source }) d
first-steps (at_idle q e) r d = d
first-steps (at_host c a e there live) r d = d

place-steps : (p : Page) {y : Places} (c : PlaceChange p.registrations (places p) y) (r : ℕ) → DelayWaits r p.completions → DelayWaits r y.completions
place-steps p places_stay r d = d
place-steps p (task_queued t h plain) r d = d
place-steps p (task_left number) r d = d
place-steps p (armed_again a t role there next) r d = more_steps r p.completions (record { start = a.start; completion = QueueTimer t }) d
place-steps p (signal_armed ms now q n) r d = more_steps r p.completions (record { start = suc p.timers.starts_made; completion = QueueSignal q n }) d
place-steps p (id_cleared id) r d = d
place-steps p (idle_armed t most own) r d = d
place-steps p (completed start gone) r d = by_test (d.steps.start == start) refl
  where
    by_test : (b : Bool) → (d.steps.start == start) ≡ b → DelayWaits r (completions_but start p.completions)
    by_test true q = absurd (none-found start p.completions d.steps d.there (eqb-true d.steps.start start q) gone)
    by_test false q = left_steps r start p.completions d q
place-steps p idle_started r d = d
place-steps p (idle_queued t e from) r d = d

due-steps : (p : Page) → Kept_timers p → {q : ℕ} {y : Places} (c : DueChange p.registrations q (places p) y) → IsDueBy p.now p.events c → (r : ℕ) → DelayWaits r p.completions → was_done p.events r ≡ true ⊎ DelayWaits r y.completions
due-steps p g (timer_due start number source t e i role) by r d = inr (other_steps p g start (QueueTimer t) e (no_timer t) r d)
due-steps p g {q = q} (delay_due start source e role) by r d = by_place (post_steps p g start q source e r d)
  where
    by_place : (q ≡ r) ⊎ DelayWaits r (completions_but start p.completions) → was_done p.events r ≡ true ⊎ DelayWaits r (completions_but start p.completions)
    by_place (inl z) = inl (subst (λ (n : ℕ). was_done p.events n ≡ true) z by.1)
    by_place (inr k) = inr k
due-steps p g {q = q} (signal_due start n e role) by r d = inr (other_steps p g start (QueueSignal q n) e (no_signal q n) r d)
due-steps p g (idle_due t number source i e role) by r d = inr d
due-steps p g (answer_due before a after number source e i role) by r d = inr d

drop-steps : {xs : List Registration} {q : ℕ} {x y : Places} → Dropping xs q x y → (r : ℕ) → DelayWaits r x.completions → DelayWaits r y.completions
drop-steps (timer_dropped id there e own) r d = d
drop-steps (idle_dropped handle c e e1 role) r d = d
drop-steps (listener_dropped there role) r d = d

called : (b : Beginning) (p : Page) (r : ℕ) → HasTask r p.sched_tasks ⊎ DelayWaits r p.completions → (called_by b ≡ r) ⊎ InPosts r (places (taken b p)) (taken b p).notices
called (TheScript source task) p r v = inr v
called (ATimer source task t) p r v = inr v
called (AFrame key c) p r v = inr v
called (AnIdle c others) p r v = inr v
called (ALateIdle handle c) p r v = inr v
called (AListener q) p r v = inr v
called (APost t) p r (inl v) = by_task (behind t.registration r p.sched_tasks v)
  where
    by_task : (t.registration ≡ r) ⊎ HasTask r (taken (APost t) p).sched_tasks → (t.registration ≡ r) ⊎ InPosts r (places (taken (APost t) p)) (taken (APost t) p).notices
    by_task (inl e) = inl e
    by_task (inr k) = inr (inl k)
called (APost t) p r (inr d) = inr (inr d)
called (AContinuation t) p r (inl v) = by_task (behind t.registration r p.sched_tasks v)
  where
    by_task : (t.registration ≡ r) ⊎ HasTask r (taken (AContinuation t) p).sched_tasks → (t.registration ≡ r) ⊎ InPosts r (places (taken (AContinuation t) p)) (taken (AContinuation t) p).notices
    by_task (inl e) = inl e
    by_task (inr k) = inr (inl k)
called (AContinuation t) p r (inr d) = inr (inr d)
called (AMicro job others q) p r v = inr v
called (AReaction job others of x q) p r v = inr v

either : {A B C D : Type 0} → (A → C) → (B → D) → A ⊎ B → C ⊎ D
either f g (inl a) = inl (f a)
either f g (inr b) = inr (g b)

due-waits : (p : Page) → Kept_timers p → {q : ℕ} {y : Places} (c : DueChange p.registrations q (places p) y) → IsDueBy p.now p.events c → (r : ℕ) (s : Notices) → InPosts r (places p) s → was_done p.events r ≡ true ⊎ InPosts r y s
due-waits p g {y = y} c by r s (inl w) = inr (inl (same r p.sched_tasks y.sched_tasks (due-queue c) w))
due-waits p g c by r s (inr d) = either (λ z. z) inr (due-steps p g c by r d)

post-waits : (p : Page) → Kept_timers p → (start q : ℕ) (source : PrioSource) → completion_of p.completions start ≡ Some (EnqueuePost q source) → (t : SchedTask) → t.registration ≡ q → (r : ℕ) (s : Notices) → InPosts r (places p) s → InPosts r (with_queued t (without_start start (places p))) s
post-waits p g start q source e t own r s (inl w) = inl (more t r p.sched_tasks w)
post-waits p g start q source e t own r s (inr d) = by_place (post_steps p g start q source e r d)
  where
    by_place : (q ≡ r) ⊎ DelayWaits r (completions_but start p.completions) → HasTask r (and_last p.sched_tasks t) ⊎ DelayWaits r (completions_but start p.completions)
    by_place (inl z) = inl (record { task = t; there = is-last t p.sched_tasks; own = own ∙ z })
    by_place (inr k) = inr k

aborted-waits : (q : ℕ) (p : Page) (r : ℕ) → HasTask r p.sched_tasks ⊎ DelayWaits r p.completions → (q ≡ r) ⊎ (HasTask r (without (λ t. t.registration == q) p.sched_tasks) ⊎ DelayWaits r p.completions)
aborted-waits q p r (inl w) = either (λ z. z) inl (behind q r p.sched_tasks w)
aborted-waits q p r (inr d) = inr (inr d)

leaving : Leaving kind.Post true InPosts Kept_timers
leaving =
    record {
      first = first-waits;
      queued = λ t x s h. inl (record { task = t; there = is-last t x.sched_tasks; own = refl });
      micro = λ e current r x s. absurd (no_micro e);
      not_frame = λ e. Prim.cc;
      not_then = λ e. Prim.cc;
      jobs = λ r x s t h w. w;
      place = λ p g {y} c made r s role w. inr (either (same r p.sched_tasks y.sched_tasks (place-queue c)) (place-steps p c r) w);
      others_first = λ {xs} {ps} {n} {x} {y} u r s w. either (same r x.sched_tasks y.sched_tasks (first-queue u)) (first-steps u r) w;
      others_queued = λ t r x s w. either (more t r x.sched_tasks) (λ d. d) w;
      answer = λ p g source task t e e1 r s w. w;
      due = λ p g d by r s role w. due-waits p g d by r s w;
      post_due = post-waits;
      cancel = λ {xs} {q} {x} {y} d r s role w. inr (either (same r x.sched_tasks y.sched_tasks (drop-queue d)) (drop-steps d r) w);
      aborted = λ q p r s w. aborted-waits q p r w;
      run = λ job others r x s e plain w. w;
    }
  where
    no_micro : kind.Post ≡ kind.Micro → ⊥
    no_micro e = Prim.cc

-- ---- the end

post_kind : (o : Option RegKind) → is_some_and is_posted o ≡ true → o ≡ Some kind.Post
post_kind None h = absurd (false_true h)
post_kind (Some kind.Post) h = refl
post_kind (Some k) h = absurd (false_true h)

post_role : (role : Role) → kind_in_role role ≡ Some kind.Post → role ≡ OfKind kind.Post
post_role ScriptRole h = Prim.cc
post_role (OfKind kind.Post) h = refl
post_role (OfKind k) h = Prim.cc

all-over : (p : Page) → Grounds p → Paired p → Fits kind.Post true InPosts Kept_timers leaving p → is_empty (view p) ≡ true → is_pending p ≡ false → posts_are_over p.events ≡ true
all-over p g paired f h pending = all-filter (has_kind is_posted p.events) (was_done p.events) (registered p.events) each
  where
    by_place : (r : ℕ) → was_done p.events r ≡ true ⊎ (HasTask r p.sched_tasks ⊎ DelayWaits r p.completions) → was_done p.events r ≡ true
    by_place r (inl d) = d
    by_place r (inr (inl w)) = absurd (none-queued p h r w)
    by_place r (inr (inr d)) = let a = paired d.steps d.there in absurd (none-in a.timer p.timers.active (nothing-pending p pending).active a.there)

    by_number : (r : ℕ) → kind_of p.events r ≡ Some kind.Post → was_done p.events r ≡ true
    by_number zero k = absurd (false_true (sym g.idle.none ∙ some-line p.events 0 kind.Post k))
    by_number (suc i) k = by_place (suc i) (f (suc i) (omega arith) (post_role (role_at p.registrations (suc i)) (sym (g.once.kinds.tie (suc i) (omega arith)) ∙ k)))

    each : (r : ℕ) → has_kind is_posted p.events r ≡ true → was_done p.events r ≡ true
    each r is = by_number r (post_kind (kind_of p.events r) is)

first-fits : (program : Program) (setup : Setup) (hosts : List HostClosure) → Fits kind.Post true InPosts Kept_timers leaving (first_page program setup hosts)
first-fits program setup hosts r one role = absurd (none r one role)
  where
    no_script : ScriptRole ≡ OfKind kind.Post → ⊥
    no_script e = Prim.cc

    none : (r : ℕ) → 1 ≤ r → role_at (first_page program setup hosts).registrations r ≡ OfKind kind.Post → ⊥
    none zero one e = absurd (omega (arith, one))
    none (suc zero) one e = no_script e
    none (suc (suc i)) one e = no_script e

abbrev pub posts_over_test : Test
posts_over_test = done_test posts_are_over

pub posts_over_at_end : (program : Program) (setup : Setup) (hosts : List HostClosure) {q : Page} → Moves (first_page program setup hosts) q → Kept posts_over_test q.events
posts_over_at_end program setup hosts a =
    moves-kept posts_are_over a
    (λ r b z none. all-over r (grounds-later b (first-grounds program setup hosts)) (moves-paired b (first-paired program setup hosts))
    (moves-over kind.Post true InPosts Kept_timers leaving refl (λ b p g w r role v. called b p r v) (λ p q c g. kept-later c g) b (first-stand program setup hosts, first-numbered program setup hosts) (first-fits program setup hosts)) z.0 z.1) tt
