-- Where a run ends for nothing is left to do, each timeout was called or dropped: it waits in an active timer and then in a task, which leaves its queue without a call only where its id is gone.
use Rattle.std.proofs.Common.{◌≡◌, ◌⊎◌, inl, inr, ℕ, suc, ◌≤◌, Bool, true, false, List, [], ◌∷◌, Option, Some, None, refl, sym, subst, ap, ◌∙◌, arith, zero, eqb-true, cond}
use Rattle.std.proofs.lemmas.Bool.{eq-eqb}
use Rattle.std.specs.Prelude.{◌==◌, find, option_map}
use Rattle.page_types.specs.declared.RegKind.{RegKind}
use Rattle.page_types.specs.declared.RegKind.TheVariants as kind
use Rattle.page_types.specs.declared.Source.{Source}
use Rattle.page_types.specs.declared.Source.TheVariants.{Timer}
use Rattle.page_types.specs.Tree.{Program}
use Rattle.page_parts.specs.Setup.{Setup}
use Rattle.page_parts.specs.HostClosures.{HostClosure}
use Rattle.page_parts.specs.Notices.{Notices}
use Rattle.page_parts.specs.Sources.{default_list, same_source}
use Rattle.page_parts.specs.TaskSignals.{Prios}
use Rattle.page_parts.specs.Words.{and_last, is_empty, is_there, without}
use Rattle.page_parts.specs.WrittenChoices.{Runnable}
use Rattle.page_model.specs.PageTime.{completion_of, first_task}
use Rattle.page_model.specs.State.{Page, OfKind, ScriptRole, Role, Registration, Task, TimerTask, HostTask, Steps, RunScript, RunTimer, AnswerHost, PrioSource, Completion, Completing, QueueTimer, EnqueuePost, QueueSignal}
use Rattle.page_model.specs.Turns.{first_page, is_pending}
use Rattle.page_model.specs.View.{runnable_at, view}
use Rattle.page_laws.specs.History.{has_kind, is_some_and, kind_of, registered, was_called, was_dropped}
use Rattle.page_laws.specs.TimerLaws.{was_done}
use Rattle.page_laws.specs.SchedulerLaws.{is_timeout, timeouts_are_over}
use Rattle.page_laws.specs.Moves.{IsDueBy, IsMade, LeavesAlone, Awaits, in_steps, in_task, TimerWaits, HasSteps, completions_but, PlaceChange, places_stay, task_queued, task_left, armed_again, signal_armed, id_cleared, idle_armed, completed, idle_started, idle_queued, DueChange, timer_due, delay_due, signal_due, idle_due, answer_due, Dropping, timer_dropped, idle_dropped, listener_dropped, role_at, IsIn, Places, places, Beginning, TheScript, ATimer, AFrame, AnIdle, ALateIdle, AListener, APost, AContinuation, AMicro, AReaction, called_by, taken, FirstPlace, nowhere, at_listener, at_timer, at_delay, at_idle, at_host, fits_first, Waited, Moves}
use Rattle.page_laws.proofs.AtEnd.{done_test, moves-kept}
use Rattle.page_laws.proofs.Deadlines.{all-filter}
use Rattle.page_laws.proofs.DoneArms.{none-in, nothing-pending}
use Rattle.page_laws.proofs.Paired.{Paired, first-paired, moves-paired}
use Rattle.page_laws.proofs.DueOrder.{Grounds, first-grounds, grounds-later}
use Rattle.page_laws.proofs.Framed.{false_true}
use Rattle.page_laws.proofs.Numbered.{Numbered, first-numbered, moves-numbered, only-task}
use Rattle.page_laws.proofs.Over.{Fits, Leaving, in_front, in_still, is-last, moves-over, on_left, on_right}
use Rattle.page_laws.proofs.Ready.{empty-none}
use Rattle.page_laws.proofs.Registered.{kind_in_role, some-line}
use Rattle.page_laws.proofs.Scans.{Test, Kept}
use Rattle.page_laws.proofs.TimersLive.{Found, found-steps, IsOver, Stands, lives, to_come, queued}
use Rattle.page_laws.proofs.TimersStand.{TimersStand, first-stand, timers-stand}

abbrev pub InTimers : ℕ → Places → Notices → Type 0
InTimers r x s = TimerWaits r x.completions x.tasks

-- timers stand well, and tasks have different numbers
abbrev pub Kept_timers : Page → Type 0
Kept_timers p = TimersStand p × Numbered p

pub to-steps : (t : TimerTask) (ts : List Task) (u : Task) → IsIn u ts → u.steps ≡ RunTimer t → HasSteps (RunTimer t) ts
to-steps t [] u i e = i
to-steps t (v ∷ ts) u (inl z) e = inl (ap {A = Task} {B = Steps} (λ w. w.steps) (sym z) ∙ e)
to-steps t (v ∷ ts) u (inr i) e = inr (to-steps t ts u i e)

pub stands : (t : TimerTask) (cs : List Completing) (ts : List Task) → Awaits t cs ts → Stands t cs ts
stands t cs ts (in_steps c i e) = to_come c i e
stands t cs ts (in_task w) = queued (to-steps t ts w.task w.there w.steps)

-- ---- a wait goes on

pub more_tasks : (r : ℕ) (cs : List Completing) (ts : List Task) (n : Task) → TimerWaits r cs ts → TimerWaits r cs (and_last ts n)
more_tasks r cs ts n w = record { timer = w.timer; own = w.own; place = by_place w.place }
  where
    by_place : Awaits w.timer cs ts → Awaits w.timer cs (and_last ts n)
    by_place (in_steps c i e) = in_steps c i e
    by_place (in_task k) = in_task (record { task = k.task; there = in_front k.task ts n k.there; steps = k.steps; source = k.source })

pub more_steps : (r : ℕ) (cs : List Completing) (ts : List Task) (n : Completing) → TimerWaits r cs ts → TimerWaits r (and_last cs n) ts
more_steps r cs ts n w = record { timer = w.timer; own = w.own; place = by_place w.place }
  where
    by_place : Awaits w.timer cs ts → Awaits w.timer (and_last cs n) ts
    by_place (in_steps c i e) = in_steps c (in_front c cs n i) e
    by_place (in_task k) = in_task k

-- tasks of a number leave, of which the timer's is none
pub fewer_tasks : (r number : ℕ) (cs : List Completing) (ts : List Task) → ((t : TimerTask) (u : Task) → IsIn u ts → u.steps ≡ RunTimer t → t.registration ≡ r → (u.number ≡ number) → ⊥) → TimerWaits r cs ts → TimerWaits r cs (without (λ t. t.number == number) ts)
fewer_tasks r number cs ts none w = record { timer = w.timer; own = w.own; place = by_place w.place }
  where
    by_place : Awaits w.timer cs ts → Awaits w.timer cs (without (λ t. t.number == number) ts)
    by_place (in_steps c i e) = in_steps c i e
    by_place (in_task k) = in_task (record { task = k.task; there = in_still k.task (λ t. t.number == number) ts k.there (by_test (k.task.number == number) refl); steps = k.steps; source = k.source })
      where
        by_test : (b : Bool) → (k.task.number == number) ≡ b → b ≡ false
        by_test true q = absurd (none w.timer k.task k.there k.steps w.own (eqb-true k.task.number number q))
        by_test false q = refl

-- completion steps of a start leave, of which the timer's are none
pub fewer_steps : (r start : ℕ) (cs : List Completing) (ts : List Task) → ((t : TimerTask) (c : Completing) → IsIn c cs → c.completion ≡ QueueTimer t → t.registration ≡ r → (c.start ≡ start) → ⊥) → TimerWaits r cs ts → TimerWaits r (completions_but start cs) ts
fewer_steps r start cs ts none w = record { timer = w.timer; own = w.own; place = by_place w.place }
  where
    by_place : Awaits w.timer cs ts → Awaits w.timer (completions_but start cs) ts
    by_place (in_task k) = in_task k
    by_place (in_steps c i e) = in_steps c (in_still c (λ d. d.start == start) cs i (by_test (c.start == start) refl)) e
      where
        by_test : (b : Bool) → (c.start == start) ≡ b → b ≡ false
        by_test true q = absurd (none w.timer c i e w.own (eqb-true c.start start q))
        by_test false q = refl

-- where steps that are no timer's are found by a start, a timer has none of it
pub other-start : (p : Page) → TimersStand p → (start : ℕ) (k : Completion) → completion_of p.completions start ≡ Some k → ((t : TimerTask) → k ≡ QueueTimer t → ⊥) → (r : ℕ) (t : TimerTask) (c : Completing) → IsIn c p.completions → c.completion ≡ QueueTimer t → t.registration ≡ r → (c.start ≡ start) → ⊥
other-start p f start k e other r t c i z own same =
    let found = found-steps start k p.completions e in
    other t (sym found.what ∙ (ap {A = Completing} {B = Completion} (λ d. d.completion) (f.apart found.steps c found.there i (found.own ∙ sym same)) ∙ z))

pub no_timer : (r : ℕ) (source : PrioSource) (t : TimerTask) → EnqueuePost r source ≡ QueueTimer t → ⊥
no_timer r source t e = Prim.cc

pub no_signal : (r s : ℕ) (t : TimerTask) → QueueSignal r s ≡ QueueTimer t → ⊥
no_signal r s t e = Prim.cc

first-waits : {xs : List Registration} {ps : Prios} {n : ℕ} {x y : Places} (u : FirstPlace xs ps n x y) → fits_first kind.Timeout u ≡ true → (s : Notices) → InTimers n y s
first-waits nowhere at s = absurd (false_true at)
first-waits (at_listener target name q e) at s = absurd (false_true at)
first-waits {x = x} (at_timer a t e first) at s =
    record { timer = t; own = e; place = in_steps (record { start = a.start; completion = QueueTimer t }) (is-last (record { start = a.start; completion = QueueTimer t }) x.completions) refl }
first-waits (at_delay ms now q source e h) at s = absurd (false_true at)
first-waits (at_idle q e) at s = absurd (false_true at)
first-waits (at_host c a e there live) at s = absurd (false_true at)

pub others-first : {xs : List Registration} {ps : Prios} {n : ℕ} {x y : Places} (u : FirstPlace xs ps n x y) (r : ℕ) → TimerWaits r x.completions x.tasks → TimerWaits r y.completions y.tasks
others-first nowhere r w = w
others-first (at_listener target name q e) r w = w
others-first {x = x} (at_timer a t e first) r w = more_steps r x.completions x.tasks (record { start = a.start; completion = QueueTimer t }) w
others-first {x = x} (at_delay ms now q source e h) r w = more_steps r x.completions x.tasks (record { start = suc x.timers.starts_made; completion = EnqueuePost q source }) w
others-first (at_idle q e) r w = w
others-first (at_host c a e there live) r w = w

-- the task that leaves alone
left-or : (D : Type 0) (p : Page) → Kept_timers p → (number : ℕ) → ((t : Task) → IsIn t p.tasks → t.number ≡ number → LeavesAlone t.steps p.timers p.hosts) → (r : ℕ) → (IsOver p.registrations p.events r → D) → TimerWaits r p.completions p.tasks → D ⊎ TimerWaits r p.completions (without (λ t. t.number == number) p.tasks)
left-or D p g number alone r done w = by_place w.place
  where
    by_live : (u : Task) → u.steps ≡ RunTimer w.timer → LeavesAlone u.steps p.timers p.hosts → IsOver p.registrations p.events w.timer.registration ⊎ lives w.timer.id w.timer.handle p.timers.ids ≡ true → D
    by_live u e h (inl o) = done (subst (λ (n : ℕ). IsOver p.registrations p.events n) w.own o)
    by_live u e h (inr l) = absurd (false_true (sym (subst (λ (s : Steps). LeavesAlone s p.timers p.hosts) e h) ∙ l))

    by_place : Awaits w.timer p.completions p.tasks → D ⊎ TimerWaits r p.completions (without (λ t. t.number == number) p.tasks)
    by_place (in_steps c i e) = inr (record { timer = w.timer; own = w.own; place = in_steps c i e })
    by_place (in_task k) = by_test (k.task.number == number) refl
      where
        by_test : (b : Bool) → (k.task.number == number) ≡ b → D ⊎ TimerWaits r p.completions (without (λ t. t.number == number) p.tasks)
        by_test true q =
            inl (by_live k.task k.steps (alone k.task k.there (eqb-true k.task.number number q)) (g.0.live w.timer (stands w.timer p.completions p.tasks (in_task k))))
        by_test false q = inr (record { timer = w.timer; own = w.own; place = in_task (record { task = k.task; there = in_still k.task (λ t. t.number == number) p.tasks k.there q; steps = k.steps; source = k.source }) })

-- where none is found by a start, none has it
pub none-found : (start : ℕ) (cs : List Completing) (c : Completing) → IsIn c cs → c.start ≡ start → completion_of cs start ≡ None → ⊥
none-found start [] c i same e = i
none-found start (d ∷ cs) c i same e = by_test (d.start == start) refl i e (λ j k. none-found start cs c j same k)
  where
    by_test : (b : Bool) → (d.start == start) ≡ b → IsIn c (d ∷ cs) → option_map (λ (x : Completing). x.completion) (cond b (Some d) (find (λ x. x.start == start) cs)) ≡ None → (IsIn c cs → completion_of cs start ≡ None → ⊥) → ⊥
    by_test true q i e rest = Prim.cc
    by_test false q (inl z) e rest = false_true (sym q ∙ eq-eqb d.start start (ap {A = Completing} {B = ℕ} (λ x. x.start) (sym z) ∙ same))
    by_test false q (inr j) e rest = rest j e

-- a timer that waits goes on waiting, or is over
pub place-waits : (D : Type 0) (p : Page) → Kept_timers p → {y : Places} (c : PlaceChange p.registrations (places p) y) → IsMade c p → (r : ℕ) → (IsOver p.registrations p.events r → D) → TimerWaits r p.completions p.tasks → D ⊎ TimerWaits r y.completions y.tasks
place-waits D p g places_stay k r done w = inr w
place-waits D p g (task_queued t h plain) k r done w = inr (more_tasks r p.completions p.tasks t w)
place-waits D p g (task_left number) k r done w = left-or D p g number k r done w
place-waits D p g (armed_again a t at there next) k r done w = inr (more_steps r p.completions p.tasks (record { start = a.start; completion = QueueTimer t }) w)
place-waits D p g (signal_armed ms now q n) k r done w = inr (more_steps r p.completions p.tasks (record { start = suc p.timers.starts_made; completion = QueueSignal q n }) w)
place-waits D p g (id_cleared id) k r done w = inr w
place-waits D p g (idle_armed t most own) k r done w = inr w
place-waits D p g (completed start gone) k r done w = inr (fewer_steps r start p.completions p.tasks (λ t c i e own same. none-found start p.completions c i same gone) w)
place-waits D p g idle_started k r done w = inr w
place-waits D p g (idle_queued t e from) k r done w = inr (more_tasks r p.completions p.tasks t w)

pub due-waits : (p : Page) → Kept_timers p → {q : ℕ} {y : Places} (d : DueChange p.registrations q (places p) y) → IsDueBy p.now p.events d → (r : ℕ) → TimerWaits r p.completions p.tasks → TimerWaits r y.completions y.tasks
due-waits p g (timer_due start number source t e i role) by r w = record { timer = w.timer; own = w.own; place = by_place w.place }
  where
    found : Found start (QueueTimer t) p.completions
    found = found-steps start (QueueTimer t) p.completions e

    timers : Completion → TimerTask
    timers (QueueTimer n) = n
    timers k = t

    new : Task
    new = record { number = number; source = source; steps = RunTimer t }

    by_place : Awaits w.timer p.completions p.tasks → Awaits w.timer (completions_but start p.completions) (and_last p.tasks (record { number = number; source = source; steps = RunTimer t }))
    by_place (in_task k) = in_task (record { task = k.task; there = in_front k.task p.tasks (record { number = number; source = source; steps = RunTimer t }) k.there; steps = k.steps; source = k.source })
    by_place (in_steps c j z) = by_test (c.start == start) refl
      where
        same : (c.start ≡ start) → t ≡ w.timer
        same h = ap timers (sym found.what ∙ (ap {A = Completing} {B = Completion} (λ d. d.completion) (g.0.apart found.steps c found.there j (found.own ∙ sym h)) ∙ z))

        by_test : (b : Bool) → (c.start == start) ≡ b → Awaits w.timer (completions_but start p.completions) (and_last p.tasks (record { number = number; source = source; steps = RunTimer t }))
        by_test true h =
            in_task (record { task = record { number = number; source = source; steps = RunTimer t }; there = is-last (record { number = number; source = source; steps = RunTimer t }) p.tasks; steps = ap RunTimer (same (eqb-true c.start start h)); source = by.2 })
        by_test false h = in_steps c (in_still c (λ d. d.start == start) p.completions j h) z
due-waits p g (delay_due start source e role) by r w = fewer_steps r start p.completions p.tasks (other-start p g.0 start _ e (no_timer _ source) r) w
due-waits p g (signal_due start n e role) by r w = fewer_steps r start p.completions p.tasks (other-start p g.0 start _ e (no_signal _ n) r) w
due-waits p g (idle_due t number source i e role) by r w = more_tasks r p.completions p.tasks _ w
due-waits p g (answer_due before a after number source e i role) by r w = more_tasks r p.completions p.tasks _ w

pub cancel-waits : {xs : List Registration} {q : ℕ} {x y : Places} → Dropping xs q x y → (r : ℕ) → TimerWaits r x.completions x.tasks → TimerWaits r y.completions y.tasks
cancel-waits (timer_dropped id there e own) r w = w
cancel-waits (idle_dropped handle c e e1 role) r w = w
cancel-waits (listener_dropped there role) r w = w

-- where a task that is no timer's is taken, a timer's has another number
pub taken-other : (p : Page) → Numbered p → (source : Source) (task : Task) (steps : Steps) → first_task source p.tasks ≡ Some task → task.steps ≡ steps → ((t : TimerTask) → steps ≡ RunTimer t → ⊥) → (r : ℕ) (t : TimerTask) (u : Task) → IsIn u p.tasks → u.steps ≡ RunTimer t → t.registration ≡ r → (u.number ≡ task.number) → ⊥
taken-other p n source task steps e e1 other r t u i z own same = other t (sym e1 ∙ (ap {A = Task} {B = Steps} (λ v. v.steps) (sym (only-task p source task n e u i same)) ∙ z))

pub no_script : (t : TimerTask) → RunScript ≡ RunTimer t → ⊥
no_script t e = Prim.cc

pub no_host : (a : HostTask) (t : TimerTask) → AnswerHost a ≡ RunTimer t → ⊥
no_host a t e = Prim.cc

pub called : (b : Beginning) (p : Page) → Kept_timers p → Waited b p → (r : ℕ) → TimerWaits r p.completions p.tasks → (called_by b ≡ r) ⊎ TimerWaits r (places (taken b p)).completions (taken b p).tasks
called (TheScript source task) p g w r v = inr (fewer_tasks r task.number p.completions p.tasks (taken-other p g.1 source task RunScript w.0 w.1 no_script r) v)
called (ATimer source task t) p g w r v = by_number (t.registration == r) refl
  where
    timers : Steps → TimerTask
    timers (RunTimer n) = n
    timers steps = t

    by_number : (b : Bool) → (t.registration == r) ≡ b → (t.registration ≡ r) ⊎ TimerWaits r p.completions (without (λ u. u.number == task.number) p.tasks)
    by_number true q = inl (eqb-true t.registration r q)
    by_number false q =
        inr (fewer_tasks r task.number p.completions p.tasks
        (λ n u i z own same.
        let e : RunTimer t ≡ RunTimer n = sym w.1 ∙ (ap {A = Task} {B = Steps} (λ x. x.steps) (sym (only-task p source task g.1 w.0 u i same)) ∙ z) in
        false_true (sym q ∙ eq-eqb t.registration r (ap {A = TimerTask} {B = ℕ} (λ x. x.registration) (ap timers e) ∙ own))) v)
called (AFrame key c) p g w r v = inr v
called (AnIdle c others) p g w r v = inr v
called (ALateIdle handle c) p g w r v = inr v
called (AListener q) p g w r v = inr v
called (APost t) p g w r v = inr v
called (AContinuation t) p g w r v = inr v
called (AMicro job others q) p g w r v = inr v
called (AReaction job others of x q) p g w r v = inr v

-- a timer that is over was called or dropped
over_done : (p : Page) (r : ℕ) → IsOver p.registrations p.events r → was_done p.events r ≡ true
over_done p r (inl d) = on_right (was_called p.events r) (was_dropped p.events r) d
over_done p r (inr c) = on_left (was_called p.events r) (was_dropped p.events r) c.1

leaving : Leaving kind.Timeout true InTimers Kept_timers
leaving =
    record {
      first = first-waits;
      queued = λ t x s h. absurd (false_true h);
      micro = λ e current r x s. absurd (no_micro e);
      not_frame = λ e. Prim.cc;
      not_then = λ e. Prim.cc;
      jobs = λ r x s t h w. w;
      place = λ p g c made r s role w. place-waits (was_done p.events r ≡ true) p g c made r (over_done p r) w;
      others_first = λ u r s w. others-first u r w;
      others_queued = λ t r x s w. w;
      answer = λ p g source task t e e1 r s w. fewer_tasks r task.number p.completions p.tasks (taken-other p g.1 source task (AnswerHost t) e e1 (no_host t) r) w;
      due = λ p g d by r s role w. inr (due-waits p g d by r w);
      post_due = λ p g start q source e t z r s w. fewer_steps r start p.completions p.tasks (other-start p g.0 start (EnqueuePost q source) e (no_timer q source) r) w;
      cancel = λ d r s role w. inr (cancel-waits d r w);
      aborted = λ q p r s w. inr w;
      run = λ job others r x s e plain w. w;
    }
  where
    no_micro : kind.Timeout ≡ kind.Micro → ⊥
    no_micro e = Prim.cc

-- ---- the end

timeout_kind : (o : Option RegKind) → is_some_and is_timeout o ≡ true → o ≡ Some kind.Timeout
timeout_kind None h = absurd (false_true h)
timeout_kind (Some kind.Timeout) h = refl
timeout_kind (Some k) h = absurd (false_true h)

timeout_role : (role : Role) → kind_in_role role ≡ Some kind.Timeout → role ≡ OfKind kind.Timeout
timeout_role ScriptRole h = Prim.cc
timeout_role (OfKind kind.Timeout) h = refl
timeout_role (OfKind k) h = Prim.cc

first-role : (program : Program) (setup : Setup) (hosts : List HostClosure) (r : ℕ) → 1 ≤ r → role_at (first_page program setup hosts).registrations r ≡ OfKind kind.Timeout → ⊥
first-role program setup hosts zero one e = absurd (omega (arith, one))
first-role program setup hosts (suc zero) one e = no_kind e
  where
    no_kind : ScriptRole ≡ OfKind kind.Timeout → ⊥
    no_kind e = Prim.cc
first-role program setup hosts (suc (suc i)) one e = no_kind e
  where
    no_kind : ScriptRole ≡ OfKind kind.Timeout → ⊥
    no_kind e = Prim.cc

first-fits : (program : Program) (setup : Setup) (hosts : List HostClosure) → Fits kind.Timeout true InTimers Kept_timers leaving (first_page program setup hosts)
first-fits program setup hosts r one role = absurd (first-role program setup hosts r one role)

-- no task of a timer waits where none is runnable
pub none-runs : (p : Page) → is_empty (view p) ≡ true → (u : Task) → IsIn u p.tasks → u.source ≡ Timer → ⊥
none-runs p h u i e = false_true (sym (empty-none (runnable_at p) default_list Timer h (inr (inr (inr (inl refl))))) ∙ mapped (first_task Timer p.tasks) (found p.tasks i))
  where
    mapped : (o : Option Task) → is_there o ≡ true → is_there {X = Runnable} (option_map (λ n. record { source = Timer; first = n }) (option_map (λ (t : Task). t.number) o)) ≡ true
    mapped None e = e
    mapped (Some t) e = refl

    found : (ts : List Task) → IsIn u ts → is_there (first_task Timer ts) ≡ true
    found [] i = elim i [ ]
    found (v ∷ ts) i = by_test (same_source v.source Timer) refl i (λ j. found ts j)
      where
        by_test : (b : Bool) → same_source v.source Timer ≡ b → IsIn u (v ∷ ts) → (IsIn u ts → is_there (first_task Timer ts) ≡ true) → is_there (cond b (Some v) (first_task Timer ts)) ≡ true
        by_test true q i rest = refl
        by_test false q (inl z) rest = absurd (false_true (sym q ∙ ap {A = Source} {B = Bool} (λ s. same_source s Timer) (ap {A = Task} {B = Source} (λ x. x.source) (sym z) ∙ e)))
        by_test false q (inr j) rest = rest j

all-over : (p : Page) → Grounds p → Paired p → Fits kind.Timeout true InTimers Kept_timers leaving p → is_empty (view p) ≡ true → is_pending p ≡ false → timeouts_are_over p.events ≡ true
all-over p g paired f h pending = all-filter (has_kind is_timeout p.events) (was_done p.events) (registered p.events) each
  where
    none : (r : ℕ) → TimerWaits r p.completions p.tasks → ⊥
    none r w = by_place w.place
      where
        by_place : Awaits w.timer p.completions p.tasks → ⊥
        by_place (in_steps c i e) = let a = paired c i in none-in a.timer p.timers.active (nothing-pending p pending).active a.there
        by_place (in_task k) = none-runs p h k.task k.there k.source

    by_wait : (r : ℕ) → was_done p.events r ≡ true ⊎ TimerWaits r p.completions p.tasks → was_done p.events r ≡ true
    by_wait r (inl d) = d
    by_wait r (inr w) = absurd (none r w)

    by_number : (r : ℕ) → kind_of p.events r ≡ Some kind.Timeout → was_done p.events r ≡ true
    by_number zero k = absurd (false_true (sym g.idle.none ∙ some-line p.events 0 kind.Timeout k))
    by_number (suc i) k = by_wait (suc i) (f (suc i) (omega arith) (timeout_role (role_at p.registrations (suc i)) (sym (g.once.kinds.tie (suc i) (omega arith)) ∙ k)))

    each : (r : ℕ) → has_kind is_timeout p.events r ≡ true → was_done p.events r ≡ true
    each r is = by_number r (timeout_kind (kind_of p.events r) is)

abbrev pub timeouts_over_test : Test
timeouts_over_test = done_test timeouts_are_over

pub timeouts_over_at_end : (program : Program) (setup : Setup) (hosts : List HostClosure) {q : Page} → Moves (first_page program setup hosts) q → Kept timeouts_over_test q.events
timeouts_over_at_end program setup hosts a =
    moves-kept timeouts_are_over a
    (λ r b z none. all-over r (grounds-later b (first-grounds program setup hosts)) (moves-paired b (first-paired program setup hosts))
    (moves-over kind.Timeout true InTimers Kept_timers leaving refl (λ b p g w r role v. called b p g w r v) (λ p q c g. (timers-stand c g.0, moves-numbered c g.1)) b (first-stand program setup hosts, first-numbered program setup hosts) (first-fits program setup hosts)) z.0 z.1) tt
