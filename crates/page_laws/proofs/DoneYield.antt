-- Where a run ends for nothing is left to do, each continuation was called or dropped: it waits among the scheduler's tasks, and none waits then.
use Rattle.std.proofs.Common.{◌≡◌, ◌⊎◌, inl, inr, ℕ, suc, ◌≤◌, Bool, true, false, List, [], ◌∷◌, Option, Some, None, refl, sym, subst, ◌∙◌, arith, zero, eqb-true}
use Rattle.std.specs.Prelude.{◌==◌, option_map}
use Rattle.page_types.specs.declared.RegKind.{RegKind}
use Rattle.page_types.specs.declared.RegKind.TheVariants as kind
use Rattle.page_types.specs.Tree.{Program}
use Rattle.page_parts.specs.Setup.{Setup}
use Rattle.page_parts.specs.HostClosures.{HostClosure}
use Rattle.page_parts.specs.Notices.{Notices}
use Rattle.page_parts.specs.Sources.{default_list}
use Rattle.page_parts.specs.Words.{and_last, is_empty, is_there, without}
use Rattle.page_parts.specs.WrittenChoices.{Runnable}
use Rattle.page_types.specs.declared.Source.TheVariants.{Sched}
use Rattle.page_model.specs.SchedulerTasks.{first_of}
use Rattle.page_model.specs.View.{runnable_at, view}
use Rattle.page_parts.specs.TaskSignals.{Prios}
use Rattle.page_model.specs.State.{Page, OfKind, ScriptRole, Role, Registration, SchedTask}
use Rattle.page_model.specs.Turns.{first_page}
use Rattle.page_laws.specs.History.{has_kind, is_some_and, kind_of, registered}
use Rattle.page_laws.specs.TimerLaws.{was_done}
use Rattle.page_laws.specs.SchedulerLaws.{is_yield, continuations_are_over}
use Rattle.page_laws.specs.Moves.{PlaceChange, places_stay, task_queued, task_left, armed_again, signal_armed, id_cleared, idle_armed, completed, idle_started, idle_queued, DueChange, timer_due, delay_due, signal_due, idle_due, answer_due, Dropping, timer_dropped, idle_dropped, listener_dropped, role_at, IsIn, Places, Beginning, TheScript, ATimer, AFrame, AnIdle, ALateIdle, AListener, APost, AContinuation, AMicro, AReaction, called_by, taken, FirstPlace, nowhere, at_listener, at_timer, at_delay, at_idle, at_host, fits_first, Waited, Moves}
use Rattle.page_laws.proofs.AtEnd.{done_test, moves-kept}
use Rattle.page_laws.proofs.Deadlines.{all-filter}
use Rattle.page_laws.proofs.DueOrder.{Grounds, first-grounds, grounds-later}
use Rattle.page_laws.proofs.Framed.{false_true}
use Rattle.page_laws.proofs.Ready.{empty-none}
use Rattle.page_laws.proofs.Over.{Always, Fits, Leaving, in_front, in_still, is-last, moves-over}
use Rattle.page_laws.proofs.Registered.{kind_in_role, some-line}
use Rattle.page_laws.proofs.Scans.{Test, Kept}

-- a scheduler task of registration r waits
pub record HasTask (r : ℕ) (ts : List SchedTask) : Type 0 where
  pub task : SchedTask
  pub there : IsIn task ts
  pub own : task.registration ≡ r

abbrev InQueue : ℕ → Places → Notices → Type 0
InQueue r x s = HasTask r x.sched_tasks

no-first : {xs : List Registration} {ps : Prios} {n : ℕ} {x y : Places} (u : FirstPlace xs ps n x y) → fits_first kind.Yield u ≡ true → (s : Notices) → InQueue n y s
no-first nowhere at s = absurd (false_true at)
no-first (at_listener target name q e) at s = absurd (false_true at)
no-first (at_timer a t e first) at s = absurd (false_true at)
no-first (at_delay ms now q source e h) at s = absurd (false_true at)
no-first (at_idle q e) at s = absurd (false_true at)
no-first (at_host c a e there live) at s = absurd (false_true at)

pub first-queue : {xs : List Registration} {ps : Prios} {n : ℕ} {x y : Places} → FirstPlace xs ps n x y → y.sched_tasks ≡ x.sched_tasks
first-queue nowhere = refl
first-queue (at_listener target name q e) = refl
first-queue (at_timer a t e first) = refl
first-queue (at_delay ms now q source e h) = refl
first-queue (at_idle q e) = refl
first-queue (at_host c a e there live) = refl

pub place-queue : {xs : List Registration} {x y : Places} → PlaceChange xs x y → y.sched_tasks ≡ x.sched_tasks
place-queue places_stay = refl
place-queue (task_queued t h plain) = refl
place-queue (task_left number) = refl
place-queue (armed_again a t role there next) = refl
place-queue (signal_armed ms now r s) = refl
place-queue (id_cleared id) = refl
place-queue (idle_armed t most own) = refl
place-queue (completed start gone) = refl
place-queue idle_started = refl
place-queue (idle_queued t e from) = refl

pub due-queue : {xs : List Registration} {q : ℕ} {x y : Places} → DueChange xs q x y → y.sched_tasks ≡ x.sched_tasks
due-queue (timer_due start number source t e i role) = refl
due-queue (delay_due start source e role) = refl
due-queue (signal_due start s e role) = refl
due-queue (idle_due t number source i e role) = refl
due-queue (answer_due before a after number source e i role) = refl

pub drop-queue : {xs : List Registration} {q : ℕ} {x y : Places} → Dropping xs q x y → y.sched_tasks ≡ x.sched_tasks
drop-queue (timer_dropped id there e own) = refl
drop-queue (idle_dropped handle c e e1 role) = refl
drop-queue (listener_dropped there role) = refl

pub same : (r : ℕ) (ts us : List SchedTask) → us ≡ ts → HasTask r ts → HasTask r us
same r ts us e w = subst (HasTask r) (sym e) w

pub more : (t : SchedTask) (r : ℕ) (ts : List SchedTask) → HasTask r ts → HasTask r (and_last ts t)
more t r ts w = record { task = w.task; there = in_front w.task ts t w.there; own = w.own }

-- the tasks of q leave
pub behind : (q r : ℕ) (ts : List SchedTask) → HasTask r ts → (q ≡ r) ⊎ HasTask r (without (λ t. t.registration == q) ts)
behind q r ts w = by_test (w.task.registration == q) refl
  where
    by_test : (b : Bool) → (w.task.registration == q) ≡ b → (q ≡ r) ⊎ HasTask r (without (λ t. t.registration == q) ts)
    by_test true e = inl (sym (eqb-true w.task.registration q e) ∙ w.own)
    by_test false e = inr (record { task = w.task; there = in_still w.task (λ t. t.registration == q) ts w.there e; own = w.own })

called : (b : Beginning) (p : Page) → Always p → Waited b p → (r : ℕ) → role_at p.registrations r ≡ OfKind kind.Yield → HasTask r p.sched_tasks → (called_by b ≡ r) ⊎ HasTask r (taken b p).sched_tasks
called (TheScript source task) p g w r role v = inr v
called (ATimer source task t) p g w r role v = inr v
called (AFrame key c) p g w r role v = inr v
called (AnIdle c others) p g w r role v = inr v
called (ALateIdle handle c) p g w r role v = inr v
called (AListener q) p g w r role v = inr v
called (APost t) p g w r role v = behind t.registration r p.sched_tasks v
called (AContinuation t) p g w r role v = behind t.registration r p.sched_tasks v
called (AMicro job others q) p g w r role v = inr v
called (AReaction job others of x q) p g w r role v = inr v

leaving : Leaving kind.Yield true InQueue Always
leaving =
    record {
      first = no-first;
      queued = λ t x s h. record { task = t; there = is-last t x.sched_tasks; own = refl };
      micro = λ e current r x s. absurd (no_micro e);
      not_frame = λ e. Prim.cc;
      not_then = λ e. Prim.cc;
      jobs = λ r x s t h w. w;
      place = λ p g {y} c made r s role w. inr (same r p.sched_tasks y.sched_tasks (place-queue c) w);
      others_first = λ {xs} {ps} {n} {x} {y} u r s w. same r x.sched_tasks y.sched_tasks (first-queue u) w;
      others_queued = λ t r x s w. more t r x.sched_tasks w;
      answer = λ p g source task t e e1 r s w. w;
      due = λ p g {q} {y} d by r s role w. inr (same r p.sched_tasks y.sched_tasks (due-queue d) w);
      post_due = λ p g start q source e t z r s w. more t r p.sched_tasks w;
      cancel = λ {xs} {q} {x} {y} d r s role w. inr (same r x.sched_tasks y.sched_tasks (drop-queue d) w);
      aborted = λ q p r s w. behind q r p.sched_tasks w;
      run = λ job others r x s e plain w. w;
    }
  where
    no_micro : kind.Yield ≡ kind.Micro → ⊥
    no_micro e = Prim.cc

-- ---- the end

yield_kind : (o : Option RegKind) → is_some_and is_yield o ≡ true → o ≡ Some kind.Yield
yield_kind None h = absurd (false_true h)
yield_kind (Some kind.Yield) h = refl
yield_kind (Some k) h = absurd (false_true h)

yield_role : (role : Role) → kind_in_role role ≡ Some kind.Yield → role ≡ OfKind kind.Yield
yield_role ScriptRole h = Prim.cc
yield_role (OfKind kind.Yield) h = refl
yield_role (OfKind k) h = Prim.cc

-- no task of the scheduler waits where none is runnable
pub none-queued : (p : Page) → is_empty (view p) ≡ true → (r : ℕ) → HasTask r p.sched_tasks → ⊥
none-queued p h r w = by_list p.sched_tasks (empty-none (runnable_at p) default_list Sched h (inr (inr (inl refl)))) w.there
  where
    by_list : (ts : List SchedTask) → is_there {X = Runnable} (option_map (λ n. record { source = Sched; first = n }) (option_map (λ (t : SchedTask). t.order) (first_of p ts))) ≡ false → IsIn w.task ts → ⊥
    by_list [] e i = i
    by_list (t ∷ ts) e i = false_true (sym e)

all-over : (p : Page) → Grounds p → Fits kind.Yield true InQueue Always leaving p → is_empty (view p) ≡ true → continuations_are_over p.events ≡ true
all-over p g f h = all-filter (has_kind is_yield p.events) (was_done p.events) (registered p.events) each
  where
    by_place : (r : ℕ) → was_done p.events r ≡ true ⊎ HasTask r p.sched_tasks → was_done p.events r ≡ true
    by_place r (inl d) = d
    by_place r (inr w) = absurd (none-queued p h r w)

    by_number : (r : ℕ) → kind_of p.events r ≡ Some kind.Yield → was_done p.events r ≡ true
    by_number zero k = absurd (false_true (sym g.idle.none ∙ some-line p.events 0 kind.Yield k))
    by_number (suc i) k = by_place (suc i) (f (suc i) (omega arith) (yield_role (role_at p.registrations (suc i)) (sym (g.once.kinds.tie (suc i) (omega arith)) ∙ k)))

    each : (r : ℕ) → has_kind is_yield p.events r ≡ true → was_done p.events r ≡ true
    each r is = by_number r (yield_kind (kind_of p.events r) is)

first-fits : (program : Program) (setup : Setup) (hosts : List HostClosure) → Fits kind.Yield true InQueue Always leaving (first_page program setup hosts)
first-fits program setup hosts r one role = absurd (none r one role)
  where
    no_script : ScriptRole ≡ OfKind kind.Yield → ⊥
    no_script e = Prim.cc

    none : (r : ℕ) → 1 ≤ r → role_at (first_page program setup hosts).registrations r ≡ OfKind kind.Yield → ⊥
    none zero one e = absurd (omega (arith, one))
    none (suc zero) one e = no_script e
    none (suc (suc i)) one e = no_script e

abbrev pub continuations_over_test : Test
continuations_over_test = done_test continuations_are_over

pub continuations_over_at_end : (program : Program) (setup : Setup) (hosts : List HostClosure) {q : Page} → Moves (first_page program setup hosts) q → Kept continuations_over_test q.events
continuations_over_at_end program setup hosts a =
    moves-kept continuations_are_over a
    (λ r b z none. all-over r (grounds-later b (first-grounds program setup hosts)) (moves-over kind.Yield true InQueue Always leaving refl called (λ p q a g. tt) b tt (first-fits program setup hosts)) z.0) tt
