-- Turns and runs are rows of moves.
use Rattle.page_parts.specs.WrittenChoices.{is_runnable}
use Rattle.page_model.proofs.Holding.Turns.{legal_choice}
use Rattle.page_model.proofs.Bounding.Ending.{runnable-there}
use Rattle.page_model.proofs.Bounding.Pending.{target-pending}
use Rattle.lang_meaning.specs.Evaluation.{call_from_outside}
use Rattle.lang_meaning.specs.Machine.{Caller, Done, Gives, OutOfFuel, Returns, Throws, finish}
use Rattle.page_laws.proofs.Framed.{CameAfter, FramesKept, Ordered, Stayed, kept-same}
use Rattle.page_laws.proofs.Evaluating.{Lasts, Onto, lasting, lasts-then, Reached, le-same, on_page-reached}
use Rattle.page_laws.proofs.Following.{Sound, first-sound, levels, sound-by}
use Rattle.page_laws.proofs.Tracking.{changes-sound, outside, turn-follows}
use Rattle.page_laws.proofs.Scans.{Kept}
use Rattle.page_laws.proofs.Moved.{quietly, start_period-changes}
use Rattle.page_laws.proofs.Ready.{Ready, first-ready, moves-ready, none-invokes}
use Rattle.page_laws.proofs.Moving.{moves-then}
use Rattle.page_laws.proofs.Arming.{Tidy, first-tidy, moves-tidy}
use Rattle.page_laws.proofs.Onto.{parallel-onto}
use Rattle.page_model.proofs.GivenNumbers.Tasks.{answer_host-held}
use Rattle.page_laws.proofs.Operations.{outside-goes}
use Rattle.page_laws.proofs.Runs.{AtTop, AtZeroTop, CallsGo, Clears, at_top-later, checkpoint-clears, finish-goes, finish_page, in_task-goes}
use Rattle.page_laws.proofs.Numbered.{Numbered, first-numbered, moves-numbered}
use Rattle.page_laws.proofs.Watching.{PostsWatched, first-posts}
use Rattle.page_laws.proofs.Watches.{host-undelayed}
use Rattle.page_laws.proofs.Intervals.{AllBut, PostsStay, TimersWait, all-wait, first-waiting, no_hand, timers-same}
use Rattle.page_laws.proofs.TimersStand.{TimersStand, first-stand, timers-stand}
use Rattle.page_laws.proofs.Tasks.{answer_task-changes, Begins, Halts, IsOver, Rested, Tasked, tasked, left-alone, after_task-rests, sched_task-goes, task-goes, without_task-held, without_task-onto}
use Rattle.page_types.specs.declared.RegKind.TheVariants as kind
use Rattle.page_laws.specs.Moves.{calmly, role_at, ComesTo, moved, unanswered, HasSteps, IsAtEnd, idling, FrameIsOver, marked, places_stay, Moves, changing, elsewhere, here, nothing, rested, sched_begun, told, with_change}
use Rattle.page_model.proofs.GivenNumbers.Evaluation.{Good, on_page-good}
use Rattle.page_model.proofs.GivenNumbers.Growing.{Each-find, Grows-same, InSchedTasks, InTasks, onward-then, stays}
use Rattle.page_model.proofs.GivenNumbers.Pages.{idle_step-held}
use Rattle.page_model.proofs.GivenNumbers.Turns.{first_state-good}
use Rattle.page_model.specs.Choosing.{Chosen, Rules, chosen_answer, chosen_reading, chosen_source}
use Rattle.page_model.specs.Invoke.{in_task}
use Rattle.page_model.specs.Numbers.{Each, HasPromise, HostTaskIsGiven, HoldsNoNumbers, IfThere, Made, SchedTaskIsGiven, StepsAreGiven, TaskIsGiven, made_by}
use Rattle.page_model.specs.Operations.{page_operations}
use Rattle.page_model.specs.PageSignals.{host_task_of, is_aborted_source}
use Rattle.page_model.specs.PageTime.{completion_of, deadline, first_task, start_period, idle_step, period_begun, without_timer}
use Rattle.page_model.specs.SchedulerTasks.{enqueue, first_of, first_sched, first_sched_from, goes_before}
use Rattle.page_model.specs.Parallel.{ArrivalItem, FrameItem, HostItem, IdleItem, Item, ItemKind, TimerItem, complete, complete_at, due_item, first_item, item_count, parallel, take_due, take_item}
use Rattle.page_model.specs.State.{OfKind, AnswerHost, Completion, EnqueuePost, FireAtWindow, HostTask, IdleTimeout, InvokeIdle, NotifyHandled, NotifyRejected, Page, QueueSignal, QueueTimer, RunFrame, RunScript, RunTimer, SchedTask, State, Steps, Task, TimeOutSignal, emit, on_page, the_registration}
use Rattle.page_model.specs.Tasks.{after_task, answer_host, perform_sched, perform_steps}
use Rattle.page_model.specs.Turns.{Ended, GoesOn, Stuck, Turned, after_step_one, host_answered, at_time, choose_turned, counted_turn, ends, first_page, first_state, from_step_one, goes_on, is_pending, next_turn, not_dropped, perform, perform_first, perform_first_sched, perform_host, perform_picked, perform_task, run_by, state_of, step_five, step_four, step_one, step_three, step_two, step_two_at, step_two_by, target, task_done, turn, turn_line, turns, waited, with_turn_fuel, without_task, from_step_three}
use Rattle.page_model.specs.View.{view}
use Rattle.page_parts.specs.HostClosures.{HostClosure}
use Rattle.page_parts.specs.IdleCallbacks.{waits}
use Rattle.page_parts.specs.Notices.{Notices, WaitingJob}
use Rattle.page_parts.specs.Setup.{Setup}
use Rattle.page_parts.specs.Sources.{same_source}
use Rattle.page_parts.specs.Words.{is_empty, is_there}
use Rattle.page_parts.specs.WrittenChoices.{Runnable}
use Rattle.page_types.specs.Events.{Due, EndLine, Event, Turn, Wait}
use Rattle.page_types.specs.Tree.{Program}
use Rattle.page_types.specs.declared.End.{End}
use Rattle.page_types.specs.declared.End.TheVariants.{Clock as ClockEnd, Done as DoneEnd, Fuel as FuelEnd}
use Rattle.page_types.specs.declared.Source.{Source}
use Rattle.page_types.specs.declared.Source.TheVariants.{Dom, Idle, Net, Render, Sched, Timer, User}
use Rattle.std.proofs.Common.{Bool, List, None, Option, Result, Some, [], ap, cond, false, inl, inr, ◌⊎◌, max, nat_le, nat_lt, refl, slice_get, subst, suc, sym, true, unwrap_or, zero, ℕ, ℤ, ◌&&◌, ◌||◌, ◌∙◌, ◌∷◌, ◌≡◌, arith}
use Rattle.std.specs.Prelude.{◌==◌, option_map}
use Rattle.page_laws.specs.History.{is_period, is_rest, is_sched, is_sched_turn}

-- ---- queues

pub host_task_of-given : (n : Made) (steps : Steps) → StepsAreGiven n steps → IfThere (λ (t : HostTask). HasPromise n t.registration) (host_task_of steps)
host_task_of-given n (AnswerHost t) h = h.registration
host_task_of-given n RunScript h = tt
host_task_of-given n (RunTimer t) h = tt
host_task_of-given n (TimeOutSignal s) h = tt
host_task_of-given n (FireAtWindow name v) h = tt
host_task_of-given n (RunFrame t) h = tt
host_task_of-given n InvokeIdle h = tt
host_task_of-given n (IdleTimeout handle) h = tt
host_task_of-given n (NotifyRejected ks) h = tt
host_task_of-given n (NotifyHandled k) h = tt

-- what a task asks of a host
asks_host : (steps : Steps) (t : HostTask) → host_task_of steps ≡ Some t → steps ≡ AnswerHost t
asks_host (AnswerHost u) t e = ap AnswerHost (ap {A = Option HostTask} {B = HostTask} (λ o. unwrap_or o u) e)
asks_host RunScript t e = Prim.cc
asks_host (RunTimer u) t e = Prim.cc
asks_host (TimeOutSignal s) t e = Prim.cc
asks_host (FireAtWindow name v) t e = Prim.cc
asks_host (RunFrame u) t e = Prim.cc
asks_host InvokeIdle t e = Prim.cc
asks_host (IdleTimeout handle) t e = Prim.cc
asks_host (NotifyRejected ks) t e = Prim.cc
asks_host (NotifyHandled k) t e = Prim.cc

sched_from-given : (n : Made) (p : Page) (a : SchedTask) (ts : List SchedTask) → SchedTaskIsGiven n a → Each (SchedTaskIsGiven n) ts → SchedTaskIsGiven n (first_sched_from p a ts)
sched_from-given n p a [] x h = x
sched_from-given n p a (b ∷ more) x h = sched_from-given n p (cond (goes_before p b a) b a) more (by_order (goes_before p b a)) h.1
  where
    by_order : (c : Bool) → SchedTaskIsGiven n (cond c b a)
    by_order true = h.0
    by_order false = x

pub sched_of-given : (n : Made) (p : Page) (ts : List SchedTask) → Each (SchedTaskIsGiven n) ts → IfThere (SchedTaskIsGiven n) (first_of p ts)
sched_of-given n p [] h = tt
sched_of-given n p (a ∷ more) h = sched_from-given n p a more h.0 h.1

-- a line changes nothing of which scheduler task is the first
sched_from-line : (e : Event) (p : Page) (a : SchedTask) (ts : List SchedTask) → first_sched_from (emit e p) a ts ≡ first_sched_from p a ts
sched_from-line e p a [] = refl
sched_from-line e p a (b ∷ others) = sched_from-line e p (cond (goes_before p b a) b a) others

pub sched_of-line : (e : Event) (p : Page) (ts : List SchedTask) → first_of (emit e p) ts ≡ first_of p ts
sched_of-line e p [] = refl
sched_of-line e p (a ∷ others) = ap Some (sched_from-line e p a others)

-- ---- promises and jobs stay in parallel items and in the idle step

complete-notices : (c : Completion) (p : Page) → (complete c p).notices ≡ p.notices
complete-notices (QueueTimer t) p = refl
complete-notices (EnqueuePost r source) p = by_abort (is_aborted_source p (the_registration p r).signal)
  where
    by_abort : (b : Bool) → (cond b (λ q. q) (enqueue r source false) (emit (Due r) p)).notices ≡ p.notices
    by_abort true = refl
    by_abort false = refl
complete-notices (QueueSignal r s) p = refl

complete_at-notices : (c : Option Completion) (p : Page) → (complete_at c p).notices ≡ p.notices
complete_at-notices None p = refl
complete_at-notices (Some c) p = complete-notices c p

take_item-notices : (what : ItemKind) (p : Page) → (take_item what p).notices ≡ p.notices
take_item-notices (ArrivalItem n a) p = refl
take_item-notices (HostItem a) p = refl
take_item-notices (TimerItem t) p = complete_at-notices (completion_of p.completions t.start) (without_timer t.start p)
take_item-notices (IdleItem t) p = refl
take_item-notices FrameItem p = refl

abbrev SameNotices : Page → Page → Type 0
SameNotices p q = q.notices ≡ p.notices

take_due-notices : (n : ℕ) (p : Page) → (take_due n p).notices ≡ p.notices
take_due-notices zero p = refl
take_due-notices (suc n) p = by_item (due_item p.now (first_item p)) (λ a. take_due-notices n (take_item a.what p))
  where
    by_item : (o : Option Item) → ((a : Item) → (take_due n (take_item a.what p)).notices ≡ (take_item a.what p).notices) → SameNotices p (elim o [ None ↦ p | Some a ↦ take_due n (take_item a.what p) ])
    by_item None k = refl
    by_item (Some a) k = k a ∙ take_item-notices a.what p

pub idle_step-notices : (p : Page) → (idle_step p).notices ≡ p.notices
idle_step-notices p = by_start (waits before.idle && nat_lt before.now (deadline before.last_idle_start before) && nat_le before.idle_period_end before.now)
  where
    before : Page
    before = record p { last_idle_start = p.now }

    by_start : (b : Bool) → (cond b (period_begun (deadline before.last_idle_start before) before) before).notices ≡ p.notices
    by_start true = refl
    by_start false = refl

-- ---- turns

-- no frame is in progress, tasks of idle callbacks find what they need, no registration waits twice, tasks have different numbers, timers
-- stand well, each interval waits that was not dropped, each delayed post can be aborted, where no abort is under way;
-- and the law of levels holds
abbrev pub Calm : State → Type 0
Calm m = FrameIsOver m.host × Ready m.host × Tidy m.host × Numbered m.host × TimersStand m.host × AllBut no_hand m.host × PostsWatched (λ s. false) m.host × Sound m.host

-- between turns no call is open, no checkpoint is performed, no job waits, and the nesting level is 0
abbrev pub Rests : State → Type 0
Rests m = AtTop m × m.host.notices.jobs ≡ [] × Calm m × m.host.level ≡ 0

-- where no frame is in progress, none is behind what went on since
over-later : (m r : State) → FramesKept m.host r.host → Ordered m.host → FrameIsOver m.host → FrameIsOver r.host
over-later m r k o over c i = by_place (k.each o c i)
  where
    by_place : Stayed m.host r.host c ⊎ CameAfter m.host r.host c → marked r.host.events c.registration ≡ false
    by_place (inl s) = s.1 ∙ over c s.0
    by_place (inr n) = n.2

pub calm-later : (m r : State) → Moves m.host r.host → FramesKept m.host r.host → TimersWait m.host r.host → PostsStay m.host r.host → Ordered m.host → Calm m → Sound r.host → Calm r
calm-later m r a k w v o x s = (over-later m r k o x.0, moves-ready a x.1, moves-tidy a x.2, moves-numbered a x.3, timers-stand a x.4, w (x.4, x.3) no_hand x.5, v (λ s. false) x.6, s)

-- a state between turns that is reached from another one
abbrev pub Comes : State → State → Type 0
Comes m r = Lasts m r × Good r × Rests r

pub comes-then : (m r s : State) → Lasts m r → Comes r s → Comes m s
comes-then m r s le h = (lasts-then m r s le h.0, h.1, h.2)

-- a change that leaves promises and jobs
pub comes_by : (m : State) (f : Page → Page) → Good m → Rests m → Onto m.host (f m.host) → (f m.host).notices ≡ m.host.notices → Comes m (on_page f m)
comes_by m f g x o e =
    let a = on_page-reached m f g o in
    (lasting m (on_page f m) a.0, a.1, (at_top-later m (on_page f m) a.0.2 a.0.3 x.0, ap {A = Notices} {B = List WaitingJob} (λ s. s.jobs) e ∙ x.1, calm-later m (on_page f m) a.0.1 a.0.3 a.0.5.waits a.0.5.posts x.0.2 x.2 (changes-sound o.1 x.0.0 x.2.7), a.0.6.level (outside x.0.1) ∙ x.3))

comes_here : (m : State) → Good m → Rests m → Comes m m
comes_here m g x = (lasting m m (le-same m), g, x)

-- a line between turns
rested-onto : (e : Event) (m : State) → is_rest e ≡ true → is_sched_turn e ≡ false → is_period e ≡ false → (e ≡ EndLine DoneEnd → IsAtEnd m.host) → Good m → Rests m → Onto m.host (emit e m.host)
rested-onto e m h k none done g x = (stays m.host g.0, with_change nothing (rested e h x.0.0 x.1 k x.2.0 ((λ e. absurd (no_period (sym none ∙ e))), λ e. x.3) done) tt)
  where
    no_period : false ≡ true → ⊥
    no_period e = Prim.cc

-- the idle step, where no task is runnable
pub idle_step-comes : (m : State) → Good m → Rests m → is_empty (view m.host) ≡ true → Comes m (on_page idle_step m)
idle_step-comes m g x empty =
    comes-then m mid (on_page idle_step m) now.0
    (comes_by mid start_period now.1 now.2 (idle_step-held m.host g.0, start_period-changes mid.host refl x.0.0 x.1 x.2.0 now.1.0) (idle_step-notices m.host))
  where
    mid : State
    mid = on_page (λ p. record p { last_idle_start = p.now }) m

    none : HasSteps InvokeIdle m.host.tasks → ⊥
    none h = none-invokes m.host x.2.1 empty h

    row : Moves m.host mid.host
    row = idling here none

    now : Comes m (on_page (λ p. record p { last_idle_start = p.now }) m)
    now = (
      (Grows-same (made_by m.host), row, (refl, refl, refl), kept-same m.host mid.host refl refl refl, (timers-same m.host mid.host refl refl refl refl).waits, (timers-same m.host mid.host refl refl refl refl).posts),
      (on_page-good m (λ p. record p { last_idle_start = p.now }) g (stays mid.host g.0)).1,
      (x.0, x.1, (x.2.0, moves-ready row x.2.1, moves-tidy row x.2.2, moves-numbered row x.2.3, timers-stand row x.2.4, x.2.5, x.2.6, sound-by m.host mid.host row x.2.7 x.2.7.law), x.3),
    )

step_five-comes : (m : State) → Good m → Rests m → Comes m (step_five m)
step_five-comes m g x = by_view (is_empty (view m.host)) refl
  where
    by_view : (b : Bool) → is_empty (view m.host) ≡ b → Comes m (cond b (on_page idle_step) (λ m. m) m)
    by_view true e = idle_step-comes m g x e
    by_view false e = comes_here m g x

pub step_one-comes : (m : State) → Good m → Rests m → Comes m (step_one m)
step_one-comes m g x = by_turns (m.host.turns == 0)
  where
    by_turns : (b : Bool) → Comes m (cond b m (on_page parallel m))
    by_turns true = comes_here m g x
    by_turns false = comes_by m parallel g x (parallel-onto m.host g.0 x.2.6) (take_due-notices (item_count m.host) m.host)

-- behind a row of moves
pub comes_to-then : {p q r : Page} → Moves p q → ComesTo q r → ComesTo p r
comes_to-then a (moved b) = moved (moves-then a b)
comes_to-then a (unanswered b source task t e steps) = unanswered (moves-then a b) source task t e steps

module _ {C : Type 0} (program : Program) where
  -- how a turn ends: it goes on between turns, or what happened till its end is a row of moves, or it is stuck
  abbrev pub Lands : State → Turned C → Type 0
  Lands m (GoesOn r c) = Comes m r
  Lands m (Ended end r c) = Halts m r
  Lands m (Stuck at r c) = ComesTo m.host r.host × Kept (levels m.host.form) r.host.events

  pub lands-then : (m r : State) (t : Turned C) → Lasts m r → Lands r t → Lands m t
  lands-then m r (GoesOn s c) le h = comes-then m r s le h
  lands-then m r (Ended end s c) le h = (moves-then le.1 h.0, subst (λ (n : ℕ). Kept (levels n) s.host.events) le.2.2 h.1)
  lands-then m r (Stuck at s c) le h = (comes_to-then le.1 h.0, subst (λ (n : ℕ). Kept (levels n) s.host.events) le.2.2 h.1)

  pub ends-lands : (end : End) (c : C) (m : State) → (end ≡ DoneEnd → IsAtEnd m.host) → Good m → Rests m → Lands m (ends end c m)
  ends-lands DoneEnd c m done g x = ((on_page-reached m (emit (EndLine DoneEnd)) g (rested-onto (EndLine DoneEnd) m refl refl refl (λ e. done refl) g x)).0.1, (refl, x.2.7.law))
  ends-lands ClockEnd c m done g x = ((on_page-reached m (emit (EndLine ClockEnd)) g (rested-onto (EndLine ClockEnd) m refl refl refl (λ e. absurd (no_done e)) g x)).0.1, (refl, x.2.7.law))
    where
      no_done : EndLine ClockEnd ≡ EndLine DoneEnd → ⊥
      no_done e = Prim.cc
  ends-lands FuelEnd c m done g x = (changing here (told (EndLine FuelEnd) refl) tt, (refl, x.2.7.law))

  -- an end by the clock
  pub clock-lands : (c : C) (m : State) → Good m → Rests m → Lands m (ends ClockEnd c m)
  clock-lands c m g x = ends-lands ClockEnd c m (λ e. absurd (other e)) g x
    where
      other : ClockEnd ≡ DoneEnd → ⊥
      other e = Prim.cc

  pub choose-lands : (b : Bool) (then else : State → Turned C) (m : State) → Lands m (then m) → Lands m (else m) → Lands m (choose_turned b then else m)
  choose-lands true then else m h k = h
  choose-lands false then else m h k = k

  -- where a turn stops
  abbrev pub Stops : State → Turned C → Type 0
  Stops m t = ComesTo m.host (state_of t).host × Kept (levels m.host.form) (state_of t).host.events

  module _ (rules : Rules C) (call : Caller Page) (calls_go : CallsGo program call) where
    -- no task is current any more, and a checkpoint is performed
    after_task-lands : (c : C) (m : State) → Good m → AtTop m → Calm m → IsOver m → Lands m (goes_on c (after_task call m))
    after_task-lands c m g z y over = by_end (after_task call m) (after_task-rests program call calls_go m g z over) (checkpoint-clears call (on_page (λ p. record p { level = 0; scheduling = None }) m) z.1)
      where
        by_end : (d : Done Page) → Rested program m d → Clears d → Lands m (goes_on c d)
        by_end (Gives v r) h k = (h.0, h.1, (at_top-later m r h.0.2 h.0.3 z, k, calm-later m r h.0.1 h.0.3 h.0.4 h.0.5 z.2 y h.2, h.3))
        by_end (Throws v r) h k = elim k [ ]
        by_end (Returns v r) h k = elim k [ ]
        by_end (OutOfFuel r) h k = (changing h.0 (told (EndLine FuelEnd) refl) tt, (refl, h.1))

    task_done-lands : (c : C) (m : State) (d : Done Page) → AtTop m → Calm m → Tasked m d → Lands m (task_done call c d)
    task_done-lands c m (Gives v r) z y h = lands-then m r (goes_on c (after_task call r)) h.0 (after_task-lands c r h.1 (at_top-later m r h.0.2 h.0.3 z) (calm-later m r h.0.1 h.0.3 h.0.4 h.0.5 z.2 y h.2.0) h.2)
    task_done-lands c m (Throws v r) z y h = lands-then m r (goes_on c (after_task call r)) h.0 (after_task-lands c r h.1 (at_top-later m r h.0.2 h.0.3 z) (calm-later m r h.0.1 h.0.3 h.0.4 h.0.5 z.2 y h.2.0) h.2)
    task_done-lands c m (Returns v r) z y h = lands-then m r (goes_on c (after_task call r)) h.0 (after_task-lands c r h.1 (at_top-later m r h.0.2 h.0.3 z) (calm-later m r h.0.1 h.0.3 h.0.4 h.0.5 z.2 y h.2.0) h.2)
    task_done-lands c m (OutOfFuel r) z y h = (changing h.0 (told (EndLine FuelEnd) refl) tt, (refl, h.1))

    pub turn_line-comes : (source : Option Source) (m : State) → is_sched source ≡ false → Good m → Rests m → Comes m (turn_line source m)
    turn_line-comes source m k g x = comes_by m (λ p. emit (Turn p.turns source) p) g x (rested-onto (Turn m.host.turns source) m refl k refl (λ e. absurd (no_end source e)) g x) refl
      where
        no_end : (source : Option Source) → Turn m.host.turns source ≡ EndLine DoneEnd → ⊥
        no_end source e = Prim.cc

    perform_first-lands : (source : Source) (task : Option Task) (m : State) (c : C) → first_task source m.host.tasks ≡ task → Good m → AtZeroTop m → Begins m → Calm m → IfThere (TaskIsGiven (made_by m.host)) task → Lands m (perform_first rules call task m c)
    perform_first-lands source None m c e g z fresh over x = (moved here, over.7.law)
    perform_first-lands source (Some task) m c e g z fresh over x = by_host (host_task_of task.steps) refl (host_task_of-given (made_by m.host) task.steps x.steps)
      where
        leaves : (t : HostTask) → task.steps ≡ AnswerHost t → is_there (not_dropped (slice_get m.host.hosts t.closure)) ≡ false → Reached m (on_page (without_task task.number) m)
        leaves t e1 gone = on_page-reached m (without_task task.number) g (without_task-onto task.number m.host g.0 (left-alone m.host source task (AnswerHost t) over.3 e e1 gone))

        by_host : (t : Option HostTask) → host_task_of task.steps ≡ t → IfThere (λ (t : HostTask). HasPromise (made_by m.host) t.registration) t → Lands m (perform_task rules call task t (on_page (without_task task.number) m) c)
        by_host None k y =
            task_done-lands c m (perform_steps (in_task call) task.steps (on_page (without_task task.number) m)) z.0 over
            (task-goes program (in_task call) (in_task-goes program call calls_go) source task m (checkpoint-clears call) z fresh g z z.0.2 over.1 over.2 over.3 e k x.steps)
        by_host (Some t) k y = by_closure (not_dropped (slice_get m.host.hosts t.closure)) refl
          where
            n : State
            n = on_page (without_task task.number) m

            host_kind : (steps : Steps) → steps ≡ AnswerHost t → StepsAreGiven (made_by m.host) steps → role_at m.host.registrations t.registration ≡ OfKind kind.Host
            host_kind steps same given = of_host (subst (StepsAreGiven (made_by m.host)) same given)
              where
                of_host : HostTaskIsGiven (made_by m.host) t → role_at m.host.registrations t.registration ≡ OfKind kind.Host
                of_host u = u.kind.role

            answered-onto : is_there (not_dropped (slice_get m.host.hosts t.closure)) ≡ true → (answer : Result ℤ ℤ) → Onto m.host (answer_host t answer n.host)
            answered-onto live answer =
                let first = without_task-held task.number m.host g.0 in
                (onward-then (made_by m.host) n.host (answer_host t answer n.host) first (answer_host-held t answer n.host first.1 y), answer_task-changes source task t answer m.host e (asks_host task.steps t k) live y.promise (host-undelayed t.registration m.host g.0 (host_kind task.steps (asks_host task.steps t k) x.steps)))

            by_answer : is_there (not_dropped (slice_get m.host.hosts t.closure)) ≡ true → (a : Option (Chosen (Result ℤ ℤ) C)) → Lands m (host_answered call t a n c)
            by_answer live None = (unanswered here source task t e (asks_host task.steps t k), over.7.law)
            by_answer live (Some a) = task_done-lands a.left m (finish (on_page (answer_host t a.choice) n)) z.0 over (tasked program m (finish (on_page (answer_host t a.choice) n)) z (finish_page program m (λ p. answer_host t a.choice (without_task task.number p)) g (answered-onto live a.choice)))

            by_closure : (closure : Option HostClosure) → not_dropped (slice_get m.host.hosts t.closure) ≡ closure → Lands m (perform_host rules call t closure n c)
            by_closure None gone =
                let left = leaves t (asks_host task.steps t k) (ap {A = Option HostClosure} {B = Bool} is_there gone) in
                lands-then m n (perform_host rules call t None n c) (lasting m n left.0) (task_done-lands c n (finish n) (at_top-later m n left.0.2 left.0.3 z.0) (calm-later m n left.0.1 left.0.3 left.0.5.waits left.0.5.posts z.0.2 over (left.0.6.follows z.2).sound)
                (tasked program n (finish n) (at_top-later m n left.0.2 left.0.3 z.0, left.0.6.level (outside z.0.1) ∙ z.1, left.0.6.follows z.2) (finish-goes program n left.1)))
            by_closure (Some closure) live = by_answer (ap {A = Option HostClosure} {B = Bool} is_there live) (chosen_answer rules closure.kind t.number c)

    first_task-lands : (source : Source) (m : State) (c : C) → Good m → AtZeroTop m → Begins m → Calm m → Lands m (perform_first rules call (first_task source m.host.tasks) m c)
    first_task-lands source m c g z fresh over =
        perform_first-lands source (first_task source m.host.tasks) m c refl g z fresh over (Each-find (TaskIsGiven (made_by m.host)) (λ t. same_source t.source source) m.host.tasks (g.0 InTasks))

    -- the scheduler's turn, from before its line
    sched-lands : (t : Option SchedTask) (m : State) (c : C) → first_sched m.host ≡ t → is_there t ≡ true → Good m → Rests m → IfThere (SchedTaskIsGiven (made_by m.host)) t → Lands m (perform_first_sched call t (turn_line (Some Sched) m) c)
    sched-lands None m c e k g x y = absurd (none k)
      where
        none : false ≡ true → ⊥
        none e = Prim.cc
    sched-lands (Some t) m c e k g x y =
        task_done-lands c m (perform_sched (in_task call) t (on_page (sched_begun t) m)) x.0 x.2
        (sched_task-goes program (in_task call) (in_task-goes program call calls_go) t m x.3 x.2.7 x.0 g x.0 e x.0.0 x.1 x.2.0 y)

    -- any other turn, from before its line
    other-lands : (source : Source) (m : State) (c : C) → is_sched (Some source) ≡ false → Good m → Rests m → Lands m (perform_first rules call (first_task source (turn_line (Some source) m).host.tasks) (turn_line (Some source) m) c)
    other-lands source m c k g x =
        let a = turn_line-comes (Some source) m k g x in
        lands-then m (turn_line (Some source) m) _ a.0 (first_task-lands source (turn_line (Some source) m) c a.1 (a.2.0, a.2.3, turn-follows (Turn m.host.turns (Some source)) m.host refl a.2.2.7 x.0.0 x.1 x.3) (refl, x.1) a.2.2)

    perform_picked-lands : (s : Option (Chosen Source C)) (m : State) (c : C) → IfThere (λ (s : Chosen Source C). is_runnable (view m.host) s.choice ≡ true) s → Good m → Rests m → Lands m (perform_picked rules call s m c)
    perform_picked-lands None m c k g x = (moved here, x.2.7.law)
    perform_picked-lands (Some s) m c k g x = by_source s.choice k
      where
        task_there : (o : Option SchedTask) → is_there (option_map (λ t. t.order) o) ≡ true → is_there o ≡ true
        task_there None e = e
        task_there (Some t) e = refl

        by_source : (source : Source) → is_runnable (view m.host) source ≡ true → Lands m (perform rules call source (turn_line (Some source) m) s.left)
        by_source Sched k =
            subst (λ (t : Option SchedTask). Lands m (perform_first_sched call t (turn_line (Some Sched) m) s.left)) (sym (sched_of-line (Turn m.host.turns (Some Sched)) m.host m.host.sched_tasks))
            (sched-lands (first_sched m.host) m s.left refl (task_there (first_sched m.host) (runnable-there m.host Sched k)) g x (sched_of-given (made_by m.host) m.host m.host.sched_tasks (g.0 InSchedTasks)))
        by_source User k = other-lands User m s.left refl g x
        by_source Net k = other-lands Net m s.left refl g x
        by_source Dom k = other-lands Dom m s.left refl g x
        by_source Timer k = other-lands Timer m s.left refl g x
        by_source Render k = other-lands Render m s.left refl g x
        by_source Idle k = other-lands Idle m s.left refl g x

    step_four-lands : (rs : List Runnable) (m : State) (c : C) → rs ≡ view m.host → Good m → Rests m → Lands m (step_four rules call rs m c)
    step_four-lands [] m c e g x = turn_line-comes None m refl g x
    step_four-lands (r ∷ rs) m c e g x = perform_picked-lands (chosen_source rules (r ∷ rs) c) m c (by_choice (chosen_source rules (r ∷ rs) c) refl) g x
      where
        by_choice : (o : Option (Chosen Source C)) → chosen_source rules (r ∷ rs) c ≡ o → IfThere (λ (s : Chosen Source C). is_runnable (view m.host) s.choice ≡ true) o
        by_choice None k = tt
        by_choice (Some s) k = subst (λ (ys : List Runnable). is_runnable ys s.choice ≡ true) e (legal_choice (is_runnable (r ∷ rs)) (rules.source (r ∷ rs) c) s k)

    with_turn_fuel-lands : (fuel : ℕ) (m : State) (c : C) → Good m → Rests m → Lands m (with_turn_fuel rules call fuel m c)
    with_turn_fuel-lands zero m c g x = (changing here (told (EndLine FuelEnd) refl) tt, (refl, x.2.7.law))
    with_turn_fuel-lands (suc left) m c g x =
        let counted = counted_turn left m in
        let row : Moves m.host counted.host = changing here (elsewhere places_stay (record { notices = refl; performing = refl; events = refl; registrations = refl; frames = refl; calls = refl; aborted = λ s h. h; watched = calmly (λ s r i. inr (i, λ h. h)); level = refl; form = refl; scheduling = record { priorities = λ s. refl; states = refl; tasks_made = omega arith; idle_start = refl } }) tt) tt in
        lands-then m counted (step_four rules call (view m.host) counted c) (Grows-same (made_by m.host), row, (refl, refl, refl), kept-same m.host counted.host refl refl refl, (timers-same m.host counted.host refl refl refl refl).waits, (timers-same m.host counted.host refl refl refl refl).posts) (step_four-lands (view m.host) counted c refl g (x.0, x.1, (x.2.0, moves-ready row x.2.1, moves-tidy row x.2.2, moves-numbered row x.2.3, timers-stand row x.2.4, x.2.5, x.2.6, sound-by m.host counted.host row x.2.7 x.2.7.law), x.3))

    pub step_three-lands : (until : ℕ) (c : C) (m : State) → Good m → Rests m → Lands m (step_three rules call until c m)
    step_three-lands until c m g x =
        choose-lands (nat_le until m.host.now) (ends ClockEnd c) (λ m. with_turn_fuel rules call m.fuel m c) m (clock-lands c m g x) (with_turn_fuel-lands m.fuel m c g x)

    -- steps 3 and 4, and then the idle step
    step_five-lands : (t : Turned C) (m : State) → Lands m t → Lands m (next_turn t (λ m c. GoesOn (step_five m) c))
    step_five-lands (GoesOn r c) m h = comes-then m r (step_five r) h.0 (step_five-comes r h.1 h.2)
    step_five-lands (Ended end r c) m h = h
    step_five-lands (Stuck at r c) m h = h

    from_step_three-lands : (until : ℕ) (c : C) (m : State) → Good m → Rests m → Lands m (from_step_three rules call until c m)
    from_step_three-lands until c m g x = step_five-lands (step_three rules call until c m) m (step_three-lands until c m g x)

    -- the turn from its beginning, or a step of it
    abbrev LandsAgain : (State → C → Turned C) → Type 0
    LandsAgain again = (r : State) (c : C) → Good r → Rests r → Lands r (again r c)

    abbrev LandsNext : (State → Turned C) → Type 0
    LandsNext next = (r : State) → Good r → Rests r → Lands r (next r)

    pub at_time-comes : (t : ℕ) (m : State) → Good m → Rests m → Comes m (on_page (λ p. at_time t p) m)
    at_time-comes t m g x = comes_by m (λ p. at_time t p) g x (stays m.host g.0, quietly m.host (at_time t m.host) refl refl refl refl refl refl refl refl refl) refl

    waited-lands : (t : ℕ) (x : Option (Chosen ℕ C)) (again : State → C → Turned C) (c : C) (m : State) → LandsAgain again → Good m → Rests m → Lands m (waited t x again c m)
    waited-lands t None again c m k g z = (moved here, z.2.7.law)
    waited-lands t (Some x) again c m k g z =
        let there = on_page (λ p. at_time x.choice p) m in
        let later = on_page (λ p. emit (Wait t) (at_time x.choice p)) m in
        let a = at_time-comes x.choice m g z in
        let b = comes_by there (emit (Wait t)) a.1 a.2 (rested-onto (Wait t) there refl refl refl (λ e. absurd (no_end e)) a.1 a.2) refl in
        lands-then m later (again later x.left) (lasts-then m there later a.0 b.0) (k later x.left b.1 b.2)
      where
        no_end : Wait t ≡ EndLine DoneEnd → ⊥
        no_end e = Prim.cc

    step_two_at-lands : (until t : ℕ) (again : State → C → Turned C) (next : State → Turned C) (c : C) (m : State) → LandsAgain again → LandsNext next → Good m → Rests m → Lands m (step_two_at rules until t again next c m)
    step_two_at-lands until t again next c m k h g z =
        let late = on_page (λ p. at_time (max p.now until) p) m in
        let a = at_time-comes (max m.host.now until) m g z in
        choose-lands (nat_le until m.host.now || nat_le until t) (λ m. ends ClockEnd c (on_page (λ p. at_time (max p.now until) p) m)) (choose_turned (nat_lt m.host.now t) (waited t (chosen_reading rules t c) again c) next) m
        (lands-then m late (ends ClockEnd c late) a.0 (clock-lands c late a.1 a.2))
        (choose-lands (nat_lt m.host.now t) (waited t (chosen_reading rules t c) again c) next m (waited-lands t (chosen_reading rules t c) again c m k g z) (h m g z))

    step_two_by-lands : (until : ℕ) (t : Option ℕ) (again : State → C → Turned C) (next : State → Turned C) (c : C) (m : State) → is_empty (view m.host) ≡ true → target m.host ≡ t → LandsAgain again → LandsNext next → Good m → Rests m → Lands m (step_two_by rules until t again next c m)
    step_two_by-lands until None again next c m empty aim k h g z = ends-lands DoneEnd c m (λ e. (empty, sym (target-pending m.host empty) ∙ ap is_there aim, all-wait m.host z.2.5)) g z
    step_two_by-lands until (Some t) again next c m empty aim k h g z = step_two_at-lands until t again next c m k h g z

    step_two-lands : (until : ℕ) (again : State → C → Turned C) (next : State → Turned C) (c : C) (m : State) → is_empty (view m.host) ≡ true → LandsAgain again → LandsNext next → Good m → Rests m → Lands m (step_two rules until again next c m)
    step_two-lands until again next c m empty k h g z = by_pending (is_pending m.host) refl
      where
        by_pending : (b : Bool) → is_pending m.host ≡ b → Lands m (choose_turned b (step_two_by rules until (target m.host) again next c) (ends DoneEnd c) m)
        by_pending true e = step_two_by-lands until (target m.host) again next c m empty refl k h g z
        by_pending false e = ends-lands DoneEnd c m (λ done. (empty, e, all-wait m.host z.2.5)) g z

    after_step_one-lands : (until : ℕ) (again : State → C → Turned C) (c : C) (m : State) → LandsAgain again → Good m → Rests m → Lands m (after_step_one rules call until again c m)
    after_step_one-lands until again c m k g z = by_view (is_empty (view m.host)) refl
      where
        by_view : (b : Bool) → is_empty (view m.host) ≡ b → Lands m (choose_turned b (step_two rules until again (from_step_three rules call until c) c) (from_step_three rules call until c) m)
        by_view true e = step_two-lands until again (from_step_three rules call until c) c m e k (from_step_three-lands until c) g z
        by_view false e = from_step_three-lands until c m g z

    from_step_one-lands : (until n : ℕ) (m : State) (c : C) → Good m → Rests m → Lands m (from_step_one rules call until n m c)
    from_step_one-lands until zero m c g z = (moved here, z.2.7.law)
    from_step_one-lands until (suc n) m c g z =
        let one = step_one m in
        let a = step_one-comes m g z in
        lands-then m one (after_step_one rules call until (from_step_one rules call until n) c one) a.0 (after_step_one-lands until (from_step_one rules call until n) c one (from_step_one-lands until n) a.1 a.2)

    pub turn-lands : (until : ℕ) (m : State) (c : C) → Good m → Rests m → Lands m (turn rules call until m c)
    turn-lands until m c g z = from_step_one-lands until (suc (suc (item_count m.host))) m c g z

    pub next_turn-stops : (m : State) (t : Turned C) (next : State → C → Turned C) → Lands m t → ((r : State) (c : C) → Good r → Rests r → Stops r (next r c)) → Stops m (next_turn t next)
    next_turn-stops m (GoesOn r c) next h k =
        let rest = k r c h.1 h.2 in
        (comes_to-then h.0.1 rest.0, subst (λ (n : ℕ). Kept (levels n) (state_of (next r c)).host.events) h.0.2.2 rest.1)
    next_turn-stops m (Ended end r c) next h k = (moved h.0, h.1)
    next_turn-stops m (Stuck at r c) next h k = h

    pub turns-stop : (until n : ℕ) (m : State) (c : C) → Good m → Rests m → Stops m (turns rules call until n m c)
    turns-stop until zero m c g z = (moved here, z.2.7.law)
    turns-stop until (suc n) m c g z = next_turn-stops m (turn rules call until m c) (turns rules call until n) (turn-lands until m c g z) (turns-stop until n)

-- before the first turn nothing is under way
pub first-rests : (program : Program) (setup : Setup) (hosts : List HostClosure) → Rests (first_state program setup hosts)
first-rests program setup hosts =
    ((refl, refl, tt), refl, ((λ c i. elim i [ ]), first-ready program setup hosts, first-tidy program setup hosts, first-numbered program setup hosts, first-stand program setup hosts, first-waiting program setup hosts, first-posts program setup hosts (λ s. false), first-sound program setup hosts), refl)

turns_come_to : {C : Type 0} (rules : Rules C) (program : Program) (setup : Setup) (hosts : List HostClosure) (c : C) (until most : ℕ) → HoldsNoNumbers setup
    → Stops program (first_state program setup hosts) (turns rules (call_from_outside program page_operations) until most (first_state program setup hosts) c)
turns_come_to rules program setup hosts c until most h =
    turns-stop program rules (call_from_outside program page_operations) (outside-goes program) until most (first_state program setup hosts) c (first_state-good program setup hosts h) (first-rests program setup hosts)

-- Every row of turns from the first state is a row of moves, wherever it stops, but for a host's task that gets no answer.
pub turns_are_moves : {C : Type 0} (rules : Rules C) (program : Program) (setup : Setup) (hosts : List HostClosure) (c : C) (until most : ℕ) → HoldsNoNumbers setup
    → ComesTo (first_page program setup hosts) (state_of (turns rules (call_from_outside program page_operations) until most (first_state program setup hosts) c)).host
turns_are_moves rules program setup hosts c until most h = (turns_come_to rules program setup hosts c until most h).0

-- A whole run is a row of moves.
pub run_is_moves : {C : Type 0} (rules : Rules C) (program : Program) (setup : Setup) (hosts : List HostClosure) (c : C) → HoldsNoNumbers setup → ComesTo (first_page program setup hosts) (state_of (run_by rules program setup hosts c)).host
unfolding run_by
run_is_moves rules program setup hosts c h = turns_are_moves rules program setup hosts c setup.until (suc setup.fuel) h

-- and the levels of its timers follow
pub run_keeps_levels : {C : Type 0} (rules : Rules C) (program : Program) (setup : Setup) (hosts : List HostClosure) (c : C) → HoldsNoNumbers setup → Kept (levels setup.form) (state_of (run_by rules program setup hosts c)).host.events
unfolding run_by
run_keeps_levels rules program setup hosts c h = (turns_come_to rules program setup hosts c setup.until (suc setup.fuel) h).1
