-- Tasks are rows of moves.
use Rattle.page_types.specs.declared.RegKind.TheVariants as kind
use Rattle.lang_meaning.specs.Machine.{Caller, Done, Gives, OutOfFuel, Returns, Throws, afterwards, and_then, branch, finish}
use Rattle.page_laws.proofs.Drawing.{found-in, run_frame-goes}
use Rattle.page_laws.proofs.Framed.{Ordered, change-kept, kept-same, kept-then}
use Rattle.page_laws.proofs.Following.{ByTurn, Following, Sound, levels, outermost-none, sound-by}
use Rattle.page_laws.proofs.Tracking.{Went, changes-sound, due-passes, outside, outside_of, reset-following, reset-sound, sched-following, timer-following, went-ended}
use Rattle.page_laws.proofs.Scans.{Kept}
use Rattle.page_laws.proofs.TimersLive.{queued}
use Rattle.page_laws.proofs.Ready.{Ready, due-there, task-there}
use Rattle.page_laws.proofs.Numbered.{Numbered, moves-given, only-task}
use Rattle.page_laws.proofs.Over.{on_left}
use Rattle.page_laws.proofs.Arming.{Tidy, moves-keep, none-unarmed, taken-unarmed}
use Rattle.page_laws.proofs.Evaluating.{Lasts, Le, Loose, lasting, lasts-then, Onto, Reached, entered, le-same, on_page-reached, told-onto, call_over}
use Rattle.page_laws.proofs.Moved.{init_again-changes, notify_rejected-changes, placed, cond-changes, queue_idle-changes, settle-changes, settle-rejected, unwatch-changes}
use Rattle.page_laws.proofs.Onto.{clear_id-onto, resolve-onto, unwatch-onto}
use Rattle.page_laws.proofs.DoneTimeout.{Kept_timers}
use Rattle.page_laws.proofs.Watching.{begins-posts, change-posts}
use Rattle.page_laws.proofs.Intervals.{AllBut, PostsStay, TimersKept, again-waits, begins-timers, cleared-waits, ended-timers, gone-waits, kept-later, taken-lives, timer-taken, timers-same, timers-then, with_hand}
use Rattle.page_laws.proofs.Lines.{change-same, same-then}
use Rattle.page_laws.proofs.Moving.{moves-then, changes-then}
use Rattle.page_laws.proofs.Runs.{AtTop, AtZeroTop, CallsGo, Clears, Goes, entered-goes, goes-on, WaysGo, abort-goes, WentOn, afterwards-goes, afterwards-went, settle_derived-went, branch-goes, branch_when-goes, checkpoint-goes, dispatch-goes, each_in_turn-goes, finish-goes, finish_page, invoke-goes, invoked-goes, scheduling-onto, then_page, wide}
use Rattle.page_laws.specs.Moves.{Moves, arming, calling, ending, flagging, here, LeavesAlone, IsIn, IsUnarmed, places, PeriodGoesOn, task_left, AContinuation, ALateIdle, APost, ATimer, AnIdle, TheScript, FrameIsOver, Waited, sched_begun, taken, Changes, DelayWaits, Places, answered, calmly, fired_at, noted, nothing, with_change}
use Rattle.page_model.proofs.GivenNumbers.Evaluation as numbers
use Rattle.page_model.proofs.GivenNumbers.Evaluation.{Good, on_page-good}
use Rattle.page_model.proofs.GivenNumbers.Growing.{Each-append, Each-find, Each-last, Each-without, Held, InIdle, InNotices, InTasks, Onward, Grows-same, Grows-then, TimerTask-grows, onward-then, promise-grows, stays, IsFor-grows}
use Rattle.page_model.proofs.GivenNumbers.Pages.{init_again-held, cond-onward, put_notices, queue_task-held, the_registration-given, with_state-held, without_idle-held, without_sched-held, call_begun-held, call_ended-held}
use Rattle.page_model.proofs.GivenNumbers.Parts.{the_promise-given}
use Rattle.page_model.specs.Invoke.{Ways, WhenReported, BeforeCheckpoint, AfterCheckpoint, Never, call_back, callback_of, checkpoint, checkpoint_begun, checkpoint_ended, end_of_callback, invoke, notify_rejected, perform_checkpoint, report_after, report_before, run_jobs, run_oldest, settle_derived, call_ended, call_begun, thrown, when_reported}
use Rattle.page_model.specs.Numbers.{CallbackIsGiven, Each, HasPromise, IdleIsGiven, IfThere, IsFor, IsGiven, IsKnown, Made, NoticesAreGiven, SchedTaskIsGiven, StepsAreGiven, TaskIsGiven, TimerTaskIsGiven, made_by, is_timer_role, sched_role, timer_role}
use Rattle.page_model.specs.PagePromises.{promise_at}
use Rattle.page_model.specs.PageSignals.{dispatch, host_task_of, unwatch}
use Rattle.page_model.specs.PageTime.{clear_id, deadline, first_task, idle_callback, init_timer, without_idle}
use Rattle.page_model.specs.SchedulerTasks.{first_sched, with_state}
use Rattle.page_model.specs.State.{AnswerHost, FireAtWindow, IdleTimeout, InvokeIdle, NotifyHandled, NotifyRejected, OfKind, Page, RunFrame, RunScript, RunTimer, SchedTask, State, Steps, HostTask, Task, TimeOutSignal, TimerTask, emit, on_page, queue_task, the_registration}
use Rattle.page_model.specs.Tasks.{after_task, background, call_idle, continued, idle_called, initialised_again, invoke_idle, invoke_idle_again, notify_one, outstanding_if_unhandled, perform_sched, perform_steps, post_state, promise_reason, run_post, run_timer, timed_out, timer_goes_on, where_live, answer_host, fire_closure, settle_answer}
use Rattle.page_model.specs.Turns.{without_task, not_dropped}
use Rattle.page_parts.specs.Frames.{Callback, callback_in}
use Rattle.page_parts.specs.Kinds.{a_fault}
use Rattle.page_parts.specs.Listeners.{Window}
use Rattle.page_parts.specs.Promises.{Settled, settled_value, Failed, Fulfilled}
use Rattle.page_parts.specs.Timers.{Timers, TimerId, armed, id_entry, has_id, is_live}
use Rattle.page_parts.specs.Words.{and_last, is_empty, is_there, without}
use Rattle.page_types.specs.Events.{Handled, IdleLine, Ret, Turn, Unhandled, Host}
use Rattle.page_types.specs.Tree.{Program}
use Rattle.page_types.specs.Values.{DeadlineValue, PromiseValue, UnitValue, IntValue}
use Rattle.page_types.specs.declared.FaultName.TheVariants.{TimeoutError}
use Rattle.page_types.specs.declared.RegKind.{RegKind}
use Rattle.page_types.specs.declared.Source.{Source}
use Rattle.page_types.specs.declared.Source.TheVariants.{Idle, Sched}
use Rattle.std.proofs.Common.{Bool, List, None, Option, Some, [], ap, ◌∙◌, cond, false, length, nat_lt, refl, subst, sym, suc, true, ℕ, ◌++◌, ◌∷◌, ◌≡◌, ◌⊎◌, Err, Ok, Result, arith, inl, inr, slice_get, ℤ}
use Rattle.std.specs.Prelude.{codes, ◌==◌}
use Rattle.std.proofs.lemmas.Bool.{eq-eqb}
use Rattle.page_parts.specs.Notices.{WaitingJob}
use Rattle.page_laws.specs.TimerLaws.{level_above, level_by_call, level_by_turn, level_due, level_of_turn, level_under, outermost}
use Rattle.page_laws.specs.History.{calls_in, is_call_of, level_of, open_registrations, this_turn, was_called, was_dropped, was_due}
use Rattle.page_model.specs.PagePromises as promises
use Rattle.page_parts.specs.HostClosures.{HostClosure}

-- ---- what tasks change

invoke_idle_again-changes : (p : Page) → PeriodGoesOn p → Changes p (invoke_idle_again p)
invoke_idle_again-changes p k = cond-changes (is_empty p.idle.runnable) p p _ nothing (queue_idle-changes p k)

outstanding-changes : (n : ℕ) (p : Page) → Changes p (outstanding_if_unhandled n p)
outstanding-changes n p = with_change nothing (noted n) tt

settle_answer-changes : (n : ℕ) (answer : Result ℤ ℤ) (p : Page) → IsGiven (length p.notices.promises) n → Changes p (settle_answer n answer p)
settle_answer-changes n (Ok v) p x = settle-changes n (Fulfilled (IntValue v)) p x
settle_answer-changes n (Err v) p x = settle-changes n (Failed (IntValue v)) p x

-- a host's task is taken, and the host answers
pub answer_task-changes : (source : Source) (task : Task) (t : HostTask) (answer : Result ℤ ℤ) (p : Page) → first_task source p.tasks ≡ Some task → task.steps ≡ AnswerHost t → is_there (not_dropped (slice_get p.hosts t.closure)) ≡ true → IsGiven (length p.notices.promises) (the_registration p t.registration).promise → (DelayWaits t.registration p.completions → ⊥)
    → Changes p (answer_host t answer (without_task task.number p))
answer_task-changes source task t answer p e e1 live x undelayed = by_closure (slice_get p.hosts t.closure) refl
  where
    into : ℕ
    into = (the_registration p t.registration).promise

    told_one : Page
    told_one = emit (Host t.closure t.number answer) (without_task task.number p)

    answered-steps : (answer : Result ℤ ℤ) (q : Page) → places (settle_answer into answer q) ≡ places q
    answered-steps (Ok v) q = (settle-rejected into (Fulfilled (IntValue v)) q).waiting
    answered-steps (Err v) q = (settle-rejected into (Failed (IntValue v)) q).waiting

    rest : (q : Page) → q.completions ≡ p.completions → IsGiven (length q.notices.promises) into → Changes p q → Changes p (unwatch t.registration (settle_answer into answer q))
    rest q same x h =
        changes-then (changes-then h (settle_answer-changes into answer q x))
        (unwatch-changes t.registration (settle_answer into answer q)
        (λ d.
        absurd (undelayed
        (subst (DelayWaits t.registration) same (subst (λ (y : Places). DelayWaits t.registration y.completions) (answered-steps answer q) d)))))

    by_closure : (c : Option HostClosure) → slice_get p.hosts t.closure ≡ c → Changes p (unwatch t.registration (settle_answer into answer (fire_closure t.closure c told_one)))
    by_closure None k = rest told_one refl x (with_change nothing (answered source task t answer e e1 live (ap {A = Option HostClosure} {B = Places} (λ o. record (places told_one) { hosts = fired_at t.closure o p.hosts }) (sym k)) (record { notices = refl; performing = refl; events = refl; registrations = refl; frames = refl; calls = refl; aborted = λ s h. h; watched = calmly (λ s r i. inr (i, λ h. h)); level = refl; form = refl; scheduling = record { priorities = λ s. refl; states = refl; tasks_made = omega arith; idle_start = refl } })) tt)
    by_closure (Some c) k =
        let fired = fire_closure t.closure (Some c) told_one in
        rest fired refl x (with_change nothing (answered source task t answer e e1 live (ap {A = Option HostClosure} {B = Places} (λ o. record (places told_one) { hosts = fired_at t.closure o p.hosts }) (sym k)) (record { notices = refl; performing = refl; events = refl; registrations = refl; frames = refl; calls = refl; aborted = λ s h. h; watched = calmly (λ s r i. inr (i, λ h. h)); level = refl; form = refl; scheduling = record { priorities = λ s. refl; states = refl; tasks_made = omega arith; idle_start = refl } })) tt)

-- ---- the page in tasks

promise_reason-known : (p : Page) (k : ℕ) → Held (made_by p) p → IsKnown (made_by p) (promise_reason p k)
promise_reason-known p k h = by_outcome (promise_at p k).outcome (the_promise-given (made_by p) p.notices k (h InNotices)).outcome
  where
    by_outcome : (o : Option Settled) → IfThere (λ how. IsKnown (made_by p) (settled_value how)) o → IsKnown (made_by p) (elim o [ None ↦ UnitValue | Some how ↦ settled_value how ])
    by_outcome None x = tt
    by_outcome (Some how) x = x

outstanding-held : (k : ℕ) (p : Page) → Held (made_by p) p → IsGiven (length p.notices.promises) k → Onward (made_by p) (outstanding_if_unhandled k p)
outstanding-held k p h x = by_handled (promise_at p k).handled (h InNotices)
  where
    by_handled : (b : Bool) → NoticesAreGiven (made_by p) p.notices → Onward (made_by p) (record p { notices = cond b p.notices (record p.notices { outstanding = and_last p.notices.outstanding k }) })
    by_handled true s = stays p h
    by_handled false s =
        let q : Page = record p { notices = record p.notices { outstanding = and_last p.notices.outstanding k } } in
        stays q (put_notices (made_by p) p q.notices (record { promises = s.promises; jobs = s.jobs; rejected = s.rejected; outstanding = Each-last (IsGiven (length p.notices.promises)) p.notices.outstanding k s.outstanding x }) h)

invoke_idle_again-held : (p : Page) → Held (made_by p) p → Onward (made_by p) (invoke_idle_again p)
invoke_idle_again-held p h = cond-onward (made_by p) (is_empty p.idle.runnable) p (queue_task Idle InvokeIdle p) (stays p h) (queue_task-held Idle InvokeIdle p h tt)

post_state-held : (t : SchedTask) (p : Page) → Held (made_by p) p → SchedTaskIsGiven (made_by p) t → Onward (made_by p) (post_state t p)
post_state-held t p h x =
    with_state-held (record { abort_source = (the_registration p t.registration).signal; prio_source = t.source }) p h
    (record { abort_source = (the_registration-given p t.registration h).signal; prio_source = x.source })

put_tasks : (n : Made) (p : Page) (ts : List Task) → Each (TaskIsGiven n) ts → Held n p → Held n (record p { tasks = ts })
put_tasks n p ts new h InTasks = new
put_tasks n p ts new h part = h part

pub without_task-held : (k : ℕ) (p : Page) → Held (made_by p) p → Onward (made_by p) (without_task k p)
without_task-held k p h =
    stays (without_task k p) (put_tasks (made_by p) p (without (λ t. t.number == k) p.tasks) (Each-without (TaskIsGiven (made_by p)) (λ t. t.number == k) p.tasks (h InTasks)) h)

pub without_task-onto : (k : ℕ) (p : Page) → Held (made_by p) p → ((t : Task) → IsIn t p.tasks → t.number ≡ k → LeavesAlone t.steps p.timers p.hosts) → Onto p (without_task k p)
without_task-onto k p h alone = (without_task-held k p h, placed p (without_task k p) (task_left k) tt alone refl refl refl refl refl refl refl refl)

outstanding-onto : (k : ℕ) (p : Page) → Held (made_by p) p → IsGiven (length p.notices.promises) k → Onto p (outstanding_if_unhandled k p)
outstanding-onto k p h x = (outstanding-held k p h x, outstanding-changes k p)

invoke_idle_again-onto : (p : Page) → Held (made_by p) p → PeriodGoesOn p → Onto p (invoke_idle_again p)
invoke_idle_again-onto p h k = (invoke_idle_again-held p h, invoke_idle_again-changes p k)

-- a callback that was found is for its kind
find_for : (k : RegKind) (last : ℕ) (n : Made) (cs : List Callback) (key : ℕ) (c : Callback) → Each (CallbackIsGiven k last n) cs → callback_in cs key ≡ Some c → IsFor (OfKind k) n c.registration
find_for k last n cs key c h e = of_given (subst (IfThere (CallbackIsGiven k last n)) e (Each-find (CallbackIsGiven k last n) (λ c. c.handle == key) cs h))
  where
    of_given : CallbackIsGiven k last n c → IsFor (OfKind k) n c.registration
    of_given x = x.registration

first_for : (last : ℕ) (n : Made) (cs : List Callback) (c : Callback) (others : List Callback) → Each (CallbackIsGiven kind.Idle last n) cs → cs ≡ c ∷ others → IsFor (OfKind kind.Idle) n c.registration
first_for last n cs c others h e = of_given (subst (Each (CallbackIsGiven kind.Idle last n)) e h).0
  where
    of_given : CallbackIsGiven kind.Idle last n c → IsFor (OfKind kind.Idle) n c.registration
    of_given x = x.registration

idle_given : (m : State) → Good m → IdleIsGiven (made_by m.host) m.host.idle
idle_given m g = g.0 InIdle

-- where a scheduler task is the first, the line of its turn and its leaving
sched_held : (t : SchedTask) (p : Page) → Held (made_by p) p → Onward (made_by p) (sched_begun t p)
sched_held t p h = without_sched-held t.registration (emit (Turn p.turns (Some Sched)) p) h

-- where the task of a source is taken, only that one has its number, so that what it leaves is left by all
pub left-alone : (p : Page) (source : Source) (task : Task) (steps : Steps) → Numbered p → first_task source p.tasks ≡ Some task → task.steps ≡ steps → LeavesAlone steps p.timers p.hosts → (t : Task) → IsIn t p.tasks → t.number ≡ task.number → LeavesAlone t.steps p.timers p.hosts
left-alone p source task steps n e e1 alone t i same =
    subst (λ (s : Steps). LeavesAlone s p.timers p.hosts) (sym (ap {A = Task} {B = Steps} (λ u. u.steps) (only-task p source task n e t i same) ∙ e1)) alone

-- an id that is in the map with some handle is there
live_there : (id handle : ℕ) (t : Timers) → is_live id handle t ≡ true → has_id id t ≡ true
live_there id handle t h = by_entry (id_entry id t) h
  where
    by_entry : (o : Option TimerId) → elim o [ None ↦ false | Some e ↦ e.handle == handle ] ≡ true → is_there o ≡ true
    by_entry None h = Prim.cc
    by_entry (Some e) h = refl

-- the law of levels holds; and no job waits, or the level is 0 and follows the lines
abbrev pub IsOver : State → Type 0
IsOver r = Sound r.host × (r.host.notices.jobs ≡ [] ⊎ (r.host.level ≡ 0 × Following r.host))

-- where fuel ends, the law of levels holds
abbrev pub Halts : State → State → Type 0
Halts m r = Moves m.host r.host × Kept (levels m.host.form) r.host.events

-- how a task ends: between turns what was kept is kept, with the numbers given
abbrev pub Tasked : State → Done Page → Type 0
Tasked m (Gives v r) = Lasts m r × Good r × IsOver r
Tasked m (Throws v r) = Lasts m r × Good r × IsOver r
Tasked m (Returns v r) = Lasts m r × Good r × IsOver r
Tasked m (OutOfFuel r) = Halts m r

-- where a callback ends, no job waits
abbrev NoJobs : Done Page → Type 0
NoJobs (Gives v r) = r.host.notices.jobs ≡ []
NoJobs (Throws v r) = r.host.notices.jobs ≡ []
NoJobs (Returns v r) = r.host.notices.jobs ≡ []
NoJobs (OutOfFuel r) = Unit {0}

-- no checkpoint is performed where a step ends
abbrev Outside : Done Page → Type 0
Outside (Gives v r) = r.host.performing ≡ false
Outside (Throws v r) = r.host.performing ≡ false
Outside (Returns v r) = r.host.performing ≡ false
Outside (OutOfFuel r) = Unit {0}

-- what comes behind a callback leaves no job, where no checkpoint is performed
abbrev pub ClearsAfter : Ways → Type 0
ClearsAfter w = (m : State) → m.host.performing ≡ false → Clears (w.after m)

end-clears : (w : Ways) → ClearsAfter w → (when : WhenReported) (d : Done Page) → Outside d → NoJobs (end_of_callback w.after when d)
end-clears w c when (Gives v s) e = by_end (w.after (on_page (call_ended Ret) s)) (c (on_page (call_ended Ret) s) e)
  where
    by_end : (d : Done Page) → Clears d → NoJobs (and_then d (λ u m. Gives v m))
    by_end (Gives u r) h = h
    by_end (Throws u r) h = elim h [ ]
    by_end (Returns u r) h = elim h [ ]
    by_end (OutOfFuel r) h = tt
end-clears w c when (Returns v s) e = by_end (w.after (on_page (call_ended Ret) s)) (c (on_page (call_ended Ret) s) e)
  where
    by_end : (d : Done Page) → Clears d → NoJobs (and_then d (λ u m. Gives v m))
    by_end (Gives u r) h = h
    by_end (Throws u r) h = elim h [ ]
    by_end (Returns u r) h = elim h [ ]
    by_end (OutOfFuel r) h = tt
end-clears w c when (Throws v s) e = by_end (w.after before) (c before (by_before when))
  where
    before : State
    before = on_page (report_before when v) (on_page (thrown v) s)

    by_before : (when : WhenReported) → (report_before when v (thrown v s.host)).performing ≡ false
    by_before BeforeCheckpoint = e
    by_before AfterCheckpoint = e
    by_before Never = e

    by_after : (when : WhenReported) (r : State) → r.host.notices.jobs ≡ [] → (report_after when v r.host).notices.jobs ≡ []
    by_after BeforeCheckpoint r h = h
    by_after AfterCheckpoint r h = h
    by_after Never r h = h

    by_end : (d : Done Page) → Clears d → NoJobs (and_then d (λ u m. Throws v (on_page (report_after when v) m)))
    by_end (Gives u r) h = by_after when r h
    by_end (Throws u r) h = elim h [ ]
    by_end (Returns u r) h = elim h [ ]
    by_end (OutOfFuel r) h = tt
end-clears w c when (OutOfFuel s) e = tt

-- where a step ends, the law of levels holds
abbrev SoundEnd : Done Page → Type 0
SoundEnd (Gives v r) = Sound r.host
SoundEnd (Throws v r) = Sound r.host
SoundEnd (Returns v r) = Sound r.host
SoundEnd (OutOfFuel r) = ⊥

-- a checkpoint with no job
checkpoint-sound : (call : Caller Page) (n : State) → n.host.performing ≡ false → open_registrations n.host.events ≡ [] → n.host.notices.jobs ≡ [] → Sound n.host → SoundEnd (checkpoint call n)
checkpoint-sound call n off none idle s = by_flag n.host.performing off
  where
    begun : State
    begun = on_page checkpoint_begun n

    ended : State
    ended = on_page (checkpoint_ended n.host) begun

    sound : Sound ended.host
    sound = reset-sound (notify_rejected begun.host) false n.host.level n.host.scheduling (changes-sound (notify_rejected-changes begun.host) none (reset-sound n.host true n.host.level n.host.scheduling s))

    by_jobs : (jobs : List WaitingJob) → jobs ≡ [] → SoundEnd (and_then (run_oldest call jobs (run_jobs call n.fuel) begun) (λ u after. finish (on_page (checkpoint_ended n.host) after)))
    by_jobs [] e = sound
    by_jobs (job ∷ others) e = Prim.cc

    by_flag : (b : Bool) → b ≡ false → SoundEnd (branch b n finish (perform_checkpoint call))
    by_flag true e = Prim.cc
    by_flag false e = by_jobs n.host.notices.jobs idle

is-over : (m r : State) → AtZeroTop m → Le m r → IsOver r
is-over m r z le = ((le.6.follows z.2).sound, inr (le.6.level (outside z.0.1) ∙ z.1, le.6.follows z.2))

lasts_by : (m e r : State) → Moves m.host e.host → TimersKept m.host e.host → Loose m r → TimersKept e.host r.host → Lasts m r
lasts_by m e r a k le kept = let all = timers-then a k kept in (le.0, le.1, le.2, le.3, all.waits, all.posts)

-- a turn begins: no callback was called in it, and no job waits
abbrev pub Begins : State → Type 0
Begins m = calls_in (this_turn m.host.events) ≡ [] × m.host.notices.jobs ≡ []

module _ (program : Program) where
  pub tasked : (m : State) (d : Done Page) → AtZeroTop m → Goes program m d → Tasked m d
  tasked m (Gives v r) z h = (lasting m r h.0, h.1, is-over m r z h.0)
  tasked m (Throws v r) z h = (lasting m r h.0, h.1, is-over m r z h.0)
  tasked m (Returns v r) z h = (lasting m r h.0, h.1, is-over m r z h.0)
  tasked m (OutOfFuel r) z h = (h.0, h.1 z.2)

  -- the same from where a call began
  began : (m e : State) (d : Done Page) → AtTop m → Moves m.host e.host → TimersKept m.host e.host → e.host.form ≡ m.host.form → e.host.level ≡ 0 → Following e.host → WentOn program m e d → Tasked m d
  began m e (Gives v r) z a k form level f h = (lasts_by m e r a k h.0 h.4, h.1, ((h.5.follows f).sound, inr (h.5.level (outside_of z.1) ∙ level, h.5.follows f)))
  began m e (Throws v r) z a k form level f h = (lasts_by m e r a k h.0 h.4, h.1, ((h.5.follows f).sound, inr (h.5.level (outside_of z.1) ∙ level, h.5.follows f)))
  began m e (Returns v r) z a k form level f h = (lasts_by m e r a k h.0 h.4, h.1, ((h.5.follows f).sound, inr (h.5.level (outside_of z.1) ∙ level, h.5.follows f)))
  began m e (OutOfFuel r) z a k form level f h = (h.0, subst (λ (n : ℕ). Kept (levels n) r.host.events) form (h.1 f))

  -- a continuation is called and ends at once
  continued-went : (t : SchedTask) (m : State) → Good m → Waited (AContinuation t) m.host → IsFor (OfKind kind.Yield) (made_by m.host) t.registration → HasPromise (made_by m.host) t.registration → WentOn program m (entered (AContinuation t) m) (finish (on_page (continued t.registration) (on_page (sched_begun t) m)))
  continued-went t m g w i x =
      let r = t.registration in
      let n = on_page (sched_begun t) m in
      let there = numbers.on_page-good m (sched_begun t) g (sched_held t m.host g.0) in
      let into = (the_registration n.host r).promise in
      let called = entered (AContinuation t) m in
      let registered = IsFor-grows (made_by m.host) (made_by n.host) there.0 (OfKind kind.Yield) r i in
      let begun : Good called = (numbers.on_page-good n (call_begun r) there.1 (call_begun-held r n.host there.1.0 registered.registration)).1 in
      let settled = on_page (promises.resolve into UnitValue) called in
      let first : Reached called settled = on_page-reached called (promises.resolve into UnitValue) begun (resolve-onto into UnitValue called.host begun.0 x.promise tt) in
      let ended = on_page (call_ended Ret) settled in
      let good : Good ended = (numbers.on_page-good settled (call_ended Ret) first.1 (call_ended-held Ret settled.host first.1.0)).1 in
      let over : Loose m ended = call_over (AContinuation t) m settled Ret refl (λ calls. refl) there.0 w i first.0 in
      goes-on program m called ended (finish (on_page (unwatch r) ended)) over (ending first.0.1 Ret refl) (timers-then first.0.1 first.0.5 (ended-timers Ret settled.host)) (went-ended m.host (taken (AContinuation t) m.host) settled.host r Ret refl first.0.2 first.0.6)
      (finish_page program ended (unwatch r) good
      (unwatch-onto r ended.host good.0 (λ d. on_left (was_called ended.host.events r) (was_dropped ended.host.events r) (moves-given (is_call_of r) (ending first.0.1 Ret refl) (on_left (r == r) (was_called (sched_begun t m.host).events r) (eq-eqb r r refl))))))

  -- ---- timers

  -- where a timer ends that was in hand, from before its task was taken
  timer_ends : (source : Source) (task : Task) (t : TimerTask) (m r : State) → Waited (ATimer source task t) m.host → TimerTaskIsGiven (made_by m.host) t → Tidy m.host → Loose m r → Good r → Moves (entered (ATimer source task t) m).host r.host → TimersKept (entered (ATimer source task t) m).host r.host
      → AtZeroTop m → Following (entered (ATimer source task t) m).host → Went m.host (entered (ATimer source task t) m).host r.host → r.host.notices.jobs ≡ [] → Tasked m (where_live t (timer_goes_on t) r)
  timer_ends source task t m r w x tidy le g row kept top begins went idle = by_live (is_live t.id t.handle r.host.timers) refl
    where
      e : State
      e = entered (ATimer source task t) m

      given : TimerTaskIsGiven (made_by r.host) t
      given = TimerTask-grows (made_by m.host) (made_by r.host) le.0 t x

      begun : Moves m.host (entered (ATimer source task t) m).host
      begun = calling here (ATimer source task t) w x.registration

      follows : Following r.host
      follows = went.follows begins

      uncalled : open_registrations r.host.events ≡ []
      uncalled = le.2.0 ∙ top.0.0

      level : r.host.level ≡ t.level
      level = went.level (outside_of top.0.1)

      timed : (b : Bool) → is_timer_role (timer_role b) ≡ true
      timed true = refl
      timed false = refl

      -- the level that is due is one more
      armed_level : level_of r.host.events t.registration ≡ Some r.host.level
      armed_level =
          went.older.level t.registration x.registration.registration.to_last (ap is_timer_role x.registration.role ∙ timed t.repeats)
          ∙ (top.2.sound.levelled t (queued (task-there source (RunTimer t) m.host.tasks task w.0 w.1)) ∙ ap Some (sym level))

      due_by_call : (o : Option ℕ) → o ≡ None → level_under r.host.events t.registration o ≡ Some (suc r.host.level)
      due_by_call None e = ap level_above armed_level
      due_by_call (Some n) e = Prim.cc

      due_by_turn : (o : Option ℕ) → outermost (calls_in (this_turn r.host.events)) ≡ o → ByTurn r.host → level_of_turn r.host.events o ≡ Some (suc r.host.level)
      due_by_turn None e f = ap (λ n. Some (suc n)) (sym (f.uncalled (outermost-none (calls_in (this_turn r.host.events)) e)))
      due_by_turn (Some n) e f = f.called n e

      level_is_due : level_due r.host.form r.host.events t.registration ≡ Some (suc r.host.level)
      level_is_due = by_form (r.host.form == 2) refl
        where
          by_form : (b : Bool) → (r.host.form == 2) ≡ b → cond b (level_by_turn r.host.events) (level_by_call r.host.events t.registration) ≡ Some (suc r.host.level)
          by_form true e = due_by_turn (outermost (calls_in (this_turn r.host.events))) refl (follows.by_turn e)
          by_form false e = due_by_call (outermost (open_registrations r.host.events)) (ap outermost uncalled)

      -- intervals wait but for this one
      waiting : Kept_timers m.host → (hand : ℕ → Bool) → AllBut hand m.host → AllBut (with_hand t.registration hand) r.host
      waiting k hand h = kept.waits (kept-later begun k) (with_hand t.registration hand) (timer-taken source task t m.host w k hand h)

      -- delayed posts can be aborted as before
      posts : PostsStay m.host r.host
      posts pend h = kept.posts pend (begins-posts pend (ATimer source task t) m.host h)

      -- the interval is armed again
      again : t.repeats ≡ true → is_live t.id t.handle r.host.timers ≡ true → Tasked m (finish (on_page (init_timer (Some t.id) t.registration true t.timeout) r))
      again repeats live =
          let into : IsFor (timer_role true) (made_by r.host) t.registration = subst (λ (b : Bool). IsFor (timer_role b) (made_by r.host) t.registration) repeats given.registration in
          let free : IsUnarmed t.registration (places r.host) =
          none-unarmed t.registration (places r.host)
          ((moves-keep row).unarmed t.registration t.handle (x.registration.role ∙ ap timer_role repeats) x.handle.to_last (ap (λ n. is_live n t.handle r.host.timers) x.own ∙ live) (taken-unarmed m.host source task t tidy w.0 w.1)) in
          let o = init_again-held t.id t.registration true t.timeout r.host g.0 given.id into given.own in
          let a = numbers.on_page-good r (init_timer (Some t.id) t.registration true t.timeout) g o in
          let c = init_again-changes t.id t.registration t.timeout r.host g.0 into.role (live_there t.id t.handle r.host.timers live) given.own free in
          let n = on_page (init_timer (Some t.id) t.registration true t.timeout) r in (
            (
              Grows-then (made_by m.host) (made_by r.host) (made_by n.host) le.0 a.0,
              moves-then le.1 (arming here c.change c.line c.tells),
              same-then m.host r.host n.host le.2 (same-then r.host c.set n.host (change-same c.change) (change-same c.line)),
              kept-then m.host r.host n.host le.3 (kept-then r.host c.set n.host (change-kept c.change) (change-kept c.line)),
              λ k hand h. again-waits t.id t.registration t.timeout r.host hand (waiting k hand h),
              λ pend h. change-posts pend c.line c.line_calm (change-posts pend c.change c.calm (posts pend h)),
            ),
            a.1,
            (sound-by r.host n.host (arming here c.change c.line c.tells) follows.sound (due-passes r.host.form r.host.events t.registration (armed (Some t.id) t.timeout r.host.level r.host.now r.host.timers).due (suc r.host.level) level_is_due, follows.sound.law), inl idle),
          )

      -- the id of a timeout leaves the map
      cleared : t.repeats ≡ false → Tasked m (finish (on_page (clear_id t.id) r))
      cleared repeats =
          let role = given.registration.role ∙ ap timer_role repeats in
          let called = moves-given (is_call_of t.registration) row (on_left (t.registration == t.registration) _ (eq-eqb t.registration t.registration refl)) in
          let b = on_page-reached r (clear_id t.id) g (clear_id-onto t.id r.host g.0 (record { registration = t.registration; role = role; own = given.own; called = called })) in
          let n = on_page (clear_id t.id) r in (
            (
              Grows-then (made_by m.host) (made_by r.host) (made_by n.host) le.0 b.0.0,
              moves-then le.1 b.0.1,
              same-then m.host r.host n.host le.2 b.0.2,
              kept-then m.host r.host n.host le.3 b.0.3,
              λ k hand h. cleared-waits t.id t.registration r.host hand role (waiting k hand h),
              λ pend h. b.0.5.posts pend (posts pend h),
            ),
            b.1,
            ((b.0.6.follows follows).sound, inl idle),
          )

      by_repeats : (b : Bool) → t.repeats ≡ b → is_live t.id t.handle r.host.timers ≡ true → Tasked m (branch b r (initialised_again t) (λ m. finish (on_page (clear_id t.id) m)))
      by_repeats true e live = subst (λ (b : Bool). Tasked m (finish (on_page (init_timer (Some t.id) t.registration b t.timeout) r))) (sym e) (again e live)
      by_repeats false e live = cleared e

      by_live : (b : Bool) → is_live t.id t.handle r.host.timers ≡ b → Tasked m (branch b r (timer_goes_on t) finish)
      by_live true live = by_repeats t.repeats refl live
      by_live false gone = (
        (
          le.0,
          le.1,
          le.2,
          le.3,
          λ k hand h. gone-waits t r.host hand
              (λ role. kept.live (kept-later begun k) t.id t.handle t.registration (taken-lives source task t m.host w (x.registration.role ∙ (sym given.registration.role ∙ role)))) gone (waiting k hand h),
          posts,
        ),
        g,
        (follows.sound, inl idle),
      )

  -- the task of a timer, from before it leaves its queue
  timer_task-goes : (w : Ways) (a : WaysGo program w) → (source : Source) (task : Task) (t : TimerTask) (m : State) → ClearsAfter w → AtZeroTop m → Begins m → Good m → a.Here m → first_task source m.host.tasks ≡ Some task → task.steps ≡ RunTimer t → TimerTaskIsGiven (made_by m.host) t → Tidy m.host → Numbered m.host → Tasked m (run_timer w t (on_page (without_task task.number) m))
  timer_task-goes w a source task t m clears top fresh g z e e1 x tidy numbered = by_live (is_live t.id t.handle m.host.timers) refl
    where
      begun : State
      begun = on_page (taken (ATimer source task t)) m

      o : Onward (made_by m.host) (taken (ATimer source task t) m.host)
      o = without_task-held task.number m.host g.0

      follows : Waited (ATimer source task t) m.host → Following (entered (ATimer source task t) m).host
      follows waited = timer-following source task t m.host waited x.registration top.0.0 fresh.0 fresh.1 top.2.sound

      ends : Waited (ATimer source task t) m.host → (d : Done Page) → WentOn program m (entered (ATimer source task t) m) d → NoJobs d → Tasked m (afterwards d (where_live t (timer_goes_on t)))
      ends waited (Gives v r) h idle = timer_ends source task t m r waited x tidy h.0 h.1 h.3 h.4 top (follows waited) h.5 idle
      ends waited (Throws v r) h idle = timer_ends source task t m r waited x tidy h.0 h.1 h.3 h.4 top (follows waited) h.5 idle
      ends waited (Returns v r) h idle = timer_ends source task t m r waited x tidy h.0 h.1 h.3 h.4 top (follows waited) h.5 idle
      ends waited (OutOfFuel r) h idle = (h.0, h.1 (follows waited))

      -- no checkpoint is performed where the callback ends
      off : (d : Done Page) → Goes program (entered (ATimer source task t) m) d → Outside d
      off (Gives v r) h = h.0.2.1 ∙ top.0.1
      off (Throws v r) h = h.0.2.1 ∙ top.0.1
      off (Returns v r) h = h.0.2.1 ∙ top.0.1
      off (OutOfFuel r) h = tt

      by_live : (b : Bool) → is_live t.id t.handle m.host.timers ≡ b → Tasked m (branch b begun (λ m. afterwards (invoke w t.registration false [] m) (where_live t (timer_goes_on t))) finish)
      by_live true live =
          ends (e, e1, live, x.own) (invoke w t.registration false [] begun) (invoked-goes program w a (ATimer source task t) false [] m g (a.there m z) (e, e1, live, x.own) x.registration o tt)
          (end-clears w clears (when_reported (the_registration begun.host t.registration).role) (call_back w.call (callback_of false (the_registration begun.host t.registration)) [] (entered (ATimer source task t) m))
          (off (call_back w.call (callback_of false (the_registration begun.host t.registration)) [] (entered (ATimer source task t) m)) (entered-goes program w a (ATimer source task t) false [] m g x.registration o tt)))
      by_live false gone =
          let alone = left-alone m.host source task (RunTimer t) numbered e e1 gone in
          let left = on_page-reached m (without_task task.number) g (without_task-onto task.number m.host g.0 alone) in
          let n = on_page (without_task task.number) m in
          let row : Moves n.host begun.host = flagging here refl refl refl refl refl refl refl refl in
          let good : Good begun = (numbers.on_page-good m (taken (ATimer source task t)) g o).1 in
          let kept = timers-same n.host begun.host refl refl refl refl in
          let last : Lasts n begun = (Grows-same (made_by n.host), row, (refl, refl, refl), kept-same n.host begun.host refl refl refl, kept.waits, kept.posts) in
          (lasts-then m n begun (lasting m n left.0) last, good, (reset-sound n.host n.host.performing t.level n.host.scheduling (left.0.6.follows top.2).sound, inl fresh.1))

  -- ---- idle callbacks

  idle_left-held : (c : Callback) (p : Page) → Held (made_by p) p → Onward (made_by p) (with_state background (without_idle c.handle p))
  idle_left-held c p h =
      let gone = without_idle c.handle p in
      let first : Onward (made_by p) gone = without_idle-held c.handle p h in
      onward-then (made_by p) gone (with_state background gone) first (with_state-held background gone first.1 (record { abort_source = tt; prio_source = tt }))

  idle_called-goes : (w : Ways) (a : WaysGo program w) → (cs : List Callback) (m : State) → m.host.idle.runnable ≡ cs → nat_lt m.host.now (deadline m.host.last_idle_start m.host) ≡ true → PeriodGoesOn m.host → Good m → a.Here m → Goes program m (idle_called w cs m)
  idle_called-goes w a [] m e before k g z = finish-goes program m g
  idle_called-goes w a (c ∷ others) m e before k g z =
      let told = on_page (λ p. emit (IdleLine (deadline p.last_idle_start p)) p) m in
      afterwards-goes program m (call_idle w c None told) (λ m. finish (on_page invoke_idle_again m))
      (invoke-goes program w a (AnIdle c others) tt false (DeadlineValue None ∷ []) m g (a.there m z) (e, before, k) (first_for m.host.idle.made (made_by m.host) m.host.idle.runnable c others (idle_given m g).runnable e) (idle_left-held c told.host g.0) (tt, tt) (a.fits m z))
      (λ r le gr. finish_page program r invoke_idle_again gr (invoke_idle_again-onto r.host gr.0 (le.4 k)))

  invoke_idle-goes : (w : Ways) (a : WaysGo program w) → (m : State) → PeriodGoesOn m.host → Good m → a.Here m → Goes program m (invoke_idle w m)
  invoke_idle-goes w a m k g z =
      branch_when-goes program (nat_lt m.host.now (deadline m.host.last_idle_start m.host)) m (λ m. idle_called w m.host.idle.runnable m) finish (λ before. idle_called-goes w a m.host.idle.runnable m refl before k g z) (λ e. finish-goes program m g)

  timed_out-goes : (w : Ways) (a : WaysGo program w) → (handle : ℕ) (c : Option Callback) (m : State) → idle_callback handle m.host ≡ c → ((c : Callback) → IsIn c (m.host.idle.runnable ++ m.host.idle.pending) → c.handle ≡ handle → was_due m.host.events c.registration ≡ true) → Good m → a.Here m → Goes program m (timed_out w c m)
  timed_out-goes w a handle None m e due g z = finish-goes program m g
  timed_out-goes w a handle (Some c) m e due g z =
      let there = found-in handle (m.host.idle.runnable ++ m.host.idle.pending) c e in
      invoke-goes program w a (ALateIdle handle c) tt false (DeadlineValue (Some m.host.now) ∷ []) m g (a.there m z) (e, due c there.0 there.1) (find_for kind.Idle m.host.idle.made (made_by m.host) (m.host.idle.runnable ++ m.host.idle.pending) handle c (Each-append (CallbackIsGiven kind.Idle m.host.idle.made (made_by m.host)) m.host.idle.runnable m.host.idle.pending (idle_given m g).runnable (idle_given m g).pending) e) (idle_left-held c m.host g.0) (tt, tt) (a.fits m z)

  -- ---- rejected promises

  abbrev IsPromise : Made → ℕ → Type 0
  IsPromise n k = IsGiven n.promises k

  notify_one-goes : (w : Ways) (a : WaysGo program w) → (k : ℕ) (m : State) → Good m → a.Here m → IsPromise (made_by m.host) k → Goes program m (notify_one w k m)
  notify_one-goes w a k m g z x =
      let told = on_page (emit (Unhandled k)) m in
      let args = PromiseValue k ∷ promise_reason m.host k ∷ [] in
      branch-goes program (promise_at m.host k).handled m finish _ (finish-goes program m g)
      (afterwards-goes program m (dispatch w Window (codes "unhandledrejection") args told) (λ m. finish (on_page (outstanding_if_unhandled k) m))
      (then_page program m (emit (Unhandled k)) (dispatch w Window (codes "unhandledrejection") args told) g (told-onto (Unhandled k) m.host refl g.0)
      (λ b. dispatch-goes program w a Window (codes "unhandledrejection") args told b.1 (a.later m told b.0 z) (x, (promise_reason-known m.host k g.0, tt))))
      (λ r le gr. finish_page program r (outstanding_if_unhandled k) gr (outstanding-onto k r.host gr.0 (promise-grows (made_by m.host) (made_by r.host) le.0 k x))))

  -- ---- steps of tasks

  -- a task, from before it leaves its queue
  pub task-goes : (w : Ways) (a : WaysGo program w) → (source : Source) (task : Task) (m : State) → ClearsAfter w → AtZeroTop m → Begins m → Good m → a.Here m → Ordered m.host → Ready m.host → Tidy m.host → Numbered m.host → first_task source m.host.tasks ≡ Some task → host_task_of task.steps ≡ None → StepsAreGiven (made_by m.host) task.steps → Tasked m (perform_steps w task.steps (on_page (without_task task.number) m))
  task-goes w a source task m clears top fresh g z o ready tidy numbered e no_host x = by_steps task.steps refl x
    where
      leaves : (steps : Steps) → task.steps ≡ steps → LeavesAlone steps m.host.timers m.host.hosts → Reached m (on_page (without_task task.number) m)
      leaves steps e1 alone = on_page-reached m (without_task task.number) g (without_task-onto task.number m.host g.0 (left-alone m.host source task steps numbered e e1 alone))

      n : State
      n = on_page (without_task task.number) m

      asks_none : (t : HostTask) → Some t ≡ None → ⊥
      asks_none t e = Prim.cc

      there : Reached m (on_page (without_task task.number) m) → a.Here (on_page (without_task task.number) m)
      there left = a.later m (on_page (without_task task.number) m) left.0 z

      ends : (steps : Steps) → Goes program m (perform_steps w steps (on_page (without_task task.number) m)) → Tasked m (perform_steps w steps (on_page (without_task task.number) m))
      ends steps h = tasked m (perform_steps w steps (on_page (without_task task.number) m)) top h

      by_steps : (steps : Steps) → task.steps ≡ steps → StepsAreGiven (made_by m.host) steps → Tasked m (perform_steps w steps (on_page (without_task task.number) m))
      by_steps RunScript e1 x = ends RunScript (invoke-goes program w a (TheScript source task) tt false [] m g (a.there m z) (e, e1) x (without_task-held task.number m.host g.0) tt (a.fits m z))
      by_steps (RunTimer t) e1 x = timer_task-goes w a source task t m clears top fresh g z e e1 x tidy numbered
      by_steps (TimeOutSignal s) e1 x = let left = leaves (TimeOutSignal s) e1 tt in ends (TimeOutSignal s) (wide program m (on_page (without_task task.number) m) (perform_steps w (TimeOutSignal s) (on_page (without_task task.number) m)) left.0 (abort-goes program w a s (a_fault TimeoutError) (on_page (without_task task.number) m) left.1 (there left) x tt))
      by_steps (FireAtWindow name v) e1 x = let left = leaves (FireAtWindow name v) e1 tt in ends (FireAtWindow name v) (wide program m (on_page (without_task task.number) m) (perform_steps w (FireAtWindow name v) (on_page (without_task task.number) m)) left.0 (dispatch-goes program w a Window name (v ∷ []) (on_page (without_task task.number) m) left.1 (there left) (x, tt)))
      by_steps (AnswerHost t) e1 x = absurd (asks_none t (sym (ap host_task_of e1) ∙ no_host))
      by_steps (RunFrame t) e1 x = let left = leaves (RunFrame t) e1 tt in ends (RunFrame t) (wide program m (on_page (without_task task.number) m) (perform_steps w (RunFrame t) (on_page (without_task task.number) m)) left.0 (run_frame-goes program w a t (on_page (without_task task.number) m) o left.1 (there left)))
      by_steps InvokeIdle e1 x = let left = leaves InvokeIdle e1 tt in ends InvokeIdle (wide program m (on_page (without_task task.number) m) (perform_steps w InvokeIdle (on_page (without_task task.number) m)) left.0 (invoke_idle-goes w a (on_page (without_task task.number) m) (left.0.4 (ready.invoking (task-there source InvokeIdle m.host.tasks task e e1))) left.1 (there left)))
      by_steps (IdleTimeout handle) e1 x = let left = leaves (IdleTimeout handle) e1 tt in ends (IdleTimeout handle) (wide program m (on_page (without_task task.number) m) (perform_steps w (IdleTimeout handle) (on_page (without_task task.number) m)) left.0 (timed_out-goes w a handle (idle_callback handle m.host) (on_page (without_task task.number) m) refl (λ c i same. due-there m.host handle c ready (task-there source (IdleTimeout handle) m.host.tasks task e e1) i same) left.1 (there left)))
      by_steps (NotifyRejected ks) e1 x = let left = leaves (NotifyRejected ks) e1 tt in
          ends (NotifyRejected ks) (wide program m (on_page (without_task task.number) m) (perform_steps w (NotifyRejected ks) (on_page (without_task task.number) m)) left.0
          (each_in_turn-goes program (on_page (without_task task.number) m) IsPromise promise-grows (notify_one w) (λ k r le gr y. notify_one-goes w a k r gr (a.later (on_page (without_task task.number) m) r le (there left)) y) ks (on_page (without_task task.number) m) (le-same (on_page (without_task task.number) m)) left.1 x))
      by_steps (NotifyHandled k) e1 x = let left = leaves (NotifyHandled k) e1 tt in
          let n = on_page (without_task task.number) m in
          let told = on_page (emit (Handled k)) n in
          let args = PromiseValue k ∷ promise_reason n.host k ∷ [] in
          ends (NotifyHandled k) (wide program m n (perform_steps w (NotifyHandled k) (on_page (without_task task.number) m)) left.0
          (then_page program n (emit (Handled k)) (dispatch w Window (codes "rejectionhandled") args told) left.1 (told-onto (Handled k) n.host refl left.1.0)
          (λ b. dispatch-goes program w a Window (codes "rejectionhandled") args told b.1 (a.later n told b.0 (there left)) (x, (promise_reason-known n.host k left.1.0, tt)))))

  -- the scheduler's first task, from before the line of its turn
  pub sched_task-goes : (w : Ways) (a : WaysGo program w) → (t : SchedTask) (m : State) → m.host.level ≡ 0 → Sound m.host → AtTop m → Good m → a.There m → first_sched m.host ≡ Some t → open_registrations m.host.events ≡ [] → m.host.notices.jobs ≡ [] → FrameIsOver m.host → SchedTaskIsGiven (made_by m.host) t → Tasked m (perform_sched w t (on_page (sched_begun t) m))
  sched_task-goes w a t m level sound top g z e o j over x = by_kind t.continuation refl
    where
      by_kind : (b : Bool) → t.continuation ≡ b → Tasked m (branch b (on_page (sched_begun t) m) (λ m. finish (on_page (continued t.registration) m)) (run_post w t))
      by_kind true k =
          let role = subst (λ (b : Bool). IsFor (sched_role b) (made_by m.host) t.registration) k x.kind in
          let waited : Waited (AContinuation t) m.host = (e, k, o, j, over) in
          began m (entered (AContinuation t) m) (finish (on_page (continued t.registration) (on_page (sched_begun t) m))) top (calling here (AContinuation t) waited role) (begins-timers (AContinuation t) m.host tt waited) refl level
          (sched-following (AContinuation t) m.host tt waited role level sound) (continued-went t m g waited role x.registration)
      by_kind false k =
          let n = on_page (sched_begun t) m in
          let begun = on_page (post_state t) n in
          let into = (the_registration n.host t.registration).promise in
          let first : Onward (made_by m.host) n.host = sched_held t m.host g.0 in
          let all : Onward (made_by m.host) begun.host = onward-then (made_by m.host) n.host begun.host first (post_state-held t n.host first.1 x) in
          let promise : IsGiven (length m.host.notices.promises) into = x.registration.promise in
          let called = entered (APost t) m in
          let role = subst (λ (b : Bool). IsFor (sched_role b) (made_by m.host) t.registration) k x.kind in
          let waited : Waited (APost t) m.host = (e, k, o, j, over) in
          began m called (afterwards (settle_derived into (invoke w t.registration false [] begun)) (λ m. finish (on_page (unwatch t.registration) m)))
          top (calling here (APost t) waited role) (begins-timers (APost t) m.host tt waited) refl level (sched-following (APost t) m.host tt waited role level sound)
          (afterwards-went program m called (settle_derived into (invoke w t.registration false [] begun)) (λ m. finish (on_page (unwatch t.registration) m))
          (settle_derived-went program into m called (invoke w t.registration false [] begun) promise (invoked-goes program w a (APost t) false [] m g z waited role all tt))
          (λ r le row gr. finish_page program r (unwatch t.registration) gr
          (unwatch-onto t.registration r.host gr.0
          (λ d. on_left (was_called r.host.events t.registration) (was_dropped r.host.events t.registration) (moves-given (is_call_of t.registration) row (on_left (t.registration == t.registration) (was_called (taken (APost t) m.host).events t.registration) (eq-eqb t.registration t.registration refl)))))))

  -- how the end of a task ends: with no job, at level 0
  abbrev pub Rested : State → Done Page → Type 0
  Rested m (Gives v r) = Lasts m r × Good r × Sound r.host × r.host.level ≡ 0
  Rested m (Throws v r) = Lasts m r × Good r × Sound r.host × r.host.level ≡ 0
  Rested m (Returns v r) = Lasts m r × Good r × Sound r.host × r.host.level ≡ 0
  Rested m (OutOfFuel r) = Halts m r

  pub after_task-rests : (call : Caller Page) → CallsGo program call → (m : State) → Good m → AtTop m → IsOver m → Rested m (after_task call m)
  after_task-rests call c m g z over = by_level over.1
    where
      idle_one : State
      idle_one = on_page (λ p. record p { level = 0; scheduling = None }) m

      row : Moves m.host idle_one.host
      row = flagging here refl refl refl refl refl refl refl refl

      good : Good idle_one
      good = (numbers.on_page-good m (λ p. record p { level = 0; scheduling = None }) g (scheduling-onto program None m.host g.0 tt).0).1

      first : Lasts m idle_one
      first = let kept = timers-same m.host idle_one.host refl refl refl refl in (Grows-same (made_by m.host), row, (refl, refl, refl), kept-same m.host idle_one.host refl refl refl, kept.waits, kept.posts)

      top : AtTop idle_one
      top = z

      goes : Goes program idle_one (checkpoint call idle_one)
      goes = checkpoint-goes program call c idle_one good top

      on : (r : State) → Le idle_one r → Good r → Sound r.host → Lasts m r × Good r × Sound r.host × r.host.level ≡ 0
      on r le gr s = (lasts-then m idle_one r first (lasting idle_one r le), gr, s, le.6.level (outside z.1))

      followed_one : (d : Done Page) → Following idle_one.host → Goes program idle_one d → Rested m d
      followed_one (Gives v r) f h = on r h.0 h.1 (h.0.6.follows f).sound
      followed_one (Throws v r) f h = on r h.0 h.1 (h.0.6.follows f).sound
      followed_one (Returns v r) f h = on r h.0 h.1 (h.0.6.follows f).sound
      followed_one (OutOfFuel r) f h = (moves-then row h.0, h.1 f)

      idle : (d : Done Page) → SoundEnd d → Goes program idle_one d → Rested m d
      idle (Gives v r) s h = on r h.0 h.1 s
      idle (Throws v r) s h = on r h.0 h.1 s
      idle (Returns v r) s h = on r h.0 h.1 s
      idle (OutOfFuel r) s h = elim s [ ]

      by_level : m.host.notices.jobs ≡ [] ⊎ (m.host.level ≡ 0 × Following m.host) → Rested m (checkpoint call idle_one)
      by_level (inl none) = idle (checkpoint call idle_one) (checkpoint-sound call idle_one z.1 z.0 none (reset-sound m.host m.host.performing 0 None over.0)) goes
      by_level (inr k) = followed_one (checkpoint call idle_one) (reset-following m.host m.host.performing 0 None z.0 (λ e. sym k.0) k.1) goes
