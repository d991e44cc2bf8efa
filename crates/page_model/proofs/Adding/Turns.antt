-- The tasks, the parallel items and the turns of a page only add lines.
use Rattle.std.proofs.Common.{◌≡◌, ℕ, zero, suc, Bool, true, false, List, [], ◌∷◌, Option, Some, None, refl, ap, ◌∙◌, cond, ℤ, pos, ◌||◌, nat_lt, nat_le, Result, Ok, Err, slice_get}
use Rattle.std.specs.Prelude.{codes, ◌==◌}
use Rattle.page_types.specs.Values.{IntValue, PromiseValue, UnitValue}
use Rattle.page_types.specs.declared.FaultName.TheVariants.{TimeoutError}
use Rattle.page_types.specs.Events.{Stamped, Ret, Unhandled, Handled, Host, Frame, IdleLine, Wait, Due}
use Rattle.page_types.specs.declared.Source.{Source}
use Rattle.page_types.specs.declared.Source.TheVariants.{User, Net, Dom, Timer, Render, Sched, Idle}
use Rattle.page_parts.specs.Words.{is_empty}
use Rattle.page_parts.specs.Kinds.{a_fault}
use Rattle.lang_meaning.specs.Machine.{hosted, done_hosted, Done, Gives, Throws, Returns, OutOfFuel, finish, afterwards, Caller}
use Rattle.page_parts.specs.Timers.{is_live}
use Rattle.page_parts.specs.Frames.{Callback, callback_in, keys}
use Rattle.page_parts.specs.Listeners.{Window}
use Rattle.page_model.specs.State.{Page, State, TimerTask, HostTask, Steps, RunScript, RunTimer, TimeOutSignal, FireAtWindow, AnswerHost, RunFrame, InvokeIdle, IdleTimeout, NotifyRejected, NotifyHandled, Task, SchedTask, Completion, QueueTimer, EnqueuePost, QueueSignal, on_page, emit, the_registration}
use Rattle.page_parts.specs.HostClosures.{HostClosure}
use Rattle.page_model.specs.PagePromises as promises
use Rattle.page_model.specs.PagePromises.{promise_at}
use Rattle.page_model.specs.PageTime.{without_frame, without_timer, deadline, idle_callback, completion_of, first_task, idle_step}
use Rattle.page_model.specs.SchedulerTasks.{enqueue, first_sched, without_sched}
use Rattle.page_model.specs.Invoke.{Ways, in_task, call_begun, call_ended, settle_derived}
use Rattle.page_model.specs.PageSignals.{unwatch, is_aborted_source, host_task_of}
use Rattle.page_model.specs.Tasks.{timer_goes_on, run_timer, frame_callback, run_frame, call_idle, invoke_idle_again, idle_called, invoke_idle, timed_out, promise_reason, notify_one, perform_steps, continued, post_state, run_post, perform_sched, fire_closure, settle_answer, answer_host, after_task}
use Rattle.page_model.specs.Parallel.{ItemKind, ArrivalItem, HostItem, TimerItem, IdleItem, FrameItem, complete, complete_at, take_item, due_item, first_item, take_due, item_count, parallel}
use Rattle.page_parts.specs.WrittenChoices.{Runnable}
use Rattle.page_model.specs.Choosing.{Rules, Chosen, chosen_source, chosen_reading, chosen_answer}
use Rattle.page_model.specs.View.{view}
use Rattle.page_model.specs.Turns.{Turned, GoesOn, Ended, Stuck, goes_on, choose_turned, step_five, task_done, without_task, not_dropped, host_answered, perform_host, perform_task, perform_first, perform_first_sched, perform, turn_line, perform_picked, step_four, counted_turn, with_turn_fuel, step_three, from_step_three, is_pending, target, at_time, waited, step_two_at, step_two_by, step_two, step_one, after_step_one, from_step_one, turn, next_turn, turns}
use Rattle.lang_meaning.proofs.Following.{afterwards-follows, branch-follows}
use Rattle.lang_meaning.specs.Following.{CallsFollow}
use Rattle.page_model.proofs.Adding.Lines.{cond-adds, cond_of-adds, elim-adds, finish-adds, resolve-adds, reject-adds, unwatch-adds, idle_step-adds}
use Rattle.page_model.specs.Additions.{after, Adds, AddsAll, turned_after, TurnAdds}
use Rattle.page_model.proofs.Adding.Runs.{WaysAdd, invoke-adds, in_task-adds, checkpoint-adds, settle_derived-adds, each_in_turn-adds, dispatch-adds, abort-adds}

module _ (es : List Stamped) where
  -- ---- tasks

  timer_goes_on-adds : (t : TimerTask) → AddsAll es (timer_goes_on t)
  timer_goes_on-adds t = branch-follows (after es) t.repeats _ _ _ _ (λ m. refl) (λ m. refl)

  run_timer-adds : (w : Ways) → WaysAdd es w → (t : TimerTask) → AddsAll es (run_timer w t)
  run_timer-adds w a t m =
      branch-follows (after es) (is_live t.id t.handle m.host.timers) _ _ _ _
      (λ m. afterwards-follows (after es) _ _ _ _ (invoke-adds es w a t.registration false [] m) (λ m. branch-follows (after es) (is_live t.id t.handle m.host.timers) _ _ _ _ (timer_goes_on-adds t) (λ m. refl) m))
      (λ m. refl) (on_page (λ p. record p { level = t.level }) m)

  frame_callback-adds : (w : Ways) → WaysAdd es w → (t : ℕ) (c : Option Callback) → AddsAll es (frame_callback w t c)
  frame_callback-adds w a t None m = refl
  frame_callback-adds w a t (Some c) m = invoke-adds es w a c.registration false (IntValue (pos t) ∷ []) (on_page (without_frame c.handle) m)

  run_frame-adds : (w : Ways) → WaysAdd es w → (t : ℕ) → AddsAll es (run_frame w t)
  run_frame-adds w a t m =
      each_in_turn-adds es (keys m.host.frames) (λ key m. frame_callback w t (callback_in m.host.frames.callbacks key) m)
      (λ key m. frame_callback-adds w a t (callback_in m.host.frames.callbacks key) m) (on_page (emit (Frame t)) m)

  call_idle-adds : (w : Ways) → WaysAdd es w → (c : Callback) (t : Option ℕ) → AddsAll es (call_idle w c t)
  call_idle-adds w a c t m = invoke-adds es w a c.registration false _ _

  invoke_idle_again-adds : Adds es invoke_idle_again
  invoke_idle_again-adds p = cond-adds es (is_empty p.idle.runnable) _ _ _ _ refl refl

  idle_called-adds : (w : Ways) → WaysAdd es w → (cs : List Callback) → AddsAll es (idle_called w cs)
  idle_called-adds w a [] m = refl
  idle_called-adds w a (c ∷ others) m =
      afterwards-follows (after es) _ _ _ _ (call_idle-adds w a c None (on_page (λ p. emit (IdleLine (deadline p.last_idle_start p)) p) m)) (finish-adds es invoke_idle_again invoke_idle_again-adds)

  invoke_idle-adds : (w : Ways) → WaysAdd es w → AddsAll es (invoke_idle w)
  invoke_idle-adds w a m =
      branch-follows (after es) (nat_lt m.host.now (deadline m.host.last_idle_start m.host)) _ _ _ _ (λ m. idle_called-adds w a m.host.idle.runnable m) (λ m. refl) m

  timed_out-adds : (w : Ways) → WaysAdd es w → (c : Option Callback) → AddsAll es (timed_out w c)
  timed_out-adds w a None m = refl
  timed_out-adds w a (Some c) m = call_idle-adds w a c (Some m.host.now) m

  notify_one-adds : (w : Ways) → WaysAdd es w → (n : ℕ) → AddsAll es (notify_one w n)
  notify_one-adds w a n m =
      branch-follows (after es) (promise_at m.host n).handled _ _ _ _ (λ m. refl)
      (λ m. afterwards-follows (after es) _ _ _ _ (dispatch-adds es w a Window (codes "unhandledrejection") (PromiseValue n ∷ promise_reason m.host n ∷ []) (on_page (emit (Unhandled n)) m)) (λ m. refl)) m

  pub perform_steps-adds : (w : Ways) → WaysAdd es w → (steps : Steps) → AddsAll es (perform_steps w steps)
  perform_steps-adds w a RunScript m = invoke-adds es w a 1 false [] m
  perform_steps-adds w a (RunTimer t) m = run_timer-adds w a t m
  perform_steps-adds w a (TimeOutSignal s) m = abort-adds es w a s (a_fault TimeoutError) m
  perform_steps-adds w a (FireAtWindow name v) m = dispatch-adds es w a Window name (v ∷ []) m
  perform_steps-adds w a (AnswerHost t) m = refl
  perform_steps-adds w a (RunFrame t) m = run_frame-adds w a t m
  perform_steps-adds w a InvokeIdle m = invoke_idle-adds w a m
  perform_steps-adds w a (IdleTimeout handle) m = timed_out-adds w a (idle_callback handle m.host) m
  perform_steps-adds w a (NotifyRejected ps) m = each_in_turn-adds es ps (notify_one w) (notify_one-adds w a) m
  perform_steps-adds w a (NotifyHandled n) m = dispatch-adds es w a Window (codes "rejectionhandled") (PromiseValue n ∷ promise_reason m.host n ∷ []) (on_page (emit (Handled n)) m)

  continued-adds : (r : ℕ) → Adds es (continued r)
  continued-adds r p =
      let settled = promises.resolve (the_registration p r).promise UnitValue (call_begun r p) in
      ap (λ q. unwatch r (call_ended Ret q)) (resolve-adds es (the_registration p r).promise UnitValue (call_begun r p)) ∙ unwatch-adds es r (call_ended Ret settled)

  run_post-adds : (w : Ways) → WaysAdd es w → (t : SchedTask) → AddsAll es (run_post w t)
  run_post-adds w a t m =
      let into = (the_registration m.host t.registration).promise in
      afterwards-follows (after es) _ _ _ _
      (ap (settle_derived into) (invoke-adds es w a t.registration false [] (on_page (post_state t) m)) ∙ settle_derived-adds es into _)
      (finish-adds es (unwatch t.registration) (unwatch-adds es t.registration))

  pub perform_sched-adds : (w : Ways) → WaysAdd es w → (t : SchedTask) → AddsAll es (perform_sched w t)
  perform_sched-adds w a t = branch-follows (after es) t.continuation _ _ _ _ (finish-adds es (continued t.registration) (continued-adds t.registration)) (run_post-adds w a t)

  fire_closure-adds : (k : ℕ) (c : Option HostClosure) → Adds es (fire_closure k c)
  fire_closure-adds k None p = refl
  fire_closure-adds k (Some c) p = refl

  settle_answer-adds : (n : ℕ) (answer : Result ℤ ℤ) → Adds es (settle_answer n answer)
  settle_answer-adds n (Ok v) p = resolve-adds es n (IntValue v) p
  settle_answer-adds n (Err v) p = reject-adds es n (IntValue v) p

  pub answer_host-adds : (t : HostTask) (answer : Result ℤ ℤ) → Adds es (answer_host t answer)
  answer_host-adds t answer p =
      let into = (the_registration p t.registration).promise in
      let fired = fire_closure t.closure (slice_get p.hosts t.closure) (emit (Host t.closure t.number answer) p) in
      ap (λ q. unwatch t.registration (settle_answer into answer q)) (fire_closure-adds t.closure (slice_get p.hosts t.closure) (emit (Host t.closure t.number answer) p))
      ∙ (ap (unwatch t.registration) (settle_answer-adds into answer fired) ∙ unwatch-adds es t.registration (settle_answer into answer fired))

  after_task-adds : (call : Caller Page) → CallsFollow (after es) call call → AddsAll es (after_task call)
  after_task-adds call c m = checkpoint-adds es call c (on_page (λ p. record p { level = 0; scheduling = None }) m)

  -- ---- parallel items

  complete-adds : (c : Completion) → Adds es (complete c)
  complete-adds (QueueTimer t) p = refl
  complete-adds (EnqueuePost r source) p = by_signal (the_registration p r).signal
    where
      by_signal : (s : Option ℕ) → cond (is_aborted_source (after es p) s) (λ q. q) (enqueue r source false) (emit (Due r) (after es p)) ≡ after es (cond (is_aborted_source p s) (λ q. q) (enqueue r source false) (emit (Due r) p))
      by_signal None = refl
      by_signal (Some s) = cond_of-adds es (is_aborted_source p (Some s)) (λ q. q) (enqueue r source false) (λ p. refl) (λ p. refl) (emit (Due r) p)
  complete-adds (QueueSignal r s) p = refl

  complete_at-adds : (c : Option Completion) → Adds es (complete_at c)
  complete_at-adds None p = refl
  complete_at-adds (Some c) p = complete-adds c p

  take_item-adds : (what : ItemKind) → Adds es (take_item what)
  take_item-adds (ArrivalItem n a) p = refl
  take_item-adds (HostItem a) p = refl
  take_item-adds (TimerItem t) p = complete_at-adds (completion_of p.completions t.start) (without_timer t.start p)
  take_item-adds (IdleItem t) p = refl
  take_item-adds FrameItem p = refl

  take_due-adds : (n : ℕ) → Adds es (take_due n)
  take_due-adds zero p = refl
  take_due-adds (suc n) p =
      elim-adds es (due_item p.now (first_item p)) p (after es p) (λ a. take_due n (take_item a.what p)) (λ a. take_due n (take_item a.what (after es p))) refl
      (λ a. ap (take_due n) (take_item-adds a.what p) ∙ take_due-adds n (take_item a.what p))

  pub parallel-adds : Adds es parallel
  parallel-adds p = take_due-adds (item_count p) p

  -- ---- turns

  pub choose_turned-adds : {C : Type 0} (b : Bool) (then else : State → Turned C) → TurnAdds es then → TurnAdds es else → TurnAdds es (choose_turned b then else)
  choose_turned-adds true then else h k m = h m
  choose_turned-adds false then else h k m = k m

  pub step_five-adds : (m : State) → step_five (hosted (after es) m) ≡ hosted (after es) (step_five m)
  step_five-adds m = by_view (is_empty (view m.host))
    where
      by_view : (b : Bool) → cond b (on_page idle_step) (λ m. m) (hosted (after es) m) ≡ hosted (after es) (cond b (on_page idle_step) (λ m. m) m)
      by_view true = ap (λ p. record m { host = p }) (idle_step-adds es m.host)
      by_view false = refl

  goes_on-adds : {C : Type 0} (c : C) (d : Done Page) → goes_on c (done_hosted (after es) d) ≡ turned_after es (goes_on c d)
  goes_on-adds c (Gives v m) = refl
  goes_on-adds c (Returns v m) = refl
  goes_on-adds c (Throws v m) = refl
  goes_on-adds c (OutOfFuel m) = refl

  pub next_turn-adds : {C : Type 0} (next : State → C → Turned C) → ((c : C) → TurnAdds es (λ m. next m c)) → (t : Turned C) → next_turn (turned_after es t) next ≡ turned_after es (next_turn t next)
  next_turn-adds next k (GoesOn m c) = k c m
  next_turn-adds next k (Ended end m c) = refl
  next_turn-adds next k (Stuck at m c) = refl

  module _ {C : Type 0} (rules : Rules C) (call : Caller Page) (calls_add : CallsFollow (after es) call call) where
    pub task_done-adds : (c : C) (d d' : Done Page) → d' ≡ done_hosted (after es) d → task_done call c d' ≡ turned_after es (task_done call c d)
    task_done-adds c d d' e =
        ap (goes_on c) (afterwards-follows (after es) d d' (after_task call) (after_task call) e (after_task-adds call calls_add)) ∙ goes_on-adds c (afterwards d (after_task call))

    pub host_answered-adds : (t : HostTask) (a : Option (Chosen (Result ℤ ℤ) C)) (c : C) → TurnAdds es (λ m. host_answered call t a m c)
    host_answered-adds t None c m = refl
    host_answered-adds t (Some a) c m = task_done-adds a.left (finish (on_page (answer_host t a.choice) m)) _ (finish-adds es (answer_host t a.choice) (answer_host-adds t a.choice) m)

    perform_host-adds : (t : HostTask) (k : Option HostClosure) (c : C) → TurnAdds es (λ m. perform_host rules call t k m c)
    perform_host-adds t None c m = task_done-adds c (finish m) _ refl
    perform_host-adds t (Some k) c m = host_answered-adds t (chosen_answer rules k.kind t.number c) c m

    perform_task-adds : (task : Task) (t : Option HostTask) (c : C) → TurnAdds es (λ m. perform_task rules call task t m c)
    perform_task-adds task None c m = task_done-adds c _ _ (perform_steps-adds (in_task call) (in_task-adds es call calls_add) task.steps m)
    perform_task-adds task (Some t) c m = perform_host-adds t (not_dropped (slice_get m.host.hosts t.closure)) c m

    perform_first-adds : (task : Option Task) (c : C) → TurnAdds es (λ m. perform_first rules call task m c)
    perform_first-adds None c m = refl
    perform_first-adds (Some task) c m = perform_task-adds task (host_task_of task.steps) c (on_page (without_task task.number) m)

    perform_first_sched-adds : (t : Option SchedTask) (c : C) → TurnAdds es (λ m. perform_first_sched call t m c)
    perform_first_sched-adds None c m = refl
    perform_first_sched-adds (Some t) c m = task_done-adds c _ _ (perform_sched-adds (in_task call) (in_task-adds es call calls_add) t (on_page (without_sched t.registration) m))

    perform-adds : (source : Source) (c : C) → TurnAdds es (λ m. perform rules call source m c)
    perform-adds Sched c m = perform_first_sched-adds (first_sched m.host) c m
    perform-adds User c m = perform_first-adds (first_task User m.host.tasks) c m
    perform-adds Net c m = perform_first-adds (first_task Net m.host.tasks) c m
    perform-adds Dom c m = perform_first-adds (first_task Dom m.host.tasks) c m
    perform-adds Timer c m = perform_first-adds (first_task Timer m.host.tasks) c m
    perform-adds Render c m = perform_first-adds (first_task Render m.host.tasks) c m
    perform-adds Idle c m = perform_first-adds (first_task Idle m.host.tasks) c m

    pub perform_picked-adds : (s : Option (Chosen Source C)) (c : C) → TurnAdds es (λ m. perform_picked rules call s m c)
    perform_picked-adds None c m = refl
    perform_picked-adds (Some s) c m = perform-adds s.choice s.left (turn_line (Some s.choice) m)

    step_four-adds : (rs : List Runnable) (c : C) → TurnAdds es (λ m. step_four rules call rs m c)
    step_four-adds [] c m = refl
    step_four-adds (r ∷ rs) c m = perform_picked-adds (chosen_source rules (r ∷ rs) c) c m

    with_turn_fuel-adds : (fuel : ℕ) (c : C) → TurnAdds es (λ m. with_turn_fuel rules call fuel m c)
    with_turn_fuel-adds zero c m = refl
    with_turn_fuel-adds (suc left) c m = step_four-adds (view m.host) c (counted_turn left m)

    pub step_three-adds : (until : ℕ) (c : C) → TurnAdds es (step_three rules call until c)
    step_three-adds until c m = choose_turned-adds (nat_le until m.host.now) _ _ (λ m. refl) (λ m. with_turn_fuel-adds m.fuel c m) m

    from_step_three-adds : (until : ℕ) (c : C) → TurnAdds es (from_step_three rules call until c)
    from_step_three-adds until c m =
        ap (λ t. next_turn t (λ m c. GoesOn (step_five m) c)) (step_three-adds until c m)
        ∙ next_turn-adds (λ m c. GoesOn (step_five m) c) (λ c m. ap (λ m. GoesOn m c) (step_five-adds m)) (step_three rules call until c m)

    pub waited-adds : (t : ℕ) (r : Option (Chosen ℕ C)) (again : State → C → Turned C) (c : C) → ((c : C) → TurnAdds es (λ m. again m c)) → TurnAdds es (waited t r again c)
    waited-adds t None again c k m = refl
    waited-adds t (Some r) again c k m = k r.left (on_page (λ p. emit (Wait t) (at_time r.choice p)) m)

    step_two_at-adds : (until t : ℕ) (again : State → C → Turned C) (next : State → Turned C) (c : C) → ((c : C) → TurnAdds es (λ m. again m c)) → TurnAdds es next → TurnAdds es (step_two_at rules until t again next c)
    step_two_at-adds until t again next c k h m =
        choose_turned-adds (nat_le until m.host.now || nat_le until t) _ _ (λ m. refl) (choose_turned-adds (nat_lt m.host.now t) _ _ (waited-adds t (chosen_reading rules t c) again c k) h) m

    step_two_by-adds : (until : ℕ) (t : Option ℕ) (again : State → C → Turned C) (next : State → Turned C) (c : C) → ((c : C) → TurnAdds es (λ m. again m c)) → TurnAdds es next → TurnAdds es (step_two_by rules until t again next c)
    step_two_by-adds until None again next c k h m = refl
    step_two_by-adds until (Some t) again next c k h m = step_two_at-adds until t again next c k h m

    step_two-adds : (until : ℕ) (again : State → C → Turned C) (next : State → Turned C) (c : C) → ((c : C) → TurnAdds es (λ m. again m c)) → TurnAdds es next → TurnAdds es (step_two rules until again next c)
    step_two-adds until again next c k h m = choose_turned-adds (is_pending m.host) _ _ (step_two_by-adds until (target m.host) again next c k h) (λ m. refl) m

    pub step_one-adds : (m : State) → step_one (hosted (after es) m) ≡ hosted (after es) (step_one m)
    step_one-adds m = by_turns (m.host.turns == 0)
      where
        by_turns : (b : Bool) → cond b (hosted (after es) m) (on_page parallel (hosted (after es) m)) ≡ hosted (after es) (cond b m (on_page parallel m))
        by_turns true = refl
        by_turns false = ap (λ p. record m { host = p }) (parallel-adds m.host)

    after_step_one-adds : (until : ℕ) (again : State → C → Turned C) (c : C) → ((c : C) → TurnAdds es (λ m. again m c)) → TurnAdds es (after_step_one rules call until again c)
    after_step_one-adds until again c k m =
        choose_turned-adds (is_empty (view m.host)) _ _ (step_two-adds until again (from_step_three rules call until c) c k (from_step_three-adds until c)) (from_step_three-adds until c) m

    pub from_step_one-adds : (until n : ℕ) (c : C) → TurnAdds es (λ m. from_step_one rules call until n m c)
    from_step_one-adds until zero c m = refl
    from_step_one-adds until (suc n) c m =
        ap (after_step_one rules call until (from_step_one rules call until n) c) (step_one-adds m) ∙ after_step_one-adds until (from_step_one rules call until n) c (from_step_one-adds until n) (step_one m)

    pub turn-adds : (until : ℕ) (c : C) → TurnAdds es (λ m. turn rules call until m c)
    turn-adds until c m = from_step_one-adds until (suc (suc (item_count m.host))) c m

    pub turns-adds : (until n : ℕ) (c : C) → TurnAdds es (λ m. turns rules call until n m c)
    turns-adds until zero c m = refl
    turns-adds until (suc n) c m =
        ap (λ t. next_turn t (turns rules call until n)) (turn-adds until c m) ∙ next_turn-adds (turns rules call until n) (turns-adds until n) (turn rules call until m c)
