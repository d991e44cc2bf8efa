-- How the part's calls are what the model's page does.
use Rattle.std.specs.Prelude.{◌≡◌, ℕ, suc, ◌+◌, ◌*◌, ◌/◌, ◌==◌, false, List, ◌∷◌, [], Option, Some, None, pos, option_map, if◌then◌else◌}
use Rattle.page_types.specs.Values.{IntValue, DeadlineValue}
use Rattle.page_types.specs.Tree.{Program}
use Rattle.page_types.specs.Events.{Arm, Drop, Period, IdleLine, Frame}
use Rattle.page_types.specs.declared.Source.TheVariants.{Render, Idle}
use Rattle.page_parts.specs.Words.{and_last, is_there}
use Rattle.page_parts.specs.Setup.{Setup}
use Rattle.page_parts.specs.Timers.{next_due}
use Rattle.page_parts.specs.Frames.{Callback, callback_in, keys}
use Rattle.page_parts.specs.HostClosures.{HostClosure}
use Rattle.lang_meaning.specs.Machine.{Done, afterwards, finish}
use Rattle.page_model.specs.State.{RunFrame, InvokeIdle, Page, State, on_page, emit, queue_task}
use Rattle.page_model.specs.Invoke.{Ways, invoke}
use Rattle.page_model.specs.Parallel.{FrameItem, take_item}
use Rattle.page_model.specs.PageSignals.{each_in_turn}
use Rattle.page_model.specs.PageTime as model
use Rattle.page_model.specs.PageTime.{first_task, idle_timeout}
use Rattle.page_model.specs.SchedulerTasks.{with_state}
use Rattle.page_model.specs.Tasks.{run_frame, frame_callback, background, invoke_idle_again, idle_called, timed_out}
use Rattle.page_model.specs.Turns.{first_page}
use Rattle.page_frames.specs.Fields.{FrameFields, fields_of, with_fields, no_callbacks}
use Rattle.page_frames.specs.Steps.{frame_requested, frame_registration, frame_gone, next_opportunity, opportunity_taken, idle_requested, idle_registration, idle_gone, has_runnable, first_registration, first_gone, deadline_from, idle_moment_at, idle_start_set, period_to_start, period_started, time_left}

-- the fields of a page that was given others are those
abbrev pub FieldsAre : FrameFields → Page → Type 0
FieldsAre f p = (fields_of (with_fields f p) ≡ f) × (with_fields (fields_of p) p ≡ p)

-- the fields of the page before the first turn
abbrev pub FirstAre : Program → Setup → List HostClosure → Type 0
FirstAre program setup hosts = fields_of (first_page program setup hosts) ≡ no_callbacks (1000000 / setup.refresh)

-- a change of these fields, in the whole state
abbrev pub on_fields : (FrameFields → FrameFields) → State → State
on_fields change = on_page (λ p. with_fields (change (fields_of p)) p)

-- a page after a callback was taken out, with the line that drops it where it was there
abbrev pub dropped_by : Option ℕ → Page → Page
dropped_by None p = p
dropped_by (Some registration) p = emit (Drop registration) p

-- ---- HTML, "Animation frames" and "Event loops: processing model"

abbrev pub RequestFrameIs : (registration : ℕ) → Page → Type 0
RequestFrameIs registration p =
    model.request_frame registration p ≡ with_fields (frame_requested registration p.now (fields_of p)) p

abbrev pub WithoutFrameIs : (handle : ℕ) → Page → Type 0
WithoutFrameIs handle p = model.without_frame handle p ≡ with_fields (frame_gone handle (fields_of p)) p

-- the call, and then the line where it answers a registration
abbrev pub CancelFrameIs : (handle : ℕ) → Page → Type 0
CancelFrameIs handle p =
    model.cancel_frame handle p
    ≡ dropped_by (frame_registration handle (fields_of p)) (with_fields (frame_gone handle (fields_of p)) p)

abbrev pub NextFrameIs : Page → Type 0
NextFrameIs p = model.next_frame p ≡ next_opportunity (is_there (first_task Render p.tasks)) (fields_of p)

-- a rendering opportunity is taken, and then a frame is queued
abbrev pub TakeFrameIs : Page → Type 0
TakeFrameIs p =
    take_item FrameItem p ≡ queue_task Render (RunFrame p.now) (with_fields (opportunity_taken p.now (fields_of p)) p)

-- a registration that was taken is invoked with the timestamp
abbrev pub frame_called : Ways → (timestamp : ℕ) → Option ℕ → State → Done Page
frame_called w t None m = finish m
frame_called w t (Some registration) m = invoke w registration false (IntValue (pos t) ∷ []) m

-- a key is taken, and then what it gives is invoked
abbrev pub key_visited : Ways → (timestamp : ℕ) → (key : ℕ) → State → Done Page
key_visited w t key m = frame_called w t (frame_registration key (fields_of m.host)) (on_fields (frame_gone key) m)

abbrev pub FrameCallbackIs : Ways → (timestamp : ℕ) → (key : ℕ) → State → Type 0
FrameCallbackIs w t key m = frame_callback w t (callback_in m.host.frames.callbacks key) m ≡ key_visited w t key m

-- a frame visits the keys that there are at its start
abbrev pub RunFrameIs : Ways → (timestamp : ℕ) → State → Type 0
RunFrameIs w t m =
    run_frame w t m
    ≡ each_in_turn (keys (fields_of m.host).frames) (key_visited w t) (on_page (emit (Frame t)) m)

-- ---- requestIdleCallback, "The requestIdleCallback() method" and "Invoke idle callback timeout algorithm"

-- the call, and then the timeout where there is one
abbrev pub RequestIdleIs : (milliseconds : ℕ) → (registration : ℕ) → Page → Type 0
RequestIdleIs ms registration p =
    let requested = with_fields (idle_requested registration (fields_of p)) p in
    model.request_idle ms registration p ≡ (if ms == 0 then requested else idle_timeout ms registration requested)

-- that timeout is one of the handle which the call answers
abbrev pub IdleTimeoutIs : (milliseconds : ℕ) → (registration : ℕ) → Page → Type 0
IdleTimeoutIs ms registration p =
    let due = p.now + ms * 1000 in
    let requested = with_fields (idle_requested registration (fields_of p)) p in
    idle_timeout ms registration requested
    ≡ emit (Arm registration due 0)
    (record requested {
      idle_timers = and_last p.idle_timers (record { due = due; handle = suc p.idle.made; registration = registration });
    })

abbrev pub IdleCallbackIs : (handle : ℕ) → Page → Type 0
IdleCallbackIs handle p = option_map (λ c. c.registration) (model.idle_callback handle p) ≡ idle_registration handle (fields_of p)

abbrev pub WithoutIdleIs : (handle : ℕ) → Page → Type 0
WithoutIdleIs handle p = model.without_idle handle p ≡ with_fields (idle_gone handle (fields_of p)) p

-- the call, and then the line where it answers a registration
abbrev pub CancelIdleIs : (handle : ℕ) → Page → Type 0
CancelIdleIs handle p =
    model.cancel_idle handle p
    ≡ dropped_by (idle_registration handle (fields_of p)) (with_fields (idle_gone handle (fields_of p)) p)

-- a registration that was taken is invoked with a deadline, in the state of idle callbacks
abbrev pub idle_invoked : Ways → Option ℕ → (fixed : Option ℕ) → State → Done Page
idle_invoked w None fixed m = finish m
idle_invoked w (Some registration) fixed m =
    invoke w registration false (DeadlineValue fixed ∷ []) (on_page (with_state background) m)

-- a callback whose timeout came is taken, and invoked with a deadline fixed at now
abbrev pub TimedOutIs : Ways → (handle : ℕ) → State → Type 0
TimedOutIs w handle m =
    timed_out w (model.idle_callback handle m.host) m
    ≡ idle_invoked w (idle_registration handle (fields_of m.host)) (Some m.host.now) (on_fields (idle_gone handle) m)

-- ---- HTML, "Event loops: processing model" (compute deadline), and requestIdleCallback, "Start an idle period algorithm"

abbrev pub DeadlineIs : (start : ℕ) → Page → Type 0
DeadlineIs start p = model.deadline start p ≡ deadline_from start (next_due p.timers) (fields_of p)

abbrev pub IdleMomentIs : Page → Type 0
IdleMomentIs p = model.idle_moment p ≡ idle_moment_at p.now (next_due p.timers) (fields_of p)

-- the call, and then the line of the period and its task
abbrev pub period_told : (end : ℕ) → FrameFields → Page → Page
period_told end f p = queue_task Idle InvokeIdle (emit (Period end) (with_fields (period_started end f) p))

abbrev pub PeriodBegunIs : (end : ℕ) → Page → Type 0
PeriodBegunIs end p = model.period_begun end p ≡ period_told end (fields_of p) p

-- a period is started, where it may
abbrev pub started_by : Option ℕ → FrameFields → Page → Page
started_by None f p = with_fields f p
started_by (Some end) f p = period_told end f p

abbrev pub StartPeriodIs : Page → Type 0
StartPeriodIs p = model.start_period p ≡ started_by (period_to_start p.now (next_due p.timers) (fields_of p)) (fields_of p) p

-- the start is now, and then a period is started, where it may
abbrev pub IdleStepIs : Page → Type 0
IdleStepIs p =
    let set = idle_start_set p.now (fields_of p) in
    model.idle_step p ≡ started_by (period_to_start p.now (next_due p.timers) set) set p

abbrev pub TimeRemainingIs : (fixed : Option ℕ) → Page → Type 0
TimeRemainingIs fixed p = model.time_remaining fixed p ≡ time_left fixed p.now (next_due p.timers) (fields_of p)

-- ---- requestIdleCallback, "Invoke idle callbacks algorithm"

abbrev pub InvokeAgainIs : Page → Type 0
InvokeAgainIs p = invoke_idle_again p ≡ (if has_runnable (fields_of p) then queue_task Idle InvokeIdle p else p)

-- the first runnable callback leaves by its handle, as it leaves where it is taken as the first
abbrev pub FirstGoneIs : Callback → List Callback → Page → Type 0
FirstGoneIs c others p =
    p.idle.runnable ≡ c ∷ others
    → (first_registration (fields_of p) ≡ Some c.registration)
    × (model.without_idle c.handle p ≡ with_fields (first_gone (fields_of p)) p)

-- the line with the deadline that is computed now
abbrev pub deadline_told : Page → Page
deadline_told p = emit (IdleLine (deadline_from p.last_idle_start (next_due p.timers) (fields_of p))) p

-- the first runnable callback is taken and invoked behind that line; where callbacks remain then, the same task is queued again
abbrev pub first_called : Ways → Option ℕ → State → Done Page
first_called w None m = finish m
first_called w (Some registration) m =
    afterwards (idle_invoked w (Some registration) None (on_fields first_gone (on_page deadline_told m)))
    (λ m. finish (on_page invoke_idle_again m))

abbrev pub IdleCalledIs : Ways → State → Type 0
IdleCalledIs w m = idle_called w m.host.idle.runnable m ≡ first_called w (first_registration (fields_of m.host)) m
