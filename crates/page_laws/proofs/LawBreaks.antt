-- The laws, computed on small traces that break them, and on their neighbours that do not.
use Rattle.std.specs.Prelude.{◌≡◌, ℕ, true, false, List, [], ◌∷◌, Some, None, pos, Ok, codes, refl}
use Rattle.page_types.specs.declared.Source.TheVariants.{Dom, Timer, Render, Sched}
use Rattle.page_types.specs.declared.End.TheVariants as end
use Rattle.page_types.specs.declared.RegKind.TheVariants as kind
use Rattle.page_types.specs.declared.Priority.TheVariants.{Background, UserVisible, UserBlocking}
use Rattle.page_types.specs.Events.{MicroJob, ReactJob, FixedQueue, SignalQueue, Turn, Call, Ret, Throw, Log, Reg, Arm, Due, Drop, Job, Run, Settle, Period, IdleLine, Frame, Enq, Prio, Host, EndLine, Stamped}
use Rattle.page_laws.proofs.LawExamples.{at}
use Rattle.page_laws.specs.CallLaws.{holds_once, holds_cancel, holds_settle_once, holds_jobs_in_order, holds_no_nesting}
use Rattle.page_laws.specs.TimerLaws.{holds_levels, holds_due_in_order, holds_due_when_armed, holds_timers_clamped, holds_timers_in_order, holds_frames_in_order, holds_idle_deadlines}
use Rattle.page_laws.specs.SchedulerLaws.{holds_hosts_answered, holds_intervals_over, holds_posts_over, holds_arms_due, holds_continuations_over, holds_ends_truly, holds_micros_over, holds_frames_over, holds_idles_over, holds_limits, holds_priority_order, holds_timeouts_over}

registered_twice : holds_once (at 0 (Reg 2 kind.Timeout None) ∷ at 0 (Reg 2 kind.Micro None) ∷ []) ≡ false
registered_twice = refl

called_before_it_is_registered : holds_once (at 0 (Call 2) ∷ at 0 (Reg 2 kind.Timeout None) ∷ []) ≡ false
called_before_it_is_registered = refl

timeout_called_twice : holds_once (at 0 (Reg 2 kind.Timeout None) ∷ at 0 (Call 2) ∷ at 0 Ret ∷ at 0 (Call 2) ∷ []) ≡ false
timeout_called_twice = refl

interval_called_twice : holds_once (at 0 (Reg 2 kind.Interval None) ∷ at 0 (Call 2) ∷ at 0 Ret ∷ at 0 (Call 2) ∷ []) ≡ true
interval_called_twice = refl

script_called_twice : holds_once (at 0 (Call 1) ∷ at 0 Ret ∷ at 0 (Call 1) ∷ []) ≡ false
script_called_twice = refl

script_registered_as_a_host : holds_once (at 0 (Reg 1 kind.Host None) ∷ at 0 (Call 1) ∷ []) ≡ false
script_registered_as_a_host = refl

called_script_registered_as_a_signal : holds_once (at 0 (Call 1) ∷ at 0 (Reg 1 kind.Signal None) ∷ []) ≡ false
called_script_registered_as_a_signal = refl

host_is_called : holds_once (at 0 (Reg 2 kind.Host None) ∷ at 0 (Call 2) ∷ []) ≡ false
host_is_called = refl

closure_answers_twice : holds_once (at 0 (Host 0 (pos 1) (Ok (pos 1))) ∷ at 0 (Host 0 (pos 2) (Ok (pos 4))) ∷ []) ≡ false
closure_answers_twice = refl

called_after_its_cancel : holds_cancel (at 0 (Reg 2 kind.Frame None) ∷ at 0 (Drop 2) ∷ at 0 (Call 2) ∷ []) ≡ false
called_after_its_cancel = refl

enqueued_after_its_cancel : holds_cancel (at 0 (Reg 2 kind.Post None) ∷ at 0 (Drop 2) ∷ at 0 (Enq 2 (FixedQueue UserVisible) false 2) ∷ []) ≡ false
enqueued_after_its_cancel = refl

dropped_host_is_due : holds_cancel (at 0 (Reg 2 kind.Host None) ∷ at 0 (Drop 2) ∷ at 0 (Due 2) ∷ []) ≡ false
dropped_host_is_due = refl

cleared_timer_is_due : holds_cancel (at 0 (Reg 2 kind.Timeout None) ∷ at 0 (Drop 2) ∷ at 0 (Due 2) ∷ []) ≡ true
cleared_timer_is_due = refl

dropped_host_answers : holds_cancel (at 0 (Reg 2 kind.Host None) ∷ at 0 (Due 2) ∷ at 0 (Drop 2) ∷ at 0 (Host 0 (pos 1) (Ok (pos 1))) ∷ []) ≡ false
dropped_host_answers = refl

settled_twice : holds_settle_once (at 0 (Settle 1 true (codes "1")) ∷ at 0 (Settle 1 false (codes "2")) ∷ []) ≡ false
settled_twice = refl

reaction_of_a_pending_promise : holds_settle_once (at 0 (Job 1 (ReactJob 1)) ∷ at 0 (Settle 1 true (codes "1")) ∷ []) ≡ false
reaction_of_a_pending_promise = refl

job_numbered_from_2 : holds_jobs_in_order (at 0 (Job 2 (MicroJob 2)) ∷ []) ≡ false
job_numbered_from_2 = refl

second_job_run_first : holds_jobs_in_order (at 0 (Job 1 (MicroJob 2)) ∷ at 0 (Job 2 (MicroJob 3)) ∷ at 0 (Run 2) ∷ []) ≡ false
second_job_run_first = refl

job_run_before_it_is_queued : holds_jobs_in_order (at 0 (Run 1) ∷ at 0 (Job 1 (MicroJob 2)) ∷ []) ≡ false
job_run_before_it_is_queued = refl

job_waits_at_a_turn : holds_jobs_in_order (at 0 (Job 1 (MicroJob 2)) ∷ at 0 (Turn 2 (Some Timer)) ∷ []) ≡ false
job_waits_at_a_turn = refl

job_waits_at_the_end_of_fuel : holds_jobs_in_order (at 0 (Job 1 (MicroJob 2)) ∷ at 0 (EndLine end.Fuel) ∷ []) ≡ true
job_waits_at_the_end_of_fuel = refl

job_run_inside_a_call : holds_no_nesting (at 0 (Call 1) ∷ at 0 (Run 1) ∷ []) ≡ false
job_run_inside_a_call = refl

job_run_inside_an_outer_call : holds_no_nesting (at 0 (Call 1) ∷ at 0 (Call 2) ∷ at 0 (Throw (codes "1")) ∷ at 0 (Run 1) ∷ []) ≡ false
job_run_inside_an_outer_call = refl

-- two timeouts of the script, armed for these times
abbrev two_timeouts : ℕ → ℕ → List Stamped → List Stamped
two_timeouts first second more =
    at 0 (Call 1) ∷
    at 0 (Reg 2 kind.Timeout None) ∷
    at 0 (Arm 2 first 1) ∷
    at 0 (Reg 3 kind.Timeout None) ∷
    at 0 (Arm 3 second 1) ∷
    at 0 Ret ∷
    more

first_is_due_first : holds_timers_in_order 1 (two_timeouts 1000 1000 (at 1000 (Due 2) ∷ at 1000 (Due 3) ∷ [])) ≡ true
first_is_due_first = refl

second_overtakes : holds_timers_in_order 1 (two_timeouts 1000 1000 (at 1000 (Due 3) ∷ at 1000 (Due 2) ∷ [])) ≡ false
second_overtakes = refl

second_overtakes_in_time : holds_due_when_armed (two_timeouts 1000 1000 (at 1000 (Due 3) ∷ at 1000 (Due 2) ∷ [])) ≡ true
second_overtakes_in_time = refl

second_overtakes_out_of_order : holds_due_in_order (two_timeouts 1000 1000 (at 1000 (Due 3) ∷ at 1000 (Due 2) ∷ [])) ≡ false
second_overtakes_out_of_order = refl

second_is_armed_for_earlier : holds_timers_in_order 1 (two_timeouts 2000 1000 (at 1000 (Due 3) ∷ at 2000 (Due 2) ∷ [])) ≡ true
second_is_armed_for_earlier = refl

due_before_its_time : holds_timers_in_order 1 (two_timeouts 1000 2000 (at 999 (Due 2) ∷ [])) ≡ false
due_before_its_time = refl

due_before_its_time_alone : holds_due_when_armed (two_timeouts 1000 2000 (at 999 (Due 2) ∷ [])) ≡ false
due_before_its_time_alone = refl

due_twice : holds_timers_in_order 1 (two_timeouts 1000 2000 (at 1000 (Due 2) ∷ at 1000 (Due 2) ∷ [])) ≡ false
due_twice = refl

due_twice_for_one_arm : holds_due_when_armed (two_timeouts 1000 2000 (at 1000 (Due 2) ∷ at 1000 (Due 2) ∷ [])) ≡ false
due_twice_for_one_arm = refl

called_before_it_is_due : holds_timers_in_order 1 (two_timeouts 1000 2000 (at 1000 (Call 2) ∷ [])) ≡ false
called_before_it_is_due = refl

no_whole_milliseconds : holds_timers_in_order 1 (two_timeouts 1500 2000 []) ≡ false
no_whole_milliseconds = refl

no_whole_milliseconds_alone : holds_timers_clamped (two_timeouts 1500 2000 []) ≡ false
no_whole_milliseconds_alone = refl

-- a timeout in the callback of a timeout of the script
abbrev timeout_in_timeout : ℕ → ℕ → List Stamped
timeout_in_timeout due level =
    two_timeouts 0 0 (at 0 (Due 2) ∷ at 0 (Call 2) ∷ at 0 (Reg 4 kind.Timeout None) ∷ at 0 (Arm 4 due level) ∷ [])

timeout_in_timeout_gains_a_level : holds_timers_in_order 1 (timeout_in_timeout 0 2) ≡ true
timeout_in_timeout_gains_a_level = refl

timeout_in_timeout_keeps_its_level : holds_timers_in_order 1 (timeout_in_timeout 0 1) ≡ false
timeout_in_timeout_keeps_its_level = refl

timeout_in_timeout_is_clamped_so : holds_timers_clamped (timeout_in_timeout 0 1) ≡ true
timeout_in_timeout_is_clamped_so = refl

level_of_a_timeout_in_the_script : holds_timers_in_order 1 (at 0 (Call 1) ∷ at 0 (Reg 2 kind.Timeout None) ∷ at 0 (Arm 2 0 2) ∷ []) ≡ false
level_of_a_timeout_in_the_script = refl

-- an interval that is armed again when no call is open
abbrev interval_again : ℕ → ℕ → List Stamped
interval_again due level =
    at 0 (Call 1) ∷
    at 0 (Reg 2 kind.Interval None) ∷
    at 0 (Arm 2 0 1) ∷
    at 0 Ret ∷
    at 0 (Due 2) ∷
    at 0 (Call 2) ∷
    at 0 Ret ∷
    at 0 (Arm 2 due level) ∷
    []

interval_gains_a_level : holds_timers_in_order 1 (interval_again 0 2) ≡ true
interval_gains_a_level = refl

interval_keeps_its_level : holds_timers_in_order 1 (interval_again 0 1) ≡ false
interval_keeps_its_level = refl

-- an interval of the script that is armed seven times, the last time for this time
abbrev again : ℕ → ℕ → List Stamped → List Stamped
again due level more = at 0 (Due 2) ∷ at 0 (Call 2) ∷ at 0 Ret ∷ at 0 (Arm 2 due level) ∷ more

abbrev seventh_time : ℕ → List Stamped
seventh_time due =
    at 0 (Call 1) ∷
    at 0 (Reg 2 kind.Interval None) ∷
    at 0 (Arm 2 0 1) ∷
    at 0 Ret ∷
    again 0 2 (again 0 3 (again 0 4 (again 0 5 (again 0 6 (again due 7 [])))))

clamped_at_level_7 : holds_timers_in_order 1 (seventh_time 4000) ≡ true
clamped_at_level_7 = refl

not_clamped_at_level_7 : holds_timers_in_order 1 (seventh_time 3000) ≡ false
not_clamped_at_level_7 = refl

not_clamped_at_level_7_alone : holds_timers_clamped (seventh_time 3000) ≡ false
not_clamped_at_level_7_alone = refl

post_armed_with_a_level : holds_timers_in_order 1 (at 0 (Reg 2 kind.Post None) ∷ at 0 (Arm 2 1000 1) ∷ []) ≡ false
post_armed_with_a_level = refl

post_armed_with_a_level_alone : holds_timers_clamped (at 0 (Reg 2 kind.Post None) ∷ at 0 (Arm 2 1000 1) ∷ []) ≡ false
post_armed_with_a_level_alone = refl

-- frames: requested, and then these lines of a turn
abbrev in_a_frame : List Stamped → List Stamped
in_a_frame more =
    at 0 (Reg 2 kind.Frame None) ∷
    at 0 (Reg 3 kind.Frame None) ∷
    at 16666 (Turn 2 (Some Render)) ∷
    more

frame_in_order : holds_frames_in_order (in_a_frame (at 16666 (Frame 16666) ∷ at 16666 (Call 2) ∷ at 16666 Ret ∷ at 16666 (Call 3) ∷ at 16666 Ret ∷ at 16666 (EndLine end.Done) ∷ [])) ≡ true
frame_in_order = refl

frame_backwards : holds_frames_in_order (in_a_frame (at 16666 (Frame 16666) ∷ at 16666 (Call 3) ∷ at 16666 Ret ∷ at 16666 (Call 2) ∷ [])) ≡ false
frame_backwards = refl

frame_callback_without_frame : holds_frames_in_order (in_a_frame (at 16666 (Call 2) ∷ [])) ≡ false
frame_callback_without_frame = refl

frame_callback_requested_in_its_frame : holds_frames_in_order (in_a_frame (at 16666 (Frame 16666) ∷ at 16666 (Reg 4 kind.Frame None) ∷ at 16666 (Call 4) ∷ [])) ≡ false
frame_callback_requested_in_its_frame = refl

frame_callback_left_out : holds_frames_in_order (in_a_frame (at 16666 (Frame 16666) ∷ at 16666 (Call 2) ∷ at 16666 Ret ∷ at 16666 (Turn 3 (Some Timer)) ∷ [])) ≡ false
frame_callback_left_out = refl

frame_callback_cancelled : holds_frames_in_order (in_a_frame (at 16666 (Frame 16666) ∷ at 16666 (Call 2) ∷ at 16666 (Drop 3) ∷ at 16666 Ret ∷ at 16666 (Turn 3 (Some Timer)) ∷ [])) ≡ true
frame_callback_cancelled = refl

-- an idle period that began at 0, and a timeout that is armed for 20 milliseconds
abbrev in_a_period : List Stamped → List Stamped
in_a_period more =
    at 0 (Call 1) ∷
    at 0 (Reg 2 kind.Idle None) ∷
    at 0 (Reg 3 kind.Idle None) ∷
    at 0 (Reg 4 kind.Timeout None) ∷
    at 0 (Arm 4 20000 1) ∷
    at 0 Ret ∷
    at 0 (Period 20000) ∷
    more

idle_in_order : holds_idle_deadlines (in_a_period (at 0 (IdleLine 20000) ∷ at 0 (Call 2) ∷ at 0 Ret ∷ at 0 (IdleLine 20000) ∷ at 0 (Call 3) ∷ [])) ≡ true
idle_in_order = refl

idle_backwards : holds_idle_deadlines (in_a_period (at 0 (IdleLine 20000) ∷ at 0 (Call 3) ∷ at 0 Ret ∷ at 0 (IdleLine 20000) ∷ at 0 (Call 2) ∷ [])) ≡ false
idle_backwards = refl

deadline_past_an_active_timer : holds_idle_deadlines (in_a_period (at 0 (IdleLine 20001) ∷ [])) ≡ false
deadline_past_an_active_timer = refl

deadline_past_50_milliseconds : holds_idle_deadlines (at 0 (Reg 2 kind.Idle None) ∷ at 0 (Period 50000) ∷ at 0 (IdleLine 50001) ∷ []) ≡ false
deadline_past_50_milliseconds = refl

deadline_that_is_over : holds_idle_deadlines (in_a_period (at 20000 (IdleLine 20000) ∷ [])) ≡ false
deadline_that_is_over = refl

idle_line_without_period : holds_idle_deadlines (at 0 (Reg 2 kind.Idle None) ∷ at 0 (IdleLine 50000) ∷ []) ≡ false
idle_line_without_period = refl

idle_line_without_call : holds_idle_deadlines (in_a_period (at 0 (IdleLine 20000) ∷ at 0 Ret ∷ [])) ≡ false
idle_line_without_call = refl

requested_in_the_period : holds_idle_deadlines (in_a_period (at 0 (Reg 5 kind.Idle None) ∷ at 0 (IdleLine 20000) ∷ at 0 (Call 5) ∷ [])) ≡ false
requested_in_the_period = refl

idle_callback_without_idle_line : holds_idle_deadlines (in_a_period (at 0 (Call 2) ∷ [])) ≡ false
idle_callback_without_idle_line = refl

idle_callback_by_its_timeout : holds_idle_deadlines (in_a_period (at 0 (Due 2) ∷ at 0 (Call 2) ∷ [])) ≡ true
idle_callback_by_its_timeout = refl

-- two tasks in the queue of a signal and one of fixed priority
abbrev three_tasks : Stamped → List Stamped → List Stamped
three_tasks priority more =
    at 0 (Prio 1 Background) ∷
    at 0 (Reg 2 kind.Post None) ∷
    at 0 (Enq 2 (SignalQueue 1) false 2) ∷
    at 0 (Reg 3 kind.Post None) ∷
    at 0 (Enq 3 (SignalQueue 1) false 3) ∷
    at 0 (Reg 4 kind.Post None) ∷
    at 0 (Enq 4 (FixedQueue UserVisible) false 4) ∷
    priority ∷
    at 0 (Turn 2 (Some Sched)) ∷
    more

greatest_priority_first : holds_priority_order (three_tasks (at 0 (Prio 2 UserBlocking)) (at 0 (Call 4) ∷ at 0 Ret ∷ [])) ≡ true
greatest_priority_first = refl

lower_priority_first : holds_priority_order (three_tasks (at 0 (Prio 2 UserBlocking)) (at 0 (Call 2) ∷ [])) ≡ false
lower_priority_first = refl

changed_priority_first : holds_priority_order (three_tasks (at 0 (Prio 1 UserBlocking)) (at 0 (Call 2) ∷ at 0 Ret ∷ at 0 (Turn 3 (Some Sched)) ∷ at 0 (Call 3) ∷ [])) ≡ true
changed_priority_first = refl

later_task_first : holds_priority_order (three_tasks (at 0 (Prio 1 UserBlocking)) (at 0 (Call 3) ∷ [])) ≡ false
later_task_first = refl

only_the_first_task_moves : holds_priority_order (three_tasks (at 0 (Prio 1 UserBlocking)) (at 0 (Call 2) ∷ at 0 Ret ∷ at 0 (Turn 3 (Some Sched)) ∷ at 0 (Call 4) ∷ [])) ≡ false
only_the_first_task_moves = refl

something_before_the_call : holds_priority_order (three_tasks (at 0 (Prio 2 UserBlocking)) (at 0 (Log (codes "1")) ∷ [])) ≡ false
something_before_the_call = refl

task_called_in_another_turn : holds_priority_order (three_tasks (at 0 (Turn 1 (Some Dom))) (at 0 (Call 4) ∷ at 0 Ret ∷ at 0 (Call 2) ∷ [])) ≡ false
task_called_in_another_turn = refl

order_falls : holds_priority_order (at 0 (Enq 2 (FixedQueue UserVisible) false 3) ∷ at 0 (Enq 3 (FixedQueue UserVisible) false 2) ∷ []) ≡ false
order_falls = refl

task_before_continuation : holds_priority_order (at 0 (Reg 2 kind.Post None) ∷ at 0 (Enq 2 (FixedQueue UserVisible) false 2) ∷ at 0 (Reg 3 kind.Yield None) ∷ at 0 (Enq 3 (FixedQueue UserVisible) true 3) ∷ at 0 (Turn 2 (Some Sched)) ∷ at 0 (Call 2) ∷ []) ≡ false
task_before_continuation = refl

done_with_an_active_timer : holds_ends_truly 10000 100 (at 0 (Reg 2 kind.Timeout None) ∷ at 0 (Arm 2 0 1) ∷ at 0 (Drop 2) ∷ at 0 (EndLine end.Done) ∷ []) ≡ false
done_with_an_active_timer = refl

done_with_an_arm_that_was_not_due : holds_arms_due (at 0 (Reg 2 kind.Timeout None) ∷ at 0 (Arm 2 0 1) ∷ at 0 (Drop 2) ∷ at 0 (EndLine end.Done) ∷ []) ≡ false
done_with_an_arm_that_was_not_due = refl

stopped_with_an_arm_that_was_not_due : holds_arms_due (at 0 (Reg 2 kind.Timeout None) ∷ at 0 (Arm 2 0 1) ∷ at 0 (Drop 2) ∷ at 0 (EndLine end.Clock) ∷ []) ≡ true
stopped_with_an_arm_that_was_not_due = refl

done_with_a_frame_callback : holds_frames_over (at 0 (Reg 2 kind.Frame None) ∷ at 0 (EndLine end.Done) ∷ []) ≡ false
done_with_a_frame_callback = refl

done_with_a_dropped_frame_callback : holds_frames_over (at 0 (Reg 2 kind.Frame None) ∷ at 0 (Drop 2) ∷ at 0 (EndLine end.Done) ∷ []) ≡ true
done_with_a_dropped_frame_callback = refl

done_with_an_idle_callback : holds_ends_truly 10000 100 (at 0 (Reg 2 kind.Idle None) ∷ at 0 (EndLine end.Done) ∷ []) ≡ false
done_with_an_idle_callback = refl

an_idle_callback_is_left : holds_idles_over (at 0 (Reg 2 kind.Idle None) ∷ at 0 (EndLine end.Done) ∷ []) ≡ false
an_idle_callback_is_left = refl

a_dropped_idle_callback_is_over : holds_idles_over (at 0 (Reg 2 kind.Idle None) ∷ at 0 (Drop 2) ∷ at 0 (EndLine end.Done) ∷ []) ≡ true
a_dropped_idle_callback_is_over = refl

a_microtask_callback_is_left : holds_micros_over (at 0 (Reg 2 kind.Micro None) ∷ at 0 (EndLine end.Done) ∷ []) ≡ false
a_microtask_callback_is_left = refl

a_job_is_left : holds_micros_over (at 0 (Reg 2 kind.Micro None) ∷ at 0 (Job 1 (MicroJob 2)) ∷ at 0 (Call 2) ∷ at 0 Ret ∷ at 0 (EndLine end.Done) ∷ []) ≡ false
a_job_is_left = refl

a_job_is_left_for_fuel : holds_micros_over (at 0 (Reg 2 kind.Micro None) ∷ at 0 (Job 1 (MicroJob 2)) ∷ at 0 (EndLine end.Fuel) ∷ []) ≡ true
a_job_is_left_for_fuel = refl

a_continuation_is_left : holds_continuations_over (at 0 (Reg 2 kind.Yield None) ∷ at 0 (EndLine end.Done) ∷ []) ≡ false
a_continuation_is_left = refl

a_dropped_continuation_is_over : holds_continuations_over (at 0 (Reg 2 kind.Yield None) ∷ at 0 (Drop 2) ∷ at 0 (EndLine end.Done) ∷ []) ≡ true
a_dropped_continuation_is_over = refl

a_timeout_is_left : holds_timeouts_over (at 0 (Reg 2 kind.Timeout None) ∷ at 0 (Arm 2 0 1) ∷ at 0 (Due 2) ∷ at 0 (EndLine end.Done) ∷ []) ≡ false
a_timeout_is_left = refl

a_dropped_timeout_is_over : holds_timeouts_over (at 0 (Reg 2 kind.Timeout None) ∷ at 0 (Arm 2 0 1) ∷ at 0 (Drop 2) ∷ at 0 (EndLine end.Done) ∷ []) ≡ true
a_dropped_timeout_is_over = refl

done_with_an_interval : holds_ends_truly 10000 100 (at 0 (Reg 2 kind.Interval None) ∷ at 0 (Arm 2 0 1) ∷ at 0 (Due 2) ∷ at 0 (Call 2) ∷ at 0 Ret ∷ at 0 (EndLine end.Done) ∷ []) ≡ false
done_with_an_interval = refl

done_with_a_silent_host : holds_ends_truly 10000 100 (at 0 (Reg 2 kind.Host None) ∷ at 0 (Arm 2 0 0) ∷ at 0 (Due 2) ∷ at 0 (EndLine end.Done) ∷ []) ≡ false
done_with_a_silent_host = refl

done_with_a_dropped_host : holds_ends_truly 10000 100 (at 0 (Reg 2 kind.Host None) ∷ at 0 (Arm 2 0 0) ∷ at 0 (Drop 2) ∷ at 0 (EndLine end.Done) ∷ []) ≡ true
done_with_a_dropped_host = refl

done_with_the_arm_of_a_dropped_host : holds_arms_due (at 0 (Reg 2 kind.Host None) ∷ at 0 (Arm 2 0 0) ∷ at 0 (Drop 2) ∷ at 0 (EndLine end.Done) ∷ []) ≡ true
done_with_the_arm_of_a_dropped_host = refl

-- an interval that is armed, is due and is dropped, with these lines before its drop
abbrev interval_to_the_end : List Stamped → List Stamped
interval_to_the_end [] = at 0 (Drop 2) ∷ at 0 (EndLine end.Done) ∷ []
interval_to_the_end (e ∷ es) = e ∷ interval_to_the_end es

done_with_each_arm_due : holds_ends_truly 10000 100 (interval_to_the_end (at 0 (Reg 2 kind.Interval None) ∷ at 0 (Arm 2 0 1) ∷ at 0 (Due 2) ∷ at 0 (Arm 2 0 2) ∷ at 0 (Due 2) ∷ [])) ≡ true
done_with_each_arm_due = refl

done_with_the_last_arm_active : holds_ends_truly 10000 100 (interval_to_the_end (at 0 (Reg 2 kind.Interval None) ∷ at 0 (Arm 2 0 1) ∷ at 0 (Due 2) ∷ at 0 (Due 2) ∷ at 0 (Arm 2 0 2) ∷ [])) ≡ false
done_with_the_last_arm_active = refl

done_with_two_arms_and_one_due : holds_ends_truly 10000 100 (interval_to_the_end (at 0 (Reg 2 kind.Interval None) ∷ at 0 (Arm 2 0 1) ∷ at 0 (Arm 2 0 2) ∷ at 0 (Due 2) ∷ [])) ≡ false
done_with_two_arms_and_one_due = refl

two_arms_and_one_due : holds_arms_due (interval_to_the_end (at 0 (Reg 2 kind.Interval None) ∷ at 0 (Arm 2 0 1) ∷ at 0 (Arm 2 0 2) ∷ at 0 (Due 2) ∷ [])) ≡ false
two_arms_and_one_due = refl

clock_before_until : holds_ends_truly 10000 100 (at 9999 (EndLine end.Clock) ∷ []) ≡ false
clock_before_until = refl

turn_at_until : holds_ends_truly 10000 100 (at 10000 (Turn 1 (Some Dom)) ∷ []) ≡ false
turn_at_until = refl

more_turns_and_jobs_than_fuel : holds_ends_truly 10000 2 (at 0 (Turn 1 (Some Dom)) ∷ at 0 (Run 1) ∷ at 0 (Turn 2 None) ∷ []) ≡ false
more_turns_and_jobs_than_fuel = refl

an_end_by_the_clock_before_until : holds_limits 10000 100 (at 9999 (EndLine end.Clock) ∷ []) ≡ false
an_end_by_the_clock_before_until = refl

a_turn_at_until : holds_limits 10000 100 (at 10000 (Turn 1 (Some Dom)) ∷ []) ≡ false
a_turn_at_until = refl

a_turn_too_many : holds_limits 10000 2 (at 0 (Turn 1 (Some Dom)) ∷ at 0 (Run 1) ∷ at 0 (Turn 2 None) ∷ []) ≡ false
a_turn_too_many = refl

a_job_too_many : holds_limits 10000 1 (at 0 (Turn 1 (Some Dom)) ∷ at 0 (Run 1) ∷ []) ≡ false
a_job_too_many = refl

an_interval_is_left : holds_intervals_over (at 0 (Reg 2 kind.Interval None) ∷ at 0 (Arm 2 0 1) ∷ at 0 (Due 2) ∷ at 0 (Call 2) ∷ at 0 Ret ∷ at 0 (EndLine end.Done) ∷ []) ≡ false
an_interval_is_left = refl

a_dropped_interval_is_over : holds_intervals_over (at 0 (Reg 2 kind.Interval None) ∷ at 0 (Arm 2 0 1) ∷ at 0 (Drop 2) ∷ at 0 (EndLine end.Done) ∷ []) ≡ true
a_dropped_interval_is_over = refl

a_posted_task_is_left : holds_posts_over (at 0 (Reg 2 kind.Post None) ∷ at 0 (EndLine end.Done) ∷ []) ≡ false
a_posted_task_is_left = refl

a_dropped_post_is_over : holds_posts_over (at 0 (Reg 2 kind.Post None) ∷ at 0 (Drop 2) ∷ at 0 (EndLine end.Done) ∷ []) ≡ true
a_dropped_post_is_over = refl

a_host_has_not_answered : holds_hosts_answered (at 0 (Reg 2 kind.Host None) ∷ at 0 (Arm 2 0 0) ∷ at 0 (Due 2) ∷ at 0 (EndLine end.Done) ∷ []) ≡ false
a_host_has_not_answered = refl

a_dropped_host_need_not_answer : holds_hosts_answered (at 0 (Reg 2 kind.Host None) ∷ at 0 (Arm 2 0 0) ∷ at 0 (Drop 2) ∷ at 0 (EndLine end.Done) ∷ []) ≡ true
a_dropped_host_need_not_answer = refl

a_level_skips_one : holds_levels 1 (at 0 (Call 1) ∷ at 0 (Reg 2 kind.Timeout None) ∷ at 0 (Arm 2 0 2) ∷ []) ≡ false
a_level_skips_one = refl
