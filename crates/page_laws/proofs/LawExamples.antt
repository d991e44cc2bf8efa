-- The laws, computed on the traces of worked examples, which meet them all.
use Rattle.std.specs.Prelude.{◌≡◌, ℕ, true, false, List, [], ◌∷◌, Some, None, pos, Ok, codes, refl}
use Rattle.page_types.specs.declared.Source.TheVariants.{User, Net, Dom, Timer, Render, Sched, Idle}
use Rattle.page_types.specs.declared.End.TheVariants as end
use Rattle.page_types.specs.declared.RegKind.TheVariants as kind
use Rattle.page_types.specs.declared.Priority.TheVariants.{UserVisible}
use Rattle.page_types.specs.Events.{MicroJob, ReactJob, FixedQueue, Event, Turn, Call, Ret, Log, Reg, Arm, Due, Drop, Job, Run, Settle, Period, IdleLine, Frame, Enq, Abort, Wait, Host, Unhandled, EndLine, Stamped}
use Rattle.page_laws.specs.CallLaws.{holds_once, holds_cancel, holds_settle_once, holds_jobs_in_order, holds_no_nesting}
use Rattle.page_laws.specs.TimerLaws.{holds_levels, holds_timers_in_order, holds_frames_in_order, holds_idle_deadlines}
use Rattle.page_laws.specs.SchedulerLaws.{holds_hosts_answered, holds_intervals_over, holds_posts_over, holds_continuations_over, holds_ends_truly, holds_limits, holds_micros_over, holds_priority_order, holds_timeouts_over}

abbrev pub at : ℕ → Event → Stamped
at time event = record { time = time; event = event }

abbrev frames : List Stamped
frames =
    at 0 (Turn 1 (Some Dom)) ∷
    at 0 (Call 1) ∷
    at 0 (Reg 2 kind.Frame None) ∷
    at 0 (Reg 3 kind.Frame None) ∷
    at 0 Ret ∷
    at 20000 (Wait 20000) ∷
    at 20000 (Turn 2 (Some Render)) ∷
    at 20000 (Frame 20000) ∷
    at 20000 (Call 2) ∷
    at 20000 (Log (codes "20000")) ∷
    at 20000 (Drop 3) ∷
    at 20000 (Reg 4 kind.Frame None) ∷
    at 20000 Ret ∷
    at 40000 (Wait 40000) ∷
    at 40000 (Turn 3 (Some Render)) ∷
    at 40000 (Frame 40000) ∷
    at 40000 (Call 4) ∷
    at 40000 (Log (codes "40000")) ∷
    at 40000 Ret ∷
    at 40000 (EndLine end.Done) ∷
    []

frames-once : holds_once frames ≡ true
frames-once = refl

frames-cancel : holds_cancel frames ≡ true
frames-cancel = refl

frames-settle_once : holds_settle_once frames ≡ true
frames-settle_once = refl

frames-jobs_in_order : holds_jobs_in_order frames ≡ true
frames-jobs_in_order = refl

frames-no_nesting : holds_no_nesting frames ≡ true
frames-no_nesting = refl

frames-timers_in_order : holds_timers_in_order 1 frames ≡ true
frames-timers_in_order = refl

frames-frames_in_order : holds_frames_in_order frames ≡ true
frames-frames_in_order = refl

frames-idle_deadlines : holds_idle_deadlines frames ≡ true
frames-idle_deadlines = refl

frames-priority_order : holds_priority_order frames ≡ true
frames-priority_order = refl

frames-ends_truly : holds_ends_truly 10000000 1000000 frames ≡ true
frames-ends_truly = refl

abbrev host_answers : List Stamped
host_answers =
    at 0 (Turn 1 (Some Dom)) ∷
    at 0 (Call 1) ∷
    at 0 (Reg 2 kind.Host None) ∷
    at 0 (Arm 2 3000 0) ∷
    at 0 (Reg 3 kind.Then None) ∷
    at 0 (Settle 3 false (codes "NotAllowedError(\"\")")) ∷
    at 0 (Reg 4 kind.Then None) ∷
    at 0 (Job 1 (ReactJob 3)) ∷
    at 0 Ret ∷
    at 0 (Run 1) ∷
    at 0 (Call 4) ∷
    at 0 (Log (codes "NotAllowedError(\"\")")) ∷
    at 0 Ret ∷
    at 0 (Settle 4 true (codes "unit")) ∷
    at 3000 (Wait 3000) ∷
    at 3000 (Due 2) ∷
    at 3000 (Turn 2 (Some Net)) ∷
    at 3000 (Host 0 (pos 7) (Ok (pos 49))) ∷
    at 3000 (Settle 1 true (codes "49")) ∷
    at 3000 (Job 2 (ReactJob 1)) ∷
    at 3000 (Run 2) ∷
    at 3000 (Call 3) ∷
    at 3000 (Log (codes "49")) ∷
    at 3000 Ret ∷
    at 3000 (Settle 2 true (codes "unit")) ∷
    at 3000 (EndLine end.Done) ∷
    []

host_answers-once : holds_once host_answers ≡ true
host_answers-once = refl

host_answers-cancel : holds_cancel host_answers ≡ true
host_answers-cancel = refl

host_answers-settle_once : holds_settle_once host_answers ≡ true
host_answers-settle_once = refl

host_answers-jobs_in_order : holds_jobs_in_order host_answers ≡ true
host_answers-jobs_in_order = refl

host_answers-no_nesting : holds_no_nesting host_answers ≡ true
host_answers-no_nesting = refl

host_answers-timers_in_order : holds_timers_in_order 1 host_answers ≡ true
host_answers-timers_in_order = refl

host_answers-frames_in_order : holds_frames_in_order host_answers ≡ true
host_answers-frames_in_order = refl

host_answers-idle_deadlines : holds_idle_deadlines host_answers ≡ true
host_answers-idle_deadlines = refl

host_answers-priority_order : holds_priority_order host_answers ≡ true
host_answers-priority_order = refl

host_answers-hosts_answered : holds_hosts_answered host_answers ≡ true
host_answers-hosts_answered = refl

host_answers-ends_truly : holds_ends_truly 10000000 1000000 host_answers ≡ true
host_answers-ends_truly = refl

abbrev idle_periods : List Stamped
idle_periods =
    at 0 (Turn 1 (Some Dom)) ∷
    at 0 (Call 1) ∷
    at 0 (Reg 2 kind.Idle None) ∷
    at 0 (Reg 3 kind.Idle None) ∷
    at 0 Ret ∷
    at 0 (Period 50000) ∷
    at 0 (Turn 2 (Some Idle)) ∷
    at 0 (IdleLine 50000) ∷
    at 0 (Call 2) ∷
    at 0 (Log (codes "50000")) ∷
    at 60000 Ret ∷
    at 60000 (Turn 3 (Some Idle)) ∷
    at 60000 (Period 110000) ∷
    at 60000 (Turn 4 (Some Idle)) ∷
    at 60000 (IdleLine 110000) ∷
    at 60000 (Call 3) ∷
    at 60000 (Log (codes "50000")) ∷
    at 60000 Ret ∷
    at 60000 (EndLine end.Done) ∷
    []

idle_periods-once : holds_once idle_periods ≡ true
idle_periods-once = refl

idle_periods-cancel : holds_cancel idle_periods ≡ true
idle_periods-cancel = refl

idle_periods-settle_once : holds_settle_once idle_periods ≡ true
idle_periods-settle_once = refl

idle_periods-jobs_in_order : holds_jobs_in_order idle_periods ≡ true
idle_periods-jobs_in_order = refl

idle_periods-no_nesting : holds_no_nesting idle_periods ≡ true
idle_periods-no_nesting = refl

idle_periods-timers_in_order : holds_timers_in_order 1 idle_periods ≡ true
idle_periods-timers_in_order = refl

idle_periods-frames_in_order : holds_frames_in_order idle_periods ≡ true
idle_periods-frames_in_order = refl

idle_periods-idle_deadlines : holds_idle_deadlines idle_periods ≡ true
idle_periods-idle_deadlines = refl

idle_periods-priority_order : holds_priority_order idle_periods ≡ true
idle_periods-priority_order = refl

idle_periods-ends_truly : holds_ends_truly 10000000 1000000 idle_periods ≡ true
idle_periods-ends_truly = refl

abbrev yields : List Stamped
yields =
    at 0 (Turn 1 (Some Dom)) ∷
    at 0 (Call 1) ∷
    at 0 (Reg 2 kind.Post None) ∷
    at 0 (Enq 2 (FixedQueue UserVisible) false 2) ∷
    at 0 (Reg 3 kind.Post None) ∷
    at 0 (Enq 3 (FixedQueue UserVisible) false 3) ∷
    at 0 Ret ∷
    at 0 (Turn 2 (Some Sched)) ∷
    at 0 (Call 2) ∷
    at 0 (Log (codes "\"a\"")) ∷
    at 0 (Reg 4 kind.Yield None) ∷
    at 0 (Enq 4 (FixedQueue UserVisible) true 4) ∷
    at 0 (Reg 5 kind.Then None) ∷
    at 0 Ret ∷
    at 0 (Settle 1 true (codes "unit")) ∷
    at 0 (Turn 3 (Some Sched)) ∷
    at 0 (Call 4) ∷
    at 0 (Settle 3 true (codes "unit")) ∷
    at 0 (Job 1 (ReactJob 3)) ∷
    at 0 Ret ∷
    at 0 (Run 1) ∷
    at 0 (Call 5) ∷
    at 0 (Log (codes "\"y\"")) ∷
    at 0 Ret ∷
    at 0 (Settle 4 true (codes "unit")) ∷
    at 0 (Turn 4 (Some Sched)) ∷
    at 0 (Call 3) ∷
    at 0 (Log (codes "\"b\"")) ∷
    at 0 Ret ∷
    at 0 (Settle 2 true (codes "unit")) ∷
    at 0 (EndLine end.Done) ∷
    []

yields-once : holds_once yields ≡ true
yields-once = refl

yields-cancel : holds_cancel yields ≡ true
yields-cancel = refl

yields-settle_once : holds_settle_once yields ≡ true
yields-settle_once = refl

yields-jobs_in_order : holds_jobs_in_order yields ≡ true
yields-jobs_in_order = refl

yields-no_nesting : holds_no_nesting yields ≡ true
yields-no_nesting = refl

yields-timers_in_order : holds_timers_in_order 1 yields ≡ true
yields-timers_in_order = refl

yields-frames_in_order : holds_frames_in_order yields ≡ true
yields-frames_in_order = refl

yields-idle_deadlines : holds_idle_deadlines yields ≡ true
yields-idle_deadlines = refl

yields-priority_order : holds_priority_order yields ≡ true
yields-priority_order = refl

yields-continuations_over : holds_continuations_over yields ≡ true
yields-continuations_over = refl

yields-ends_truly : holds_ends_truly 10000000 1000000 yields ≡ true
yields-ends_truly = refl

abbrev abort_in_task : List Stamped
abort_in_task =
    at 0 (Turn 1 (Some Dom)) ∷
    at 0 (Call 1) ∷
    at 0 (Reg 2 kind.Post None) ∷
    at 0 (Enq 2 (FixedQueue UserVisible) false 2) ∷
    at 0 Ret ∷
    at 0 (Turn 2 (Some Sched)) ∷
    at 0 (Call 2) ∷
    at 0 (Abort 1) ∷
    at 0 (Settle 1 false (codes "AbortError(\"\")")) ∷
    at 0 Ret ∷
    at 0 (Turn 3 (Some Dom)) ∷
    at 0 (Unhandled 1) ∷
    at 0 (EndLine end.Done) ∷
    []

abort_in_task-once : holds_once abort_in_task ≡ true
abort_in_task-once = refl

abort_in_task-cancel : holds_cancel abort_in_task ≡ true
abort_in_task-cancel = refl

abort_in_task-settle_once : holds_settle_once abort_in_task ≡ true
abort_in_task-settle_once = refl

abort_in_task-jobs_in_order : holds_jobs_in_order abort_in_task ≡ true
abort_in_task-jobs_in_order = refl

abort_in_task-no_nesting : holds_no_nesting abort_in_task ≡ true
abort_in_task-no_nesting = refl

abort_in_task-timers_in_order : holds_timers_in_order 1 abort_in_task ≡ true
abort_in_task-timers_in_order = refl

abort_in_task-frames_in_order : holds_frames_in_order abort_in_task ≡ true
abort_in_task-frames_in_order = refl

abort_in_task-idle_deadlines : holds_idle_deadlines abort_in_task ≡ true
abort_in_task-idle_deadlines = refl

abort_in_task-priority_order : holds_priority_order abort_in_task ≡ true
abort_in_task-priority_order = refl

abort_in_task-posts_over : holds_posts_over abort_in_task ≡ true
abort_in_task-posts_over = refl

abort_in_task-ends_truly : holds_ends_truly 10000000 1000000 abort_in_task ≡ true
abort_in_task-ends_truly = refl

abbrev handled_in_time : List Stamped
handled_in_time =
    at 0 (Turn 1 (Some Dom)) ∷
    at 0 (Call 1) ∷
    at 0 (Settle 1 false (codes "\"x\"")) ∷
    at 0 (Reg 2 kind.Micro None) ∷
    at 0 (Job 1 (MicroJob 2)) ∷
    at 0 Ret ∷
    at 0 (Run 1) ∷
    at 0 (Call 2) ∷
    at 0 (Reg 3 kind.Then None) ∷
    at 0 (Job 2 (ReactJob 1)) ∷
    at 0 Ret ∷
    at 0 (Run 2) ∷
    at 0 (Call 3) ∷
    at 0 Ret ∷
    at 0 (Settle 2 true (codes "unit")) ∷
    at 0 (EndLine end.Done) ∷
    []

handled_in_time-once : holds_once handled_in_time ≡ true
handled_in_time-once = refl

handled_in_time-cancel : holds_cancel handled_in_time ≡ true
handled_in_time-cancel = refl

handled_in_time-settle_once : holds_settle_once handled_in_time ≡ true
handled_in_time-settle_once = refl

handled_in_time-jobs_in_order : holds_jobs_in_order handled_in_time ≡ true
handled_in_time-jobs_in_order = refl

handled_in_time-no_nesting : holds_no_nesting handled_in_time ≡ true
handled_in_time-no_nesting = refl

handled_in_time-timers_in_order : holds_timers_in_order 1 handled_in_time ≡ true
handled_in_time-timers_in_order = refl

handled_in_time-frames_in_order : holds_frames_in_order handled_in_time ≡ true
handled_in_time-frames_in_order = refl

handled_in_time-idle_deadlines : holds_idle_deadlines handled_in_time ≡ true
handled_in_time-idle_deadlines = refl

handled_in_time-priority_order : holds_priority_order handled_in_time ≡ true
handled_in_time-priority_order = refl

handled_in_time-micros_over : holds_micros_over handled_in_time ≡ true
handled_in_time-micros_over = refl

handled_in_time-limits : holds_limits 1 3 handled_in_time ≡ true
handled_in_time-limits = refl

handled_in_time-ends_truly : holds_ends_truly 10000000 1000000 handled_in_time ≡ true
handled_in_time-ends_truly = refl

abbrev search_box : List Stamped
search_box =
    at 0 (Turn 1 (Some Dom)) ∷
    at 0 (Call 1) ∷
    at 0 (Reg 2 kind.Listener None) ∷
    at 0 Ret ∷
    at 1500 (Wait 1000) ∷
    at 1500 (Turn 2 (Some User)) ∷
    at 1500 (Call 2) ∷
    at 1500 (Reg 3 kind.Timeout None) ∷
    at 1500 (Arm 3 301500 1) ∷
    at 1500 Ret ∷
    at 200000 (Wait 200000) ∷
    at 200000 (Turn 3 (Some User)) ∷
    at 200000 (Call 2) ∷
    at 200000 (Drop 3) ∷
    at 200000 (Reg 4 kind.Timeout None) ∷
    at 200000 (Arm 4 500000 1) ∷
    at 200000 Ret ∷
    at 301500 (Wait 301500) ∷
    at 301500 (Due 3) ∷
    at 301500 (Turn 4 (Some Timer)) ∷
    at 500000 (Wait 500000) ∷
    at 500000 (Due 4) ∷
    at 500000 (Turn 5 (Some Timer)) ∷
    at 500000 (Call 4) ∷
    at 500000 (Log (codes "\"save\"")) ∷
    at 500000 Ret ∷
    at 500000 (EndLine end.Done) ∷
    []

search_box-once : holds_once search_box ≡ true
search_box-once = refl

search_box-cancel : holds_cancel search_box ≡ true
search_box-cancel = refl

search_box-settle_once : holds_settle_once search_box ≡ true
search_box-settle_once = refl

search_box-jobs_in_order : holds_jobs_in_order search_box ≡ true
search_box-jobs_in_order = refl

search_box-no_nesting : holds_no_nesting search_box ≡ true
search_box-no_nesting = refl

search_box-timers_in_order : holds_timers_in_order 1 search_box ≡ true
search_box-timers_in_order = refl

search_box-frames_in_order : holds_frames_in_order search_box ≡ true
search_box-frames_in_order = refl

search_box-idle_deadlines : holds_idle_deadlines search_box ≡ true
search_box-idle_deadlines = refl

search_box-priority_order : holds_priority_order search_box ≡ true
search_box-priority_order = refl

search_box-ends_truly : holds_ends_truly 10000000 1000000 search_box ≡ true
search_box-ends_truly = refl

abbrev timer_first : List Stamped
timer_first =
    at 0 (Turn 1 (Some Dom)) ∷
    at 0 (Call 1) ∷
    at 0 (Reg 2 kind.Timeout None) ∷
    at 0 (Arm 2 0 1) ∷
    at 0 (Reg 3 kind.Post None) ∷
    at 0 (Enq 3 (FixedQueue UserVisible) false 2) ∷
    at 0 Ret ∷
    at 0 (Due 2) ∷
    at 0 (Turn 2 (Some Timer)) ∷
    at 0 (Call 2) ∷
    at 0 (Log (codes "\"t\"")) ∷
    at 0 Ret ∷
    at 0 (Turn 3 (Some Sched)) ∷
    at 0 (Call 3) ∷
    at 0 (Log (codes "\"a\"")) ∷
    at 0 Ret ∷
    at 0 (Settle 1 true (codes "unit")) ∷
    at 0 (EndLine end.Done) ∷
    []

timer_first-once : holds_once timer_first ≡ true
timer_first-once = refl

timer_first-cancel : holds_cancel timer_first ≡ true
timer_first-cancel = refl

timer_first-settle_once : holds_settle_once timer_first ≡ true
timer_first-settle_once = refl

timer_first-jobs_in_order : holds_jobs_in_order timer_first ≡ true
timer_first-jobs_in_order = refl

timer_first-no_nesting : holds_no_nesting timer_first ≡ true
timer_first-no_nesting = refl

timer_first-timers_in_order : holds_timers_in_order 1 timer_first ≡ true
timer_first-timers_in_order = refl

timer_first-frames_in_order : holds_frames_in_order timer_first ≡ true
timer_first-frames_in_order = refl

timer_first-idle_deadlines : holds_idle_deadlines timer_first ≡ true
timer_first-idle_deadlines = refl

timer_first-priority_order : holds_priority_order timer_first ≡ true
timer_first-priority_order = refl

timer_first-ends_truly : holds_ends_truly 10000000 1000000 timer_first ≡ true
timer_first-ends_truly = refl

abbrev together : List Stamped
together =
    at 0 (Turn 1 (Some Dom)) ∷
    at 0 (Call 1) ∷
    at 0 (Reg 2 kind.Timeout None) ∷
    at 0 (Arm 2 10000 1) ∷
    at 5000 (Reg 3 kind.Timeout None) ∷
    at 5000 (Arm 3 10000 1) ∷
    at 5000 Ret ∷
    at 10000 (Wait 10000) ∷
    at 10000 (Due 2) ∷
    at 10000 (Due 3) ∷
    at 10000 (Turn 2 (Some Timer)) ∷
    at 10000 (Call 2) ∷
    at 10000 (Log (codes "\"a\"")) ∷
    at 10000 Ret ∷
    at 10000 (Turn 3 (Some Timer)) ∷
    at 10000 (Call 3) ∷
    at 10000 (Log (codes "\"b\"")) ∷
    at 10000 Ret ∷
    at 10000 (EndLine end.Done) ∷
    []

together-once : holds_once together ≡ true
together-once = refl

together-cancel : holds_cancel together ≡ true
together-cancel = refl

together-settle_once : holds_settle_once together ≡ true
together-settle_once = refl

together-jobs_in_order : holds_jobs_in_order together ≡ true
together-jobs_in_order = refl

together-no_nesting : holds_no_nesting together ≡ true
together-no_nesting = refl

together-timers_in_order : holds_timers_in_order 1 together ≡ true
together-timers_in_order = refl

together-frames_in_order : holds_frames_in_order together ≡ true
together-frames_in_order = refl

together-idle_deadlines : holds_idle_deadlines together ≡ true
together-idle_deadlines = refl

together-priority_order : holds_priority_order together ≡ true
together-priority_order = refl

together-levels : holds_levels 1 together ≡ true
together-levels = refl

together-intervals_over : holds_intervals_over together ≡ true
together-intervals_over = refl

together-timeouts_over : holds_timeouts_over together ≡ true
together-timeouts_over = refl

together-ends_truly : holds_ends_truly 10000000 1000000 together ≡ true
together-ends_truly = refl
