-- Laws of every trace: priorities, and how a run ends.
use Rattle.std.specs.Prelude.{◌≡◌, ℕ, ◌+◌, ◌*◌, Bool, true, false, not, ◌&&◌, ◌||◌, List, [], ◌∷◌, filter, length, Option, Some, None, nat_lt, nat_le, ◌==◌, option_map, if◌then◌else◌}
use Rattle.std.specs.List.{list_all}
use Rattle.page_types.specs.declared.Priority.{Priority}
use Rattle.page_types.specs.declared.Priority.TheVariants.{Background, UserVisible, UserBlocking}
use Rattle.page_types.specs.declared.RegKind.{RegKind}
use Rattle.page_types.specs.declared.RegKind.TheVariants as kind
use Rattle.page_types.specs.declared.End.{End}
use Rattle.page_types.specs.declared.End.TheVariants as end
use Rattle.page_types.specs.Events.{QueueName, FixedQueue, SignalQueue, Event, Turn, Call, Arm, Run, Enq, Prio, EndLine, Stamped}
use Rattle.page_laws.specs.History.{is_idle, History, each_line, count_lines, is_turn, is_run, is_sched_turn, is_arm_of, is_due_of, is_some_and, is_host, is_scheduled, has_kind, kind_of, registered, registered_for, was_called, was_dropped, last_line, is_frame}
use Rattle.page_laws.specs.CallLaws.{is_answer, no_job_waits}

-- ---- Prioritized Task Scheduling, "Selecting the Task Queue of the Next Scheduler Task"

abbrev pub rank_of : Priority → ℕ
rank_of Background = 0
rank_of UserVisible = 1
rank_of UserBlocking = 2

abbrev pub priority_in : ℕ → Event → Option Priority → Option Priority
priority_in s (Prio t p) earlier = if t == s then Some p else earlier
priority_in s e earlier = earlier

-- the priority of a signal now, by its last line
abbrev pub priority_now : History → ℕ → Option Priority
priority_now [] s = None
priority_now (e ∷ past) s = priority_in s e.event (priority_now past s)

abbrev pub queue_priority : History → QueueName → Option Priority
queue_priority past (FixedQueue p) = Some p
queue_priority past (SignalQueue s) = priority_now past s

-- a task of the scheduler that was enqueued
pub record Enqueued : Type 0 where
  pub registration : ℕ
  pub queue : QueueName
  pub continuation : Bool
  pub order : ℕ

abbrev pub enqueued_in : Event → List Enqueued → List Enqueued
enqueued_in (Enq r queue continuation n) more = record { registration = r; queue = queue; continuation = continuation; order = n } ∷ more
enqueued_in e more = more

abbrev pub enqueued : History → List Enqueued
enqueued [] = []
enqueued (e ∷ past) = enqueued_in e.event (enqueued past)

-- those that wait: neither called nor dropped
abbrev pub waiting : History → List Enqueued
waiting past = filter (λ t. not (was_called past t.registration || was_dropped past t.registration)) (enqueued past)

-- twice the priority now, and one more for a continuation
abbrev pub effective : History → Enqueued → Option ℕ
effective past t = option_map (λ p. 2 * rank_of p + (if t.continuation then 1 else 0)) (queue_priority past t.queue)

abbrev pub goes_first : (priority order other_priority other_order : ℕ) → Bool
goes_first priority order other_priority other_order =
    nat_lt other_priority priority || ((priority == other_priority) && nat_le order other_order)

-- whether a task goes before another, or is that task
abbrev pub precedes : History → (t u : Enqueued) → Bool
precedes past t u = is_some_and (λ n. is_some_and (λ m. goes_first n t.order m u.order) (effective past u)) (effective past t)

-- the tasks of a registration that wait and go before every other that waits
abbrev pub first_tasks : History → ℕ → List Enqueued
first_tasks past r = filter (λ t. (t.registration == r) && list_all (precedes past t) (waiting past)) (waiting past)

abbrev pub has_task : List Enqueued → Bool
has_task [] = false
has_task (t ∷ ts) = true

-- directly behind a turn of the scheduler its first task is called, and it is called nowhere else
abbrev pub scheduled_well : History → ℕ → Bool
scheduled_well past r =
    if last_line is_sched_turn past
    then has_kind is_scheduled past r && has_task (first_tasks past r)
    else not (has_kind is_scheduled past r)

abbrev pub is_later : History → ℕ → Bool
is_later past n = list_all (λ t. nat_lt t.order n) (enqueued past)

abbrev pub keeps_priorities : History → Event → Bool
keeps_priorities past (Call r) = scheduled_well past r
keeps_priorities past (Enq r queue continuation n) = not (last_line is_sched_turn past) && is_later past n
keeps_priorities past e = not (last_line is_sched_turn past)

abbrev pub holds_priority_order : List Stamped → Bool
holds_priority_order es = each_line (λ past e. keeps_priorities past e.event) [] es

-- A task of the scheduler is called directly behind a turn of the scheduler, and nothing else stands there. It waits, and
-- is the one of least order among those of greatest effective priority now. The orders rise.
abbrev pub PriorityOrder : List Stamped → Type 0
PriorityOrder es = holds_priority_order es ≡ true

-- ---- Ours: how a run ends

abbrev pub is_over : RegKind → History → ℕ → Bool
is_over kind.Timeout past r = was_called past r || was_dropped past r
is_over kind.Interval past r = was_dropped past r
is_over kind.Frame past r = was_called past r || was_dropped past r
is_over kind.Idle past r = was_called past r || was_dropped past r
is_over kind.Post past r = was_called past r || was_dropped past r
is_over kind.Yield past r = was_called past r || was_dropped past r
is_over kind.Micro past r = was_called past r || was_dropped past r
is_over k past r = true

abbrev pub is_over_as : History → ℕ → Option RegKind → Bool
is_over_as past r None = true
is_over_as past r (Some kind) = is_over kind past r

-- Each `arm` line of a registration has its `due` line: of those that follow it the first that arms the registration or
-- tells that it was due is a `due`. The lines go back from the last one; `due` holds where the one that follows is a `due`.
abbrev pub arms_were_due : (r : ℕ) → (due : Bool) → History → Bool
arms_were_due r due [] = true
arms_were_due r due (e ∷ past) =
    if is_arm_of r e.event then due && arms_were_due r false past else arms_were_due r (due || is_due_of r e.event) past

-- every time a registration was armed it was due as well, but for a host that was dropped
abbrev pub was_each_due : History → ℕ → Bool
was_each_due past r = arms_were_due r false past || (has_kind is_host past r && was_dropped past r)

abbrev pub armed_in_line : Event → List ℕ → List ℕ
armed_in_line (Arm r due level) more = r ∷ more
armed_in_line e more = more

-- the registrations that were armed
abbrev pub armed_ever : History → List ℕ
armed_ever [] = []
armed_ever (e ∷ past) = armed_in_line e.event (armed_ever past)

-- nothing is left over
abbrev pub is_done : History → Bool
is_done past =
    list_all (λ r. is_over_as past r (kind_of past r)) (registered past) && list_all (was_each_due past) (armed_ever past)
    && (count_lines is_answer past == length (filter (λ r. not (was_dropped past r)) (registered_for is_host past)))

abbrev pub ends_truly : (until : ℕ) → History → (now : ℕ) → End → Bool
ends_truly until past now end.Done = is_done past
ends_truly until past now end.Fuel = true
ends_truly until past now end.Clock = nat_le until now

-- turns and jobs take a unit of fuel each
abbrev pub has_fuel_for : ℕ → History → Bool
has_fuel_for fuel past = nat_lt (count_lines is_turn past + count_lines is_run past) fuel

abbrev pub keeps_end : (until fuel : ℕ) → History → ℕ → Event → Bool
keeps_end until fuel past now (EndLine end) = ends_truly until past now end
keeps_end until fuel past now (Turn n source) = nat_lt now until && has_fuel_for fuel past
keeps_end until fuel past now (Run j) = has_fuel_for fuel past
keeps_end until fuel past now e = true

abbrev pub holds_ends_truly : (until fuel : ℕ) → List Stamped → Bool
holds_ends_truly until fuel es = each_line (λ past e. keeps_end until fuel past e.time e.event) [] es

-- A run that ends for nothing is left to do has left nothing: what runs once was called or dropped, each interval was
-- dropped, whatever was armed was due, and each host answered that was not dropped. A run that ends by the clock ends at
-- `until` or later, and no turn begins then. Turns and jobs together are no more than the fuel.
abbrev pub EndsTruly : (until fuel : ℕ) → List Stamped → Type 0
EndsTruly until fuel es = holds_ends_truly until fuel es ≡ true

abbrev pub keeps_arms_due : History → Event → Bool
keeps_arms_due past (EndLine end.Done) = list_all (was_each_due past) (armed_ever past)
keeps_arms_due past e = true

abbrev pub holds_arms_due : List Stamped → Bool
holds_arms_due es = each_line (λ past e. keeps_arms_due past e.event) [] es

-- A part of that law by itself: where a run ends for nothing is left to do, whatever was armed was due each time, but
-- for a host that was dropped.
abbrev pub ArmsAreDueAtEnd : List Stamped → Type 0
ArmsAreDueAtEnd es = holds_arms_due es ≡ true

-- where a run ends for nothing is left to do, the test holds of the lines before that
abbrev pub at_done : (History → Bool) → History → Event → Bool
at_done test past (EndLine end.Done) = test past
at_done test past e = true

abbrev pub frames_are_over : History → Bool
frames_are_over past = list_all (λ r. was_called past r || was_dropped past r) (registered_for is_frame past)

abbrev pub holds_frames_over : List Stamped → Bool
holds_frames_over es = each_line (λ past e. at_done frames_are_over past e.event) [] es

-- Another part of it by itself: each frame callback was called or dropped then.
abbrev pub FramesAreOverAtEnd : List Stamped → Type 0
FramesAreOverAtEnd es = holds_frames_over es ≡ true

abbrev pub idles_are_over : History → Bool
idles_are_over past = list_all (λ r. was_called past r || was_dropped past r) (registered_for is_idle past)

abbrev pub holds_idles_over : List Stamped → Bool
holds_idles_over es = each_line (λ past e. at_done idles_are_over past e.event) [] es

-- And so was each idle callback.
abbrev pub IdlesAreOverAtEnd : List Stamped → Type 0
IdlesAreOverAtEnd es = holds_idles_over es ≡ true

-- a callback of `queueMicrotask`
abbrev pub is_micro : RegKind → Bool
is_micro kind.Micro = true
is_micro k = false

abbrev pub micros_are_over : History → Bool
micros_are_over past = no_job_waits past && list_all (λ r. was_called past r || was_dropped past r) (registered_for is_micro past)

abbrev pub holds_micros_over : List Stamped → Bool
holds_micros_over es = each_line (λ past e. at_done micros_are_over past e.event) [] es

-- And each job that was queued was run, and so was each microtask callback.
abbrev pub MicrosAreOverAtEnd : List Stamped → Type 0
MicrosAreOverAtEnd es = holds_micros_over es ≡ true

-- the continuation of a yield
abbrev pub is_yield : RegKind → Bool
is_yield kind.Yield = true
is_yield k = false

abbrev pub continuations_are_over : History → Bool
continuations_are_over past = list_all (λ r. was_called past r || was_dropped past r) (registered_for is_yield past)

abbrev pub holds_continuations_over : List Stamped → Bool
holds_continuations_over es = each_line (λ past e. at_done continuations_are_over past e.event) [] es

-- And so was each continuation of a yield.
abbrev pub ContinuationsAreOverAtEnd : List Stamped → Type 0
ContinuationsAreOverAtEnd es = holds_continuations_over es ≡ true

abbrev pub keeps_limits : (until fuel : ℕ) → History → ℕ → Event → Bool
keeps_limits until fuel past now (EndLine end.Clock) = nat_le until now
keeps_limits until fuel past now (Turn n source) = nat_lt now until && has_fuel_for fuel past
keeps_limits until fuel past now (Run j) = has_fuel_for fuel past
keeps_limits until fuel past now e = true

abbrev pub holds_limits : (until fuel : ℕ) → List Stamped → Bool
holds_limits until fuel es = each_line (λ past e. keeps_limits until fuel past e.time e.event) [] es

-- And a run that ends by the clock ends at `until` or later, and no turn begins then. Turns and jobs together are no more than the fuel.
abbrev pub LimitsAreKept : (until fuel : ℕ) → List Stamped → Type 0
LimitsAreKept until fuel es = holds_limits until fuel es ≡ true

-- a callback of `setTimeout`
abbrev pub is_timeout : RegKind → Bool
is_timeout kind.Timeout = true
is_timeout k = false

abbrev pub timeouts_are_over : History → Bool
timeouts_are_over past = list_all (λ r. was_called past r || was_dropped past r) (registered_for is_timeout past)

abbrev pub holds_timeouts_over : List Stamped → Bool
holds_timeouts_over es = each_line (λ past e. at_done timeouts_are_over past e.event) [] es

-- And so was each timeout.
abbrev pub TimeoutsAreOverAtEnd : List Stamped → Type 0
TimeoutsAreOverAtEnd es = holds_timeouts_over es ≡ true

-- a callback of `setInterval`
abbrev pub is_interval : RegKind → Bool
is_interval kind.Interval = true
is_interval k = false

abbrev pub intervals_are_over : History → Bool
intervals_are_over past = list_all (was_dropped past) (registered_for is_interval past)

abbrev pub holds_intervals_over : List Stamped → Bool
holds_intervals_over es = each_line (λ past e. at_done intervals_are_over past e.event) [] es

-- And each interval was dropped.
abbrev pub IntervalsAreOverAtEnd : List Stamped → Type 0
IntervalsAreOverAtEnd es = holds_intervals_over es ≡ true

-- a task of `postTask`
abbrev pub is_posted : RegKind → Bool
is_posted kind.Post = true
is_posted k = false

abbrev pub posts_are_over : History → Bool
posts_are_over past = list_all (λ r. was_called past r || was_dropped past r) (registered_for is_posted past)

abbrev pub holds_posts_over : List Stamped → Bool
holds_posts_over es = each_line (λ past e. at_done posts_are_over past e.event) [] es

-- And each posted task was called or dropped.
abbrev pub PostsAreOverAtEnd : List Stamped → Type 0
PostsAreOverAtEnd es = holds_posts_over es ≡ true

abbrev pub hosts_have_answered : History → Bool
hosts_have_answered past = count_lines is_answer past == length (filter (λ r. not (was_dropped past r)) (registered_for is_host past))

abbrev pub holds_hosts_answered : List Stamped → Bool
holds_hosts_answered es = each_line (λ past e. at_done hosts_have_answered past e.event) [] es

-- And each host that was not dropped has answered.
abbrev pub HostsHaveAnsweredAtEnd : List Stamped → Type 0
HostsHaveAnsweredAtEnd es = holds_hosts_answered es ≡ true

-- All its parts.
pub record EndParts (until fuel : ℕ) (es : List Stamped) : Type 0 where
  pub arms : ArmsAreDueAtEnd es
  pub timeouts : TimeoutsAreOverAtEnd es
  pub intervals : IntervalsAreOverAtEnd es
  pub frames : FramesAreOverAtEnd es
  pub idles : IdlesAreOverAtEnd es
  pub posts : PostsAreOverAtEnd es
  pub continuations : ContinuationsAreOverAtEnd es
  pub micros : MicrosAreOverAtEnd es
  pub hosts : HostsHaveAnsweredAtEnd es
  pub limits : LimitsAreKept until fuel es
