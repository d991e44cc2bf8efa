-- The laws of runs, from those of rows of moves.
use Rattle.page_laws.proofs.Acts.{gaps_are_moves, gaps_keep_levels}
use Rattle.page_laws.proofs.Jobs as jobs
use Rattle.page_laws.proofs.Nesting as nesting
use Rattle.page_laws.proofs.Scans.{kept-each}
use Rattle.page_laws.proofs.Settling as settling
use Rattle.page_laws.proofs.Once.{called_once}
use Rattle.page_laws.proofs.OpenCalls.{calls_told}
use Rattle.page_laws.specs.History.{open_registrations}
use Rattle.page_laws.proofs.Answering.{answered_once, once_test, once-parts}
use Rattle.page_laws.proofs.Cancelled.{dropped_stay_gone}
use Rattle.page_laws.proofs.CancelledHosts.{answers_stand, cancel_test, cancel-parts}
use Rattle.page_laws.proofs.Priorities.{in_priority, priorities_kept}
use Rattle.page_laws.proofs.FrameOrder.{frames_in_order, framing_test}
use Rattle.page_laws.specs.SchedulerLaws.{ArmsAreDueAtEnd, ContinuationsAreOverAtEnd, EndsTruly, FramesAreOverAtEnd, HostsHaveAnsweredAtEnd, IdlesAreOverAtEnd, IntervalsAreOverAtEnd, LimitsAreKept, MicrosAreOverAtEnd, PostsAreOverAtEnd, PriorityOrder, TimeoutsAreOverAtEnd}
use Rattle.page_laws.specs.TimerLaws.{DueInOrder, DueWhenArmed, FramesInOrder, IdleDeadlines, LevelsFollow, TimersClamped, TimersFireWhenDue, TimersInOrder}
use Rattle.page_laws.proofs.Firing.{fired_when_due, firing}
use Rattle.page_laws.proofs.DueTimes.{due_when_armed, due_test}
use Rattle.page_laws.proofs.DueOrder.{due_in_order, order_test}
use Rattle.page_laws.proofs.Clamps.{clamps, timers_clamped}
use Rattle.page_laws.proofs.DoneArms.{arms_due_at_end, arms_due_test}
use Rattle.page_laws.proofs.DoneFrames.{frames_over_at_end, frames_over_test}
use Rattle.page_laws.proofs.DoneHosts.{hosts_answered_at_end, hosts_answered_test}
use Rattle.page_laws.proofs.DoneIdle.{idles_over_at_end, idles_over_test}
use Rattle.page_laws.proofs.DoneIntervals.{intervals_over_at_end, intervals_over_test}
use Rattle.page_laws.proofs.DoneMicro.{micros_over_at_end, micros_over_test}
use Rattle.page_laws.proofs.DonePosts.{posts_over_at_end, posts_over_test}
use Rattle.page_laws.proofs.DoneTimeout.{timeouts_over_at_end, timeouts_over_test}
use Rattle.page_laws.proofs.DoneYield.{continuations_over_at_end, continuations_over_test}
use Rattle.page_laws.proofs.Deadlines.{deadlines_kept, idle_test}
use Rattle.page_laws.proofs.Parts.{ends_by_parts, timers_by_parts}
use Rattle.page_laws.proofs.SpendingTurns.{gaps_keep_limits, run_keeps_limits}
use Rattle.page_laws.proofs.Spent.{limits_test}
use Rattle.page_laws.proofs.Turns.{run_is_moves, run_keeps_levels}
use Rattle.page_laws.proofs.Following.{levels}
use Rattle.page_model.specs.Gaps.{Act, run_gaps_by}
use Rattle.page_laws.specs.Moves.{ComesTo, Moves, moved, unanswered}
use Rattle.page_model.specs.Choosing.{Rules}
use Rattle.page_model.specs.Numbers.{HoldsNoNumbers}
use Rattle.page_model.specs.State.{Page}
use Rattle.page_model.specs.Turns.{run_by, state_of, first_page}
use Rattle.page_parts.specs.HostClosures.{HostClosure}
use Rattle.page_parts.specs.Setup.{Setup}
use Rattle.page_types.specs.Tree.{Program}
use Rattle.std.proofs.Common.{◌≡◌, ℕ, List, [], refl, reverse}
use Rattle.page_laws.specs.CallLaws.{Once, Cancel, SettleOnce, JobsInOrder, NoNesting}

-- the laws of a row of moves from a first page
abbrev pub Laws : Page → Type 0
Laws p = SettleOnce (reverse p.events) × JobsInOrder (reverse p.events) × NoNesting (reverse p.events) × Once (reverse p.events) × p.calls ≡ open_registrations p.events × Cancel (reverse p.events) × PriorityOrder (reverse p.events) × FramesInOrder (reverse p.events) × IdleDeadlines (reverse p.events) × TimersFireWhenDue (reverse p.events) × DueWhenArmed (reverse p.events) × DueInOrder (reverse p.events) × TimersClamped (reverse p.events) × ArmsAreDueAtEnd (reverse p.events) × FramesAreOverAtEnd (reverse p.events) × IdlesAreOverAtEnd (reverse p.events) × MicrosAreOverAtEnd (reverse p.events) × ContinuationsAreOverAtEnd (reverse p.events) × TimeoutsAreOverAtEnd (reverse p.events) × HostsHaveAnsweredAtEnd (reverse p.events) × IntervalsAreOverAtEnd (reverse p.events) × PostsAreOverAtEnd (reverse p.events)

pub laws_of_moves : (program : Program) (setup : Setup) (hosts : List HostClosure) (p : Page) → Moves (first_page program setup hosts) p → Laws p
laws_of_moves program setup hosts p a = (
  kept-each settling.settling p.events (settling.settle_once a refl refl),
  kept-each jobs.in_order p.events (jobs.jobs_in_order a refl refl refl),
  kept-each nesting.nesting p.events (nesting.moves-kept a tt),
  kept-each once_test p.events (once-parts p.events (called_once program setup hosts a) (answered_once program setup hosts a)),
  calls_told a refl refl,
  kept-each cancel_test p.events (cancel-parts p.events (dropped_stay_gone program setup hosts a) (answers_stand program setup hosts a)),
  kept-each in_priority p.events (priorities_kept program setup hosts a),
  kept-each framing_test p.events (frames_in_order program setup hosts a),
  kept-each idle_test p.events (deadlines_kept program setup hosts a),
  kept-each firing p.events (fired_when_due program setup hosts a),
  kept-each due_test p.events (due_when_armed program setup hosts a),
  kept-each order_test p.events (due_in_order program setup hosts a),
  kept-each clamps p.events (timers_clamped program setup hosts a),
  kept-each arms_due_test p.events (arms_due_at_end program setup hosts a),
  kept-each frames_over_test p.events (frames_over_at_end program setup hosts a),
  kept-each idles_over_test p.events (idles_over_at_end program setup hosts a),
  kept-each micros_over_test p.events (micros_over_at_end program setup hosts a),
  kept-each continuations_over_test p.events (continuations_over_at_end program setup hosts a),
  kept-each timeouts_over_test p.events (timeouts_over_at_end program setup hosts a),
  kept-each hosts_answered_test p.events (hosts_answered_at_end program setup hosts a),
  kept-each intervals_over_test p.events (intervals_over_at_end program setup hosts a),
  kept-each posts_over_test p.events (posts_over_at_end program setup hosts a),
)

-- the same of what a run comes to
laws_of_ends : (program : Program) (setup : Setup) (hosts : List HostClosure) {p : Page} → ComesTo (first_page program setup hosts) p → Laws p
laws_of_ends program setup hosts (moved {q = q} a) = laws_of_moves program setup hosts q a
laws_of_ends program setup hosts (unanswered {q = q} a source task t e steps) = laws_of_moves program setup hosts q a

pub laws_of_runs : {C : Type 0} (rules : Rules C) (program : Program) (setup : Setup) (hosts : List HostClosure) (c : C) → HoldsNoNumbers setup → Laws (state_of (run_by rules program setup hosts c)).host
laws_of_runs rules program setup hosts c h = laws_of_ends program setup hosts (run_is_moves rules program setup hosts c h)

pub laws_of_gaps : {C : Type 0} (rules : Rules C) (program : Program) (setup : Setup) (c : C) (list : List Act) → HoldsNoNumbers setup → Laws (state_of (run_gaps_by rules program setup list c)).host
laws_of_gaps rules program setup c list h = laws_of_ends program setup [] (gaps_are_moves rules program setup c list h)

-- ---- the law of how runs end, whole

ends_truly : (until fuel : ℕ) (p : Page) → Laws p → LimitsAreKept until fuel (reverse p.events) → EndsTruly until fuel (reverse p.events)
ends_truly until fuel p l limits =
    ends_by_parts until fuel (reverse p.events)
    (record { arms = l.13; timeouts = l.18; intervals = l.20; frames = l.14; idles = l.15; posts = l.21; continuations = l.17; micros = l.16; hosts = l.19; limits = limits })

pub runs_end_truly : {C : Type 0} (rules : Rules C) (program : Program) (setup : Setup) (hosts : List HostClosure) (c : C) → HoldsNoNumbers setup → EndsTruly setup.until setup.fuel (reverse (state_of (run_by rules program setup hosts c)).host.events)
runs_end_truly rules program setup hosts c h =
    ends_truly setup.until setup.fuel (state_of (run_by rules program setup hosts c)).host (laws_of_runs rules program setup hosts c h)
    (kept-each (limits_test setup.until setup.fuel) _ (run_keeps_limits rules program setup hosts c))

pub gaps_end_truly : {C : Type 0} (rules : Rules C) (program : Program) (setup : Setup) (c : C) (list : List Act) → HoldsNoNumbers setup → EndsTruly setup.until setup.fuel (reverse (state_of (run_gaps_by rules program setup list c)).host.events)
gaps_end_truly rules program setup c list h =
    ends_truly setup.until setup.fuel (state_of (run_gaps_by rules program setup list c)).host (laws_of_gaps rules program setup c list h)
    (kept-each (limits_test setup.until setup.fuel) _ (gaps_keep_limits rules program setup c list))

-- ---- the law of timers, whole

timers_in_order : (form : ℕ) (p : Page) → Laws p → LevelsFollow form (reverse p.events) → TimersInOrder form (reverse p.events)
timers_in_order form p l follows = timers_by_parts form (reverse p.events) (record { armed = l.10; order = l.11; firing = l.9; clamps = l.12; levels = follows })

pub runs_follow_levels : {C : Type 0} (rules : Rules C) (program : Program) (setup : Setup) (hosts : List HostClosure) (c : C) → HoldsNoNumbers setup → LevelsFollow setup.form (reverse (state_of (run_by rules program setup hosts c)).host.events)
runs_follow_levels rules program setup hosts c h = kept-each (levels setup.form) _ (run_keeps_levels rules program setup hosts c h)

pub gaps_follow_levels : {C : Type 0} (rules : Rules C) (program : Program) (setup : Setup) (c : C) (list : List Act) → HoldsNoNumbers setup → LevelsFollow setup.form (reverse (state_of (run_gaps_by rules program setup list c)).host.events)
gaps_follow_levels rules program setup c list h = kept-each (levels setup.form) _ (gaps_keep_levels rules program setup c list h)

pub run_timers_in_order : {C : Type 0} (rules : Rules C) (program : Program) (setup : Setup) (hosts : List HostClosure) (c : C) → HoldsNoNumbers setup → TimersInOrder setup.form (reverse (state_of (run_by rules program setup hosts c)).host.events)
run_timers_in_order rules program setup hosts c h =
    timers_in_order setup.form (state_of (run_by rules program setup hosts c)).host (laws_of_runs rules program setup hosts c h) (runs_follow_levels rules program setup hosts c h)

pub gaps_timers_in_order : {C : Type 0} (rules : Rules C) (program : Program) (setup : Setup) (c : C) (list : List Act) → HoldsNoNumbers setup → TimersInOrder setup.form (reverse (state_of (run_gaps_by rules program setup list c)).host.events)
gaps_timers_in_order rules program setup c list h =
    timers_in_order setup.form (state_of (run_gaps_by rules program setup list c)).host (laws_of_gaps rules program setup c list h) (gaps_follow_levels rules program setup c list h)
