-- What a page in code is seen as, and what it tells as the host of the script machine.
use Rattle.std.specs.Prelude.{◌≡◌, ◌≤◌, ◌<◌, ◌^◌, ◌-◌, ◌/◌, ℕ, Option, Some, None}
use Rattle.std.specs.Option.{option_map}
use Rattle.lang_ast.specs.Hosts.{HostNow}
use Rattle.page_model.specs.PageHost.{open_tickets}
use Rattle.page_model.specs.FoldBounds.{HostIsBounded, to_visit}
use Rattle.trace_text.specs.declared.lines.NoLine.{NoLine}
use Rattle.trace_text.specs.declared.lines.NoLine.TheVariants as no_line
use Rattle.trace_text.specs.Given.{Seen}
use Rattle.page_rules.specs.Lined.{Lined}
use Rattle.page_state.specs.Standing.{Standing, port_of}
use Rattle.page_state.specs.FoldActs.{hosting_of}
use Rattle.page_operations.specs.Asked.{functions_of}
use Rattle.page_host.specs.Marked.{Mark, Marked, IsSince}
use Rattle.page_host.specs.declared.stop.PageStop.{PageStop}
use Rattle.page_host.specs.declared.stop.PageStop.TheVariants as stop

-- ---- Ours: a page in code

-- All that a page keeps, the object that takes its lines, that object when the script machine was called last, how many functions the
-- script has, the units of fuel that are left, when the run ends at the latest, why a line was not taken or that memory was wanting,
-- where that came, and how often the page stopped.
pub record PageNow (L : Type 0) : Type 0 where
  pub state : Standing
  pub lines : L
  pub since : L
  pub functions : ℕ
  pub fuel : ℕ
  pub until : ℕ
  pub stopped : Option NoLine
  pub stops : ℕ

-- why a page stops where a line is not taken
abbrev pub stop_of : NoLine → PageStop
stop_of no_line.Failed = stop.WriteFault
stop_of no_line.Differs = stop.Differs
stop_of no_line.OutOfMemory = stop.OutOfMemory

-- ---- Ours: the host of the script machine

-- what it tells of what it does, by what is told of its lines
abbrev pub told_at : {T : Type 0} → Standing → (lines : Option T) → (stopped : Option NoLine) → Lined T
told_at s lines stopped = record { hosting = hosting_of s; told = lines; stopped = stopped }

-- For so many calls of `busy` there is room, of at most 1,000,000,000 microseconds each, before the time is 2^63.
abbrev pub room_at : (now : ℕ) → ℕ
room_at now = (2 ^ 63 - now) / 1000000000

-- once it has stopped, there is always room
abbrev pub room_of : (stopped : Option NoLine) → (now : ℕ) → ℕ
room_of None now = room_at now
room_of (Some why) now = 2 ^ 64

-- the same with its mark, and with what its host port tells
abbrev pub marked_at : {T : Type 0} → Mark T → Standing → (lines : Option T) → (stopped : Option NoLine) → Marked T
marked_at mark s lines stopped =
    record { lined = told_at s lines stopped; mark = mark; port = port_of s }

-- its mark, where so much is seen of its lines
abbrev pub mark_of : {L T : Type 0} → (seen : L → Seen T) → PageNow L → Mark T
mark_of seen p = record { since = seen p.since; until = p.until }

-- all that it tells
abbrev pub host_now : {L T : Type 0} → (seen : L → Seen T) → PageNow L → HostNow (Marked T) PageStop
host_now seen p =
    record {
      told = marked_at (mark_of seen p) p.state (seen p.lines).told p.stopped;
      tickets = open_tickets (hosting_of p.state).folds;
      room = room_of p.stopped p.state.script.now;
      functions = p.functions;
      refusals = p.stops;
      last_stop = option_map stop_of p.stopped;
    }

-- how many callbacks may still come under a ticket
abbrev pub callbacks_left : {T : Type 0} → Marked T → ℕ → ℕ
callbacks_left told ticket = to_visit told.lined.hosting ticket

-- While it has not stopped, a page and its open folds are within the bounds of numbers, and its script has so many functions. Since the
-- script machine was called last no line was at fault but the one at which the page stopped.
pub record IsWhole {L T : Type 0} (seen : L → Seen T) (p : PageNow L) : Type 0 where
  pub bounded : p.stopped ≡ None → HostIsBounded (hosting_of p.state)
  pub functions : p.stopped ≡ None → functions_of p.state ≡ p.functions
  pub fuel : p.fuel ≤ 10000000
  pub stops : p.stops < 2 ^ 64
  pub since : IsSince (seen p.since) p.stopped (seen p.lines)
