-- The turns of a trace, and what made each of them long.
use Rattle.std.specs.Prelude.{ℕ, zero, suc, ◌-◌, Bool, true, false, List, [], ◌∷◌, Option, Some, None, nat_lt, if◌then◌else◌}
use Rattle.page_types.specs.declared.Source.{Source}
use Rattle.page_types.specs.Events.{Event, Turn, Call, Ret, Throw, Wait, EndLine, Stamped}
use Rattle.trace_export.specs.Calls.{called, end_of}

-- ---- Ours: the lines of a turn

-- whether a line ends the turn before it: a `turn`, `wait` or `end` line
abbrev pub ends_turn : Event → Bool
ends_turn (Turn n source) = true
ends_turn (Wait t) = true
ends_turn (EndLine end) = true
ends_turn event = false

-- the time of a turn's last line, by the lines that follow; `last` is the time of the line before these
abbrev pub last_line : (last : ℕ) → List Stamped → ℕ
last_line last [] = last
last_line last (e ∷ es) = if ends_turn e.event then last else last_line e.time es

-- ---- Ours: the outermost calls of a turn

-- a call: its registration, and how long it is
pub record TurnCall : Type 0 where
  pub registration : ℕ
  pub length : ℕ

-- how many calls that began in the turn are open after a line; a callback that began before the turn may end too
abbrev pub open_after : Event → (depth : ℕ) → ℕ
open_after (Call r) depth = suc depth
open_after Ret depth = depth - 1
open_after (Throw v) depth = depth - 1
open_after event depth = depth

-- the call of a registration, if one is called and no call that began in the turn is open, and then further calls
abbrev pub with_outermost : (depth : ℕ) → (time : ℕ) → Option ℕ → (after : List Stamped) → List TurnCall → List TurnCall
with_outermost depth time None after more = more
with_outermost zero time (Some r) after more = record { registration = r; length = end_of 0 after - time } ∷ more
with_outermost (suc depth) time (Some r) after more = more

-- the outermost calls among the lines of a turn that follow, where so many calls are open that began in the turn
abbrev pub outermost : (depth : ℕ) → List Stamped → List TurnCall
outermost depth [] = []
outermost depth (e ∷ after) =
    if ends_turn e.event then [] else with_outermost depth e.time (called e.event) after (outermost (open_after e.event depth) after)

-- the longer one of two calls, the first one where they are equally long
abbrev pub longer : (first second : TurnCall) → TurnCall
longer first second = if nat_lt first.length second.length then second else first

-- the longest one of some calls, the first one among equals
abbrev pub longest : TurnCall → List TurnCall → TurnCall
longest first [] = first
longest first (call ∷ calls) = longest (longer first call) calls

-- the registration of the longest one, 0 where there is no call
abbrev pub blamed : List TurnCall → ℕ
blamed [] = 0
blamed (call ∷ calls) = (longest call calls).registration

-- ---- Ours: the turns

-- a turn: its number and its task's source, when it begins, how long it is, and the registration of its longest outermost call
pub record TurnOf : Type 0 where
  pub number : ℕ
  pub source : Option Source
  pub begin : ℕ
  pub length : ℕ
  pub blamed : ℕ

-- the turn that begins with a line, if one does, and then further ones
abbrev pub with_turn : Event → (time : ℕ) → (after : List Stamped) → List TurnOf → List TurnOf
with_turn (Turn n source) time after more = record {
  number = n;
  source = source;
  begin = time;
  length = last_line time after - time;
  blamed = blamed (outermost 0 after);
} ∷ more
with_turn event time after more = more

-- the turns of a trace, in order
abbrev pub turns_of : List Stamped → List TurnOf
turns_of [] = []
turns_of (e ∷ after) = with_turn e.event e.time after (turns_of after)

-- those that are longer than 50,000 microseconds
abbrev pub long_ones : List TurnOf → List TurnOf
long_ones [] = []
long_ones (turn ∷ turns) = if nat_lt 50000 turn.length then turn ∷ long_ones turns else long_ones turns
