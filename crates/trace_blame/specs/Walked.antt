-- A turn of which some lines were met.
use Rattle.std.specs.Prelude.{ℕ, zero, suc, ◌-◌, List, Option, Some, None}
use Rattle.page_types.specs.declared.Source.{Source}
use Rattle.page_types.specs.Events.{Event, Stamped}
use Rattle.trace_blame.specs.Turns.{TurnCall, TurnOf, last_line, open_after, outermost, longer, longest, blamed}

-- ---- Ours: a turn, line by line

-- its number and source, when it begins, the time of the last line met, how many calls that began in it are open, and the longest
-- outermost call
pub record OpenTurn : Type 0 where
  pub number : ℕ
  pub source : Option Source
  pub begin : ℕ
  pub last : ℕ
  pub depth : ℕ
  pub longest : Option TurnCall

abbrev pub opened : (n : ℕ) → Option Source → (time : ℕ) → OpenTurn
opened n source time = record { number = n; source = source; begin = time; last = time; depth = 0; longest = None }

-- the longer one of a call, if there is one, and a further one
abbrev pub longer_of : Option TurnCall → TurnCall → TurnCall
longer_of None call = call
longer_of (Some first) call = longer first call

-- the longest call after a line that may begin a call, which ends at some time
abbrev pub longest_with : (depth : ℕ) → (time : ℕ) → Option (ℕ × ℕ) → Option TurnCall → Option TurnCall
longest_with depth time None longest = longest
longest_with zero time (Some call) longest = Some (longer_of longest (record { registration = call.0; length = call.1 - time }))
longest_with (suc depth) time (Some call) longest = longest

abbrev pub with_line : Event → (time : ℕ) → Option (ℕ × ℕ) → OpenTurn → OpenTurn
with_line event time call turn = record turn {
  last = time;
  depth = open_after event turn.depth;
  longest = longest_with turn.depth time call turn.longest;
}

-- the registration of the longest one of a call, if there is one, and further ones
abbrev pub blamed_with : Option TurnCall → List TurnCall → ℕ
blamed_with None calls = blamed calls
blamed_with (Some call) calls = (longest call calls).registration

-- the turn, by the lines that follow
abbrev pub closed_by : OpenTurn → List Stamped → TurnOf
closed_by turn es = record {
  number = turn.number;
  source = turn.source;
  begin = turn.begin;
  length = last_line turn.last es - turn.begin;
  blamed = blamed_with turn.longest (outermost turn.depth es);
}
