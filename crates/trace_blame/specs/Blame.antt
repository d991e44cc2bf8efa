-- The text about the long turns of a trace.
use Rattle.std.specs.Prelude.{ℕ, List, [], ◌∷◌, ◌++◌, length, codes}
use Rattle.page_types.specs.Events.{Stamped}
use Rattle.page_parts.specs.TraceText.{source_text, field, number_field}
use Rattle.trace_blame.specs.Turns.{TurnOf, turns_of, long_ones}

-- ---- Ours: a line for each long turn, and their number

-- a turn: its number, its task's source, when it begins, how long it is, and which registration's call is the longest
abbrev pub turn_text : TurnOf → List ℕ
turn_text turn =
    codes "long" ++ number_field turn.number ++ field (source_text turn.source)
    ++ number_field turn.begin ++ number_field turn.length ++ number_field turn.blamed ++ codes "\n"

abbrev pub turns_text : List TurnOf → List ℕ
turns_text [] = []
turns_text (turn ∷ turns) = turn_text turn ++ turns_text turns

-- the number of the turns
abbrev pub total_text : (total : ℕ) → List ℕ
total_text total = codes "total" ++ number_field total ++ codes "\n"

abbrev pub blame_of_turns : List TurnOf → List ℕ
blame_of_turns turns = turns_text turns ++ total_text (length turns)

-- the text about a trace
abbrev pub blame_text : List Stamped → List ℕ
blame_text es = blame_of_turns (long_ones (turns_of es))
