-- Words of the worked examples.
use Rattle.std.specs.Prelude.{ℕ, ◌+◌, Bool, true, false, Result, cond, ◌∷◌, List, [], ◌++◌, ◌^◌, ◌-◌, ◌==◌, ℤ, pos, neg_ℤ, codes}
use Prim.Native.String.{String}
use Rattle.page_types.specs.Tree.{Named, Program}
use Rattle.page_types.specs.Events.{Event, Turn, Call, Drop, Settle, Stamped}
use Rattle.page_parts.specs.Words.{decimal_of}
use Rattle.page_parts.specs.WrittenChoices.{Choices, written}
use Rattle.page_model.specs.Turns.{Turned, GoesOn, Ended, Stuck, run, events_of_run}
use Rattle.page_parts.specs.Setup.{Setup}
use Rattle.page_parts.specs.HostClosures.{HostClosure}
use Rattle.page_types.specs.declared.HostKind.TheVariants.{Square, Double, Negate, Fail}
use Rattle.page_types.specs.declared.HostMark.TheVariants.{Live}

-- a name, at no place in particular
abbrev pub named : String → Named
named x = record { name = codes x; at = 0 }

-- the first four closures of the program
abbrev pub four_hosts : List HostClosure
four_hosts =
    record { kind = Square; low = neg_ℤ (pos 3037000499); high = pos 3037000499; mark = Live } ∷
    record { kind = Double; low = neg_ℤ (pos 4611686018427387903); high = pos 4611686018427387903; mark = Live } ∷
    record { kind = Negate; low = neg_ℤ (pos 9223372036854775807); high = pos 9223372036854775807; mark = Live } ∷
    record { kind = Fail; low = neg_ℤ (pos (2 ^ 63)); high = pos (2 ^ 63 - 1); mark = Live } ∷ []

-- the first six: the fifth and the sixth do what the first and the second do
abbrev pub six_hosts : List HostClosure
six_hosts =
    four_hosts ++
    record { kind = Square; low = neg_ℤ (pos 3037000499); high = pos 3037000499; mark = Live } ∷
    record { kind = Double; low = neg_ℤ (pos 4611686018427387903); high = pos 4611686018427387903; mark = Live } ∷ []

-- a text of these lines
abbrev pub rows : List (List ℕ) → List ℕ
rows [] = []
rows (line ∷ more) = line ++ 10 ∷ rows more

-- the lines of a text
abbrev pub lines_from : List ℕ → List ℕ → List (List ℕ)
lines_from line [] = []
lines_from line (b ∷ bs) = cond (b == 10) (line ∷ lines_from [] bs) (lines_from (line ++ b ∷ []) bs)

-- a `log` line as its time and value, and nothing of any other line
abbrev pub after_word : List ℕ → List ℕ → List ℕ → List ℕ
after_word whole [] rest = whole ++ rest ++ 10 ∷ []
after_word whole (w ∷ ws) [] = []
after_word whole (w ∷ ws) (b ∷ bs) = cond (w == b) (after_word whole ws bs) []

abbrev pub log_line : List ℕ → List ℕ → List ℕ
log_line time [] = []
log_line time (b ∷ bs) = cond (b == 32) (after_word (time ++ 32 ∷ []) (codes "log ") bs) (log_line (time ++ b ∷ []) bs)

abbrev pub log_lines : List (List ℕ) → List ℕ
log_lines [] = []
log_lines (l ∷ ls) = log_line [] l ++ log_lines ls

-- the times and values of the `log` lines of a trace, a line each
abbrev pub logs_of : List ℕ → List ℕ
logs_of text = log_lines (lines_from [] text)

abbrev is_turn : Event → ℕ
is_turn (Turn n s) = 1
is_turn e = 0

abbrev is_call : Event → ℕ
is_call (Call r) = 1
is_call e = 0

abbrev is_drop : Event → ℕ
is_drop (Drop r) = 1
is_drop e = 0

abbrev is_settle : Event → ℕ
is_settle (Settle n ok v) = 1
is_settle e = 0

abbrev count : (Event → ℕ) → List Stamped → ℕ
count f [] = 0
count f (e ∷ es) = f e.event + count f es

abbrev summary_of : List Stamped → List ℕ
summary_of es = codes "turns " ++ decimal_of (count is_turn es) ++ codes "\ncalls " ++ decimal_of (count is_call es) ++ codes "\ndrops " ++ decimal_of (count is_drop es) ++ codes "\nsettles " ++ decimal_of (count is_settle es) ++ 10 ∷ []

abbrev pub summary_text : Program → Setup → List HostClosure → List (Result ℤ ℤ) → List ℕ
summary_text program setup hosts answers = summary_of (events_of_run (run program setup hosts (written setup answers)))

-- a run has ended, or is stuck at a choice
abbrev pub has_ended : Turned Choices → Bool
has_ended (GoesOn m c) = false
has_ended (Ended end m c) = true
has_ended (Stuck at m c) = false

abbrev pub is_stuck : Turned Choices → Bool
is_stuck (GoesOn m c) = false
is_stuck (Ended end m c) = false
is_stuck (Stuck at m c) = true
