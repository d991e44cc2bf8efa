-- The status of each answer.
use Rattle.std.specs.Prelude.{ℕ}
use Rattle.page_types.specs.declared.End.{End}
use Rattle.page_types.specs.declared.End.TheVariants as end
use Rattle.page_cli.specs.declared.answer.Answer.{Answer}
use Rattle.page_cli.specs.declared.answer.Answer.TheVariants.{Ended, Written, Usage, NoParse, NotAsync, BadName, BadArrivals}
use Rattle.page_cli.specs.declared.answer.Answer.TheVariants.{BadTrace, Differs, Illegal, TooLong, ReadFault, WriteFault, OutOfMemory}

-- the status of a run that ended so
abbrev pub status_of_end : End → ℕ
status_of_end end.Done = 0
status_of_end end.Fuel = 10
status_of_end end.Clock = 11

abbrev pub status_of : Answer → ℕ
status_of (Ended end) = status_of_end end
status_of Written = 0
status_of Usage = 2
status_of (NoParse at) = 3
status_of NotAsync = 3
status_of (BadArrivals line) = 4
status_of (BadName fault) = 5
status_of (TooLong file) = 6
status_of (Differs line) = 7
status_of (Illegal line) = 7
status_of (BadTrace line) = 8
status_of (ReadFault file) = 74
status_of WriteFault = 75
status_of OutOfMemory = 70
