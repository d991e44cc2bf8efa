-- What the error output gets.
use Rattle.std.specs.Prelude.{◌≡◌, ◌≤◌, ◌⊎◌, ℕ, List, [], ◌++◌, Option, Some, None, Result, OnOk, OnErr, codes}
use Rattle.page_types.specs.Counts.{Rose}
use Rattle.page_types.specs.Told.{appended, AppendsStartOf}
use Rattle.page_parts.specs.Words.{decimal_of}
use Rattle.lang_names.specs.declared.fault.NameFault.{NameFault}
use Rattle.lang_names.specs.declared.fault.NameFault.TheVariants as fault
use Rattle.page_cli.specs.declared.answer.Answer.{Answer}
use Rattle.page_cli.specs.declared.answer.Answer.TheVariants.{Ended, Written, Usage, NoParse, NotAsync, BadName, BadArrivals}
use Rattle.page_cli.specs.declared.answer.Answer.TheVariants.{BadTrace, Differs, Illegal, TooLong, ReadFault, WriteFault, OutOfMemory}
use Rattle.page_cli.specs.Forms.{Form, name_of}

abbrev pub name_in : Option Form → (Form → List ℕ) → List ℕ
name_in None name = []
name_in (Some form) name = name form

-- what is wrong with a name, and where
abbrev pub name_complaint : NameFault → List ℕ
name_complaint (fault.Unknown at) = codes "pageloop: unknown name at byte " ++ (decimal_of at ++ codes "\n")
name_complaint (fault.Twice at) = codes "pageloop: name defined twice at byte " ++ (decimal_of at ++ codes "\n")
name_complaint (fault.Arity at) = codes "pageloop: wrong argument count at byte " ++ (decimal_of at ++ codes "\n")

-- the line of an answer
abbrev pub complaint : Option Form → Answer → List ℕ
complaint form (Ended end) = []
complaint form Written = []
complaint form Usage = codes "usage: pageloop run S A | check S A T | storm N | stat T | migrate S A T | expand S | export T | blame T\n"
complaint form (NoParse at) = codes "pageloop: script: no parse at byte " ++ (decimal_of at ++ codes "\n")
complaint form NotAsync = codes "pageloop: script: not an async script\n"
complaint form (BadArrivals line) = codes "pageloop: arrivals: line " ++ (decimal_of line ++ codes "\n")
complaint form (BadName fault) = name_complaint fault
complaint form (BadTrace line) = codes "pageloop: trace: line " ++ (decimal_of line ++ codes "\n")
complaint form (Differs line) = codes "pageloop: trace differs at line " ++ (decimal_of line ++ codes "\n")
complaint form (Illegal line) = codes "pageloop: choice not legal at line " ++ (decimal_of line ++ codes "\n")
complaint form (TooLong file) = codes "pageloop: too long: " ++ (name_in form (name_of file) ++ codes "\n")
complaint form (ReadFault file) = codes "pageloop: read fault: " ++ (name_in form (name_of file) ++ codes "\n")
complaint form WriteFault = codes "pageloop: write fault\n"
complaint form OutOfMemory = codes "pageloop: out of memory\n"

-- A piece was put: the whole of it; or a start, where the count of faults rose.
pub record Puts {E : Type 0} (old : Option (List ℕ)) (before : ℕ) (piece : List ℕ) (result : Result (Unit {0}) E)
    (new : Option (List ℕ)) (now : ℕ) : Type 0 where
  pub later : before ≤ now
  pub whole : OnOk result (new ≡ appended old piece)
  pub start : OnErr result (Rose before now × AppendsStartOf old new piece)

-- the same, whatever the call answered
abbrev pub PutsOrFails : (old : Option (List ℕ)) → (before : ℕ) → List ℕ → (new : Option (List ℕ)) → (now : ℕ) → Type 0
PutsOrFails old before piece new now = (new ≡ appended old piece) ⊎ (Rose before now × AppendsStartOf old new piece)

-- a piece was put in a call that takes a sink from one state to the next, by its bytes and its count of faults
abbrev pub PutsTo : {S E : Type 0} → (bytes : S → Option (List ℕ)) → (faults : S → ℕ) → (old : S) → List ℕ → Result (Unit {0}) E
    → (new : S) → Type 0
PutsTo bytes faults old piece result new = Puts (bytes old) (faults old) piece result (bytes new) (faults new)

-- the same, whatever the call answered
abbrev pub PutsOrFailsTo : {S : Type 0} → (bytes : S → Option (List ℕ)) → (faults : S → ℕ) → (old : S) → List ℕ → (new : S) → Type 0
PutsOrFailsTo bytes faults old piece new = PutsOrFails (bytes old) (faults old) piece (bytes new) (faults new)
