-- What each answer says of the files, of the closures and of what was written.
use Rattle.std.specs.Prelude.{◌≡◌, ◌<◌, ◌≤◌, ◌⊎◌, ⊤, ℕ, length, List, Option, Some, None}
use Rattle.page_types.specs.Tree.{Program}
use Rattle.page_types.specs.declared.End.{End}
use Rattle.page_parts.specs.HostClosures.{HostClosure}
use Rattle.page_parts.specs.Setup.{Setup}
use Rattle.page_model.specs.Turns.{first_page, events_of_run, state_of}
use Rattle.page_laws.specs.ClosureMarks.{ClosuresFollow}
use Rattle.arrivals_text.specs.Arrivals.{Settings, SetsUp, IsBadLine, lines_of}
use Rattle.loop_turn.specs.Lawful.{AreLawful}
use Rattle.page_cli.specs.declared.answer.WhichFile.{WhichFile}
use Rattle.page_cli.specs.declared.answer.WhichFile.TheVariants.{Script, Arrivals, Trace}
use Rattle.page_cli.specs.declared.answer.Answer.{Answer}
use Rattle.page_cli.specs.declared.answer.Answer.TheVariants.{Ended, Written, Usage, NoParse, NotAsync, BadName, BadArrivals}
use Rattle.page_cli.specs.declared.answer.Answer.TheVariants.{BadTrace, Differs, Illegal, TooLong, ReadFault, WriteFault, OutOfMemory}
use Rattle.page_cli.specs.Forms.{Form, RunForm, CheckForm, MigrateForm, StormForm, PictureForm, ExpandForm}
use Rattle.page_cli.specs.ToldFiles.{OfFile}
use Rattle.page_cli.specs.Scripts.{HasProgram, HasSomeProgram, IsSyntaxError, HasBadName}
use Rattle.page_cli.specs.Running.{GoNoFurther, WroteRun, WroteRunStart, closures_after, written_run}

-- a file within its limit
abbrev pub Fits : List ℕ → Type 0
Fits bytes = length bytes ≤ 1048576

-- The script has this program, and the arrivals set this.
pub record IsRun (script arrivals : List ℕ) (program : Program) (settings : Settings) : Type 0 where
  pub has_program : HasProgram script program
  pub fits : Fits arrivals
  pub sets_up : SetsUp arrivals settings

-- The trace of this script, these arrivals and these closures was written, the whole of it and no more. The run has ended so, left the
-- closures so, its events keep the ten laws of every run, and the closures are fired and dropped as the lines tell.
pub record WroteTrace (end : End) (script arrivals : List ℕ) (hosts left : List HostClosure) (old new : Option (List ℕ)) : Type 0 where
  pub program : Program
  pub settings : Settings
  pub is_run : IsRun script arrivals program settings
  pub wrote : WroteRun program settings.setup hosts old end left new
  pub laws : AreLawful settings.setup (events_of_run (written_run program settings.setup hosts wrote.answers))
  pub marks :
      ClosuresFollow (first_page program settings.setup hosts) (state_of (written_run program settings.setup hosts wrote.answers)).host

-- A start of that trace was written. A closure is fired, or dropped, only where it was so before or where that run leaves it so.
pub record WroteStart (script arrivals : List ℕ) (hosts left : List HostClosure) (old new : Option (List ℕ)) : Type 0 where
  pub program : Program
  pub settings : Settings
  pub is_run : IsRun script arrivals program settings
  pub wrote : WroteRunStart program settings.setup hosts old left new
  pub marks : GoNoFurther hosts (closures_after (written_run program settings.setup hosts wrote.answers)) left

-- the first of the two files that is longer than its limit
abbrev pub IsTooLong : WhichFile → (script arrivals : List ℕ) → Type 0
IsTooLong Script script arrivals = 1048576 < length script
IsTooLong Arrivals script arrivals = Fits script × (1048576 < length arrivals)
IsTooLong Trace script arrivals = ⊥

-- the file that could not be read; the arrivals are fetched only where the script is within its limit
abbrev pub CanFail : WhichFile → List ℕ → Type 0
CanFail Script script = ⊤
CanFail Arrivals script = Fits script
CanFail Trace script = ⊥

-- what a refusal says of what is read in the two files
abbrev pub RefusesFiles : Answer → (script arrivals : List ℕ) → Type 0
RefusesFiles (NoParse at) script arrivals = IsSyntaxError script at
RefusesFiles (BadName fault) script arrivals = HasBadName script fault
RefusesFiles (BadArrivals line) script arrivals = HasSomeProgram script × IsBadLine (lines_of arrivals) line
RefusesFiles OutOfMemory script arrivals = ⊤
RefusesFiles answer script arrivals = ⊥

-- what an answer says of the two files and of the closures
abbrev pub AnswersFiles : Answer → (script arrivals : List ℕ) → (hosts left : List HostClosure)
    → (old new : Option (List ℕ)) → Type 0
AnswersFiles (Ended end) script arrivals hosts left old new = WroteTrace end script arrivals hosts left old new
AnswersFiles (TooLong file) script arrivals hosts left old new = IsTooLong file script arrivals × (new ≡ old)
AnswersFiles (ReadFault file) script arrivals hosts left old new = CanFail file script × (new ≡ old)
AnswersFiles WriteFault script arrivals hosts left old new = WroteStart script arrivals hosts left old new
AnswersFiles OutOfMemory script arrivals hosts left old new =
    ((new ≡ old) × (left ≡ hosts)) ⊎ WroteStart script arrivals hosts left old new
AnswersFiles answer script arrivals hosts left old new =
    Fits script × Fits arrivals × RefusesFiles answer script arrivals × (new ≡ old)

-- the same of the files as the folder tells them, each where it tells that one
abbrev pub AnswersTold : Answer → (script arrivals : Option (List ℕ)) → (hosts left : List HostClosure)
    → (old new : Option (List ℕ)) → Type 0
AnswersTold answer script arrivals hosts left old new =
    OfFile script (λ s. OfFile arrivals (λ a. AnswersFiles answer s a hosts left old new))

-- with a refusal nothing is written, and no closure is fired or dropped
abbrev pub IsRefusal : Answer → Type 0
IsRefusal (Ended end) = ⊥
IsRefusal Written = ⊥
IsRefusal Usage = ⊤
IsRefusal (NoParse at) = ⊤
IsRefusal NotAsync = ⊤
IsRefusal (BadName fault) = ⊤
IsRefusal (BadArrivals line) = ⊤
IsRefusal (BadTrace line) = ⊤
IsRefusal (Differs line) = ⊤
IsRefusal (Illegal line) = ⊤
IsRefusal (TooLong file) = ⊤
IsRefusal (ReadFault file) = ⊤
IsRefusal WriteFault = ⊥
IsRefusal OutOfMemory = ⊥

-- no run with the closures was begun: the words do not ask for one, or it was refused
abbrev pub RunsNothing : Answer → Option Form → Type 0
RunsNothing answer None = ⊤
RunsNothing answer (Some (RunForm names)) = IsRefusal answer
RunsNothing answer (Some (CheckForm names)) = ⊤
RunsNothing answer (Some (MigrateForm names)) = ⊤
RunsNothing answer (Some (StormForm n)) = ⊤
RunsNothing answer (Some (PictureForm what trace)) = ⊤
RunsNothing answer (Some (ExpandForm script)) = ⊤

-- what an answer says of a program, a setup and the closures
abbrev pub AnswersRun : Answer → Program → Setup → (hosts left : List HostClosure) → (old new : Option (List ℕ)) → Type 0
AnswersRun (Ended end) program setup hosts left old new = WroteRun program setup hosts old end left new
AnswersRun WriteFault program setup hosts left old new = WroteRunStart program setup hosts old left new
AnswersRun OutOfMemory program setup hosts left old new = WroteRunStart program setup hosts old left new
AnswersRun answer program setup hosts left old new = ⊥
