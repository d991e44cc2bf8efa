-- What an answer says of a trace that is checked.
use Rattle.std.specs.Prelude.{◌≡◌, ◌<◌, ◌≤◌, ⊤, ℕ, length, List, Option, codes}
use Rattle.page_types.specs.Tree.{Program}
use Rattle.page_types.specs.Told.{appended, AppendsStartOf}
use Rattle.page_parts.specs.HostClosures.{HostClosure}
use Rattle.arrivals_text.specs.Arrivals.{Settings, SetsUp}
use Rattle.trace_text.specs.EventSeen.{TraceSeen}
use Rattle.trace_text.specs.Trace.{IsTrace, IsBadLine}
use Rattle.loop_turn.specs.Lawful.{AreLawful}
use Rattle.trace_check.specs.Verdicts.{events_of, IsVerdict}
use Rattle.trace_check.specs.declared.verdict.Verdict.{Verdict}
use Rattle.trace_check.specs.declared.verdict.Verdict.TheVariants as found
use Rattle.page_cli.specs.declared.answer.WhichFile.{WhichFile}
use Rattle.page_cli.specs.declared.answer.WhichFile.TheVariants.{Script, Arrivals, Trace}
use Rattle.page_cli.specs.declared.answer.Answer.{Answer}
use Rattle.page_cli.specs.declared.answer.Answer.TheVariants.{Written, BadTrace, Differs, Illegal, TooLong, ReadFault, WriteFault}
use Rattle.page_cli.specs.declared.answer.Answer.TheVariants.{OutOfMemory}
use Rattle.page_cli.specs.Scripts.{HasSomeProgram}
use Rattle.page_cli.specs.Texts.{WritesText}
use Rattle.page_cli.specs.ToldFiles.{OfFile}
use Rattle.page_cli.specs.Answering.{Fits, IsRun, IsTooLong, CanFail, RefusesFiles}

-- ---- Ours: the three files

-- a trace to check or to count, within its limit
abbrev pub TraceFits : List ℕ → Type 0
TraceFits bytes = length bytes ≤ 67108864

-- the arrivals set up a run
abbrev pub HasSomeSetup : List ℕ → Type 0
HasSomeSetup arrivals = (settings : Settings) × SetsUp arrivals settings

-- each of the files is within its limit
abbrev pub AllFit : (script arrivals trace : List ℕ) → Type 0
AllFit script arrivals trace = Fits script × Fits arrivals × TraceFits trace

-- the first of the files that is longer than its limit
abbrev pub IsTooLongAmong : WhichFile → (script arrivals trace : List ℕ) → Type 0
IsTooLongAmong Script script arrivals trace = IsTooLong Script script arrivals
IsTooLongAmong Arrivals script arrivals trace = IsTooLong Arrivals script arrivals
IsTooLongAmong Trace script arrivals trace = Fits script × Fits arrivals × (67108864 < length trace)

-- the file that could not be read; each is fetched only where those before it are within their limits
abbrev pub CanFailAmong : WhichFile → (script arrivals : List ℕ) → Type 0
CanFailAmong Script script arrivals = CanFail Script script
CanFailAmong Arrivals script arrivals = CanFail Arrivals script
CanFailAmong Trace script arrivals = Fits script × Fits arrivals

-- what an answer says of the files where one of them was not read
abbrev pub IsNotRead : Answer → (script arrivals trace : List ℕ) → Type 0
IsNotRead (TooLong file) script arrivals trace = IsTooLongAmong file script arrivals trace
IsNotRead (ReadFault file) script arrivals trace = CanFailAmong file script arrivals
IsNotRead OutOfMemory script arrivals trace = ⊤
IsNotRead answer script arrivals trace = ⊥

-- the same of the files as the folder tells them, each where it tells that one
abbrev pub IsUnread : Answer → (script arrivals trace : Option (List ℕ)) → Type 0
IsUnread answer script arrivals trace =
    OfFile script (λ s. OfFile arrivals (λ a. OfFile trace (λ t. IsNotRead answer s a t)))

-- what a refusal says of the bytes of a trace
abbrev pub RefusesText : Answer → (trace : List ℕ) → Type 0
RefusesText (BadTrace line) trace = IsBadLine trace line
RefusesText OutOfMemory trace = ⊤
RefusesText answer trace = ⊥

-- what a refusal says of what is read in the files: the trace is read behind the others
abbrev pub RefusesTrace : Answer → (script arrivals trace : List ℕ) → Type 0
RefusesTrace (BadTrace line) script arrivals trace = HasSomeProgram script × HasSomeSetup arrivals × IsBadLine trace line
RefusesTrace answer script arrivals trace = RefusesFiles answer script arrivals

-- ---- Ours: the verdict

-- The script has a program, the arrivals set up a run of it, and the trace has events; this is the verdict on these events under the
-- closures.
pub record HasVerdict (verdict : Verdict) (script arrivals trace : List ℕ) (hosts : List HostClosure) : Type 0 where
  pub program : Program
  pub settings : Settings
  pub seen : TraceSeen
  pub is_run : IsRun script arrivals program settings
  pub fits : TraceFits trace
  pub is_trace : IsTrace seen.form trace (events_of seen)
  pub is_verdict : IsVerdict program settings.setup hosts seen verdict

-- what is written where the trace is legal
abbrev pub legal_text : List ℕ
legal_text = codes "legal\n"

-- what an answer tells of a verdict
abbrev pub TellsVerdict : Verdict → Answer → (old new : Option (List ℕ)) → Type 0
TellsVerdict found.Yes answer old new = WritesText answer legal_text old new
TellsVerdict (found.Differs line) answer old new = (answer ≡ Differs line) × (new ≡ old)
TellsVerdict (found.Illegal line) answer old new = (answer ≡ Illegal line) × (new ≡ old)

-- The trace is legal, and that was written, the whole of it and no more. Its events keep the ten laws of every run.
pub record WroteLegal (script arrivals trace : List ℕ) (hosts : List HostClosure) (old new : Option (List ℕ)) : Type 0 where
  pub legal : HasVerdict found.Yes script arrivals trace hosts
  pub wrote : new ≡ appended old legal_text
  pub laws : AreLawful legal.settings.setup (events_of legal.seen)

-- the trace is legal, and a start of that was written
pub record WroteLegalStart (script arrivals trace : List ℕ) (hosts : List HostClosure) (old new : Option (List ℕ)) : Type 0 where
  pub legal : HasVerdict found.Yes script arrivals trace hosts
  pub start : AppendsStartOf old new legal_text

-- what an answer says of the three files, under the closures
abbrev pub AnswersCheck : Answer → (script arrivals trace : List ℕ) → List HostClosure → (old new : Option (List ℕ)) → Type 0
AnswersCheck Written script arrivals trace hosts old new = WroteLegal script arrivals trace hosts old new
AnswersCheck (Differs line) script arrivals trace hosts old new =
    HasVerdict (found.Differs line) script arrivals trace hosts × (new ≡ old)
AnswersCheck (Illegal line) script arrivals trace hosts old new =
    HasVerdict (found.Illegal line) script arrivals trace hosts × (new ≡ old)
AnswersCheck (TooLong file) script arrivals trace hosts old new = IsTooLongAmong file script arrivals trace × (new ≡ old)
AnswersCheck (ReadFault file) script arrivals trace hosts old new = CanFailAmong file script arrivals × (new ≡ old)
AnswersCheck WriteFault script arrivals trace hosts old new = WroteLegalStart script arrivals trace hosts old new
AnswersCheck OutOfMemory script arrivals trace hosts old new = new ≡ old
AnswersCheck answer script arrivals trace hosts old new =
    AllFit script arrivals trace × RefusesTrace answer script arrivals trace × (new ≡ old)

-- the same of the files as the folder tells them, each where it tells that one
abbrev pub AnswersThree : Answer → (script arrivals trace : Option (List ℕ)) → List HostClosure
    → (old new : Option (List ℕ)) → Type 0
AnswersThree answer script arrivals trace hosts old new =
    OfFile script (λ s. OfFile arrivals (λ a. OfFile trace (λ t. AnswersCheck answer s a t hosts old new)))
