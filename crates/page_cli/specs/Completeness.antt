-- What the program answers where the files are what the words ask for and nothing fails.
use Rattle.std.specs.Prelude.{◌≤◌, ⊤, ℕ, length, List, Option, IfSome}
use Rattle.page_types.specs.Events.{Stamped}
use Rattle.page_types.specs.Counts.{Rose}
use Rattle.lang_tokens.specs.Seen.{TokenSeen}
use Rattle.trace_text.specs.Trace.{IsTrace}
use Rattle.async_segments.specs.Marked.{MarkedItem}
use Rattle.async_segments.specs.Script.{IsAsyncScript}
use Rattle.page_cli.specs.declared.answer.WhichFile.{WhichFile}
use Rattle.page_cli.specs.declared.answer.Answer.{Answer}
use Rattle.page_cli.specs.declared.answer.Answer.TheVariants.{Ended, Written, Differs, Illegal, OutOfMemory}
use Rattle.page_cli.specs.Forms.{Form, RunForm, CheckForm, MigrateForm, StormForm, PictureForm, ExpandForm, name_of}
use Rattle.page_cli.specs.Scripts.{HasSomeProgram}
use Rattle.page_cli.specs.Answering.{Fits}
use Rattle.page_cli.specs.Checked.{TraceFits, HasSomeSetup}
use Rattle.page_cli.specs.Pictures.{most_of}

-- ---- Ours: what a command can ask for

-- no count of faults rose in the call: not of the files that a form names, and not of the sink
pub record NothingRose (form : Form) (before now : List ℕ → ℕ) (put_before put_now : ℕ) : Type 0 where
  pub files : (file : WhichFile) → Rose (before (name_of file form)) (now (name_of file form)) → ⊥
  pub out : Rose put_before put_now → ⊥

-- the script has a program, and the arrivals, within their limit, set up a run
pub record CanRun (script arrivals : List ℕ) : Type 0 where
  pub program : HasSomeProgram script
  pub fits : Fits arrivals
  pub setup : HasSomeSetup arrivals

-- the bytes are a trace
pub record IsSomeTrace (bytes : List ℕ) : Type 0 where
  pub form : ℕ
  pub events : List Stamped
  pub is_trace : IsTrace form bytes events

-- the script, within its limit, is an async script
pub record CanExpand (script : List ℕ) : Type 0 where
  pub fits : Fits script
  pub tokens : List TokenSeen
  pub items : List MarkedItem
  pub is_async : IsAsyncScript script tokens items

-- ---- Ours: what is left to be answered

-- a run has ended, or memory is wanting
abbrev pub EndsOrWants : Answer → Type 0
EndsOrWants (Ended end) = ⊤
EndsOrWants OutOfMemory = ⊤
EndsOrWants answer = ⊥

-- a trace was found to be legal, or not to be, or memory is wanting
abbrev pub JudgesOrWants : Answer → Type 0
JudgesOrWants Written = ⊤
JudgesOrWants (Differs line) = ⊤
JudgesOrWants (Illegal line) = ⊤
JudgesOrWants OutOfMemory = ⊤
JudgesOrWants answer = ⊥

-- what was asked of a trace or a script was written, or memory is wanting
abbrev pub WritesOrWants : Answer → Type 0
WritesOrWants Written = ⊤
WritesOrWants OutOfMemory = ⊤
WritesOrWants answer = ⊥

-- Nothing else is answered, by the form of the words: of a script with a program and arrivals with a setup; of a trace besides; of a storm;
-- of a trace alone; of an async script.
abbrev pub Completes : Answer → Form → (file : List ℕ → Option (List ℕ)) → Type 0
Completes answer (RunForm names) file =
    IfSome (file names.script) (λ script. IfSome (file names.arrivals) (λ arrivals. CanRun script arrivals → EndsOrWants answer))
Completes answer (CheckForm names) file =
    IfSome (file names.script) (λ script. IfSome (file names.arrivals) (λ arrivals. IfSome (file names.trace) (λ trace.
    CanRun script arrivals → TraceFits trace → IsSomeTrace trace → JudgesOrWants answer)))
Completes answer (MigrateForm names) file =
    IfSome (file names.script) (λ script. IfSome (file names.arrivals) (λ arrivals. IfSome (file names.trace) (λ trace.
    CanRun script arrivals → TraceFits trace → IsSomeTrace trace → JudgesOrWants answer)))
Completes answer (StormForm n) file = EndsOrWants answer
Completes answer (PictureForm what trace) file =
    IfSome (file trace) (λ bytes. length bytes ≤ most_of what → IsSomeTrace bytes → WritesOrWants answer)
Completes answer (ExpandForm script) file = IfSome (file script) (λ bytes. CanExpand bytes → WritesOrWants answer)
