-- What is answered where the folder tells that it has no file of a name.
use Rattle.std.specs.Prelude.{◌≡◌, ◌⊎◌, ⊤, ℕ, List, Option, Result, Ok, Err, IfSome}
use Rattle.page_cli.specs.declared.answer.WhichFile.{WhichFile}
use Rattle.page_cli.specs.declared.answer.WhichFile.TheVariants.{Script, Arrivals, Trace}
use Rattle.page_cli.specs.declared.answer.Answer.{Answer}
use Rattle.page_cli.specs.declared.answer.Answer.TheVariants.{TooLong, ReadFault, OutOfMemory}
use Rattle.page_cli.specs.declared.three_files.ThreeFiles.{ThreeFiles}
use Rattle.page_cli.specs.declared.three_files.Unread.{Unread}
use Rattle.page_cli.specs.Refusals.{answer_to_file}
use Rattle.page_cli.specs.Forms.{Form, RunForm, CheckForm, MigrateForm, PictureForm, ExpandForm, name_of}

-- ---- Ours: the files of a form, in the order in which they are fetched

-- the form names this file
abbrev pub HasFile : Form → WhichFile → Type 0
HasFile (RunForm names) Script = ⊤
HasFile (RunForm names) Arrivals = ⊤
HasFile (CheckForm names) file = ⊤
HasFile (MigrateForm names) file = ⊤
HasFile (PictureForm what trace) Trace = ⊤
HasFile (ExpandForm script) Script = ⊤
HasFile form file = ⊥

abbrev pub ComesBefore : (first file : WhichFile) → Type 0
ComesBefore Script Arrivals = ⊤
ComesBefore Script Trace = ⊤
ComesBefore Arrivals Trace = ⊤
ComesBefore first file = ⊥

-- ---- Ours: where a missing file stops a command

-- The command stopped at this file, which could not be read; or at one before it, which could not be read or is too long; or for want of
-- memory. That is no end of a run, no text that was written, and no verdict on one.
abbrev pub StopsBy : WhichFile → Answer → Type 0
StopsBy file (ReadFault other) = (other ≡ file) ⊎ ComesBefore other file
StopsBy file (TooLong other) = ComesBefore other file
StopsBy file OutOfMemory = ⊤
StopsBy file answer = ⊥

-- what an answer says of each file that the form names and the folder tells to be missing
abbrev pub StopsAtMissing : Answer → Form → (IsMissing : List ℕ → Type 0) → Type 0
StopsAtMissing answer form IsMissing =
    (file : WhichFile) → HasFile form file → IsMissing (name_of file form) → StopsBy file answer

-- the same of words, where they have a form
abbrev pub AnswersMissing : Answer → Option Form → (IsMissing : List ℕ → Type 0) → Type 0
AnswersMissing answer words IsMissing = IfSome words (λ form. StopsAtMissing answer form IsMissing)

-- no file that the form names is told to be missing
abbrev pub HasAll : Form → (IsMissing : List ℕ → Type 0) → Type 0
HasAll form IsMissing = (file : WhichFile) → HasFile form file → IsMissing (name_of file form) → ⊥

-- the files were fetched, and none is missing; or the answer to the one that was not read says so
abbrev pub FetchesMissing : Result ThreeFiles Unread → Form → (IsMissing : List ℕ → Type 0) → Type 0
FetchesMissing (Ok files) form IsMissing = HasAll form IsMissing
FetchesMissing (Err e) form IsMissing = StopsAtMissing (answer_to_file e.fault e.file) form IsMissing
