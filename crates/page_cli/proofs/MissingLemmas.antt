-- Where a missing file stops a command.
use Rattle.std.proofs.Common.{ℕ, List, Option, Some, None, Err, refl, sym, subst, inl, inr}
use Rattle.page_cli.specs.declared.answer.WhichFile.{WhichFile}
use Rattle.page_cli.specs.declared.answer.WhichFile.TheVariants.{Script, Arrivals, Trace}
use Rattle.page_cli.specs.declared.answer.Answer.{Answer}
use Rattle.page_cli.specs.declared.answer.Answer.TheVariants.{Ended, Written}
use Rattle.page_cli.specs.declared.names.Picture.{Picture}
use Rattle.page_cli.specs.declared.reading.FileFault.{FileFault}
use Rattle.page_cli.specs.declared.reading.FileFault.TheVariants as fault
use Rattle.page_cli.specs.Forms.{Form, RunNames, CheckNames, RunForm, CheckForm, MigrateForm, PictureForm, ExpandForm, name_of}
use Rattle.page_cli.specs.Refusals.{IsUnfetched, answer_to_file}
use Rattle.page_cli.specs.Missing.{ComesBefore, StopsBy, StopsAtMissing, AnswersMissing, HasAll}
use Rattle.page_cli.specs.HandedOn.{answer_unless_whole, HandsOn}

-- the answer to a missing file
stops-at : (e : FileFault) (file : WhichFile) → IsUnfetched (Err e) → StopsBy file (answer_to_file e file)
stops-at fault.Failed file h = inl refl
stops-at fault.TooLong file h = absurd h
stops-at fault.OutOfMemory file h = tt

-- the answer to a file before it
stops-before : (e : FileFault) (first file : WhichFile) → ComesBefore first file → StopsBy file (answer_to_file e first)
stops-before fault.Failed first file h = inr h
stops-before fault.TooLong first file h = h
stops-before fault.OutOfMemory first file h = tt

module _ (IsMissing : List ℕ → Type 0) where
  -- the script was not read
  pub script-missing : (e : FileFault) (form : Form) → (IsMissing (name_of Script form) → IsUnfetched (Err e)) → StopsAtMissing (answer_to_file e Script) form IsMissing
  script-missing e form h Script has gone = stops-at e Script (h gone)
  script-missing e form h Arrivals has gone = stops-before e Script Arrivals tt
  script-missing e form h Trace has gone = stops-before e Script Trace tt

  -- the script was read, and the arrivals were not
  pub arrivals-missing : (e : FileFault) (form : Form) → (IsMissing (name_of Script form) → ⊥) → (IsMissing (name_of Arrivals form) → IsUnfetched (Err e)) → StopsAtMissing (answer_to_file e Arrivals) form IsMissing
  arrivals-missing e form script h Script has gone = absurd (script gone)
  arrivals-missing e form script h Arrivals has gone = stops-at e Arrivals (h gone)
  arrivals-missing e form script h Trace has gone = stops-before e Arrivals Trace tt

  -- these were read, and the trace was not
  pub trace-missing : (e : FileFault) (form : Form) → (IsMissing (name_of Script form) → ⊥) → (IsMissing (name_of Arrivals form) → ⊥) → (IsMissing (name_of Trace form) → IsUnfetched (Err e))
      → StopsAtMissing (answer_to_file e Trace) form IsMissing
  trace-missing e form script arrivals h Script has gone = absurd (script gone)
  trace-missing e form script arrivals h Arrivals has gone = absurd (arrivals gone)
  trace-missing e form script arrivals h Trace has gone = stops-at e Trace (h gone)

  -- the trace that is told of was not read
  pub picture-missing : (e : FileFault) (what : Picture) (trace : List ℕ) → (IsMissing trace → IsUnfetched (Err e)) → StopsAtMissing (answer_to_file e Trace) (PictureForm what trace) IsMissing
  picture-missing e what trace h Script has gone = absurd has
  picture-missing e what trace h Arrivals has gone = absurd has
  picture-missing e what trace h Trace has gone = stops-at e Trace (h gone)

  -- all was read
  pub all-of-two : (names : RunNames) → (IsMissing names.script → ⊥) → (IsMissing names.arrivals → ⊥) → HasAll (RunForm names) IsMissing
  all-of-two names script arrivals Script has gone = script gone
  all-of-two names script arrivals Arrivals has gone = arrivals gone
  all-of-two names script arrivals Trace has gone = has

  pub all-of-three : (names : CheckNames) → (IsMissing names.script → ⊥) → (IsMissing names.arrivals → ⊥) → (IsMissing names.trace → ⊥) → HasAll (CheckForm names) IsMissing
  all-of-three names script arrivals trace Script has gone = script gone
  all-of-three names script arrivals trace Arrivals has gone = arrivals gone
  all-of-three names script arrivals trace Trace has gone = trace gone

  pub picture-there : (what : Picture) (trace : List ℕ) → (IsMissing trace → ⊥) → HasAll (PictureForm what trace) IsMissing
  picture-there what trace h Script has gone = has
  picture-there what trace h Arrivals has gone = has
  picture-there what trace h Trace has gone = h gone

  pub script-there : (script : List ℕ) → (IsMissing script → ⊥) → HasAll (ExpandForm script) IsMissing
  script-there script h Script has gone = h gone
  script-there script h Arrivals has gone = has
  script-there script h Trace has gone = has

  pub all-there : (answer : Answer) (form : Form) → HasAll form IsMissing → StopsAtMissing answer form IsMissing
  all-there answer form all file has gone = absurd (all file has gone)

  -- the same files stand in both forms
  pub missing-migrated : (answer : Answer) (names : CheckNames) → StopsAtMissing answer (CheckForm names) IsMissing → StopsAtMissing answer (MigrateForm names) IsMissing
  missing-migrated answer names h Script has gone = h Script tt gone
  missing-migrated answer names h Arrivals has gone = h Arrivals tt gone
  missing-migrated answer names h Trace has gone = h Trace tt gone

  pub all-migrated : (names : CheckNames) → HasAll (CheckForm names) IsMissing → HasAll (MigrateForm names) IsMissing
  all-migrated names h Script has gone = h Script tt gone
  all-migrated names h Arrivals has gone = h Arrivals tt gone
  all-migrated names h Trace has gone = h Trace tt gone

-- what is no end and no text stays where not all was handed on
stays-stopped : (file : WhichFile) (answer : Answer) → StopsBy file answer → StopsBy file (answer_unless_whole answer)
stays-stopped file (Ended end) h = absurd h
stays-stopped file Written h = absurd h
stays-stopped file answer h = h

handed-stop : (had answer : Answer) (before now : ℕ) (file : WhichFile) → HandsOn had answer before now → StopsBy file had → StopsBy file answer
handed-stop had answer before now file (inl e) h = let P : Answer → Type 0 = λ a. StopsBy file a in subst P (sym e) h
handed-stop had answer before now file (inr r) h = let P : Answer → Type 0 = λ a. StopsBy file a in subst P (sym r.1) (stays-stopped file had h)

pub handed-missing : (IsMissing : List ℕ → Type 0) (had answer : Answer) (before now : ℕ) (words : Option Form) → HandsOn had answer before now
    → AnswersMissing had words IsMissing → AnswersMissing answer words IsMissing
handed-missing IsMissing had answer before now None on h = tt
handed-missing IsMissing had answer before now (Some form) on h = λ file has gone. handed-stop had answer before now file on (h file has gone)
