-- Where a file could not be read, the count of faults of its name rose.
use Rattle.std.specs.Prelude.{◌≡◌, ℕ, List, Option, IfSome}
use Rattle.page_types.specs.Counts.{Rose}
use Rattle.page_cli.specs.declared.answer.WhichFile.{WhichFile}
use Rattle.page_cli.specs.declared.answer.Answer.{Answer}
use Rattle.page_cli.specs.declared.answer.Answer.TheVariants.{ReadFault}
use Rattle.page_cli.specs.declared.reading.FileFault.TheVariants.{Failed}
use Rattle.page_cli.specs.declared.three_files.Unread.{Unread}
use Rattle.page_cli.specs.Forms.{Form, name_of}

-- the count of faults of the name that a form gives to this file rose from one state of the folder to the next
abbrev pub RoseAt : {S : Type 0} → (faults : S → List ℕ → ℕ) → (old new : S) → WhichFile → Form → Type 0
RoseAt faults old new file form = Rose (faults old (name_of file form)) (faults new (name_of file form))

-- where the answer is that a file of the form could not be read, its count rose
abbrev pub FaultRose : {S : Type 0} → Answer → Form → (faults : S → List ℕ → ℕ) → (old new : S) → Type 0
FaultRose answer form faults old new = (file : WhichFile) → answer ≡ ReadFault file → RoseAt faults old new file form

-- the same of words, where they have a form
abbrev pub FaultRoseOf : {S : Type 0} → Answer → Option Form → (faults : S → List ℕ → ℕ) → (old new : S) → Type 0
FaultRoseOf answer words faults old new =
    (file : WhichFile) → answer ≡ ReadFault file → IfSome words (λ form. RoseAt faults old new file form)

-- where the answer is that a file could not be read, it is the only one that is fetched, and its count rose
abbrev pub OnlyFaultRose : {S : Type 0} → Answer → (only : WhichFile) → (name : List ℕ) → (faults : S → List ℕ → ℕ) → (old new : S)
    → Type 0
OnlyFaultRose answer only name faults old new =
    (file : WhichFile) → answer ≡ ReadFault file → (file ≡ only) × Rose (faults old name) (faults new name)

-- where a file of the form was not read since its fetch failed, its count rose
abbrev pub FailureRose : {S : Type 0} → (faults : S → List ℕ → ℕ) → (old new : S) → Form → Unread → Type 0
FailureRose faults old new form = λ e. e.fault ≡ Failed → RoseAt faults old new e.file form
