-- What an answer says, by the form of the words.
use Rattle.std.specs.Prelude.{◌≡◌, ℕ, List, Option}
use Rattle.page_types.specs.declared.End.{End}
use Rattle.page_types.specs.declared.End.TheVariants.{Done}
use Rattle.page_parts.specs.HostClosures.{HostClosure}
use Rattle.page_cli.specs.declared.answer.Answer.{Answer}
use Rattle.page_cli.specs.Forms.{Form, RunForm, CheckForm, MigrateForm, StormForm, PictureForm, ExpandForm}
use Rattle.page_cli.specs.Answering.{AnswersTold, WroteTrace}
use Rattle.page_cli.specs.Checked.{AnswersThree, WroteLegal}
use Rattle.page_cli.specs.Pictures.{AnswersTrace, WrotePicture}
use Rattle.page_cli.specs.Migrated.{AnswersMigration, WroteMigrated}
use Rattle.page_cli.specs.Stormed.{AnswersStorm, WroteStorm}
use Rattle.page_cli.specs.Expanding.{AnswersExpand, WroteExpansion}
use Rattle.page_cli.specs.ToldFiles.{OfFile}

-- what an answer says of the files that the words name, each where the folder tells that one, and of the closures
abbrev pub AnswersForm : Answer → Form → (file : List ℕ → Option (List ℕ)) → (hosts left : List HostClosure)
    → (old new : Option (List ℕ)) → Type 0
AnswersForm answer (RunForm names) file hosts left old new =
    AnswersTold answer (file names.script) (file names.arrivals) hosts left old new
AnswersForm answer (CheckForm names) file hosts left old new =
    AnswersThree answer (file names.script) (file names.arrivals) (file names.trace) hosts old new
AnswersForm answer (MigrateForm names) file hosts left old new =
    AnswersMigration answer (file names.script) (file names.arrivals) (file names.trace) hosts old new
AnswersForm answer (StormForm n) file hosts left old new = AnswersStorm answer n hosts old new
AnswersForm answer (PictureForm what trace) file hosts left old new =
    OfFile (file trace) (λ bytes. AnswersTrace answer what bytes old new)
AnswersForm answer (ExpandForm script) file hosts left old new =
    OfFile (file script) (λ bytes. AnswersExpand answer bytes old new)

-- What was written is the whole: the trace of a run that ended so, or the counts of such a run of a storm; or, with status 0, that a trace
-- is legal, its second form, what is told of it, or a plain script.
abbrev pub WroteAll : End → Form → (file : List ℕ → Option (List ℕ)) → (hosts left : List HostClosure)
    → (old new : Option (List ℕ)) → Type 0
WroteAll end (RunForm names) file hosts left old new =
    OfFile (file names.script) (λ script. OfFile (file names.arrivals) (λ arrivals.
    WroteTrace end script arrivals hosts left old new))
WroteAll end (CheckForm names) file hosts left old new =
    OfFile (file names.script) (λ script. OfFile (file names.arrivals) (λ arrivals. OfFile (file names.trace) (λ trace.
    (end ≡ Done) × WroteLegal script arrivals trace hosts old new)))
WroteAll end (MigrateForm names) file hosts left old new =
    OfFile (file names.script) (λ script. OfFile (file names.arrivals) (λ arrivals. OfFile (file names.trace) (λ trace.
    (end ≡ Done) × WroteMigrated script arrivals trace hosts old new)))
WroteAll end (StormForm n) file hosts left old new = WroteStorm n end hosts old new
WroteAll end (PictureForm what trace) file hosts left old new =
    OfFile (file trace) (λ bytes. (end ≡ Done) × WrotePicture what bytes old new)
WroteAll end (ExpandForm script) file hosts left old new =
    OfFile (file script) (λ bytes. (end ≡ Done) × WroteExpansion bytes old new)
