-- What is answered of the three files of some names, and of the bytes that were read of them.
use Rattle.std.specs.Prelude.{ℕ, List, Option}
use Rattle.page_parts.specs.HostClosures.{HostClosure}
use Rattle.trace_check.specs.declared.verdict.Verdict.{Verdict}
use Rattle.page_cli.specs.declared.answer.Answer.{Answer}
use Rattle.page_cli.specs.declared.names.CheckNames.{CheckNames}
use Rattle.page_cli.specs.declared.running.Answered.{Answered}
use Rattle.page_cli.specs.declared.three_files.ThreeFiles.{ThreeFiles}
use Rattle.page_cli.specs.declared.three_files.Unread.{Unread}
use Rattle.page_cli.specs.Refusals.{answer_to_file}
use Rattle.page_cli.specs.Checked.{AnswersCheck, AnswersThree, HasVerdict, IsUnread, RefusesTrace}
use Rattle.page_cli.specs.Migrated.{AnswersMigrate, AnswersMigration}

-- ---- Ours: the files as the folder tells them by their names

-- one of the files was not read
abbrev pub IsUnreadNamed : (file : List ℕ → Option (List ℕ)) → CheckNames → Unread → Type 0
IsUnreadNamed file names = λ e.
    IsUnread (answer_to_file e.fault e.file) (file names.script.now) (file names.arrivals.now) (file names.trace.now)

-- what is answered where the trace is checked
abbrev pub ChecksNamed : {S : Type 0} → Answered S → (file : List ℕ → Option (List ℕ)) → CheckNames → List HostClosure
    → (bytes : S → Option (List ℕ)) → (out : S) → Type 0
ChecksNamed result file names hosts bytes out =
    AnswersThree result.answer (file names.script.now) (file names.arrivals.now) (file names.trace.now) hosts (bytes out)
    (bytes result.out)

-- what is answered where the trace is migrated
abbrev pub MigratesNamed : {S : Type 0} → Answered S → (file : List ℕ → Option (List ℕ)) → CheckNames → List HostClosure
    → (bytes : S → Option (List ℕ)) → (out : S) → Type 0
MigratesNamed result file names hosts bytes out =
    AnswersMigration result.answer (file names.script.now) (file names.arrivals.now) (file names.trace.now) hosts (bytes out)
    (bytes result.out)

-- ---- Ours: the bytes that were read

-- what an answer says where the trace is checked
abbrev pub ChecksRead : Answer → ThreeFiles → List HostClosure → (old new : Option (List ℕ)) → Type 0
ChecksRead answer files hosts old new =
    AnswersCheck answer files.script.items files.arrivals.items files.trace.items hosts old new

-- what an answer says where the trace is migrated
abbrev pub MigratesRead : Answer → ThreeFiles → List HostClosure → (old new : Option (List ℕ)) → Type 0
MigratesRead answer files hosts old new =
    AnswersMigrate answer files.script.items files.arrivals.items files.trace.items hosts old new

-- this is the verdict on the trace
abbrev pub HasReadVerdict : ThreeFiles → List HostClosure → Verdict → Type 0
HasReadVerdict files hosts = λ verdict.
    HasVerdict verdict files.script.items files.arrivals.items files.trace.items hosts

-- what a refusal says of them
abbrev pub RefusesRead : ThreeFiles → Answer → Type 0
RefusesRead files = λ answer. RefusesTrace answer files.script.items files.arrivals.items files.trace.items
