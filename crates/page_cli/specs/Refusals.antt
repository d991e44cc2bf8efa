-- Why a file is not read and a script is not run.
use Rattle.std.specs.Prelude.{◌≡◌, ◌<◌, ⊤, ℕ, List, length, Result, Ok, Err, Vec}
use Rattle.std.specs.declared.alloc.Global.{Global}
use Rattle.lang_tokens.specs.declared.fault.TokensFault.{TokensFault}
use Rattle.lang_tokens.specs.declared.fault.TokensFault.TheVariants as token
use Rattle.lang_parse.specs.declared.fault.ParseFault.{ParseFault}
use Rattle.lang_parse.specs.declared.fault.ParseFault.TheVariants as parse
use Rattle.lang_names.specs.declared.fault.ResolveFault.{ResolveFault}
use Rattle.lang_names.specs.declared.fault.ResolveFault.TheVariants as resolve
use Rattle.page_cli.specs.declared.script_fault.ScriptFault.{ScriptFault}
use Rattle.page_cli.specs.declared.script_fault.ScriptFault.TheVariants.{NoParse, Name, OutOfMemory}
use Rattle.page_cli.specs.declared.reading.FileFault.{FileFault}
use Rattle.page_cli.specs.declared.reading.FileFault.TheVariants as file
use Rattle.page_cli.specs.declared.answer.Answer.{Answer}
use Rattle.page_cli.specs.declared.answer.Answer.TheVariants as answer
use Rattle.page_cli.specs.declared.answer.WhichFile.{WhichFile}
use Rattle.page_cli.specs.Scripts.{IsSyntaxError, HasBadName}

abbrev pub of_tokens : TokensFault → ScriptFault
of_tokens (token.Is bad) = NoParse bad.at
of_tokens token.OutOfMemory = OutOfMemory

abbrev pub of_parse : ParseFault → ScriptFault
of_parse (parse.Is fault) = NoParse fault.at
of_parse parse.OutOfMemory = OutOfMemory

abbrev pub of_resolve : ResolveFault → ScriptFault
of_resolve (resolve.Is fault) = Name fault
of_resolve resolve.OutOfMemory = OutOfMemory

-- the answer to a script that is not run
abbrev pub refusal : ScriptFault → Answer
refusal (NoParse at) = answer.NoParse at
refusal (Name fault) = answer.BadName fault
refusal OutOfMemory = answer.OutOfMemory

-- what a fault says of the script
abbrev pub Refuses : ScriptFault → List ℕ → Type 0
Refuses (NoParse at) script = IsSyntaxError script at
Refuses (Name fault) script = HasBadName script fault
Refuses OutOfMemory script = ⊤

-- what is read of a file with this content: all of it, or it is longer than the limit
abbrev pub GivesFile : (most : ℕ) → List ℕ → Result (Vec ℕ Global) FileFault → Type 0
GivesFile most content (Ok bytes) = bytes.items ≡ content
GivesFile most content (Err file.Failed) = ⊤
GivesFile most content (Err file.TooLong) = most < length content
GivesFile most content (Err file.OutOfMemory) = ⊤

-- what is read of a missing file: nothing, since its fetch failed, or memory is wanting
abbrev pub IsUnfetched : Result (Vec ℕ Global) FileFault → Type 0
IsUnfetched (Ok bytes) = ⊥
IsUnfetched (Err file.Failed) = ⊤
IsUnfetched (Err file.TooLong) = ⊥
IsUnfetched (Err file.OutOfMemory) = ⊤

-- the answer to a file that was not read
abbrev pub answer_to_file : FileFault → WhichFile → Answer
answer_to_file file.Failed which = answer.ReadFault which
answer_to_file file.TooLong which = answer.TooLong which
answer_to_file file.OutOfMemory which = answer.OutOfMemory
