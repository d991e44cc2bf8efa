-- What is said of a page: of its program under its setup.
use Rattle.std.specs.Prelude.{ℕ, List, Option, Result}
use Rattle.page_types.specs.Events.{Stamped}
use Rattle.page_types.specs.Tree.{Program}
use Rattle.page_types.specs.declared.End.{End}
use Rattle.page_parts.specs.HostClosures.{HostClosure}
use Rattle.page_parts.specs.Setup.{Setup}
use Rattle.page_parts.specs.TraceText.{text_of}
use Rattle.page_model.specs.PageTrace.{IsLegal, migrated}
use Rattle.lang_ast.specs.SeenProgram.{seen_program}
use Rattle.arrivals_text.specs.Seen.{settings_of}
use Rattle.trace_text.specs.declared.summary.Summary.{Summary}
use Rattle.trace_text.specs.Sinks.{seen_through, sink_keeping}
use Rattle.trace_text.specs.Summaries.{summarised}
use Rattle.loop_turn.specs.declared.run_stop.RunStop.{RunStop}
use Rattle.trace_check.specs.declared.collecting.TraceChoices.{TraceChoices}
use Rattle.trace_check.specs.declared.verdict.Verdict.{Verdict}
use Rattle.trace_check.specs.Collected.{AreChoicesOf}
use Rattle.trace_check.specs.Replays.{Replays}
use Rattle.trace_check.specs.Scanned.{HasVerdictOn}
use Rattle.trace_check.specs.Verdicts.{own_run}
use Rattle.page_cli.specs.declared.answer.Answer.{Answer}
use Rattle.page_cli.specs.declared.reading.Page.{Page}
use Rattle.page_cli.specs.Migrated.{AnswersRetold, RetellsText}
use Rattle.page_cli.specs.Stormed.{HasCounts, IsStormOf}

-- the program of a page
abbrev pub program_in : Page → Program
program_in page = seen_program page.program

-- the setup of a page
abbrev pub setup_in : Page → Setup
setup_in page = (settings_of page.setup).setup

-- ---- Ours: a trace of the page

-- this is the verdict on the trace that some bytes spell
abbrev pub HasVerdictOf : Page → List HostClosure → (trace : List ℕ) → Verdict → Type 0
HasVerdictOf page hosts trace = HasVerdictOn (program_in page) (setup_in page) hosts trace

-- the bytes are a legal trace, and this is what an answer says of its second form
abbrev pub RetellsPage : Page → List HostClosure → (trace : List ℕ) → Answer → (old new : Option (List ℕ)) → Type 0
RetellsPage page hosts trace answer old new = RetellsText (program_in page) (setup_in page) hosts trace answer old new

-- what an answer says of the second form of each legal trace in which these choices stand
abbrev pub RetellsBy : Page → List HostClosure → TraceChoices → Answer → (old new : Option (List ℕ)) → Type 0
RetellsBy page hosts choices answer old new =
    (es : List Stamped) → AreChoicesOf es choices
    → IsLegal (program_in page) (setup_in page) hosts es
    → AnswersRetold answer (text_of 2 (migrated (program_in page) (setup_in page) hosts es)) old new

-- a sink got the lines of the run under these choices, by its bytes and its count of faults before the run and after it
abbrev pub RunsAgain : {S : Type 0} → Page → List HostClosure → TraceChoices → (bytes : S → Option (List ℕ)) → (faults : S → ℕ)
    → (old : S) → Result End RunStop → (new : S) → Type 0
RunsAgain page hosts choices bytes faults old outcome new =
    (es : List Stamped) → AreChoicesOf es choices →
    (let run = own_run (program_in page) (setup_in page) hosts es
    in Replays sink_keeping (seen_through bytes faults old) page.setup.trace run outcome (seen_through bytes faults new))

-- ---- Ours: a summary

-- it tells how the run of the page ended, and the counts of its events
abbrev pub IsSummaryOf : Page → List HostClosure → Summary → Type 0
IsSummaryOf page hosts = λ summary. HasCounts (program_in page) (setup_in page) hosts summary.end (summarised summary)

-- it tells how the run of the storm with this number ended, and the counts of its events
abbrev pub IsStormSummary : (n : ℕ) → List HostClosure → Summary → Type 0
IsStormSummary n hosts = λ summary. IsStormOf n hosts summary.end (summarised summary)
