-- From the verdict on a trace to what the top call answers.
use Rattle.std.proofs.Common.{◌≤◌, ℕ, List, length, Option, Result, Ok, Err, refl, sym, subst}
use Rattle.std.specs.Prelude.{IfOk, IfErr, Vec}
use Rattle.std.specs.declared.alloc.Global.{Global}
use Rattle.page_types.specs.Tree.{Program}
use Rattle.page_parts.specs.HostClosures.{HostClosure}
use Rattle.arrivals_text.specs.Arrivals.{Settings}
use Rattle.trace_check.specs.Scanned.{HasVerdictOn}
use Rattle.trace_check.proofs.OwnLaws.{legal-lawful}
use Rattle.trace_check.specs.declared.verdict.Verdict.{Verdict}
use Rattle.trace_check.specs.declared.verdict.Verdict.TheVariants as found
use Rattle.page_cli.specs.declared.answer.WhichFile.TheVariants.{Script, Arrivals, Trace}
use Rattle.page_cli.specs.declared.answer.Answer.{Answer}
use Rattle.page_cli.specs.declared.answer.Answer.TheVariants.{Written, NoParse, BadName, BadArrivals, BadTrace}
use Rattle.page_cli.specs.declared.answer.Answer.TheVariants.{TooLong, ReadFault, WriteFault, OutOfMemory}
use Rattle.page_cli.specs.declared.reading.FileFault.{FileFault}
use Rattle.page_cli.specs.declared.reading.FileFault.TheVariants as file
use Rattle.page_cli.proofs.ArrivedValues.{holds-no-numbers}
use Rattle.page_cli.specs.Refusals.{GivesFile, answer_to_file}
use Rattle.page_cli.specs.ToldFiles.{CanHold, OfFile}
use Rattle.page_cli.proofs.ToldLemmas.{some-file, read-holds}
use Rattle.page_cli.specs.Texts.{WritesText}
use Rattle.page_cli.specs.Answering.{IsRun, RefusesFiles}
use Rattle.page_cli.specs.Checked.{AllFit, TraceFits, RefusesText, IsNotRead, IsUnread, RefusesTrace, HasVerdict, TellsVerdict, AnswersCheck, AnswersThree, legal_text}

-- ---- the verdict

module _ (script arrivals trace : List ℕ) (hosts : List HostClosure) where
  module _ (old new : Option (List ℕ)) where
    legal-answers : (answer : Answer) → HasVerdict found.Yes script arrivals trace hosts → WritesText answer legal_text old new → AnswersCheck answer script arrivals trace hosts old new
    legal-answers Written has h = record {
      legal = has;
      wrote = h;
      laws = legal-lawful has.program has.settings.setup hosts has.seen (holds-no-numbers arrivals has.settings has.is_run.sets_up) has.is_verdict;
    }
    legal-answers WriteFault has h = record { legal = has; start = h }
    legal-answers answer has h = absurd h

    -- the verdict is told
    pub verdict-told : (verdict : Verdict) (answer : Answer) → HasVerdict verdict script arrivals trace hosts → TellsVerdict verdict answer old new → AnswersCheck answer script arrivals trace hosts old new
    verdict-told found.Yes answer has h = legal-answers answer has h
    verdict-told (found.Differs line) answer has h = let P : Answer → Type 0 = λ a. AnswersCheck a script arrivals trace hosts old new in subst P (sym h.0) (has, h.1)
    verdict-told (found.Illegal line) answer has h = let P : Answer → Type 0 = λ a. AnswersCheck a script arrivals trace hosts old new in subst P (sym h.0) (has, h.1)

  -- the trace is not judged
  pub refused-check : (answer : Answer) (told : Option (List ℕ)) → AllFit script arrivals trace → RefusesTrace answer script arrivals trace → AnswersCheck answer script arrivals trace hosts told told
  refused-check (NoParse at) told fit h = (fit, h, refl)
  refused-check (BadName fault) told fit h = (fit, h, refl)
  refused-check (BadArrivals line) told fit h = (fit, h, refl)
  refused-check (BadTrace line) told fit h = (fit, h, refl)
  refused-check OutOfMemory told fit h = refl
  refused-check answer told fit h = absurd h

-- ---- what is judged

-- what refuses the other files refuses them before the trace
pub files-refused : (script arrivals trace : List ℕ) (answer : Answer) → RefusesFiles answer script arrivals → RefusesTrace answer script arrivals trace
files-refused script arrivals trace (BadTrace line) h = absurd h
files-refused script arrivals trace answer h = h

module _ (script arrivals trace : List ℕ) (hosts : List HostClosure) (program : Program) (settings : Settings) (run : IsRun script arrivals program settings) where
  -- the verdict on a trace is that on the three files
  pub verdict-on : (r : Result Verdict Answer) → TraceFits trace → IfOk r (HasVerdictOn program settings.setup hosts trace) → IfOk r (λ verdict. HasVerdict verdict script arrivals trace hosts)
  verdict-on (Ok verdict) fits h = record { program = program; settings = settings; seen = h.seen; is_run = run; fits = fits; is_trace = h.is_trace; is_verdict = h.is_verdict }
  verdict-on (Err answer) fits h = tt

  pub text-refused : (answer : Answer) → RefusesText answer trace → RefusesTrace answer script arrivals trace
  text-refused (BadTrace line) h = ((program, run.has_program), (settings, run.sets_up), h)
  text-refused OutOfMemory h = tt
  text-refused answer h = absurd h

  -- what refuses the trace refuses it behind the other files
  pub refused-on : (r : Result Verdict Answer) → IfErr r (λ answer. RefusesText answer trace) → IfErr r (λ answer. RefusesTrace answer script arrivals trace)
  refused-on (Ok verdict) h = tt
  refused-on (Err answer) h = text-refused answer h

-- ---- the files as they are told

script-unread : (fault : FileFault) (script arrivals trace : List ℕ) → GivesFile 1048576 script (Err fault) → IsNotRead (answer_to_file fault Script) script arrivals trace
script-unread file.Failed script arrivals trace h = tt
script-unread file.TooLong script arrivals trace h = h
script-unread file.OutOfMemory script arrivals trace h = tt

-- the script was not read
pub unread-script : (fault : FileFault) (script arrivals trace : Option (List ℕ)) → OfFile script (λ content. GivesFile 1048576 content (Err fault)) → IsUnread (answer_to_file fault Script) script arrivals trace
unread-script fault script arrivals trace h =
    let a = some-file arrivals in
    let t = some-file trace in
    (h.0, h.1, (a.0, a.1, (t.0, t.1, script-unread fault h.0 a.0 t.0 h.2)))

arrivals-unread : (fault : FileFault) (script arrivals trace : List ℕ) → length script ≤ 1048576 → GivesFile 1048576 arrivals (Err fault) → IsNotRead (answer_to_file fault Arrivals) script arrivals trace
arrivals-unread file.Failed script arrivals trace size h = size
arrivals-unread file.TooLong script arrivals trace size h = (size, h)
arrivals-unread file.OutOfMemory script arrivals trace size h = tt

-- the arrivals were not read
pub unread-arrivals : (fault : FileFault) (read : Vec ℕ Global) (script arrivals trace : Option (List ℕ)) → length read.items ≤ 1048576 →
    OfFile script (λ content. GivesFile 1048576 content (Ok read)) → OfFile arrivals (λ content. GivesFile 1048576 content (Err fault)) → IsUnread (answer_to_file fault Arrivals) script arrivals trace
unread-arrivals fault read script arrivals trace size s a =
    let t = some-file trace in
    (read.items, read-holds 1048576 script read s, (a.0, a.1, (t.0, t.1, arrivals-unread fault read.items a.0 t.0 size a.2)))

trace-unread : (fault : FileFault) (script arrivals trace : List ℕ) → length script ≤ 1048576 → length arrivals ≤ 1048576 → GivesFile 67108864 trace (Err fault) → IsNotRead (answer_to_file fault Trace) script arrivals trace
trace-unread file.Failed script arrivals trace size also h = (size, also)
trace-unread file.TooLong script arrivals trace size also h = (size, also, h)
trace-unread file.OutOfMemory script arrivals trace size also h = tt

-- the trace was not read
pub unread-trace : (fault : FileFault) (read also : Vec ℕ Global) (script arrivals trace : Option (List ℕ)) → length read.items ≤ 1048576 → length also.items ≤ 1048576 →
    OfFile script (λ content. GivesFile 1048576 content (Ok read)) → OfFile arrivals (λ content. GivesFile 1048576 content (Ok also)) → OfFile trace (λ content. GivesFile 67108864 content (Err fault)) →
    IsUnread (answer_to_file fault Trace) script arrivals trace
unread-trace fault read also script arrivals trace size size2 s a t =
    (read.items, read-holds 1048576 script read s, (also.items, read-holds 1048576 arrivals also a, (t.0, t.1, trace-unread fault read.items also.items t.0 size size2 t.2)))

module _ (hosts : List HostClosure) where
  not_read-check : (answer : Answer) (script arrivals trace : List ℕ) (out : Option (List ℕ)) → IsNotRead answer script arrivals trace → AnswersCheck answer script arrivals trace hosts out out
  not_read-check (TooLong file) script arrivals trace out h = (h, refl)
  not_read-check (ReadFault file) script arrivals trace out h = (h, refl)
  not_read-check OutOfMemory script arrivals trace out h = refl
  not_read-check answer script arrivals trace out h = absurd h

  -- a file was not read
  pub unread-check : (answer : Answer) (script arrivals trace out : Option (List ℕ)) → IsUnread answer script arrivals trace → AnswersThree answer script arrivals trace hosts out out
  unread-check answer script arrivals trace out h =
      (h.0, h.1, (h.2.0, h.2.1, (h.2.2.0, h.2.2.1, not_read-check answer h.0 h.2.0 h.2.2.0 out h.2.2.2)))

  -- all were read
  pub three-answers : (answer : Answer) (script arrivals trace : Option (List ℕ)) (s a t : List ℕ) (old new : Option (List ℕ)) → CanHold script s → CanHold arrivals a → CanHold trace t →
      AnswersCheck answer s a t hosts old new → AnswersThree answer script arrivals trace hosts old new
  three-answers answer script arrivals trace s a t old new p q r h = (s, p, (a, q, (t, r, h)))
