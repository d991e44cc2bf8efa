-- What an answer says of a trace that is migrated.
use Rattle.std.specs.Prelude.{◌≡◌, ◌⊎◌, ℕ, List, Option, Result, Ok, Err}
use Rattle.page_types.specs.Tree.{Program}
use Rattle.page_types.specs.Events.{Stamped}
use Rattle.page_types.specs.Told.{appended, AppendsStartOf}
use Rattle.page_types.specs.declared.End.{End}
use Rattle.page_parts.specs.HostClosures.{HostClosure}
use Rattle.page_parts.specs.Setup.{Setup}
use Rattle.page_parts.specs.TraceText.{text_of, all_without_by}
use Rattle.page_model.specs.PageTrace.{IsLegal, IsLegalTrace, Migrates, migrated, told_more}
use Rattle.arrivals_text.specs.Arrivals.{Settings}
use Rattle.trace_text.specs.Trace.{IsTrace}
use Rattle.trace_text.specs.EventSeen.{TraceSeen}
use Rattle.trace_check.specs.declared.collecting.TraceChoices.{TraceChoices}
use Rattle.trace_check.specs.Collected.{AreChoicesOf}
use Rattle.trace_check.specs.Verdicts.{events_of, IsLegalHere}
use Rattle.loop_turn.specs.declared.run_stop.RunStop.{RunStop}
use Rattle.loop_turn.specs.declared.run_stop.RunStop.TheVariants as stop
use Rattle.page_cli.specs.declared.answer.Answer.{Answer}
use Rattle.page_cli.specs.declared.answer.Answer.TheVariants.{Written, WriteFault, OutOfMemory}
use Rattle.page_cli.specs.Answering.{IsRun}
use Rattle.page_cli.specs.Checked.{TraceFits, AnswersCheck}
use Rattle.page_cli.specs.ToldFiles.{OfFile}

-- ---- Ours: a legal trace, told in its second form

-- The trace of these files is legal, and this is its text in the second form: the text of the run under the choices of the trace, with the
-- setup's form of a trace set to the second. The text is a legal trace for that setup. Where the setup's form is the first, the bytes of
-- the trace are the text of the same events in the first form, without what that form leaves out.
pub record IsMigration (script arrivals trace : List ℕ) (hosts : List HostClosure) (text : List ℕ) : Type 0 where
  pub program : Program
  pub settings : Settings
  pub events : List Stamped
  pub is_run : IsRun script arrivals program settings
  pub fits : TraceFits trace
  pub is_trace : IsTrace settings.setup.trace trace events
  pub is_legal : IsLegal program settings.setup hosts events
  pub is_text : text ≡ text_of 2 (migrated program settings.setup hosts events)
  pub migrates : Migrates program settings.setup hosts events
  pub legal_then : IsLegalTrace program (told_more settings.setup) hosts text
  pub same : settings.setup.trace ≡ 1 → trace ≡ text_of 1 (all_without_by (migrated program settings.setup hosts events))

-- that text was written, the whole of it and no more
pub record WroteMigrated (script arrivals trace : List ℕ) (hosts : List HostClosure) (old new : Option (List ℕ)) : Type 0 where
  pub text : List ℕ
  pub is_migration : IsMigration script arrivals trace hosts text
  pub wrote : new ≡ appended old text

-- a start of it was written
pub record WroteMigratedStart (script arrivals trace : List ℕ) (hosts : List HostClosure) (old new : Option (List ℕ)) : Type 0 where
  pub text : List ℕ
  pub is_migration : IsMigration script arrivals trace hosts text
  pub start : AppendsStartOf old new text

-- what an answer says of the three files, under the closures: where the trace is not legal, what it says where the trace is checked
abbrev pub AnswersMigrate : Answer → (script arrivals trace : List ℕ) → List HostClosure → (old new : Option (List ℕ)) → Type 0
AnswersMigrate Written script arrivals trace hosts old new = WroteMigrated script arrivals trace hosts old new
AnswersMigrate WriteFault script arrivals trace hosts old new = WroteMigratedStart script arrivals trace hosts old new
AnswersMigrate OutOfMemory script arrivals trace hosts old new =
    (new ≡ old) ⊎ WroteMigratedStart script arrivals trace hosts old new
AnswersMigrate answer script arrivals trace hosts old new = AnswersCheck answer script arrivals trace hosts old new

-- the same of the files as the folder tells them, each where it tells that one
abbrev pub AnswersMigration : Answer → (script arrivals trace : Option (List ℕ)) → List HostClosure → (old new : Option (List ℕ))
    → Type 0
AnswersMigration answer script arrivals trace hosts old new =
    OfFile script (λ s. OfFile arrivals (λ a. OfFile trace (λ t. AnswersMigrate answer s a t hosts old new)))

-- what an answer says of a text whose lines are written one by one
abbrev pub AnswersRetold : Answer → (text : List ℕ) → (old new : Option (List ℕ)) → Type 0
AnswersRetold Written text old new = new ≡ appended old text
AnswersRetold WriteFault text old new = AppendsStartOf old new text
AnswersRetold OutOfMemory text old new = AppendsStartOf old new text
AnswersRetold answer text old new = ⊥

-- these are the choices that stand in legal events
pub record HasLegalChoices (program : Program) (setup : Setup) (hosts : List HostClosure) (choices : TraceChoices) : Type 0 where
  pub events : List Stamped
  pub choices_are : AreChoicesOf events choices
  pub is_legal : IsLegal program setup hosts events

-- the bytes are a legal trace, and this is what an answer says of its second form
pub record RetellsText (program : Program) (setup : Setup) (hosts : List HostClosure) (trace : List ℕ) (answer : Answer)
    (old new : Option (List ℕ)) : Type 0 where
  pub seen : TraceSeen
  pub is_trace : IsTrace seen.form trace (events_of seen)
  pub is_legal : IsLegalHere program setup hosts seen
  pub retold : AnswersRetold answer (text_of 2 (migrated program setup hosts (events_of seen))) old new

-- the answer to a run under the choices of a legal trace
abbrev pub retold_to : Result End RunStop → Answer
retold_to (Ok end) = Written
retold_to (Err stop.WriteFault) = WriteFault
retold_to (Err stop.Differs) = OutOfMemory
retold_to (Err stop.NoReading) = OutOfMemory
retold_to (Err stop.NoChoice) = OutOfMemory
retold_to (Err stop.NoHost) = OutOfMemory
retold_to (Err stop.OutOfMemory) = OutOfMemory
