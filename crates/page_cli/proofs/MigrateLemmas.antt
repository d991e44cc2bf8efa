-- From a legal trace to its second form, and to what the top call answers.
use Rattle.std.proofs.Common.{◌≡◌, ◌≤◌, ℕ, List, length, map, Option, Result, Ok, Err, refl, sym, ap, ◌∙◌, subst, inl, inr, arith}
use Rattle.page_types.specs.Tree.{Program}
use Rattle.page_types.specs.Counts.{Rose}
use Rattle.page_types.specs.Events.{Stamped}
use Rattle.page_types.specs.declared.End.{End}
use Rattle.page_parts.specs.Setup.{Setup}
use Rattle.page_parts.specs.HostClosures.{HostClosure}
use Rattle.page_parts.specs.TraceText.{text_of}
use Rattle.page_model.specs.Turns.{Turned, GoesOn, Ended as HasEndedSo, Stuck, events_of_run}
use Rattle.page_model.specs.ChoicesAreData.{HasEnded}
use Rattle.page_model.specs.PageTrace.{IsLegal, migrated, told_more}
use Rattle.page_laws.proofs.Migrating.{migrates}
use Rattle.arrivals_text.specs.Arrivals.{Settings}
use Rattle.trace_text.specs.EventSeen.{TraceSeen, stamped_seen}
use Rattle.trace_text.specs.Trace.{IsTrace, IsBadLine}
use Rattle.trace_text.proofs.TracesRead.{one_reading, no_bad_line}
use Rattle.trace_text.specs.Given.{Seen}
use Rattle.trace_text.specs.Sinks.{sink_keeping}
use Rattle.trace_text.proofs.SinkText.{Gives-sink_trace, Gives-sink_trace_stop}
use Rattle.loop_turn.specs.Outcomes.{Outcome, AtReading, AtSource, AtAnswer, IsUnstuck, outcome_in}
use Rattle.loop_turn.specs.declared.run_stop.RunStop.{RunStop}
use Rattle.loop_turn.specs.declared.run_stop.RunStop.TheVariants as stop
use Rattle.trace_check.specs.Verdicts.{events_of, own_run, IsLegalHere}
use Rattle.trace_check.specs.Replays.{Replays}
use Rattle.trace_check.specs.Collected.{AreChoicesOf}
use Rattle.trace_check.specs.Scanned.{AreChoicesIn, HasVerdictOn}
use Rattle.trace_check.specs.declared.collecting.TraceChoices.{TraceChoices}
use Rattle.trace_check.specs.declared.verdict.Verdict.TheVariants as found
use Rattle.page_cli.specs.declared.answer.WhichFile.{WhichFile}
use Rattle.page_cli.specs.declared.answer.Answer.{Answer}
use Rattle.page_cli.specs.declared.answer.Answer.TheVariants.{Ended, Written, Usage, NoParse, BadName, BadArrivals, BadTrace, TooLong, ReadFault, WriteFault, OutOfMemory}
use Rattle.page_cli.specs.Running.{CanStop}
use Rattle.page_cli.specs.Answering.{IsRun, IsRefusal}
use Rattle.page_cli.specs.Checked.{AllFit, IsNotRead, IsUnread, RefusesTrace}
use Rattle.page_cli.specs.Migrated.{IsMigration, AnswersMigrate, AnswersMigration, AnswersRetold, HasLegalChoices, RetellsText, retold_to}
use Rattle.page_cli.specs.ToldFiles.{CanHold}
use Rattle.page_cli.proofs.RunLemmas.{whole-start, nothing-written}

-- ---- the second form of a legal trace

module _ (script arrivals trace : List ℕ) (hosts : List HostClosure) where
  migration-of : (program : Program) (settings : Settings) (seen : TraceSeen) → IsRun script arrivals program settings → length trace ≤ 67108864 → IsTrace seen.form trace (events_of seen)
      → IsLegalHere program settings.setup hosts seen → IsMigration script arrivals trace hosts (text_of 2 (migrated program settings.setup hosts (events_of seen)))
  migration-of program settings seen run fits is legal =
      let es = events_of seen in
      let P : ℕ → Type 0 = λ form. IsTrace form trace es in
      let here : IsTrace settings.setup.trace trace es = subst P legal.0 is in
      let more = migrates program settings.setup hosts es legal.1 in
      record {
        program = program;
        settings = settings;
        events = es;
        is_run = run;
        fits = fits;
        is_trace = here;
        is_legal = legal.1;
        is_text = refl;
        migrates = more;
        legal_then = (migrated program settings.setup hosts es, refl, more.legal);
        same = λ form. here.spelled ∙ (ap (λ n. text_of n es) form ∙ ap (text_of 1) (sym (more.same form)));
      }

  module _ (old new : Option (List ℕ)) where
    by-text : (answer : Answer) (text : List ℕ) → IsMigration script arrivals trace hosts text → AnswersRetold answer text old new → AnswersMigrate answer script arrivals trace hosts old new
    by-text Written text is h = record { text = text; is_migration = is; wrote = h }
    by-text WriteFault text is h = record { text = text; is_migration = is; start = h }
    by-text OutOfMemory text is h = inr (record { text = text; is_migration = is; start = h })
    by-text answer text is h = absurd h

    -- a legal trace is told in its second form
    pub retold-answers : (answer : Answer) (program : Program) (settings : Settings) (seen : TraceSeen) → IsRun script arrivals program settings → length trace ≤ 67108864 → IsTrace seen.form trace (events_of seen)
        → IsLegalHere program settings.setup hosts seen → AnswersRetold answer (text_of 2 (migrated program settings.setup hosts (events_of seen))) old new → AnswersMigrate answer script arrivals trace hosts old new
    retold-answers answer program settings seen run fits is legal h = by-text answer _ (migration-of program settings seen run fits is legal) h

    -- the same of the bytes of a trace
    pub text-answers : (answer : Answer) (program : Program) (settings : Settings) → IsRun script arrivals program settings → length trace ≤ 67108864
        → RetellsText program settings.setup hosts trace answer old new → AnswersMigrate answer script arrivals trace hosts old new
    text-answers answer program settings run fits h = retold-answers answer program settings h.seen run fits h.is_trace h.is_legal h.retold

  -- the trace is not told
  pub refused-migrate : (answer : Answer) (told : Option (List ℕ)) → AllFit script arrivals trace → RefusesTrace answer script arrivals trace → AnswersMigrate answer script arrivals trace hosts told told
  refused-migrate (NoParse at) told fit h = (fit, h, refl)
  refused-migrate (BadName fault) told fit h = (fit, h, refl)
  refused-migrate (BadArrivals line) told fit h = (fit, h, refl)
  refused-migrate (BadTrace line) told fit h = (fit, h, refl)
  refused-migrate OutOfMemory told fit h = inl refl
  refused-migrate answer told fit h = absurd h

-- ---- the bytes of a legal trace

module _ (program : Program) (setup : Setup) (hosts : List HostClosure) (trace : List ℕ) (legal : HasVerdictOn program setup hosts trace found.Yes) where
  same-legal : (es : List Stamped) → events_of legal.seen ≡ es → IsLegal program setup hosts es
  same-legal es same = subst (IsLegal program setup hosts) same legal.is_verdict.1

  module _ (form : ℕ) (choices : TraceChoices) (h : AreChoicesIn form trace choices) where
    same-events : events_of legal.seen ≡ map stamped_seen h.events
    same-events = one_reading legal.seen.form form trace (events_of legal.seen) (map stamped_seen h.events) legal.is_trace h.is_trace

    -- its choices are those of a legal trace
    pub legal-choices : HasLegalChoices program setup hosts choices
    legal-choices = record { events = map stamped_seen h.events; choices_are = h.choices_are; is_legal = same-legal (map stamped_seen h.events) same-events }

    -- it is told by the run under its choices
    pub text-retold : (answer : Answer) (old new : Option (List ℕ))
        → ((es : List Stamped) → AreChoicesOf es choices → IsLegal program setup hosts es → AnswersRetold answer (text_of 2 (migrated program setup hosts es)) old new)
        → RetellsText program setup hosts trace answer old new
    text-retold answer old new told = record {
      seen = legal.seen;
      is_trace = legal.is_trace;
      is_legal = legal.is_verdict;
      retold = told (events_of legal.seen) (subst (λ es. AreChoicesOf es choices) (sym same-events) h.choices_are) legal.is_verdict.1;
    }

  -- it has no bad line
  pub no-bad-line : (line : ℕ) → IsBadLine trace line → ⊥
  no-bad-line line bad = no_bad_line legal.seen.form trace (events_of legal.seen) line legal.is_trace bad

  -- nothing is told of it for want of memory
  pub none-retold : (old : Option (List ℕ)) → RetellsText program setup hosts trace OutOfMemory old old
  none-retold old = record { seen = legal.seen; is_trace = legal.is_trace; is_legal = legal.is_verdict; retold = nothing-written old _ }

-- ---- what is not said

-- no such answer is a refusal
pub retold-refusal : (answer : Answer) (text : List ℕ) (old new : Option (List ℕ)) → AnswersRetold answer text old new → IsRefusal answer → ⊥
retold-refusal Written text old new h is = absurd is
retold-refusal WriteFault text old new h is = absurd is
retold-refusal OutOfMemory text old new h is = absurd is
retold-refusal answer text old new h is = absurd h

pub retold-read : (file : WhichFile) (answer : Answer) (text : List ℕ) (old new : Option (List ℕ)) → AnswersRetold answer text old new → answer ≡ ReadFault file → ⊥
retold-read file answer text old new h e = let P : Answer → Type 0 = λ a. AnswersRetold a text old new in subst P e h

pub retold-usage : (answer : Answer) (text : List ℕ) (old new : Option (List ℕ)) → AnswersRetold answer text old new → answer ≡ Usage → ⊥
retold-usage answer text old new h e = let P : Answer → Type 0 = λ a. AnswersRetold a text old new in subst P e h

pub retold-ended : (answer : Answer) (end : End) (text : List ℕ) (old new : Option (List ℕ)) → AnswersRetold answer text old new → answer ≡ Ended end → ⊥
retold-ended answer end text old new h e = let P : Answer → Type 0 = λ a. AnswersRetold a text old new in subst P e h

-- ---- the lines of the run

module _ {C : Type 0} (form : ℕ) (run : Turned C) {before after : Seen (List ℕ)} where
  pub lines-retold : (outcome : Result End RunStop) → Replays sink_keeping before form run outcome after → AnswersRetold (retold_to outcome) (text_of form (events_of_run run)) before.told after.told
  lines-retold (Ok end) h = Gives-sink_trace form (events_of_run run) h.lines
  lines-retold (Err stop.WriteFault) h = Gives-sink_trace_stop form (events_of_run run) h.lines
  lines-retold (Err stop.Differs) h = Gives-sink_trace_stop form (events_of_run run) h.lines
  lines-retold (Err stop.OutOfMemory) h = Gives-sink_trace_stop form (events_of_run run) h.lines
  lines-retold (Err stop.NoReading) h = whole-start before.told after.told (text_of form (events_of_run run)) (Gives-sink_trace form (events_of_run run) h.lines)
  lines-retold (Err stop.NoChoice) h = whole-start before.told after.told (text_of form (events_of_run run)) (Gives-sink_trace form (events_of_run run) h.lines)
  lines-retold (Err stop.NoHost) h = whole-start before.told after.told (text_of form (events_of_run run)) (Gives-sink_trace form (events_of_run run) h.lines)

  pub lines-later : (outcome : Result End RunStop) → Replays sink_keeping before form run outcome after → before.faults ≤ after.faults
  lines-later outcome h = h.lines.later

  -- a put has failed
  pub lines-failed : (outcome : Result End RunStop) → Replays sink_keeping before form run outcome after → retold_to outcome ≡ WriteFault → Rose before.faults after.faults
  lines-failed (Ok end) h e = absurd (cc)
  lines-failed (Err stop.WriteFault) h e = h.lines.failed refl
  lines-failed (Err stop.Differs) h e = absurd (cc)
  lines-failed (Err stop.OutOfMemory) h e = absurd (cc)
  lines-failed (Err stop.NoReading) h e = absurd (cc)
  lines-failed (Err stop.NoChoice) h e = absurd (cc)
  lines-failed (Err stop.NoHost) h e = absurd (cc)

-- a run that has ended is stuck at no choice
no-stop : {C : Type 0} (t : Turned C) (at : Outcome) → HasEnded t → at ≡ outcome_in t → (IsUnstuck at → ⊥) → ⊥
no-stop (GoesOn m c) at h e stuck = absurd h
no-stop (HasEndedSo end m c) at h e stuck = stuck (let P : Outcome → Type 0 = λ o. IsUnstuck o in subst P (sym e) tt)
no-stop (Stuck why m c) at h e stuck = absurd h

module _ {C : Type 0} (form : ℕ) (run : Turned C) {before after : Seen (List ℕ)} where
  pub lines-stop : (outcome : Result End RunStop) → Replays sink_keeping before form run outcome after → before.refusals ≡ 0 → after.refusals ≡ 0 → HasEnded run → CanStop outcome
  lines-stop (Ok end) h old new ended = tt
  lines-stop (Err stop.WriteFault) h old new ended = tt
  lines-stop (Err stop.OutOfMemory) h old new ended = tt
  lines-stop (Err stop.Differs) h old new ended = let d = h.lines.differs in omega (arith, old, new, d)
  lines-stop (Err stop.NoReading) h old new ended = no-stop run AtReading ended (h.ends refl) (λ x. x)
  lines-stop (Err stop.NoChoice) h old new ended = no-stop run AtSource ended (h.ends refl) (λ x. x)
  lines-stop (Err stop.NoHost) h old new ended = no-stop run AtAnswer ended (h.ends refl) (λ x. x)

-- the same of the run in the second form
pub lines-migrated : (program : Program) (setup : Setup) (hosts : List HostClosure) (es : List Stamped) {before after : Seen (List ℕ)} (outcome : Result End RunStop)
    → Replays sink_keeping before 2 (own_run program (told_more setup) hosts es) outcome after → AnswersRetold (retold_to outcome) (text_of 2 (migrated program setup hosts es)) before.told after.told
unfolding own_run migrated
lines-migrated program setup hosts es outcome h = lines-retold 2 (own_run program (told_more setup) hosts es) outcome h

-- ---- the files as they are told

module _ (hosts : List HostClosure) where
  not_read-migrate : (answer : Answer) (script arrivals trace : List ℕ) (out : Option (List ℕ)) → IsNotRead answer script arrivals trace → AnswersMigrate answer script arrivals trace hosts out out
  not_read-migrate (TooLong file) script arrivals trace out h = (h, refl)
  not_read-migrate (ReadFault file) script arrivals trace out h = (h, refl)
  not_read-migrate OutOfMemory script arrivals trace out h = inl refl
  not_read-migrate answer script arrivals trace out h = absurd h

  -- a file was not read
  pub unread-migration : (answer : Answer) (script arrivals trace out : Option (List ℕ)) → IsUnread answer script arrivals trace → AnswersMigration answer script arrivals trace hosts out out
  unread-migration answer script arrivals trace out h =
      (h.0, h.1, (h.2.0, h.2.1, (h.2.2.0, h.2.2.1, not_read-migrate answer h.0 h.2.0 h.2.2.0 out h.2.2.2)))

  -- all were read
  pub migration-answers : (answer : Answer) (script arrivals trace : Option (List ℕ)) (s a t : List ℕ) (old new : Option (List ℕ)) → CanHold script s → CanHold arrivals a → CanHold trace t →
      AnswersMigrate answer s a t hosts old new → AnswersMigration answer script arrivals trace hosts old new
  migration-answers answer script arrivals trace s a t old new p q r h = (s, p, (a, q, (t, r, h)))
