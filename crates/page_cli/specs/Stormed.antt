-- What an answer says of a storm.
use Rattle.std.specs.Prelude.{◌≡◌, ℕ, ℤ, List, [], Option, Result}
use Rattle.page_types.specs.Tree.{Program}
use Rattle.page_types.specs.Told.{appended, AppendsStartOf}
use Rattle.page_types.specs.declared.End.{End}
use Rattle.page_parts.specs.HostClosures.{HostClosure}
use Rattle.page_parts.specs.Setup.{Setup}
use Rattle.page_parts.specs.WrittenChoices.{Choices}
use Rattle.page_model.specs.Turns.{Turned, events_of_run, state_of}
use Rattle.arrivals_text.specs.Arrivals.{Settings}
use Rattle.trace_text.specs.Summaries.{Counts, counts_of}
use Rattle.page_gen.specs.Storm.{storm_script, storm_arrivals}
use Rattle.page_cli.specs.declared.answer.Answer.{Answer}
use Rattle.page_cli.specs.declared.answer.Answer.TheVariants.{Ended, WriteFault, OutOfMemory}
use Rattle.page_cli.specs.Running.{EndsAs, written_run}
use Rattle.page_cli.specs.Answering.{IsRun}
use Rattle.page_cli.specs.Counted.{counts_text}

-- ---- Ours: the run of a storm, which is counted

-- the run by the written policy and clock, in which no closure gives an answer
abbrev pub unanswered_run : Program → Setup → List HostClosure → Turned Choices
unanswered_run program setup hosts = written_run program setup hosts []

-- No closure is asked in that run: whatever the closures would answer, it comes to the same state, by the same lines.
abbrev pub AsksNone : Program → Setup → List HostClosure → Type 0
AsksNone program setup hosts =
    (answers : List (Result ℤ ℤ))
    → state_of (written_run program setup hosts answers) ≡ state_of (unanswered_run program setup hosts)

-- The run of this program and setup has ended so, these are the counts of its events, and it asked no closure.
pub record HasCounts (program : Program) (setup : Setup) (hosts : List HostClosure) (end : End) (counts : Counts) : Type 0 where
  pub ended : EndsAs end (unanswered_run program setup hosts)
  pub counts_are : counts ≡ counts_of (events_of_run (unanswered_run program setup hosts))
  pub asks_none : AsksNone program setup hosts

-- The texts of the storm with this number are a script with a program and arrivals with a setup, whose run has ended so, with these counts.
pub record IsStormOf (n : ℕ) (hosts : List HostClosure) (end : End) (counts : Counts) : Type 0 where
  pub program : Program
  pub settings : Settings
  pub is_run : IsRun (storm_script n) storm_arrivals program settings
  pub has_counts : HasCounts program settings.setup hosts end counts

-- the counts of the storm's run, which has ended so, were written, the whole of them and no more
pub record WroteStorm (n : ℕ) (end : End) (hosts : List HostClosure) (old new : Option (List ℕ)) : Type 0 where
  pub counts : Counts
  pub is_storm : IsStormOf n hosts end counts
  pub wrote : new ≡ appended old (counts_text counts)

-- a start of them was written
pub record WroteStormStart (n : ℕ) (hosts : List HostClosure) (old new : Option (List ℕ)) : Type 0 where
  pub end : End
  pub counts : Counts
  pub is_storm : IsStormOf n hosts end counts
  pub start : AppendsStartOf old new (counts_text counts)

-- What an answer says of the storm with a number. Its texts are never refused, so there are three answers; a run that were stuck at a
-- closure would be OutOfMemory too.
abbrev pub AnswersStorm : Answer → (n : ℕ) → List HostClosure → (old new : Option (List ℕ)) → Type 0
AnswersStorm (Ended end) n hosts old new = WroteStorm n end hosts old new
AnswersStorm WriteFault n hosts old new = WroteStormStart n hosts old new
AnswersStorm OutOfMemory n hosts old new = new ≡ old
AnswersStorm answer n hosts old new = ⊥

-- what an answer says of counts that are written
abbrev pub AnswersCounts : Answer → End → Counts → (old new : Option (List ℕ)) → Type 0
AnswersCounts (Ended end) told counts old new = (end ≡ told) × (new ≡ appended old (counts_text counts))
AnswersCounts WriteFault told counts old new = AppendsStartOf old new (counts_text counts)
AnswersCounts OutOfMemory told counts old new = new ≡ old
AnswersCounts answer told counts old new = ⊥
