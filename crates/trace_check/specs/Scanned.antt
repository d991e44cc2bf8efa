-- What the bytes of a trace tell of its choices, and of its verdict.
use Rattle.std.specs.Prelude.{ℕ, List, map}
use Rattle.page_types.specs.Tree.{Program}
use Rattle.page_parts.specs.HostClosures.{HostClosure}
use Rattle.page_parts.specs.Setup.{Setup}
use Rattle.trace_text.specs.declared.event.Stamped.{Stamped}
use Rattle.trace_text.specs.EventSeen.{TraceSeen, stamped_seen}
use Rattle.trace_text.specs.Trace.{IsTrace}
use Rattle.trace_check.specs.declared.collecting.TraceChoices.{TraceChoices}
use Rattle.trace_check.specs.declared.verdict.Verdict.{Verdict}
use Rattle.trace_check.specs.Collected.{AreChoicesOf}
use Rattle.trace_check.specs.Verdicts.{IsVerdict, events_of}

-- ---- Ours: the events that some bytes spell

-- the bytes are a trace, and these are the choices that stand in it
pub record AreChoicesIn (form : ℕ) (bytes : List ℕ) (choices : TraceChoices) : Type 0 where
  pub events : List Stamped
  pub is_trace : IsTrace form bytes (map stamped_seen events)
  pub choices_are : AreChoicesOf (map stamped_seen events) choices

-- the bytes are a trace, and this is the verdict on it
pub record HasVerdictOn (program : Program) (setup : Setup) (hosts : List HostClosure) (bytes : List ℕ) (verdict : Verdict) : Type 0 where
  pub seen : TraceSeen
  pub is_trace : IsTrace seen.form bytes (events_of seen)
  pub is_verdict : IsVerdict program setup hosts seen verdict
