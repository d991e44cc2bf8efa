-- When a throw is reported, as the code has it; the line of a log.
use Rattle.page_types.specs.Values.{Value}
use Rattle.page_types.specs.Events.{Log}
use Rattle.page_parts.specs.Spelling.{spelled}
use Rattle.page_model.specs.State.{Page, emit}
use Rattle.page_model.specs.Invoke as m
use Rattle.page_script.specs.declared.parts.WhenReported.{WhenReported}
use Rattle.page_script.specs.declared.parts.WhenReported.TheVariants as w

abbrev pub when_seen : WhenReported → m.WhenReported
when_seen w.BeforeCheckpoint = m.BeforeCheckpoint
when_seen w.AfterCheckpoint = m.AfterCheckpoint
when_seen w.Never = m.Never

-- a value is logged
abbrev pub logged : Value → Page → Page
logged v p = emit (Log (spelled p.names v)) p
