use Rattle.std.proofs.Common.{sym}
use Rattle.std.specs.Option.{option_map}
use Rattle.trace_text.specs.EventSeen.{event_seen}
use Rattle.trace_text.specs.LineReading.{valued_at, IsTested, IsEventRead}
use Rattle.trace_text.proofs.LinesRead.{numbered_read, worded_read, valued_read}
use Rattle.trace_text.proofs.ValuesRead.{if_ok}
use Rattle.trace_text.proofs.line_reading.read_event.Goals as goal

pub returns-in-Some : goal.returns-in-Some
returns-in-Some c = numbered_read c.args.form c.args.text.now (event_seen c.in-Some.event) (sym c.in-Some.ensures)

pub returns-in-Some-read_worded : goal.returns-in-Some-read_worded
returns-in-Some-read_worded c = worded_read c.args.form c.args.text.now (event_seen c.in-Some-read_worded.event) c.requires (sym c.in-Some-read_worded.ensures)

pub returns : goal.returns
returns c =
    if_ok (λ read. IsTested (valued_at c.args.text.now) (option_map event_seen read)) (λ read. IsEventRead c.args.form c.args.text.now (option_map event_seen read)) c.read_valued.result
    (λ read tested. valued_read c.args.form c.args.text.now (option_map event_seen read) (sym c.in_default.ensures) (sym c.in_default-read_worded.ensures) tested)
    c.read_valued.ensures
