use Rattle.std.proofs.Common.{sym, subst}
use Rattle.std.specs.Option.{option_map}
use Rattle.trace_text.specs.EventSeen.{event_seen}
use Rattle.trace_text.specs.LineReading.{IsEventRead}
use Rattle.trace_text.proofs.LinesRead.{no_space, no_time, no_event, line_read}
use Rattle.trace_text.proofs.line_reading.read_line.Goals as goal

pub returns-in_default : goal.returns-in_default
returns-in_default c = no_space c.args.form c.args.line.now c.in_default.ensures.parts

pub returns-in_default-read_count : goal.returns-in_default-read_count
returns-in_default-read_count c = no_time c.args.form c.args.line.now c.in-Some.time.now c.in-Some.text.now c.in-Some.ensures.parts (sym c.in_default-read_count.ensures)

pub returns-in_default-2 : goal.returns-in_default-2
returns-in_default-2 c =
    no_event c.args.form c.args.line.now c.in-Some.time.now c.in-Some.text.now c.in-Some.ensures.parts
    (subst (λ read. IsEventRead c.args.form c.in-Some.text.now (option_map event_seen read)) c.in_default-2.is c.in_ok-event.ensures)

pub returns : goal.returns
returns c =
    line_read c.args.form c.args.line.now c.in-Some.time.now c.in-Some.text.now c.in-Some-read_count.time (event_seen c.in-Some-2.event) c.in-Some.ensures.parts (sym c.in-Some-read_count.ensures)
    (subst (λ read. IsEventRead c.args.form c.in-Some.text.now (option_map event_seen read)) c.in-Some-2.is c.in_ok-event.ensures)
