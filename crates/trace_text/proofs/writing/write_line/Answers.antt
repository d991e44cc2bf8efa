use Rattle.std.proofs.Common.{◌++◌, [], ◌∷◌}
use Rattle.page_parts.specs.TraceText.{event_text}
use Rattle.page_parts.specs.Words.{decimal_of}
use Rattle.trace_text.specs.EventSeen.{event_seen}
use Rattle.trace_text.proofs.Appending.{appends}
use Rattle.trace_text.proofs.writing.write_line.Goals as goal

pub returns : goal.returns
returns c =
    let time = decimal_of c.args.e.now.time.0 in
    let text = event_text (event_seen c.args.e.now.event) in
    let spaced = appends c.print_number.new.into.items (32 ∷ []) text c.in_ok-push.ensures.items c.in_ok-write_text.ensures in
    let timed = appends c.args.into.now.items time (32 ∷ text) c.in_ok-print_number.ensures spaced in
    appends c.args.into.now.items (time ++ 32 ∷ text) (10 ∷ []) timed c.in_ok-push-2.ensures.items
