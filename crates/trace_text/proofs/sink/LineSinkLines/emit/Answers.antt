use Rattle.std.proofs.Common.{◌++◌, ◌∙◌, ap, sym}
use Rattle.page_parts.specs.TraceText.{line_text}
use Rattle.trace_text.specs.EventSeen.{stamped_seen}
use Rattle.trace_text.specs.Line.{Of}
use Rattle.trace_text.proofs.SinkText.{Gives-sink_taken, Gives-sink_failed}
use Rattle.trace_text.proofs.sink.LineSinkLines.emit.Goals as goal
use Rattle.trace_text.proofs.sink.LineSinkLines.emit.Goals.{in-Ok, in-Err}

pub returns-clause-gives : goal.returns-clause-gives
returns-clause-gives g c =
    let e = stamped_seen c.args.e.now in
    let line = c.in_ok-write_line.ensures ∙ ap (λ bytes. bytes ++ line_text e) c.clear.ensures.items in
    elim c.match-put.branch [
      | in-Ok w ↦ rw w.result-is (rw (sym c.self.view_is) (Gives-sink_taken (Of e) c.deref.result.now _ _ _ _ (c.deref.ensures.value ∙ line) w.in-Ok.ensures.ok w.in-Ok.ensures.cause.later))
      | in-Err w ↦ rw w.result-is (rw (sym c.self.view_is) (Gives-sink_failed (Of e) c.deref.result.now _ _ _ _ (c.deref.ensures.value ∙ line) w.in-Err.ensures.failed w.in-Err.ensures.cause.later w.in-Err.ensures.cause.failed))
    ]
