use Rattle.std.proofs.Common.{rules, ◌≡◌, ◌∷◌, true, map, sym, ap}
use Rattle.page_parts.specs.Words.{same_bytes}
use Rattle.page_parts.specs.TraceText.{line_text}
use Rattle.trace_text.specs.EventSeen.{stamped_seen}
use Rattle.trace_text.proofs.Checking.{agrees, event_agrees}
use Rattle.trace_text.proofs.check.LineCheckLines.emit.Goals as goal

pub returns : goal.returns
returns c =
    let left_is : c.self.inside.left.now ≡ c.in-Some.next.now ∷ c.in-Some.left.now = search rules in
    let same : same_bytes (line_text (stamped_seen c.in-Some.next.now)) (line_text (stamped_seen c.args.e.now)) ≡ true = search rules in
    rw (sym c.self.view_is)
    (agrees _ _ _ c.self.inside.refusals
    (event_agrees c.self.inside.form (map stamped_seen c.self.inside.left.now) (map stamped_seen c.in-Some.left.now) c.self.inside.matched (stamped_seen c.in-Some.next.now) (stamped_seen c.args.e.now) c.if-self-eq0.false (ap (map stamped_seen) left_is) same))
