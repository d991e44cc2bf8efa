use Rattle.std.proofs.Common.{map, ap, sym, subst, Err}
use Rattle.trace_text.specs.EventSeen.{stamped_seen}
use Rattle.trace_text.specs.Trace.{IsTrace, IsBadLine}
use Rattle.trace_text.proofs.TracesRead.{refused_head, err_same, fault_line, all_formed}
use Rattle.trace_text.proofs.reading.read_trace.Goals as goal

pub returns-in_default-clause-bad : goal.returns-in_default-clause-bad
returns-in_default-clause-bad c = λ line is. refused_head c.args.bytes.now line.line (sym (fault_line _ line (err_same _ _ is))) c.in_default.ensures

pub new-requires-clause-formed : goal.new-requires-clause-formed
new-requires-clause-formed c = all_formed c.in-Some.form c.in-Ok.items.items c.in-Ok.ensures.trace.fit

pub returns-in-Ok-clause-trace : goal.returns-in-Ok-clause-trace
returns-in-Ok-clause-trace c =
    subst (λ trace. IsTrace trace.form c.args.bytes.now (map stamped_seen trace.events)) (sym c.new.ensures)
    (subst (λ bytes. IsTrace c.in-Some.form bytes (map stamped_seen c.in-Ok.items.items)) (sym c.in-Some.ensures.1) c.in-Ok.ensures.trace)

pub returns-in-Err-clause-bad : goal.returns-in-Err-clause-bad
returns-in-Err-clause-bad c = λ line is.
    subst (λ bytes. IsBadLine bytes line.line) (sym c.in-Some.ensures.1) (c.in-Err.ensures.bad line (ap Err (err_same _ _ is)))
