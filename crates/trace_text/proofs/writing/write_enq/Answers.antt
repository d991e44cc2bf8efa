use Rattle.std.proofs.Common.{codes, cond, ◌++◌}
use Rattle.page_parts.specs.TraceText.{number_field, queue_text}
use Rattle.trace_text.specs.EventSeen.{queue_seen}
use Rattle.trace_text.proofs.Appending.{appends, IfOk-appends}
use Rattle.trace_text.proofs.writing.write_enq.Goals as goal

pub returns : goal.returns
returns c = IfOk-appends _ c.args.into.now.items ((codes "enq" ++ number_field c.args.r) ++ (queue_text (queue_seen c.args.queue)) ++ (cond c.args.cont (codes " cont") (codes " task"))) (number_field c.args.n) _ (appends c.args.into.now.items ((codes "enq" ++ number_field c.args.r) ++ (queue_text (queue_seen c.args.queue))) (cond c.args.cont (codes " cont") (codes " task")) (appends c.args.into.now.items (codes "enq" ++ number_field c.args.r) (queue_text (queue_seen c.args.queue)) c.in_ok-write_numbered.ensures c.in_ok-write_queue.ensures) c.in_ok-write_form.ensures) c.write_number.ensures
