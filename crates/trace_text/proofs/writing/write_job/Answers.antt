use Rattle.std.proofs.Common.{codes, ◌++◌}
use Rattle.page_parts.specs.TraceText.{number_field, queued_text}
use Rattle.trace_text.specs.EventSeen.{queued_seen}
use Rattle.trace_text.proofs.Appending.{IfOk-appends}
use Rattle.trace_text.proofs.writing.write_job.Goals as goal

pub returns : goal.returns
returns c = IfOk-appends _ c.args.into.now.items (codes "job" ++ number_field c.args.j) (queued_text (queued_seen c.args.what)) _ c.in_ok-write_numbered.ensures c.write_queued.ensures
