use Rattle.std.proofs.Common.{◌+◌}
use Rattle.lang_ast.specs.Seen.{seen_item}
use Rattle.async_segments.proofs.ItemLemmas.{within_ok, within_err, walk_refused}
use Rattle.async_segments.proofs.items.write_item.Goals as goal

pub returns-in-Ok-clause-written : goal.returns-in-Ok-clause-written
returns-in-Ok-clause-written c = within_ok c.args.pending c.in-Ok.next.0 (seen_item c.args.item.now) _ _ c.args.functions (c.in-Ok.next.1 + c.in-Ok.next.2) c.counted.result c.in-Ok.ensures.written c.counted.ensures.mark c.counted.ensures.all c.counted.ensures.few

pub returns-in-Ok-clause-refused : goal.returns-in-Ok-clause-refused
returns-in-Ok-clause-refused c = within_err c.args.pending c.in-Ok.next.0 (seen_item c.args.item.now) _ _ c.args.functions (c.in-Ok.next.1 + c.in-Ok.next.2) c.counted.result c.in-Ok.ensures.written c.counted.ensures.many

pub returns-in-Err-clause-refused : goal.returns-in-Err-clause-refused
returns-in-Err-clause-refused c = λ refused tree rest walk. walk_refused tree rest c.args.pending (seen_item c.args.item.now) _ c.args.functions walk (c.in-Err.ensures.refused refused)
