use Rattle.page_values.specs.Seen.{seen}
use Rattle.page_operations.proofs.Aborting.{abort-refused, abort-reaches}
use Rattle.page_operations.proofs.folding.abort.Goals as goal

pub returns-in_default : goal.returns-in_default
returns-in_default g c =
    abort-refused c.args.page.now (g.L.Lines.seen c.args.lines.now) (seen c.args.controller.now) (seen c.args.reason) c.throw.result c.in_default.ensures c.throw.ensures

pub returns : goal.returns
returns g c =
    abort-reaches c.args.page.now c.in-Some.s (seen c.args.controller.now) (seen c.args.reason) (seen c.reason_given-reason.result) _ c.in-Some.ensures c.reason_given-reason.ensures c.begin_abort.ensures
