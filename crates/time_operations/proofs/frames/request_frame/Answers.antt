use Rattle.page_types.specs.declared.FaultName.TheVariants.{TypeError}
use Rattle.page_parts.specs.Kinds.{func_in}
use Rattle.page_values.specs.Seen.{seen, seen_func}
use Rattle.page_state.specs.PageActs.{at}
use Rattle.time_operations.specs.Rows.{frame_accepted}
use Rattle.page_answers.proofs.Choosing.{Answers-given, Answers-not_given}
use Rattle.time_operations.proofs.frames.request_frame.Goals as goal

pub returns-in_default : goal.returns-in_default
returns-in_default g c =
    let old = at c.args.page.now (g.L.Lines.seen c.args.lines.now) in
    Answers-not_given g.L.Lines.keeping (func_in (seen c.args.callback)) TypeError frame_accepted old c.throw.result c.in_default.ensures c.throw.ensures

pub returns : goal.returns
returns g c =
    let old = at c.args.page.now (g.L.Lines.seen c.args.lines.now) in
    Answers-given (func_in (seen c.args.callback)) (seen_func c.in-Some.callback) TypeError frame_accepted old c.in-Some.ensures c.accept_frame.ensures
