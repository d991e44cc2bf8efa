use Rattle.std.proofs.Common.{map}
use Rattle.page_values.specs.Seen.{seen}
use Rattle.page_state.specs.PageActs.{at}
use Rattle.page_operations.proofs.Plain.{Asked-answers}
use Rattle.page_operations.proofs.asking.answer_plainly.Goals as goal

pub returns : goal.returns
returns g c =
    Asked-answers c.args.op (map seen c.args.args.items) (at c.args.page.now (g.L.Lines.seen c.args.lines.now)) _ c.requires.plain c.requires.known c.operate.ensures
