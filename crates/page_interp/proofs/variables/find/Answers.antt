use Rattle.std.proofs.Common.{sym}
use Rattle.page_interp.proofs.Frames.{variable_at}
use Rattle.page_interp.proofs.variables.find.Goals as goal

pub returns-in-Some : goal.returns-in-Some
returns-in-Some c = sym (variable_at c.args.names.now c.args.values.now.items c.args.name.now c.in-Some.place c.index.result.now c.in-Some.ensures.some c.index.ensures c.in-Some.ensures.within)
