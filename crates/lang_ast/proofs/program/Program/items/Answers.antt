use Rattle.std.proofs.Common.{ap}
use Rattle.lang_ast.specs.Seen.{seen_items}
use Rattle.lang_ast.specs.SeenProgram.{seen_program}
use Rattle.lang_ast.proofs.Fits.{own_fits}
use Rattle.lang_ast.proofs.program.Program.items.Goals as goal

pub returns-clause-items : goal.returns-clause-items
unfolding seen_program
returns-clause-items c = ap seen_items c.deref.ensures.value

pub returns-clause-fits : goal.returns-clause-fits
unfolding seen_program
returns-clause-fits c = own_fits (seen_items c.args.self.now.items.items) c.args.self.now.resolved

pub returns-clause-resolved : goal.returns-clause-resolved
unfolding seen_program
returns-clause-resolved c = c.args.self.now.resolved
