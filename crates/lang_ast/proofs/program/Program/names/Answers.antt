use Rattle.std.proofs.Common.{refl}
use Rattle.lang_ast.specs.SeenProgram.{seen_program}
use Rattle.lang_ast.proofs.program.Program.names.Goals as goal

pub returns-clause-names : goal.returns-clause-names
unfolding seen_program
returns-clause-names c = refl

pub returns-clause-of_functions : goal.returns-clause-of_functions
unfolding seen_program
returns-clause-of_functions c = c.args.self.now.named
