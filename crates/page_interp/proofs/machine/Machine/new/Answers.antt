use Rattle.std.proofs.Common.{[], refl, ap}
use Rattle.lang_ast.specs.SeenProgram.{seen_program}
use Rattle.page_interp.proofs.FromOutside.{first_numbered, globals_first}
use Rattle.page_interp.proofs.NumberTests.{variables_tested}
use Rattle.page_interp.proofs.machine.Machine.new.Goals as goal

pub invariant_of-result : goal.invariant_of-result
invariant_of-result c = variables_tested _ _ (first_numbered _ (seen_program c.in_ok-code.code) c.globals.result.now c.in_ok-globals.globals.items c.globals.ensures (c.in_ok-globals.ensures [] c.globals.result.now refl refl))

pub returns-clause-globals : goal.returns-clause-globals
returns-clause-globals c = globals_first (seen_program c.in_ok-code.code) (seen_program c.args.program.now) c.globals.result.now c.in_ok-globals.globals.items c.globals.ensures (c.in_ok-globals.ensures [] c.globals.result.now refl refl) (ap seen_program c.in_ok-code.ensures)
