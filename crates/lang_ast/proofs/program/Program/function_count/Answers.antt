use Rattle.std.proofs.Common.{ap, length, rules}
use Rattle.lang_ast.specs.SeenProgram.{seen_program}
use Rattle.lang_ast.proofs.Places.{places_length}
use Rattle.lang_ast.proofs.program.Program.function_count.Goals as goal

pub returns : goal.returns
unfolding seen_program
returns c =
    let e = ap length c.args.self.now.placed in
    let s = places_length 0 c.args.self.now.items.items in
    search (rules, e, s)
