use Rattle.std.proofs.Common.{◌≡◌, ap, rules, List, ℕ}
use Rattle.lang_ast.specs.Seen.{seen_tree, seen_items}
use Rattle.lang_ast.specs.SeenProgram.{seen_program}
use Rattle.lang_ast.specs.Programs.{function_names}
use Rattle.page_types.specs.Tree.{Program}
use Rattle.lang_ast.proofs.program.Program.new.Goals as goal

pub returns : goal.returns
unfolding seen_program
returns c =
    let e : c.in_ok-names.names ≡ function_names (seen_items c.args.tree.items.items) = search rules in
    let with_names : List (List ℕ) → Program = λ names. record { items = seen_tree c.args.tree; names = names } in
    ap with_names e
