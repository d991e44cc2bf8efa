-- How deep the machine's own recursion goes.
use Rattle.std.specs.Prelude.{ℕ, ◌+◌, List, [], ◌∷◌}
use Rattle.page_types.specs.Tree.{Program}
use Rattle.lang_meaning.specs.Evaluation.{Function, functions_of, own_body}
use Rattle.lang_ast.specs.Sizes.{block_size}

abbrev pub bodies_size : List Function → ℕ
bodies_size [] = 0
bodies_size (f ∷ fs) = block_size f.body + bodies_size fs

abbrev pub program_size : Program → ℕ
program_size p = bodies_size (functions_of p.items) + block_size (own_body p.items)
