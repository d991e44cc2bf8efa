-- Operations that are called with as many arguments as they have.
use Rattle.std.specs.Prelude.{◌≡◌, ℕ, ⊤, List, [], ◌∷◌, Option, Some, None}
use Rattle.page_types.specs.declared.Op.{Op}
use Rattle.lang_meaning.specs.OpNames.{op_named}
use Rattle.lang_ast.specs.declared.role.Role.{Role}
use Rattle.lang_ast.specs.declared.role.Role.TheVariants as role
use Rattle.lang_ast.specs.Operations.{count_of}
use Rattle.lang_ast.specs.Names.{Mention}

-- ---- Ours: what the script machine uses of a resolved script

abbrev pub HasCount : Option Op → ℕ → Type 0
HasCount None n = ⊤
HasCount (Some op) n = n ≡ count_of op

abbrev pub CallFits : Role → List ℕ → Type 0
CallFits (role.Called n) x = HasCount (op_named x) n
CallFits r x = ⊤

-- each operation that is called among these names has as many arguments as it takes
abbrev pub CallsFit : List Mention → Type 0
CallsFit [] = ⊤
CallsFit (m ∷ ms) = CallFits m.role m.name × CallsFit ms
