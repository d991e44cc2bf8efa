-- A script whose names are resolved: its items, and the names of its functions in the order of their numbers.
use Rattle.std.specs.Prelude.{ℕ, suc, List, [], ◌∷◌, map, Option, slice_get}
use Rattle.page_types.specs.Tree as Model
use Rattle.lang_meaning.specs.Evaluation as Meaning
use Rattle.lang_meaning.specs.Evaluation.{functions_of}
use Rattle.lang_ast.specs.declared.tree.Item.{Item}
use Rattle.lang_ast.specs.declared.tree.Item.TheVariants as item

-- ---- Ours: functions are numbered from 0 in the order of the text

-- the names of a script's functions
abbrev pub function_names : List Model.Item → List (List ℕ)
function_names items = map (λ f. f.name) (functions_of items)

-- the function with a number; none for that of the script's own body
abbrev pub function_at : Model.Program → ℕ → Option Meaning.Function
function_at program number = slice_get (functions_of program.items) number

-- the program of a tree
abbrev pub program_of : List Model.Item → Model.Program
program_of items = record { items = items; names = function_names items }

-- the places of the functions among items, where the first item has the place n
abbrev pub function_places : ℕ → List Item → List ℕ
function_places n [] = []
function_places n (item.Fn f ∷ items) = n ∷ function_places (suc n) items
function_places n (item.Stmt s ∷ items) = function_places (suc n) items
