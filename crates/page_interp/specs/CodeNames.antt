-- The names that a machine has of its script.
use Rattle.std.specs.Prelude.{◌≡◌, ◌<◌, ◌^◌, ◌++◌, ◌&&◌, ℕ, Bool, true, List, [], map, length, Option, Some, is_none, slice_get, Vec}
use Rattle.std.specs.declared.alloc.Global.{Global}
use Rattle.page_types.specs.Tree.{Item}
use Rattle.lang_meaning.specs.Evaluation.{Function, functions_of}
use Rattle.lang_meaning.specs.OpNames.{op_named}
use Rattle.lang_ast.specs.declared.program.Program.{Program}
use Rattle.lang_ast.specs.SeenProgram.{seen_program}
use Rattle.lang_ast.specs.Programs.{function_names}
use Rattle.page_interp.specs.Places.{place_of}
use Rattle.page_interp.specs.Runs.{frame_names, global_names}

-- the function of a script with this number
abbrev pub function_at : Program → ℕ → Option Function
function_at script number = slice_get (functions_of (seen_program script).items) number

-- the names of the variables of each function among some items
abbrev pub frames_of : List Item → List (List (List ℕ))
frames_of items = map frame_names (functions_of items)

-- the names of the variables of each function of a script
abbrev pub names_of_frames : Program → List (List (List ℕ))
names_of_frames script = frames_of (seen_program script).items

-- a name is no operation's and none of the global variables'
abbrev pub is_own : (globals : List (List ℕ)) → (name : List ℕ) → Bool
is_own globals name = is_none (op_named name) && is_none (place_of globals name)

-- the function of a script at this place has such a name
abbrev pub HasOwnName : Program → ℕ → Type 0
HasOwnName script place =
    slice_get (map (is_own (global_names (seen_program script))) (function_names (seen_program script).items)) place
    ≡ Some true

-- the names that a script gives: those of its functions, of which some are marked as no others', of
-- its global variables, of the variables of its own body besides them, and of the variables of each
-- function
pub record AreNamesOf (script : Program) (functions : List (List ℕ)) (own : List Bool)
    (globals none : List (List ℕ)) (locals : List (List (List ℕ))) : Type 0 where
  pub functions_named : functions ≡ function_names (seen_program script).items
  pub own_marked : own ≡ map (is_own globals) functions
  pub globals_named : globals ≡ global_names (seen_program script)
  pub no_names : none ≡ []
  pub locals_named : locals ≡ names_of_frames script
  pub few : length functions < 2 ^ 32

-- these names come behind the old ones
abbrev pub Appends : (old new : Vec (List ℕ) Global) → List (List ℕ) → Type 0
Appends old new names = new.items ≡ old.items ++ names
