-- What variables hold, and what an assignment changes.
use Rattle.std.specs.Prelude.{◌≡◌, ◌++◌, ℕ, Bool, if◌then◌else◌, List, map, Option, Ok, Vec, length}
use Rattle.std.specs.declared.alloc.Global.{Global}
use Rattle.std.specs.Option.{option_map}
use Rattle.page_types.specs.Values as Model
use Rattle.page_types.specs.declared.FaultName.TheVariants.{TypeError}
use Rattle.page_parts.specs.Words.{is_there}
use Rattle.page_values.specs.declared.Value.{Value}
use Rattle.page_values.specs.declared.Value.TheVariants as held
use Rattle.page_values.specs.Seen.{seen}
use Rattle.lang_ast.specs.declared.program.Program.{Program}
use Rattle.lang_ast.specs.SeenProgram.{seen_program}
use Rattle.lang_meaning.specs.Machine as M
use Rattle.lang_meaning.specs.Machine.{value_in, with_value_in, or_else}
use Rattle.lang_meaning.specs.Evaluation.{functions_of, number_of, function_value, need, parameters_with, unit_variables}
use Rattle.page_interp.specs.declared.exit.Store.{Store}
use Rattle.page_interp.specs.Answers.{Answers}
use Rattle.page_interp.specs.NumberTests.{are_numbered_in}
use Rattle.page_interp.specs.Runs.{Left, variables_of, globals_in, count_of_functions}

-- the global variables of a script
abbrev pub globals_of : Program → Store → List M.Variable
globals_of script store = globals_in (seen_program script) store

-- each function that the global variables name is one of the script's, as a test
abbrev pub globals_are_numbered : Program → Store → Bool
globals_are_numbered script store =
    are_numbered_in (count_of_functions (seen_program script)) (globals_of script store)

-- what a variable of this name holds, among those with these names and values
abbrev pub value_at : (names : List (List ℕ)) (values : Vec Value Global) (name : List ℕ)
    → Option Model.Value
value_at names values name = value_in (variables_of names values.items) name

abbrev pub has_variable : (names : List (List ℕ)) (values : Vec Value Global) (name : List ℕ) → Bool
has_variable names values name = is_there (value_at names values name)

-- the variables with these names and values, where the one of this name has taken the value
abbrev pub written : (names : List (List ℕ)) (old : Vec Value Global)
    → (name : List ℕ) (value : Value) → List M.Variable
written names old name value = with_value_in (variables_of names old.items) name (seen value)

-- the variable of this name takes the value, where there is one
abbrev pub IsWritten : (names : List (List ℕ)) (old : Vec Value Global)
    → (name : List ℕ) (value : Value) (new : Vec Value Global) → Type 0
IsWritten names old name value new =
    variables_of names new.items ≡ written names old name value

-- a local variable takes the value, where there is one of this name
abbrev pub SetsLocal : (names : List (List ℕ)) (old : Vec Value Global)
    → (name : List ℕ) (value : Value) (new : Vec Value Global) → Type 0
SetsLocal names old name value new =
    variables_of names new.items ≡
    (if has_variable names old name then written names old name value else variables_of names old.items)

-- a global variable takes the value, where no local one has this name
abbrev pub SetsGlobal : (script : Program) (names : List (List ℕ)) (locals : Vec Value Global)
    → (old : Store) (name : List ℕ) (value : Value) (new : Store) → Type 0
SetsGlobal script names locals old name value new =
    globals_of script new ≡
    (if has_variable names locals name then globals_of script old
    else with_value_in (globals_of script old) name (seen value))

-- the same where the value is unit
abbrev pub EmptiesGlobal : (script : Program) (names : List (List ℕ)) (locals : Vec Value Global)
    → (old : Store) (name : List ℕ) (new : Store) → Type 0
EmptiesGlobal script names locals old name new =
    SetsGlobal script names locals old name held.Unit new

-- what a name stands for: a local variable, a global one or a function
abbrev pub named_in : (script : Program) (store : Store)
    → (names : List (List ℕ)) (locals : Vec Value Global) (name : List ℕ) → Option Model.Value
named_in script store names locals name =
    or_else (or_else (value_at names locals name) (value_in (globals_of script store) name))
    (function_value (number_of (functions_of (seen_program script).items) name))

-- the name stands for this, if for anything
abbrev pub StandsFor : (script : Program) (store : Store)
    → (names : List (List ℕ)) (locals : Vec Value Global) (name : List ℕ) → Option Value → Type 0
StandsFor script store names locals name o =
    option_map seen o ≡ named_in script store names locals name

-- the name is left with its value: TypeError where it stands for nothing
abbrev pub NameGives : {S : Type 0} (script : Program) (store : Store)
    → (names : List (List ℕ)) (locals : Vec Value Global) (name : List ℕ) → Left S → Type 0
NameGives script store names locals name l =
    Answers l (need (named_in script store names locals name) TypeError Ok)

-- the variables of a call, the first of them its parameters, have these arguments, and the others
-- are unit
abbrev pub AreFilled : (names : List (List ℕ)) (parameters : ℕ) (args : Vec Value Global)
    → Vec Value Global → Type 0
AreFilled names parameters args values =
    (xs ys : List (List ℕ)) → names ≡ xs ++ ys → parameters ≡ length xs →
    variables_of names values.items ≡ parameters_with xs (map seen args.items) ++ unit_variables ys
