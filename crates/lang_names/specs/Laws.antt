-- What the rules of names come to: each name that is used is known, and in a text the first fault is the one at the least byte.
use Rattle.std.specs.Prelude.{◌≡◌, ◌≤◌, ℕ, Bool, true, ◌||◌, List, Option, Some, slice_get}
use Rattle.page_types.specs.Tree.{Item}
use Rattle.lang_ast.specs.declared.role.Role.{Role}
use Rattle.lang_ast.specs.declared.role.Role.TheVariants as role
use Rattle.lang_ast.specs.Calls.{CallFits}
use Rattle.lang_ast.specs.Names.{Occurrence, occurrences, Rise}
use Rattle.lang_ast.specs.NameFaults.{Fault, UnknownAt, TwiceAt, ArityAt, fault_at, IsFirstFault, IsResolved, knows_variable, names_function, is_operation}

-- ---- Ours: the rules of names in the script language

-- what is read is a variable or a function, what is called may be an operation too, and what is assigned is a variable
abbrev pub is_known : List Occurrence → Role → Option ℕ → List ℕ → Bool
is_known all role.Read scope x = knows_variable all scope x || names_function all x
is_known all (role.Called n) scope x = is_operation x || knows_variable all scope x || names_function all x
is_known all role.Assigned scope x = knows_variable all scope x
is_known all r scope x = true

-- in a resolved script each name is known, and each operation has its number of arguments
abbrev pub AllKnown : Type 0
AllKnown =
    (items : List Item) (place : ℕ) (o : Occurrence) → IsResolved items → slice_get (occurrences items) place ≡ Some o →
    (is_known (occurrences items) o.mention.role o.scope o.mention.name ≡ true) × CallFits o.mention.role o.mention.name

abbrev pub byte_of : Fault → ℕ
byte_of (UnknownAt at) = at
byte_of (TwiceAt at) = at
byte_of (ArityAt at) = at

-- where the names stand at rising bytes, no fault stands before the first one
abbrev pub FirstIsLeast : Type 0
FirstIsLeast =
    (all : List Occurrence) (first other : Fault) (place : ℕ) → Rise all → IsFirstFault all first → fault_at all place ≡ Some other
    → byte_of first ≤ byte_of other
