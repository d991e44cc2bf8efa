-- Which names of a script are faults, and which of the faults is the first.
use Rattle.std.specs.Prelude.{◌≡◌, ℕ, ◌<◌, Bool, true, false, if◌then◌else◌, not, ◌&&◌, ◌||◌, List, [], ◌∷◌, Option, Some, None, ◌==◌, take, slice_get}
use Rattle.page_types.specs.Tree.{Item}
use Rattle.page_types.specs.declared.Op.{Op}
use Rattle.page_parts.specs.Words.{same_bytes, is_there}
use Rattle.lang_meaning.specs.OpNames.{op_named}
use Rattle.lang_ast.specs.declared.role.Role.{Role}
use Rattle.lang_ast.specs.declared.role.Role.TheVariants as role
use Rattle.lang_ast.specs.Operations.{count_of}
use Rattle.lang_ast.specs.Names.{Occurrence, occurrences}

-- ---- Ours: the rules of names in the script language

-- what is wrong with a name, and the byte at which it stands
pub data Fault : Type 0 where
  UnknownAt : ℕ → Fault
  TwiceAt : ℕ → Fault
  ArityAt : ℕ → Fault

abbrev pub is_function : Role → Bool
is_function role.Function = true
is_function r = false

-- a parameter, a `var` and a `catch` name a variable
abbrev pub is_variable : Role → Bool
is_variable role.Parameter = true
is_variable role.Variable = true
is_variable role.Caught = true
is_variable r = false

-- a parameter counts as a `var`; a `catch` may name a variable again
abbrev pub is_declared_once : Role → Bool
is_declared_once role.Parameter = true
is_declared_once role.Variable = true
is_declared_once r = false

abbrev pub same_scope : (s t : Option ℕ) → Bool
same_scope None None = true
same_scope (Some n) (Some m) = n == m
same_scope s t = false

-- whether one of these names x as something of this kind, in this scope
abbrev pub names_as : (Role → Bool) → List Occurrence → Option ℕ → List ℕ → Bool
names_as kind [] scope x = false
names_as kind (o ∷ os) scope x =
    (kind o.mention.role && same_scope o.scope scope && same_bytes o.mention.name x) || names_as kind os scope x

-- whether a function has this name
abbrev pub names_function : List Occurrence → List ℕ → Bool
names_function all x = names_as is_function all None x

-- Whether x is a variable where it stands in this scope: a local variable of the function, known in all of it, or a
-- global one, known in the whole script.
abbrev pub knows_variable : List Occurrence → Option ℕ → List ℕ → Bool
knows_variable all scope x = names_as is_variable all scope x || names_as is_variable all None x

abbrev pub is_operation : List ℕ → Bool
is_operation x = is_there (op_named x)

-- Whether the name of a variable clashes with a function's: outside functions it is the second one, inside a function
-- any function of the script.
abbrev pub clashes : (all before : List Occurrence) → Option ℕ → List ℕ → Bool
clashes all before None x = names_function before x
clashes all before (Some n) x = names_function all x

-- Whether a name is given a second time, or given though it is an operation's or a function's: `all` are the names of
-- the script, `before` those that stand before it.
abbrev pub is_twice : (all before : List Occurrence) → Role → Option ℕ → List ℕ → Bool
is_twice all before role.Function scope x = is_operation x || names_function before x || names_as is_variable before None x
is_twice all before role.Parameter scope x = is_operation x || clashes all before scope x || names_as is_declared_once before scope x
is_twice all before role.Variable scope x = is_operation x || clashes all before scope x || names_as is_declared_once before scope x
is_twice all before role.Caught scope x = is_operation x || clashes all before scope x
is_twice all before r scope x = false

-- Whether a name is used that stands for nothing of the kind: what is read is a variable or a function, what is called
-- may be an operation too, and what is assigned is a variable. An operation's name is no other name.
abbrev pub is_unknown : List Occurrence → Role → Option ℕ → List ℕ → Bool
is_unknown all role.Read scope x = is_operation x || not (knows_variable all scope x || names_function all x)
is_unknown all (role.Called n) scope x = not (is_operation x || knows_variable all scope x || names_function all x)
is_unknown all role.Assigned scope x = is_operation x || not (knows_variable all scope x)
is_unknown all r scope x = false

abbrev pub is_other_count : Option Op → ℕ → Bool
is_other_count None n = false
is_other_count (Some op) n = not (n == count_of op)

-- whether an operation is called with another number of arguments than it has
abbrev pub is_arity : Role → List ℕ → Bool
is_arity (role.Called n) x = is_other_count (op_named x) n
is_arity r x = false

-- The fault of a name, if there is one. No name has two: one that is given can only be given twice, one that is used
-- is unknown, or an operation that is called.
abbrev pub fault_of : (all before : List Occurrence) → Occurrence → Option Fault
fault_of all before o =
    if is_twice all before o.mention.role o.scope o.mention.name then Some (TwiceAt o.mention.at)
    else if is_unknown all o.mention.role o.scope o.mention.name then Some (UnknownAt o.mention.at)
    else if is_arity o.mention.role o.mention.name then Some (ArityAt o.mention.at) else None

abbrev pub fault_in : (all before : List Occurrence) → Option Occurrence → Option Fault
fault_in all before None = None
fault_in all before (Some o) = fault_of all before o

-- the fault of the name with this place among all names, counted from 0
abbrev pub fault_at : List Occurrence → ℕ → Option Fault
fault_at all place = fault_in all (take place all) (slice_get all place)

-- the first fault of these names, which stand in the order of the text: no name before it has one
pub record IsFirstFault (all : List Occurrence) (fault : Fault) : Type 0 where
  pub place : ℕ
  pub here : fault_at all place ≡ Some fault
  pub first : (other : ℕ) → other < place → fault_at all other ≡ None

-- no name has a fault
abbrev pub HasNoFault : List Occurrence → Type 0
HasNoFault all = (place : ℕ) → fault_at all place ≡ None

-- a script's names are resolved where none of them has a fault
abbrev pub IsResolved : List Item → Type 0
IsResolved items = HasNoFault (occurrences items)
