-- What is told of names by sets of them, whatever names the sets were made of.
use Rattle.std.specs.Prelude.{◌≡◌, ◌||◌, ℕ, Bool, List, [], ◌∷◌, ◌++◌, Option, None}
use Rattle.std.specs.Option.{option_map}
use Rattle.lang_ast.specs.Names as Model
use Rattle.lang_ast.specs.NameFaults.{is_declared_once, names_as, names_function, knows_variable, is_operation}
use Rattle.lang_ast.specs.NameFaults.{is_twice, is_unknown, fault_of}
use Rattle.lang_ast.specs.declared.role.Role.TheVariants as role
use Rattle.lang_names.specs.declared.fault.NameFault.{NameFault}
use Rattle.lang_names.specs.declared.names.Names.{Names}
use Rattle.lang_names.specs.declared.occurrence.Occurrence.{Occurrence}
use Rattle.lang_names.specs.Collected.{seen_occurrence}
use Rattle.lang_names.specs.Knows.{Knows}
use Rattle.lang_names.specs.Told.{seen_fault}

-- P of all names and of those before, where one set knows the former and another one the latter
abbrev pub WhereBothKnown : (all before : Names) → (P : List Model.Occurrence → List Model.Occurrence → Type 0) → Type 0
WhereBothKnown all before P =
    (os : List Model.Occurrence) (us : List Model.Occurrence) → Knows all os → Knows before us → P os us

-- a set knows this name too
abbrev pub Learns : (old new : Names) → Occurrence → Type 0
Learns old new o =
    (os : List Model.Occurrence) → Knows old os → Knows new (os ++ seen_occurrence o ∷ [])

-- whether one of these names x as a parameter or by a `var`, in this scope
abbrev pub names_declared : List Model.Occurrence → Option ℕ → List ℕ → Bool
names_declared all scope x = names_as is_declared_once all scope x

-- whether the name of a function was given before, or is an operation's
abbrev pub is_function_twice : (before : List Model.Occurrence) → List ℕ → Bool
is_function_twice before x = is_twice [] before role.Function None x

-- whether a name is an operation, a variable where it stands, or a function
abbrev pub is_callable : List Model.Occurrence → Option ℕ → List ℕ → Bool
is_callable all scope x = is_operation x || knows_variable all scope x || names_function all x

-- whether this name is given a second time
abbrev pub is_twice_at : (all before : List Model.Occurrence) → Occurrence → Bool
is_twice_at all before o = is_twice all before o.role o.scope o.name.now

-- whether this name is used, and stands for nothing of the kind
abbrev pub is_unknown_at : List Model.Occurrence → Occurrence → Bool
is_unknown_at all o = is_unknown all o.role o.scope o.name.now

-- what is told of this name is its fault, if it has one
abbrev pub TellsFault : Option NameFault → (all before : List Model.Occurrence) → Occurrence → Type 0
TellsFault told all before o = option_map seen_fault told ≡ fault_of all before (seen_occurrence o)
