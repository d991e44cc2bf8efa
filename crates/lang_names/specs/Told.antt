-- What a fault of a name is seen as, and which one is told.
use Rattle.std.specs.Prelude.{List, Option, Some, None}
use Rattle.lang_ast.specs.Names.{Occurrence, occurrences}
use Rattle.lang_ast.specs.NameFaults.{Fault, UnknownAt, TwiceAt, ArityAt, IsFirstFault, HasNoFault}
use Rattle.lang_ast.specs.Seen.{seen_tree}
use Rattle.lang_ast.specs.declared.tree.Tree.{Tree}
use Rattle.lang_names.specs.declared.fault.NameFault.{NameFault}
use Rattle.lang_names.specs.declared.fault.NameFault.TheVariants as fault

abbrev pub seen_fault : NameFault → Fault
seen_fault (fault.Unknown at) = UnknownAt at
seen_fault (fault.Twice at) = TwiceAt at
seen_fault (fault.Arity at) = ArityAt at

-- the first fault of these names, or nothing where none has one
abbrev pub IsTold : List Occurrence → Option Fault → Type 0
IsTold all None = HasNoFault all
IsTold all (Some fault) = IsFirstFault all fault

-- the first fault of the names of a tree
abbrev pub IsFirstFaultOf : Tree → NameFault → Type 0
IsFirstFaultOf tree f = IsFirstFault (occurrences (seen_tree tree)) (seen_fault f)
