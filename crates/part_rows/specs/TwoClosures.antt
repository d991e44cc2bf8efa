-- The two closures of the examples of ports, as they are told at first.
use Rattle.std.specs.Prelude.{List, [], ◌∷◌, pos, negsuc}
use Rattle.page_types.specs.declared.HostKind.TheVariants.{Double, Any}
use Rattle.page_types.specs.declared.HostMark.TheVariants.{Live}
use Rattle.page_parts.specs.HostClosures.{HostClosure}

-- one doubles a number from -100 to 100
abbrev pub doubling_closure : HostClosure
doubling_closure = record { kind = Double; low = negsuc 99; high = pos 100; mark = Live }

-- and one answers on a number from 0 to 9, whatever the answer is
abbrev pub answering_closure : HostClosure
answering_closure = record { kind = Any; low = pos 0; high = pos 9; mark = Live }

-- both, in the order of their numbers
abbrev pub both_closures : List HostClosure
both_closures = doubling_closure ∷ answering_closure ∷ []
