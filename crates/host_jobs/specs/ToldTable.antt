-- What is told of a table of closures.
use Rattle.std.specs.Prelude.{ℤ, List, map, Result}
use Rattle.page_parts.specs.HostClosures.{HostClosure}
use Rattle.host_jobs.specs.declared.table.HostTable.{HostTable}
use Rattle.host_jobs.specs.ToldClosure.{told}
use denote.Param.Members.{Mut}

-- the closures of a table, in the order of their numbers, whatever Rust closures it holds
abbrev pub closures_of : {X : Type 0} {F : X → Type 0} {calls : Mut ((x : X) × F x) (ℤ × Unit {0}) (Result ℤ ℤ)} → HostTable X F calls
    → List HostClosure
closures_of table = map (λ slot. told slot.closure) table.slots.items
