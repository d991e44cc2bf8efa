-- Task sources in an order of their own.
use Rattle.std.specs.Prelude.{ℕ, Bool, List, [], ◌∷◌, ◌==◌}
use Rattle.page_types.specs.declared.Source.{Source}
use Rattle.page_types.specs.declared.Source.TheVariants.{User, Net, Dom, Timer, Render, Sched, Idle}

-- ---- HTML, "Generic task sources". Ours: how they are ordered

-- the default list, which decides where a policy names no order of its own
abbrev pub default_list : List Source
default_list = User ∷ Render ∷ Sched ∷ Timer ∷ Net ∷ Dom ∷ Idle ∷ []

-- the place of a source in the default list, from 0
abbrev pub source_number : Source → ℕ
source_number User = 0
source_number Render = 1
source_number Sched = 2
source_number Timer = 3
source_number Net = 4
source_number Dom = 5
source_number Idle = 6

-- whether two sources are the same
abbrev pub same_source : (a b : Source) → Bool
same_source a b = source_number a == source_number b
