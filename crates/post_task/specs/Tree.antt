-- A tree of places in one list: below node n stand the nodes 2 n + 1 and 2 n + 2. Ours: the standards do not say how a queue is selected.
use Rattle.std.specs.Prelude.{◌≡◌, ◌≢◌, ℕ, ◌+◌, ◌*◌, if◌then◌else◌, List, Option, Some, None, slice_index_or, slice_set}
use Rattle.std.specs.Option.{option_map}
use Rattle.post_task.specs.declared.tournament.Head.{Head}
use Rattle.post_task.specs.declared.tournament.Winner.{Winner}
use Rattle.post_task.specs.declared.tournament.Node.{Node}
use Rattle.post_task.specs.Tournament.{goes_before}

-- the one that goes first of two, and the former where neither does
abbrev pub better : (old new : Option Winner) → Option Winner
better None new = new
better (Some old) None = Some old
better (Some old) (Some new) = if goes_before new.head old.head then Some new else Some old

-- the head of a node's place
abbrev pub own_of : Node → Option Head
own_of node = node.own

-- a node that says nothing, as where there is none
abbrev pub no_node : Node
no_node = record { own = None; best = None }

abbrev pub node_at : List Node → ℕ → Node
node_at nodes at = slice_index_or nodes at no_node

-- the head of a node's place, with that place
abbrev pub own_at : List Node → ℕ → Option Winner
own_at nodes at = option_map (λ head. record { place = at; head = head }) (node_at nodes at).own

-- the winner from a node downwards as the node says
abbrev pub best_at : List Node → ℕ → Option Winner
best_at nodes at = (node_at nodes at).best

-- the one that goes first of its own and the winners of the two nodes below
abbrev pub champion : List Node → ℕ → Option Winner
champion nodes at = better (own_at nodes at) (better (best_at nodes (2 * at + 1)) (best_at nodes (2 * at + 2)))

-- a node is right: it says who goes first from it downwards
abbrev pub IsRightAt : List Node → ℕ → Type 0
IsRightAt nodes at = best_at nodes at ≡ champion nodes at

-- each node is right
abbrev pub IsRight : List Node → Type 0
IsRight nodes = (at : ℕ) → IsRightAt nodes at

-- each node but this one is right
abbrev pub IsRightBut : ℕ → List Node → Type 0
IsRightBut skip nodes = (at : ℕ) → at ≢ skip → IsRightAt nodes at

-- one node is made right
abbrev pub mended : List Node → ℕ → List Node
mended nodes at = slice_set nodes at (record (node_at nodes at) { best = champion nodes at })
