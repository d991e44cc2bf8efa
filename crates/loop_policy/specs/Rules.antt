-- The rules of the two choosers: which source is served, and what is held then.
use Rattle.std.specs.Prelude.{ℕ, if◌then◌else◌, List, [], ◌∷◌, replicate, Option, Some, None}
use Rattle.page_types.specs.declared.Source.{Source}
use Rattle.page_parts.specs.Setup.{Policy, Fifo, Rank, Fair}
use Rattle.page_parts.specs.WrittenChoices.{Runnable, is_runnable, policy_source, counts_now, counts_after}
use Rattle.loop_policy.specs.Policies.{PolicyState}

-- ---- HTML, "Event loops: processing model" leaves open which task queue is served. Ours: the policies by which it is chosen

-- the counts after a choice. Only a fair policy reads them, so only it counts.
abbrev pub counts_left : Policy → List ℕ → List Runnable → Source → List ℕ
counts_left Fifo counts rs chosen = counts
counts_left (Rank sources) counts rs chosen = counts
counts_left (Fair k) counts rs chosen = counts_after rs chosen (counts_now rs counts)

-- a chooser before its first choice
abbrev pub first_state : Policy → PolicyState
first_state policy = record { policy = policy; counts = replicate 7 0 }

-- the source that the policy gives
abbrev pub policy_choice : PolicyState → List Runnable → Option (Source × PolicyState)
policy_choice held rs =
    let chosen = policy_source held.policy held.counts rs in
    Some (chosen, record { policy = held.policy; counts = counts_left held.policy held.counts rs chosen })

-- the next source of the list, where it has a runnable task
abbrev pub kept_choice : List Source → List Runnable → Option (Source × List Source)
kept_choice [] rs = None
kept_choice (pick ∷ picks) rs = if is_runnable rs pick then Some (pick, picks) else None
