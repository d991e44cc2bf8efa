-- How far a choice has come, and what bounds the counts of a fair policy.
use Rattle.std.specs.Prelude.{◌≡◌, ℕ, suc, ◌+◌, ◌≤◌, ⊤, if◌then◌else◌, List, ◌∷◌, Option, Some, None, count_by, nat_le}
use Rattle.page_types.specs.declared.Source.{Source}
use Rattle.page_parts.specs.Setup.{Policy, Fifo, Rank, Fair}
use Rattle.page_parts.specs.Sources.{default_list, same_source}
use Rattle.page_parts.specs.WrittenChoices.{Runnable, is_runnable, count_of, least_first, by_fifo, greatest_from, greatest}
use Rattle.loop_policy.specs.declared.policy_chooser.Waiting.{Waiting}

-- a source that waits, as one with a runnable task
abbrev pub seen_waiting : Waiting → Runnable
seen_waiting waiting = record { source = waiting.source; first = waiting.first }

-- the source of least first task, where one has been found already and these are left
abbrev pub fifo_behind : Option Waiting → List Runnable → Source
fifo_behind None rs = by_fifo rs
fifo_behind (Some oldest) rs = least_first oldest.source oldest.first rs

-- the source of greatest count, where one has been found already and these are left
abbrev pub greatest_behind : List ℕ → Option Source → List Source → Option Source
greatest_behind counts None sources = greatest counts sources
greatest_behind counts (Some chosen) sources = Some (greatest_from counts chosen sources)

-- the source of greatest count of another one and the one that has been found already, where there is one
abbrev pub IsGreatest : List ℕ → (found : Option Source) → (other result : Source) → Type 0
IsGreatest counts found other result =
    (sources : List Source) → greatest_behind counts (Some result) sources ≡ greatest_behind counts found (other ∷ sources)

-- the count of a source after a choice: 0 for the chosen source, one more for another one with a runnable task
abbrev pub next_count : List Runnable → (chosen : Source) → List ℕ → (source : Source) → ℕ
next_count rs chosen counts source =
    if same_source source chosen then 0 else if is_runnable rs source then suc (count_of counts source) else 0

-- At most six sources have a count of K, five of K + 1, and so on: at a choice with some such the greatest of them becomes 0.
abbrev pub AreBelow : Policy → List ℕ → Type 0
AreBelow Fifo counts = ⊤
AreBelow (Rank sources) counts = ⊤
AreBelow (Fair k) counts = (j : ℕ) → j ≤ 6 → count_by (λ s. nat_le (k + j) (count_of counts s)) default_list + j ≤ 6
