-- What the map of ids and the rows of active timers keep.
use Rattle.std.specs.Prelude.{◌≡◌, ℕ, ◌<◌, ◌≤◌, ◌^◌, ⊤, Bool, true, ◌||◌, ◌&&◌, List, [], ◌∷◌, map, All, nat_eq, nat_lt}
use Rattle.std.specs.List.{IsDistinct, AllByRecursion}
use Rattle.std.specs.Map.{keys_of}
use Rattle.page_parts.specs.Timers.{ActiveTimer, TimerId}
use Rattle.timer_map.specs.Seen.{timers_of, ids_of}

-- a number that was given
abbrev pub Given : (last n : ℕ) → Type 0
Given last n = (0 < n) × (n ≤ last)

-- the numbers of items are distinct and among those that were given
pub record AreNumbered {X : Type 0} (number : X → ℕ) (last : ℕ) (items : List X) : Type 0 where
  pub distinct : IsDistinct nat_eq (map number items)
  pub given : All (λ item. Given last (number item)) items

-- a timer completes before another one: it is due earlier, or is due together and was started earlier
abbrev pub is_sooner : (a b : ActiveTimer) → Bool
is_sooner a b = nat_lt a.due b.due || (nat_eq a.due b.due && nat_lt a.start b.start)

-- each completes before those behind it
abbrev pub AreByDue : List ActiveTimer → Type 0
AreByDue [] = ⊤
AreByDue (t ∷ ts) = AllByRecursion (λ u. is_sooner t u ≡ true) ts × AreByDue ts

-- the timers have start numbers of their own, and stand in the order in which they come due
pub record IsKept (last : ℕ) (entries : List (ℕ × ℕ)) : Type 0 where
  pub numbered : AreNumbered (λ (t : ActiveTimer). t.start) last (timers_of entries)
  pub by_due : AreByDue (timers_of entries)

-- the ids are distinct and below 2 ^ 32, and stand by their handles
pub record AreIdsKept (last : ℕ) (entries : List (ℕ × ℕ)) : Type 0 where
  pub distinct : IsDistinct nat_eq (keys_of entries)
  pub small : All (λ (e : TimerId). e.id < 2 ^ 32) (ids_of entries)
  pub numbered : AreNumbered (λ (e : TimerId). e.handle) last (ids_of entries)

-- both
pub record AreKept (handles : ℕ) (entries : List (ℕ × ℕ)) (starts : ℕ) (timers : List (ℕ × ℕ)) : Type 0 where
  pub ids : AreIdsKept handles entries
  pub active : IsKept starts timers
