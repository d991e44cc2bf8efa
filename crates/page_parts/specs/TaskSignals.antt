-- Signals with a priority.
use Rattle.std.specs.Prelude.{ℕ, Bool, true, false, if◌then◌else◌, List, [], ◌∷◌, Option, Some, None, ◌==◌, find, option_map}
use Rattle.page_types.specs.declared.Priority.{Priority}
use Rattle.page_types.specs.declared.Priority.TheVariants.{Background, UserVisible, UserBlocking}
use Rattle.page_parts.specs.Words.{and_last}

-- ---- Prioritized Task Scheduling, "The TaskSignal Interface"

-- a signal with a priority: the priority now; the signal that it follows; the signals that follow it; whether its priority is being changed
pub record PrioRecord : Type 0 where
  pub signal : ℕ
  pub priority : Priority
  pub follows : Option ℕ
  pub followers : List ℕ
  pub changing : Bool

-- the signals that were given a priority, in the order in which they were given one
abbrev pub Prios : Type 0
Prios = List PrioRecord

-- priorities in their order: background is the least, user-blocking the greatest
abbrev pub rank : Priority → ℕ
rank Background = 0
rank UserVisible = 1
rank UserBlocking = 2

-- whether two priorities are equal
abbrev pub same_priority : (a b : Priority) → Bool
same_priority a b = rank a == rank b

-- the record of a signal that has a priority
abbrev pub record_of : Prios → ℕ → Option PrioRecord
record_of ps s = find (λ r. r.signal == s) ps

-- its priority now
abbrev pub priority_of : Prios → ℕ → Option Priority
priority_of ps s = option_map (λ r. r.priority) (record_of ps s)

-- whether its priority is being changed (the draft's "priority changing")
abbrev pub is_changing : Prios → ℕ → Bool
is_changing ps s = elim (record_of ps s) [ None ↦ false | Some r ↦ r.changing ]

-- the signal that it follows
abbrev pub followed : Prios → ℕ → Option ℕ
followed ps s = elim (record_of ps s) [ None ↦ None | Some r ↦ r.follows ]

-- the signals that follow it
abbrev pub followers : Prios → ℕ → List ℕ
followers ps s = elim (record_of ps s) [ None ↦ [] | Some r ↦ r.followers ]

-- the record of one signal is changed
abbrev pub changed_at : ℕ → (PrioRecord → PrioRecord) → Prios → Prios
changed_at s f [] = []
changed_at s f (r ∷ rs) = (if r.signal == s then f r else r) ∷ changed_at s f rs

-- a signal is given its first priority
abbrev pub give : ℕ → Priority → Prios → Prios
give s priority ps = and_last ps (record { signal = s; priority = priority; follows = None; followers = []; changing = false })

-- ---- Prioritized Task Scheduling, "The TaskSignal Interface": create a dependent task signal: following is apart from the dependence for
-- aborts

-- s follows another signal from now on
abbrev pub depend : (s on : ℕ) → Prios → Prios
depend s on ps =
    changed_at s (λ r. record r { follows = Some on }) (changed_at on (λ r. record r { followers = and_last r.followers s }) ps)

-- ---- Prioritized Task Scheduling, "The TaskSignal Interface": signal priority change

-- a change begins: the new priority is set, and the change is in progress
abbrev pub begun : ℕ → Priority → Prios → Prios
begun s priority ps = changed_at s (λ r. record r { priority = priority; changing = true }) ps

-- a change ends
abbrev pub ended : ℕ → Prios → Prios
ended s ps = changed_at s (λ r. record r { changing = false }) ps
