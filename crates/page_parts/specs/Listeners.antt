-- Listeners.
use Rattle.std.specs.Prelude.{ℕ, Bool, true, false, ◌&&◌, List, map, filter, ◌==◌}
use Rattle.page_parts.specs.Words.{and_last, without, has_number, same_bytes}

-- ---- DOM, "Interface EventTarget" and "Dispatching events". Ours: at one target, with no bubbling

-- what events are fired at: the window, or a signal by its number
pub data Target : Type 0 where
  Window : Target
  AtSignal : ℕ → Target

-- an event listener: its registration, its target and the name of its events
pub record Listener : Type 0 where
  pub registration : ℕ
  pub target : Target
  pub name : List ℕ

-- whether two targets are the same
abbrev pub same_target : (a b : Target) → Bool
same_target Window Window = true
same_target (AtSignal a) (AtSignal b) = a == b
same_target a b = false

-- a listener is added at the end of the list; each call adds one
abbrev pub add : Target → List ℕ → ℕ → List Listener → List Listener
add target name r ls = and_last ls (record { registration = r; target = target; name = name })

-- a listener is removed
abbrev pub off : ℕ → List Listener → List Listener
off r ls = without (λ l. l.registration == r) ls

-- the listeners of a target and name as they are now, in the order of their numbers
abbrev pub snapshot : Target → List ℕ → List Listener → List ℕ
snapshot target name ls = map (λ l. l.registration) (filter (λ l. same_target l.target target && same_bytes l.name name) ls)

-- whether a listener has not been removed
abbrev pub is_listening : ℕ → List Listener → Bool
is_listening r ls = has_number (map (λ l. l.registration) ls) r
