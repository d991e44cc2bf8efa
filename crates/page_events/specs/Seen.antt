-- Targets and listeners of the code as those of the definitions.
use Rattle.std.specs.Prelude.{◌≡◌, ℕ, List, map, Option, None, Some}
use Rattle.page_parts.specs.Words.{and_last}
use Rattle.page_parts.specs.Listeners as parts
use Rattle.page_events.specs.declared.target.Target.{Target}
use Rattle.page_events.specs.declared.target.Target.TheVariants.{Window, Signal}
use Rattle.keyed_list.specs.declared.keyed.Keyed.{Keyed}
use Rattle.page_events.specs.declared.listener.Kind.{Kind}

abbrev pub seen_target : Target → parts.Target
seen_target Window = parts.Window
seen_target (Signal n) = parts.AtSignal n

-- the target that is this signal, or the window where there is none
abbrev pub target_at : Option ℕ → parts.Target
target_at None = parts.Window
target_at (Some n) = parts.AtSignal n

-- a listener is the kind of its events, under its registration
abbrev pub listener_seen : Keyed Kind → parts.Listener
listener_seen l = record { registration = l.key; target = target_at l.item.signal; name = l.item.name.items }

-- listeners with their places, without them
abbrev pub listeners_of : List (ℕ × Keyed Kind) → List parts.Listener
listeners_of es = map (λ (e : ℕ × Keyed Kind). listener_seen e.1) es

-- there is one more listener, behind all others: of this kind, under this registration
abbrev pub AddsListener : (registration : ℕ) → Kind → (old new : List (ℕ × Keyed Kind)) → Type 0
AddsListener registration kind old new =
    listeners_of new ≡ and_last (listeners_of old) (listener_seen (record { key = registration; item = kind }))
