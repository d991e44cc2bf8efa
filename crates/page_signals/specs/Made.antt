-- What is left where memory is wanting.
use Rattle.std.specs.Prelude.{◌≡◌, ◌⊎◌, ℕ, List, [], ◌∷◌, ◌++◌, length, Some, None}
use Rattle.page_types.specs.Values.{Value}
use Rattle.page_values.specs.declared.Value as code
use Rattle.page_parts.specs.AbortGraph.{Signals, reason_of}
use Rattle.page_folds.specs.AtRest.{at_rest}
use Rattle.page_signals.specs.Signalling.{Signalling}
use Rattle.page_signals.specs.Steps.{reason_set}

-- where an abort is not opened, no further fold is open, and the reason may be set
abbrev pub AbortLeaves : ℕ → Value → (before after : Signalling) → Type 0
AbortLeaves s reason before after = (after ≡ before) ⊎ (after ≡ reason_set s reason before)

-- The number of the reason that a signal has once it is aborted: its own one, or that of a reason which is put behind the others.
abbrev pub IsNumbered : ℕ → Signals ℕ → (old : List code.Value) → code.Value → (number : ℕ) → (new : List code.Value) → Type 0
IsNumbered s ss old reason number new =
    ((reason_of ss s ≡ Some number) × (new ≡ old))
    ⊎ ((reason_of ss s ≡ None) × (number ≡ length old) × (new ≡ old ++ reason ∷ []))

-- Where a fold has no next step, no signal, no listener and no open fold is left. Each signal that had a priority has it, and changes may
-- have ended.
pub record LeavesPriorities (before after : Signalling) : Type 0 where
  pub signals : after.signals ≡ []
  pub listeners : after.listeners ≡ []
  pub folds : after.folds ≡ []
  pub prios : at_rest after.prios ≡ at_rest before.prios
