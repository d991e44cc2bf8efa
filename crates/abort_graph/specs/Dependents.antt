-- A new signal of any reason and sources, and how a dependent signal joins its sources and leaves them.
use Rattle.std.specs.Prelude.{◌≡◌, ℕ, ◌-◌, List, [], take, length, Option}
use Rattle.page_parts.specs.Words.{with_numbered, and_last}
use Rattle.page_parts.specs.AbortGraph.{SignalRecord, Signals, the_signal, with_dependent}

-- ---- DOM, "Interface AbortSignal"

-- a new signal, with its reason where it is aborted, and its source signals
abbrev pub new_signal : {R : Type 0} → Option R → (sources : List ℕ) → SignalRecord R
new_signal reason sources = record { reason = reason; sources = sources; dependents = []; algorithms = [] }

-- signal number s has these dependent signals
abbrev pub with_dependents : {R : Type 0} → (s : ℕ) → (dependents : List ℕ) → Signals R → Signals R
with_dependents s dependents ss = with_numbered ss s (record (the_signal ss s) { dependents = dependents })

-- ---- Ours: where memory is wanting, a signal leaves the sources that it has joined

-- all but the last one
abbrev pub but_last : List ℕ → List ℕ
but_last numbers = take (length numbers - 1) numbers

-- a dependent signal that joined each of these sources has left them: all is as it was before
abbrev pub HasLeft : {R : Type 0} → (sources : List ℕ) → (old new : Signals R) → Type 0
HasLeft {R} sources old new = (d : ℕ) (before : Signals R) → old ≡ with_dependent d sources before → new ≡ before

-- and the signal that was made last is gone: all is as it was before it was made
abbrev pub HasGone : {R : Type 0} → (old new : Signals R) → Type 0
HasGone {R} old new = (q : SignalRecord R) (before : Signals R) → old ≡ and_last before q → new ≡ before
