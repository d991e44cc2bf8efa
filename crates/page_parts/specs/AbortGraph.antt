-- Signals: their reasons and how they depend on one another. R is the type of a reason.
use Rattle.std.specs.Prelude.{ℕ, Bool, if◌then◌else◌, not, List, [], ◌∷◌, filter, length, Option, Some, None, ◌==◌}
use Rattle.page_parts.specs.Words.{and_last, without, has_number, numbered, with_numbered, is_empty, is_there}

-- ---- DOM, "Interface AbortSignal"

-- one signal: its abort reason, none while it is not aborted; its source signals; its dependent signals; its abort algorithms, each a
-- registration
pub record SignalRecord (R : Type 0) : Type 0 where
  pub reason : Option R
  pub sources : List ℕ
  pub dependents : List ℕ
  pub algorithms : List ℕ

-- the signals, in the order of their numbers
abbrev pub Signals : Type 0 → Type 0
Signals R = List (SignalRecord R)

-- a new signal
abbrev pub fresh_signal : {R : Type 0} → SignalRecord R
fresh_signal = record { reason = None; sources = []; dependents = []; algorithms = [] }

-- signal number s
abbrev pub the_signal : {R : Type 0} → Signals R → ℕ → SignalRecord R
the_signal ss s = numbered ss s fresh_signal

-- its abort reason
abbrev pub reason_of : {R : Type 0} → Signals R → ℕ → Option R
reason_of ss s = (the_signal ss s).reason

-- whether it is aborted
abbrev pub is_aborted : {R : Type 0} → Signals R → ℕ → Bool
is_aborted ss s = is_there (reason_of ss s)

-- a new signal; its number is the length of the list afterwards
abbrev pub make : {R : Type 0} → Signals R → Signals R
make ss = and_last ss fresh_signal

-- a new signal that is aborted already (AbortSignal.abort)
abbrev pub make_aborted : {R : Type 0} → R → Signals R → Signals R
make_aborted reason ss = and_last ss (record { reason = Some reason; sources = []; dependents = []; algorithms = [] })

-- ---- DOM, "Interface AbortSignal": create a dependent abort signal

-- the first reason among those of the signals
abbrev pub first_reason : {R : Type 0} → Signals R → List ℕ → Option R
first_reason ss [] = None
first_reason ss (s ∷ more) = elim (reason_of ss s) [ Some v ↦ Some v | None ↦ first_reason ss more ]

-- the sources through one signal: its own, or itself where it depends on none
abbrev pub sources_through : {R : Type 0} → Signals R → ℕ → List ℕ
sources_through ss s = if is_empty (the_signal ss s).sources then s ∷ [] else (the_signal ss s).sources

-- numbers, and more of them, each once
abbrev pub and_new : (known more : List ℕ) → List ℕ
and_new known [] = known
and_new known (s ∷ more) = and_new (if has_number known s then known else and_last known s) more

-- the sources through all signals of a list, after those that are known
abbrev pub all_sources : {R : Type 0} → Signals R → (known more : List ℕ) → List ℕ
all_sources ss known [] = known
all_sources ss known (s ∷ more) = all_sources ss (and_new known (sources_through ss s)) more

-- a new dependent signal joins the dependent signals of each of its sources
abbrev pub with_dependent : {R : Type 0} → ℕ → List ℕ → Signals R → Signals R
with_dependent d [] ss = ss
with_dependent d (s ∷ more) ss =
    with_dependent d more (with_numbered ss s (record (the_signal ss s) { dependents = and_last (the_signal ss s).dependents d }))

-- a new signal that depends on these sources
abbrev pub depend_on : {R : Type 0} → List ℕ → Signals R → Signals R
depend_on sources ss =
    let made = and_last ss (record { reason = None; sources = sources; dependents = []; algorithms = [] }) in
    with_dependent (length made) sources made

-- a dependent signal takes the reason of the first aborted one and has then no dependence. Otherwise it depends on the sources of all, each
-- once, in order.
abbrev pub any : {R : Type 0} → List ℕ → Signals R → Signals R
any of ss = elim (first_reason ss of) [ Some v ↦ make_aborted v ss | None ↦ depend_on (all_sources ss [] of) ss ]

-- ---- DOM, "Interface AbortSignal": signal abort

-- the signals that an abort of s sets the reason on: none where it is aborted, else s and each dependent that is not aborted
abbrev pub marked : {R : Type 0} → ℕ → Signals R → List ℕ
marked s ss = if is_aborted ss s then [] else s ∷ filter (λ d. not (is_aborted ss d)) (the_signal ss s).dependents

-- the reason is set on each of these signals
abbrev pub with_reason : {R : Type 0} → R → List ℕ → Signals R → Signals R
with_reason reason [] ss = ss
with_reason reason (s ∷ more) ss = with_reason reason more (with_numbered ss s (record (the_signal ss s) { reason = Some reason }))

-- ---- DOM, "Interface AbortSignal": adding and removing an abort algorithm

-- a signal with these algorithms
abbrev pub with_algorithms : {R : Type 0} → ℕ → List ℕ → Signals R → Signals R
with_algorithms s as' ss = with_numbered ss s (record (the_signal ss s) { algorithms = as' })

-- an algorithm is added at the end
abbrev pub add_algorithm : {R : Type 0} → (s a : ℕ) → Signals R → Signals R
add_algorithm s a ss = with_algorithms s (and_last (the_signal ss s).algorithms a) ss

-- an algorithm is removed
abbrev pub remove_algorithm : {R : Type 0} → (s a : ℕ) → Signals R → Signals R
remove_algorithm s a ss = with_algorithms s (without (λ b. b == a) (the_signal ss s).algorithms) ss
