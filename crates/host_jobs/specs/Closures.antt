-- A list of host closures: which are live, which numbers they take, and how they change.
use Rattle.std.specs.Prelude.{◌≡◌, ℕ, ℤ, Bool, true, false, ◌&&◌, int_le, List, Result, slice_get, slice_set, if◌then◌else◌}
use Rattle.std.specs.Option.{option_map_or}
use Rattle.page_types.specs.declared.HostKind.{HostKind}
use Rattle.page_types.specs.declared.HostMark.{HostMark}
use Rattle.page_types.specs.declared.HostMark.TheVariants.{Live, Queued, Fired, Dropped}
use Rattle.page_parts.specs.HostClosures.{HostClosure, meets, fired}

-- whether a closure may still be fired
abbrev pub is_live : HostMark → Bool
is_live Live = true
is_live Queued = false
is_live Fired = false
is_live Dropped = false

-- whether a number is in the closure's range
abbrev pub takes : HostClosure → ℤ → Bool
takes c x = int_le c.low x && int_le x c.high

-- the answer meets the relation of a kind
abbrev pub Meets : HostKind → ℤ → Result ℤ ℤ → Type 0
Meets kind x answer = meets kind x answer ≡ true

-- whether closure k is there and live
abbrev pub is_live_at : List HostClosure → ℕ → Bool
is_live_at cs k = option_map_or (λ c. is_live c.mark) (slice_get cs k) false

-- whether closure k is there and takes x
abbrev pub takes_at : List HostClosure → ℕ → ℤ → Bool
takes_at cs k x = option_map_or (λ c. takes c x) (slice_get cs k) false

-- whether closure k is there and the answer meets its kind's relation
abbrev pub meets_at : List HostClosure → ℕ → ℤ → Result ℤ ℤ → Bool
meets_at cs k x answer = option_map_or (λ c. meets c.kind x answer) (slice_get cs k) false

-- the closure after it was dropped
abbrev pub dropped : HostClosure → HostClosure
dropped c = record c { mark = Dropped }

-- the closure after it was given up: only a live one is dropped
abbrev pub after_drop : HostClosure → HostClosure
after_drop c = if is_live c.mark then dropped c else c

-- the closures after this change of closure k, where it is there
abbrev pub changed_at : (HostClosure → HostClosure) → List HostClosure → ℕ → List HostClosure
changed_at change cs k = option_map_or (λ c. slice_set cs k (change c)) (slice_get cs k) cs

-- the closures after k was fired
abbrev pub fired_at : List HostClosure → ℕ → List HostClosure
fired_at cs k = changed_at fired cs k

-- the closures after k was given up
abbrev pub dropped_at : List HostClosure → ℕ → List HostClosure
dropped_at cs k = changed_at after_drop cs k
