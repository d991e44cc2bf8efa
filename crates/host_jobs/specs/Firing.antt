-- What a table of closures answers when closure k is to be fired on x.
use Rattle.std.specs.Prelude.{◌≡◌, ℕ, ℤ, Bool, true, false, List, Option, Some, None, Result, slice_get}
use Rattle.page_types.specs.declared.HostMark.{HostMark}
use Rattle.page_types.specs.declared.HostMark.TheVariants as mark
use Rattle.page_parts.specs.HostClosures.{HostClosure, meets}
use Rattle.host_jobs.specs.Closures.{takes, fired_at}
use Rattle.host_jobs.specs.declared.answer.Fired.{Fired}
use Rattle.host_jobs.specs.declared.answer.Fired.TheVariants.{Answer, Used, Unknown, OutOfRange}

-- the answer of a live closure, by whether the number is in its range
abbrev pub FiresIn : Bool → HostClosure → ℤ → Fired → Type 0
FiresIn true c x result = (answer : Result ℤ ℤ) × (result ≡ Answer answer) × (meets c.kind x answer ≡ true)
FiresIn false c x result = result ≡ OutOfRange

-- the answer of a closure of the table, by its mark: none is queued there
abbrev pub FiresMarked : HostMark → HostClosure → ℤ → Fired → Type 0
FiresMarked mark.Live c x result = FiresIn (takes c x) c x result
FiresMarked mark.Queued c x result = ⊥
FiresMarked mark.Fired c x result = result ≡ Used
FiresMarked mark.Dropped c x result = result ≡ Used

-- the answer of a closure, by whether it is in the table
abbrev pub FiresAt : Option HostClosure → ℤ → Fired → Type 0
FiresAt None x result = result ≡ Unknown
FiresAt (Some c) x result = FiresMarked c.mark c x result

-- the answer of closure k on x
abbrev pub Fires : List HostClosure → ℕ → ℤ → Fired → Type 0
Fires cs k x result = FiresAt (slice_get cs k) x result

-- the closures after a call that was to fire k: only an answer fires it
abbrev pub closures_after : List HostClosure → ℕ → Fired → List HostClosure
closures_after cs k (Answer answer) = fired_at cs k
closures_after cs k Used = cs
closures_after cs k Unknown = cs
closures_after cs k OutOfRange = cs
