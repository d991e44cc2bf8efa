-- The host closures of a page, as they are told. Ours: what a page knows of the Rust closures that its script may ask
use Rattle.std.specs.Prelude.{◌≡◌, ◌≢◌, ◌≤◌, ◌^◌, ℕ, ℤ, pos, negsuc, Bool, true, false, IsTrue}
use Rattle.std.specs.Prelude.{List, length, Option, Some, None, Result, slice_get, slice_set}
use Rattle.std.specs.List.{list_all}
use Rattle.std.specs.Option.{option_map_or}
use Rattle.page_types.specs.declared.HostMark.{HostMark}
use Rattle.page_types.specs.declared.HostMark.TheVariants.{Live, Queued, Fired, Dropped}
use Rattle.page_parts.specs.HostClosures.{HostClosure, fired}
use Rattle.host_jobs.specs.Overlay.{IsLiveOrDropped}
use Rattle.page_model.specs.Operations.{is_fresh, queued_mark}
use Rattle.page_model.specs.PageSignals.{drop_at}

-- the closures in the order of their numbers, the same as the port has them so far, which drops none before it is handed back, the answers
-- that are still kept, where they are told, and how often an answer was refused
pub record Hosts : Type 0 where
  pub closures : List HostClosure
  pub at_port : List HostClosure
  pub kept : Option (List (Result ℤ ℤ))
  pub refusals : ℕ

-- closures of which the page has changed none, with what is kept and how often an answer was refused
abbrev pub at_first : List HostClosure → (kept : Option (List (Result ℤ ℤ))) → (refusals : ℕ) → Hosts
at_first closures kept refusals = record { closures = closures; at_port = closures; kept = kept; refusals = refusals }

-- ---- one closure by its number

-- the closure of a number that a script gives
abbrev pub closure_in : List HostClosure → ℤ → Option HostClosure
closure_in hosts (pos k) = slice_get hosts k
closure_in hosts (negsuc k) = None

-- whether closure k is there and was never asked
abbrev pub is_fresh_at : List HostClosure → ℕ → Bool
is_fresh_at hosts k = option_map_or (λ c. is_fresh c.mark) (slice_get hosts k) false

-- closure k, where it is there, was not fired
abbrev pub IsUnfired : List HostClosure → ℕ → Type 0
IsUnfired hosts k = (c : HostClosure) → slice_get hosts k ≡ Some c → c.mark ≢ Fired

-- closure number k is asked, where there is one
abbrev pub ask_at : ℕ → Option HostClosure → List HostClosure → List HostClosure
ask_at k None hosts = hosts
ask_at k (Some c) hosts = slice_set hosts k (queued_mark c)

-- the same, with all else as it was
abbrev pub with_asked : ℕ → Hosts → Hosts
with_asked k hosts = record hosts { closures = ask_at k (slice_get hosts.closures k) hosts.closures }

-- closure number k is dropped, with all else as it was
abbrev pub with_dropped : ℕ → Hosts → Hosts
with_dropped k hosts = record hosts { closures = drop_at k (slice_get hosts.closures k) hosts.closures }

-- closure number k is fired, where there is one
abbrev pub fire_at : ℕ → Option HostClosure → List HostClosure → List HostClosure
fire_at k None hosts = hosts
fire_at k (Some c) hosts = slice_set hosts k (fired c)

-- closure k is there and was asked, and has not answered
abbrev pub IsQueued : List HostClosure → ℕ → Type 0
IsQueued hosts k = (c : HostClosure) × (slice_get hosts k ≡ Some c) × (c.mark ≡ Queued)

-- ---- what a port tells

-- whether a mark is another than that of a closure that was asked
abbrev pub is_unqueued_mark : HostMark → Bool
is_unqueued_mark Live = true
is_unqueued_mark Queued = false
is_unqueued_mark Fired = true
is_unqueued_mark Dropped = true

-- whether a closure is not marked as asked
abbrev pub is_unqueued : HostClosure → Bool
is_unqueued c = is_unqueued_mark c.mark

-- the mark of a closure at the port: one that was asked is live there
abbrev pub mark_at_port : HostMark → HostMark
mark_at_port Live = Live
mark_at_port Queued = Live
mark_at_port Fired = Fired
mark_at_port Dropped = Dropped

-- the closure as its port tells it, which does not know what the page asked
abbrev pub unasked : HostClosure → HostClosure
unasked c = record c { mark = mark_at_port c.mark }

-- closures of a port: a u32 numbers them, and none is marked as asked
pub record AreOfPort (cs : List HostClosure) : Type 0 where
  pub count : length cs ≤ 2 ^ 32
  pub unqueued : IsTrue (list_all is_unqueued cs)

-- what is kept: a port's closures, and of those that were asked and have not answered the port has fired none
pub record AreHeld (asked : ℕ → Bool) (cs : List HostClosure) : Type 0 where
  pub of_port : AreOfPort cs
  pub unfired : (k : ℕ) → asked k ≡ true → IsLiveOrDropped cs k
