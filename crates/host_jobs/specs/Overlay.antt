-- Closures with the mark Queued laid over those that were asked. Ours: a port knows whether a closure is live, fired or dropped, and a page
-- knows which closures it asked
use Rattle.std.specs.Prelude.{◌≡◌, ◌≢◌, ◌⊎◌, ℕ, suc, ℤ, Bool, true, false, not, ◌&&◌, IsTrue, if◌then◌else◌}
use Rattle.std.specs.Prelude.{List, [], ◌∷◌, length, Some, option_map, slice_get}
use Rattle.page_types.specs.declared.HostMark.{HostMark}
use Rattle.page_types.specs.declared.HostMark.TheVariants.{Live, Queued, Fired, Dropped}
use Rattle.page_parts.specs.HostClosures.{HostClosure}
use Rattle.host_jobs.specs.Closures.{is_live, is_live_at, takes_at, dropped, changed_at, fired_at, dropped_at}

-- the closure after it was asked
abbrev pub queued : HostClosure → HostClosure
queued c = record c { mark = Queued }

-- a live closure that was asked is queued, and any other is as it is
abbrev pub queued_where : Bool → HostClosure → HostClosure
queued_where asked c = if asked && is_live c.mark then queued c else c

-- whether a closure was dropped
abbrev pub is_dropped : HostMark → Bool
is_dropped Live = false
is_dropped Queued = false
is_dropped Fired = false
is_dropped Dropped = true

-- the closures of a page, by which of them it asked
abbrev pub overlaid : (asked : ℕ → Bool) → List HostClosure → List HostClosure
overlaid asked [] = []
overlaid asked (c ∷ cs) = queued_where (asked 0) c ∷ overlaid (λ k. asked (suc k)) cs

-- the page has asked closure k too
pub record AsksToo (k : ℕ) (old new : ℕ → Bool) : Type 0 where
  pub this : new k ≡ true
  pub others : (j : ℕ) → j ≢ k → new j ≡ old j

-- closure k, where it is there, was never fired: it is live or was dropped before
abbrev pub IsLiveOrDropped : List HostClosure → ℕ → Type 0
IsLiveOrDropped cs k = (c : HostClosure) → slice_get cs k ≡ Some c → (c.mark ≡ Live) ⊎ (c.mark ≡ Dropped)

-- the closures after k was asked
abbrev pub queued_at : List HostClosure → ℕ → List HostClosure
queued_at cs k = changed_at queued cs k

-- ---- a page's closures are those of its port with this mark laid over

module _ (asked : ℕ → Bool) (cs : List HostClosure) where
  -- closure k
  abbrev pub ClosureIs : Type 0
  ClosureIs = (k : ℕ) → slice_get (overlaid asked cs) k ≡ option_map (queued_where (asked k)) (slice_get cs k)

  -- it was never asked exactly where the port has it live and the page did not ask it
  abbrev pub LiveIs : Type 0
  LiveIs = (k : ℕ) → is_live_at (overlaid asked cs) k ≡ is_live_at cs k && not (asked k)

  -- it takes the same numbers
  abbrev pub TakesIs : Type 0
  TakesIs = (k : ℕ) (x : ℤ) → takes_at (overlaid asked cs) k x ≡ takes_at cs k x

  -- there are as many
  abbrev pub CountIs : Type 0
  CountIs = length (overlaid asked cs) ≡ length cs

  -- with none asked they are the same
  abbrev pub NoneAskedIs : Type 0
  NoneAskedIs = ((k : ℕ) → asked k ≡ false) → overlaid asked cs ≡ cs

  -- a closure that was never asked is asked, for which the port does nothing
  abbrev pub AskedIs : Type 0
  AskedIs =
      (now : ℕ → Bool) (k : ℕ) → IsTrue (is_live_at (overlaid asked cs) k) → AsksToo k asked now
      → overlaid now cs ≡ queued_at (overlaid asked cs) k

  -- closure k is fired
  abbrev pub FiredIs : Type 0
  FiredIs = (k : ℕ) → overlaid asked (fired_at cs k) ≡ fired_at (overlaid asked cs) k

  -- closure k is dropped, whatever its mark; the port drops a live one
  abbrev pub DroppedIs : Type 0
  DroppedIs = (k : ℕ) → IsLiveOrDropped cs k → overlaid asked (dropped_at cs k) ≡ changed_at dropped (overlaid asked cs) k

  -- whether it was dropped, where it was never fired
  abbrev pub WasDroppedIs : Type 0
  WasDroppedIs =
      (k : ℕ) → IsLiveOrDropped cs k
      → option_map (λ c. is_dropped c.mark) (slice_get (overlaid asked cs) k) ≡ option_map (λ c. not (is_live c.mark)) (slice_get cs k)
