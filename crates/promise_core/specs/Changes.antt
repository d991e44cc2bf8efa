-- What a call on one promise tells.
use Rattle.std.specs.Prelude.{◌≡◌, ℕ}
use Rattle.page_parts.specs.Promises as Parts
use Rattle.promise_core.specs.declared.record.Change.{Change}
use Rattle.promise_core.specs.Seen.{jobs_seen}
use Rattle.promise_core.specs.Held.{Held, changed, no_longer_rejected}

-- a call tells what its step of the definitions says
pub record Tells (told : Change) (change : Parts.Change) : Type 0 where
  pub settled : told.settled ≡ change.settled
  pub jobs : jobs_seen told.jobs.items ≡ change.jobs
  pub newly_rejected : told.newly_rejected ≡ change.newly_rejected

-- a call changes promise number n by this step, and tells so
pub record Brings (told : Change) (n : ℕ) (change : Parts.Change) (old new : Held) : Type 0 where
  pub state : new ≡ changed n change old
  pub tells : Tells told change

-- a call changes promise number n by this step of its record, and tells so
abbrev pub BringsBy : (told : Change) → (n : ℕ) → (step : Parts.PromiseRecord → Parts.Change) → (old new : Held) → Type 0
BringsBy told n step old new = Brings told n (step (Parts.the_promise old.promises n)) old new

-- a call gives promise number n a reaction, so that it is no longer to be notified about, and tells so
abbrev pub BringsReaction : (told : Change) → (n : ℕ) → Parts.Reaction → (old new : Held) → Type 0
BringsReaction told n reaction old new =
    Brings told n (Parts.subscribe n (Parts.the_promise old.promises n) reaction) (no_longer_rejected n old) new
