-- What happens to the record of one promise among those of all.
use Rattle.std.specs.Prelude.{◌≡◌, ℕ, List, Result}
use Rattle.page_values.specs.declared.Value.{Value}
use Rattle.page_parts.specs.Words.{numbered, with_numbered}
use Rattle.page_parts.specs.Promises as Parts
use Rattle.promise_core.specs.declared.record.Reaction.{Reaction}
use Rattle.promise_core.specs.declared.record.Record.{Record}
use Rattle.promise_core.specs.Seen.{settled_seen, reaction_seen, records_seen}

-- the record of promise number n
abbrev pub record_at : List Record → (n : ℕ) → Parts.PromiseRecord
record_at records n = numbered (records_seen records) n Parts.pending_promise

-- what comes where it is settled so
abbrev pub settled_at : List Record → (n : ℕ) → Result Value Value → Parts.Change
settled_at records n how = Parts.settle n (record_at records n) (settled_seen how)

-- what comes where it gets this reaction
abbrev pub subscribed_at : List Record → (n : ℕ) → Reaction → Parts.Change
subscribed_at records n reaction = Parts.subscribe n (record_at records n) (reaction_seen reaction)

-- its record becomes this one, and no other changes
abbrev pub BecomesAt : (n : ℕ) → Parts.PromiseRecord → (old new : List Record) → Type 0
BecomesAt n q old new = records_seen new ≡ with_numbered (records_seen old) n q
