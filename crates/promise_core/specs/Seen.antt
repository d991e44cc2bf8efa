-- What records, reactions, jobs and outcomes are seen as.
use Rattle.std.specs.Prelude.{◌≡◌, ℕ, List, map, Option, Some, None, MatchOption, Result, Ok, Err}
use Rattle.std.specs.Borrow.{Bor}
use Rattle.std.specs.Option.{option_map}
use Rattle.page_values.specs.declared.Value.{Value}
use Rattle.page_values.specs.Seen.{seen}
use Rattle.page_parts.specs.Promises as Parts
use Rattle.page_parts.specs.Promises.{Fulfilled, Failed}
use Rattle.promise_core.specs.declared.record.Reaction.{Reaction}
use Rattle.promise_core.specs.declared.record.Record.{Record}
use Rattle.promise_core.specs.declared.record.Job.{Job}
use Rattle.promise_core.specs.declared.record.Job.TheVariants as J

-- a fulfilment for `Ok`, a rejection for `Err`
abbrev pub settled_seen : Result Value Value → Parts.Settled
settled_seen (Ok v) = Fulfilled (seen v)
settled_seen (Err v) = Failed (seen v)

-- what is answered of an outcome: none where there is none
abbrev pub IsOutcome : Option (Bor (Result Value Value)) → Option Parts.Settled → Type 0
IsOutcome result outcome = MatchOption result (outcome ≡ None) (λ how. outcome ≡ Some (settled_seen how.now))

abbrev pub reaction_seen : Reaction → Parts.Reaction
reaction_seen r = record { registration = r.registration; into = r.into; state = r.state }

abbrev pub job_seen : Job → Parts.PromiseJob
job_seen (J.React of r) = Parts.React of (reaction_seen r)
job_seen (J.Adopt into from) = Parts.Adopt into from

abbrev pub jobs_seen : List Job → List Parts.PromiseJob
jobs_seen js = map job_seen js

abbrev pub record_seen : Record → Parts.PromiseRecord
record_seen r =
    record {
      outcome = option_map settled_seen r.outcome;
      locked = r.locked;
      handled = r.handled;
      reactions = map reaction_seen r.reactions.items;
    }

-- what a reaction does to the promise with this record, whose number is n
abbrev pub subscribe_seen : (n : ℕ) → Record → Reaction → Parts.Change
subscribe_seen n q reaction = Parts.subscribe n (record_seen q) (reaction_seen reaction)

abbrev pub records_seen : List Record → List Parts.PromiseRecord
records_seen rs = map record_seen rs
