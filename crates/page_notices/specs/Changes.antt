-- What a change of one promise does to the notices, and what is told of it.
use Rattle.std.specs.Prelude.{◌≡◌, ℕ, Bool, true, false, if◌then◌else◌, List, [], ◌∷◌, Option, Some, None, ◌==◌, Result, IfOk}
use Rattle.page_types.specs.Events.{Event, Settle}
use Rattle.page_parts.specs.Words.{without}
use Rattle.page_parts.specs.Spelling.{spelled}
use Rattle.page_parts.specs.Promises as Parts
use Rattle.page_parts.specs.Promises.{Settled, Fulfilled, Failed, PromiseRecord, PromiseJob, resolve, reject, settled_value, the_promise}
use Rattle.page_parts.specs.Notices.{Notices, Noticed, Context, settle_line, queue_jobs, followed_by, promise_changed}
use Rattle.page_values.specs.declared.Value.{Value}
use Rattle.page_values.specs.Seen.{seen}
use Rattle.page_values.specs.Written.{IsNumbered}
use Rattle.promise_core.specs.declared.record.Change.{Change}
use Rattle.promise_core.specs.declared.record.Reaction.{Reaction}
use Rattle.promise_core.specs.Seen.{settled_seen, reaction_seen}
use Rattle.promise_core.specs.Changes.{Tells}

-- the change by which a promise is resolved or rejected
abbrev pub settling : ℕ → PromiseRecord → Settled → Parts.Change
settling n q (Fulfilled v) = resolve n q v
settling n q (Failed v) = reject n q v

-- promise number n is not to be notified about, nor outstanding
abbrev pub no_longer_unhandled : ℕ → Notices → Notices
no_longer_unhandled n s = record s { rejected = without (λ m. m == n) s.rejected; outstanding = without (λ m. m == n) s.outstanding }

-- a call brought this change of promise number n about, its lines and jobs not yet, and tells it
pub record Brings (told : Change) (n : ℕ) (change : Parts.Change) (old new : Notices) : Type 0 where
  pub state : new ≡ (promise_changed [] n change old).notices
  pub tells : Tells told change

-- the same where the call did not fail
abbrev pub BringsWhereOk : {E : Type 0} → Result Change E → (n : ℕ) → Parts.Change → (old new : Notices) → Type 0
BringsWhereOk result n change old new = IfOk result (λ told. Brings told n change old new)

-- the change by which promise number n of these notices is resolved or rejected
abbrev pub settled_change : ℕ → (how : Result Value Value) → Notices → Parts.Change
settled_change n how s = settling n (the_promise s.promises n) (settled_seen how)

-- the change by which it follows another's outcome
abbrev pub followed_change : ℕ → (how : Result Value Value) → Notices → Parts.Change
followed_change n how s = Parts.follow n (the_promise s.promises n) (settled_seen how)

-- the change by which it is given a reaction
abbrev pub subscribed_change : ℕ → Reaction → Notices → Parts.Change
subscribed_change n r s = Parts.subscribe n (the_promise s.promises n) (reaction_seen r)

-- the line of promise number n, settled with this value or reason
abbrev pub settle_lines : List (List ℕ) → ℕ → (ok : Bool) → Value → List Event
settle_lines names n ok value = Settle n ok (spelled names (seen value)) ∷ []

-- the line of a promise with this outcome, where it was settled
abbrev pub settled_line : List (List ℕ) → ℕ → (settled : Bool) → Option Settled → List Event
settled_line names n settled outcome = if settled then settle_line names n outcome else []

-- the same with the outcome that promise number n of these notices has
abbrev pub settled_line_of : List (List ℕ) → ℕ → (settled : Bool) → Notices → List Event
settled_line_of names n settled s = settled_line names n settled (the_promise s.promises n).outcome

-- what follows a change of promise number n: the line, and the jobs with theirs
abbrev pub telling : Context → List (List ℕ) → ℕ → (settled : Bool) → List PromiseJob → Notices → Noticed
telling now names n settled jobs s =
    followed_by (record { notices = s; lines = settled_line names n settled (the_promise s.promises n).outcome }) (queue_jobs now jobs)

-- each function that the outcome of a settled promise names is one of so many
abbrev pub IsNamed : ℕ → (settled : Bool) → Option Settled → Type 0
IsNamed count false outcome = Unit {0}
IsNamed count true None = Unit {0}
IsNamed count true (Some how) = IsNumbered count (settled_value how)
