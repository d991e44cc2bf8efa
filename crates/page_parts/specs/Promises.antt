-- Promises: what happens to the record of one promise.
use Rattle.std.specs.Prelude.{ℕ, Bool, true, false, if◌then◌else◌, not, ◌&&◌, List, [], ◌∷◌, map, Option, Some, None, ◌==◌}
use Rattle.page_types.specs.Values.{Value}
use Rattle.page_types.specs.declared.FaultName.TheVariants.{TypeError}
use Rattle.page_parts.specs.Words.{and_last, numbered}
use Rattle.page_parts.specs.Kinds.{promise_in, a_fault}

-- ---- ECMA-262, "Promise Objects"

-- how a promise was settled: fulfilled with a value, or rejected with a reason
pub data Settled : Type 0 where
  Fulfilled : Value → Settled
  Failed : Value → Settled

-- a reaction: its `then` registration, absent for an inner subscription; the promise that it settles;
-- the scheduling state that it keeps (Prioritized Task Scheduling, "Scheduling Tasks and Continuations")
pub record Reaction : Type 0 where
  pub registration : Option ℕ
  pub into : ℕ
  pub state : Option ℕ

-- one promise: its outcome, none while it is pending; whether a resolution was accepted (locked); whether it has or had a handler; the
-- reactions that wait for it
pub record PromiseRecord : Type 0 where
  pub outcome : Option Settled
  pub locked : Bool
  pub handled : Bool
  pub reactions : List Reaction

-- a job of a promise: a reaction to the settled promise `of`, or the subscription of `into` to the promise `from` with which it was
-- resolved
pub data PromiseJob : Type 0 where
  React : (of : ℕ) → Reaction → PromiseJob
  Adopt : (into from : ℕ) → PromiseJob

-- a new promise
abbrev pub pending_promise : PromiseRecord
pending_promise = record { outcome = None; locked = false; handled = false; reactions = [] }

-- promise number n
abbrev pub the_promise : List PromiseRecord → ℕ → PromiseRecord
the_promise promises n = numbered promises n pending_promise

-- the new record of a promise, whether it was settled, the new jobs, and whether it is newly rejected with no handler
pub record Change : Type 0 where
  pub promise : PromiseRecord
  pub settled : Bool
  pub jobs : List PromiseJob
  pub newly_rejected : Bool

-- nothing happens to the promise
abbrev pub no_change : PromiseRecord → Change
no_change q = record { promise = q; settled = false; jobs = []; newly_rejected = false }

-- whether the outcome is a rejection
abbrev pub has_failed : Settled → Bool
has_failed (Fulfilled v) = false
has_failed (Failed v) = true

-- the value of a fulfilment or the reason of a rejection
abbrev pub settled_value : Settled → Value
settled_value (Fulfilled v) = v
settled_value (Failed v) = v

-- ---- ECMA-262, "Promise Objects": fulfilling and rejecting a promise (TriggerPromiseReactions)

-- promise number n is settled: a job for each reaction
abbrev pub settle : ℕ → PromiseRecord → Settled → Change
settle n q how =
    record {
      promise = record { outcome = Some how; locked = true; handled = q.handled; reactions = [] };
      settled = true;
      jobs = map (React n) q.reactions;
      newly_rejected = has_failed how && not q.handled;
    }

-- ---- ECMA-262, "Promise Resolve Functions" and "NewPromiseResolveThenableJob". Ours: only promises count as thenables

-- it is to become what another promise becomes: one job, which subscribes to that one
abbrev pub adopt : (n : ℕ) → PromiseRecord → (from : ℕ) → Change
adopt n q from = record { promise = record q { locked = true }; settled = false; jobs = Adopt n from ∷ []; newly_rejected = false }

-- a resolution that is the first: with the promise itself it rejects with TypeError, with another promise it adopts that one, with any
-- other value it fulfils
abbrev pub resolve_unlocked : ℕ → PromiseRecord → Value → Option ℕ → Change
resolve_unlocked n q v None = settle n q (Fulfilled v)
resolve_unlocked n q v (Some other) = if other == n then settle n q (Failed (a_fault TypeError)) else adopt n q other

-- a promise is resolved with a value; the first resolution wins
abbrev pub resolve : ℕ → PromiseRecord → Value → Change
resolve n q v = if q.locked then no_change q else resolve_unlocked n q v (promise_in v)

-- a promise is rejected, unless a resolution came before
abbrev pub reject : ℕ → PromiseRecord → Value → Change
reject n q v = if q.locked then no_change q else settle n q (Failed v)

-- what the job of an inner subscription does: it settles a pending promise, also one that is locked. Ours: no derived promise is made for
-- it, since none could be seen
abbrev pub follow : ℕ → PromiseRecord → Settled → Change
follow n q how = elim q.outcome [ None ↦ settle n q how | Some before ↦ no_change q ]

-- ---- ECMA-262, "PerformPromiseThen"

-- a reaction waits while the promise is pending, and else a job is queued for it; the promise is handled from now on
abbrev pub subscribe_by : ℕ → PromiseRecord → Reaction → Option Settled → Change
subscribe_by n q r None =
    record { promise = record q { handled = true; reactions = and_last q.reactions r }; settled = false; jobs = []; newly_rejected = false }
subscribe_by n q r (Some how) =
    record { promise = record q { handled = true }; settled = false; jobs = React n r ∷ []; newly_rejected = false }

-- the promise gets a reaction
abbrev pub subscribe : ℕ → PromiseRecord → Reaction → Change
subscribe n q r = subscribe_by n q r q.outcome
