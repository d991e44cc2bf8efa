-- Whole sequences of calls, for the laws on them.
use Rattle.std.specs.Prelude.{◌≡◌, ℕ, ◌+◌, if◌then◌else◌, List, [], ◌∷◌, ◌++◌, ◌==◌, Option, None, is_some, IsTrue}
use Rattle.page_types.specs.Values.{Value}
use Rattle.page_parts.specs.Promises as Parts
use Rattle.page_parts.specs.Promises.{PromiseRecord, Settled, Reaction, PromiseJob, React, Adopt, Change}
use Rattle.promise_core.specs.Held.{Held, IsMade, nothing_held, made, changed, no_longer_rejected}
use Rattle.page_parts.specs.Promises.{the_promise}

-- what a call does to one promise
pub data Act : Type 0 where
  Resolve : Value → Act
  Reject : Value → Act
  Follow : Settled → Act
  Subscribe : Reaction → Act

-- a call, of a promise by its number or of none
pub data Call : Type 0 where
  Make : Call
  TakeRejected : Call
  Of : ℕ → Act → Call

-- the step on the promise's record
abbrev pub step : Act → ℕ → PromiseRecord → Change
step (Resolve v) n q = Parts.resolve n q v
step (Reject v) n q = Parts.reject n q v
step (Follow how) n q = Parts.follow n q how
step (Subscribe r) n q = Parts.subscribe n q r

-- who gets a handler is no longer to be notified about
abbrev pub before_step : Act → ℕ → Held → Held
before_step (Subscribe r) n s = no_longer_rejected n s
before_step a n s = s

-- what is held after a call
abbrev pub after : Call → Held → Held
after Make s = made s
after TakeRejected s = record s { rejected = [] }
after (Of n a) s = changed n (step a n (the_promise s.promises n)) (before_step a n s)

-- and after all of these calls
abbrev pub after_all : List Call → Held → Held
after_all [] s = s
after_all (c ∷ cs) s = after_all cs (after c s)

-- the promise that a call names was made
abbrev pub IsOfMade : Call → Held → Type 0
IsOfMade Make s = Unit {0}
IsOfMade TakeRejected s = Unit {0}
IsOfMade (Of n a) s = IsMade s n

-- each promise that a call names was made before that call
abbrev pub AreOfMade : List Call → Held → Type 0
AreOfMade [] s = Unit {0}
AreOfMade (c ∷ cs) s = IsOfMade c s × AreOfMade cs (after c s)

-- how often a call settles promise n: once or not
abbrev pub settled_by : ℕ → Call → Held → ℕ
settled_by n Make s = 0
settled_by n TakeRejected s = 0
settled_by n (Of m a) s = if m == n then (if (step a m (the_promise s.promises m)).settled then 1 else 0) else 0

-- how often calls settle promise n
abbrev pub times_settled : ℕ → List Call → Held → ℕ
times_settled n [] s = 0
times_settled n (c ∷ cs) s = settled_by n c s + times_settled n cs (after c s)

-- the reactions of promise n for which jobs came
abbrev pub reactions_of : ℕ → List PromiseJob → List Reaction
reactions_of n [] = []
reactions_of n (React m r ∷ js) = if m == n then r ∷ reactions_of n js else reactions_of n js
reactions_of n (Adopt into from ∷ js) = reactions_of n js

-- those for which a call brought jobs
abbrev pub reacted_by : ℕ → Call → Held → List Reaction
reacted_by n Make s = []
reacted_by n TakeRejected s = []
reacted_by n (Of m a) s = reactions_of n (step a m (the_promise s.promises m)).jobs

-- those for which calls brought jobs, in the order of the jobs
abbrev pub reacted : ℕ → List Call → Held → List Reaction
reacted n [] s = []
reacted n (c ∷ cs) s = reacted_by n c s ++ reacted n cs (after c s)

-- the reaction that is given
abbrev pub given : Act → List Reaction
given (Subscribe r) = r ∷ []
given a = []

-- the reactions that promise n gets by calls, in order
abbrev pub subscribed : ℕ → List Call → List Reaction
subscribed n [] = []
subscribed n (Make ∷ cs) = subscribed n cs
subscribed n (TakeRejected ∷ cs) = subscribed n cs
subscribed n (Of m a ∷ cs) = (if m == n then given a else []) ++ subscribed n cs

-- what the laws say of promise n after calls, the first of which found nothing
module _ (calls : List Call) (n : ℕ) where
  -- how it was settled, none where it is pending
  abbrev pub outcome_after : Option Settled
  outcome_after = (the_promise (after_all calls nothing_held).promises n).outcome

  -- one of the calls settled it where it is settled, and none where it is pending
  abbrev pub SettlesOnce : Type 0
  SettlesOnce = times_settled n calls nothing_held ≡ (if is_some outcome_after then 1 else 0)

  -- where it is settled, jobs came for the reactions that it got, in order
  abbrev pub JobsAreReactions : Type 0
  JobsAreReactions = IsTrue (is_some outcome_after) → reacted n calls nothing_held ≡ subscribed n calls

  -- where it is pending, no job came
  abbrev pub NoJobCame : Type 0
  NoJobCame = outcome_after ≡ None → reacted n calls nothing_held ≡ []
