-- What the calls do to the script's part, with its lines: functions of the model's page, by the arguments that the code has.
use Rattle.std.specs.Prelude.{◌≡◌, ℕ, suc, Bool, length, Option, Some, None, Result, MatchOption}
use Rattle.std.specs.Borrow.{Bor}
use Rattle.std.specs.Result.{result_err}
use Rattle.page_types.specs.declared.RegKind.{RegKind}
use Rattle.page_types.specs.declared.Source.{Source}
use Rattle.page_types.specs.Events.{Turn, Wait}
use Rattle.page_values.specs.declared.Value.{Value}
use Rattle.page_values.specs.Seen.{seen}
use Rattle.page_values.specs.Written.{IsNumbered}
use Rattle.page_parts.specs.Words.{and_last}
use Rattle.page_parts.specs.Kinds.{Func}
use Rattle.page_parts.specs.Notices as notices
use Rattle.page_parts.specs.Promises.{Settled, settled_value}
use Rattle.page_parts.specs.Combinators.{combine, report_answer}
use Rattle.promise_core.specs.declared.record.Reaction.{Reaction}
use Rattle.promise_core.specs.Held.{IsMade}
use Rattle.promise_core.specs.Seen.{settled_seen, reaction_seen}
use Rattle.promise_combine.specs.declared.kind.Kind.{Kind}
use Rattle.promise_combine.specs.Seen.{kind_seen, report_of}
use Rattle.promise_combine.specs.Answers.{answer_seen}
use Rattle.page_notices.specs.Steps.{held}
use Rattle.page_model.specs.State as m
use Rattle.page_model.specs.State.{Page, emit, context, on_notices, the_registration}
use Rattle.page_model.specs.Invoke as invoke
use Rattle.page_model.specs.Invoke.{callback_of}
use Rattle.page_model.specs.PagePromises as promises
use Rattle.page_model.specs.PageCombinators as combinators
use Rattle.page_model.specs.Turns.{at_time}
use Rattle.trace_text.specs.declared.lines.NoLine.{NoLine}
use Rattle.trace_text.specs.Given.{Keeping, Seen}
use Rattle.trace_text.specs.Acts.{Does}
use Rattle.page_script.specs.declared.combining.Answered.{Answered}
use Rattle.page_script.specs.declared.parts.Registration.{Registration}
use Rattle.page_script.specs.declared.parts.WhenReported.{WhenReported}
use Rattle.page_script.specs.Script.{Script}
use Rattle.page_script.specs.ScriptActs.{on, on_script}
use Rattle.page_script.specs.Seen.{registration_seen}
use Rattle.page_script.specs.Reports.{when_seen}
use Rattle.page_script.specs.Marks.{settled_at_once}

-- The call does f to the script's part, and gives its lines to an object that takes them: all of it where there is no fault of the lines;
-- else it stopped among them.
abbrev pub Writes : {T O X : Type 0} → Keeping T → (seen_lines : O → Seen T) → (old : Script) → (old_lines : O) → (Page → Page)
    → Result X NoLine → (new : Script) → (new_lines : O) → Type 0
Writes k seen_lines old old_lines f result new new_lines =
    Does k (on old (seen_lines old_lines)) (on_script f) (result_err result) (on new (seen_lines new_lines))

-- what is lent is seen as this, and it is none exactly where there is none
abbrev pub LendsSeen : {A B : Type 0} → (A → B) → Option (Bor A) → Option B → Type 0
LendsSeen see result wanted = MatchOption result (wanted ≡ None) (λ a. wanted ≡ Some (see a.now))

-- ---- Turns, registrations, reports and messages

-- one more turn begins, with a task of this source, or with none
abbrev pub turn_begun : Option Source → Page → Page
turn_begun source = λ p. emit (Turn (suc p.turns) source) (record p { turns = suc p.turns })

-- a wait for a moment is over, and this is the time
abbrev pub wait_over : (target time : ℕ) → Page → Page
wait_over target time = λ p. emit (Wait target) (at_time time p)

-- a registration is made
abbrev pub register_as : RegKind → Registration → Page → Page
register_as kind registration = invoke.register_as kind (registration_seen registration)

-- the script's part with one more registration
abbrev pub with_registration : Registration → Script → Script
with_registration registration s =
    record s { registrations = and_last s.registrations (registration_seen registration) }

-- the second callback of a registration, or the first
abbrev pub callback_at : (r : ℕ) → (second : Bool) → Page → Option Func
callback_at r second = λ p. callback_of second (the_registration p r)

-- a throw is reported before the checkpoint, or after it, where it belongs there
abbrev pub report_before : WhenReported → Value → Page → Page
report_before when value = invoke.report_before (when_seen when) (seen value)

abbrev pub report_after : WhenReported → Value → Page → Page
report_after when value = invoke.report_after (when_seen when) (seen value)

-- the script's part with one more message on a port, of the time now
abbrev pub with_post : (port : ℕ) → Value → Script → Script
with_post port value s =
    record s { posts = and_last s.posts (record { port = port; value = seen value; at = s.now }) }

-- ---- Promises

-- a promise may be settled so: it was made, and each function that the outcome names has a name here
abbrev pub MaySettle : ℕ → Settled → Script → Type 0
MaySettle p how s = IsMade (held s.notices) p × IsNumbered (length s.names) (settled_value how)

-- a promise is resolved or rejected
abbrev pub settle : ℕ → Result Value Value → Page → Page
settle p how = promises.settle p (settled_seen how)

-- a new promise is settled at once
abbrev pub made_settled : Result Value Value → Page → Page
made_settled how = settled_at_once (settled_seen how)

-- a promise is settled as the one was that it was resolved with
abbrev pub follow : ℕ → Result Value Value → Page → Page
follow p how = promises.follow p (settled_seen how)

-- a promise gets a reaction
abbrev pub subscribe : ℕ → Reaction → Page → Page
subscribe p reaction = promises.subscribe p (reaction_seen reaction)

-- the job of a `queueMicrotask` registration is queued
abbrev pub queue_micro : ℕ → Page → Page
queue_micro registration = λ p. on_notices (notices.queue_micro (context p) registration) p

-- ---- Combinators

-- an outcome is led to where an inner subscription leads
abbrev pub lead_into : ℕ → Result Value Value → Page → Page
lead_into into how = combinators.lead_into into (settled_seen how)

-- a promise is made, and a combinator whose answer settles it
abbrev pub combinator_made : Kind → ℕ → Page → Page
combinator_made kind count = combinators.combinator_made (kind_seen kind) count

-- the same, its answer not yet
abbrev pub combinator_added : Kind → ℕ → Page → Page
combinator_added kind count = λ p. combinators.with_combinator (combine (kind_seen kind) count) (promises.new_promise p)

-- an element of a combinator is made, at a place, and promise number p is subscribed into it
abbrev pub element_of : (combinator place p : ℕ) → Page → Page
element_of combinator place p = combinators.element_made combinator place p

-- an outcome is led into this element of a combinator, at a place, which reports it
abbrev pub led : (into combinator place : ℕ) → Result Value Value → Page → Page
led into combinator place how =
    combinators.report (record { promise = into; combinator = combinator; place = place }) (settled_seen how)

-- an answer, where there is one, settles the promise of its combinator
abbrev pub settle_result : Option (Result Value Value) → (promise : ℕ) → Page → Page
settle_result answer promise = combinators.settle_result (answer_seen answer) promise

-- what the report of an outcome at a place brings, by the combinator before it
abbrev pub Brings : (place : ℕ) → Result Value Value → m.Combining → Answered → Type 0
Brings place how c = λ a. answer_seen a.answer ≡ report_answer (report_of place how) c.combine
