-- What the calls do to the notices with their marks, and to the lines.
use Rattle.std.specs.Prelude.{◌≡◌, ℕ, List, [], ◌∷◌, drop, Option, Result, MatchOption}
use Rattle.std.specs.Result.{result_err}
use Rattle.page_values.specs.declared.Value.{Value}
use Rattle.page_parts.specs.Notices.{Notices, settle_promise, follow_promise, subscribe_promise, queue_micro}
use Rattle.promise_core.specs.declared.record.Reaction.{Reaction}
use Rattle.promise_core.specs.Seen.{settled_seen, reaction_seen}
use Rattle.page_notices.specs.declared.jobs.NextJob.{NextJob}
use Rattle.page_notices.specs.Seen.{current, waiting_seen}
use Rattle.page_notices.specs.Steps.{timed, on}
use Rattle.page_model.specs.State.{Element}
use Rattle.trace_text.specs.declared.lines.NoLine.{NoLine}
use Rattle.trace_text.specs.Given.{Keeping, Seen}
use Rattle.trace_text.specs.Acts.{Act, Does}
use Rattle.page_script.specs.declared.parts.Moment.{Moment}
use Rattle.page_script.specs.Marks.{Marked}

-- The call does the act to the notices, and gives its lines to an object that takes them: all of it where there is no fault of the lines;
-- else it stopped among them.
abbrev pub Notes : {T O X : Type 0} → Keeping T → (seen_lines : O → Seen T) → (old : Marked) → (old_lines : O) → Act Notices
    → Result X NoLine → (new : Marked) → (new_lines : O) → Type 0
Notes k seen_lines old old_lines act result new new_lines =
    Does k (on old.notices (seen_lines old_lines)) act (result_err result) (on new.notices (seen_lines new_lines))

-- ---- The steps, at a moment

-- a promise is resolved or rejected
abbrev pub settle_at : Moment → (names : List (List ℕ)) → ℕ → Result Value Value → Act Notices
settle_at now names p how = timed now.at.0 (settle_promise (current now.level now.state) names p (settled_seen how))

-- a promise is settled as the one was that it was resolved with
abbrev pub follow_at : Moment → (names : List (List ℕ)) → ℕ → Result Value Value → Act Notices
follow_at now names p how = timed now.at.0 (follow_promise (current now.level now.state) names p (settled_seen how))

-- a promise gets a reaction
abbrev pub subscribe_at : Moment → ℕ → Reaction → Act Notices
subscribe_at now p r = timed now.at.0 (subscribe_promise (current now.level now.state) p (reaction_seen r))

-- the job of a `queueMicrotask` registration is queued
abbrev pub micro_at : Moment → ℕ → Act Notices
micro_at now registration = timed now.at.0 (queue_micro (current now.level now.state) registration)

-- ---- The oldest job, and the element that a promise is

-- this job was the oldest one, and the others are left; none exactly where there was none
abbrev pub TakesOldest : Option NextJob → (old new : Marked) → Type 0
TakesOldest result old new =
    MatchOption result (old.notices.jobs ≡ []) (λ job. old.notices.jobs ≡ waiting_seen job ∷ new.notices.jobs)

-- the oldest job is not there
abbrev pub without_oldest : Marked → Marked
without_oldest s = record s { notices = record s.notices { jobs = drop 1 s.notices.jobs } }

-- the element that promise number p is, by its combinator and its place there
abbrev pub element_at : (p : ℕ) → ℕ × ℕ → Element
element_at p = λ e. record { promise = p; combinator = e.0; place = e.1 }
