-- Steps on the notices, as acts with their lines.
use Rattle.std.specs.Prelude.{ℕ, List, map}
use Rattle.page_types.specs.Events.{Event}
use Rattle.page_parts.specs.Notices.{Notices, Noticed}
use Rattle.promise_core.specs.Held.{Held}
use Rattle.trace_text.specs.Line.{Line, Of}
use Rattle.trace_text.specs.Given.{Seen}
use Rattle.trace_text.specs.Acts.{Act, At}

-- the lines of these events, all of one time
abbrev pub lines_at : (time : ℕ) → List Event → List Line
lines_at time events = map (λ e. Of (record { time = time; event = e })) events

-- a step on the notices, with its lines at this time
abbrev pub timed : (time : ℕ) → (Notices → Noticed) → Act Notices
timed time step s = record { state = (step s).notices; lines = lines_at time (step s).lines }

-- the notices, and what is seen of the lines
abbrev pub on : {T : Type 0} → Notices → Seen T → At Notices T
on s seen = record { state = s; seen = seen }

-- the promises, and those about to be notified about
abbrev pub held : Notices → Held
held s = record { promises = s.promises; rejected = s.rejected }
