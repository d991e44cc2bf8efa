-- What each call makes of the fields, and what it answers. Each is a step of the model's page, less its lines and tasks.
use Rattle.std.specs.Prelude.{ℕ, ◌+◌, ◌-◌, max, Bool, not, ◌&&◌, ◌||◌, Option, Some, None, nat_lt, nat_le, option_map, if◌then◌else◌}
use Rattle.page_parts.specs.Words.{is_empty}
use Rattle.page_parts.specs.Frames as Frames
use Rattle.page_parts.specs.Frames.{callback_in, next_multiple}
use Rattle.page_parts.specs.IdleCallbacks as IdleCallbacks
use Rattle.page_parts.specs.IdleCallbacks.{waiting_callback, waits}
use Rattle.idle_periods.specs.Runnable.{first_runnable, popped}
use Rattle.page_frames.specs.Fields.{FrameFields}

-- ---- HTML, "Animation frames"

-- a frame callback is requested; where the map was empty, it is non-empty from now on
abbrev pub frame_requested : (registration : ℕ) → (now : ℕ) → FrameFields → FrameFields
frame_requested registration now f =
    record f {
      frames = Frames.request registration f.frames;
      frames_since = (if is_empty f.frames.callbacks then now else f.frames_since);
    }

-- the registration of the frame callback with this handle, where it is in the map
abbrev pub frame_registration : (handle : ℕ) → FrameFields → Option ℕ
frame_registration handle f = option_map (λ c. c.registration) (callback_in f.frames.callbacks handle)

-- a frame callback leaves the map
abbrev pub frame_gone : (handle : ℕ) → FrameFields → FrameFields
frame_gone handle f = record f { frames = Frames.cancel handle f.frames }

-- whether a frame callback is in the map
abbrev pub has_frames : FrameFields → Bool
has_frames f = not (is_empty f.frames.callbacks)

-- ---- HTML, "Event loops: processing model". Ours: the times of rendering opportunities

-- the next rendering opportunity: none where no frame callback waits or a render task does
abbrev pub next_opportunity : (has_render : Bool) → FrameFields → Option ℕ
next_opportunity has_render f =
    if is_empty f.frames.callbacks || has_render then None
    else Some (next_multiple f.refresh_period (max f.frames_since f.last_opportunity))

-- a rendering opportunity is taken
abbrev pub opportunity_taken : (now : ℕ) → FrameFields → FrameFields
opportunity_taken now f = record f { last_opportunity = now }

-- ---- requestIdleCallback, "The requestIdleCallback() method" and "Invoke idle callback timeout algorithm"

-- an idle callback is requested
abbrev pub idle_requested : (registration : ℕ) → FrameFields → FrameFields
idle_requested registration f = record f { idle = IdleCallbacks.request registration f.idle }

-- the registration of the idle callback with this handle, where it waits in either list
abbrev pub idle_registration : (handle : ℕ) → FrameFields → Option ℕ
idle_registration handle f = option_map (λ c. c.registration) (waiting_callback handle f.idle)

-- an idle callback leaves both lists
abbrev pub idle_gone : (handle : ℕ) → FrameFields → FrameFields
idle_gone handle f = record f { idle = IdleCallbacks.cancel handle f.idle }

-- ---- requestIdleCallback, "Invoke idle callbacks algorithm"

-- whether an idle callback is runnable
abbrev pub has_runnable : FrameFields → Bool
has_runnable f = not (is_empty f.idle.runnable)

-- the registration of the first runnable callback
abbrev pub first_registration : FrameFields → Option ℕ
first_registration f = option_map (λ c. c.registration) (first_runnable f.idle)

-- that callback leaves both lists
abbrev pub first_gone : FrameFields → FrameFields
first_gone f = record f { idle = popped f.idle }

-- ---- HTML, "Event loops: processing model": the deadline of an idle period (compute deadline)

-- the next rendering, where a frame callback waits: a refresh period behind the last opportunity
abbrev pub awaited_rendering : FrameFields → Option ℕ
awaited_rendering f = if is_empty f.frames.callbacks then None else Some (f.last_opportunity + f.refresh_period)

-- the deadline of an idle period with this start, where the next timer is due at that time
abbrev pub deadline_from : (start : ℕ) → (next_timer : Option ℕ) → FrameFields → ℕ
deadline_from start next_timer f = IdleCallbacks.deadline start next_timer (awaited_rendering f)

-- the moment at which the next idle period could start; it counts only where an idle callback waits and the period would have some length
abbrev pub idle_moment_at : (now : ℕ) → (next_timer : Option ℕ) → FrameFields → Option ℕ
idle_moment_at now next_timer f =
    let moment = max now f.idle_period_end in
    if waits f.idle && nat_lt moment (deadline_from moment next_timer f) then Some moment else None

-- ---- requestIdleCallback, "Start an idle period algorithm". Ours: when a start is delayed

-- the last idle period start is now
abbrev pub idle_start_set : (now : ℕ) → FrameFields → FrameFields
idle_start_set now f = record f { last_idle_start = now }

-- the deadline of the idle period that starts now: none where the start is delayed, since no idle callback waits, the deadline is not
-- after now, or the period before has not ended
abbrev pub period_to_start : (now : ℕ) → (next_timer : Option ℕ) → FrameFields → Option ℕ
period_to_start now next_timer f =
    let end = deadline_from f.last_idle_start next_timer f in
    if waits f.idle && nat_lt now end && nat_le f.idle_period_end now then Some end else None

-- an idle period with this end starts: the pending callbacks become runnable
abbrev pub period_started : (end : ℕ) → FrameFields → FrameFields
period_started end f = record f { idle = IdleCallbacks.started f.idle; idle_period_end = end }

-- ---- requestIdleCallback, "The IdleDeadline interface"

-- microseconds that are left of a deadline, never below 0; where it is not fixed it is computed again
abbrev pub time_left : (fixed : Option ℕ) → (now : ℕ) → (next_timer : Option ℕ) → FrameFields → ℕ
time_left None now next_timer f = deadline_from f.last_idle_start next_timer f - now
time_left (Some moment) now next_timer f = moment - now
