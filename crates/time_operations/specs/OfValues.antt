-- What the operations of time do with arguments as the code has them.
use Rattle.std.specs.Prelude.{ℕ, ℤ, Bool}
use Rattle.page_types.specs.declared.RegKind.{RegKind}
use Rattle.page_values.specs.declared.Func.{Func}
use Rattle.page_values.specs.declared.Value.{Value}
use Rattle.page_values.specs.Seen.{seen, seen_func}
use Rattle.lang_meaning.specs.Machine.{Done}
use Rattle.page_model.specs.State.{Page, State}
use Rattle.page_model.specs.Operations as model
use Rattle.time_operations.specs.Rows.{timer_accepted, frame_accepted, idle_accepted}

-- ---- HTML, "Timers"

-- `setTimeout` and `setInterval`
abbrev pub timed : RegKind → (repeats : Bool) → (callback delay : Value) → State → Done Page
timed kind repeats callback delay = model.set_timer kind repeats (seen callback) (seen delay)

-- the same with arguments of the right kinds
abbrev pub timer_with : RegKind → (repeats : Bool) → Func → (delay : ℤ) → State → Done Page
timer_with kind repeats callback delay = timer_accepted kind repeats (seen_func callback) delay

-- the timer is registered and initialised
abbrev pub set_with : RegKind → (repeats : Bool) → Func → (timeout : ℤ) → Page → Page
set_with kind repeats callback timeout = model.timer_set kind repeats (seen_func callback) timeout

-- ---- HTML, "Animation frames"

-- `requestAnimationFrame`
abbrev pub frame_of : Value → State → Done Page
frame_of callback = model.request_animation_frame (seen callback)

-- the same of a function
abbrev pub frame_with : Func → State → Done Page
frame_with callback = frame_accepted (seen_func callback)

-- the frame callback is registered and requested
abbrev pub frame_requested_with : Func → Page → Page
frame_requested_with callback = model.frame_requested (seen_func callback)

-- ---- requestIdleCallback, "The requestIdleCallback() method"

-- `requestIdleCallback`
abbrev pub idle_of : (callback timeout : Value) → State → Done Page
idle_of callback timeout = model.request_idle_callback (seen callback) (seen timeout)

-- the same of a function and a number
abbrev pub idle_with : Func → (timeout : ℤ) → State → Done Page
idle_with callback timeout = idle_accepted (seen_func callback) timeout

-- the idle callback is registered and requested
abbrev pub idle_requested_with : Func → (milliseconds : ℕ) → Page → Page
idle_requested_with callback ms = model.idle_requested (seen_func callback) ms
