-- The rows of the model's operations that have no name of their own, and what is left of others once their arguments are of the right
-- kinds. Registrations of callbacks.
use Rattle.std.specs.Prelude.{ℕ, Bool, false, ◌&&◌, nat_le, Some, None, ℤ, pos, int_le}
use Rattle.page_types.specs.Values.{Value, IntValue}
use Rattle.page_types.specs.declared.RegKind.{RegKind}
use Rattle.page_parts.specs.Kinds.{Func, weight, nesting}
use Rattle.page_parts.specs.Words.{not_below_zero}
use Rattle.lang_meaning.specs.Machine.{Done, Gives}
use Rattle.page_model.specs.State.{Registration, OfKind, Page, State}
use Rattle.page_model.specs.Operations.{answers, where_left, registration_left, is_left, timer_set, frame_requested, idle_requested}

-- ---- Ours: `now`

-- the time now
abbrev pub now_given : State → Done Page
now_given m = Gives (IntValue (pos m.host.now)) m

-- ---- Callbacks that are registered

-- a callback of a kind, with the id of its timer, 0 where it has none
abbrev pub callback_of_kind : RegKind → Func → (timer_id : ℕ) → Registration
callback_of_kind kind f timer_id = record {
  role = OfKind kind;
  callback = Some f;
  second_callback = None;
  timer_id = timer_id;
  promise = 0;
  signal = None;
  finally = false;
}

-- ---- HTML, "Timers"

-- whether a registration and an id are left
abbrev pub timer_left : Page → Bool
timer_left p = registration_left p && is_left p.timers.ids_made

-- `setTimeout` and `setInterval` of a function and a number
abbrev pub timer_accepted : RegKind → Bool → Func → ℤ → State → Done Page
timer_accepted kind repeats f ms m =
    where_left (timer_left m.host) m (answers (λ p. IntValue (pos p.timers.ids_made)) (timer_set kind repeats f ms))

-- ---- HTML, "Animation frames"

-- whether a registration and a handle are left
abbrev pub frame_left : Page → Bool
frame_left p = registration_left p && is_left p.frames.made

-- `requestAnimationFrame` of a function
abbrev pub frame_accepted : Func → State → Done Page
frame_accepted f m = where_left (frame_left m.host) m (answers (λ p. IntValue (pos p.frames.made)) (frame_requested f))

-- ---- requestIdleCallback, "The requestIdleCallback() method"

-- whether the timeout is in its range, and a registration and a handle are left
abbrev pub idle_left : ℤ → Page → Bool
idle_left ms p = int_le ms (pos 1000000000) && registration_left p && is_left p.idle.made

-- `requestIdleCallback` of a function and a number
abbrev pub idle_accepted : Func → ℤ → State → Done Page
idle_accepted f ms m =
    where_left (idle_left ms m.host) m (answers (λ p. IntValue (pos p.idle.made)) (idle_requested f (not_below_zero ms)))

-- ---- HTML, "Cross-document messaging"

-- whether the list of a port and this value is within the limits of values
abbrev pub may_post : Value → Bool
may_post v = nat_le (weight v) 65534 && nat_le (nesting v) 63
