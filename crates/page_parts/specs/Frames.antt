-- Animation frame callbacks and rendering opportunities.
use Rattle.std.specs.Prelude.{ℕ, suc, ◌+◌, ◌*◌, ◌/◌, List, [], map, Option, ◌==◌, find}
use Rattle.page_parts.specs.Words.{and_last, without}

-- ---- HTML, "Animation frames"

-- a callback that waits: its handle and its registration; idle callbacks wait in the same form
pub record Callback : Type 0 where
  pub handle : ℕ
  pub registration : ℕ

-- the map of animation frame callbacks, in the order of the requests, and how many handles were ever given
pub record Frames : Type 0 where
  pub callbacks : List Callback
  pub made : ℕ

-- before the script runs there is no frame callback
abbrev pub no_frames : Frames
no_frames = record { callbacks = []; made = 0 }

-- a callback is stored at the end of the map, under the next handle
abbrev pub request : ℕ → Frames → Frames
request r f = record { made = suc f.made; callbacks = and_last f.callbacks (record { handle = suc f.made; registration = r }) }

-- the callback of a handle, where it is in the list
abbrev pub callback_in : List Callback → ℕ → Option Callback
callback_in cs handle = find (λ c. c.handle == handle) cs

-- the callbacks but the one of this handle
abbrev pub without_handle : ℕ → List Callback → List Callback
without_handle handle cs = without (λ c. c.handle == handle) cs

-- the callback of a handle leaves the map
abbrev pub cancel : ℕ → Frames → Frames
cancel handle f = record f { callbacks = without_handle handle f.callbacks }

-- the handles that are in the map
abbrev pub keys : Frames → List ℕ
keys f = map (λ c. c.handle) f.callbacks

-- ---- Ours: the standard leaves the times of rendering opportunities open. They are multiples of the refresh period.

-- the least multiple of the period that is greater than a moment
abbrev pub next_multiple : (period after : ℕ) → ℕ
next_multiple period after = (after / period + 1) * period
