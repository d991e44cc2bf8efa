-- A frame as one fold over keys. HTML, "Animation frames": run the animation frame callbacks
use Rattle.std.specs.Prelude.{◌≡◌, ℕ, List, [], ◌∷◌, Option, Some, None}
use Rattle.page_parts.specs.Frames.{Frames, Callback, callback_in}
use Rattle.raf_frames.specs.FrameInProgress.{FrameInProgress, next_callback, after_next}

-- How a page with states S visits keys in turn, where a step ends as D: the map that a state has, how a step ends that does nothing, what
-- is done behind a step, the call of a callback, which also takes it out of the map, and the visits of keys
pub record Visits (S D : Type 0) : Type 0 where
  pub frames : S → Frames
  pub finish : S → D
  pub afterwards : D → (S → D) → D
  pub call : Callback → S → D
  pub in_turn : List ℕ → S → D

module _ {S D : Type 0} (v : Visits S D) where
  -- a callback is called, and none is passed over
  abbrev pub called : Option Callback → S → D
  called None s = v.finish s
  called (Some callback) s = v.call callback s

  -- each key that is in the map when its turn comes is called, and what comes behind a step that does nothing goes on from its state
  pub record AreInTurn : Type 0 where
    pub none : (s : S) → v.in_turn [] s ≡ v.finish s
    pub next :
        (key : ℕ) (keys : List ℕ) (s : S)
        → v.in_turn (key ∷ keys) s ≡ v.afterwards (called (callback_in (v.frames s).callbacks key) s) (v.in_turn keys)
    pub goes_on : (s : S) (rest : S → D) → v.afterwards (v.finish s) rest ≡ rest s

  -- the visits of what is left of a frame, by its next callback: it is called, and then come the visits of what is left behind it
  abbrev pub from_next : FrameInProgress → Option Callback → S → D
  from_next f None s = v.finish s
  from_next f (Some callback) s = v.afterwards (v.call callback s) (v.in_turn (after_next f).left)

  -- that is what visiting all the keys that are left does
  abbrev pub GoesByNext : Type 0
  GoesByNext = (f : FrameInProgress) (s : S) → v.frames s ≡ f.map → v.in_turn f.left s ≡ from_next f (next_callback f) s
