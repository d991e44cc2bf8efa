-- The map of animation frame callbacks while a frame runs them. HTML, "Animation frames": run the animation frame callbacks
use Rattle.std.specs.Prelude.{◌≡◌, ℕ, List, [], ◌∷◌, Option, Some, None}
use Rattle.page_parts.specs.Frames.{Frames, Callback, callback_in, cancel}

-- the map of callbacks, and the handles of the frame that were not looked at yet: those that the map had at the frame's start, in order
pub record FrameInProgress : Type 0 where
  pub map : Frames
  pub left : List ℕ

-- the first of these handles that is in the map still, with its callback
abbrev pub first_waiting : List Callback → List ℕ → Option Callback
first_waiting callbacks [] = None
first_waiting callbacks (handle ∷ left) =
    elim (callback_in callbacks handle) [ None ↦ first_waiting callbacks left | Some callback ↦ Some callback ]

-- the handles behind that one
abbrev pub behind_first : List Callback → List ℕ → List ℕ
behind_first callbacks [] = []
behind_first callbacks (handle ∷ left) = elim (callback_in callbacks handle) [ None ↦ behind_first callbacks left | Some callback ↦ left ]

-- the next callback that the frame calls
abbrev pub next_callback : FrameInProgress → Option Callback
next_callback f = first_waiting f.map.callbacks f.left

-- it is this one
abbrev pub IsNext : FrameInProgress → Callback → Type 0
IsNext f c = next_callback f ≡ Some c

-- and what is left then: the callback is out of the map
abbrev pub after_next : FrameInProgress → FrameInProgress
after_next f =
    record {
      map = elim (next_callback f) [ None ↦ f.map | Some callback ↦ cancel callback.handle f.map ];
      left = behind_first f.map.callbacks f.left;
    }
