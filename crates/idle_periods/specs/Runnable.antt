-- The callbacks that an idle period may run. requestIdleCallback, "Invoke idle callbacks algorithm"
use Rattle.std.specs.Prelude.{List, [], ◌∷◌, Option, Some, None}
use Rattle.page_parts.specs.Frames.{Callback}
use Rattle.page_parts.specs.IdleCallbacks.{Idle, cancel}

-- the first callback of a list
abbrev pub first_in : List Callback → Option Callback
first_in [] = None
first_in (callback ∷ callbacks) = Some callback

-- the first runnable callback
abbrev pub first_runnable : Idle → Option Callback
first_runnable i = first_in i.runnable

-- it is taken out of the lists
abbrev pub popped : Idle → Idle
popped i = elim (first_runnable i) [ None ↦ i | Some callback ↦ cancel callback.handle i ]
