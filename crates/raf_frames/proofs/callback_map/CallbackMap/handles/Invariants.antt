use Rattle.std.proofs.Common.{◌≡◌, ◌++◌, map}
use Rattle.page_parts.specs.Frames.{Callback, keys}
use Rattle.raf_frames.specs.Entries.{callbacks_of}
use Rattle.raf_frames.proofs.callback_map.CallbackMap.handles.Given as goal

abbrev pub invariant-loop-handle : goal.invariant-loop-handle
invariant-loop-handle l =
    l.list.items ++ map (λ (c : Callback). c.handle) (callbacks_of l.handle-iterator) ≡ keys l.self
