use Rattle.raf_frames.proofs.callback_map.CallbackMap.forget_where_many.Goals as goal

pub invariant_of-self : goal.invariant_of-self
invariant_of-self c = c.forget.ensures.kept _ _ c.self.invariant
