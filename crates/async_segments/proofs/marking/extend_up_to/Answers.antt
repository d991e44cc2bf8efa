use Rattle.std.proofs.Common.{◌-◌, ◌++◌, ap, ◌∙◌, take, drop, append_assoc}
use Rattle.async_segments.proofs.marking.extend_up_to.Goals as goal

pub returns : goal.returns
returns c = c.in_ok-extend_from_slice-2.ensures.items ∙ (ap (λ z. z ++ c.args.signs.now) c.in_ok-extend_from_slice.ensures.items ∙ append_assoc c.args.into.now.items (take (c.args.at - c.args.done) (drop c.args.done c.args.bytes.now)) c.args.signs.now)
