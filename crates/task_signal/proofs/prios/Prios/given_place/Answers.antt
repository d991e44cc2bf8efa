use Rattle.std.proofs.Common.{ap, is_some, ◌∙◌}
use Rattle.task_signal.proofs.PlaceLemmas.{has_place}
use Rattle.task_signal.proofs.prios.Prios.given_place.Goals as goal

pub unwrap-requires : goal.unwrap-requires
unwrap-requires c = ap is_some c.place.ensures.place ∙ has_place c.args.s c.args.self.now c.requires
