use Rattle.std.proofs.Common.{◌≡◌, ◌++◌, drop, map}
use Rattle.page_interp.proofs.gathering.frame_names.Given as goal

abbrev pub invariant-loop-parameter : goal.invariant-loop-parameter
invariant-loop-parameter l = l.names.items ++ map (λ x. x.name) (drop l.parameter-index l.parameter-items) ≡ map (λ x. x.name) l.parameter-items
