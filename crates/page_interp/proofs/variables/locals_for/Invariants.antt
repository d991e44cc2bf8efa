use Rattle.std.proofs.Common.{◌≡◌, ◌-◌, map, take, length}
use Rattle.page_values.specs.Seen.{seen}
use Rattle.lang_meaning.specs.Evaluation.{parameters_with}
use Rattle.page_interp.proofs.variables.locals_for.Given as goal

abbrev pub invariant-loop-locals : goal.invariant-loop-locals
invariant-loop-locals l = parameters_with l.names (map seen l.locals.items) ≡ parameters_with l.names (map seen (take l.parameters l.fn.args.items))

abbrev pub decreases-loop-locals : goal.decreases-loop-locals
decreases-loop-locals l = length l.names - length l.locals.items
