use Rattle.std.proofs.Common.{ap, ◌∙◌, nat_eq, length, arith}
use Rattle.page_parts.specs.Words.{without}
use Rattle.keyed_list.specs.Listed.{keys_in}
use Rattle.abort_graph.proofs.AlgorithmLemmas.{keys_others, fewer_others}
use Rattle.abort_graph.proofs.algorithms.Algorithms.remove.Goals as goal

pub invariant_of-self : goal.invariant_of-self
invariant_of-self c = (
  c.self.invariant.0,
  omega (arith, ap length c.remove.ensures.gone, fewer_others c.args.a c.self.inside.listed, c.self.invariant.1),
)

pub returns-clause-gone : goal.returns-clause-gone
returns-clause-gone c =
    ap keys_in c.remove.ensures.gone ∙ keys_others c.args.a c.self.inside.listed ∙ ap (without (λ b. nat_eq b c.args.a)) c.self.view_is
