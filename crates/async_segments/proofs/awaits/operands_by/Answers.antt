use Rattle.std.proofs.Common.{ap, ◌∙◌}
use Rattle.lang_ast.specs.Seen.{seen_exprs}
use Rattle.async_segments.specs.Encoded.{operand_by}
use Rattle.async_segments.proofs.awaits.operands_by.Goals as goal

pub returns-in-Some-clause-found : goal.returns-in-Some-clause-found
returns-in-Some-clause-found c = c.some_operands.ensures.found ∙ ap (λ o. operand_by o (seen_exprs c.args.others.now.items)) c.in-Some.ensures

pub returns-in-None-clause-found : goal.returns-in-None-clause-found
returns-in-None-clause-found c = ap (λ o. operand_by o (seen_exprs c.args.others.now.items)) c.in-None.ensures
