use Rattle.std.proofs.Common.{sym, ◌∙◌}
use Rattle.lang_ast.specs.Hosts.{seen_lent}
use Rattle.page_values.specs.Seen.{seen}
use Rattle.page_operations.proofs.Plain.{answers-alone}
use Rattle.page_operations.proofs.giving.known_value.Goals as goal

pub returns-clause-answer : goal.returns-clause-answer
returns-clause-answer g c =
    let known = sym c.may_operate_lent.ensures ∙ c.if-not-may_operate_lent.false in
    answers-alone c.args.op (seen_lent c.args.args.now) c.args.page.now (seen c.in_ok-value.value) c.in_ok-value.ensures.answer known
