use Rattle.std.proofs.Common.{sym, ◌∙◌}
use Rattle.lang_ast.specs.Hosts.{seen_lent}
use Rattle.page_operations.proofs.Plain.{answers-value}
use Rattle.page_operations.proofs.giving.gives_value.Goals as goal

pub returns-then-gives_value : goal.returns-then-gives_value
returns-then-gives_value g c = λ known.
    answers-value c.args.op (seen_lent c.args.args.now) c.args.page.now (c.gives_value.ensures c.if-gives_value.true) (sym c.may_operate_lent.ensures ∙ known)
