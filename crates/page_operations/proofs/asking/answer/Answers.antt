use Rattle.std.proofs.Common.{◌≡◌, ◌∙◌, sym, subst, map, List}
use Rattle.page_values.specs.Seen.{seen}
use Rattle.page_values.specs.declared.Value.{Value}
use Rattle.lang_ast.specs.Hosts.{ask_op}
use Rattle.page_model.specs.Operations.{may_operate}
use Rattle.page_state.specs.PageActs.{at}
use Rattle.page_state.specs.Standing.{page_of}
use Rattle.page_operations.proofs.Plain.{Asked-unknown, Asked-same, numbered-before}
use Rattle.page_operations.proofs.asking.answer.Goals as goal

pub returns-then-not-may_operate-clause-asked : goal.returns-then-not-may_operate-clause-asked
returns-then-not-may_operate-clause-asked g c =
    Asked-unknown g.L.Lines.keeping c.args.op (map seen c.args.args.items) (at c.args.page.now (g.L.Lines.seen c.args.lines.now)) _
    (sym (subst (λ (xs : List Value). c.may_operate.result ≡ may_operate (page_of c.args.page.now) c.args.op (map seen xs)) c.deref.ensures.value c.may_operate.ensures)
    ∙ c.if-not-may_operate.true) c.throw.ensures

pub returns-in-TextOf-clause-asked : goal.returns-in-TextOf-clause-asked
returns-in-TextOf-clause-asked g c = c.answer_purely.ensures.asked (g.L.Lines.seen c.args.lines.now)

pub returns-in_default-clause-asked : goal.returns-in_default-clause-asked
returns-in_default-clause-asked g c = Asked-same (ask_op c.args.op c.args.args) _ _ c.where_numbered.ensures.same c.answer_known-done.ensures

pub returns-in_default-clause-numbered : goal.returns-in_default-clause-numbered
returns-in_default-clause-numbered g c =
    let ask = ask_op c.args.op c.args.args in
    numbered-before g.L.Lines.keeping ask c.args.page.now c.answer_known-done.new.page _
    (Asked-same ask _ _ c.where_numbered.ensures.same c.answer_known-done.ensures) c.where_numbered.ensures.numbered
