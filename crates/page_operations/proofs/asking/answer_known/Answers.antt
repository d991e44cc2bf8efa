use Rattle.std.proofs.Common.{◌≡◌, true, subst, sym, map}
use Rattle.page_types.specs.declared.Op.{Op}
use Rattle.page_types.specs.Values.{Value}
use Rattle.page_values.specs.Seen.{seen}
use Rattle.lang_meaning.specs.PureOperations.{argument}
use Rattle.page_state.specs.FoldActs.{Reaches, hosting_of}
use Rattle.page_model.specs.Operations.{may_operate}
use Rattle.lang_ast.specs.Hosts.{ask_op}
use Rattle.page_state.specs.Standing.{page_of}
use Rattle.page_state.specs.PageActs.{at}
use Rattle.page_operations.specs.Asked.{Asked}
use Rattle.page_operations.specs.Folding.{abort_asked, change_asked}
use Rattle.page_operations.proofs.Aborting.{Asked-abort, Asked-change}
use Rattle.page_operations.proofs.asking.answer_known.Goals as goal

pub returns-in-AbortOp : goal.returns-in-AbortOp
returns-in-AbortOp g c =
    let args = map seen c.args.args.items in
    let old = at c.args.page.now (g.L.Lines.seen c.args.lines.now) in
    let new = at c.abort.new.page (g.L.Lines.seen c.abort.new.lines) in
    let P : Value → Type 0 = λ v. Reaches g.L.Lines.keeping old (abort_asked v (seen c.first_two-controller.result.1) (hosting_of c.args.page.now)) c.abort.result new in
    let Q : Value → Type 0 = λ v. Reaches g.L.Lines.keeping old (abort_asked (argument args 0) v (hosting_of c.args.page.now)) c.abort.result new in
    let known = subst (λ (o : Op). may_operate (page_of c.args.page.now) o args ≡ true) c.in-AbortOp.is c.requires.known in
    subst (λ (o : Op). Asked g.L.Lines.keeping old (ask_op o c.args.args) c.abort.result new) (sym c.in-AbortOp.is)
    (Asked-abort args old _ known (subst Q c.first_two-controller.ensures.second (subst P c.first_two-controller.ensures.first c.abort.ensures)))

pub returns-in-SetPriority : goal.returns-in-SetPriority
returns-in-SetPriority g c =
    let args = map seen c.args.args.items in
    let old = at c.args.page.now (g.L.Lines.seen c.args.lines.now) in
    let new = at c.set_priority.new.page (g.L.Lines.seen c.set_priority.new.lines) in
    let P : Value → Type 0 = λ v. Reaches g.L.Lines.keeping old (change_asked v (seen c.first_two-controller-in-SetPriority.result.1) (hosting_of c.args.page.now)) c.set_priority.result new in
    let Q : Value → Type 0 = λ v. Reaches g.L.Lines.keeping old (change_asked (argument args 0) v (hosting_of c.args.page.now)) c.set_priority.result new in
    let known = subst (λ (o : Op). may_operate (page_of c.args.page.now) o args ≡ true) c.in-SetPriority.is c.requires.known in
    subst (λ (o : Op). Asked g.L.Lines.keeping old (ask_op o c.args.args) c.set_priority.result new) (sym c.in-SetPriority.is)
    (Asked-change args old _ known
    (subst Q c.first_two-controller-in-SetPriority.ensures.second (subst P c.first_two-controller-in-SetPriority.ensures.first c.set_priority.ensures)))
