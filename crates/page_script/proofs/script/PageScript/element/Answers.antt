use Rattle.page_model.specs.PageCombinators.{element_made}
use Rattle.page_script.proofs.Lifting.{Does-wants}
use Rattle.page_script.proofs.Making.{Does-element}
use Rattle.page_script.proofs.script.PageScript.element.Goals as goal

pub returns-in_err-into-clause-does : goal.returns-in_err-into-clause-does
returns-in_err-into-clause-does g c =
    Does-wants g.L.Lines.keeping (element_made c.args.combinator c.args.place c.args.p) c.args.self.now c.make_marked.new.self _ _ c.from_residual.ensures.1 c.in_err-into.ensures.memory

pub returns-clause-does : goal.returns-clause-does
returns-clause-does g c =
    Does-element c.args.combinator c.args.place c.args.p c.args.self.now c.make_marked.new.self c.in_ok-into.into c.in_ok-into.ensures.number c.in_ok-into.ensures.made c.subscribe.ensures.does
