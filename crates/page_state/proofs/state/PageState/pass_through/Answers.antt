use Rattle.page_state.proofs.Combined.{Does-passed_through, Does-unpassed}
use Rattle.page_state.proofs.state.PageState.pass_through.Goals as goal

pub returns-in_err-element_made : goal.returns-in_err-element_made
returns-in_err-element_made g c =
    Does-unpassed c.args.into c.args.n c.args.made.combinator c.args.made.result c.args.self.now _ c.from_residual.ensures.1 c.in_err-element_made.ensures

pub returns : goal.returns
returns g c =
    Does-passed_through c.args.into c.args.n c.args.made.combinator c.args.made.result c.args.self.now c.element_made.new.self c.in_ok-element_made.ensures c.settle.ensures
