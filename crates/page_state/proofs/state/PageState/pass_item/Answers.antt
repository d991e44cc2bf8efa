use Rattle.promise_core.specs.Seen.{settled_seen}
use Rattle.page_state.proofs.Combined.{Does-passed_item, Does-no_item}
use Rattle.page_state.proofs.state.PageState.pass_item.Goals as goal

pub returns-in_err-made : goal.returns-in_err-made
returns-in_err-made g c = Does-no_item c.args.into (settled_seen c.args.how) c.args.n c.args.self.now _ c.from_residual.ensures.1 c.in_err-made.ensures.does

pub returns : goal.returns
returns g c =
    Does-passed_item c.args.into (settled_seen c.args.how) c.args.n c.in_ok-made.made.combinator c.in_ok-made.made.result c.args.self.now c.combinator_made.new.self c.in_ok-made.ensures.combinator c.in_ok-made.ensures.last
    c.in_ok-made.ensures.does c.pass_through.ensures
