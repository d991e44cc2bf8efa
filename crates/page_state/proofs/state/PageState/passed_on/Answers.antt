use Rattle.page_values.specs.Seen.{seen}
use Rattle.promise_core.specs.Seen.{settled_seen}
use Rattle.page_state.proofs.Combined.{Does-passed, Does-passed_stops}
use Rattle.page_state.proofs.state.PageState.passed_on.Goals as goal

pub returns-in_err-n : goal.returns-in_err-n
returns-in_err-n g c = Does-passed_stops c.args.into (settled_seen c.args.how) (seen c.args.value) c.args.self.now _ c.from_residual.ensures.1 c.in_err-n.ensures.does

pub returns : goal.returns
returns g c =
    Does-passed c.args.into (settled_seen c.args.how) (seen c.args.value) c.in_ok-n.n c.args.self.now c.item_made.new.self c.in_ok-n.ensures.number c.in_ok-n.ensures.does c.pass_item.ensures
