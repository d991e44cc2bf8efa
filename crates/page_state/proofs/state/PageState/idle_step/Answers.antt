use Rattle.std.proofs.Common.{refl}
use Rattle.page_model.specs.State.{Page}
use Rattle.page_model.specs.PageTime.{start_period, idle_step}
use Rattle.page_model.proofs.Adding.Lines.{start_period-adds}
use Rattle.page_state.proofs.Acting.{Does-next, Does-silent, Does-wants}
use Rattle.page_state.proofs.state.PageState.idle_step.Goals as goal

pub returns-then-now : goal.returns-then-now
returns-then-now g c = Does-wants g.L.Lines.keeping idle_step c.args.self.now c.args.self.now _ refl

pub returns : goal.returns
returns g c =
    let set : Page → Page = λ p. record p { last_idle_start = p.now } in
    Does-next set start_period start_period-adds (Does-silent g.L.Lines.keeping set c.args.self.now _ refl c.set_idle_start.ensures) c.start_period.ensures
