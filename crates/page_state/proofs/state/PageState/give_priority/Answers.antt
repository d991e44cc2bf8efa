use Rattle.std.proofs.Common.{refl}
use Rattle.page_types.specs.Events.{Prio}
use Rattle.page_model.specs.PageSignals.{give_priority}
use Rattle.page_state.specs.SignalActs.{priority_given}
use Rattle.page_state.proofs.Telling.{Does-told, Does-wanted}
use Rattle.page_state.proofs.state.PageState.give_priority.Goals as goal

pub returns-in_err-give : goal.returns-in_err-give
returns-in_err-give g c =
    Does-wanted g.L.Lines.keeping (give_priority c.args.s c.args.priority) c.args.self.now c.give.new.self _ _ c.from_residual.ensures.1 c.in_err-give.ensures.memory

pub returns : goal.returns
returns g c =
    Does-told (priority_given c.args.s c.args.priority) (λ p. Prio c.args.s c.args.priority) _ c.args.self.now c.give.new.self refl c.in_ok-give.ensures.given refl c.emit.ensures
