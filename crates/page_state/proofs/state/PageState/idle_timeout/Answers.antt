use Rattle.std.proofs.Common.{ap, refl, ◌+◌, ◌*◌, ℕ}
use Rattle.page_types.specs.Events.{Arm}
use Rattle.page_model.specs.PageTime.{idle_timeout}
use Rattle.page_state.specs.TimeActs.{idle_timeout_set}
use Rattle.page_state.proofs.Telling.{Does-told, Does-wanted}
use Rattle.page_state.proofs.state.PageState.idle_timeout.Goals as goal

pub returns-in_err-due : goal.returns-in_err-due
returns-in_err-due g c =
    Does-wanted g.L.Lines.keeping (idle_timeout c.args.ms c.args.registration) c.args.self.now c.set_idle_timeout.new.self _ _ c.from_residual.ensures.1 c.in_err-due.ensures.memory

pub returns : goal.returns
returns g c =
    let r = c.args.registration in
    let ms = c.args.ms in
    Does-told (idle_timeout_set ms r) (λ p. Arm r (p.now + ms * 1000) 0) _ c.args.self.now c.set_idle_timeout.new.self refl c.in_ok-due.ensures.set
    (ap (λ (due : ℕ). Arm r due 0) c.in_ok-due.ensures.due) c.emit.ensures
