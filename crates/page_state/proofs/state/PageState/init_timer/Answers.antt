use Rattle.std.proofs.Common.{ap, refl}
use Rattle.std.proofs.Math.Facts.{to_z-of_z}
use Rattle.page_types.specs.Events.{Arm}
use Rattle.page_parts.specs.Timers.{Armed, armed}
use Rattle.page_model.specs.PageTime.{init_timer}
use Rattle.page_state.specs.TimeActs.{timer_set}
use Rattle.page_state.proofs.Telling.{Does-told, Does-wanted}
use Rattle.page_state.proofs.state.PageState.init_timer.Goals as goal

pub returns-in_err-armed : goal.returns-in_err-armed
returns-in_err-armed g c =
    Does-wanted g.L.Lines.keeping (init_timer c.args.again c.args.registration c.args.repeats c.args.timeout) c.args.self.now c.arm.new.self _ _ c.from_residual.ensures.1
    c.in_err-armed.ensures.memory

pub returns : goal.returns
returns g c =
    let r = c.args.registration in
    Does-told (timer_set c.args.again r c.args.repeats c.args.timeout)
    (λ p. let a = armed c.args.again c.args.timeout p.level p.now p.timers in Arm r a.due a.level) _ c.args.self.now c.arm.new.self
    refl (rw (to_z-of_z c.ranges.timeout) at c.in_ok-armed.ensures.set)
    (ap (λ (a : Armed). Arm r a.due a.level) (rw (to_z-of_z c.ranges.timeout) at c.in_ok-armed.ensures.armed)) c.emit.ensures
