use Rattle.std.proofs.Common.{ap, refl, ◌+◌, ℕ}
use Rattle.std.proofs.Math.Facts.{to_z-of_z}
use Rattle.page_types.specs.Events.{Arm}
use Rattle.page_model.specs.Operations.{latency_of}
use Rattle.page_state.specs.HostActs.{answer_set, answer_awaited}
use Rattle.page_state.proofs.Telling.{Does-told, Does-wanted}
use Rattle.page_state.proofs.state.PageState.await_answer.Goals as goal

pub returns-in_err-due : goal.returns-in_err-due
returns-in_err-due g c =
    Does-wanted g.L.Lines.keeping (answer_awaited c.args.k c.args.x c.args.registration) c.args.self.now c.set_answer.new.self _ _ c.from_residual.ensures.1 c.in_err-due.ensures.memory

pub returns : goal.returns
returns g c =
    let r = c.args.registration in
    let k = c.args.k in
    Does-told (answer_set k c.args.x r) (λ p. Arm r (p.now + latency_of p.latencies k) 0) _ c.args.self.now c.set_answer.new.self refl (rw (to_z-of_z c.ranges.x) at c.in_ok-due.ensures.set)
    (ap (λ (due : ℕ). Arm r due 0) c.in_ok-due.ensures.due) c.emit.ensures
