use Rattle.std.proofs.Common.{refl, ◌≡◌, ℕ, ◌+◌, ◌*◌, ap, arith}
use Rattle.page_types.specs.Events.{Arm}
use Rattle.page_model.specs.State.{emit}
use Rattle.page_state.specs.Standing.{page_of}
use Rattle.page_state.specs.PageActs.{at}
use Rattle.page_state.proofs.Acting.{Does-is, Does-wants}
use Rattle.signal_operations.proofs.delays.tell_delay.Goals as goal

pub returns-in_default : goal.returns-in_default
returns-in_default g c =
    Does-wants g.L.Lines.keeping (λ p. emit (Arm c.args.registration (p.now + c.args.ms * 1000) 0) p) c.args.page.now c.args.page.now (g.L.Lines.seen c.args.lines.now) refl

pub returns : goal.returns
returns g c =
    let r = c.args.registration in
    let p = page_of c.args.page.now in
    let due : c.in-Some.due ≡ p.now + c.args.ms * 1000 = omega (arith, c.in-Some.ensures, c.now.ensures) in
    Does-is (emit (Arm r c.in-Some.due 0)) (λ p. emit (Arm r (p.now + c.args.ms * 1000) 0) p) (at c.args.page.now (g.L.Lines.seen c.args.lines.now))
    (ap (λ (due : ℕ). emit (Arm r due 0) p) due) c.emit.ensures
