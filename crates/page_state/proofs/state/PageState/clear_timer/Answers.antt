use Rattle.std.proofs.Common.{◌≡◌, ap, sym, ◌∙◌, cond, Bool, ℕ, arith, refl}
use Rattle.page_model.specs.PageTime.{clear_timer}
use Rattle.page_state.specs.Standing.{page_of}
use Rattle.page_state.specs.PageActs.{at}
use Rattle.page_state.specs.TimeActs.{timer_dropped}
use Rattle.page_state.proofs.Acting.{Does-idle, Does-is, Does-wants}
use Rattle.page_state.proofs.state.PageState.clear_timer.Goals as goal

pub returns-then-not-has_timer_number : goal.returns-then-not-has_timer_number
returns-then-not-has_timer_number g c =
    let s = c.args.self.now in
    let number = c.args.number in
    let none = sym c.has_timer_number.ensures ∙ c.if-not-has_timer_number.true in
    Does-is (λ p. p) (clear_timer number) (at s _) (sym (ap (λ (b : Bool). cond b (timer_dropped number (page_of s)) (page_of s)) none)) (Does-idle g.L.Lines.keeping s _)

pub returns-in-Ok : goal.returns-in-Ok
returns-in-Ok g c =
    let s = c.args.self.now in
    let number = c.args.number in
    let there = sym c.has_timer_number.ensures ∙ c.if-not-has_timer_number.false in
    let same : c.in-Ok.id ≡ number = omega (arith, c.in-Ok.ensures) in
    Does-is (timer_dropped c.in-Ok.id) (clear_timer number) (at s _)
    (ap (λ (n : ℕ). timer_dropped n (page_of s)) same ∙ sym (ap (λ (b : Bool). cond b (timer_dropped number (page_of s)) (page_of s)) there))
    c.drop_timer.ensures

pub returns-in-Err : goal.returns-in-Err
returns-in-Err g c = Does-wants g.L.Lines.keeping (clear_timer c.args.number) c.args.self.now c.args.self.now _ refl
