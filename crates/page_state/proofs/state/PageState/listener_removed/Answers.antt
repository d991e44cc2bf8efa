use Rattle.std.proofs.Common.{◌≡◌, Bool, true, false, cond, ap, sym, ◌∙◌, ℕ, arith, refl}
use Rattle.page_parts.specs.Listeners.{is_listening}
use Rattle.page_model.specs.Operations.{listener_removed}
use Rattle.page_state.specs.Standing.{Standing, page_of}
use Rattle.page_state.specs.PageActs.{at}
use Rattle.page_state.specs.SignalActs.{listener_dropped}
use Rattle.page_state.proofs.Acting.{Does-idle, Does-is, Does-wants}
use Rattle.page_state.proofs.state.PageState.listener_removed.Goals as goal

pub returns-then-not-is_listening_number : goal.returns-then-not-is_listening_number
returns-then-not-is_listening_number g c =
    let number = c.args.number in
    let s = c.args.self.now in
    let is : is_listening number s.signals.listeners ≡ false =
    ap (λ (t : Standing). is_listening number t.signals.listeners) (sym c.self.view_is) ∙ sym c.is_listening_number.ensures ∙ c.if-not-is_listening_number.true
    in
    Does-is (λ p. p) (listener_removed number) (at s (g.L.Lines.seen c.args.lines.now))
    (ap (λ (b : Bool). cond b (listener_dropped number (page_of s)) (page_of s)) (sym is)) (Does-idle g.L.Lines.keeping s (g.L.Lines.seen c.args.lines.now))

pub returns-in-Ok : goal.returns-in-Ok
returns-in-Ok g c =
    let number = c.args.number in
    let s = c.args.self.now in
    let is : is_listening number s.signals.listeners ≡ true =
    ap (λ (t : Standing). is_listening number t.signals.listeners) (sym c.self.view_is) ∙ sym c.is_listening_number.ensures ∙ c.if-not-is_listening_number.false
    in
    let same : c.in-Ok.r ≡ number = omega (arith, c.in-Ok.ensures) in
    Does-is (listener_dropped c.in-Ok.r) (listener_removed number) (at s (g.L.Lines.seen c.args.lines.now))
    (ap (λ (n : ℕ). listener_dropped n (page_of s)) same ∙ ap (λ (b : Bool). cond b (listener_dropped number (page_of s)) (page_of s)) (sym is))
    c.drop_listener.ensures

pub returns-in-Err : goal.returns-in-Err
returns-in-Err g c = Does-wants g.L.Lines.keeping (listener_removed c.args.number) c.args.self.now c.args.self.now _ refl
