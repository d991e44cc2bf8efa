use Rattle.std.proofs.Common.{◌≡◌, ap, refl, sym, cond, Bool, false, eqb, eq-eqb, arith}
use Rattle.std.proofs.lemmas.Bool.Decides.{nat_tests}
use Rattle.page_model.specs.State.{Page}
use Rattle.page_model.specs.PageTime.{request_idle, idle_timeout}
use Rattle.page_state.specs.Standing.{page_of}
use Rattle.page_state.specs.PageActs.{at}
use Rattle.page_state.specs.TimeActs.{idle_asked}
use Rattle.page_state.proofs.Acting.{Does-is, Does-next, Does-silent}
use Rattle.page_state.proofs.Telling.{Does-wanted}
use Rattle.page_state.proofs.state.PageState.request_idle.Goals as goal

pub returns-in_err-ask_idle : goal.returns-in_err-ask_idle
returns-in_err-ask_idle g c =
    Does-wanted g.L.Lines.keeping (request_idle c.args.ms c.args.registration) c.args.self.now c.ask_idle.new.self _ _ c.from_residual.ensures.1 c.in_err-ask_idle.ensures.memory

pub returns-then-ms-eq0 : goal.returns-then-ms-eq0
returns-then-ms-eq0 g c =
    let s = c.args.self.now in
    let ms = c.args.ms in
    let asked : Page → Page = idle_asked c.args.registration in
    Does-is asked (request_idle ms c.args.registration) (at s _)
    (sym (ap (λ (b : Bool). cond {A = Page → Page} b (λ q. q) (idle_timeout ms c.args.registration) (asked (page_of s))) (eq-eqb ms 0 c.if-ms-eq0.true)))
    (Does-silent g.L.Lines.keeping asked s _ refl c.in_ok-ask_idle.ensures.asked)

pub returns : goal.returns
returns g c =
    let s = c.args.self.now in
    let ms = c.args.ms in
    let r = c.args.registration in
    let asked : Page → Page = idle_asked r in
    let some : eqb ms 0 ≡ false = grind (arith, nat_tests, c.if-ms-eq0.false) in
    Does-is (λ p. idle_timeout ms r (asked p)) (request_idle ms r) (at s _)
    (sym (ap (λ (b : Bool). cond {A = Page → Page} b (λ q. q) (idle_timeout ms r) (asked (page_of s))) some))
    (Does-next asked (idle_timeout ms r) (λ es p. refl) (Does-silent g.L.Lines.keeping asked s _ refl c.in_ok-ask_idle.ensures.asked) c.idle_timeout.ensures)
