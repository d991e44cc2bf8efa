use Rattle.page_state.specs.Handling.{element_reacted}
use Rattle.page_state.proofs.Acting.{Does-wants}
use Rattle.page_state.proofs.Lifted.{Does-lifted}
use Rattle.page_state.proofs.Handled.{element_reacted-only, Does-element_reacted}
use Rattle.std.proofs.Common.{◌≡◌, subst, refl}
use Rattle.std.specs.Prelude.{IfOk}
use Rattle.page_parts.specs.Notices.{is_outstanding}
use Rattle.page_state.specs.Standing.{Standing}
use Rattle.page_state.proofs.state.PageState.element.Goals as goal

pub returns-then-promises_made-clause-does : goal.returns-then-promises_made-clause-does
returns-then-promises_made-clause-does g c =
    Does-wants g.L.Lines.keeping (element_reacted c.args.combinator c.args.place c.args.p) c.args.self.now c.args.self.now (g.L.Lines.seen c.args.lines.now) refl

pub returns-clause-does : goal.returns-clause-does
returns-clause-does g c =
    Does-lifted (element_reacted c.args.combinator c.args.place c.args.p) (element_reacted-only c.args.combinator c.args.place c.args.p) c.self.view_is
    (Does-element_reacted c.args.combinator c.args.place c.args.p _ c.element.ensures.does)

pub returns-clause-was : goal.returns-clause-was
returns-clause-was g c =
    let P : Standing → Type 0 = λ s. IfOk c.element.result (λ was. was ≡ is_outstanding c.args.p s.script.notices) in
    subst P c.self.view_is c.element.ensures.was
