use Rattle.promise_core.specs.Seen.{reaction_seen}
use Rattle.page_state.specs.Handling.{reacted}
use Rattle.page_state.proofs.Acting.{Does-wants}
use Rattle.page_state.proofs.Lifted.{Does-lifted}
use Rattle.page_state.proofs.Handled.{reacted-only, Does-reacted}
use Rattle.std.proofs.Common.{◌≡◌, subst, refl}
use Rattle.std.specs.Prelude.{IfOk}
use Rattle.page_parts.specs.Notices.{is_outstanding}
use Rattle.page_state.specs.Standing.{Standing}
use Rattle.page_state.proofs.state.PageState.react.Goals as goal

pub returns-then-not-is_promise-clause-does : goal.returns-then-not-is_promise-clause-does
returns-then-not-is_promise-clause-does g c =
    Does-wants g.L.Lines.keeping (reacted c.args.p (reaction_seen c.args.reaction)) c.args.self.now c.args.self.now (g.L.Lines.seen c.args.lines.now) refl

pub returns-clause-does : goal.returns-clause-does
returns-clause-does g c =
    let x = reaction_seen c.args.reaction in
    Does-lifted (reacted c.args.p x) (reacted-only c.args.p x) c.self.view_is (Does-reacted c.args.p x _ c.subscribe.ensures.does)

pub returns-clause-was : goal.returns-clause-was
returns-clause-was g c =
    let P : Standing → Type 0 = λ s. IfOk c.subscribe.result (λ was. was ≡ is_outstanding c.args.p s.script.notices) in
    subst P c.self.view_is c.subscribe.ensures.was
