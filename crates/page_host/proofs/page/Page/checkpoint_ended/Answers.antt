use Rattle.std.proofs.Common.{refl}
use Rattle.page_notices.specs.Seen.{current}
use Rattle.page_model.specs.Invoke.{checkpoint_ended, under}
use Rattle.page_state.specs.Standing.{page_of}
use Rattle.page_state.proofs.Telling.{Does-quiet}
use Rattle.page_host.proofs.Quiet.{checkpoint_ended-silent}
use Rattle.page_host.proofs.Composing.{acted}
use Rattle.page_host.proofs.page.Page.checkpoint_ended.Goals as goal

pub returns : goal.returns
returns g c =
    let now = current c.args.level c.args.state in
    acted _ _ c.self.view_is c.requires c.noted.ensures.same c.noted.ensures.kept refl
    (Does-quiet g.L.Lines.keeping (λ p. checkpoint_ended (under now p) p) c.self.inside.state _ (g.L.Lines.seen c.self.inside.lines) _ (checkpoint_ended-silent (under now (page_of c.self.inside.state)) (page_of c.self.inside.state)) c.checkpoint_ended-done.ensures.ended c.checkpoint_ended-done.ensures.memory)
