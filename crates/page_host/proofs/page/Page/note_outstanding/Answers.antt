use Rattle.std.proofs.Common.{refl}
use Rattle.page_model.specs.Tasks.{outstanding_if_unhandled}
use Rattle.page_state.proofs.Telling.{Does-quiet}
use Rattle.page_host.proofs.Composing.{acted, acted-whole, running-of}
use Rattle.page_host.proofs.ListenerSteps.{outstanding-quiet}
use Rattle.page_host.proofs.page.Page.note_outstanding.Goals as goal

pub invariant_of-self : goal.invariant_of-self
invariant_of-self g c =
    acted-whole (outstanding-quiet c.args.n) c.self.invariant (running-of c.self.view_is c.requires) c.noted.ensures.kept c.noted.ensures.counted refl refl refl
    (Does-quiet g.L.Lines.keeping (outstanding_if_unhandled c.args.n) c.self.inside.state _ (g.L.Lines.seen c.self.inside.lines) _ refl c.outstanding_if_unhandled-done.ensures.noted c.outstanding_if_unhandled-done.ensures.memory)

pub returns : goal.returns
returns g c =
    acted _ _ c.self.view_is c.requires c.noted.ensures.same c.noted.ensures.kept refl
    (Does-quiet g.L.Lines.keeping (outstanding_if_unhandled c.args.n) c.self.inside.state _ (g.L.Lines.seen c.self.inside.lines) _ refl c.outstanding_if_unhandled-done.ensures.noted c.outstanding_if_unhandled-done.ensures.memory)
