use Rattle.std.proofs.Common.{refl}
use Rattle.page_types.specs.Events.{Frame}
use Rattle.page_model.specs.State.{emit}
use Rattle.page_host.proofs.Composing.{acted-whole, running-of}
use Rattle.page_host.proofs.page.Page.frame_told.Goals as goal

pub invariant_of-self : goal.invariant_of-self
invariant_of-self g c =
    acted-whole {f = emit (Frame c.args.time.0)} (λ p. record { counted = refl; names = refl; now = refl }) c.self.invariant (running-of c.self.view_is c.requires) c.noted.ensures.kept c.noted.ensures.counted refl refl refl c.emit-done.ensures
