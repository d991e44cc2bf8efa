use Rattle.std.proofs.Common.{refl}
use Rattle.page_parts.specs.AbortGraph.{marked}
use Rattle.page_values.specs.Seen.{seen}
use Rattle.page_model.specs.State.{Page}
use Rattle.page_host.proofs.Calm.{calm-whole, reason_set-calm}
use Rattle.page_host.proofs.Composing.{running-of}
use Rattle.page_host.proofs.page.Page.reason_set.Goals as goal

pub invariant_of-self : goal.invariant_of-self
invariant_of-self g c =
    calm-whole (λ (q : Page). reason_set-calm (seen c.args.reason) (marked c.args.s q.signals) q) c.self.invariant (running-of c.self.view_is c.requires) c.noted.ensures.kept c.noted.ensures.counted refl refl refl
    c.reason_set-done.ensures.does
