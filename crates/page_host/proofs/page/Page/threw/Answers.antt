use Rattle.std.proofs.Common.{refl}
use Rattle.page_values.specs.Seen.{seen}
use Rattle.page_script.specs.Reports.{when_seen}
use Rattle.page_host.proofs.Quiet.{threw-quiet}
use Rattle.page_host.proofs.Composing.{acted-whole, running-of}
use Rattle.page_host.proofs.page.Page.threw.Goals as goal

pub invariant_of-self : goal.invariant_of-self
invariant_of-self g c = acted-whole (threw-quiet (when_seen c.args.when) (seen c.args.value.now)) c.self.invariant (running-of c.self.view_is c.requires) c.noted.ensures.kept c.noted.ensures.counted refl refl refl c.threw_in-done.ensures
