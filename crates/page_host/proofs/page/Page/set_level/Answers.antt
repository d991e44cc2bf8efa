use Rattle.std.proofs.Common.{refl}
use Rattle.page_host.proofs.Composing.{acted-silently}
use Rattle.page_host.proofs.page.Page.set_level.Goals as goal

pub returns : goal.returns
returns g c = acted-silently c.self.view_is c.requires refl refl refl refl c.set_level.ensures
