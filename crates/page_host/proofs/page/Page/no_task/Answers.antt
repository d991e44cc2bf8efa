use Rattle.std.proofs.Common.{refl}
use Rattle.page_host.proofs.Composing.{acted-silently}
use Rattle.page_host.proofs.page.Page.no_task.Goals as goal

pub returns : goal.returns
returns g c = acted-silently c.self.view_is c.requires refl refl refl refl c.under.ensures
