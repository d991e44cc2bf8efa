use Rattle.std.proofs.Common.{refl}
use Rattle.page_host.proofs.Composing.{acted-silently}
use Rattle.page_host.proofs.page.Page.take_frame.Goals as goal

pub returns-clause-gone : goal.returns-clause-gone
returns-clause-gone g c = acted-silently c.self.view_is c.requires refl refl refl refl c.take_frame.ensures.gone
