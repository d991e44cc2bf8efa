use Rattle.std.proofs.Common.{◌∙◌, ap, not}
use Rattle.page_parts.specs.IdleCallbacks.{waits}
use Rattle.idle_periods.proofs.CallbackLemmas.{empty_test, waits_seen}
use Rattle.idle_periods.proofs.idle.Idle.waiting.Goals as goal

pub returns : goal.returns
returns c =
    let empty = empty_test _ c.self.inside.callbacks.entries c.is_empty.ensures in
    ap not empty ∙ waits_seen c.self.inside.last_runnable c.self.inside.callbacks.entries ∙ ap waits c.self.view_is
