use Rattle.std.proofs.Common.{◌∙◌, ap, not}
use Rattle.page_parts.specs.IdleCallbacks.{Idle}
use Rattle.page_parts.specs.Words.{is_empty}
use Rattle.idle_periods.proofs.CallbackLemmas.{runnable_first}
use Rattle.idle_periods.proofs.idle.Idle.runnable.Goals as goal

pub returns-in-Some : goal.returns-in-Some
returns-in-Some c =
    runnable_first c.self.inside.last_runnable 0 _ _ _ c.self.invariant.0 c.in-Some.ensures.first
    ∙ ap (λ (i : Idle). not (is_empty i.runnable)) c.self.view_is
