use Rattle.std.proofs.Common.{◌∙◌, ap, sym, not}
use Rattle.std.specs.Option.{option_map}
use Rattle.page_parts.specs.Frames.{Callback}
use Rattle.page_parts.specs.IdleCallbacks.{Idle}
use Rattle.page_parts.specs.Words.{is_empty}
use Rattle.idle_periods.specs.Runnable.{first_in, popped}
use Rattle.idle_periods.proofs.CallbackLemmas.{rise_popped, first_popped, taken}
use Rattle.idle_periods.proofs.idle.Idle.pop.Goals as goal

pub invariant_of-self-2 : goal.invariant_of-self-2
invariant_of-self-2 c =
    let i = c.in_ok-registration in
    (rise_popped c.self.inside.last_runnable c.self.inside.last_handle i.field-0-0 i.registration _ _ i.ensures.removal c.self.invariant.0, c.self.invariant.1)

pub returns-clause-registration : goal.returns-clause-registration
returns-clause-registration c =
    let i = c.in_ok-registration in
    let some = sym c.if-not-runnable.false ∙ c.runnable.ensures ∙ ap (λ (l : Idle). not (is_empty l.runnable)) (sym c.self.view_is) in
    let first = first_popped c.self.inside.last_runnable c.self.inside.last_handle i.field-0-0 i.registration _ _ i.ensures.removal c.self.invariant.0 some in
    sym (ap (option_map (λ (callback : Callback). callback.registration)) first) ∙ ap (λ (l : Idle). option_map (λ (callback : Callback). callback.registration) (first_in l.runnable)) c.self.view_is

pub returns-clause-gone : goal.returns-clause-gone
returns-clause-gone c =
    let i = c.in_ok-registration in
    let some = sym c.if-not-runnable.false ∙ c.runnable.ensures ∙ ap (λ (l : Idle). not (is_empty l.runnable)) (sym c.self.view_is) in
    taken c.self.inside.last_runnable c.self.inside.last_handle i.field-0-0 i.registration _ _ i.ensures.removal c.self.invariant.0 some ∙ ap popped c.self.view_is
