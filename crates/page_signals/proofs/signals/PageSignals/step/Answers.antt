use Rattle.std.proofs.Common.{List, length, map, reverse, subst, ap, ◌∙◌}
use Rattle.page_values.specs.declared.Value as code_values
use Rattle.page_values.specs.Seen.{seen}
use Rattle.page_folds.specs.AtRest.{at_rest}
use Rattle.page_folds.specs.Seen.{standing}
use Rattle.page_signals.specs.Kept.{AreFitting, IsKept}
use Rattle.page_signals.specs.Seen.{visit_seen, signalling_seen}
use Rattle.page_signals.proofs.AdvanceLemmas.{stepped-view, view-falls}
use Rattle.page_signals.proofs.FitLemmas.{kept-fits}
use Rattle.page_signals.proofs.KeptLemmas.{kept-lost}
use Rattle.page_signals.proofs.PrioLemmas.{followers-at_rest}
use Rattle.page_signals.proofs.signals.PageSignals.step.Goals as goal

pub returns-in-Ok-clause-step : goal.returns-in-Ok-clause-step
returns-in-Ok-clause-step c =
    let a = c.self.inside in
    stepped-view c.deref.result.now a.reasons.items a.folds c.advance.new.folds a.opened.items c.advance.new.opened.items c.args.self.now (visit_seen c.in-Ok.visit)
    c.deref.ensures.value c.in-Ok.ensures.step c.self.view_is

pub returns-in-Ok-clause-falls : goal.returns-in-Ok-clause-falls
returns-in-Ok-clause-falls c =
    let a = c.self.inside in
    view-falls (visit_seen c.in-Ok.visit) c.args.self.now (signalling_seen a.reasons.items c.advance.new.folds c.advance.new.opened.items)
    (stepped-view c.deref.result.now a.reasons.items a.folds c.advance.new.folds a.opened.items c.advance.new.opened.items c.args.self.now (visit_seen c.in-Ok.visit)
    c.deref.ensures.value c.in-Ok.ensures.step c.self.view_is)

pub returns-in-Ok-clause-before : goal.returns-in-Ok-clause-before
returns-in-Ok-clause-before c =
    let a = c.self.inside in
    subst AreFitting c.self.view_is (kept-fits (length a.reasons.items) (map seen a.reasons.items) (reverse a.opened.items) (standing a.folds) c.self.invariant)

pub returns-in-Ok-clause-after : goal.returns-in-Ok-clause-after
returns-in-Ok-clause-after c =
    let a = c.self.inside in
    let opened = reverse c.advance.new.opened.items in
    let P : List code_values.Value → Type 0 = λ rs. IsKept (length rs) (standing c.advance.new.folds) opened in
    kept-fits (length a.reasons.items) (map seen a.reasons.items) opened (standing c.advance.new.folds) (subst P c.deref.ensures.value c.in-Ok.ensures.kept)

pub returns-in-Err-clause-before : goal.returns-in-Err-clause-before
returns-in-Err-clause-before c =
    let a = c.self.inside in
    subst AreFitting c.self.view_is (kept-fits (length a.reasons.items) (map seen a.reasons.items) (reverse a.opened.items) (standing a.folds) c.self.invariant)

pub invariant_of-self-in-Err : goal.invariant_of-self-in-Err
invariant_of-self-in-Err c =
    let a = c.self.inside in
    let new = standing c.keep_priorities.new.self in
    kept-lost (length a.reasons.items) new (reverse c.clear.new.self.items) c.keep_priorities.ensures.signals c.keep_priorities.ensures.open (ap reverse c.clear.ensures.items)
    (followers-at_rest (standing a.folds).parts.prios new.parts.prios (ap at_rest c.keep_priorities.ensures.prios ∙ c.in-Err.ensures.err) c.self.invariant.followers)
