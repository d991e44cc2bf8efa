use Rattle.std.proofs.Common.{ℕ, List, [], ◌∷◌, ◌++◌, inl, inr, length, map, reverse, subst, sym, ap, ◌∙◌}
use Rattle.page_values.specs.Seen.{seen}
use Rattle.abort_graph.proofs.SignalLemmas.{leaves}
use Rattle.page_folds.specs.Seen.{standing}
use Rattle.page_folds.specs.Steps.{Standing, abort_begun}
use Rattle.page_signals.specs.declared.opened.Open as code
use Rattle.page_signals.specs.Signalling.{Signalling}
use Rattle.page_signals.specs.Kept.{IsKept}
use Rattle.page_signals.proofs.AbortLemmas.{reason-kept, abort-kept, more-kept, numbered-below, numbered-view, pushed-seen, made-seen}
use Rattle.page_signals.proofs.AdvanceLemmas.{close-kept}
use Rattle.page_signals.proofs.PushLemmas.{marked-view}
use Rattle.page_signals.proofs.StepLemmas.{seen_by}
use Rattle.page_signals.proofs.signals.PageSignals.open_abort.Goals as goal

pub invariant_of-self-in_err-aborting : goal.invariant_of-self-in_err-aborting
invariant_of-self-in_err-aborting c =
    let a = c.self.inside in
    let n = length a.reasons.items in
    let new = c.reason_number.new.reasons.items in
    let st = standing a.folds in
    let os = reverse a.opened.items in
    let number = c.in_ok-number.number in
    let below = numbered-below c.args.s a.folds.signals a.reasons.items new c.args.reason number c.in_ok-number.ensures.number c.self.invariant.among in
    let K : Standing ℕ → Type 0 = λ after. IsKept (length new) after os in
    let P : List code.Open → Type 0 = λ opened. IsKept (length new) (standing c.begin_abort.new.self) (reverse opened) in
    subst P (sym c.in_ok-reserve.ensures.items)
    (elim c.in_err-aborting.ensures.err [
      | inl e ↦ subst K (sym e) (more-kept n (length new) st os below.0 c.self.invariant)
      | inr e ↦ subst K (sym e) (reason-kept n (length new) number c.args.s st os below.0 below.1 c.self.invariant)
    ])

pub returns-in_err-aborting-clause-err : goal.returns-in_err-aborting-clause-err
returns-in_err-aborting-clause-err c =
    let a = c.self.inside in
    let new = c.reason_number.new.reasons.items in
    let number = c.in_ok-number.number in
    let s = c.args.s in
    let made = made-seen a.reasons.items a.folds a.opened.items c.args.self.now s c.self.view_is c.requires in
    let is = numbered-view s number a.reasons.items new c.args.reason a.folds a.opened.items c.args.self.now c.in_ok-number.ensures.number made c.self.invariant c.self.view_is in
    let at = ap (λ (opened : List code.Open). seen_by (map seen new) (reverse opened) (standing c.begin_abort.new.self)) c.in_ok-reserve.ensures.items in
    let seen_at : Standing ℕ → Signalling = seen_by (map seen new) (reverse a.opened.items) in
    leaves c.from_residual-in_err-aborting.result
    (elim c.in_err-aborting.ensures.err [
      | inl e ↦ inl (at ∙ ap seen_at e ∙ is.same)
      | inr e ↦ inr (at ∙ ap seen_at e ∙ is.set)
    ])

pub invariant_of-self-2 : goal.invariant_of-self-2
invariant_of-self-2 c =
    let a = c.self.inside in
    let n = length a.reasons.items in
    let new = c.reason_number.new.reasons.items in
    let st = standing a.folds in
    let number = c.in_ok-number.number in
    let s = c.args.s in
    let o = c.new.result in
    let os = reverse a.opened.items in
    let below = numbered-below s a.folds.signals a.reasons.items new c.args.reason number c.in_ok-number.ensures.number c.self.invariant.among in
    let made = made-seen a.reasons.items a.folds a.opened.items c.args.self.now s c.self.view_is c.requires in
    let K : Standing ℕ → Type 0 = λ after. IsKept (length new) after (o ∷ os) in
    close-kept (length new) (standing c.begin_abort.new.self) c.push_reserved.new.self.items a.opened.items o
    (c.push_reserved.ensures.items ∙ ap (λ xs. xs ++ o ∷ []) c.in_ok-reserve.ensures.items)
    (subst K (sym c.in_ok-aborting.ensures.opened) (abort-kept n (length new) number s st os o below.0 below.1 made c.new.ensures.kind c.self.invariant))

pub returns-clause-marked : goal.returns-clause-marked
returns-clause-marked c =
    c.in_ok-aborting.ensures.marked
    ∙ marked-view c.self.inside.reasons.items c.self.inside.folds c.self.inside.opened.items c.args.self.now c.args.s c.self.view_is

pub returns-clause-opened : goal.returns-clause-opened
returns-clause-opened c =
    let a = c.self.inside in
    let new = c.reason_number.new.reasons.items in
    let number = c.in_ok-number.number in
    let s = c.args.s in
    let o = c.new.result in
    let made = made-seen a.reasons.items a.folds a.opened.items c.args.self.now s c.self.view_is c.requires in
    let is = numbered-view s number a.reasons.items new c.args.reason a.folds a.opened.items c.args.self.now c.in_ok-number.ensures.number made c.self.invariant c.self.view_is in
    pushed-seen (map seen new) number (standing c.begin_abort.new.self) (abort_begun s number (standing a.folds)) c.push_reserved.new.self.items a.opened.items o
    (c.push_reserved.ensures.items ∙ ap (λ xs. xs ++ o ∷ []) c.in_ok-reserve.ensures.items) c.new.ensures.kind c.new.ensures.when c.in_ok-aborting.ensures.opened
    ∙ is.opened
