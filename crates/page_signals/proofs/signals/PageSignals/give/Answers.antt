use Rattle.std.proofs.Common.{length, reverse, subst, sym}
use Rattle.page_parts.specs.TaskSignals.{Prios, give}
use Rattle.page_folds.specs.Seen.{standing}
use Rattle.page_signals.specs.Kept.{IsKept}
use Rattle.page_signals.proofs.PrioLemmas.{still-give, followers-give}
use Rattle.page_signals.proofs.KeptLemmas.{kept-prios}
use Rattle.page_signals.proofs.signals.PageSignals.give.Goals as goal

pub invariant_of-self-2 : goal.invariant_of-self-2
invariant_of-self-2 c =
    let st = standing c.self.inside.folds in
    let n = length c.self.inside.reasons.items in
    let os = reverse c.self.inside.opened.items in
    let ps = st.parts.prios in
    let P : Prios → Type 0 = λ new. IsKept n (record st { parts = record st.parts { prios = new } }) os in
    subst P (sym c.in_ok-give.ensures.given)
    (kept-prios n st os (give c.args.s c.args.p ps) (still-give c.args.s c.args.p ps) (followers-give c.args.s c.args.p ps c.self.invariant.followers) c.self.invariant)
