use Rattle.std.proofs.Common.{length, reverse, subst, sym}
use Rattle.page_parts.specs.TaskSignals.{Prios, depend}
use Rattle.page_folds.specs.Seen.{standing}
use Rattle.task_signal.specs.Changes.{HasPriority}
use Rattle.page_signals.specs.Signalling.{Signalling}
use Rattle.page_signals.specs.Kept.{IsKept}
use Rattle.page_signals.proofs.PrioLemmas.{record-has, still-depend, followers-depend}
use Rattle.page_signals.proofs.KeptLemmas.{kept-prios}
use Rattle.page_signals.proofs.signals.PageSignals.follow.Goals as goal

pub invariant_of-self-2 : goal.invariant_of-self-2
invariant_of-self-2 c =
    let st = standing c.self.inside.folds in
    let n = length c.self.inside.reasons.items in
    let os = reverse c.self.inside.opened.items in
    let ps = st.parts.prios in
    let s = c.args.s in
    let on = c.args.on in
    let H : Signalling → Type 0 = λ old. HasPriority s old.prios in
    let has : HasPriority s ps = subst H (sym c.self.view_is) c.requires.follower in
    let P : Prios → Type 0 = λ new. IsKept n (record st { parts = record st.parts { prios = new } }) os in
    subst P (sym c.in_ok-depend.ensures.depends)
    (kept-prios n st os (depend s on ps) (still-depend s on ps) (followers-depend s on ps (record-has ps s has) c.self.invariant.followers) c.self.invariant)
