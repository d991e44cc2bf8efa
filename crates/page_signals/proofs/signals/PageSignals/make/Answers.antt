use Rattle.std.proofs.Common.{ℕ, length, reverse, subst, sym, arith}
use Rattle.page_parts.specs.AbortGraph.{Signals, make}
use Rattle.abort_graph.proofs.AmongLemmas.{made_among}
use Rattle.page_folds.specs.Seen.{standing}
use Rattle.page_signals.specs.Kept.{IsKept}
use Rattle.page_signals.proofs.GraphLemmas.{later-make, well-make}
use Rattle.page_signals.proofs.KeptLemmas.{kept-signals}
use Rattle.page_signals.proofs.signals.PageSignals.make.Goals as goal

pub invariant_of-self-2 : goal.invariant_of-self-2
invariant_of-self-2 c =
    let st = standing c.self.inside.folds in
    let n = length c.self.inside.reasons.items in
    let os = reverse c.self.inside.opened.items in
    let ss = st.parts.signals in
    let P : Signals ℕ → Type 0 = λ new. IsKept n (record st { parts = record st.parts { signals = new } }) os in
    subst P (sym c.in_ok-make.ensures.made)
    (kept-signals n n st os (make ss) (omega arith) (later-make ss) (made_among n ss c.self.invariant.among) (well-make ss c.self.invariant.sound) c.self.invariant)
