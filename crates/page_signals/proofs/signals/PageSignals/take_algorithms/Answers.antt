use Rattle.std.proofs.Common.{ℕ, [], length, reverse, subst, sym, ap, map, ◌∙◌, arith}
use Rattle.page_parts.specs.AbortGraph.{Signals, with_algorithms}
use Rattle.abort_graph.specs.ByValue.{by_value, value_in}
use Rattle.abort_graph.proofs.AmongLemmas.{algorithms_among}
use Rattle.abort_graph.proofs.ByValueLemmas.{with_algorithms_by}
use Rattle.page_folds.specs.Seen.{standing}
use Rattle.page_values.specs.Seen.{seen}
use Rattle.page_signals.specs.Kept.{IsKept}
use Rattle.page_signals.specs.Registrations.{AreRegistrations}
use Rattle.page_signals.proofs.GraphLemmas.{later-algorithms, own-registrations, well-algorithms}
use Rattle.page_signals.proofs.KeptLemmas.{kept-signals}
use Rattle.page_signals.proofs.ViewLemmas.{signals-view, algorithms-view}
use Rattle.page_signals.proofs.signals.PageSignals.take_algorithms.Goals as goal

pub new-requires : goal.new-requires
new-requires c =
    subst AreRegistrations (sym c.take_algorithms-taken.ensures.all) (own-registrations c.self.inside.folds.signals c.args.s c.self.invariant.sound)

pub invariant_of-self : goal.invariant_of-self
invariant_of-self c =
    let st = standing c.self.inside.folds in
    let n = length c.self.inside.reasons.items in
    let os = reverse c.self.inside.opened.items in
    let ss = st.parts.signals in
    let s = c.args.s in
    let P : Signals ℕ → Type 0 = λ new. IsKept n (record st { parts = record st.parts { signals = new } }) os in
    subst P (sym c.take_algorithms-taken.ensures.none)
    (kept-signals n n st os (with_algorithms s [] ss) (omega arith) (later-algorithms ss s [])
    (algorithms_among n ss s [] c.self.invariant.among) (well-algorithms ss s [] tt c.self.invariant.sound) c.self.invariant)

pub returns-clause-all : goal.returns-clause-all
returns-clause-all c =
    c.new.ensures ∙ c.take_algorithms-taken.ensures.all
    ∙ algorithms-view c.self.inside.reasons.items c.self.inside.folds c.self.inside.opened.items c.args.self.now c.args.s c.self.view_is

pub returns-clause-none : goal.returns-clause-none
returns-clause-none c =
    let values = map seen c.self.inside.reasons.items in
    let ss = c.self.inside.folds.signals in
    let s = c.args.s in
    signals-view c.self.inside.reasons.items c.self.inside.folds c.self.inside.opened.items c.args.self.now c.take_algorithms-taken.new.self (with_algorithms s [])
    (ap (by_value (value_in values)) c.take_algorithms-taken.ensures.none ∙ with_algorithms_by (value_in values) ss s [])
    c.self.view_is
