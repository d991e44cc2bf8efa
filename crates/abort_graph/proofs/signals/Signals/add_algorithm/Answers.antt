use Rattle.std.proofs.Common.{◌<◌, ◌≤◌, ℕ, List, length, sym, ap, ◌∙◌, arith}
use Rattle.page_parts.specs.AbortGraph as parts
use Rattle.abort_graph.specs.Seen.{signal_seen}
use Rattle.abort_graph.proofs.SignalLemmas.{changed, nothing_written, with_more}
use Rattle.abort_graph.proofs.signals.Signals.add_algorithm.Goals as goal

pub returns-in_default-clause-added : goal.returns-in_default-clause-added
returns-in_default-clause-added g c =
    let past : 1 ≤ c.args.s → length c.self.inside.signals.items < c.args.s = λ h. omega (arith, c.in_default.ensures.none h, c.len.ensures, c.self.inside.signals.ok.0) in
    sym c.self.view_is ∙ nothing_written c.self.inside.signals.items c.args.s _ past ∙ ap (parts.add_algorithm c.args.s c.args.a) c.self.view_is

pub returns-clause-added : goal.returns-clause-added
returns-clause-added g c =
    let r = c.index_mut.result.now in
    let within : c.in-Some.at < length c.self.inside.signals.items = grind (arith, c.in-Some.ensures.there.1, c.len.ensures, c.self.inside.signals.ok.0) in
    changed (with_more c.args.a) c.self.inside.signals.items c.args.s c.in-Some.at r _ c.in-Some.ensures.there.0 within c.index_mut.ensures.value (ap (λ (xs : List ℕ). record (signal_seen r) { algorithms = xs }) c.in_ok-add.ensures.ok)
    ∙ ap (parts.add_algorithm c.args.s c.args.a) c.self.view_is
