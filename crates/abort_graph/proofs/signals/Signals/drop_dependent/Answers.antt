use Rattle.std.proofs.Common.{◌<◌, ◌≤◌, ◌-◌, ℕ, List, length, take, sym, ap, ◌∙◌, arith}
use Rattle.page_parts.specs.Words.{with_numbered}
use Rattle.page_parts.specs.AbortGraph as parts
use Rattle.abort_graph.specs.Seen.{signal_seen}
use Rattle.abort_graph.proofs.SignalLemmas.{changed, nothing_written, without_last}
use Rattle.abort_graph.proofs.signals.Signals.drop_dependent.Goals as goal

pub returns-in_default : goal.returns-in_default
returns-in_default g c =
    let past : 1 ≤ c.args.s → length c.self.inside.signals.items < c.args.s = λ h. omega (arith, c.in_default.ensures.none h, c.len.ensures, c.self.inside.signals.ok.0) in
    sym c.self.view_is ∙ nothing_written c.self.inside.signals.items c.args.s _ past ∙ ap (λ ss. with_numbered ss c.args.s (without_last (parts.the_signal ss c.args.s))) c.self.view_is

pub returns-in-Some : goal.returns-in-Some
returns-in-Some g c =
    let r = c.index_mut.result.now in
    let within : c.in-Some.at < length c.self.inside.signals.items = grind (arith, c.in-Some.ensures.there.1, c.len.ensures, c.self.inside.signals.ok.0) in
    changed without_last c.self.inside.signals.items c.args.s c.in-Some.at r _ c.in-Some.ensures.there.0 within c.index_mut.ensures.value (ap (λ (xs : List ℕ). record (signal_seen r) { dependents = xs }) (c.pop.ensures.rest ∙ ap (λ n. take (n - 1) r.dependents.items) r.dependents.ok.0))
    ∙ ap (λ ss. with_numbered ss c.args.s (without_last (parts.the_signal ss c.args.s))) c.self.view_is
