use Rattle.std.proofs.Common.{◌<◌, ◌≤◌, ℕ, List, length, sym, ap, ◌∙◌, arith}
use Rattle.page_parts.specs.Words.{with_numbered}
use Rattle.page_parts.specs.AbortGraph as parts
use Rattle.abort_graph.specs.Seen.{signal_seen}
use Rattle.abort_graph.proofs.SignalLemmas.{changed, nothing_written, leaves, same_there, with_last}
use Rattle.abort_graph.proofs.signals.Signals.add_dependent.Goals as goal

pub returns-in_default-clause-added : goal.returns-in_default-clause-added
returns-in_default-clause-added g c =
    let past : 1 ≤ c.args.s → length c.self.inside.signals.items < c.args.s = λ h. omega (arith, c.in_default.ensures.none h, c.len.ensures, c.self.inside.signals.ok.0) in
    sym c.self.view_is ∙ nothing_written c.self.inside.signals.items c.args.s _ past ∙ ap (λ ss. with_numbered ss c.args.s (with_last c.args.d (parts.the_signal ss c.args.s))) c.self.view_is

pub returns-in_err-push-clause-err : goal.returns-in_err-push-clause-err
returns-in_err-push-clause-err g c =
    let r = c.index_mut.result.now in
    leaves c.from_residual.result (same_there c.self.inside.signals.items c.in-Some.at r _ c.index_mut.ensures.value (ap (λ (xs : List ℕ). record (signal_seen r) { dependents = xs }) c.in_err-push.ensures.items) ∙ c.self.view_is)

pub returns-in_ok-push-clause-added : goal.returns-in_ok-push-clause-added
returns-in_ok-push-clause-added g c =
    let r = c.index_mut.result.now in
    let within : c.in-Some.at < length c.self.inside.signals.items = grind (arith, c.in-Some.ensures.there.1, c.len.ensures, c.self.inside.signals.ok.0) in
    changed (with_last c.args.d) c.self.inside.signals.items c.args.s c.in-Some.at r _ c.in-Some.ensures.there.0 within c.index_mut.ensures.value (ap (λ (xs : List ℕ). record (signal_seen r) { dependents = xs }) c.in_ok-push.ensures.items)
    ∙ ap (λ ss. with_numbered ss c.args.s (with_last c.args.d (parts.the_signal ss c.args.s))) c.self.view_is
