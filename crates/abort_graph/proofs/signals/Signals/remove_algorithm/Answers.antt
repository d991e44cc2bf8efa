use Rattle.std.proofs.Common.{◌<◌, ◌≤◌, ℕ, List, length, sym, ap, ◌∙◌, arith}
use Rattle.page_parts.specs.Words.{has_number}
use Rattle.page_parts.specs.AbortGraph as parts
use Rattle.abort_graph.specs.Seen.{signal_seen}
use Rattle.abort_graph.proofs.SignalLemmas.{changed, nothing_written, signal_absent, signal_read, with_less}
use Rattle.abort_graph.proofs.signals.Signals.remove_algorithm.Goals as goal

pub returns-in_default-clause-was : goal.returns-in_default-clause-was
returns-in_default-clause-was g c =
    let past : 1 ≤ c.args.s → length c.self.inside.signals.items < c.args.s = λ h. omega (arith, c.in_default.ensures.none h, c.len.ensures, c.self.inside.signals.ok.0) in
    sym (ap (λ ss. has_number (parts.the_signal ss c.args.s).algorithms c.args.a) (sym c.self.view_is) ∙ ap (λ (q : parts.SignalRecord _). has_number q.algorithms c.args.a) (signal_absent c.self.inside.signals.items c.args.s past))

pub returns-in_default-clause-gone : goal.returns-in_default-clause-gone
returns-in_default-clause-gone g c =
    let past : 1 ≤ c.args.s → length c.self.inside.signals.items < c.args.s = λ h. omega (arith, c.in_default.ensures.none h, c.len.ensures, c.self.inside.signals.ok.0) in
    sym c.self.view_is ∙ nothing_written c.self.inside.signals.items c.args.s _ past ∙ ap (parts.remove_algorithm c.args.s c.args.a) c.self.view_is

pub returns-clause-was : goal.returns-clause-was
returns-clause-was g c =
    let r = c.index_mut.result.now in
    let within : c.in-Some.at < length c.self.inside.signals.items = grind (arith, c.in-Some.ensures.there.1, c.len.ensures, c.self.inside.signals.ok.0) in
    c.remove.ensures.was
    ∙ sym (ap (λ ss. has_number (parts.the_signal ss c.args.s).algorithms c.args.a) (sym c.self.view_is)
    ∙ ap (λ (q : parts.SignalRecord _). has_number q.algorithms c.args.a) (signal_read c.self.inside.signals.items c.args.s c.in-Some.at r c.in-Some.ensures.there.0 within c.index_mut.ensures.value))

pub returns-clause-gone : goal.returns-clause-gone
returns-clause-gone g c =
    let r = c.index_mut.result.now in
    let within : c.in-Some.at < length c.self.inside.signals.items = grind (arith, c.in-Some.ensures.there.1, c.len.ensures, c.self.inside.signals.ok.0) in
    changed (with_less c.args.a) c.self.inside.signals.items c.args.s c.in-Some.at r _ c.in-Some.ensures.there.0 within c.index_mut.ensures.value (ap (λ (xs : List ℕ). record (signal_seen r) { algorithms = xs }) c.remove.ensures.gone)
    ∙ ap (parts.remove_algorithm c.args.s c.args.a) c.self.view_is
