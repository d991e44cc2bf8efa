use Rattle.std.proofs.Common.{◌<◌, ◌≤◌, ℕ, List, [], length, sym, ap, ◌∙◌, arith}
use Rattle.page_parts.specs.AbortGraph as parts
use Rattle.abort_graph.specs.Seen.{signal_seen}
use Rattle.abort_graph.proofs.SignalLemmas.{changed, nothing_written, signal_absent, signal_read, with_none}
use Rattle.abort_graph.proofs.signals.Signals.take_algorithms.Goals as goal

pub returns-in_default-clause-all : goal.returns-in_default-clause-all
returns-in_default-clause-all g c =
    let past : 1 ≤ c.args.s → length c.self.inside.signals.items < c.args.s = λ h. omega (arith, c.in_default.ensures.none h, c.len.ensures, c.self.inside.signals.ok.0) in
    c.new.ensures.items
    ∙ sym (ap (λ ss. (parts.the_signal ss c.args.s).algorithms) (sym c.self.view_is) ∙ ap (λ (q : parts.SignalRecord _). q.algorithms) (signal_absent c.self.inside.signals.items c.args.s past))

pub returns-in_default-clause-none : goal.returns-in_default-clause-none
returns-in_default-clause-none g c =
    let past : 1 ≤ c.args.s → length c.self.inside.signals.items < c.args.s = λ h. omega (arith, c.in_default.ensures.none h, c.len.ensures, c.self.inside.signals.ok.0) in
    sym c.self.view_is ∙ nothing_written c.self.inside.signals.items c.args.s _ past ∙ ap (parts.with_algorithms c.args.s []) c.self.view_is

pub returns-clause-all : goal.returns-clause-all
returns-clause-all g c =
    let r = c.index_mut.result.now in
    let within : c.in-Some.at < length c.self.inside.signals.items = grind (arith, c.in-Some.ensures.there.1, c.len.ensures, c.self.inside.signals.ok.0) in
    c.take.ensures.all
    ∙ sym (ap (λ ss. (parts.the_signal ss c.args.s).algorithms) (sym c.self.view_is)
    ∙ ap (λ (q : parts.SignalRecord _). q.algorithms) (signal_read c.self.inside.signals.items c.args.s c.in-Some.at r c.in-Some.ensures.there.0 within c.index_mut.ensures.value))

pub returns-clause-none : goal.returns-clause-none
returns-clause-none g c =
    let r = c.index_mut.result.now in
    let within : c.in-Some.at < length c.self.inside.signals.items = grind (arith, c.in-Some.ensures.there.1, c.len.ensures, c.self.inside.signals.ok.0) in
    changed with_none c.self.inside.signals.items c.args.s c.in-Some.at r _ c.in-Some.ensures.there.0 within c.index_mut.ensures.value (ap (λ (xs : List ℕ). record (signal_seen r) { algorithms = xs }) c.take.ensures.none)
    ∙ ap (parts.with_algorithms c.args.s []) c.self.view_is
