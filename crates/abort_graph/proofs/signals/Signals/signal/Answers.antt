use Rattle.std.proofs.Common.{◌<◌, length, sym, ap, ◌∙◌, arith}
use Rattle.page_parts.specs.AbortGraph as parts
use Rattle.abort_graph.proofs.SignalLemmas.{signal_read}
use Rattle.abort_graph.proofs.signals.Signals.signal.Goals as goal

pub returns-clause-there : goal.returns-clause-there
returns-clause-there g c =
    let within : c.in_ok-at.at < length c.self.inside.signals.items = grind (arith, c.in_ok-at.ensures.there.1, c.len.ensures, c.self.inside.signals.ok.0) in
    ap (λ ss. parts.the_signal ss c.args.s) (sym c.self.view_is) ∙ signal_read c.self.inside.signals.items c.args.s c.in_ok-at.at c.index.result.now c.in_ok-at.ensures.there.0 within c.index.ensures
