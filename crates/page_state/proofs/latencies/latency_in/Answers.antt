use Rattle.std.proofs.Common.{Option, ap, sym, ◌∙◌}
use Rattle.std.specs.Option.{option_map_or}
use Rattle.page_base.specs.declared.moment.Micros.{Micros}
use Rattle.page_state.proofs.Waiting.{latency_found}
use Rattle.page_state.proofs.latencies.latency_in.Goals as goal

pub returns-in-Some : goal.returns-in-Some
returns-in-Some c =
    ap (λ (o : Option Micros). option_map_or (λ (m : Micros). m.0) o 0) c.in-Some.ensures.value ∙ sym (latency_found c.args.k c.args.latencies.now.entries)

pub returns-in-None : goal.returns-in-None
returns-in-None c =
    ap (λ (o : Option Micros). option_map_or (λ (m : Micros). m.0) o 0) c.in-None.ensures.value ∙ sym (latency_found c.args.k c.args.latencies.now.entries)
