use Rattle.std.proofs.Common.{◌∙◌, sym, ap, nat_lt, find}
use Rattle.page_parts.specs.Words.{is_there}
use Rattle.page_model.specs.State.{Completing}
use Rattle.page_model.specs.PageSignals.{is_delay_of}
use Rattle.parallel_items.specs.InParallel.{InParallel}
use Rattle.parallel_items.specs.Seen.{steps_of, completings_of}
use Rattle.parallel_items.proofs.TimerLemmas.{there_counts, one_counts}
use Rattle.parallel_items.proofs.items.ParallelItems.is_delayed.Goals as goal

pub returns : goal.returns
returns c =
    let cs = completings_of c.self.inside.timers.starts_made (steps_of c.self.inside.completions) in
    c.contains.ensures ∙ sym (one_counts _) ∙ sym (ap (nat_lt 0) (c.self.invariant.parts.delays c.args.registration))
    ∙ sym (there_counts (λ (d : Completing). is_delay_of c.args.registration d.completion) cs)
    ∙ ap (λ (s : InParallel). is_there (find (λ (d : Completing). is_delay_of c.args.registration d.completion) s.waiting.completions)) c.self.view_is
