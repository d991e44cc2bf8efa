use Rattle.std.proofs.Common.{◌∙◌, ◌+◌, ap, sym, subst}
use Rattle.page_model.specs.Parallel.{with_arrival}
use Rattle.arrivals_text.specs.SeenParts.{arrival_of}
use Rattle.parallel_items.specs.Seen.{arrivals_of}
use Rattle.parallel_items.specs.Kept.{AreArrivalsKept}
use Rattle.parallel_items.specs.Views.{ArrivalList}
use Rattle.parallel_items.proofs.ClassLemmas.{arrivals_inserted, kept_inserted}
use Rattle.parallel_items.proofs.arrivals.Arrivals.add.Goals as goal

pub invariant_of-self-2 : goal.invariant_of-self-2
invariant_of-self-2 c =
    subst (AreArrivalsKept (c.self.inside.made + 1)) (sym c.in_ok-before.ensures.entries) (kept_inserted c.self.inside.made c.args.arrival _ c.self.invariant)

pub returns-clause-added : goal.returns-clause-added
returns-clause-added c =
    ap arrivals_of c.in_ok-before.ensures.entries ∙ arrivals_inserted c.self.inside.made c.args.arrival _ c.self.invariant.placed
    ∙ ap (λ (l : ArrivalList). with_arrival (arrival_of c.args.arrival) l.arrivals) c.self.view_is
