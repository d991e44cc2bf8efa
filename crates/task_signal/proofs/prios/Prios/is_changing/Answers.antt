use Rattle.std.proofs.Common.{Option, None, Some, false, arith, ap, sym, ◌∙◌}
use Rattle.page_parts.specs.TaskSignals.{PrioRecord, is_changing}
use Rattle.task_signal.specs.Places.{place_in, signals}
use Rattle.task_signal.proofs.PlaceLemmas.{missing}
use Rattle.task_signal.proofs.RecordLemmas.{within, read, changing_read}
use Rattle.task_signal.proofs.prios.Prios.is_changing.Goals as goal

pub index-requires : goal.index-requires
index-requires c =
    let at = ap (λ ps. place_in (signals ps) c.args.s) c.self.view_is ∙ sym c.place.ensures.place ∙ c.in-Some.is in
    omega (arith, within c.args.s c.in-Some.place c.self.inside.records.items at, c.self.inside.records.ok.0)

pub returns-in-Some : goal.returns-in-Some
returns-in-Some c =
    let at = ap (λ ps. place_in (signals ps) c.args.s) c.self.view_is ∙ sym c.place.ensures.place ∙ c.in-Some.is in
    let is = read c.args.s c.in-Some.place c.self.inside.records.items at c.index.result.now c.index.ensures in
    sym (ap (λ ps. is_changing ps c.args.s) (sym c.self.view_is) ∙ changing_read c.args.s _ _ is)

pub returns-in-None : goal.returns-in-None
returns-in-None c =
    let none = missing c.args.s c.args.self.now (sym c.place.ensures.place ∙ c.in-None.is) in
    sym (ap (λ (o : Option PrioRecord). elim o [ None ↦ false | Some r ↦ r.changing ]) none)
