use Rattle.std.proofs.Common.{arith, ap, sym, ◌∙◌}
use Rattle.std.specs.Option.{option_map}
use Rattle.page_parts.specs.TaskSignals.{PrioRecord, priority_of}
use Rattle.task_signal.specs.Places.{place_in, signals}
use Rattle.task_signal.proofs.PlaceLemmas.{missing}
use Rattle.task_signal.proofs.RecordLemmas.{within, read, priority_read}
use Rattle.task_signal.proofs.prios.Prios.priority.Goals as goal

pub returns-in_err-place : goal.returns-in_err-place
returns-in_err-place c =
    let none = missing c.args.s c.args.self.now (sym c.place.ensures.place ∙ c.in_err-place.was) in
    c.from_residual.ensures ∙ sym (ap (option_map (λ (r : PrioRecord). r.priority)) none)

pub index-requires : goal.index-requires
index-requires c =
    let at = ap (λ ps. place_in (signals ps) c.args.s) c.self.view_is ∙ sym c.place.ensures.place ∙ c.in_ok-place.was in
    omega (arith, within c.args.s c.in_ok-place.place c.self.inside.records.items at, c.self.inside.records.ok.0)

pub returns : goal.returns
returns c =
    let at = ap (λ ps. place_in (signals ps) c.args.s) c.self.view_is ∙ sym c.place.ensures.place ∙ c.in_ok-place.was in
    let is = read c.args.s c.in_ok-place.place c.self.inside.records.items at c.index.result.now c.index.ensures in
    sym (ap (λ ps. priority_of ps c.args.s) (sym c.self.view_is) ∙ priority_read c.args.s _ _ is)
