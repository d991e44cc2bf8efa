use Rattle.std.proofs.Common.{Option, None, Some, arith, ap, sym, ◌∙◌}
use Rattle.page_parts.specs.TaskSignals.{PrioRecord, followed}
use Rattle.task_signal.specs.Places.{place_in, signals}
use Rattle.task_signal.proofs.PlaceLemmas.{missing}
use Rattle.task_signal.proofs.RecordLemmas.{within, read, followed_read}
use Rattle.task_signal.proofs.prios.Prios.followed.Goals as goal

pub returns-in_err-place : goal.returns-in_err-place
returns-in_err-place c =
    let none = missing c.args.s c.args.self.now (sym c.place.ensures.place ∙ c.in_err-place.was) in
    c.from_residual.ensures ∙ sym (ap (λ (o : Option PrioRecord). elim o [ None ↦ None | Some r ↦ r.follows ]) none)

pub index-requires : goal.index-requires
index-requires c =
    let at = ap (λ ps. place_in (signals ps) c.args.s) c.self.view_is ∙ sym c.place.ensures.place ∙ c.in_ok-place.was in
    omega (arith, within c.args.s c.in_ok-place.place c.self.inside.records.items at, c.self.inside.records.ok.0)

pub returns : goal.returns
returns c =
    let at = ap (λ ps. place_in (signals ps) c.args.s) c.self.view_is ∙ sym c.place.ensures.place ∙ c.in_ok-place.was in
    let is = read c.args.s c.in_ok-place.place c.self.inside.records.items at c.index.result.now c.index.ensures in
    sym (ap (λ ps. followed ps c.args.s) (sym c.self.view_is) ∙ followed_read c.args.s _ _ is)
