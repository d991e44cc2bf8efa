use Rattle.std.proofs.Common.{false, arith, ap, sym, refl, ◌∙◌}
use Rattle.page_parts.specs.TaskSignals.{ended}
use Rattle.task_signal.specs.Places.{place_in, signals}
use Rattle.task_signal.specs.Seen.{prios_of}
use Rattle.task_signal.proofs.PlaceLemmas.{unchanged}
use Rattle.task_signal.proofs.RecordLemmas.{within, written, placed_changed}
use Rattle.task_signal.proofs.prios.Prios.finish.Goals as goal

pub index_mut-requires : goal.index_mut-requires
index_mut-requires c =
    let at = ap (λ ps. place_in (signals ps) c.args.s) c.self.view_is ∙ sym c.place.ensures.place ∙ c.in-Some.is in
    omega (arith, within c.args.s c.in-Some.place c.self.inside.records.items at, c.self.inside.records.ok.0)

pub invariant_of-self : goal.invariant_of-self
invariant_of-self c =
    let rs = c.self.inside.records.items in
    let at = ap (λ ps. place_in (signals ps) c.args.s) c.self.view_is ∙ sym c.place.ensures.place ∙ c.in-Some.is in
    let done = written c.args.s c.in-Some.place rs at (λ r. record r { changing = false }) c.index_mut.result.now _ c.self.invariant.distinct c.index_mut.ensures.value refl in
    placed_changed c.args.s (λ r. record r { changing = false }) (prios_of rs) _ c.self.inside.places (λ _. refl) done c.self.invariant

pub returns-in-Some : goal.returns-in-Some
returns-in-Some c =
    let rs = c.self.inside.records.items in
    let at = ap (λ ps. place_in (signals ps) c.args.s) c.self.view_is ∙ sym c.place.ensures.place ∙ c.in-Some.is in
    let done = written c.args.s c.in-Some.place rs at (λ r. record r { changing = false }) c.index_mut.result.now _ c.self.invariant.distinct c.index_mut.ensures.value refl in
    done ∙ ap (ended c.args.s) c.self.view_is

pub returns-in_default : goal.returns-in_default
returns-in_default c = unchanged c.args.s (λ r. record r { changing = false }) c.args.self.now (sym c.place.ensures.place ∙ c.in_default.is)
