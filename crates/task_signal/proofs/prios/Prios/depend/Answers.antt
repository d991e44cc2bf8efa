use Rattle.std.proofs.Common.{Some, List, ℕ, arith, ap, refl, ◌∙◌}
use Rattle.page_parts.specs.Words.{and_last}
use Rattle.page_parts.specs.TaskSignals.{PrioRecord, depend, changed_at}
use Rattle.task_signal.specs.Places.{place_in, signals}
use Rattle.task_signal.specs.Seen.{record_seen, prios_of}
use Rattle.task_signal.proofs.PlaceLemmas.{signals_kept}
use Rattle.task_signal.proofs.RecordLemmas.{leaves, within, written, same_there, placed_same, placed_changed}
use Rattle.task_signal.proofs.prios.Prios.depend.Goals as goal

pub index_mut-requires : goal.index_mut-requires
index_mut-requires c =
    let at = ap (λ ps. place_in (signals ps) c.args.on) c.self.view_is ∙ c.given_place-source.ensures.place in
    omega (arith, within c.args.on c.given_place-source.result c.self.inside.records.items at, c.self.inside.records.ok.0)

pub invariant_of-self : goal.invariant_of-self
invariant_of-self c =
    let r = c.index_mut.result.now in
    let same = same_there c.self.inside.records.items c.given_place-source.result r _ c.index_mut.ensures.value (ap (λ (fs : List ℕ). record (record_seen r) { followers = fs }) c.in_err-push.ensures.items) in
    placed_same _ _ c.self.inside.places same c.self.invariant

pub index_mut-requires-2 : goal.index_mut-requires-2
index_mut-requires-2 c =
    let at = ap (λ ps. place_in (signals ps) c.args.s) c.self.view_is ∙ c.given_place-follower.ensures.place in
    omega (arith, within c.args.s c.given_place-follower.result c.self.inside.records.items at, c.self.inside.records.ok.0)

pub returns-in_err-push-clause-err : goal.returns-in_err-push-clause-err
returns-in_err-push-clause-err c =
    let r = c.index_mut.result.now in
    let same = same_there c.self.inside.records.items c.given_place-source.result r _ c.index_mut.ensures.value (ap (λ (fs : List ℕ). record (record_seen r) { followers = fs }) c.in_err-push.ensures.items) in
    leaves c.from_residual.result (same ∙ c.self.view_is)

pub invariant_of-self-2 : goal.invariant_of-self-2
invariant_of-self-2 c =
    let rs = c.self.inside.records.items in
    let ps = prios_of rs in
    let s = c.args.s in
    let on = c.args.on in
    let at_source = ap (λ ps. place_in (signals ps) on) c.self.view_is ∙ c.given_place-source.ensures.place in
    let at_follower = ap (λ ps. place_in (signals ps) s) c.self.view_is ∙ c.given_place-follower.ensures.place in
    let f : PrioRecord → PrioRecord = λ r. record r { followers = and_last r.followers s } in
    let g : PrioRecord → PrioRecord = λ r. record r { follows = Some on } in
    let r = c.index_mut.result.now in
    let first = written on c.given_place-source.result rs at_source f r _ c.self.invariant.distinct c.index_mut.ensures.value (ap (λ (fs : List ℕ). record (record_seen r) { followers = fs }) c.in_ok-push.ensures.items) in
    let placed = placed_changed on f ps _ c.self.inside.places (λ _. refl) first c.self.invariant in
    let there = ap (λ qs. place_in (signals qs) s) first ∙ ap (λ ms. place_in ms s) (signals_kept on f (λ _. refl) ps) ∙ at_follower in
    let second = written s c.given_place-follower.result _ there g c.index_mut-2.result.now _ placed.distinct c.index_mut-2.ensures.value refl in
    placed_changed s g _ _ c.self.inside.places (λ _. refl) second placed

pub returns-clause-depends : goal.returns-clause-depends
returns-clause-depends c =
    let rs = c.self.inside.records.items in
    let ps = prios_of rs in
    let s = c.args.s in
    let on = c.args.on in
    let at_source = ap (λ ps. place_in (signals ps) on) c.self.view_is ∙ c.given_place-source.ensures.place in
    let at_follower = ap (λ ps. place_in (signals ps) s) c.self.view_is ∙ c.given_place-follower.ensures.place in
    let f : PrioRecord → PrioRecord = λ r. record r { followers = and_last r.followers s } in
    let g : PrioRecord → PrioRecord = λ r. record r { follows = Some on } in
    let r = c.index_mut.result.now in
    let first = written on c.given_place-source.result rs at_source f r _ c.self.invariant.distinct c.index_mut.ensures.value (ap (λ (fs : List ℕ). record (record_seen r) { followers = fs }) c.in_ok-push.ensures.items) in
    let placed = placed_changed on f ps _ c.self.inside.places (λ _. refl) first c.self.invariant in
    let there = ap (λ qs. place_in (signals qs) s) first ∙ ap (λ ms. place_in ms s) (signals_kept on f (λ _. refl) ps) ∙ at_follower in
    let second = written s c.given_place-follower.result _ there g c.index_mut-2.result.now _ placed.distinct c.index_mut-2.ensures.value refl in
    second ∙ ap (changed_at s g) first ∙ ap (depend s on) c.self.view_is
