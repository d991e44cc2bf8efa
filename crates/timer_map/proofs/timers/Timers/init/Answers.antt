use Rattle.std.proofs.Common.{◌≡◌, ℕ, List, ◌∷◌, nat_eq, ◌<◌, ◌^◌, ◌+◌, ◌∙◌, ap, sym, subst, suc, Some, None, unwrap_or, add-one, Result, Ok, Err, OnErr, refl, w64}
use Rattle.std.proofs.lemmas.Int.{to_z-of_z}
use Rattle.page_parts.specs.Timers.{Timers, TimerId, ActiveTimer, Armed, with_id, with_armed, armed as armed_of}
use Rattle.page_parts.specs.Words.{and_last}
use Rattle.std.specs.Option.{ForNone}
use Rattle.std.specs.List.Sorted.{IsPermutation}
use Rattle.std.specs.List.{IsDistinct}
use Rattle.std.specs.Map.{remove_entry, keys_of}
use Rattle.timer_map.specs.Kept.{IsKept, AreIdsKept}
use Rattle.timer_map.specs.Rows.{with_due}
use Rattle.timer_map.specs.Seen.{seen_armed, timers_in_order, ids_in_order}
use Rattle.timer_map.proofs.DueLemmas.{kept_inserted, timers_inserted}
use Rattle.timer_map.proofs.CountedLemmas.{entries_distinct}
use Rattle.timer_map.proofs.IdLemmas.{kept_put, ids_put, last_given}
use Rattle.timer_map.proofs.timers.Timers.init.Goals as goal

on_err : {T E P : Type 0} (r : Result T E) → P → OnErr r P
on_err (Ok x) p = tt
on_err (Err e) p = p

same_timers : (t : Timers) (ids : List TimerId) (active : List ActiveTimer) → ids ≡ t.ids → active ≡ t.active → record t { ids = ids; active = active } ≡ t
same_timers t ids active e f = rw (e, f)

module _ (handles : ℕ) (old new : List (ℕ × ℕ)) (same : new ≡ old) where
  placed : AreIdsKept handles old → AreIdsKept handles new
  placed kept = subst (AreIdsKept handles) (sym same) kept

  ids_stay : ids_in_order handles new ≡ ids_in_order handles old
  ids_stay = ap (ids_in_order handles) same

pub id_and_last-id-requires : goal.id_and_last-id-requires
id_and_last-id-requires c = subst (λ (t : Timers). ForNone c.args.again (t.ids_made + 1 < 2 ^ 32)) (sym c.self.view_is) c.requires.id

pub put-requires : goal.put-requires
put-requires c = record { placed = c.in_ok-make_place.ensures.placed }

pub invariant_of-self : goal.invariant_of-self
invariant_of-self c =
    record { ids = placed _ _ _ c.in_err-make_place.ensures.same c.self.invariant.ids; active = c.self.invariant.active }

pub returns-in_err-make_place-clause-err : goal.returns-in_err-make_place-clause-err
returns-in_err-make_place-clause-err c =
    on_err _ (same_timers _ _ _ (ids_stay c.self.inside.handles_made _ _ c.in_err-make_place.ensures.same) refl ∙ c.self.view_is)

pub invariant_of-self-in_err-add : goal.invariant_of-self-in_err-add
invariant_of-self-in_err-add c =
    let active = subst (IsKept c.self.inside.starts_made) (sym c.in_err-add.ensures.err) c.self.invariant.active in
    record { ids = placed _ _ _ c.in_ok-make_place.ensures.same c.self.invariant.ids; active = active }

pub returns-in_err-add-clause-err : goal.returns-in_err-add-clause-err
returns-in_err-add-clause-err c =
    let ids = ids_stay c.self.inside.handles_made _ _ c.in_ok-make_place.ensures.same in
    let active = ap (timers_in_order c.self.inside.starts_made) c.in_err-add.ensures.err in
    on_err _ (same_timers _ _ _ ids active ∙ c.self.view_is)

-- the next number is set
module _ (n last : ℕ) (next : n ≡ last + 1) (old new : List (ℕ × ℕ)) where
  put_next : (id : ℕ) → AreIdsKept last old → IsPermutation ((id, n) ∷ remove_entry (nat_eq id) old) new → IsDistinct nat_eq (keys_of new) → id < 2 ^ 32 → AreIdsKept n new
  put_next id kept p distinct small =
      let put = subst (λ m. IsPermutation ((id, m) ∷ remove_entry (nat_eq id) old) new) next p in
      subst (λ m. AreIdsKept m new) (sym next) (kept_put id last old new kept put distinct small)

  ids_next : (id : ℕ) → AreIdsKept last old → IsPermutation ((id, n) ∷ remove_entry (nat_eq id) old) new → ids_in_order n new ≡ with_id id n (ids_in_order last old)
  ids_next id kept p =
      let put = subst (λ m. IsPermutation ((id, m) ∷ remove_entry (nat_eq id) old) new) next p in
      subst (λ m. ids_in_order m new ≡ with_id id m (ids_in_order last old)) (sym next) (ids_put id last old new kept put)

  kept_next : (due : ℕ) → IsKept last old → new ≡ with_due due n old → IsKept n new
  kept_next due kept added = subst (IsKept n) (sym added) (subst (λ m. IsKept m (with_due due m old)) (sym next) (kept_inserted last due old kept))

  timers_next : (due : ℕ) → IsKept last old → new ≡ with_due due n old → timers_in_order n new ≡ and_last (timers_in_order last old) (record { start = n; due = due })
  timers_next due kept added =
      ap (timers_in_order n) added
      ∙ subst (λ m. timers_in_order m (with_due due m old) ≡ and_last (timers_in_order last old) (record { start = m; due = due })) (sym next) (timers_inserted last due old kept)

pub invariant_of-self-2 : goal.invariant_of-self-2
invariant_of-self-2 c =
    let handles = c.self.inside.handles_made in
    let starts = c.self.inside.starts_made in
    let armed = c.would_arm-armed.result in
    let handle : armed.handle ≡ handles + 1 = ap (λ (a : Armed). a.handle) c.would_arm-armed.ensures ∙ ap (λ (t : Timers). suc t.handles_made) (sym c.self.view_is) ∙ sym (add-one handles) in
    let start : armed.start ≡ starts + 1 = ap (λ (a : Armed). a.start) c.would_arm-armed.ensures ∙ ap (λ (t : Timers). suc t.starts_made) (sym c.self.view_is) ∙ sym (add-one starts) in
    let room = placed handles _ _ c.in_ok-make_place.ensures.same c.self.invariant.ids in
    record {
      ids = put_next armed.handle handles handle _ _ c.id_and_last-id.result.0 room c.put.ensures (entries_distinct c.put.new.places.items) c.id_and_last-id.ensures.small;
      active = kept_next armed.start starts start c.self.inside.active c.add.new.self armed.due.0 c.self.invariant.active c.in_ok-add.ensures.added;
    }

pub returns-clause-set : goal.returns-clause-set
returns-clause-set c =
    let handles = c.self.inside.handles_made in
    let starts = c.self.inside.starts_made in
    let armed = c.would_arm-armed.result in
    let told = c.would_arm-armed.ensures in
    let handle : armed.handle ≡ handles + 1 = ap (λ (a : Armed). a.handle) told ∙ ap (λ (t : Timers). suc t.handles_made) (sym c.self.view_is) ∙ sym (add-one handles) in
    let start : armed.start ≡ starts + 1 = ap (λ (a : Armed). a.start) told ∙ ap (λ (t : Timers). suc t.starts_made) (sym c.self.view_is) ∙ sym (add-one starts) in
    let id : c.id_and_last-id.result.0 ≡ armed.id =
    c.id_and_last-id.ensures.id ∙ ap (unwrap_or c.args.again) (add-one c.self.inside.ids_made) ∙ ap (λ (t : Timers). unwrap_or c.args.again (suc t.ids_made)) c.self.view_is
    ∙ sym (ap (λ (a : Armed). a.id) told) in
    let own : unwrap_or c.args.again (suc c.self.inside.ids_made) ≡ armed.id = ap (λ (t : Timers). unwrap_or c.args.again (suc t.ids_made)) c.self.view_is ∙ sym (ap (λ (a : Armed). a.id) told) in
    let last = c.id_and_last-id.ensures.last ∙ last_given c.args.again c.self.inside.ids_made (unwrap_or c.args.again (suc c.self.inside.ids_made)) refl
    ∙ ap (λ i. elim c.args.again as (λ _. ℕ) [ None ↦ i | Some other ↦ c.self.inside.ids_made ]) own in
    let room = placed handles _ _ c.in_ok-make_place.ensures.same c.self.invariant.ids in
    let same = ids_stay handles _ _ c.in_ok-make_place.ensures.same in
    let ids = ids_next armed.handle handles handle _ _ c.id_and_last-id.result.0 room c.put.ensures ∙ ap (with_id c.id_and_last-id.result.0 armed.handle) same in
    let active = timers_next armed.start starts start c.self.inside.active c.add.new.self armed.due.0 c.self.invariant.active c.in_ok-add.ensures.added in
    let timeout = to_z-of_z w64 c.args.timeout c.ranges.timeout in
    rw (ids, active, last, id) (ap (with_armed c.args.again (seen_armed armed)) c.self.view_is)
    ∙ ap (λ a. with_armed c.args.again a c.args.self.now) (told ∙ ap (λ t. armed_of c.args.again t c.args.nesting c.args.now.0 c.args.self.now) timeout)

pub returns-clause-armed : goal.returns-clause-armed
returns-clause-armed c =
    let timeout = to_z-of_z w64 c.args.timeout c.ranges.timeout in
    c.would_arm-armed.ensures ∙ ap (λ t. armed_of c.args.again t c.args.nesting c.args.now.0 c.args.self.now) timeout
