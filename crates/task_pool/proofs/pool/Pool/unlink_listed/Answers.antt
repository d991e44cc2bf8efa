use Rattle.std.proofs.Common.{◌≡◌, ℕ, [], Some, get_or, ap, sym, ◌∙◌}
use Rattle.std.specs.List.{find}
use Rattle.std.specs.Option.{option_map}
use Rattle.task_pool.specs.Links.{reading}
use Rattle.task_pool.specs.Lists.{Entry, in_cell, numbered}
use Rattle.task_pool.specs.Taken.{taken, taken_from}
use Rattle.task_pool.proofs.Pools.{unlinked, absent-found, absent-without, absent-there, node_inside, inside_list}
use Rattle.task_pool.proofs.pool.Pool.unlink_listed.Goals as goal

pub returns-in_err-list-clause-item : goal.returns-in_err-list-clause-item
returns-in_err-list-clause-item g c =
    ap (option_map taken) c.from_residual.ensures ∙ sym (rw (← c.self.view_is) (ap (option_map numbered) (absent-found _ _ _ _ c.args.t.0 c.self.invariant (sym c.in_err-list.ensures.item))))

pub returns-in_err-list-clause-gone : goal.returns-in_err-list-clause-gone
returns-in_err-list-clause-gone g c =
    rw (c.in_err-list.ensures.none, ← c.self.view_is) (sym (absent-without _ _ _ _ c.args.t.0 c.self.invariant (sym c.in_err-list.ensures.item)))

pub index-ends-requires : goal.index-ends-requires
index-ends-requires g c =
    let within = node_inside c.self.inside.room c.self.inside.ends.items c.args.t.0 c.in_ok-list.field-0 c.self.invariant (sym c.in_ok-list.ensures.item) in
    rw c.self.inside.ends.ok.0 within

pub index_mut-requires : goal.index_mut-requires
index_mut-requires g c =
    let within = node_inside c.self.inside.room c.self.inside.ends.items c.args.t.0 c.in_ok-list.field-0 c.self.invariant (sym c.in_ok-list.ensures.item) in
    rw c.self.inside.ends.ok.0 within

pub invariant_of-self-2 : goal.invariant_of-self-2
invariant_of-self-2 g c =
    (unlinked c.self.inside.room c.remove.new.self c.set_before-first.new.room c.set_after.new.room c.self.inside.ends.items c.args.t.0 c.in_ok-list.field-0 c.index-ends.result.now c.joined.result c.set_before-first.result
    c.self.invariant (sym c.in_ok-list.ensures.item) c.index-ends.ensures c.in_ok-list.ensures.gone c.set_before-first.ensures.relinked c.set_before-first.ensures.first c.set_after.ensures.relinked c.joined.ensures
    (c.set_after.ensures.inserts ∙ c.set_before-first.ensures.inserts ∙ c.in_ok-list.ensures.inserts)).pool

pub returns-clause-item : goal.returns-clause-item
returns-clause-item g c =
    rw (← c.self.view_is)
    (sym (ap (option_map numbered) (unlinked c.self.inside.room c.remove.new.self c.set_before-first.new.room c.set_after.new.room c.self.inside.ends.items c.args.t.0 c.in_ok-list.field-0 c.index-ends.result.now c.joined.result c.set_before-first.result
    c.self.invariant (sym c.in_ok-list.ensures.item) c.index-ends.ensures c.in_ok-list.ensures.gone c.set_before-first.ensures.relinked c.set_before-first.ensures.first c.set_after.ensures.relinked c.joined.ensures
    (c.set_after.ensures.inserts ∙ c.set_before-first.ensures.inserts ∙ c.in_ok-list.ensures.inserts)).found))

pub returns-clause-gone : goal.returns-clause-gone
returns-clause-gone g c =
    rw (← c.self.view_is)
    (unlinked c.self.inside.room c.remove.new.self c.set_before-first.new.room c.set_after.new.room c.self.inside.ends.items c.args.t.0 c.in_ok-list.field-0 c.index-ends.result.now c.joined.result c.set_before-first.result
    c.self.invariant (sym c.in_ok-list.ensures.item) c.index-ends.ensures c.in_ok-list.ensures.gone c.set_before-first.ensures.relinked c.set_before-first.ensures.first c.set_after.ensures.relinked c.joined.ensures
    (c.set_after.ensures.inserts ∙ c.set_before-first.ensures.inserts ∙ c.in_ok-list.ensures.inserts)).lists

pub returns-clause-one : goal.returns-clause-one
returns-clause-one g c =
    rw (← c.self.view_is)
    (unlinked c.self.inside.room c.remove.new.self c.set_before-first.new.room c.set_after.new.room c.self.inside.ends.items c.args.t.0 c.in_ok-list.field-0 c.index-ends.result.now c.joined.result c.set_before-first.result
    c.self.invariant (sym c.in_ok-list.ensures.item) c.index-ends.ensures c.in_ok-list.ensures.gone c.set_before-first.ensures.relinked c.set_before-first.ensures.first c.set_after.ensures.relinked c.joined.ensures
    (c.set_after.ensures.inserts ∙ c.set_before-first.ensures.inserts ∙ c.in_ok-list.ensures.inserts)).one

pub returns-clause-there : goal.returns-clause-there
returns-clause-there g c l entry is =
    let found : find (in_cell c.args.t.0) (get_or (reading c.self.inside.room c.self.inside.ends.items) l []) ≡ Some entry = rw (← c.self.view_is) at is in
    let u = (unlinked c.self.inside.room c.remove.new.self c.set_before-first.new.room c.set_after.new.room c.self.inside.ends.items c.args.t.0 c.in_ok-list.field-0 c.index-ends.result.now c.joined.result c.set_before-first.result
    c.self.invariant (sym c.in_ok-list.ensures.item) c.index-ends.ensures c.in_ok-list.ensures.gone c.set_before-first.ensures.relinked c.set_before-first.ensures.first c.set_after.ensures.relinked c.joined.ensures
    (c.set_after.ensures.inserts ∙ c.set_before-first.ensures.inserts ∙ c.in_ok-list.ensures.inserts)) in
    let node = c.in_ok-list.field-0 in
    sym
    (ap (λ (e : Entry g.row.T.Denot). Some (taken_from l e)) (u.there l entry found)
    ∙ ap (λ (n : ℕ). Some (taken_from n (record { cell = c.args.t.0; number = node.number; item = node.item }))) (u.only l entry found))

pub returns-clause-list : goal.returns-clause-list
returns-clause-list g c =
    let u = (unlinked c.self.inside.room c.remove.new.self c.set_before-first.new.room c.set_after.new.room c.self.inside.ends.items c.args.t.0 c.in_ok-list.field-0 c.index-ends.result.now c.joined.result c.set_before-first.result
    c.self.invariant (sym c.in_ok-list.ensures.item) c.index-ends.ensures c.in_ok-list.ensures.gone c.set_before-first.ensures.relinked c.set_before-first.ensures.first c.set_after.ensures.relinked c.joined.ensures
    (c.set_after.ensures.inserts ∙ c.set_before-first.ensures.inserts ∙ c.in_ok-list.ensures.inserts)) in
    rw (← c.self.view_is) (record {
      within = inside_list (reading c.self.inside.room c.self.inside.ends.items) c.in_ok-list.field-0.list c.args.t.0 (c.self.invariant.each c.args.t.0 c.in_ok-list.field-0 (sym c.in_ok-list.ensures.item));
      lists = u.changed;
    })

pub returns-in_err-list-clause-there : goal.returns-in_err-list-clause-there
returns-in_err-list-clause-there g c l entry is =
    let found : find (in_cell c.args.t.0) (get_or (reading c.self.inside.room c.self.inside.ends.items) l []) ≡ Some entry = rw (← c.self.view_is) at is in
    absurd (absent-there _ _ _ _ c.args.t.0 c.self.invariant (sym c.in_err-list.ensures.item) l entry found)
