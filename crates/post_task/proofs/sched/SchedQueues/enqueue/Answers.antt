use Rattle.std.proofs.Common.{true, false, List, get_or, set, sym, ◌∙◌, ap, subst, arith}
use Rattle.std.specs.Prelude.{is_some, IfOk}
use Rattle.post_task.specs.Waiting.{Inserted}
use Rattle.post_task.specs.declared.level.Level.{Level}
use Rattle.post_task.specs.Levels.{Sched, ArePlaced, place_of, new_task, waiting}
use Rattle.post_task.proofs.Places.{at_place, room_place}
use Rattle.post_task.proofs.Calls.{level_inside, level_within, enqueued_lists, enqueued_kept, enqueued_waits, enqueued_others}
use Rattle.post_task.proofs.sched.SchedQueues.enqueue.Goals as goal

pub unwrap-place-requires : goal.unwrap-place-requires
unwrap-place-requires g c =
    let levels = c.args.self.now.levels in
    let P : List Level → Type 0 = λ ls. ArePlaced ls c.self.inside.signals in
    let a : ArePlaced levels c.self.inside.signals = subst P (ap (λ (s : Sched). s.levels) c.self.view_is) c.self.invariant.1 in
    ap is_some c.place.ensures ∙ room_place levels c.self.inside.signals c.args.source a c.requires.kept.fixed c.requires.room

pub index-level-requires : goal.index-level-requires
index-level-requires g c =
    let e = ap (λ (s : Sched). s.levels) c.self.view_is in
    let w = (at_place c.self.inside.levels.items c.args.source c.unwrap-place.result (ap (λ (ls : List Level). place_of ls c.args.source) e ∙ sym c.place.ensures ∙ c.unwrap-place.ensures)).within in
    let l = c.self.inside.levels.ok.0 in
    omega (arith, w, l)

pub push_back-put-requires-clause-list : goal.push_back-put-requires-clause-list
push_back-put-requires-clause-list g c =
    let e = ap (λ (s : Sched). s.levels) c.self.view_is in
    let level = c.index-level.result.now in
    level_inside c.args.pool.now c.args.self.now c.args.source c.unwrap-place.result level c.args.continuation c.list.result.0 c.requires.kept
    (sym c.place.ensures ∙ c.unwrap-place.ensures) (c.index-level.ensures ∙ ap (λ (ls : List Level). get_or ls c.unwrap-place.result level) e) c.list.ensures

pub read_first-requires-clause-plain : goal.read_first-requires-clause-plain
read_first-requires-clause-plain g c =
    let e = ap (λ (s : Sched). s.levels) c.self.view_is in
    let level = c.index-level.result.now in
    let placed = sym c.place.ensures ∙ c.unwrap-place.ensures in
    let is = c.index-level.ensures ∙ ap (λ (ls : List Level). get_or ls c.unwrap-place.result level) e in
    level_within c.push_back-put.new.self c.args.self.now.levels c.unwrap-place.result level false
    (enqueued_lists c.args.pool.now c.args.self.now c.args.source c.unwrap-place.result level c.args.continuation c.list.result.0 c.requires.kept placed is c.list.ensures
    c.push_back-put.new.self c.args.order c.args.item c.requires.later c.push_back-put.result c.push_back-put.ensures.put c.push_back-put.ensures.err)
    (at_place c.args.self.now.levels c.args.source c.unwrap-place.result placed).within is

pub read_first-requires-clause-continuations : goal.read_first-requires-clause-continuations
read_first-requires-clause-continuations g c =
    let e = ap (λ (s : Sched). s.levels) c.self.view_is in
    let level = c.index-level.result.now in
    let placed = sym c.place.ensures ∙ c.unwrap-place.ensures in
    let is = c.index-level.ensures ∙ ap (λ (ls : List Level). get_or ls c.unwrap-place.result level) e in
    level_within c.push_back-put.new.self c.args.self.now.levels c.unwrap-place.result level true
    (enqueued_lists c.args.pool.now c.args.self.now c.args.source c.unwrap-place.result level c.args.continuation c.list.result.0 c.requires.kept placed is c.list.ensures
    c.push_back-put.new.self c.args.order c.args.item c.requires.later c.push_back-put.result c.push_back-put.ensures.put c.push_back-put.ensures.err)
    (at_place c.args.self.now.levels c.args.source c.unwrap-place.result placed).within is

pub set-requires : goal.set-requires
set-requires g c =
    let e = ap (λ (s : Sched). s.levels) c.self.view_is in
    let w = (at_place c.self.inside.levels.items c.args.source c.unwrap-place.result (ap (λ (ls : List Level). place_of ls c.args.source) e ∙ sym c.place.ensures ∙ c.unwrap-place.ensures)).within in
    let l = c.self.invariant.0 in
    omega (arith, w, l)

pub returns-clause-kept : goal.returns-clause-kept
returns-clause-kept g c =
    let e = ap (λ (s : Sched). s.levels) c.self.view_is in
    let h = ap (λ (s : Sched). s.heads) c.self.view_is in
    let level = c.index-level.result.now in
    let place = c.unwrap-place.result in
    let placed = sym c.place.ensures ∙ c.unwrap-place.ensures in
    let is = c.index-level.ensures ∙ ap (λ (ls : List Level). get_or ls place level) e in
    let after : Sched = record { levels = c.self.inside.levels.items; heads = c.set.new.self } in
    enqueued_kept c.args.pool.now c.args.self.now c.args.source place level c.args.continuation c.list.result.0 c.requires.kept placed is c.list.ensures
    c.push_back-put.new.self c.args.order c.args.item c.requires.later c.push_back-put.result c.push_back-put.ensures.put c.push_back-put.ensures.err
    after e (c.set.ensures ∙ ap (λ hs. set hs place c.read_first.result) h ∙ ap (set c.args.self.now.heads place) c.read_first.ensures)

pub returns-clause-waits : goal.returns-clause-waits
returns-clause-waits g c =
    let e = ap (λ (s : Sched). s.levels) c.self.view_is in
    let level = c.index-level.result.now in
    let placed = sym c.place.ensures ∙ c.unwrap-place.ensures in
    let is = c.index-level.ensures ∙ ap (λ (ls : List Level). get_or ls c.unwrap-place.result level) e in
    let P : List Level → Type 0 = λ ls. IfOk c.push_back-put.result (λ ticket. Inserted (new_task c.args.self.now.levels ticket.0 c.args.source c.args.continuation c.args.order c.args.item) (waiting c.args.self.now.levels c.args.pool.now) (waiting ls c.push_back-put.new.self)) in
    subst P (sym e)
    (enqueued_waits c.args.pool.now c.args.self.now c.args.source c.unwrap-place.result level c.args.continuation c.list.result.0 c.requires.kept placed is c.list.ensures
    c.push_back-put.new.self c.args.order c.args.item c.requires.later c.push_back-put.result c.push_back-put.ensures.put)

pub returns-clause-others : goal.returns-clause-others
returns-clause-others g c =
    let e = ap (λ (s : Sched). s.levels) c.self.view_is in
    let level = c.index-level.result.now in
    let placed = sym c.place.ensures ∙ c.unwrap-place.ensures in
    let is = c.index-level.ensures ∙ ap (λ (ls : List Level). get_or ls c.unwrap-place.result level) e in
    enqueued_others c.args.pool.now c.args.self.now c.args.source c.unwrap-place.result level c.args.continuation c.list.result.0 c.requires.kept placed is c.list.ensures
    c.push_back-put.new.self c.args.order c.args.item c.requires.later c.push_back-put.result c.push_back-put.ensures.put c.push_back-put.ensures.err
