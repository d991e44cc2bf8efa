use Rattle.std.proofs.Common.{◌≡◌, List, map, length, set, Some, sym, ◌∙◌, ap, subst, arith}
use Rattle.std.proofs.lemmas.List.{length-set}
use Rattle.post_task.specs.declared.level.Level.{Level}
use Rattle.post_task.specs.declared.level.PrioSource.TheVariants.{Signal}
use Rattle.post_task.specs.Levels.{Sched, ArePlaced, moved_level, place_of, all_queues, Lone, waiting}
use Rattle.post_task.specs.Heads.{firsts}
use Rattle.post_task.proofs.Places.{at_place, moved_at, moved_keeps, placed_kept, missing, none_moved}
use Rattle.post_task.proofs.Moves.{moved_kept, moved_waiting, still_lone, firsts_moved}
use Rattle.post_task.proofs.sched.SchedQueues.move_priority.Goals as goal

pub index_mut-requires : goal.index_mut-requires
index_mut-requires g c =
    let e = ap (λ (s : Sched). s.levels) c.self.view_is in
    let w = (at_place c.self.inside.levels.items (Signal c.args.s) c.in-Some.place (ap (λ (ls : List Level). place_of ls (Signal c.args.s)) e ∙ sym c.in-Some.ensures)).within in
    let l = c.self.inside.levels.ok.0 in
    omega (arith, w, l)

pub change_priority-requires : goal.change_priority-requires
change_priority-requires g c =
    let e = ap (λ (s : Sched). s.levels) c.self.view_is in
    let w = (at_place c.self.inside.levels.items (Signal c.args.s) c.in-Some.place (ap (λ (ls : List Level). place_of ls (Signal c.args.s)) e ∙ sym c.in-Some.ensures)).within in
    let l = c.self.invariant.0 in
    omega (arith, w, l)

pub invariant_of-self : goal.invariant_of-self
invariant_of-self g c =
    let items = c.self.inside.levels.items in
    let place = c.in-Some.place in
    let level = c.index_mut.result.now in
    let s = c.args.s in
    let p = c.args.p in
    let e = ap (λ (s : Sched). s.levels) c.self.view_is in
    let placed : place_of items (Signal s) ≡ Some place = ap (λ (ls : List Level). place_of ls (Signal s)) e ∙ sym c.in-Some.ensures in
    let new : Level = record level { priority = p } in
    let moved : set items place new ≡ map (moved_level s p) items =
    ap (λ (l : Level). set items place (record l { priority = p })) c.index_mut.ensures.value ∙ sym (moved_at items s place p level c.self.invariant.1.apart placed) in
    let P : List Level → Type 0 = λ ls. ArePlaced ls c.self.inside.signals in (
      ap length c.change_priority.ensures ∙ length-set c.self.inside.heads place _ ∙ c.self.invariant.0 ∙ sym (length-set items place new),
      subst P (sym moved) (placed_kept (moved_level s p) (moved_keeps s p) items c.self.inside.signals c.self.invariant.1),
    )

pub returns-in-Some-clause-levels : goal.returns-in-Some-clause-levels
returns-in-Some-clause-levels g c =
    let items = c.self.inside.levels.items in
    let place = c.in-Some.place in
    let s = c.args.s in
    let p = c.args.p in
    let e = ap (λ (s : Sched). s.levels) c.self.view_is in
    let placed : place_of items (Signal s) ≡ Some place = ap (λ (ls : List Level). place_of ls (Signal s)) e ∙ sym c.in-Some.ensures in
    ap (λ (l : Level). set items place (record l { priority = p })) c.index_mut.ensures.value ∙ sym (moved_at items s place p c.index_mut.result.now c.self.invariant.1.apart placed) ∙ ap (map (moved_level s p)) e

pub returns-in-Some-clause-kept : goal.returns-in-Some-clause-kept
returns-in-Some-clause-kept g c pool k =
    let sched = c.args.self.now in
    let items = c.self.inside.levels.items in
    let place = c.in-Some.place in
    let level = c.index_mut.result.now in
    let s = c.args.s in
    let p = c.args.p in
    let e = ap (λ (s : Sched). s.levels) c.self.view_is in
    let h = ap (λ (s : Sched). s.heads) c.self.view_is in
    let placed : place_of items (Signal s) ≡ Some place = ap (λ (ls : List Level). place_of ls (Signal s)) e ∙ sym c.in-Some.ensures in
    let within = (at_place items (Signal s) place placed).within in
    let new : Sched = record { levels = set items place (record level { priority = p }); heads = c.change_priority.new.self } in
    let moved : new.levels ≡ map (moved_level s p) sched.levels =
    ap (λ (l : Level). set items place (record l { priority = p })) c.index_mut.ensures.value ∙ sym (moved_at items s place p level c.self.invariant.1.apart placed) ∙ ap (map (moved_level s p)) e in
    moved_kept s p sched new pool moved
    (λ heads.
    c.change_priority.ensures
    ∙ firsts_moved pool items c.self.inside.heads place p level within (h ∙ heads ∙ sym (ap (λ (ls : List Level). firsts ls pool) e))
    ∙ ap (λ (l : Level). firsts (set items place (record l { priority = p })) pool) (sym c.index_mut.ensures.value))
    k

pub returns-in-Some-clause-others : goal.returns-in-Some-clause-others
returns-in-Some-clause-others g c l lone =
    let P : List Level → Type 0 = λ ls. Lone l (all_queues ls) in
    let s = c.args.s in
    let p = c.args.p in
    let items = c.self.inside.levels.items in
    let place = c.in-Some.place in
    let e = ap (λ (s : Sched). s.levels) c.self.view_is in
    let placed : place_of items (Signal s) ≡ Some place = ap (λ (ls : List Level). place_of ls (Signal s)) e ∙ sym c.in-Some.ensures in
    let moved : set items place (record c.index_mut.result.now { priority = p }) ≡ map (moved_level s p) c.args.self.now.levels =
    ap (λ (l : Level). set items place (record l { priority = p })) c.index_mut.ensures.value ∙ sym (moved_at items s place p c.index_mut.result.now c.self.invariant.1.apart placed) ∙ ap (map (moved_level s p)) e in
    subst P (sym moved) (still_lone s p c.args.self.now.levels l lone)

pub returns-in-Some-clause-waiting : goal.returns-in-Some-clause-waiting
returns-in-Some-clause-waiting g c pool =
    let s = c.args.s in
    let p = c.args.p in
    let items = c.self.inside.levels.items in
    let place = c.in-Some.place in
    let e = ap (λ (s : Sched). s.levels) c.self.view_is in
    let placed : place_of items (Signal s) ≡ Some place = ap (λ (ls : List Level). place_of ls (Signal s)) e ∙ sym c.in-Some.ensures in
    let moved : set items place (record c.index_mut.result.now { priority = p }) ≡ map (moved_level s p) c.args.self.now.levels =
    ap (λ (l : Level). set items place (record l { priority = p })) c.index_mut.ensures.value ∙ sym (moved_at items s place p c.index_mut.result.now c.self.invariant.1.apart placed) ∙ ap (map (moved_level s p)) e in
    ap (λ (ls : List Level). waiting ls pool) moved ∙ moved_waiting s p c.args.self.now.levels pool

pub returns-in_default-clause-levels : goal.returns-in_default-clause-levels
returns-in_default-clause-levels g c = sym (none_moved c.args.s c.args.p c.args.self.now.levels (missing c.args.self.now.levels (Signal c.args.s) (sym c.in_default.ensures)))

pub returns-in_default-clause-waiting : goal.returns-in_default-clause-waiting
returns-in_default-clause-waiting g c pool =
    ap (λ (ls : List Level). waiting ls pool) (sym (none_moved c.args.s c.args.p c.args.self.now.levels (missing c.args.self.now.levels (Signal c.args.s) (sym c.in_default.ensures))))
    ∙ moved_waiting c.args.s c.args.p c.args.self.now.levels pool
