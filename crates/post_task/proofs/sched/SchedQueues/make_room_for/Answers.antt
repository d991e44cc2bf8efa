use Rattle.std.proofs.Common.{◌≡◌, true, false, List, refl, sym, ap, subst, ◌∙◌}
use Rattle.std.specs.Prelude.{is_some}
use Rattle.post_task.specs.declared.level.Level.{Level}
use Rattle.post_task.specs.declared.level.PrioSource.TheVariants.{Signal}
use Rattle.post_task.specs.Levels.{Sched, Kept, Lone, all_queues, place_of, priority_in}
use Rattle.post_task.proofs.Moves.{room_moved, other_moved, added_others, signal_kept, signal_room, signal_waiting, still_kept, added_lone}
use Rattle.post_task.proofs.Stays.{lone_still, lone_stays}
use Rattle.post_task.proofs.Places.{some_found, missing, none_place}
use Rattle.post_task.proofs.Best.{any_level}
use Rattle.post_task.proofs.sched.SchedQueues.make_room_for.Goals as goal

pub returns-then-is_some-clause-room : goal.returns-then-is_some-clause-room
returns-then-is_some-clause-room g c =
    let levels = c.args.self.now.levels in
    let some : is_some (place_of levels (Signal c.args.s)) ≡ true = sym (ap is_some c.place_of_signal.ensures) ∙ sym c.is_some.ensures ∙ c.if-is_some.true in
    ap (λ (ls : List Level). priority_in ls (Signal c.args.s)) c.move_priority.ensures.levels ∙ room_moved c.args.s c.args.p levels (some_found levels (Signal c.args.s) (place_of levels (Signal c.args.s)) any_level refl some)

pub returns-then-is_some-clause-sources : goal.returns-then-is_some-clause-sources
returns-then-is_some-clause-sources g c source other =
    ap (λ (ls : List Level). priority_in ls source) c.move_priority.ensures.levels ∙ other_moved c.args.s c.args.p c.args.self.now.levels source other

pub returns-clause-sources : goal.returns-clause-sources
returns-clause-sources g c = added_others c.args.self.now.levels c.add.new.self.levels c.args.pool.now c.add.new.pool (Signal c.args.s) c.args.p c.in_ok-add.ensures.added

pub returns-then-is_some-clause-made : goal.returns-then-is_some-clause-made
returns-then-is_some-clause-made g c l h lone = c.move_priority.ensures.others l lone

pub returns-in_err-add-clause-kept : goal.returns-in_err-add-clause-kept
returns-in_err-add-clause-kept g c =
    let P : Sched → Type 0 = λ s. Kept s c.add.new.pool in
    subst P (sym c.in_err-add.ensures.err) (still_kept c.args.self.now c.args.pool.now c.add.new.pool c.in_err-add.ensures.more c.in_err-add.ensures.lists c.requires)

pub returns-clause-kept : goal.returns-clause-kept
returns-clause-kept g c =
    signal_kept c.args.self.now c.add.new.self c.args.pool.now c.add.new.pool (Signal c.args.s) c.args.p c.requires c.in_ok-add.ensures.lists c.in_ok-add.ensures.added c.in_ok-add.ensures.head

pub returns-clause-room : goal.returns-clause-room
returns-clause-room g c =
    let levels = c.args.self.now.levels in
    let none : is_some (place_of levels (Signal c.args.s)) ≡ false = sym (ap is_some c.place_of_signal.ensures) ∙ sym c.is_some.ensures ∙ c.if-is_some.false in
    signal_room levels c.add.new.self.levels c.args.pool.now c.add.new.pool c.args.s c.args.p (missing levels (Signal c.args.s) (none_place _ none)) c.in_ok-add.ensures.added

pub returns-clause-waiting : goal.returns-clause-waiting
returns-clause-waiting g c =
    let levels = c.args.self.now.levels in
    let none : is_some (place_of levels (Signal c.args.s)) ≡ false = sym (ap is_some c.place_of_signal.ensures) ∙ sym c.is_some.ensures ∙ c.if-is_some.false in
    signal_waiting levels c.add.new.self.levels c.args.pool.now c.add.new.pool c.args.s c.args.p c.args.p (missing levels (Signal c.args.s) (none_place _ none)) c.in_ok-add.ensures.lists c.in_ok-add.ensures.added

pub returns-clause-made : goal.returns-clause-made
returns-clause-made g c l h lone = added_lone c.args.self.now.levels c.add.new.self.levels c.args.pool.now c.add.new.pool (Signal c.args.s) c.args.p c.in_ok-add.ensures.added l h lone

pub returns-then-is_some-clause-stay : goal.returns-then-is_some-clause-stay
returns-then-is_some-clause-stay g c l lone =
    lone_still c.args.s c.args.p c.args.self.now.levels l (subst (λ (ls : List Level). Lone l (all_queues ls)) c.move_priority.ensures.levels lone)

pub returns-in_err-add-clause-stay : goal.returns-in_err-add-clause-stay
returns-in_err-add-clause-stay g c l lone = subst (λ (s : Sched). Lone l (all_queues s.levels)) c.in_err-add.ensures.err lone

pub returns-clause-stay : goal.returns-clause-stay
returns-clause-stay g c l lone = lone_stays c.args.self.now.levels c.add.new.self.levels c.args.pool.now c.add.new.pool (Signal c.args.s) c.args.p c.in_ok-add.ensures.added l lone

pub returns-then-is_some-clause-kept : goal.returns-then-is_some-clause-kept
returns-then-is_some-clause-kept g c = c.move_priority.ensures.kept c.args.pool.now c.requires

pub returns-then-is_some-clause-waiting : goal.returns-then-is_some-clause-waiting
returns-then-is_some-clause-waiting g c = c.move_priority.ensures.waiting c.args.pool.now

pub add-requires-clause-fresh : goal.add-requires-clause-fresh
add-requires-clause-fresh g c =
    none_place (place_of c.args.self.now.levels (Signal c.args.s)) (sym (ap is_some c.place_of_signal.ensures) ∙ sym c.is_some.ensures ∙ c.if-is_some.false)

pub add-requires-clause-kept : goal.add-requires-clause-kept
add-requires-clause-kept g c = c.requires.lists

pub returns-in_err-add-clause-made : goal.returns-in_err-add-clause-made
returns-in_err-add-clause-made g c l h lone = subst (λ (s : Sched). Lone l (all_queues s.levels)) (sym c.in_err-add.ensures.err) lone

pub returns-in_err-add-clause-lists : goal.returns-in_err-add-clause-lists
returns-in_err-add-clause-lists g c = c.in_err-add.ensures.lists

pub returns-clause-lists : goal.returns-clause-lists
returns-clause-lists g c = c.in_ok-add.ensures.lists
