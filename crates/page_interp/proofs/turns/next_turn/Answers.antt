use Rattle.std.proofs.Common.{refl, ◌∙◌}
use Rattle.page_interp.specs.Frames.{stacked}
use Rattle.page_interp.proofs.NameIndex.{none_left}
use Rattle.page_interp.proofs.AskedTurns.{turned_none, turn_stands, turned_more, turn_goes_on, turn_stops, turn_comes}
use Rattle.page_interp.proofs.turns.next_turn.Goals as goal

pub turns-init : goal.turns-init
turns-init g c = record { turns = turned_none g.H.Host.rules g.H.Host.leaves c.args.code.now (g.H.Host.now c.args.host.now) c.args.run.now.store c.args.run.now.current c.args.test.now c.args.block.now; stack = refl }

pub returns-in_default : goal.returns-in_default
returns-in_default g c = λ v.
    turn_comes g.H.Host.rules g.H.Host.leaves c.args.code.now (g.H.Host.now c.args.host.now) c.args.run.now.store c.args.run.now.current c.args.test.now c.args.block.now _ _ _ _ _ (stacked c.args.run.now.stack.items) _ v c.args.test c.args.block c.within.result refl refl
    c.turns.invariant.turns c.in_default.ensures.none (rw c.turns.invariant.stack at c.within.ensures.pushed) c.within.ensures.next c.within.ensures.err

pub asked-requires : goal.asked-requires
asked-requires g c = turn_stands g.H.Host.rules g.H.Host.leaves c.args.code.now (g.H.Host.now c.args.host.now) c.args.run.now.store c.args.run.now.current c.args.test.now c.args.block.now _ _ _ _ _ _ c.requires c.turns.invariant.turns c.in-Some.ensures.some

pub turns-preserved : goal.turns-preserved
turns-preserved g c = record {
  turns = turned_more g.H.Host.rules g.H.Host.leaves c.args.code.now (g.H.Host.now c.args.host.now) c.args.run.now.store c.args.run.now.current c.args.test.now c.args.block.now _ _ _ _ _ _ _ _ _ c.in-Ok.left.now (none_left _ c.if-is_empty.ensures) c.turns.invariant.turns c.in-Some.ensures.some c.in-Ok.ensures.ok;
  stack = c.in-Ok.ensures.stack ∙ c.turns.invariant.stack;
}

pub returns-in-Ok-2 : goal.returns-in-Ok-2
returns-in-Ok-2 g c = λ v.
    turn_goes_on g.H.Host.rules g.H.Host.leaves c.args.code.now (g.H.Host.now c.args.host.now) c.args.run.now.store c.args.run.now.current c.args.test.now c.args.block.now _ _ _ _ _ _ _ _ _ (stacked c.args.run.now.stack.items) _ v c.args.test c.args.block c.in-Ok.left c.within_turn.result _ _ refl refl
    c.turns.invariant.turns c.in-Some.ensures.some c.in-Ok.ensures.ok (rw (c.in-Ok.ensures.stack ∙ c.turns.invariant.stack) at c.within_turn.ensures.ok) c.within_turn.ensures.err c.within_turn.ensures.same

pub returns-in-Err : goal.returns-in-Err
returns-in-Err g c = λ v.
    turn_stops g.H.Host.rules g.H.Host.leaves c.args.code.now (g.H.Host.now c.args.host.now) c.args.run.now.store c.args.run.now.current c.args.test.now c.args.block.now _ _ _ _ _ _ _ _ c.args.run.now.current (stacked c.args.run.now.stack.items) (stacked c.args.run.now.stack.items) v c.args.test c.args.block c.in-Err.exit c.args.run.now.current refl refl
    c.turns.invariant.turns c.in-Some.ensures.some c.in-Err.ensures.stops
