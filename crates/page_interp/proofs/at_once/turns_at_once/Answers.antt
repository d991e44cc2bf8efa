use Rattle.std.proofs.Common.{◌-◌, refl, arith}
use Rattle.page_interp.proofs.Steps.{still}
use Rattle.page_interp.proofs.NameIndex.{none_left}
use Rattle.page_interp.proofs.LoopTurns.{comes_first, begins, comes_again, told_there}
use Rattle.page_interp.proofs.at_once.turns_at_once.Goals as goal

pub turns-init : goal.turns-init
turns-init g c = record { comes = comes_first g.H.Host.rules c.args.code.now c.args.test.now c.args.block.now c.args.store.now c.args.current.now; fuel = still _ }

pub returns-then-not-is_empty-clause-some : goal.returns-then-not-is_empty-clause-some
returns-then-not-is_empty-clause-some g c = begins g.H.Host.rules c.args.code.now c.args.test.now c.args.block.now _ _ _ _ _ _ _ (c.turns.store.fuel - 1) _ c.turns.invariant.comes
    (told_there c.args.code.now c.turns.store c.turns.current c.args.test.now c.in-Some-true.field-0 c.in-Some-true.field-0-test c.in-Some-true.ensures) (omega arith) refl c.assigned-rest.ensures.brings

pub turns-preserved : goal.turns-preserved
turns-preserved g c = record {
  comes = comes_again g.H.Host.rules c.args.code.now c.args.test.now c.args.block.now _ _ _ _ _ (none_left _ c.if-not-is_empty.ensures)
      (begins g.H.Host.rules c.args.code.now c.args.test.now c.args.block.now _ _ _ _ _ _ _ (c.turns.store.fuel - 1) _ c.turns.invariant.comes
      (told_there c.args.code.now c.turns.store c.turns.current c.args.test.now c.in-Some-true.field-0 c.in-Some-true.field-0-test c.in-Some-true.ensures) (omega arith) refl c.assigned-rest.ensures.brings);
  fuel = let a = c.turns.invariant.fuel in let b = c.assigned-rest.ensures.fuel in omega (arith, a, b);
}

pub returns-in_default-clause-fuel : goal.returns-in_default-clause-fuel
returns-in_default-clause-fuel g c = c.turns.invariant.fuel

pub returns-then-not-is_empty-clause-unit : goal.returns-then-not-is_empty-clause-unit
returns-then-not-is_empty-clause-unit g c = let a = c.turns.invariant.fuel in let b = c.assigned-rest.ensures.fuel in omega (arith, a, b)

pub returns-then-not-is_empty-clause-fuel : goal.returns-then-not-is_empty-clause-fuel
returns-then-not-is_empty-clause-fuel g c = let a = c.turns.invariant.fuel in let b = c.assigned-rest.ensures.fuel in omega (arith, a, b)

pub returns-clause-none : goal.returns-clause-none
returns-clause-none g c = c.turns.invariant.comes
