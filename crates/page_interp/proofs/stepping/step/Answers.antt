use Rattle.std.proofs.Common.{refl}
use Rattle.lang_ast.specs.SeenProgram.{seen_program}
use Rattle.page_interp.proofs.Steps.{still}
use Rattle.page_interp.proofs.RunSteps.{steps_goes, steps_moves, steps_call}
use Rattle.page_interp.proofs.stepping.step.Goals as goal

pub known-requires : goal.known-requires
known-requires g c = let s = rw c.in-Expr.is at c.requires.stood in (_, c.in-Expr.expr, refl, s)

pub returns-in-Some : goal.returns-in-Some
returns-in-Some g c = rw c.in-Expr.is (c.in-Some.ensures _ c.in-Expr.expr refl)

pub returns-in-None : goal.returns-in-None
returns-in-None g c = rw c.in-Expr.is (steps_goes g.H.Host.rules g.H.Host.leaves (seen_program c.args.code.now) (g.H.Host.now c.args.host.now) c.from_expr.result _ _ _ _ c.from_expr.ensures.ok c.from_expr.ensures.err c.from_expr.ensures.globals c.from_expr.ensures.fuel)

pub returns-in-Row : goal.returns-in-Row
returns-in-Row g c = rw c.in-Row.is (steps_goes g.H.Host.rules g.H.Host.leaves (seen_program c.args.code.now) (g.H.Host.now c.args.host.now) c.next_in_row.result _ _ _ _ c.next_in_row.ensures.ok c.next_in_row.ensures.err refl (still _))

pub returns-in-Stmt : goal.returns-in-Stmt
returns-in-Stmt g c = rw c.in-Stmt.is (steps_moves g.H.Host.rules g.H.Host.leaves (seen_program c.args.code.now) (g.H.Host.now c.args.host.now) c.from_stmt.result _ _ _ _ _ c.from_stmt.ensures.ok c.from_stmt.ensures.err)

pub from_stmts-requires : goal.from_stmts-requires
from_stmts-requires g c = let s = rw c.in-Block.is at c.requires.stood in (_, c.in-Block.stmts, refl, s)

pub returns-in-Block : goal.returns-in-Block
returns-in-Block g c = rw c.in-Block.is c.from_stmts.ensures.steps

pub returns-in-Items : goal.returns-in-Items
returns-in-Items g c = rw c.in-Items.is (steps_moves g.H.Host.rules g.H.Host.leaves (seen_program c.args.code.now) (g.H.Host.now c.args.host.now) c.from_items.result _ _ _ _ _ c.from_items.ensures.ok c.from_items.ensures.err)

pub returns-in-Others : goal.returns-in-Others
returns-in-Others g c = rw c.in-Others.is (steps_moves g.H.Host.rules g.H.Host.leaves (seen_program c.args.code.now) (g.H.Host.now c.args.host.now) c.from_others.result _ _ _ _ _ c.from_others.ensures.ok c.from_others.ensures.err)

pub returns-in-Call : goal.returns-in-Call
returns-in-Call g c = rw c.in-Call.is (steps_call g.H.Host.rules g.H.Host.leaves (seen_program c.args.code.now) (g.H.Host.now c.args.host.now) c.call.result _ _ _ _ _ _ _ _ c.call.ensures.ok c.call.ensures.err c.call.ensures.called c.call.ensures.globals c.call.ensures.fuel)

pub ask-requires : goal.ask-requires
ask-requires g c = record { stood = rw c.in-Ask.is at c.requires.stood }

pub returns-in-Ask : goal.returns-in-Ask
returns-in-Ask g c = rw c.in-Ask.is c.ask.ensures

pub from_value-requires : goal.from_value-requires
from_value-requires g c = record { stood = rw c.in-Value.is at c.requires.stood }

pub returns-in-Value : goal.returns-in-Value
returns-in-Value g c = rw c.in-Value.is c.from_value.ensures

pub from_throw-requires : goal.from_throw-requires
from_throw-requires g c = record { stood = rw c.in-Throw.is at c.requires.stood }

pub returns-in-Throw : goal.returns-in-Throw
returns-in-Throw g c = rw c.in-Throw.is c.from_throw.ensures

pub from_return-requires : goal.from_return-requires
from_return-requires g c = record { stood = rw c.in-Return.is at c.requires.stood }

pub returns-in-Return : goal.returns-in-Return
returns-in-Return g c = rw c.in-Return.is c.from_return.ensures
