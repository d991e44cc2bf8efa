use Rattle.std.proofs.Common.{refl}
use Rattle.page_interp.proofs.SmallSteps.{pushed_moves, each_moves, pops_moves, swaps_moves}
use Rattle.page_interp.proofs.ValueSteps.{left_swaps, right_pops, unary_pops, ignore_pops, if_picks, return_pops, throw_pops, stmts_pops, items_pops}
use Rattle.page_interp.proofs.receiving.receive.Goals as goal

pub returns-in-Left-clause-ok : goal.returns-in-Left-clause-ok
returns-in-Left-clause-ok g c = rw c.in-Left.is (pushed_moves _ _ _ _ _ _ c.wait.ensures.pushed c.wait.ensures.next (swaps_moves g.H.Host.rules _ (left_swaps _ _ _)))

pub returns-in-Right-clause-ok : goal.returns-in-Right-clause-ok
returns-in-Right-clause-ok g c = rw c.in-Right.is (each_moves c.into_right.result _ _ _ _ c.into_right.ensures.ok (λ f h. pops_moves g.H.Host.rules _ (right_pops _ _ _ f h)))

pub returns-in-Unary-clause-ok : goal.returns-in-Unary-clause-ok
returns-in-Unary-clause-ok g c = rw c.in-Unary.is (each_moves c.into_unary.result _ _ _ _ c.into_unary.ensures.ok (λ f h. pops_moves g.H.Host.rules _ (unary_pops _ _ f h)))

pub returns-in-Ignore-clause-ok : goal.returns-in-Ignore-clause-ok
returns-in-Ignore-clause-ok g c = rw (c.in-Ignore.is, c.instead.ensures) (pops_moves g.H.Host.rules _ (ignore_pops _))

pub returns-in-If-clause-ok : goal.returns-in-If-clause-ok
returns-in-If-clause-ok g c = rw c.in-If.is (pops_moves g.H.Host.rules _ (if_picks _ _ _ _ _ _ refl c.into_if.ensures))

pub returns-in-Return-clause-ok : goal.returns-in-Return-clause-ok
returns-in-Return-clause-ok g c = rw c.in-Return.is (pops_moves g.H.Host.rules _ (return_pops _))

pub returns-in-Throw-clause-ok : goal.returns-in-Throw-clause-ok
returns-in-Throw-clause-ok g c = rw c.in-Throw.is (pops_moves g.H.Host.rules _ (throw_pops _))

pub returns-in-Stmts-clause-ok : goal.returns-in-Stmts-clause-ok
returns-in-Stmts-clause-ok g c = rw (c.in-Stmts.is, c.instead-in-Stmts.ensures) (pops_moves g.H.Host.rules _ (stmts_pops _ _))

pub returns-in-Items-clause-ok : goal.returns-in-Items-clause-ok
returns-in-Items-clause-ok g c = rw (c.in-Items.is, c.instead-in-Items.ensures) (pops_moves g.H.Host.rules _ (items_pops _ _))
