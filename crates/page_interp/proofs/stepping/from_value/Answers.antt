use Rattle.std.proofs.Common.{refl, arith}
use Rattle.lang_ast.specs.SeenProgram.{seen_program}
use Rattle.page_values.specs.Seen.{seen}
use Rattle.lang_meaning.specs.HostSteps.{CallbackValue}
use Rattle.page_interp.specs.declared.stack.Focus.TheVariants as focus
use Rattle.page_interp.proofs.FrameSteps.{try_value, close_value, assign_goes}
use Rattle.page_interp.specs.Frames.{stacked}
use Rattle.page_interp.proofs.AskedTurns.{stmts_stand, stmts_next}
use Rattle.page_interp.proofs.RunSteps.{step_goes, steps_moves, value_ends, steps_test, host_popped, host_steps}
use Rattle.page_interp.proofs.stepping.from_value.Goals as goal

pub returns-in-None : goal.returns-in-None
returns-in-None g c = rw c.in-None.ensures.none (λ ts st. value_ends g.H.Host.rules g.H.Host.leaves (seen_program c.args.code.now) (g.H.Host.now c.args.host.now) _ _ _ ts st)

pub from_stmts-requires : goal.from_stmts-requires
from_stmts-requires g c =
    let e = rw (c.in-Some-Wait-Stmts.field-0-is, c.in-Some-Wait-Stmts.field-0-0-is) at c.in-Some-Wait-Stmts.ensures.some in
    stmts_stand g.H.Host.rules g.H.Host.leaves c.args.code.now (g.H.Host.now c.args.host.now) c.args.run.now.store c.args.run.now.current (stacked c.pop.new.stack.items) c.in-Some-Wait-Stmts.rest c.args.value (rw e at c.requires.stood)

pub returns-in-Some-Wait-Stmts : goal.returns-in-Some-Wait-Stmts
returns-in-Some-Wait-Stmts g c =
    let e = rw (c.in-Some-Wait-Stmts.field-0-is, c.in-Some-Wait-Stmts.field-0-0-is) at c.in-Some-Wait-Stmts.ensures.some in
    rw e (stmts_next g.H.Host.rules g.H.Host.leaves c.args.code.now (g.H.Host.now c.args.host.now) _ c.args.run.now.store _ c.args.run.now.current _ (stacked c.pop.new.stack.items) _ c.in-Some-Wait-Stmts.rest c.args.value c.from_stmts.result c.from_stmts.ensures.steps c.from_stmts.ensures.unsettled)

pub returns-in-Some-Wait : goal.returns-in-Some-Wait
returns-in-Some-Wait g c = let e = rw c.in-Some-Wait.field-0-is at c.in-Some-Wait.ensures.some in rw e (steps_moves g.H.Host.rules g.H.Host.leaves (seen_program c.args.code.now) (g.H.Host.now c.args.host.now) c.receive.result _ _ _ _ _ c.receive.ensures.ok c.receive.ensures.err)

pub returns-in-Some-Assign : goal.returns-in-Some-Assign
returns-in-Some-Assign g c = let e = rw c.in-Some-Assign.field-0-is at c.in-Some-Assign.ensures.some in rw e (step_goes g.H.Host.rules g.H.Host.leaves (seen_program c.args.code.now) (g.H.Host.now c.args.host.now) _ _ (assign_goes g.H.Host.rules _ c.args.run.now.store c.args.run.now.current _ _ _ _ _ c.set.ensures.names c.set.ensures.depth c.set.ensures.locals c.set.ensures.globals c.set.ensures.fuel))

pub returns-in-Some-Test : goal.returns-in-Some-Test
returns-in-Some-Test g c = let e = rw c.in-Some-Test.field-0-is at c.in-Some-Test.ensures.some in rw e (steps_test g.H.Host.rules g.H.Host.leaves (seen_program c.args.code.now) (g.H.Host.now c.args.host.now) c.into_test-next.result _ _ _ _ _ _ _ _ _ c.into_test-next.ensures.ok c.into_test-next.ensures.err c.into_test-next.ensures.enters)

pub next_turn-requires : goal.next_turn-requires
next_turn-requires g c = let e = rw c.in-Some-Turn.field-0-is at c.in-Some-Turn.ensures.some in let s = rw e at c.requires.stood in (stacked c.pop.new.stack.items, c.args.value, c.in-Some-Turn.test, c.in-Some-Turn.block, refl, refl, s)

pub returns-in-Some-Turn : goal.returns-in-Some-Turn
returns-in-Some-Turn g c = let e = rw c.in-Some-Turn.field-0-is at c.in-Some-Turn.ensures.some in rw e (c.next_turn.ensures c.args.value)

pub returns-in-Some-Try : goal.returns-in-Some-Try
returns-in-Some-Try g c = let e = rw c.in-Some-Try.field-0-is at c.in-Some-Try.ensures.some in rw e (step_goes g.H.Host.rules g.H.Host.leaves (seen_program c.args.code.now) (g.H.Host.now c.args.host.now) _ _ (try_value g.H.Host.rules _ c.args.run.now.store c.args.run.now.current _ _ _ _))

pub close-requires : goal.close-requires
close-requires g c = let e = rw c.in-Some-Open.field-0-is at c.in-Some-Open.ensures.some in let st = rw e at c.requires.stood.1 in let z = st.holds.depth in omega (arith, z)

pub returns-in-Some-Open : goal.returns-in-Some-Open
returns-in-Some-Open g c = let e = rw c.in-Some-Open.field-0-is at c.in-Some-Open.ensures.some in rw e (step_goes g.H.Host.rules g.H.Host.leaves (seen_program c.args.code.now) (g.H.Host.now c.args.host.now) _ _ (close_value g.H.Host.rules _ c.args.run.now.store c.args.run.now.current _ _ _ _ _ c.close.ensures.names c.close.ensures.locals c.close.ensures.depth))

pub resume-requires-clause-holds : goal.resume-requires-clause-holds
resume-requires-clause-holds g c = let e = rw c.in-Some-Host.field-0-is at c.in-Some-Host.ensures.some in let st = rw e at c.requires.stood.1 in host_popped g.H.Host.rules g.H.Host.leaves (seen_program c.args.code.now) _ _ _ _ _ _ _ st

pub resume-requires-clause-ready : goal.resume-requires-clause-ready
resume-requires-clause-ready g c = let e = rw c.in-Some-Host.field-0-is at c.in-Some-Host.ensures.some in let st = rw e at c.requires.stood.1 in st.ready

pub resume-requires-clause-tickets : goal.resume-requires-clause-tickets
resume-requires-clause-tickets g c = let e = rw c.in-Some-Host.field-0-is at c.in-Some-Host.ensures.some in let st = rw e at c.requires.stood.1 in (c.requires.stood.0, st.tickets)

pub resume-requires-clause-numbered : goal.resume-requires-clause-numbered
resume-requires-clause-numbered g c = let e = rw c.in-Some-Host.field-0-is at c.in-Some-Host.ensures.some in let st = rw e at c.requires.stood.1 in st.holds.focus

pub returns-in-Some-Host : goal.returns-in-Some-Host
returns-in-Some-Host g c = let e = rw c.in-Some-Host.field-0-is at c.in-Some-Host.ensures.some in rw e (λ ts st. host_steps g.H.Host.rules g.H.Host.leaves (seen_program c.args.code.now) _ _ _ _ _ (focus.Value c.args.value) (CallbackValue (seen c.args.value)) _ _ _ _ _ ts refl (λ d n m. refl) c.resume.ensures.unsettled (λ n k. c.resume.ensures.leaves ts n st.tickets k) st)
