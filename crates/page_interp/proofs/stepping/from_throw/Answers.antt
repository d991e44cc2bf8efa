use Rattle.std.proofs.Common.{refl, arith}
use Rattle.lang_ast.specs.SeenProgram.{seen_program}
use Rattle.page_values.specs.Seen.{seen}
use Rattle.lang_meaning.specs.HostSteps.{CallbackThrow}
use Rattle.page_interp.specs.declared.stack.Focus.TheVariants as focus
use Rattle.page_interp.specs.declared.stack.Frame.TheVariants as frame
use Rattle.page_interp.proofs.FrameSteps.{pass_throw, close_throw, catch_goes}
use Rattle.page_interp.proofs.RunSteps.{step_goes, throw_ends, host_popped, host_steps}
use Rattle.page_interp.proofs.stepping.from_throw.Goals as goal

pub returns-in-None : goal.returns-in-None
returns-in-None g c = rw c.in-None.ensures.none (λ ts st. throw_ends g.H.Host.rules g.H.Host.leaves (seen_program c.args.code.now) (g.H.Host.now c.args.host.now) _ _ _ ts st)

pub returns-in-Some-Wait : goal.returns-in-Some-Wait
returns-in-Some-Wait g c = let e = rw c.in-Some-Wait.field-0-is at c.in-Some-Wait.ensures.some in rw e (step_goes g.H.Host.rules g.H.Host.leaves (seen_program c.args.code.now) (g.H.Host.now c.args.host.now) _ _ (pass_throw g.H.Host.rules _ c.args.run.now.store c.args.run.now.current _ (frame.Wait _) _ tt))

pub returns-in-Some-Assign : goal.returns-in-Some-Assign
returns-in-Some-Assign g c = let e = rw c.in-Some-Assign.field-0-is at c.in-Some-Assign.ensures.some in rw e (step_goes g.H.Host.rules g.H.Host.leaves (seen_program c.args.code.now) (g.H.Host.now c.args.host.now) _ _ (pass_throw g.H.Host.rules _ c.args.run.now.store c.args.run.now.current _ (frame.Assign _) _ tt))

pub returns-in-Some-Test : goal.returns-in-Some-Test
returns-in-Some-Test g c = let e = rw c.in-Some-Test.field-0-is at c.in-Some-Test.ensures.some in rw e (step_goes g.H.Host.rules g.H.Host.leaves (seen_program c.args.code.now) (g.H.Host.now c.args.host.now) _ _ (pass_throw g.H.Host.rules _ c.args.run.now.store c.args.run.now.current _ (frame.Test _ _) _ tt))

pub returns-in-Some-Turn : goal.returns-in-Some-Turn
returns-in-Some-Turn g c = let e = rw c.in-Some-Turn.field-0-is at c.in-Some-Turn.ensures.some in rw e (step_goes g.H.Host.rules g.H.Host.leaves (seen_program c.args.code.now) (g.H.Host.now c.args.host.now) _ _ (pass_throw g.H.Host.rules _ c.args.run.now.store c.args.run.now.current _ (frame.Turn _ _) _ tt))

pub returns-in-Some-Try : goal.returns-in-Some-Try
returns-in-Some-Try g c = let e = rw c.in-Some-Try.field-0-is at c.in-Some-Try.ensures.some in rw e (step_goes g.H.Host.rules g.H.Host.leaves (seen_program c.args.code.now) (g.H.Host.now c.args.host.now) _ _ (catch_goes g.H.Host.rules _ c.args.run.now.store c.args.run.now.current _ _ _ _ _ _ c.set.ensures.names c.set.ensures.depth c.set.ensures.locals c.set.ensures.globals c.set.ensures.fuel))

pub close-requires : goal.close-requires
close-requires g c = let e = rw c.in-Some-Open.field-0-is at c.in-Some-Open.ensures.some in let st = rw e at c.requires.stood.1 in let z = st.holds.depth in omega (arith, z)

pub returns-in-Some-Open : goal.returns-in-Some-Open
returns-in-Some-Open g c = let e = rw c.in-Some-Open.field-0-is at c.in-Some-Open.ensures.some in rw e (step_goes g.H.Host.rules g.H.Host.leaves (seen_program c.args.code.now) (g.H.Host.now c.args.host.now) _ _ (close_throw g.H.Host.rules _ c.args.run.now.store c.args.run.now.current _ _ _ _ _ c.close.ensures.names c.close.ensures.locals c.close.ensures.depth))

pub resume-requires-clause-holds : goal.resume-requires-clause-holds
resume-requires-clause-holds g c = let e = rw c.in-Some-Host.field-0-is at c.in-Some-Host.ensures.some in let st = rw e at c.requires.stood.1 in host_popped g.H.Host.rules g.H.Host.leaves (seen_program c.args.code.now) _ _ _ _ _ _ _ st

pub resume-requires-clause-ready : goal.resume-requires-clause-ready
resume-requires-clause-ready g c = let e = rw c.in-Some-Host.field-0-is at c.in-Some-Host.ensures.some in let st = rw e at c.requires.stood.1 in st.ready

pub resume-requires-clause-tickets : goal.resume-requires-clause-tickets
resume-requires-clause-tickets g c = let e = rw c.in-Some-Host.field-0-is at c.in-Some-Host.ensures.some in let st = rw e at c.requires.stood.1 in (c.requires.stood.0, st.tickets)

pub resume-requires-clause-numbered : goal.resume-requires-clause-numbered
resume-requires-clause-numbered g c = let e = rw c.in-Some-Host.field-0-is at c.in-Some-Host.ensures.some in let st = rw e at c.requires.stood.1 in st.holds.focus

pub returns-in-Some-Host : goal.returns-in-Some-Host
returns-in-Some-Host g c = let e = rw c.in-Some-Host.field-0-is at c.in-Some-Host.ensures.some in rw e (λ ts st. host_steps g.H.Host.rules g.H.Host.leaves (seen_program c.args.code.now) _ _ _ _ _ (focus.Throw c.args.value) (CallbackThrow (seen c.args.value)) _ _ _ _ _ ts refl (λ d n m. refl) c.resume.ensures.unsettled (λ n k. c.resume.ensures.leaves ts n st.tickets k) st)
