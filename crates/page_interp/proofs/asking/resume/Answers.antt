use Rattle.std.proofs.Common.{arith}
use Rattle.lang_ast.specs.Steps.{seen_step, seen_outcome}
use Rattle.lang_ast.specs.SeenProgram.{seen_program}
use Rattle.page_interp.specs.Frames.{stacked}
use Rattle.page_interp.proofs.Calls.{room_for, functions_for}
use Rattle.page_interp.proofs.HostTurns.{few_come, answers_now, ready_now, resume_leaves, refuses_resume}
use Rattle.page_interp.proofs.asking.resume.Goals as goal

pub resume-requires-clause-open_ticket : goal.resume-requires-clause-open_ticket
resume-requires-clause-open_ticket g c = (_, c.requires.tickets.1)

pub resume-requires-clause-numbered : goal.resume-requires-clause-numbered
resume-requires-clause-numbered g c = rw (functions_for _ _ _ _ c.requires.ready) c.requires.numbered

pub answer-requires : goal.answer-requires
answer-requires g c = record { answering = (c.requires.tickets.0, (answers_now g.H.Host.rules g.H.Host.leaves (seen_program c.args.code.now) c.requires.tickets.0 (g.H.Host.left (g.H.Host.now c.resume.new.self).told) c.args.run.now.store c.args.run.now.current (stacked c.args.run.now.stack.items) _ _ (seen_step c.in-Ok.step) 0 c.requires.holds c.requires.ready c.in-Ok.ensures.functions (let r = c.in-Ok.ensures.room in omega (arith, r)) (let r = room_for _ _ _ _ c.requires.ready in omega (arith, r)) (c.in-Ok.ensures.open_tickets _ c.requires.tickets.1) c.in-Ok.ensures.few c.in-Ok.ensures.numbered)) }

pub returns-in-Ok-clause-leaves : goal.returns-in-Ok-clause-leaves
returns-in-Ok-clause-leaves g c = λ ts n tk e. resume_leaves g.H.Host.rules g.H.Host.leaves (seen_program c.args.code.now) ts (g.H.Host.left (g.H.Host.now c.resume.new.self).told) c.args.run.now.store c.args.run.now.current (stacked c.args.run.now.stack.items) _ _ (seen_step c.in-Ok.step) c.args.ticket (seen_outcome c.args.outcome) n _ _ _ _ _ c.in-Ok.ensures.rule c.in-Ok.ensures.no_refusal (ready_now g.H.Host.rules g.H.Host.leaves (seen_program c.args.code.now) ts (g.H.Host.left (g.H.Host.now c.resume.new.self).told) c.args.run.now.store c.args.run.now.current (stacked c.args.run.now.stack.items) _ _ 0 c.requires.ready c.in-Ok.ensures.functions (let r = c.in-Ok.ensures.room in omega (arith, r)) (let r = room_for _ _ _ _ c.requires.ready in omega (arith, r))) c.answer.ensures.unsettled (c.answer.ensures.leaves ts n (answers_now g.H.Host.rules g.H.Host.leaves (seen_program c.args.code.now) ts (g.H.Host.left (g.H.Host.now c.resume.new.self).told) c.args.run.now.store c.args.run.now.current (stacked c.args.run.now.stack.items) _ _ (seen_step c.in-Ok.step) 0 c.requires.holds c.requires.ready c.in-Ok.ensures.functions (let r = c.in-Ok.ensures.room in omega (arith, r)) (let r = room_for _ _ _ _ c.requires.ready in omega (arith, r)) (c.in-Ok.ensures.open_tickets _ tk) c.in-Ok.ensures.few c.in-Ok.ensures.numbered) (few_come _ n _ (seen_step c.in-Ok.step) c.in-Ok.ensures.few e))

pub returns-in-Err-clause-leaves : goal.returns-in-Err-clause-leaves
returns-in-Err-clause-leaves g c = λ ts n tk e. refuses_resume g.H.Host.rules g.H.Host.leaves (seen_program c.args.code.now) ts (g.H.Host.left (g.H.Host.now c.resume.new.self).told) c.args.run.now.store c.args.run.now.current (stacked c.args.run.now.stack.items) _ _ c.args.ticket (seen_outcome c.args.outcome) n c.in-Err.stop c.in-Err.ensures.cause.failed c.in-Err.ensures.refused c.in-Err.ensures.leaves (ready_now g.H.Host.rules g.H.Host.leaves (seen_program c.args.code.now) ts (g.H.Host.left (g.H.Host.now c.resume.new.self).told) c.args.run.now.store c.args.run.now.current (stacked c.args.run.now.stack.items) _ _ 0 c.requires.ready c.in-Err.ensures.functions (let r = c.in-Err.ensures.room in omega (arith, r)) (let r = room_for _ _ _ _ c.requires.ready in omega (arith, r)))
