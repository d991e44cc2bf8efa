use Rattle.std.proofs.Common.{ap, ◌∙◌, arith, ◌+◌, ◌*◌, ◌^◌, map}
use Rattle.page_values.specs.Seen.{seen}
use Rattle.lang_meaning.specs.HostSteps.{is_busy}
use Rattle.lang_ast.specs.Steps.{seen_step, room_taken, tickets_after}
use Rattle.lang_ast.specs.SeenProgram.{seen_program}
use Rattle.page_interp.specs.Frames.{stacked}
use Rattle.page_interp.proofs.Calls.{functions_for}
use Rattle.page_interp.proofs.HostTurns.{few_come, answers_now, ready_now, op_leaves, op_refused}
use Rattle.page_interp.proofs.asking.ask_host.Goals as goal

pub op-requires-clause-numbered : goal.op-requires-clause-numbered
op-requires-clause-numbered g c = rw (functions_for _ _ _ _ c.requires.stood.1.ready) c.requires.args

pub op-requires-clause-room : goal.op-requires-clause-room
op-requires-clause-room g c = let r = c.requires.room in omega (arith, r)

pub answer-requires : goal.answer-requires
answer-requires g c = record { answering = (c.requires.stood.0, (answers_now g.H.Host.rules g.H.Host.leaves (seen_program c.args.code.now) c.requires.stood.0 (g.H.Host.left (g.H.Host.now c.op.new.self).told) c.args.run.now.store c.args.run.now.current (stacked c.args.run.now.stack.items) _ _ (seen_step c.in-Ok.step) (room_taken (is_busy c.args.op)) c.requires.stood.1.holds c.requires.stood.1.ready c.in-Ok.ensures.functions c.in-Ok.ensures.room c.requires.room (c.in-Ok.ensures.open_tickets ∙ ap (tickets_after (seen_step c.in-Ok.step)) c.requires.stood.1.tickets) c.in-Ok.ensures.few c.in-Ok.ensures.numbered)) }

pub returns-in-Ok-clause-leaves : goal.returns-in-Ok-clause-leaves
returns-in-Ok-clause-leaves g c = λ ts st. op_leaves g.H.Host.rules g.H.Host.leaves (seen_program c.args.code.now) ts (g.H.Host.left (g.H.Host.now c.op.new.self).told) c.args.run.now.store c.args.run.now.current (stacked c.args.run.now.stack.items) _ _ (seen_step c.in-Ok.step) c.args.op (map seen c.args.args.items) _ _ _ _ _ c.in-Ok.ensures.rule c.in-Ok.ensures.no_refusal st.ready (ready_now g.H.Host.rules g.H.Host.leaves (seen_program c.args.code.now) ts (g.H.Host.left (g.H.Host.now c.op.new.self).told) c.args.run.now.store c.args.run.now.current (stacked c.args.run.now.stack.items) _ _ (room_taken (is_busy c.args.op)) st.ready c.in-Ok.ensures.functions c.in-Ok.ensures.room c.requires.room) c.answer.ensures.unsettled (c.answer.ensures.leaves ts (c.args.run.now.store.fuel * (2 ^ 64) + (2 ^ 64)) (answers_now g.H.Host.rules g.H.Host.leaves (seen_program c.args.code.now) ts (g.H.Host.left (g.H.Host.now c.op.new.self).told) c.args.run.now.store c.args.run.now.current (stacked c.args.run.now.stack.items) _ _ (seen_step c.in-Ok.step) (room_taken (is_busy c.args.op)) st.holds st.ready c.in-Ok.ensures.functions c.in-Ok.ensures.room c.requires.room (c.in-Ok.ensures.open_tickets ∙ ap (tickets_after (seen_step c.in-Ok.step)) st.tickets) c.in-Ok.ensures.few c.in-Ok.ensures.numbered) (few_come _ _ _ (seen_step c.in-Ok.step) c.in-Ok.ensures.few (omega arith)))

pub returns-in-Err-clause-leaves : goal.returns-in-Err-clause-leaves
returns-in-Err-clause-leaves g c = λ ts st. op_refused g.H.Host.rules g.H.Host.leaves (seen_program c.args.code.now) ts (g.H.Host.left (g.H.Host.now c.op.new.self).told) c.args.run.now.store c.args.run.now.current (stacked c.args.run.now.stack.items) _ _ c.args.op (map seen c.args.args.items) c.in-Err.stop c.in-Err.ensures.cause.failed c.in-Err.ensures.refused c.in-Err.ensures.leaves st.ready (ready_now g.H.Host.rules g.H.Host.leaves (seen_program c.args.code.now) ts (g.H.Host.left (g.H.Host.now c.op.new.self).told) c.args.run.now.store c.args.run.now.current (stacked c.args.run.now.stack.items) _ _ (room_taken (is_busy c.args.op)) st.ready c.in-Err.ensures.functions c.in-Err.ensures.room c.requires.room)
