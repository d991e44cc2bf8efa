use Rattle.std.proofs.Common.{refl, ap, Ok, Err, map}
use Rattle.std.proofs.lemmas.Result.{err_from_is_err_and}
use Rattle.page_values.specs.Seen.{seen, seen_func}
use Rattle.lang_ast.specs.Steps.{seen_step}
use Rattle.lang_ast.specs.SeenProgram.{seen_program}
use Rattle.page_interp.specs.Frames.{stacked, tickets_in}
use Rattle.page_interp.proofs.Steps.{still}
use Rattle.page_interp.proofs.AskSteps.{leaves_trans}
use Rattle.page_interp.proofs.HostTurns.{answered_first, answered_more, calls_fall, value_advances, throw_advances, push_fails, open_leaves, wants_unsettled, refuses_callback}
use Rattle.page_interp.proofs.StackClauses.{opens_at}
use Rattle.page_interp.proofs.asking.answer.Goals as goal

pub loop-step-init : goal.loop-step-init
loop-step-init g c = record { answered = answered_first _ _ _ _ _ _ _; run = refl }

pub returns-in-Value-clause-leaves : goal.returns-in-Value-clause-leaves
returns-in-Value-clause-leaves g c = rw (← c.loop-step.invariant.run) (λ ts n k e. let x = c.loop-step.invariant.answered.further ts n k e in let b = c.loop-step.invariant.answered.kept ts k in leaves_trans g.H.Host.rules g.H.Host.leaves (seen_program c.args.code.now) ts _ _ 2 _ _ _ (Ok _) _ _ _ _ x.asks tt (value_advances g.H.Host.rules g.H.Host.leaves (seen_program c.args.code.now) ts (g.H.Host.left (g.H.Host.now c.loop-step.host).told) c.loop-step.run.store c.loop-step.run.current (stacked c.loop-step.run.stack.items) _ _ c.in-Value.v x.number (ap seen_step c.in-Value.is) b))

pub returns-in-Throw-clause-leaves : goal.returns-in-Throw-clause-leaves
returns-in-Throw-clause-leaves g c = rw (← c.loop-step.invariant.run) (λ ts n k e. let x = c.loop-step.invariant.answered.further ts n k e in let b = c.loop-step.invariant.answered.kept ts k in leaves_trans g.H.Host.rules g.H.Host.leaves (seen_program c.args.code.now) ts _ _ 2 _ _ _ (Ok _) _ _ _ _ x.asks tt (throw_advances g.H.Host.rules g.H.Host.leaves (seen_program c.args.code.now) ts (g.H.Host.left (g.H.Host.now c.loop-step.host).told) c.loop-step.run.store c.loop-step.run.current (stacked c.loop-step.run.stack.items) _ _ c.in-Throw.v x.number (ap seen_step c.in-Throw.is) b))

pub returns-in_err-push-in-Ok-clause-leaves : goal.returns-in_err-push-in-Ok-clause-leaves
returns-in_err-push-in-Ok-clause-leaves g c = let q = err_from_is_err_and c.from_residual.result c.from_residual.ensures.1 in rw (q.1, q.2, c.in_err-push-in-Ok.ensures.err) (rw (← c.loop-step.invariant.run) (λ ts n k e. let x = c.loop-step.invariant.answered.further ts n k e in let b = c.loop-step.invariant.answered.kept ts k in leaves_trans g.H.Host.rules g.H.Host.leaves (seen_program c.args.code.now) ts _ _ 2 _ _ _ (Err _) _ _ c.loop-step.run.current (stacked c.loop-step.run.stack.items) x.asks tt (push_fails g.H.Host.rules g.H.Host.leaves (seen_program c.args.code.now) ts (g.H.Host.left (g.H.Host.now c.loop-step.host).told) c.loop-step.run.store c.loop-step.run.current (stacked c.loop-step.run.stack.items) _ _ x.number c.loop-step.run.store b refl (still c.loop-step.run.store.fuel))))

pub returns-in_err-all-in-Ok-clause-leaves : goal.returns-in_err-all-in-Ok-clause-leaves
returns-in_err-all-in-Ok-clause-leaves g c = let q = err_from_is_err_and c.from_residual-in_err-all-in-Ok.result c.from_residual-in_err-all-in-Ok.ensures.1 in rw (q.1, q.2) (rw (← c.loop-step.invariant.run) (λ ts n k e. let x = c.loop-step.invariant.answered.further ts n k e in let b = c.loop-step.invariant.answered.kept ts k in leaves_trans g.H.Host.rules g.H.Host.leaves (seen_program c.args.code.now) ts _ _ 2 _ _ _ (Err _) _ _ c.loop-step.run.current (stacked c.loop-step.run.stack.items) x.asks tt (push_fails g.H.Host.rules g.H.Host.leaves (seen_program c.args.code.now) ts (g.H.Host.left (g.H.Host.now c.loop-step.host).told) c.loop-step.run.store c.loop-step.run.current (stacked c.loop-step.run.stack.items) _ _ x.number c.loop-step.run.store b refl (still c.loop-step.run.store.fuel))))

pub returns-in-Ok-clause-unsettled : goal.returns-in-Ok-clause-unsettled
returns-in-Ok-clause-unsettled g c = wants_unsettled _ _ c.open.ensures.err

pub returns-in-Ok-clause-leaves : goal.returns-in-Ok-clause-leaves
returns-in-Ok-clause-leaves g c = rw (← c.loop-step.invariant.run) (λ ts n k e. let x = c.loop-step.invariant.answered.further ts n k e in let b = c.loop-step.invariant.answered.kept ts k in leaves_trans g.H.Host.rules g.H.Host.leaves (seen_program c.args.code.now) ts _ _ 2 _ _ _ _ _ _ _ _ x.asks (wants_unsettled _ _ c.open.ensures.err) (open_leaves g.H.Host.rules g.H.Host.leaves (seen_program c.args.code.now) ts (g.H.Host.left (g.H.Host.now c.loop-step.host).told) c.loop-step.run.store c.loop-step.run.current (stacked c.loop-step.run.stack.items) _ _ _ _ _ _ (seen_func c.in-Ok.called) x.number _ _ _ _ (ap seen_step c.in-Invoke.is) b x.enough c.in-Ok.ensures.ok c.in-Ok.ensures.room c.in_ok-all-in-Ok.ensures (opens_at g.H.Host.rules c.args.code.now _ c.in_ok-all-in-Ok.all _ (record c.loop-step.run { stack = c.push.new.stack }) c.open.new.run _ c.in_ok-push-in-Ok.ensures.pushed c.open.ensures.ok) c.open.ensures.err c.open.ensures.globals c.open.ensures.fuel))

pub resume-requires-clause-open_ticket : goal.resume-requires-clause-open_ticket
resume-requires-clause-open_ticket g c = let k = rw (← c.loop-step.invariant.run) at c.requires.answering.1 in let b = c.loop-step.invariant.answered.kept c.requires.answering.0 k in (tickets_in (stacked c.loop-step.run.stack.items) c.requires.answering.0, rw (ap seen_step c.in-Invoke.is) at b.tickets)

pub resume-requires-clause-numbered : goal.resume-requires-clause-numbered
resume-requires-clause-numbered g c = rw c.fault.ensures tt

pub returns-in-Err-resume-clause-leaves : goal.returns-in-Err-resume-clause-leaves
returns-in-Err-resume-clause-leaves g c = rw (← c.loop-step.invariant.run) (λ ts n k e. let x = c.loop-step.invariant.answered.further ts n k e in let b = c.loop-step.invariant.answered.kept ts k in leaves_trans g.H.Host.rules g.H.Host.leaves (seen_program c.args.code.now) ts _ _ 2 _ _ _ (Err _) _ _ c.loop-step.run.current (stacked c.loop-step.run.stack.items) x.asks tt (refuses_callback g.H.Host.rules g.H.Host.leaves (seen_program c.args.code.now) ts (g.H.Host.left (g.H.Host.now c.loop-step.host).told) c.loop-step.run.store c.loop-step.run.current (stacked c.loop-step.run.stack.items) _ _ _ (seen c.in-Invoke.callback) (map seen c.in-Invoke.args.items) c.in-Invoke.ticket _ c.in-Err.name x.number c.in-Err-resume.stop (ap seen_step c.in-Invoke.is) b x.enough refl c.in-Err.ensures.err c.in-Err-resume.ensures.cause.failed c.in-Err-resume.ensures.refused (rw c.fault.ensures at c.in-Err-resume.ensures.leaves) c.in-Err-resume.ensures.functions c.in-Err-resume.ensures.room))

pub loop-step-smaller : goal.loop-step-smaller
loop-step-smaller g c = calls_fall (g.H.Host.left (g.H.Host.now c.loop-step.host).told) (g.H.Host.left (g.H.Host.now c.resume.new.self).told) (seen_step c.loop-step.step) (seen_step c.in-Ok-resume.next) (seen c.in-Invoke.callback) (map seen c.in-Invoke.args.items) c.in-Invoke.ticket (ap seen_step c.in-Invoke.is) c.in-Ok-resume.ensures.falls

pub loop-step-preserved : goal.loop-step-preserved
loop-step-preserved g c = record { answered = answered_more g.H.Host.rules g.H.Host.leaves (seen_program c.args.code.now) g.H.Host.left _ _ _ _ _ _ (seen_step c.in-Ok-resume.next) (seen c.in-Invoke.callback) (map seen c.in-Invoke.args.items) c.in-Invoke.ticket _ c.in-Err.name (ap seen_step c.in-Invoke.is) refl c.in-Err.ensures.err c.loop-step.invariant.answered (rw c.fault.ensures at c.in-Ok-resume.ensures.rule) c.in-Ok-resume.ensures.no_refusal c.in-Ok-resume.ensures.functions c.in-Ok-resume.ensures.room c.in-Ok-resume.ensures.open_tickets c.in-Ok-resume.ensures.few c.in-Ok-resume.ensures.numbered c.in-Ok-resume.ensures.falls; run = c.loop-step.invariant.run }
