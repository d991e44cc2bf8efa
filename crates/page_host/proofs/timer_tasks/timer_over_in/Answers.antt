use Rattle.std.proofs.Common.{sym, refl, ◌∙◌, Some, rules}
use Rattle.std.proofs.lemmas.Int.{to_z-of_z}
use mir.Syntax.{w64}
use mir.Val.{SFits}
use Rattle.page_tasks.specs.Seen.{timer_task}
use Rattle.page_model.specs.PageTime.{init_timer, clear_id}
use Rattle.page_state.specs.Standing.{page_of}
use Rattle.page_state.specs.PageActs.{at}
use Rattle.page_state.proofs.Acting.{Does-is, Does-idle, Does-silent}
use Rattle.page_host.specs.Tasking.{timer_over}
use Rattle.page_host.proofs.TimerSteps.{over-dead, over-again, over-cleared}
use Rattle.page_host.proofs.timer_tasks.timer_over_in.Goals as goal

pub returns-then-not-is_live : goal.returns-then-not-is_live
returns-then-not-is_live g c =
    let s = c.args.state.now in
    let t = timer_task c.args.task in
    Does-is (λ p. p) (timer_over t) (at s _) (over-dead t (page_of s) (sym c.is_live.ensures ∙ c.if-not-is_live.true)) (Does-idle g.L.Lines.keeping s _)

pub returns-then-task : goal.returns-then-task
returns-then-task g c =
    let s = c.args.state.now in
    let t = timer_task c.args.task in
    let fits : SFits w64 c.args.task.timeout = search rules in
    Does-is (init_timer (Some t.id) t.registration t.repeats t.timeout) (timer_over t) (at s _) (over-again t (page_of s) (sym c.is_live.ensures ∙ c.if-not-is_live.false) c.if-task.true)
    (rw (to_z-of_z w64 c.args.task.timeout fits) at c.init_timer.ensures)

pub returns : goal.returns
returns g c =
    let s = c.args.state.now in
    let t = timer_task c.args.task in
    Does-is (clear_id t.id) (timer_over t) (at s _) (over-cleared t (page_of s) (sym c.is_live.ensures ∙ c.if-not-is_live.false) c.if-task.false)
    (Does-silent g.L.Lines.keeping (clear_id t.id) s _ refl c.clear_id.ensures)
