use Rattle.std.proofs.Common.{refl, sym, ◌∙◌, true, false}
use Rattle.page_types.specs.Events.{Due}
use Rattle.page_model.specs.State.{emit}
use Rattle.page_model.specs.SchedulerTasks.{enqueue}
use Rattle.page_tasks.specs.Seen.{prio_source}
use Rattle.page_state.proofs.Acting.{Does-next, Does-leave}
use Rattle.page_state.proofs.Items.{post_rest, post_rest-adds, Does-post}
use Rattle.page_state.proofs.state.PageState.complete_post.Goals as goal

pub returns-in_err-emit : goal.returns-in_err-emit
returns-in_err-emit g c =
    let r = c.args.registration in
    let source = prio_source c.args.source in
    let b = c.is_registration_aborted-is_aborted.result in
    Does-post b r source c.args.self.now c.is_registration_aborted-is_aborted.ensures
    (Does-leave (emit (Due r)) (post_rest b r source) _ (post_rest-adds b r source) c.from_residual.ensures.1 c.in_err-emit.ensures)

pub returns-then-is_aborted : goal.returns-then-is_aborted
returns-then-is_aborted g c =
    Does-post true c.args.registration (prio_source c.args.source) c.args.self.now (sym c.if-is_aborted.true ∙ c.is_registration_aborted-is_aborted.ensures) c.in_ok-emit.ensures

pub returns : goal.returns
returns g c =
    let r = c.args.registration in
    let source = prio_source c.args.source in
    Does-post false r source c.args.self.now (sym c.if-is_aborted.false ∙ c.is_registration_aborted-is_aborted.ensures)
    (Does-next (emit (Due r)) (enqueue r source false) (λ es p. refl) c.in_ok-emit.ensures c.enqueue.ensures)
