use Rattle.promise_core.specs.Seen.{settled_seen}
use Rattle.page_model.specs.PagePromises.{settle}
use Rattle.page_model.specs.PageSignals.{unwatch}
use Rattle.page_model.proofs.Adding.Lines.{unwatch-adds}
use Rattle.page_state.proofs.Acting.{Does-leave}
use Rattle.page_host.proofs.TaskEnds.{Does-unwatched}
use Rattle.page_host.proofs.sched_tasks.post_over_in.Goals as goal

pub returns-in_err-settle : goal.returns-in_err-settle
returns-in_err-settle g c =
    Does-leave (settle c.args.promise (settled_seen c.args.how)) (unwatch c.args.r) _ (λ es. unwatch-adds es c.args.r) c.from_residual.ensures.1 c.in_err-settle.ensures

pub returns : goal.returns
returns g c = Does-unwatched (settle c.args.promise (settled_seen c.args.how)) c.args.r c.args.state.now c.settle.new.self _ c.in_ok-settle.ensures c.unwatch.ensures
