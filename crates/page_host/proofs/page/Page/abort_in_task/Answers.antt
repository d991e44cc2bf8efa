use Rattle.std.proofs.Common.{◌∙◌}
use Rattle.page_values.specs.Seen.{seen}
use Rattle.page_parts.specs.AbortGraph.{marked}
use Rattle.page_model.specs.State.{Page}
use Rattle.page_host.proofs.Calm.{reason_set-calm}
use Rattle.page_host.proofs.TaskRuns.{ready-after}
use Rattle.page_host.proofs.ListenerSteps.{abort-begun, abort-exit}
use Rattle.page_host.proofs.page.Page.abort_in_task.Goals as goal

pub reason_set-requires : goal.reason_set-requires
reason_set-requires g c = c.requires.running

pub abort_each-requires : goal.abort_each-requires
abort_each-requires g c = ready-after c.args.machine.now (λ (q : Page). (reason_set-calm (seen c.args.reason) (marked c.args.s q.signals) q).now) c.in_ok-signals.ensures.does c.requires

pub returns-in_err-signals : goal.returns-in_err-signals
returns-in_err-signals g c = abort-exit c.args.s (seen c.args.reason) c.from_residual.result c.from_residual.ensures.1 c.in_err-signals.ensures.does

pub returns : goal.returns
returns g c = abort-begun c.args.s (seen c.args.reason) c.deref.result.now (c.deref.ensures.value ∙ c.in_ok-signals.ensures.signals) c.in_ok-signals.ensures.does c.abort_each.ensures
