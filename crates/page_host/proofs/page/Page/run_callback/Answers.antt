use Rattle.std.proofs.Common.{false, map}
use Rattle.page_values.specs.Seen.{seen}
use Rattle.page_model.specs.Invoke.{in_task, invoke}
use Rattle.page_host.proofs.TaskRuns.{ran-did}
use Rattle.page_host.proofs.page.Page.run_callback.Goals as goal

pub returns : goal.returns
returns g c = ran-did (λ call. invoke (in_task call) c.args.r false (map seen c.args.args.items)) c.in_ok-ran.ran c.did_of.result c.did_of.ensures c.in_ok-ran.ensures
