use Rattle.std.proofs.Common.{◌∙◌}
use Rattle.lang_ast.specs.SeenProgram.{seen_program}
use Rattle.arrivals_text.specs.Seen.{settings_of}
use Rattle.host_jobs.specs.ToldTable.{closures_of}
use Rattle.trace_check.proofs.Unasked.{unqueued-table}
use Rattle.trace_check.proofs.OwnRuns.{held-is, replays-by}
use Rattle.trace_check.proofs.replaying.replay_choices.Goals as goal

pub run_page-ended-requires-clause-unqueued : goal.run_page-ended-requires-clause-unqueued
run_page-ended-requires-clause-unqueued g c = rw c.in-Ok.ensures.closures (unqueued-table c.args.hosts.now)

pub returns : goal.returns
returns g c = λ es choices.
    let run = c.run_page-ended.ensures.run in
    let made = c.in-Ok.ensures in
    let held = held-is es _ (made.clock ∙ choices.readings) (made.chooser ∙ choices.sources) (run.1 ∙ (made.answers ∙ choices.answers)) in
    replays-by (seen_program c.args.program.now) (settings_of c.args.setup.now).setup (closures_of c.args.hosts.now) es _ _ _ made.closures held run.2
