use Rattle.std.proofs.Common.{◌≡◌, ◌∙◌}
use Rattle.host_jobs.specs.ToldTable.{closures_of}
use Rattle.lang_ast.specs.SeenProgram.{seen_program}
use Rattle.arrivals_text.specs.Seen.{settings_of}
use Rattle.page_cli.proofs.StormLemmas.{run-summarised}
use Rattle.trace_check.proofs.Unasked.{unqueued-table}
use Rattle.page_cli.proofs.storming.run_counted.Goals as goal

pub run_page-ended-requires-clause-unqueued : goal.run_page-ended-requires-clause-unqueued
run_page-ended-requires-clause-unqueued g c = rw c.in-Ok-new.ensures (unqueued-table c.args.hosts.now)

pub returns-in-Ok-outcome : goal.returns-in-Ok-outcome
returns-in-Ok-outcome g c =
    let late : c.in-Ok.late.items ≡ c.args.page.now.setup.late.items = c.in-Ok.ensures.items_if_clones_equal (λ x y same. same) ∙ c.deref.ensures.value in
    let does = rw (c.new-clock.ensures, c.new-chooser.ensures, late, c.in-Ok-new.ensures, c.new.ensures.items, c.new-3.ensures, c.in-Ok-outcome.is) at c.run_page-ended.ensures.run in
    run-summarised (seen_program c.args.page.now.program) (settings_of c.args.page.now.setup).setup (closures_of c.args.hosts.now) c.summary.result c.args.page.now.setup.trace does.0 does.1 does.2 c.summary.ensures
