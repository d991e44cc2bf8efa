use Rattle.std.proofs.Common.{refl}
use Rattle.host_jobs.specs.ToldTable.{closures_of}
use Rattle.lang_ast.specs.SeenProgram.{seen_program}
use Rattle.arrivals_text.specs.Seen.{settings_of}
use Rattle.page_cli.proofs.RunLemmas.{run-wrote}
use Rattle.trace_check.proofs.Unasked.{unqueued-table}
use Rattle.page_cli.proofs.running.run_in.Goals as goal

pub run_page-requires-clause-unqueued : goal.run_page-requires-clause-unqueued
run_page-requires-clause-unqueued g c = unqueued-table c.args.table

pub returns-clause-wrote : goal.returns-clause-wrote
returns-clause-wrote g c =
    let does = rw (c.new-lines.ensures, c.new-clock.ensures, c.new-chooser.ensures, c.requires.late) at c.run_page.ensures.run in
    run-wrote (seen_program c.args.program.now) (settings_of c.args.setup.now).setup (closures_of c.args.table) does.0 c.run_page.result.outcome refl does.2
