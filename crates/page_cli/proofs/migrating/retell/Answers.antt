use Rattle.std.proofs.Common.{refl}
use Rattle.host_jobs.specs.ToldTable.{closures_of}
use Rattle.lang_ast.specs.SeenProgram.{seen_program}
use Rattle.arrivals_text.specs.Seen.{settings_of}
use Rattle.trace_check.specs.Verdicts.{own_run}
use Rattle.page_model.specs.PageTrace.{told_more}
use Rattle.page_cli.proofs.OwnChoices.{migrated-ends}
use Rattle.page_cli.proofs.MigrateLemmas.{lines-migrated, lines-stop}
use Rattle.page_cli.proofs.migrating.retell.Goals as goal

pub returns-clause-answers : goal.returns-clause-answers
returns-clause-answers g c = λ es choices legal.
    rw (c.retold.ensures, c.into_sink.ensures)
    (lines-migrated (seen_program c.args.page.program) (settings_of c.args.page.setup).setup (closures_of c.args.hosts.now) es c.replay_in-replayed.result.outcome (c.replay_in-replayed.ensures es choices))

pub retold-requires : goal.retold-requires
retold-requires g c =
    let setup = (settings_of c.args.page.setup).setup in
    let limits = c.args.page.setup.has_trace in
    let legal = c.requires.legal in
    let ended = migrated-ends (seen_program c.args.page.program) setup (closures_of c.args.hosts.now) legal.events legal.is_legal limits.0 limits.1 in
    lines-stop 2 (own_run (seen_program c.args.page.program) (told_more setup) (closures_of c.args.hosts.now) legal.events) c.replay_in-replayed.result.outcome (c.replay_in-replayed.ensures legal.events legal.choices_are) refl refl ended
