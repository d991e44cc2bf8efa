use Rattle.host_jobs.specs.ToldTable.{closures_of}
use Rattle.page_cli.proofs.CheckLemmas.{files-refused, text-refused}
use Rattle.page_cli.proofs.MigrateLemmas.{refused-migrate, text-answers}
use Rattle.page_cli.proofs.migrating.migrate_files.Goals as goal

pub returns-in-Err-clause-answers : goal.returns-in-Err-clause-answers
returns-in-Err-clause-answers g c =
    let refused = rw (c.deref.ensures.value, c.deref-2.ensures.value) at c.in-Err.ensures.refused in
    refused-migrate _ _ _ _ _ _ c.requires (files-refused _ _ _ _ refused)

pub returns-in-Ok-Yes-clause-answers : goal.returns-in-Ok-Yes-clause-answers
returns-in-Ok-Yes-clause-answers g c =
    let run = rw (c.deref.ensures.value, c.deref-2.ensures.value) at c.in-Ok.ensures.found in
    let told = rw c.deref-in-Ok-Yes.ensures.value at c.retell_text.ensures.answers in
    text-answers _ _ _ _ _ _ _ _ _ run c.requires.2 told

pub returns-in-Err-judge-clause-answers : goal.returns-in-Err-judge-clause-answers
returns-in-Err-judge-clause-answers g c =
    let run = rw (c.deref.ensures.value, c.deref-2.ensures.value) at c.in-Ok.ensures.found in
    let refused = rw c.deref-3.ensures.value at c.in-Err-judge.ensures.refused in
    refused-migrate _ _ _ _ _ _ c.requires (text-refused _ _ _ (closures_of c.args.hosts.now) _ _ run _ refused)
