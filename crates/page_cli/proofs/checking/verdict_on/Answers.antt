use Rattle.host_jobs.specs.ToldTable.{closures_of}
use Rattle.page_cli.proofs.CheckLemmas.{verdict-on, refused-on}
use Rattle.page_cli.proofs.checking.verdict_on.Goals as goal

pub returns-in-Ok-clause-found : goal.returns-in-Ok-clause-found
returns-in-Ok-clause-found g c =
    let run = rw (c.deref.ensures.value, c.deref-2.ensures.value) at c.in-Ok.ensures.found in
    verdict-on _ _ _ _ _ _ run _ c.requires.2 (rw c.deref-in-Ok.ensures.value at c.judge.ensures.found)

pub returns-in-Ok-clause-refused : goal.returns-in-Ok-clause-refused
returns-in-Ok-clause-refused g c =
    let run = rw (c.deref.ensures.value, c.deref-2.ensures.value) at c.in-Ok.ensures.found in
    refused-on _ _ _ (closures_of c.args.hosts.now) _ _ run _ (rw c.deref-in-Ok.ensures.value at c.judge.ensures.refused)
