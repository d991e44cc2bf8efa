use Rattle.page_cli.proofs.AnswerLemmas.{told-script}
use Rattle.page_cli.specs.declared.names.Asked.TheVariants.{Run}
use Rattle.page_cli.specs.Names.{form_seen}
use Rattle.page_cli.proofs.MissingLemmas.{script-missing, arrivals-missing, all-of-two, all-there}
use Rattle.page_cli.proofs.main_call.run_named.Goals as goal

pub returns-in-Err-clause-answers : goal.returns-in-Err-clause-answers
returns-in-Err-clause-answers g c = rw (c.with.ensures, c.unread.ensures) (told-script _ c.in-Err.fault _ _ _ c.in-Err.ensures.content)

pub returns-in-Err-clause-missing : goal.returns-in-Err-clause-missing
returns-in-Err-clause-missing g c =
    rw (c.with.ensures, c.unread.ensures)
    (script-missing (g.F.Folder.IsMissing c.args.folder.now) c.in-Err.fault (form_seen (Run c.args.names)) c.in-Err.ensures.missing)

pub returns-in-Err-fetched-clause-missing : goal.returns-in-Err-fetched-clause-missing
returns-in-Err-fetched-clause-missing g c =
    rw (c.with-in-Err-fetched.ensures, c.unread-in-Err-fetched.ensures)
    (arrivals-missing (g.F.Folder.IsMissing c.args.folder.now) c.in-Err-fetched.fault (form_seen (Run c.args.names)) c.in-Ok.ensures.missing (λ gone. c.in-Err-fetched.ensures.missing (c.fetched.ensures.stays _ gone)))

pub returns-clause-missing : goal.returns-clause-missing
returns-clause-missing g c =
    all-there (g.F.Folder.IsMissing c.args.folder.now) _ (form_seen (Run c.args.names))
    (all-of-two (g.F.Folder.IsMissing c.args.folder.now) _ c.in-Ok.ensures.missing (λ gone. c.in-Ok-fetched.ensures.missing (c.fetched.ensures.stays _ gone)))
