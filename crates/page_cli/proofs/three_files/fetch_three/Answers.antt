use Rattle.std.proofs.Common.{List, ℕ, Option, Err, subst}
use Rattle.page_cli.specs.Refusals.{GivesFile}
use Rattle.page_cli.specs.ToldFiles.{OfFile}
use Rattle.page_cli.proofs.CheckLemmas.{unread-script, unread-arrivals}
use Rattle.page_cli.specs.Forms.{CheckForm}
use Rattle.page_cli.specs.Names.{check_names_seen}
use Rattle.page_cli.proofs.MissingLemmas.{script-missing, arrivals-missing, trace-missing, all-of-three}
use Rattle.page_cli.proofs.three_files.fetch_three.Goals as goal

pub returns-in-Err-clause-unread : goal.returns-in-Err-clause-unread
returns-in-Err-clause-unread g c = unread-script c.in-Err.fault _ _ _ c.in-Err.ensures.content

pub returns-in-Err-fetched-clause-unread : goal.returns-in-Err-fetched-clause-unread
returns-in-Err-fetched-clause-unread g c =
    let P : Option (List ℕ) → Type 0 = λ told. OfFile told (λ content. GivesFile 1048576 content (Err c.in-Err-fetched.fault)) in
    unread-arrivals c.in-Err-fetched.fault c.in-Ok.bytes _ _ _ c.in-Ok.ensures.size c.in-Ok.ensures.content (subst P (c.fetched.ensures.same _) c.in-Err-fetched.ensures.content)

pub returns-in-Err-clause-missing : goal.returns-in-Err-clause-missing
returns-in-Err-clause-missing g c = script-missing (g.F.Folder.IsMissing c.args.folder.now) c.in-Err.fault (CheckForm (check_names_seen c.args.names)) c.in-Err.ensures.missing

pub returns-in-Err-fetched-clause-missing : goal.returns-in-Err-fetched-clause-missing
returns-in-Err-fetched-clause-missing g c =
    arrivals-missing (g.F.Folder.IsMissing c.args.folder.now) c.in-Err-fetched.fault (CheckForm (check_names_seen c.args.names)) c.in-Ok.ensures.missing
    (λ gone. c.in-Err-fetched.ensures.missing (c.fetched.ensures.stays _ gone))

pub returns-in-Err-fetched-2-clause-missing : goal.returns-in-Err-fetched-2-clause-missing
returns-in-Err-fetched-2-clause-missing g c =
    trace-missing (g.F.Folder.IsMissing c.args.folder.now) c.in-Err-fetched-2.fault (CheckForm (check_names_seen c.args.names)) c.in-Ok.ensures.missing
    (λ gone. c.in-Ok-fetched.ensures.missing (c.fetched.ensures.stays _ gone))
    (λ gone. c.in-Err-fetched-2.ensures.missing (c.fetched-2.ensures.stays _ (c.fetched.ensures.stays _ gone)))

pub returns-in-Ok-fetched-2-clause-missing : goal.returns-in-Ok-fetched-2-clause-missing
returns-in-Ok-fetched-2-clause-missing g c =
    all-of-three (g.F.Folder.IsMissing c.args.folder.now) (check_names_seen c.args.names) c.in-Ok.ensures.missing
    (λ gone. c.in-Ok-fetched.ensures.missing (c.fetched.ensures.stays _ gone))
    (λ gone. c.in-Ok-fetched-2.ensures.missing (c.fetched-2.ensures.stays _ (c.fetched.ensures.stays _ gone)))
