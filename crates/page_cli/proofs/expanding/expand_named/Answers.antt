use Rattle.page_cli.proofs.MissingLemmas.{script-missing, script-there, all-there}
use Rattle.page_cli.specs.Forms.{ExpandForm}
use Rattle.page_cli.proofs.expanding.expand_named.Goals as goal

pub returns-in-Ok-clause-missing : goal.returns-in-Ok-clause-missing
returns-in-Ok-clause-missing g c =
    all-there (g.F.Folder.IsMissing c.args.folder.now) _ (ExpandForm c.args.script.now) (script-there (g.F.Folder.IsMissing c.args.folder.now) _ c.in-Ok.ensures.missing)

pub returns-in-Err-clause-missing : goal.returns-in-Err-clause-missing
returns-in-Err-clause-missing g c = rw c.unread.ensures (script-missing (g.F.Folder.IsMissing c.args.folder.now) c.in-Err.fault (ExpandForm c.args.script.now) c.in-Err.ensures.missing)
