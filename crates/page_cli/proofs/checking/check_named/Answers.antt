use Rattle.page_cli.specs.Forms.{CheckForm}
use Rattle.page_cli.specs.Names.{check_names_seen}
use Rattle.page_cli.proofs.MissingLemmas.{all-there}
use Rattle.page_cli.proofs.checking.check_named.Goals as goal

pub returns-in-Ok-clause-missing : goal.returns-in-Ok-clause-missing
returns-in-Ok-clause-missing g c = all-there (g.F.Folder.IsMissing c.args.folder.now) _ (CheckForm (check_names_seen c.args.names)) c.in-Ok.ensures.missing

pub returns-in-Err-clause-missing : goal.returns-in-Err-clause-missing
returns-in-Err-clause-missing g c = rw c.unread.ensures c.in-Err.ensures.missing
