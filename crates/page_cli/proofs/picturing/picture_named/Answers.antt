use Rattle.page_cli.proofs.MissingLemmas.{picture-missing, picture-there, all-there}
use Rattle.page_cli.specs.Forms.{PictureForm}
use Rattle.page_cli.proofs.picturing.picture_named.Goals as goal

pub returns-in-Ok-clause-missing : goal.returns-in-Ok-clause-missing
returns-in-Ok-clause-missing g c =
    all-there (g.F.Folder.IsMissing c.args.folder.now) _ (PictureForm c.args.what c.args.trace.now) (picture-there (g.F.Folder.IsMissing c.args.folder.now) _ _ c.in-Ok.ensures.missing)

pub returns-in-Err-clause-missing : goal.returns-in-Err-clause-missing
returns-in-Err-clause-missing g c = rw c.unread.ensures (picture-missing (g.F.Folder.IsMissing c.args.folder.now) c.in-Err.fault c.args.what c.args.trace.now c.in-Err.ensures.missing)
