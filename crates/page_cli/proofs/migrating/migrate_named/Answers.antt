use Rattle.page_cli.specs.Forms.{MigrateForm}
use Rattle.page_cli.specs.Names.{check_names_seen}
use Rattle.page_cli.proofs.MissingLemmas.{all-there, all-migrated, missing-migrated}
use Rattle.page_cli.proofs.migrating.migrate_named.Goals as goal

pub returns-in-Ok-clause-missing : goal.returns-in-Ok-clause-missing
returns-in-Ok-clause-missing g c =
    let names = check_names_seen c.args.names in
    all-there (g.F.Folder.IsMissing c.args.folder.now) _ (MigrateForm names) (all-migrated (g.F.Folder.IsMissing c.args.folder.now) names c.in-Ok.ensures.missing)

pub returns-in-Err-clause-missing : goal.returns-in-Err-clause-missing
returns-in-Err-clause-missing g c = rw c.unread.ensures (missing-migrated (g.F.Folder.IsMissing c.args.folder.now) _ (check_names_seen c.args.names) c.in-Err.ensures.missing)
