use Rattle.page_cli.proofs.migrating.retell.Given as goal

-- The ledger is that of the new blank.
abbrev pub ghosts-replay_in : goal.ghosts-replay_in
ghosts-replay_in g a = record { name = a.blank.name; parts = a.blank.parts }
