use Rattle.page_cli.proofs.storming.run_summary.Given as goal

-- The ledger is that of the new blank.
abbrev pub ghosts-run_counted : goal.ghosts-run_counted
ghosts-run_counted g a = record { name = a.blank.name; parts = a.blank.parts }
