use Rattle.page_cli.proofs.running.run_program.Given as goal

-- The ledger is that of the new blank.
abbrev pub ghosts-run_in : goal.ghosts-run_in
ghosts-run_in g a = record { name = a.blank.name; parts = a.blank.parts }
