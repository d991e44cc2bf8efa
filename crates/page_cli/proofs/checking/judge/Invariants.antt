use Rattle.page_cli.proofs.checking.judge.Given as goal

-- The ledger is that of the new blank.
abbrev pub ghosts-judge_in : goal.ghosts-judge_in
ghosts-judge_in g a = record { name = a.blank.name; parts = a.blank.parts }
