use Rattle.turn_rows.proofs.row.drive.Given as goal

-- The ledger is that of the new blank.
abbrev pub ghosts-drive_over : goal.ghosts-drive_over
ghosts-drive_over g a = record { name = a.blank.name; parts = a.blank.parts }
