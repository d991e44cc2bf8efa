use Rattle.turn_rows.proofs.many.half_a_million_callbacks_are_called_once_each.Given as goal

-- The ledger is that of the new blank.
abbrev pub ghosts-counts : goal.ghosts-counts
ghosts-counts g a = record { name = a.blank.name; parts = a.blank.parts }
