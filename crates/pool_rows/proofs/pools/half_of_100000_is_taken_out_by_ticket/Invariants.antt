use Rattle.pool_rows.proofs.pools.half_of_100000_is_taken_out_by_ticket.Given as goal

abbrev pub ghosts-scattered : goal.ghosts-scattered
ghosts-scattered g a = record { name = a.blank.name; parts = a.blank.parts }
