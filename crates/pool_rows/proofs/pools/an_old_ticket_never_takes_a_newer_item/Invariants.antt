use Rattle.pool_rows.proofs.pools.an_old_ticket_never_takes_a_newer_item.Given as goal

abbrev pub ghosts-two_lists : goal.ghosts-two_lists
ghosts-two_lists g a = record { name = a.blank.name; parts = a.blank.parts }
