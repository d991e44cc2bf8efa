use Rattle.pool_rows.proofs.rooms.a_removal_gives_back_what_an_insert_took.Given as goal

abbrev pub ghosts-reserved : goal.ghosts-reserved
ghosts-reserved g a = record { name = a.blank.name; parts = a.blank.parts }
