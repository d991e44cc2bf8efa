use Rattle.pool_rows.proofs.rooms.an_old_name_never_finds_a_newer_item.Given as goal

abbrev pub ghosts-named : goal.ghosts-named
ghosts-named g a = record { name = a.blank.name; parts = a.blank.parts }
