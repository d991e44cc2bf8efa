use Rattle.pool_rows.proofs.rooms.each_access_is_counted_in_the_book.Given as goal

abbrev pub ghosts-counted : goal.ghosts-counted
ghosts-counted g a = record { name = a.blank.name; parts = a.blank.parts }
