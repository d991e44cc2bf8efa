use Rattle.turn_rows.proofs.judging.bytes_that_are_no_trace_are_refused_in_their_line.Given as goal

abbrev pub ghosts-judge_text : goal.ghosts-judge_text
ghosts-judge_text g a = record { name = a.blank.name; parts = a.blank.parts }
