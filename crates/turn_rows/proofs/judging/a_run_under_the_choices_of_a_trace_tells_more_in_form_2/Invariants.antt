use Rattle.turn_rows.proofs.judging.a_run_under_the_choices_of_a_trace_tells_more_in_form_2.Given as goal

abbrev pub ghosts-run_frames_again : goal.ghosts-run_frames_again
ghosts-run_frames_again g a = record { name = a.blank.name; parts = a.blank.parts }
