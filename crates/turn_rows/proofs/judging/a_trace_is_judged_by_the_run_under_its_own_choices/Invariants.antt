use Rattle.turn_rows.proofs.judging.a_trace_is_judged_by_the_run_under_its_own_choices.Given as goal

abbrev pub ghosts-judge : goal.ghosts-judge
ghosts-judge g a = record { name = a.blank.name; parts = a.blank.parts }

abbrev pub ghosts-judge_text : goal.ghosts-judge_text
ghosts-judge_text g a = record { name = a.blank.name; parts = a.blank.parts }
