use Rattle.std.proofs.Common.{refl, sym, subst}
use Rattle.page_model.specs.ChoicesAreData.{HasEnded, with_left, no_choices}
use Rattle.page_model.specs.PageTrace.{EndsWith}
use Rattle.page_model.specs.Turns.{Turned, GoesOn, Ended, Stuck, run_by, events_of_run}
use Rattle.page_model.proofs.ChosenAlone.Replaying.{run-again}
use Rattle.page_model.proofs.choices.choices_are_data.Goals as goal

pub returns-clause-again : goal.returns-clause-again
returns-clause-again g c = λ program setup hosts held. run-again g.R.Choosing.rules program setup hosts held

ends_with-own : {C D : Type 0} (d : D) (t : Turned C) → HasEnded t → EndsWith (events_of_run t) (with_left d t)
ends_with-own d (GoesOn m c) h = absurd h
ends_with-own d (Ended end m c) h = refl
ends_with-own d (Stuck at m c) h = absurd h

pub returns-clause-legal : goal.returns-clause-legal
returns-clause-legal g c = λ program setup hosts held ended.
    let t = run_by g.R.Choosing.rules program setup hosts held in
    subst (EndsWith (events_of_run t)) (sym (run-again g.R.Choosing.rules program setup hosts held)) (ends_with-own no_choices t ended)
