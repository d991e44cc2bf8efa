use Rattle.promise_combine.proofs.combine.silent_rows.Goals as goal

pub returns-clause-marks : goal.returns-clause-marks
returns-clause-marks c = c.in_ok-reported.ensures.items_if_clones_equal (λ y same. same)
