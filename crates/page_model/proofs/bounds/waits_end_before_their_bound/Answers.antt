use Rattle.std.proofs.Common.{suc, refl}
use Rattle.page_model.specs.Turns.{first_state, run_by}
use Rattle.page_model.proofs.Bounding.Waiting.{turn-agree, from_greater}
use Rattle.page_model.proofs.Bounding.CountedTurns.{row-agree}
use Rattle.page_model.proofs.bounds.waits_end_before_their_bound.Goals as goal

pub returns-clause-whatever_at_0 : goal.returns-clause-whatever_at_0
returns-clause-whatever_at_0 g c = λ call other until n m choices b h. turn-agree g.R.Choosing.rules call until other n m choices b h

pub returns-clause-greater : goal.returns-clause-greater
returns-clause-greater g c = λ call until n m choices b h. from_greater g.R.Choosing.rules call until n m choices b h

pub returns-clause-whole_run : goal.returns-clause-whole_run
unfolding run_by
returns-clause-whole_run g c = λ program setup hosts other more choices. row-agree g.R.Choosing.rules program setup.until other more (suc setup.fuel) (first_state program setup hosts) choices (λ z. refl)
