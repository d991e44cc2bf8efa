use Rattle.std.proofs.Common.{suc, sym, ◌∙◌, lt-suc_self}
use Rattle.page_model.specs.Turns.{Stuck, AtBound, first_state, run_by}
use Rattle.page_model.proofs.Bounding.Fuel.{turns-agree}
use Rattle.page_model.proofs.bounds.runs_end_before_their_bound.Goals as goal

pub returns-clause-whatever_at_0 : goal.returns-clause-whatever_at_0
returns-clause-whatever_at_0 g c = λ program other until n m choices h. turns-agree g.R.Choosing.rules program other until n (suc m.fuel) m choices h (lt-suc_self m.fuel)

pub returns-clause-greater : goal.returns-clause-greater
returns-clause-greater g c = λ program until n m choices h.
    sym (turns-agree g.R.Choosing.rules program (Stuck AtBound) until n n m choices h h) ∙ turns-agree g.R.Choosing.rules program (Stuck AtBound) until n (suc m.fuel) m choices h (lt-suc_self m.fuel)

pub returns-clause-whole_run : goal.returns-clause-whole_run
unfolding run_by
returns-clause-whole_run g c = λ program setup hosts other n choices h.
    turns-agree g.R.Choosing.rules program other setup.until n (suc setup.fuel) (first_state program setup hosts) choices h (lt-suc_self setup.fuel)
