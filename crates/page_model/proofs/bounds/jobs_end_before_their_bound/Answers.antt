use Rattle.std.proofs.Common.{suc, sym, ◌∙◌, lt-suc_self}
use Rattle.lang_meaning.specs.Machine.{OutOfFuel}
use Rattle.page_model.proofs.Bounding.Fuel.{run_jobs-agree}
use Rattle.page_model.proofs.bounds.jobs_end_before_their_bound.Goals as goal

pub returns-clause-whatever_at_0 : goal.returns-clause-whatever_at_0
returns-clause-whatever_at_0 c = λ call calls other n m h. run_jobs-agree call calls other n (suc m.fuel) m h (lt-suc_self m.fuel)

pub returns-clause-greater : goal.returns-clause-greater
returns-clause-greater c = λ call calls n m h.
    sym (run_jobs-agree call calls OutOfFuel n n m h h) ∙ run_jobs-agree call calls OutOfFuel n (suc m.fuel) m h (lt-suc_self m.fuel)
