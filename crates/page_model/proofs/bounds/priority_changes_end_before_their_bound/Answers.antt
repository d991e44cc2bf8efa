use Rattle.std.proofs.Common.{sym, ◌∙◌, length, le_refl}
use Rattle.lang_meaning.specs.Machine.{finish}
use Rattle.lang_meaning.specs.Evaluation.{calls}
use Rattle.page_model.specs.Invoke.{in_script}
use Rattle.page_model.specs.Operations.{page_operations}
use Rattle.page_model.proofs.Holding.Runs.{in_script-goes}
use Rattle.page_model.proofs.Holding.Operations.{calls-go}
use Rattle.page_model.proofs.Bounding.OneDeep.{one_deep, change-agree}
use Rattle.page_model.proofs.bounds.priority_changes_end_before_their_bound.Goals as goal

pub returns-clause-whatever_at_0 : goal.returns-clause-whatever_at_0
returns-clause-whatever_at_0 c = λ program depth priority other n s m h there le.
    let call = calls program page_operations depth in
    change-agree program (in_script call) (in_script-goes program one_deep call (calls-go program one_deep depth)) priority other n (length m.host.prios) s m h there le (le_refl (length m.host.prios))

pub returns-clause-greater : goal.returns-clause-greater
returns-clause-greater c = λ program depth priority n s m h there le.
    let call = calls program page_operations depth in
    let agree = change-agree program (in_script call) (in_script-goes program one_deep call (calls-go program one_deep depth)) priority (λ s m. finish m) n in
    sym (agree n s m h there le le) ∙ agree (length m.host.prios) s m h there le (le_refl (length m.host.prios))
