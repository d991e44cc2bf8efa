use Rattle.std.proofs.Common.{map}
use Rattle.page_values.specs.Seen.{seen}
use Rattle.page_model.specs.Invoke.{in_script}
use Rattle.page_model.specs.PageHost.{no_calls}
use Rattle.page_state.specs.PageActs.{at}
use Rattle.page_operations.proofs.Plain.{Asked-answers}
use Rattle.page_operations.proofs.asking.answer_purely.Goals as goal

pub returns-clause-asked : goal.returns-clause-asked
returns-clause-asked g c = λ s.
    Asked-answers c.args.op (map seen c.args.args.items) (at c.args.page.now s) _ c.requires.plain c.requires.known
    (c.pure_operation.ensures.answer (in_script no_calls) s)
