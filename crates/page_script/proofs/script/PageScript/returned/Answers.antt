use Rattle.std.proofs.Common.{refl}
use Rattle.page_types.specs.Events.{Ret}
use Rattle.lang_meaning.specs.Evaluation.{without_first}
use Rattle.page_script.proofs.Lifting.{Does-line}
use Rattle.page_script.proofs.script.PageScript.returned.Goals as goal

pub returns : goal.returns
returns g c = Does-line (λ p. record p { calls = without_first p.calls }) Ret c.args.self.now c.close_call.new.self refl c.close_call.ensures c.emit.ensures
