use Rattle.std.proofs.Common.{Option, Result, None, sym, subst}
use Rattle.page_values.specs.declared.Value.{Value}
use Rattle.page_model.specs.PageCombinators.{settle_result}
use Rattle.trace_text.specs.Acts.{Does}
use Rattle.promise_combine.specs.Answers.{answer_seen}
use Rattle.page_script.specs.ScriptActs.{on, on_script}
use Rattle.page_script.proofs.Lifting.{Does-idle}
use Rattle.page_script.proofs.script.PageScript.settle_result.Goals as goal

pub returns-in-None : goal.returns-in-None
returns-in-None g c =
    let k = g.L.Lines.keeping in
    let s = c.args.self.now in
    let seen = g.L.Lines.seen c.args.lines.now in
    let P : Option (Result Value Value) → Type 0 = λ a. Does k (on s seen) (on_script (settle_result (answer_seen a) c.args.promise)) None (on s seen) in
    subst P (sym c.in-None.is) (Does-idle k s seen)
