use Rattle.trace_text.proofs.Doing.{Does-last}
use Rattle.page_model.specs.PageCombinators.{combinator_made}
use Rattle.promise_combine.specs.Seen.{kind_seen}
use Rattle.promise_combine.specs.Answers.{answer_seen}
use Rattle.page_script.proofs.Lifting.{Does-wants}
use Rattle.page_script.proofs.Making.{Does-combined}
use Rattle.page_script.proofs.script.PageScript.combine.Goals as goal

pub returns-in_err-made-clause-does : goal.returns-in_err-made-clause-does
returns-in_err-made-clause-does g c =
    Does-wants g.L.Lines.keeping (combinator_made (kind_seen c.args.kind) c.args.count) c.args.self.now c.add_combinator.new.self _ _ c.from_residual.ensures.1 c.in_err-made.ensures.memory

pub returns-in_err-settle_result-clause-does : goal.returns-in_err-settle_result-clause-does
returns-in_err-settle_result-clause-does g c =
    Does-last _ c.from_residual-in_err-settle_result.ensures.1
    (Does-combined (kind_seen c.args.kind) c.args.count c.args.self.now c.add_combinator.new.self c.in_ok-made.made.result (answer_seen c.in_ok-made.answer) c.in_ok-made.ensures.promise c.in_ok-made.ensures.answer c.in_ok-made.ensures.added
    c.in_err-settle_result.ensures)

pub returns-clause-does : goal.returns-clause-does
returns-clause-does g c =
    Does-combined (kind_seen c.args.kind) c.args.count c.args.self.now c.add_combinator.new.self c.in_ok-made.made.result (answer_seen c.in_ok-made.answer) c.in_ok-made.ensures.promise c.in_ok-made.ensures.answer c.in_ok-made.ensures.added
    c.in_ok-settle_result.ensures
