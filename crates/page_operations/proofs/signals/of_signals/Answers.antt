use Rattle.std.proofs.Common.{refl}
use Rattle.std.specs.Prelude.{map}
use Rattle.page_values.specs.Seen.{seen}
use Rattle.page_answers.proofs.Answering.{Answers-wants}
use Rattle.page_operations.specs.Plain.{plain_operation}
use Rattle.page_operations.proofs.signals.of_signals.Goals as goal

pub returns-in_default : goal.returns-in_default
returns-in_default g c =
    Answers-wants g.L.Lines.keeping (plain_operation c.args.op (map seen c.args.args.items)) c.args.page.now c.args.page.now (g.L.Lines.seen c.args.lines.now) refl
