use Rattle.std.proofs.Common.{ℕ}
use Rattle.page_types.specs.Values.{SignalValue}
use Rattle.page_types.specs.declared.FaultName.TheVariants.{TypeError}
use Rattle.page_parts.specs.Kinds.{controller_in}
use Rattle.page_values.specs.Seen.{seen}
use Rattle.lang_meaning.specs.Machine.{Done, Gives}
use Rattle.page_model.specs.State.{Page, State}
use Rattle.page_state.specs.PageActs.{at}
use Rattle.page_answers.proofs.Choosing.{Answers-given, Answers-not_given, Answers-same}
use Rattle.signal_operations.proofs.reading.signal.Goals as goal

abbrev of_controller : ℕ → State → Done Page
of_controller s m = Gives (SignalValue s) m

pub returns-in-Some : goal.returns-in-Some
returns-in-Some g c =
    let old = at c.args.page.now (g.L.Lines.seen c.args.lines.now) in
    Answers-given (controller_in (seen c.args.controller)) c.in-Some.s TypeError of_controller old c.in-Some.ensures
    (Answers-same g.L.Lines.keeping (SignalValue c.in-Some.s) old c.give.result c.give.ensures)

pub returns : goal.returns
returns g c =
    Answers-not_given g.L.Lines.keeping (controller_in (seen c.args.controller)) TypeError of_controller (at c.args.page.now (g.L.Lines.seen c.args.lines.now)) c.throw.result c.in-None.ensures c.throw.ensures
