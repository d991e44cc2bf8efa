use Rattle.std.proofs.Common.{ap, sym, ◌∙◌, length}
use Rattle.std.proofs.lemmas.List.{length-map}
use Rattle.lang_ast.specs.declared.program.Program.{Program}
use Rattle.lang_ast.specs.Seen.{seen_items}
use Rattle.lang_ast.specs.SeenProgram.{seen_program}
use Rattle.lang_meaning.specs.Evaluation.{functions_of}
use Rattle.page_interp.specs.Runs.{count_of_functions}
use Rattle.page_state.specs.Standing.{PortNow}
use Rattle.loop_turn.specs.RunRules.{run_rules}
use Rattle.loop_turn.specs.Runs.{port_then}
use Rattle.loop_turn.specs.TurnActs.{holding}
use Rattle.loop_turn.proofs.LawfulRuns.{runs-lawful}
use Rattle.loop_turn.proofs.RunSteps.{are-left, some-kept}
use Rattle.loop_turn.proofs.WholeRuns.{head-run, head-stop, head-memory, loaded-run, turns-run}
use Rattle.loop_turn.proofs.page_run.run_page.Goals as goal

pub returns-in-Err-clause-run : goal.returns-in-Err-clause-run
returns-in-Err-clause-run g c =
    let some = some-kept (g.P.HostPort.kept c.args.port) in
    (some.0, some.1, rw c.from.ensures (head-stop _ c.args.setup.now.trace {port = port_then g.P.HostPort.closures g.P.HostPort.kept (g.P.HostPort.closures c.args.port) c.args.port} c.in-Err.why (λ i. g.P.HostPort.closures c.args.port) c.in-Err.ensures))

pub returns-in-Err-load-clause-run : goal.returns-in-Err-load-clause-run
returns-in-Err-load-clause-run g c =
    let some = some-kept (g.P.HostPort.kept c.args.port) in
    (some.0, some.1, rw c.in-Err-load.ensures.back (head-memory _ c.args.setup.now.trace (ap g.P.HostPort.closures c.in-Err-load.ensures.port) c.in_default.ensures))

pub run_turns-outcome-requires : goal.run_turns-outcome-requires
unfolding seen_program
run_turns-outcome-requires g c =
    let program = c.args.program.now in
    let first = c.in-Ok.ensures.first in
    record {
      running = first.page.stopped;
      at_rest = first.page.folds;
      functions =
          ap (λ (p : Program). count_of_functions (seen_program p)) first.script
          ∙ (sym (ap length program.named ∙ length-map (functions_of (seen_items program.items.items)) (λ f. f.name)) ∙ sym first.page.functions);
      ends = first.page.until;
      soon = c.args.setup.now.has_end.1;
    }

pub returns-in-Ok-clause-run : goal.returns-in-Ok-clause-run
returns-in-Ok-clause-run g c =
    let loaded = c.in-Ok.ensures in
    let there = c.run_turns-outcome.new.live in
    let left = are-left c.run_turns-outcome.result there.page.state.kept in
    let does = c.run_turns-outcome.ensures.does left.0 left.1 in
    let closures = ap (λ (p : PortNow). p.closures) loaded.at_port in
    let turns = loaded-run (run_rules g.C.Clock.rule g.K.Chooser.rule) c.args.program.now c.args.setup.now (g.P.HostPort.closures c.args.port)
    (holding g.C.Clock.held g.K.Chooser.held c.args.clock.now c.args.chooser.now does.0) c.in-Ok.live loaded.first does.2 in
    let run = turns-run g.L.Lines.seen _ c.run_turns-outcome.result there.machine there.page
    (holding g.C.Clock.held g.K.Chooser.held c.run_turns-outcome.new.clock c.run_turns-outcome.new.chooser left.0)
    (port_then g.P.HostPort.closures g.P.HostPort.kept (g.P.HostPort.closures c.args.port) c.parts_of-port.result.0)
    turns left.1 (sym closures) c.parts_of-port.ensures.closures c.parts_of-port.ensures.so_far c.parts_of-port.ensures.kept in (
      does.0,
      rw (ap (λ (p : PortNow). p.kept) loaded.at_port) at does.1,
      rw c.parts_of-port.ensures.lines (head-run _ c.args.setup.now.trace c.in_default.ensures (rw loaded.lines at run)),
    )

pub returns-in-Ok-clause-answers : goal.returns-in-Ok-clause-answers
returns-in-Ok-clause-answers g c =
    rw c.parts_of-port.ensures.refusals (rw (ap (λ (p : PortNow). p.refusals) c.in-Ok.ensures.at_port) at c.run_turns-outcome.ensures.answers)

pub returns-in-Err-clause-laws : goal.returns-in-Err-clause-laws
returns-in-Err-clause-laws g c = λ answers. runs-lawful _ _ _ _ _

pub returns-in-Err-load-clause-laws : goal.returns-in-Err-load-clause-laws
returns-in-Err-load-clause-laws g c = λ answers. runs-lawful _ _ _ _ _

pub returns-in-Ok-clause-laws : goal.returns-in-Ok-clause-laws
returns-in-Ok-clause-laws g c = λ answers. runs-lawful _ _ _ _ _
