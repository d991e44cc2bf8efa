use Rattle.std.proofs.Common.{◌∙◌, refl, le_refl}
use Rattle.page_host.specs.Moments.{state_of, calling}
use Rattle.loop_turn.specs.RunRules.{run_rules}
use Rattle.loop_turn.specs.TurnActs.{holding, reached, shown}
use Rattle.loop_turn.proofs.PageExits.{calling-adds, port-exit}
use Rattle.loop_turn.proofs.TurnLoops.{run-exit, run-ends, run-goes}
use Rattle.loop_turn.proofs.page_run.run_turns.Goals as goal

pub turns-init : goal.turns-init
turns-init g c = record {
  ready = c.requires;
  program = refl;
  refusals = refl;
  readings = refl;
  choices = refl;
  turns = record { left = c.args.live.now.page.fuel; enough = le_refl c.args.live.now.page.fuel; leads = λ answers h. (answers, h, λ why how reached x. x) };
}

pub returns-in_err-end-clause-does : goal.returns-in_err-end-clause-does
returns-in_err-end-clause-does g c =
    let rules = run_rules g.C.Clock.rule g.K.Chooser.rule in
    let m = c.args.live.now.machine in
    let ends = c.args.live.now.page.until in
    let there = c.turn.new.live in
    let held = holding g.C.Clock.held g.K.Chooser.held c.turn.new.clock c.turn.new.chooser in
    run-exit rules (calling m) (calling-adds m) c.args.until.0 c.turns.invariant.turns there.page.state.kept
    (λ left. reached g.L.Lines.seen there.machine there.page (held left)) ends c.requires.ends
    c.from_residual.result _ c.from_residual.ensures.1 (rw (c.turns.invariant.ready.ends, c.turns.invariant.program) at c.in_err-end.ensures.does)

pub returns-in_err-end-clause-answers : goal.returns-in_err-end-clause-answers
returns-in_err-end-clause-answers g c = port-exit c.from_residual.result _ c.from_residual.ensures.1 _ _ (rw c.turns.invariant.refusals at c.in_err-end.ensures.answers)

pub returns-in-Some-clause-does : goal.returns-in-Some-clause-does
returns-in-Some-clause-does g c =
    let rules = run_rules g.C.Clock.rule g.K.Chooser.rule in
    let m = c.args.live.now.machine in
    let ends = c.args.live.now.page.until in
    let there = c.turn.new.live in
    let held = holding g.C.Clock.held g.K.Chooser.held c.turn.new.clock c.turn.new.chooser in
    run-ends rules (calling m) (calling-adds m) c.args.until.0 c.turns.invariant.turns there.page.state.kept
    (λ left. reached g.L.Lines.seen there.machine there.page (held left)) ends c.requires.ends
    c.in-Some.end (rw (c.turns.invariant.ready.ends, c.in-Some.is, c.turns.invariant.program) at c.in_ok-end.ensures.does)

pub turns-preserved : goal.turns-preserved
turns-preserved g c =
    let rules = run_rules g.C.Clock.rule g.K.Chooser.rule in
    let m = c.args.live.now.machine in
    let there = c.turn.new.live in
    let held = holding g.C.Clock.held g.K.Chooser.held c.turn.new.clock c.turn.new.chooser in
    let goes = rw c.in_default.is at c.in_ok-end.ensures.goes_on in
    record {
      ready = goes.ready;
      program = c.in_ok-end.ensures.program ∙ c.turns.invariant.program;
      refusals = c.in_ok-end.ensures.answers ∙ c.turns.invariant.refusals;
      readings = c.in_ok-end.ensures.readings ∙ c.turns.invariant.readings;
      choices = c.in_ok-end.ensures.choices ∙ c.turns.invariant.choices;
      turns = run-goes rules (calling m) (calling-adds m) c.args.until.0 c.turns.invariant.turns there.page.state.kept
          (shown g.L.Lines.seen there.page) (state_of there.machine there.page) held
          goes.fuel (rw (c.turns.invariant.ready.ends, c.in_default.is, c.turns.invariant.program) at c.in_ok-end.ensures.does);
    }

pub turns-smaller : goal.turns-smaller
turns-smaller g c = let goes = rw c.in_default.is at c.in_ok-end.ensures.goes_on in goes.fuel
