use Rattle.std.proofs.Common.{◌≡◌}
use Rattle.page_host.specs.Moments.{state_of, calling}
use Rattle.loop_turn.specs.RunRules.{run_rules}
use Rattle.loop_turn.specs.TurnActs.{CanTurn, holding, shown}
use Rattle.loop_turn.proofs.Loops.{TurnsOn}
use Rattle.loop_turn.proofs.page_run.run_turns.Given as goal

-- Turns that do the rest of the run from here do all of it from the start; nothing was refused yet.
abbrev pub invariant-turns : goal.invariant-turns
invariant-turns g l = record {
  ready : CanTurn l.live.machine l.live.page l.until.0;
  program : l.live.machine.script ≡ l.initial.live.machine.script;
  refusals : l.live.page.state.refusals ≡ l.initial.live.page.state.refusals;
  readings : g.C.Clock.refusals l.clock ≡ g.C.Clock.refusals l.initial.clock;
  choices : g.K.Chooser.refusals l.chooser ≡ g.K.Chooser.refusals l.initial.chooser;
  turns : TurnsOn g.L.Lines.keeping (run_rules g.C.Clock.rule g.K.Chooser.rule) (calling l.initial.live.machine) l.until.0
      (holding g.C.Clock.held g.K.Chooser.held l.initial.clock l.initial.chooser) (holding g.C.Clock.held g.K.Chooser.held l.clock l.chooser)
      l.initial.live.page.state.kept l.live.page.state.kept
      (shown g.L.Lines.seen l.initial.live.page) (state_of l.initial.live.machine l.initial.live.page)
      (shown g.L.Lines.seen l.live.page) (state_of l.live.machine l.live.page);
}

abbrev pub decreases-turns : goal.decreases-turns
decreases-turns g l = l.live.page.fuel
