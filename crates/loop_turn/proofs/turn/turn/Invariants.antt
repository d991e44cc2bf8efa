use Rattle.std.proofs.Common.{◌≡◌, ◌-◌}
use Rattle.page_host.specs.Moments.{state_of, calling}
use Rattle.loop_turn.specs.RunRules.{run_rules}
use Rattle.loop_turn.specs.TurnActs.{CanTurn, holding, shown}
use Rattle.loop_turn.proofs.Loops.{WaitsOn}
use Rattle.loop_turn.proofs.turn.turn.Given as goal

-- What is done from here is the turn from the start: nothing was refused yet, no task was performed and no unit taken.
abbrev pub invariant-waits : goal.invariant-waits
invariant-waits g l = record {
  ready : CanTurn l.initial.live.machine l.live.page l.until.0;
  machine : l.live.machine ≡ l.initial.live.machine;
  chooser : l.chooser ≡ l.initial.chooser;
  kept : l.live.page.state.kept ≡ l.initial.live.page.state.kept;
  refusals : l.live.page.state.refusals ≡ l.initial.live.page.state.refusals;
  readings : g.C.Clock.refusals l.clock ≡ g.C.Clock.refusals l.initial.clock;
  fuel : l.live.page.fuel ≡ l.initial.live.page.fuel;
  waits : WaitsOn g.L.Lines.keeping (run_rules g.C.Clock.rule g.K.Chooser.rule) (calling l.initial.live.machine) l.until.0
      (holding g.C.Clock.held g.K.Chooser.held l.initial.clock l.initial.chooser) (holding g.C.Clock.held g.K.Chooser.held l.clock l.initial.chooser)
      (shown g.L.Lines.seen l.initial.live.page) (state_of l.initial.live.machine l.initial.live.page)
      (shown g.L.Lines.seen l.live.page) l.live.page.state.script.now (state_of l.initial.live.machine l.live.page);
}

abbrev pub decreases-waits : goal.decreases-waits
decreases-waits g l = l.until.0 - l.live.page.state.script.now
