use Rattle.std.proofs.Common.{arith}
use Rattle.page_state.proofs.Marking.{Does-line, Does-no_line, Does-all_lines}
use Rattle.page_state.proofs.state.PageState.emit_aborts.Goals as goal

pub loop-s-init : goal.loop-s-init
loop-s-init g c = record { rest = λ why new h. h }

pub returns-in_err-emit : goal.returns-in_err-emit
returns-in_err-emit g c =
    c.loop-s.invariant.rest _ _
    (Does-no_line c.args.signals.now c.loop-s.s-index c.args.self.now c.loop-s-test.true _ c.from_residual.ensures.1 c.in_err-emit.ensures)

pub loop-s-preserved : goal.loop-s-preserved
loop-s-preserved g c = record {
  rest = λ why new h.
      c.loop-s.invariant.rest why new
      (Does-line c.args.signals.now c.loop-s.s-index c.args.self.now c.loop-s-test.true c.in_ok-emit.ensures h);
}

pub returns : goal.returns
returns g c =
    c.loop-s.invariant.rest _ _
    (Does-all_lines g.L.Lines.keeping c.args.signals.now c.loop-s.s-index c.args.self.now (g.L.Lines.seen c.loop-s.lines) (omega arith))
