use Rattle.std.proofs.Common.{suc, refl, sym, ◌∙◌, ap, subst, arith, Some, None}
use Rattle.std.specs.Prelude.{IsTrue}
use Rattle.page_parts.specs.WrittenChoices.{is_runnable}
use Rattle.page_model.specs.State.{Page}
use Rattle.page_model.specs.View.{view}
use Rattle.page_model.specs.Turns.{with_turn_fuel}
use Rattle.page_state.specs.Standing.{page_of}
use Rattle.page_host.specs.Moments.{state_of, calling}
use Rattle.page_state.specs.JobActs.{turn_counted}
use Rattle.loop_turn.specs.Outcomes.{Turns}
use Rattle.loop_turn.specs.RunRules.{run_rules, no_reading}
use Rattle.loop_turn.specs.RunStops.{run_stop_of, stop_outcome}
use Rattle.loop_turn.specs.TurnActs.{serving, reached, shown}
use Rattle.loop_turn.proofs.ChoiceSteps.{is-true, source-given, with_chooser, task-as, Turns-as}
use Rattle.loop_turn.proofs.TurnSteps.{Turns-same}
use Rattle.loop_turn.proofs.PageTurns.{around}
use Rattle.loop_turn.proofs.LoopSteps.{none-begins, none-stop, pick-stop, pick-then, with-fuel}
use Rattle.loop_turn.proofs.PageExits.{act-exit, work-can, work-kept, work-page, work-refusals, calling-adds, kept-then}
use Rattle.loop_turn.proofs.TurnLoops.{turn-fault}
use Rattle.loop_turn.proofs.turn.perform_next.Goals as goal

pub returns-in_err-begin_turn-clause-does : goal.returns-in_err-begin_turn-clause-does
returns-in_err-begin_turn-clause-does g c =
    let rules = run_rules no_reading g.K.Chooser.rule in
    let m = c.args.live.now.machine in
    let p = c.args.live.now.page in
    let q = c.begin_turn.new.self in
    let why = c.in_err-begin_turn.field-0.0 in
    turn-fault p.state.kept q.state.kept
    (λ first. with_turn_fuel rules (calling m) p.fuel (state_of m p) (serving g.K.Chooser.held c.args.chooser.now first))
    (λ left. reached g.L.Lines.seen m q (serving g.K.Chooser.held c.args.chooser.now left))
    c.from_residual.result (run_stop_of why) c.from_residual.ensures.1
    (λ first left. with-fuel rules (calling m) m.globals p.state (serving g.K.Chooser.held c.args.chooser.now first) p.fuel q.fuel c.in_err-begin_turn.ensures.fuel
    (act-exit (turn_counted None)
    (λ w. Turns g.L.Lines.keeping (shown g.L.Lines.seen p) (with_turn_fuel rules (calling m) (suc q.fuel) (around m.globals (suc q.fuel) p.state) (serving g.K.Chooser.held c.args.chooser.now first)) w (stop_outcome (run_stop_of why)) (reached g.L.Lines.seen m q (serving g.K.Chooser.held c.args.chooser.now left)))
    why c.in_err-begin_turn.ensures.does c.in_err-begin_turn.ensures.stops
    (λ fault h. none-stop rules (calling m) (calling-adds m) m.globals q.fuel p.state (serving g.K.Chooser.held c.args.chooser.now first) (sym c.has_no_task.ensures ∙ c.if-has_no_task.true)
    (stop_outcome (run_stop_of why)) (state_of m q) (serving g.K.Chooser.held c.args.chooser.now left) h)))

pub returns-then-has_no_task-clause-does : goal.returns-then-has_no_task-clause-does
returns-then-has_no_task-clause-does g c =
    let rules = run_rules no_reading g.K.Chooser.rule in
    let m = c.args.live.now.machine in
    let p = c.args.live.now.page in
    let q = c.begin_turn.new.self in
    λ left h. (
      left,
      kept-then p.state.kept q.state.kept (work-kept (turn_counted None) c.in_ok-begin_turn.ensures.does) left h,
      with-fuel rules (calling m) m.globals p.state (serving g.K.Chooser.held c.args.chooser.now left) p.fuel q.fuel c.in_ok-begin_turn.ensures.fuel
          (none-begins rules (calling m) (calling-adds m) m.globals q.fuel p.state (serving g.K.Chooser.held c.args.chooser.now left) (sym c.has_no_task.ensures ∙ c.if-has_no_task.true) c.in_ok-begin_turn.ensures.does),
    )

pub returns-then-has_no_task-clause-answers : goal.returns-then-has_no_task-clause-answers
returns-then-has_no_task-clause-answers g c = work-refusals (turn_counted None) c.in_ok-begin_turn.ensures.does

pub returns-then-has_no_task-clause-goes_on : goal.returns-then-has_no_task-clause-goes_on
returns-then-has_no_task-clause-goes_on g c = record {
  ready = work-can (turn_counted None) c.in_ok-begin_turn.ensures.does tt c.args.live.now.machine c.args.live.now.page.until c.in_ok-begin_turn.ensures.stops c.in_ok-begin_turn.ensures.same c.requires.ready;
  fuel = let taken = c.in_ok-begin_turn.ensures.fuel in omega (arith, taken);
}

pub returns-in_err-begin_turn-2-clause-does : goal.returns-in_err-begin_turn-2-clause-does
returns-in_err-begin_turn-2-clause-does g c =
    let rules = run_rules no_reading g.K.Chooser.rule in
    let m = c.args.live.now.machine in
    let p = c.args.live.now.page in
    let q = c.begin_turn-2.new.self in
    let why = c.in_err-begin_turn-2.field-0.0 in
    let source = c.in_ok-source.source in
    let choice = rw c.view.ensures at c.in_ok-source.ensures.choice in
    let legal = rw c.view.ensures at c.in_ok-source.ensures.legal in
    turn-fault p.state.kept q.state.kept
    (λ first. with_turn_fuel rules (calling m) p.fuel (state_of m p) (serving g.K.Chooser.held c.args.chooser.now first))
    (λ left. reached g.L.Lines.seen m q (serving g.K.Chooser.held c.choose.new.self left))
    c.from_residual-in_err-begin_turn-2.result (run_stop_of why) c.from_residual-in_err-begin_turn-2.ensures.1
    (λ first left. with-fuel rules (calling m) m.globals p.state (serving g.K.Chooser.held c.args.chooser.now first) p.fuel q.fuel c.in_err-begin_turn-2.ensures.fuel
    (act-exit (turn_counted (Some source))
    (λ w. Turns g.L.Lines.keeping (shown g.L.Lines.seen p) (with_turn_fuel rules (calling m) (suc q.fuel) (around m.globals (suc q.fuel) p.state) (serving g.K.Chooser.held c.args.chooser.now first)) w (stop_outcome (run_stop_of why)) (reached g.L.Lines.seen m q (serving g.K.Chooser.held c.choose.new.self left)))
    why c.in_err-begin_turn-2.ensures.does c.in_err-begin_turn-2.ensures.stops
    (λ fault h. pick-stop rules (calling m) (calling-adds m) m.globals q.fuel p.state (serving g.K.Chooser.held c.args.chooser.now first) (sym c.has_no_task.ensures ∙ c.if-has_no_task.false)
    source (serving g.K.Chooser.held c.choose.new.self first)
    (source-given no_reading g.K.Chooser.rule (serving g.K.Chooser.held c.args.chooser.now first) (view (page_of p.state)) source (g.K.Chooser.held c.choose.new.self) choice (is-true _ legal))
    (stop_outcome (run_stop_of why)) (state_of m q) (serving g.K.Chooser.held c.choose.new.self left) h)))

pub perform-requires-clause-ready : goal.perform-requires-clause-ready
perform-requires-clause-ready g c =
    let can = work-can (turn_counted (Some c.in_ok-source.source)) c.in_ok-begin_turn-2.ensures.does tt c.args.live.now.machine c.args.live.now.page.until c.in_ok-begin_turn-2.ensures.stops c.in_ok-begin_turn-2.ensures.same c.requires.ready in
    record {
      running = can.running;
      at_rest = can.at_rest;
      functions = can.functions;
      ends = refl;
      soon = let e = can.ends in let soon = can.soon in omega (arith, e, soon);
    }

pub perform-requires-clause-in_time : goal.perform-requires-clause-in_time
perform-requires-clause-in_time g c =
    let now = ap (λ (p : Page). p.now) (work-page (turn_counted (Some c.in_ok-source.source)) c.in_ok-begin_turn-2.ensures.does) in
    let until = c.in_ok-begin_turn-2.ensures.same.until in
    let before = c.requires.in_time in
    omega (arith, now, until, before)

pub perform-requires-clause-runnable : goal.perform-requires-clause-runnable
perform-requires-clause-runnable g c =
    let legal = rw c.view.ensures at c.in_ok-source.ensures.legal in
    let P : Page → Type 0 = λ p. IsTrue (is_runnable (view p) c.in_ok-source.source) in
    subst P (sym (work-page (turn_counted (Some c.in_ok-source.source)) c.in_ok-begin_turn-2.ensures.does)) legal

pub returns-clause-does : goal.returns-clause-does
returns-clause-does g c =
    let rules = run_rules no_reading g.K.Chooser.rule in
    let m = c.args.live.now.machine in
    let p = c.args.live.now.page in
    let q = c.begin_turn-2.new.self in
    let source = c.in_ok-source.source in
    let held = g.K.Chooser.held c.choose.new.self in
    let choice = rw c.view.ensures at c.in_ok-source.ensures.choice in
    let legal = rw c.view.ensures at c.in_ok-source.ensures.legal in
    λ left h. let x = c.perform.ensures.does left h in (
      x.0,
      kept-then p.state.kept q.state.kept (work-kept (turn_counted (Some source)) c.in_ok-begin_turn-2.ensures.does) x.0 x.1,
      with-fuel rules (calling m) m.globals p.state (serving g.K.Chooser.held c.args.chooser.now x.0) p.fuel q.fuel c.in_ok-begin_turn-2.ensures.fuel
          (pick-then rules (calling m) (calling-adds m) m.globals q.fuel p.state (serving g.K.Chooser.held c.args.chooser.now x.0) (sym c.has_no_task.ensures ∙ c.if-has_no_task.false)
          source (serving g.K.Chooser.held c.choose.new.self x.0)
          (source-given no_reading g.K.Chooser.rule (serving g.K.Chooser.held c.args.chooser.now x.0) (view (page_of p.state)) source held choice (is-true _ legal))
          c.in_ok-begin_turn-2.ensures.does
          (Turns-same (task-as g.K.Chooser.rule held (calling m) source (around m.globals q.fuel q.state) x.0) (Turns-as (with_chooser g.K.Chooser.rule held) _ x.2))),
    )

pub returns-clause-answers : goal.returns-clause-answers
returns-clause-answers g c = rw (work-refusals (turn_counted (Some c.in_ok-source.source)) c.in_ok-begin_turn-2.ensures.does) at c.perform.ensures.answers
