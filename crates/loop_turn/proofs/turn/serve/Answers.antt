use Rattle.std.proofs.Common.{ℕ, sym, ◌∙◌, subst, arith, Option, None, leb-true, Result}
use Rattle.std.proofs.lemmas.Bool.{leb-false}
use Rattle.page_types.specs.declared.End.{End}
use Rattle.page_types.specs.declared.End.TheVariants.{Fuel, Clock}
use Rattle.page_model.specs.Turns.{from_step_three}
use Rattle.page_state.specs.Standing.{page_of}
use Rattle.page_host.specs.Moments.{state_of, calling}
use Rattle.page_host.specs.Turning.{run_ended}
use Rattle.loop_turn.specs.Outcomes.{WentOn, Finished, Turns}
use Rattle.loop_turn.specs.RunRules.{run_rules, no_reading}
use Rattle.loop_turn.specs.RunStops.{run_stop_of, stop_outcome, line_fault, turn_outcome}
use Rattle.loop_turn.specs.Waiting.{idled}
use Rattle.loop_turn.specs.TurnActs.{serving, reached, shown}
use Rattle.loop_turn.specs.declared.run_stop.RunStop.{RunStop}
use Rattle.loop_turn.proofs.RunSteps.{is-err, some-kept}
use Rattle.loop_turn.proofs.PageTurns.{around}
use Rattle.loop_turn.proofs.LoopSteps.{clock-ends, clock-stop, idle-done, idle-stop, task-stop, task-over, task-then, dry-ends, dry-stop}
use Rattle.loop_turn.proofs.PageExits.{act-exit, work-can, work-kept, work-refusals, calling-adds, kept-then}
use Rattle.loop_turn.proofs.TurnLoops.{turn-fault, serve-exit}
use Rattle.loop_turn.proofs.turn.serve.Goals as goal

pub returns-in_err-finish-clause-does : goal.returns-in_err-finish-clause-does
returns-in_err-finish-clause-does g c =
    rw c.requires.ends
    (let rules = run_rules no_reading g.K.Chooser.rule in
    let m = c.args.live.now.machine in
    let p = c.args.live.now.page in
    let q = c.finish.new.self in
    let until = c.args.until.0 in
    let why = c.in_err-finish.field-0.0 in
    let does = rw c.requires.ends at c.in_err-finish.ensures.does in
    turn-fault p.state.kept q.state.kept
    (λ first. from_step_three rules (calling m) until (serving g.K.Chooser.held c.args.chooser.now first) (state_of m p))
    (λ left. reached g.L.Lines.seen m q (serving g.K.Chooser.held c.args.chooser.now left))
    c.from_residual.result (run_stop_of why) c.from_residual.ensures.1
    (λ first left. act-exit (run_ended until Clock)
    (λ w. Turns g.L.Lines.keeping (shown g.L.Lines.seen p) (from_step_three rules (calling m) until (serving g.K.Chooser.held c.args.chooser.now first) (state_of m p)) w (stop_outcome (run_stop_of why)) (reached g.L.Lines.seen m q (serving g.K.Chooser.held c.args.chooser.now left)))
    why does c.in_err-finish.ensures.stops
    (λ fault h. clock-stop rules (calling m) (calling-adds m) until m.globals p.fuel p.state (serving g.K.Chooser.held c.args.chooser.now first)
    (stop_outcome (run_stop_of why)) (state_of m q) (serving g.K.Chooser.held c.args.chooser.now left)
    (leb-true until (page_of p.state).now (sym c.is_over.ensures ∙ c.if-is_over.true)) h)))

pub returns-then-is_over-clause-does : goal.returns-then-is_over-clause-does
returns-then-is_over-clause-does g c =
    rw c.requires.ends
    (let rules = run_rules no_reading g.K.Chooser.rule in
    let m = c.args.live.now.machine in
    let p = c.args.live.now.page in
    let q = c.finish.new.self in
    let until = c.args.until.0 in
    let does = rw c.requires.ends at c.in_ok-finish.ensures.does in
    λ left h. (
      left,
      kept-then p.state.kept q.state.kept (work-kept (run_ended until Clock) does) left h,
      (let P : ℕ → Type 0 = λ n. Turns g.L.Lines.keeping (shown g.L.Lines.seen p) (from_step_three rules (calling m) until (serving g.K.Chooser.held c.args.chooser.now left) (state_of m p)) None (Finished Clock)
          (record { state = around m.globals n q.state; held = serving g.K.Chooser.held c.args.chooser.now left; shown = shown g.L.Lines.seen q }) in
          subst P (sym c.in_ok-finish.ensures.fuel)
          (clock-ends rules (calling m) (calling-adds m) until m.globals p.fuel p.state (serving g.K.Chooser.held c.args.chooser.now left) (leb-true until (page_of p.state).now (sym c.is_over.ensures ∙ c.if-is_over.true)) does)),
    ))

pub returns-then-is_over-clause-answers : goal.returns-then-is_over-clause-answers
returns-then-is_over-clause-answers g c = work-refusals (run_ended c.args.live.now.page.until Clock) c.in_ok-finish.ensures.does

pub returns-in_err-finish-2-clause-does : goal.returns-in_err-finish-2-clause-does
returns-in_err-finish-2-clause-does g c =
    rw c.requires.ends
    (let rules = run_rules no_reading g.K.Chooser.rule in
    let m = c.args.live.now.machine in
    let p = c.args.live.now.page in
    let q = c.finish-then-is_dry.new.self in
    let until = c.args.until.0 in
    let why = c.in_err-finish-2.field-0.0 in
    turn-fault p.state.kept q.state.kept
    (λ first. from_step_three rules (calling m) until (serving g.K.Chooser.held c.args.chooser.now first) (state_of m p))
    (λ left. reached g.L.Lines.seen m q (serving g.K.Chooser.held c.args.chooser.now left))
    c.from_residual-in_err-finish-2.result (run_stop_of why) c.from_residual-in_err-finish-2.ensures.1
    (λ first left. act-exit (run_ended p.until Fuel)
    (λ w. Turns g.L.Lines.keeping (shown g.L.Lines.seen p) (from_step_three rules (calling m) until (serving g.K.Chooser.held c.args.chooser.now first) (state_of m p)) w (stop_outcome (run_stop_of why)) (reached g.L.Lines.seen m q (serving g.K.Chooser.held c.args.chooser.now left)))
    why c.in_err-finish-2.ensures.does c.in_err-finish-2.ensures.stops
    (λ fault h. task-stop rules (calling m) (calling-adds m) until m.globals p.fuel p.state (serving g.K.Chooser.held c.args.chooser.now first)
    (leb-false until (page_of p.state).now (sym c.is_over.ensures ∙ c.if-is_over.false)) (stop_outcome (run_stop_of why))
    (dry-stop rules (calling m) m.globals p.state (serving g.K.Chooser.held c.args.chooser.now first) p.fuel p.until
    (stop_outcome (run_stop_of why)) (state_of m q) (serving g.K.Chooser.held c.args.chooser.now left) (c.is_dry.ensures.none c.if-is_dry.true) h))))

pub returns-then-is_dry-clause-does : goal.returns-then-is_dry-clause-does
returns-then-is_dry-clause-does g c =
    rw c.requires.ends
    (let rules = run_rules no_reading g.K.Chooser.rule in
    let m = c.args.live.now.machine in
    let p = c.args.live.now.page in
    let q = c.finish-then-is_dry.new.self in
    let until = c.args.until.0 in
    λ left h. (
      left,
      kept-then p.state.kept q.state.kept (work-kept (run_ended p.until Fuel) c.in_ok-finish-2.ensures.does) left h,
      (let P : ℕ → Type 0 = λ n. Turns g.L.Lines.keeping (shown g.L.Lines.seen p) (from_step_three rules (calling m) until (serving g.K.Chooser.held c.args.chooser.now left) (state_of m p)) None (Finished Fuel)
          (record { state = around m.globals n q.state; held = serving g.K.Chooser.held c.args.chooser.now left; shown = shown g.L.Lines.seen q }) in
          subst P (sym c.in_ok-finish-2.ensures.fuel)
          (task-over rules (calling m) (calling-adds m) until m.globals p.fuel p.state (serving g.K.Chooser.held c.args.chooser.now left)
          (leb-false until (page_of p.state).now (sym c.is_over.ensures ∙ c.if-is_over.false)) (λ e. cc)
          (dry-ends rules (calling m) m.globals p.state (serving g.K.Chooser.held c.args.chooser.now left) p.fuel p.until (c.is_dry.ensures.none c.if-is_dry.true) c.in_ok-finish-2.ensures.does))),
    ))

pub returns-then-is_dry-clause-answers : goal.returns-then-is_dry-clause-answers
returns-then-is_dry-clause-answers g c = work-refusals (run_ended c.args.live.now.page.until Fuel) c.in_ok-finish-2.ensures.does

pub returns-in_err-end-clause-does : goal.returns-in_err-end-clause-does
returns-in_err-end-clause-does g c =
    rw c.requires.ends
    (let rules = run_rules no_reading g.K.Chooser.rule in
    let m = c.args.live.now.machine in
    let p = c.args.live.now.page in
    serve-exit rules (calling m) (calling-adds m) c.args.until.0 m.globals p.fuel p.state (leb-false c.args.until.0 (page_of p.state).now (sym c.is_over.ensures ∙ c.if-is_over.false))
    p.state.kept c.perform_next.new.live.page.state.kept (λ first. serving g.K.Chooser.held c.args.chooser.now first)
    (λ left. reached g.L.Lines.seen c.perform_next.new.live.machine c.perform_next.new.live.page (serving g.K.Chooser.held c.perform_next.new.chooser left))
    _ _ c.from_residual-in_err-end.ensures.1 c.in_err-end.ensures.does)

pub returns-in-Some-clause-does : goal.returns-in-Some-clause-does
returns-in-Some-clause-does g c =
    rw c.requires.ends
    (let rules = run_rules no_reading g.K.Chooser.rule in
    let m = c.args.live.now.machine in
    let p = c.args.live.now.page in
    let does = rw c.in-Some.is at c.in_ok-end.ensures.does in
    λ left h. let x = does left h in (
      x.0,
      x.1,
      task-over rules (calling m) (calling-adds m) c.args.until.0 m.globals p.fuel p.state (serving g.K.Chooser.held c.args.chooser.now x.0)
          (leb-false c.args.until.0 (page_of p.state).now (sym c.is_over.ensures ∙ c.if-is_over.false)) (λ e. cc) x.2,
    ))

pub returns-in_err-idle-in-None-clause-does : goal.returns-in_err-idle-in-None-clause-does
returns-in_err-idle-in-None-clause-does g c =
    rw c.requires.ends
    (let rules = run_rules no_reading g.K.Chooser.rule in
    let m = c.args.live.now.machine in
    let p = c.args.live.now.page in
    let n = c.perform_next.new.live.machine in
    let q = c.perform_next.new.live.page in
    let u = c.idle.new.page in
    let until = c.args.until.0 in
    let why = c.in_err-idle-in-None.field-0.0 in
    let does = rw c.in-None.is at c.in_ok-end.ensures.does in
    let mid = some-kept q.state.kept in
    let x = does mid.0 mid.1 in
    λ left h. (
      x.0,
      x.1,
      (let P : Result (Option End) RunStop → Type 0 = λ r. Turns g.L.Lines.keeping (shown g.L.Lines.seen p) (from_step_three rules (calling m) until (serving g.K.Chooser.held c.args.chooser.now x.0) (state_of m p)) (line_fault r) (turn_outcome r) (reached g.L.Lines.seen n u (serving g.K.Chooser.held c.perform_next.new.chooser left)) in
          subst P (sym (is-err c.from_residual-in_err-idle-in-None.result (run_stop_of why) c.from_residual-in_err-idle-in-None.ensures.1))
          (act-exit idled
          (λ w. Turns g.L.Lines.keeping (shown g.L.Lines.seen p) (from_step_three rules (calling m) until (serving g.K.Chooser.held c.args.chooser.now x.0) (state_of m p)) w (stop_outcome (run_stop_of why)) (reached g.L.Lines.seen n u (serving g.K.Chooser.held c.perform_next.new.chooser left)))
          why c.in_err-idle-in-None.ensures.does c.in_err-idle-in-None.ensures.stops
          (λ fault f. task-then rules (calling m) (calling-adds m) until m.globals p.fuel p.state (serving g.K.Chooser.held c.args.chooser.now x.0)
          (leb-false until (page_of p.state).now (sym c.is_over.ensures ∙ c.if-is_over.false)) x.2
          (idle-stop rules (calling m) (calling-adds m) until n.globals q.fuel q.state (serving g.K.Chooser.held c.perform_next.new.chooser mid.0)
          (stop_outcome (run_stop_of why)) (state_of n u) (serving g.K.Chooser.held c.perform_next.new.chooser left) f)))),
    ))

pub returns-in_ok-idle-in-None-clause-does : goal.returns-in_ok-idle-in-None-clause-does
returns-in_ok-idle-in-None-clause-does g c =
    rw c.requires.ends
    (let rules = run_rules no_reading g.K.Chooser.rule in
    let m = c.args.live.now.machine in
    let p = c.args.live.now.page in
    let n = c.perform_next.new.live.machine in
    let q = c.perform_next.new.live.page in
    let u = c.idle.new.page in
    let until = c.args.until.0 in
    let does = rw c.in-None.is at c.in_ok-end.ensures.does in
    λ left h. let x = does left (kept-then q.state.kept u.state.kept (work-kept idled c.in_ok-idle-in-None.ensures.does) left h) in (
      x.0,
      x.1,
      (let P : ℕ → Type 0 = λ f. Turns g.L.Lines.keeping (shown g.L.Lines.seen p) (from_step_three rules (calling m) until (serving g.K.Chooser.held c.args.chooser.now x.0) (state_of m p)) None WentOn
          (record { state = around n.globals f u.state; held = serving g.K.Chooser.held c.perform_next.new.chooser left; shown = shown g.L.Lines.seen u }) in
          subst P (sym c.in_ok-idle-in-None.ensures.fuel)
          (task-then rules (calling m) (calling-adds m) until m.globals p.fuel p.state (serving g.K.Chooser.held c.args.chooser.now x.0)
          (leb-false until (page_of p.state).now (sym c.is_over.ensures ∙ c.if-is_over.false)) x.2
          (idle-done rules (calling m) (calling-adds m) until n.globals q.fuel q.state (serving g.K.Chooser.held c.perform_next.new.chooser left) c.in_ok-idle-in-None.ensures.does))),
    ))

pub returns-in_ok-idle-in-None-clause-answers : goal.returns-in_ok-idle-in-None-clause-answers
returns-in_ok-idle-in-None-clause-answers g c = work-refusals idled c.in_ok-idle-in-None.ensures.does ∙ c.in_ok-end.ensures.answers

pub returns-in_ok-idle-in-None-clause-goes_on : goal.returns-in_ok-idle-in-None-clause-goes_on
returns-in_ok-idle-in-None-clause-goes_on g c =
    let taken = rw (c.in-None.is, c.requires.ends) at c.in_ok-end.ensures.goes_on in
    let idle = c.in_ok-idle-in-None.ensures in
    record {
      ready = work-can idled idle.does tt c.perform_next.new.live.machine c.args.until.0 idle.stops idle.setting taken.ready;
      fuel = let same = idle.fuel in let less = taken.fuel in omega (arith, same, less);
    }
