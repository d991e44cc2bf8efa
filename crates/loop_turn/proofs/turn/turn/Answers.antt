use Rattle.std.proofs.Common.{◌≡◌, ℕ, refl, sym, ◌∙◌, ap, subst, arith, None}
use Rattle.page_types.specs.Events.{Wait}
use Rattle.page_model.specs.State.{Page, emit}
use Rattle.page_interp.specs.MachineNow.{MachineNow}
use Rattle.page_state.specs.Standing.{page_of}
use Rattle.page_host.specs.Moments.{state_of, calling}
use Rattle.page_host.specs.Turning.{run_ended}
use Rattle.page_host.specs.declared.stop.PageStop.{PageStop}
use Rattle.loop_turn.specs.Outcomes.{Finished, AtReading, Turns}
use Rattle.loop_turn.specs.RunRules.{run_rules}
use Rattle.loop_turn.specs.RunStops.{run_stop_of, stop_fault, stop_outcome}
use Rattle.loop_turn.specs.Waiting.{items_taken}
use Rattle.loop_turn.specs.TurnActs.{holding, reached, serving, next_seen, shown}
use Rattle.loop_turn.specs.declared.run_stop.RunStop.TheVariants as stop
use Rattle.loop_turn.proofs.TurnSteps.{Turns-same}
use Rattle.loop_turn.proofs.ChoiceSteps.{reading-given, reading-refused, serving-as, with_clock, Turns-as}
use Rattle.loop_turn.proofs.PageTurns.{around}
use Rattle.loop_turn.proofs.NextSteps.{wait-ahead}
use Rattle.loop_turn.proofs.PageExits.{act-exit, work-can, work-kept, work-refusals, work-folds, work-page, page-chooses, chooses-exit, port-exit, items-now, calling-adds, kept-then}
use Rattle.loop_turn.proofs.TurnLoops.{turn-fault, turn-kept, starts-waits, all, stop-items, stop-memory, goes-serve, goes-end, stop-end, stop-reading, stop-wait, goes-wait}
use Rattle.loop_turn.proofs.turn.turn.Goals as goal

pub waits-init : goal.waits-init
waits-init g c =
    let m = c.args.live.now.machine in
    let p = c.args.live.now.page in
    record {
      ready = c.requires;
      machine = refl;
      chooser = refl;
      kept = refl;
      refusals = refl;
      readings = refl;
      fuel = refl;
      waits = starts-waits g.L.Lines.keeping (run_rules g.C.Clock.rule g.K.Chooser.rule) (calling m) c.args.until.0 (holding g.C.Clock.held g.K.Chooser.held c.args.clock.now c.args.chooser.now) (shown g.L.Lines.seen p) (state_of m p);
    }

pub returns-in_err-take_items-clause-does : goal.returns-in_err-take_items-clause-does
returns-in_err-take_items-clause-does g c =
    let rules = run_rules g.C.Clock.rule g.K.Chooser.rule in
    let m = c.args.live.now.machine in
    let p = c.args.live.now.page in
    let until = c.args.until.0 in
    let on = c.waits.invariant.waits in
    let mid = c.take_items.new.page in
    let seen = g.L.Lines.seen in
    let time = g.C.Clock.held in
    let picked = g.K.Chooser.held in
    rw c.requires.ends
    (let why = c.in_err-take_items.field-0.0 in
    turn-fault p.state.kept mid.state.kept (all rules (calling m) (calling-adds m) until m.globals c.waits.live.page.fuel c.waits.live.page.state on) (λ left. (reached seen c.waits.live.machine mid (holding time picked c.waits.clock c.waits.chooser left))) c.from_residual.result (run_stop_of why) c.from_residual.ensures.1
    (λ first left. act-exit items_taken
    (λ w. Turns g.L.Lines.keeping (shown seen p) (all rules (calling m) (calling-adds m) until m.globals c.waits.live.page.fuel c.waits.live.page.state on first) w (stop_outcome (run_stop_of why)) (reached seen c.waits.live.machine mid (holding time picked c.waits.clock c.waits.chooser left)))
    why c.in_err-take_items.ensures.does c.in_err-take_items.ensures.stops
    (λ fault h. stop-items rules (calling m) (calling-adds m) until m.globals c.waits.live.page.fuel c.waits.live.page.state on first (stop_outcome (run_stop_of why)) (state_of c.waits.live.machine mid) (holding time picked c.waits.clock c.waits.chooser left) h)))

pub returns-in_err-take_items-clause-choices : goal.returns-in_err-take_items-clause-choices
returns-in_err-take_items-clause-choices g c =
    chooses-exit c.from_residual.result (run_stop_of c.in_err-take_items.field-0.0) c.from_residual.ensures.1 _ _ (ap g.K.Chooser.refusals c.waits.invariant.chooser ∙ page-chooses c.in_err-take_items.field-0.0 _)

pub returns-in_err-take_items-clause-program : goal.returns-in_err-take_items-clause-program
returns-in_err-take_items-clause-program g c = ap (λ (m : MachineNow). m.script) c.waits.invariant.machine

pub returns-in_err-find_next-clause-does : goal.returns-in_err-find_next-clause-does
returns-in_err-find_next-clause-does g c =
    let rules = run_rules g.C.Clock.rule g.K.Chooser.rule in
    let m = c.args.live.now.machine in
    let p = c.args.live.now.page in
    let until = c.args.until.0 in
    let on = c.waits.invariant.waits in
    let mid = c.take_items.new.page in
    let seen = g.L.Lines.seen in
    let time = g.C.Clock.held in
    let picked = g.K.Chooser.held in
    rw c.requires.ends
    (let why = c.in_err-find_next.field-0.0 in
    turn-fault p.state.kept mid.state.kept (all rules (calling m) (calling-adds m) until m.globals c.waits.live.page.fuel c.waits.live.page.state on) (λ left. (reached seen c.waits.live.machine mid (holding time picked c.waits.clock c.waits.chooser left))) c.from_residual-in_err-find_next.result (run_stop_of why) c.from_residual-in_err-find_next.ensures.1
    (λ first left.
    let P : PageStop → Type 0 = λ w. Turns g.L.Lines.keeping (shown seen p) (all rules (calling m) (calling-adds m) until m.globals c.waits.live.page.fuel c.waits.live.page.state on first) (stop_fault (run_stop_of w)) (stop_outcome (run_stop_of w)) (reached seen c.waits.live.machine mid (holding time picked c.waits.clock c.waits.chooser left)) in
    subst P (sym c.in_err-find_next.ensures.memory)
    (stop-memory rules (calling m) (calling-adds m) until m.globals c.waits.live.page.fuel c.waits.live.page.state on mid.state (seen mid.lines) c.in_ok-take_items.ensures.does first (stop_outcome stop.OutOfMemory) (state_of c.waits.live.machine mid) (holding time picked c.waits.clock c.waits.chooser left))))

pub returns-in_err-find_next-clause-choices : goal.returns-in_err-find_next-clause-choices
returns-in_err-find_next-clause-choices g c =
    chooses-exit c.from_residual-in_err-find_next.result (run_stop_of c.in_err-find_next.field-0.0) c.from_residual-in_err-find_next.ensures.1 _ _ (ap g.K.Chooser.refusals c.waits.invariant.chooser ∙ page-chooses c.in_err-find_next.field-0.0 _)

pub returns-in_err-find_next-clause-program : goal.returns-in_err-find_next-clause-program
returns-in_err-find_next-clause-program g c = ap (λ (m : MachineNow). m.script) c.waits.invariant.machine

pub serve-requires : goal.serve-requires
serve-requires g c =
    rw c.waits.invariant.machine (work-can items_taken c.in_ok-take_items.ensures.does tt c.args.live.now.machine c.args.until.0 c.in_ok-take_items.ensures.stops c.in_ok-take_items.ensures.setting c.waits.invariant.ready)

pub returns-in-Serve-clause-does : goal.returns-in-Serve-clause-does
returns-in-Serve-clause-does g c =
    let m = c.args.live.now.machine in
    let until = c.args.until.0 in
    let w = c.waits.live.page in
    let time = g.C.Clock.held in
    rw c.requires.ends
    (let ends = c.in_ok-take_items.ensures.setting.until ∙ c.waits.invariant.ready.ends in
    let does = rw (ends, c.waits.invariant.machine, c.waits.invariant.chooser) at c.serve.ensures.does in
    let mid = c.take_items.new.page in
    let kept = work-kept items_taken c.in_ok-take_items.ensures.does ∙ c.waits.invariant.kept in
    λ left h. let x = does left h in (
      x.0,
      kept-then c.args.live.now.page.state.kept mid.state.kept kept x.0 x.1,
      goes-serve (run_rules g.C.Clock.rule g.K.Chooser.rule) (calling m) (calling-adds m) until m.globals w.fuel w.state c.waits.invariant.waits c.take_items.new.page.state (g.L.Lines.seen c.take_items.new.page.lines) c.in_ok-take_items.ensures.does x.0 (sym (ap next_seen c.in-Serve.is) ∙ c.in_ok-find_next.ensures.next)
          (Turns-same (serving-as g.C.Clock.rule g.K.Chooser.rule (time c.waits.clock) (calling m) until (serving g.K.Chooser.held c.args.chooser.now x.0) (around m.globals w.fuel mid.state))
          (Turns-as (with_clock (time c.waits.clock)) _ (rw c.in_ok-take_items.ensures.fuel at x.2))),
    ))

pub returns-in-Serve-clause-choices : goal.returns-in-Serve-clause-choices
returns-in-Serve-clause-choices g c = rw c.waits.invariant.chooser at c.serve.ensures.choices

pub returns-in-Serve-clause-answers : goal.returns-in-Serve-clause-answers
returns-in-Serve-clause-answers g c = rw (work-refusals items_taken c.in_ok-take_items.ensures.does ∙ c.waits.invariant.refusals) at c.serve.ensures.answers

pub returns-in-Serve-clause-program : goal.returns-in-Serve-clause-program
returns-in-Serve-clause-program g c = c.serve.ensures.program ∙ ap (λ (m : MachineNow). m.script) c.waits.invariant.machine

pub returns-in_err-finish-in-End-clause-does : goal.returns-in_err-finish-in-End-clause-does
returns-in_err-finish-in-End-clause-does g c =
    let rules = run_rules g.C.Clock.rule g.K.Chooser.rule in
    let m = c.args.live.now.machine in
    let p = c.args.live.now.page in
    let until = c.args.until.0 in
    let on = c.waits.invariant.waits in
    let mid = c.take_items.new.page in
    let seen = g.L.Lines.seen in
    let time = g.C.Clock.held in
    let picked = g.K.Chooser.held in
    rw c.requires.ends
    (let why = c.in_err-finish-in-End.field-0.0 in
    turn-fault p.state.kept c.finish.new.self.state.kept (all rules (calling m) (calling-adds m) until m.globals c.waits.live.page.fuel c.waits.live.page.state on) (λ left. (reached seen c.waits.live.machine c.finish.new.self (holding time picked c.waits.clock c.waits.chooser left))) c.from_residual-in_err-finish-in-End.result (run_stop_of why) c.from_residual-in_err-finish-in-End.ensures.1
    (λ first left. act-exit (run_ended until c.in-End.end)
    (λ w. Turns g.L.Lines.keeping (shown seen p) (all rules (calling m) (calling-adds m) until m.globals c.waits.live.page.fuel c.waits.live.page.state on first) w (stop_outcome (run_stop_of why)) (reached seen c.waits.live.machine c.finish.new.self (holding time picked c.waits.clock c.waits.chooser left)))
    why (rw (c.in_ok-take_items.ensures.setting.until ∙ c.waits.invariant.ready.ends) at c.in_err-finish-in-End.ensures.does) c.in_err-finish-in-End.ensures.stops
    (λ fault h. stop-end rules (calling m) (calling-adds m) until m.globals c.waits.live.page.fuel c.waits.live.page.state on mid.state (seen mid.lines) c.in_ok-take_items.ensures.does first c.in-End.end (sym (ap next_seen c.in-End.is) ∙ c.in_ok-find_next.ensures.next) (stop_outcome (run_stop_of why)) (state_of c.waits.live.machine c.finish.new.self) (holding time picked c.waits.clock c.waits.chooser left) h)))

pub returns-in_err-finish-in-End-clause-choices : goal.returns-in_err-finish-in-End-clause-choices
returns-in_err-finish-in-End-clause-choices g c =
    chooses-exit c.from_residual-in_err-finish-in-End.result (run_stop_of c.in_err-finish-in-End.field-0.0) c.from_residual-in_err-finish-in-End.ensures.1 _ _ (ap g.K.Chooser.refusals c.waits.invariant.chooser ∙ page-chooses c.in_err-finish-in-End.field-0.0 _)

pub returns-in_err-finish-in-End-clause-program : goal.returns-in_err-finish-in-End-clause-program
returns-in_err-finish-in-End-clause-program g c = ap (λ (m : MachineNow). m.script) c.waits.invariant.machine

pub returns-in-End-clause-does : goal.returns-in-End-clause-does
returns-in-End-clause-does g c =
    let rules = run_rules g.C.Clock.rule g.K.Chooser.rule in
    let m = c.args.live.now.machine in
    let p = c.args.live.now.page in
    let until = c.args.until.0 in
    let w = c.waits.live.page in
    let on = c.waits.invariant.waits in
    let mid = c.take_items.new.page in
    let seen = g.L.Lines.seen in
    rw c.requires.ends
    (let fin = rw (c.in_ok-take_items.ensures.setting.until ∙ c.waits.invariant.ready.ends) at c.in_ok-finish-in-End.ensures.does in
    let u = c.finish.new.self in
    let kept = work-kept (run_ended until c.in-End.end) fin ∙ (work-kept items_taken c.in_ok-take_items.ensures.does ∙ c.waits.invariant.kept) in
    λ left h. (
      left,
      kept-then p.state.kept u.state.kept kept left h,
      rw (c.waits.invariant.machine, c.waits.invariant.chooser)
          (let P : ℕ → Type 0 = λ n. Turns g.L.Lines.keeping (shown seen p) (all rules (calling m) (calling-adds m) until m.globals w.fuel w.state on left) None (Finished c.in-End.end) (record { state = around m.globals n u.state; held = holding g.C.Clock.held g.K.Chooser.held c.waits.clock c.args.chooser.now left; shown = shown seen u }) in
          subst P (sym (c.in_ok-finish-in-End.ensures.fuel ∙ c.in_ok-take_items.ensures.fuel))
          (goes-end rules (calling m) (calling-adds m) until m.globals w.fuel w.state on mid.state (seen mid.lines) c.in_ok-take_items.ensures.does left c.in-End.end (sym (ap next_seen c.in-End.is) ∙ c.in_ok-find_next.ensures.next) fin)),
    ))

pub returns-in-End-clause-choices : goal.returns-in-End-clause-choices
returns-in-End-clause-choices g c = ap g.K.Chooser.refusals c.waits.invariant.chooser

pub returns-in-End-clause-answers : goal.returns-in-End-clause-answers
returns-in-End-clause-answers g c =
    work-refusals (run_ended c.take_items.new.page.until c.in-End.end) c.in_ok-finish-in-End.ensures.does ∙ (work-refusals items_taken c.in_ok-take_items.ensures.does ∙ c.waits.invariant.refusals)

pub returns-in-End-clause-program : goal.returns-in-End-clause-program
returns-in-End-clause-program g c = ap (λ (m : MachineNow). m.script) c.waits.invariant.machine

pub returns-in_err-reading-in-Wait-clause-does : goal.returns-in_err-reading-in-Wait-clause-does
returns-in_err-reading-in-Wait-clause-does g c =
    let rules = run_rules g.C.Clock.rule g.K.Chooser.rule in
    let m = c.args.live.now.machine in
    let p = c.args.live.now.page in
    let until = c.args.until.0 in
    let w = c.waits.live.page in
    let on = c.waits.invariant.waits in
    let seen = g.L.Lines.seen in
    let time = g.C.Clock.held in
    let picked = g.K.Chooser.held in
    rw c.requires.ends
    (let reading = c.in_err-reading-in-Wait.ensures.reading in
    let mid = c.take_items.new.page in
    let kept = work-kept items_taken c.in_ok-take_items.ensures.does ∙ c.waits.invariant.kept in
    turn-kept p.state.kept mid.state.kept (all rules (calling m) (calling-adds m) until m.globals w.fuel w.state on) (λ left. (reached seen c.waits.live.machine mid (holding time picked c.wait.new.self c.waits.chooser left))) c.from_residual-in_err-reading-in-Wait.result stop.NoReading c.from_residual-in_err-reading-in-Wait.ensures.1 kept
    (λ answers. rw (c.waits.invariant.machine, c.waits.invariant.chooser, reading.1)
    (let P : ℕ → Type 0 = λ n. Turns g.L.Lines.keeping (shown seen p) (all rules (calling m) (calling-adds m) until m.globals w.fuel w.state on answers) None AtReading (record { state = around m.globals n mid.state; held = holding time picked c.waits.clock c.args.chooser.now answers; shown = shown seen mid }) in
    subst P (sym c.in_ok-take_items.ensures.fuel)
    (stop-reading rules (calling m) (calling-adds m) until m.globals w.fuel w.state on c.take_items.new.page.state (seen c.take_items.new.page.lines) c.in_ok-take_items.ensures.does c.in-Wait.target.0 (sym (ap next_seen c.in-Wait.is) ∙ c.in_ok-find_next.ensures.next) answers
    (reading-refused g.C.Clock.rule g.K.Chooser.rule (holding time picked c.waits.clock c.args.chooser.now answers) c.in-Wait.target.0 reading.0)))))

pub returns-in_err-reading-in-Wait-clause-choices : goal.returns-in_err-reading-in-Wait-clause-choices
returns-in_err-reading-in-Wait-clause-choices g c =
    chooses-exit c.from_residual-in_err-reading-in-Wait.result stop.NoReading c.from_residual-in_err-reading-in-Wait.ensures.1 _ _ (ap g.K.Chooser.refusals c.waits.invariant.chooser)

pub returns-in_err-reading-in-Wait-clause-answers : goal.returns-in_err-reading-in-Wait-clause-answers
returns-in_err-reading-in-Wait-clause-answers g c =
    port-exit c.from_residual-in_err-reading-in-Wait.result stop.NoReading c.from_residual-in_err-reading-in-Wait.ensures.1 _ _ (work-refusals items_taken c.in_ok-take_items.ensures.does ∙ c.waits.invariant.refusals)

pub returns-in_err-reading-in-Wait-clause-program : goal.returns-in_err-reading-in-Wait-clause-program
returns-in_err-reading-in-Wait-clause-program g c = ap (λ (m : MachineNow). m.script) c.waits.invariant.machine

pub set_now-requires : goal.set_now-requires
set_now-requires g c =
    let ahead = wait-ahead c.args.until.0 (page_of c.take_items.new.page.state) c.in-Wait.target.0 (sym (ap next_seen c.in-Wait.is) ∙ c.in_ok-find_next.ensures.next) in
    let later = ahead.later in
    let legal = c.in_ok-reading-in-Wait.ensures.legal.0 in
    omega (arith, later, legal)

pub returns-in_err-mark_wait-in-Wait-clause-does : goal.returns-in_err-mark_wait-in-Wait-clause-does
returns-in_err-mark_wait-in-Wait-clause-does g c =
    let rules = run_rules g.C.Clock.rule g.K.Chooser.rule in
    let m = c.args.live.now.machine in
    let p = c.args.live.now.page in
    let until = c.args.until.0 in
    let on = c.waits.invariant.waits in
    let mid = c.take_items.new.page in
    let seen = g.L.Lines.seen in
    let time = g.C.Clock.held in
    let picked = g.K.Chooser.held in
    rw c.requires.ends
    (let why = c.in_err-mark_wait-in-Wait.field-0.0 in
    turn-fault p.state.kept c.mark_wait.new.self.state.kept (all rules (calling m) (calling-adds m) until m.globals c.waits.live.page.fuel c.waits.live.page.state on) (λ left. (reached seen c.waits.live.machine c.mark_wait.new.self (holding time picked c.wait.new.self c.waits.chooser left))) c.from_residual-in_err-mark_wait-in-Wait.result (run_stop_of why) c.from_residual-in_err-mark_wait-in-Wait.ensures.1
    (λ first left. act-exit (emit (Wait c.in-Wait.target.0))
    (λ w. Turns g.L.Lines.keeping (shown seen p) (all rules (calling m) (calling-adds m) until m.globals c.waits.live.page.fuel c.waits.live.page.state on first) w (stop_outcome (run_stop_of why)) (reached seen c.waits.live.machine c.mark_wait.new.self (holding time picked c.wait.new.self c.waits.chooser left)))
    why c.in_err-mark_wait-in-Wait.ensures.does c.in_err-mark_wait-in-Wait.ensures.stops
    (λ fault h. stop-wait rules (calling m) (calling-adds m) until m.globals c.waits.live.page.fuel c.waits.live.page.state on mid.state (seen mid.lines) c.in_ok-take_items.ensures.does c.in-Wait.target.0 (sym (ap next_seen c.in-Wait.is) ∙ c.in_ok-find_next.ensures.next) c.in_ok-reading-in-Wait.reading.0 (holding time picked c.wait.new.self c.args.chooser.now) (λ answers. reading-given g.C.Clock.rule g.K.Chooser.rule (holding time picked c.waits.clock c.args.chooser.now answers) c.in-Wait.target.0 c.in_ok-reading-in-Wait.reading.0 (time c.wait.new.self) c.in_ok-reading-in-Wait.ensures.reading c.in_ok-reading-in-Wait.ensures.legal.0 c.in_ok-reading-in-Wait.ensures.legal.1) first (stop_outcome (run_stop_of why)) (state_of c.waits.live.machine c.mark_wait.new.self) (holding time picked c.wait.new.self c.waits.chooser left) (rw c.set_now.ensures at h))))

pub returns-in_err-mark_wait-in-Wait-clause-choices : goal.returns-in_err-mark_wait-in-Wait-clause-choices
returns-in_err-mark_wait-in-Wait-clause-choices g c =
    chooses-exit c.from_residual-in_err-mark_wait-in-Wait.result (run_stop_of c.in_err-mark_wait-in-Wait.field-0.0) c.from_residual-in_err-mark_wait-in-Wait.ensures.1 _ _ (ap g.K.Chooser.refusals c.waits.invariant.chooser ∙ page-chooses c.in_err-mark_wait-in-Wait.field-0.0 _)

pub returns-in_err-mark_wait-in-Wait-clause-program : goal.returns-in_err-mark_wait-in-Wait-clause-program
returns-in_err-mark_wait-in-Wait-clause-program g c = ap (λ (m : MachineNow). m.script) c.waits.invariant.machine

pub waits-preserved : goal.waits-preserved
waits-preserved g c =
    let m = c.args.live.now.machine in
    let until = c.args.until.0 in
    let w = c.waits.live.page in
    let time = g.C.Clock.held in
    let picked = g.K.Chooser.held in
    let mid = c.take_items.new.page in
    let u = c.mark_wait.new.self in
    let ready = work-can items_taken c.in_ok-take_items.ensures.does tt m until c.in_ok-take_items.ensures.stops c.in_ok-take_items.ensures.setting c.waits.invariant.ready in
    let marked = rw c.set_now.ensures at c.in_ok-mark_wait-in-Wait.ensures.does in
    let stops = rw c.set_now.ensures at c.in_ok-mark_wait-in-Wait.ensures.stops in
    let same = rw c.set_now.ensures at c.in_ok-mark_wait-in-Wait.ensures.same in
    let fuel = rw c.set_now.ensures at c.in_ok-mark_wait-in-Wait.ensures.fuel in
    let now : u.state.script.now ≡ c.in_ok-reading-in-Wait.reading.0 = ap (λ (p : Page). p.now) (work-page (emit (Wait c.in-Wait.target.0)) marked) in
    let before : mid.state.script.now ≡ w.state.script.now = ap (λ (p : Page). p.now) (work-page items_taken c.in_ok-take_items.ensures.does) ∙ items-now (page_of w.state) in
    record {
      ready = record {
        running = stops.told.0 ∙ ready.running;
        at_rest = work-folds (emit (Wait c.in-Wait.target.0)) marked ∙ ready.at_rest;
        functions = ready.functions ∙ sym same.functions;
        ends = same.until ∙ ready.ends;
        soon = ready.soon;
      };
      machine = c.waits.invariant.machine;
      chooser = c.waits.invariant.chooser;
      kept = work-kept (emit (Wait c.in-Wait.target.0)) marked ∙ (work-kept items_taken c.in_ok-take_items.ensures.does ∙ c.waits.invariant.kept);
      refusals = work-refusals (emit (Wait c.in-Wait.target.0)) marked ∙ (work-refusals items_taken c.in_ok-take_items.ensures.does ∙ c.waits.invariant.refusals);
      readings = c.in_ok-reading-in-Wait.ensures.refused ∙ c.waits.invariant.readings;
      fuel = fuel ∙ (c.in_ok-take_items.ensures.fuel ∙ c.waits.invariant.fuel);
      waits =
          let on = goes-wait (run_rules g.C.Clock.rule g.K.Chooser.rule) (calling m) (calling-adds m) until m.globals w.fuel w.state c.waits.invariant.waits c.take_items.new.page.state (g.L.Lines.seen c.take_items.new.page.lines) c.in_ok-take_items.ensures.does c.in-Wait.target.0 (sym (ap next_seen c.in-Wait.is) ∙ c.in_ok-find_next.ensures.next) c.in_ok-reading-in-Wait.reading.0 (holding time picked c.wait.new.self c.args.chooser.now) (λ answers. reading-given g.C.Clock.rule g.K.Chooser.rule (holding time picked c.waits.clock c.args.chooser.now answers) c.in-Wait.target.0 c.in_ok-reading-in-Wait.reading.0 (time c.wait.new.self) c.in_ok-reading-in-Wait.ensures.reading c.in_ok-reading-in-Wait.ensures.legal.0 c.in_ok-reading-in-Wait.ensures.legal.1) before c.in_ok-reading-in-Wait.ensures.legal.0 now marked in
          rw (fuel ∙ c.in_ok-take_items.ensures.fuel) on;
    }

pub waits-smaller : goal.waits-smaller
waits-smaller g c =
    let w = c.waits.live.page in
    let mid = c.take_items.new.page in
    let marked = rw c.set_now.ensures at c.in_ok-mark_wait-in-Wait.ensures.does in
    let now : c.mark_wait.new.self.state.script.now ≡ c.in_ok-reading-in-Wait.reading.0 = ap (λ (p : Page). p.now) (work-page (emit (Wait c.in-Wait.target.0)) marked) in
    let before : mid.state.script.now ≡ w.state.script.now = ap (λ (p : Page). p.now) (work-page items_taken c.in_ok-take_items.ensures.does) ∙ items-now (page_of w.state) in
    let ahead = wait-ahead c.args.until.0 (page_of mid.state) c.in-Wait.target.0 (sym (ap next_seen c.in-Wait.is) ∙ c.in_ok-find_next.ensures.next) in
    let later = ahead.later in
    let soon = ahead.soon in
    let legal = c.in_ok-reading-in-Wait.ensures.legal.0 in
    omega (arith, now, before, later, soon, legal)
