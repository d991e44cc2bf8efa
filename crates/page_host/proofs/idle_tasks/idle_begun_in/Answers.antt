use Rattle.std.proofs.Common.{◌≤◌, ◌<◌, sym, ap, refl, ◌∙◌, arith}
use Rattle.page_types.specs.Events.{IdleLine}
use Rattle.page_model.specs.State.{SchedulingState, emit}
use Rattle.page_model.specs.SchedulerTasks.{with_state}
use Rattle.page_model.specs.Tasks.{background}
use Rattle.page_state.specs.Standing.{page_of}
use Rattle.page_state.specs.PageActs.{changed_by}
use Rattle.page_state.proofs.Acting.{Does-next, Does-leave, Does-silent}
use Rattle.page_state.proofs.Telling.{Does-wanted}
use Rattle.page_host.proofs.IdleSteps.{next-late, next-soon, Does-late, Does-none, Does-begun}
use Rattle.page_host.proofs.idle_tasks.idle_begun_in.Goals as goal

pub returns-then-now-deadline-clause-does : goal.returns-then-now-deadline-clause-does
returns-then-now-deadline-clause-does g c =
    let d = c.idle_deadline-deadline.result.0 in
    let p = page_of c.args.state.now in
    let late : d ≤ p.now = omega (arith, c.if-now-deadline.true, c.now.ensures) in
    Does-late g.L.Lines.keeping c.args.state.now _ (next-late p d c.idle_deadline-deadline.ensures late)

pub returns-then-now-deadline-clause-taken : goal.returns-then-now-deadline-clause-taken
returns-then-now-deadline-clause-taken g c =
    let d = c.idle_deadline-deadline.result.0 in
    let p = page_of c.args.state.now in
    let late : d ≤ p.now = omega (arith, c.if-now-deadline.true, c.now.ensures) in
    next-late p d c.idle_deadline-deadline.ensures late

pub returns-in_default-clause-does : goal.returns-in_default-clause-does
returns-in_default-clause-does g c =
    let d = c.idle_deadline-deadline.result.0 in
    let p = page_of c.args.state.now in
    let soon : p.now < d = omega (arith, c.if-now-deadline.false, c.now.ensures) in
    let found = sym c.in_default.is ∙ c.pop_idle.ensures.registration in
    Does-none g.L.Lines.keeping c.args.state.now c.pop_idle.new.self _ (next-soon p d c.idle_deadline-deadline.ensures soon _ found) found c.pop_idle.ensures.gone

pub returns-in_default-clause-taken : goal.returns-in_default-clause-taken
returns-in_default-clause-taken g c =
    let d = c.idle_deadline-deadline.result.0 in
    let p = page_of c.args.state.now in
    let soon : p.now < d = omega (arith, c.if-now-deadline.false, c.now.ensures) in
    next-soon p d c.idle_deadline-deadline.ensures soon _ (sym c.in_default.is ∙ c.pop_idle.ensures.registration)

pub returns-in_err-emit-clause-does : goal.returns-in_err-emit-clause-does
returns-in_err-emit-clause-does g c =
    let d = c.idle_deadline-deadline.result.0 in
    let p = page_of c.args.state.now in
    let soon : p.now < d = omega (arith, c.if-now-deadline.false, c.now.ensures) in
    let next = next-soon p d c.idle_deadline-deadline.ensures soon _ (sym c.in-Some.is ∙ c.pop_idle.ensures.registration) in
    Does-begun c.in-Some.r d c.args.state.now c.pop_idle.new.self c.idle_deadline-deadline.ensures next c.pop_idle.ensures.gone
    (Does-leave (emit (IdleLine d)) (with_state background) _ (λ es p. refl) c.from_residual.ensures.1 c.in_err-emit.ensures)

pub returns-in_err-with_state-clause-does : goal.returns-in_err-with_state-clause-does
returns-in_err-with_state-clause-does g c =
    let d = c.idle_deadline-deadline.result.0 in
    let p = page_of c.args.state.now in
    let soon : p.now < d = omega (arith, c.if-now-deadline.false, c.now.ensures) in
    let next = next-soon p d c.idle_deadline-deadline.ensures soon _ (sym c.in-Some.is ∙ c.pop_idle.ensures.registration) in
    Does-begun c.in-Some.r d c.args.state.now c.pop_idle.new.self c.idle_deadline-deadline.ensures next c.pop_idle.ensures.gone
    (Does-next (emit (IdleLine d)) (with_state background) (λ es p. refl) c.in_ok-emit.ensures
    (Does-wanted g.L.Lines.keeping (with_state background) c.pop_idle.new.self c.with_state.new.self _ _ c.from_residual-in_err-with_state.ensures.1 c.in_err-with_state.ensures.memory))

pub returns-clause-does : goal.returns-clause-does
returns-clause-does g c =
    let d = c.idle_deadline-deadline.result.0 in
    let p = page_of c.args.state.now in
    let soon : p.now < d = omega (arith, c.if-now-deadline.false, c.now.ensures) in
    let next = next-soon p d c.idle_deadline-deadline.ensures soon _ (sym c.in-Some.is ∙ c.pop_idle.ensures.registration) in
    Does-begun c.in-Some.r d c.args.state.now c.pop_idle.new.self c.idle_deadline-deadline.ensures next c.pop_idle.ensures.gone
    (Does-next (emit (IdleLine d)) (with_state background) (λ es p. refl) c.in_ok-emit.ensures
    (Does-silent g.L.Lines.keeping (with_state background) c.pop_idle.new.self _ refl
    (c.in_ok-with_state.ensures.made ∙ ap (λ (s : SchedulingState). changed_by (with_state s) c.pop_idle.new.self) c.background.ensures)))

pub returns-clause-taken : goal.returns-clause-taken
returns-clause-taken g c =
    let d = c.idle_deadline-deadline.result.0 in
    let p = page_of c.args.state.now in
    let soon : p.now < d = omega (arith, c.if-now-deadline.false, c.now.ensures) in
    next-soon p d c.idle_deadline-deadline.ensures soon _ (sym c.in-Some.is ∙ c.pop_idle.ensures.registration)
