use Rattle.std.proofs.Common.{ap, arith, length}
use Rattle.page_values.specs.Seen.{seen}
use Rattle.page_model.specs.PageSignals.{abort_registrations}
use Rattle.page_state.proofs.Marking.{Does-aborted, Does-not_aborted, Does-none_left}
use Rattle.page_state.proofs.Telling.{Does-wanted, wanted-still}
use Rattle.page_state.proofs.state.PageState.abort_registrations.Goals as goal

pub registrations-init : goal.registrations-init
registrations-init g c = λ why new h. h

pub returns-in_err-reason : goal.returns-in_err-reason
returns-in_err-reason g c =
    c.registrations.invariant _ _
    (Does-wanted g.L.Lines.keeping (abort_registrations (seen c.args.reason.now) c.registrations.left) c.registrations.self c.registrations.self _ _ c.from_residual.ensures.1 (wanted-still c.in_err-reason.ensures.memory))

pub returns-in_err-abort_registration : goal.returns-in_err-abort_registration
returns-in_err-abort_registration g c =
    c.registrations.invariant _ _
    (Does-not_aborted (seen c.args.reason.now) (seen c.in_ok-reason.reason) (ap seen c.in_ok-reason.ensures.same) c.in-Some.r c.registrations.left c.next.new.self c.in-Some.ensures.first c.registrations.self _ c.from_residual-in_err-abort_registration.ensures.1 c.in_err-abort_registration.ensures)

pub registrations-preserved : goal.registrations-preserved
registrations-preserved g c = λ why new h.
    c.registrations.invariant why new
    (Does-aborted (seen c.args.reason.now) (seen c.in_ok-reason.reason) (ap seen c.in_ok-reason.ensures.same) c.in-Some.r c.registrations.left c.next.new.self c.in-Some.ensures.first c.registrations.self c.in_ok-abort_registration.ensures h)

pub registrations-smaller : goal.registrations-smaller
registrations-smaller g c = omega (arith, ap length c.in-Some.ensures.first)

pub returns : goal.returns
returns g c =
    c.registrations.invariant _ _
    (Does-none_left g.L.Lines.keeping (seen c.args.reason.now) c.registrations.left c.registrations.self _ c.in_default.ensures.none)
