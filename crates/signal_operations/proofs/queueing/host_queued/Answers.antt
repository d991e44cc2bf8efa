use Rattle.std.proofs.Common.{◌≡◌, ℕ, refl, ◌∙◌, ap, List, None}
use Rattle.std.proofs.Math.Facts.{to_z-of_z}
use Rattle.std.specs.Prelude.{slice_get}
use Rattle.page_types.specs.declared.RegKind.TheVariants.{Host as HostKind}
use Rattle.page_parts.specs.HostClosures.{HostClosure}
use Rattle.page_model.specs.State.{last_registration}
use Rattle.page_model.specs.Operations.{promised}
use Rattle.page_state.specs.HostActs.{answer_awaited}
use Rattle.page_state.specs.Standing.{Standing, page_of}
use Rattle.page_state.specs.PageActs.{at, on_page}
use Rattle.page_state.proofs.Acting.{Does-is, Does-leave, Does-next}
use Rattle.page_state.proofs.Handled.{Does-read}
use Rattle.signal_operations.proofs.Queued.{awaited, awaited-is, awaited_last-adds, promised-hosts}
use Rattle.signal_operations.proofs.queueing.host_queued.Goals as goal

pub returns-in_err-registration : goal.returns-in_err-registration
returns-in_err-registration g c = λ closure is.
    let k = c.args.k in
    let x = c.args.x in
    Does-leave (promised HostKind None c.args.signal) (λ p. awaited k closure x (last_registration p) p) _ (awaited_last-adds k closure x) c.from_residual.ensures.1 c.in_err-registration.ensures.does

pub returns : goal.returns
unfolding on_page
returns g c = λ closure is.
    let k = c.args.k in
    let x = c.args.x in
    let r = c.in_ok-registration.registration in
    let mid = c.promised.new.self in
    let same : mid.hosts ≡ c.args.page.now.hosts =
    ap (λ (s : Standing). s.hosts) (c.in_ok-registration.ensures.does.acts.state refl) ∙ promised-hosts HostKind None c.args.signal (page_of c.args.page.now) in
    Does-next (promised HostKind None c.args.signal) (λ p. awaited k closure x (last_registration p) p) (awaited_last-adds k closure x) c.in_ok-registration.ensures.does
    (Does-read (λ (n : ℕ) p. awaited k closure x n p) last_registration r mid c.in_ok-registration.ensures.number
    (Does-is (answer_awaited k x r) (awaited k closure x r) (at mid (g.L.Lines.seen c.promised.new.lines))
    (awaited-is k closure x r (page_of mid) (ap (λ (hosts : List HostClosure). slice_get hosts k) same ∙ is)) (rw (to_z-of_z c.ranges.x) at c.await_answer.ensures)))
