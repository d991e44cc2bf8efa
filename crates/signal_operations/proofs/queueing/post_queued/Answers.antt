use Rattle.std.proofs.Common.{◌≡◌, ℕ, Bool, false, cond, eqb, eq-eqb, sym, ap, Some, arith}
use Rattle.std.proofs.lemmas.Bool.Decides.{nat_tests}
use Rattle.page_types.specs.declared.RegKind.TheVariants.{Post as PostKind}
use Rattle.page_model.specs.State.{last_registration}
use Rattle.page_model.specs.SchedulerTasks.{enqueue}
use Rattle.page_model.specs.Operations.{post_delayed, promised}
use Rattle.page_values.specs.Seen.{seen_func}
use Rattle.page_tasks.specs.Seen.{prio_source}
use Rattle.page_state.specs.Standing.{page_of}
use Rattle.page_state.specs.PageActs.{at}
use Rattle.page_state.proofs.Acting.{Does-is, Does-leave, Does-next}
use Rattle.page_state.proofs.Handled.{Does-read}
use Rattle.signal_operations.proofs.Delayed.{posted_last, posted_last-adds}
use Rattle.signal_operations.proofs.queueing.post_queued.Goals as goal

pub returns-in_err-registration : goal.returns-in_err-registration
returns-in_err-registration g c =
    let ms = c.args.ms in
    let source = prio_source c.args.source in
    Does-leave (promised PostKind (Some (seen_func c.args.callback)) c.args.signal) (posted_last (eqb ms 0) ms source) _ (posted_last-adds (eqb ms 0) ms source) c.from_residual.ensures.1
    c.in_err-registration.ensures.does

pub returns-then-ms-eq0 : goal.returns-then-ms-eq0
returns-then-ms-eq0 g c =
    let ms = c.args.ms in
    let source = prio_source c.args.source in
    let r = c.in_ok-registration.registration in
    let mid = c.promised.new.self in
    Does-next (promised PostKind (Some (seen_func c.args.callback)) c.args.signal) (posted_last (eqb ms 0) ms source) (posted_last-adds (eqb ms 0) ms source)
    c.in_ok-registration.ensures.does
    (Does-read (λ (n : ℕ) p. cond (eqb ms 0) (enqueue n source false) (post_delayed ms n source) p) last_registration r mid c.in_ok-registration.ensures.number
    (Does-is (enqueue r source false) (λ p. cond (eqb ms 0) (enqueue r source false) (post_delayed ms r source) p) (at mid (g.L.Lines.seen c.promised.new.lines))
    (sym (ap (λ (b : Bool). cond b (enqueue r source false) (post_delayed ms r source) (page_of mid)) (eq-eqb ms 0 c.if-ms-eq0.true)))
    c.enqueue.ensures))

pub returns : goal.returns
returns g c =
    let ms = c.args.ms in
    let source = prio_source c.args.source in
    let r = c.in_ok-registration.registration in
    let mid = c.promised.new.self in
    let some : eqb ms 0 ≡ false = grind (arith, nat_tests, c.if-ms-eq0.false) in
    Does-next (promised PostKind (Some (seen_func c.args.callback)) c.args.signal) (posted_last (eqb ms 0) ms source) (posted_last-adds (eqb ms 0) ms source)
    c.in_ok-registration.ensures.does
    (Does-read (λ (n : ℕ) p. cond (eqb ms 0) (enqueue n source false) (post_delayed ms n source) p) last_registration r mid c.in_ok-registration.ensures.number
    (Does-is (post_delayed ms r source) (λ p. cond (eqb ms 0) (enqueue r source false) (post_delayed ms r source) p) (at mid (g.L.Lines.seen c.promised.new.lines))
    (sym (ap (λ (b : Bool). cond b (enqueue r source false) (post_delayed ms r source) (page_of mid)) some))
    c.start_after.ensures))
