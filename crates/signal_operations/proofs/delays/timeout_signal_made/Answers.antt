use Rattle.std.proofs.Common.{refl, sym, ◌∙◌, None}
use Rattle.page_types.specs.declared.RegKind.TheVariants.{Signal as SignalKind}
use Rattle.page_parts.specs.AbortGraph as graph
use Rattle.page_model.specs.State.{QueueSignal}
use Rattle.page_model.specs.Invoke.{register}
use Rattle.page_model.specs.Operations.{timeout_signal_made, with_signals}
use Rattle.page_state.specs.Standing.{page_of}
use Rattle.page_state.specs.PageActs.{at}
use Rattle.page_state.proofs.Acting.{Does-is, Does-leave, Does-next, Does-silent}
use Rattle.page_state.proofs.Telling.{Does-wanted}
use Rattle.page_state.proofs.Signalled.{same-signals}
use Rattle.signal_operations.specs.Delays.{started_after}
use Rattle.signal_operations.proofs.Delayed.{timed, timed-adds, timed-last, registered_timed, registered_timed-adds}
use Rattle.signal_operations.proofs.delays.timeout_signal_made.Goals as goal

pub returns-in_err-signal : goal.returns-in_err-signal
returns-in_err-signal g c =
    Does-wanted g.L.Lines.keeping (timeout_signal_made c.args.ms) c.args.page.now c.make_signal.new.self _ _ c.from_residual.ensures.1 c.in_err-signal.ensures.memory

pub returns-in_err-r : goal.returns-in_err-r
returns-in_err-r g c =
    let ms = c.args.ms in
    let F = with_signals graph.make in
    Does-next F (registered_timed ms) (registered_timed-adds ms) (Does-silent g.L.Lines.keeping F c.args.page.now _ refl c.in_ok-signal.ensures.made)
    (Does-leave (register SignalKind None None) (timed ms) _ (timed-adds ms) c.from_residual-in_err-r.ensures.1 c.in_err-r.ensures.does)

pub returns : goal.returns
returns g c =
    let ms = c.args.ms in
    let s = c.in_ok-signal.signal in
    let r = c.in_ok-r.r in
    let F = with_signals graph.make in
    let mid = c.register_as.new.self in
    Does-next F (registered_timed ms) (registered_timed-adds ms) (Does-silent g.L.Lines.keeping F c.args.page.now _ refl c.in_ok-signal.ensures.made)
    (Does-next (register SignalKind None None) (timed ms) (timed-adds ms) c.in_ok-r.ensures.does
    (Does-is (started_after ms r (QueueSignal r s)) (timed ms) (at mid (g.L.Lines.seen c.register_as.new.lines))
    (timed-last ms r s (page_of mid) c.in_ok-r.ensures.number (c.in_ok-signal.ensures.number ∙ sym (same-signals (register SignalKind None None) (λ p. refl) c.in_ok-r.ensures.does)))
    c.start_after.ensures))
