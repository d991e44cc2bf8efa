use Rattle.std.proofs.Common.{map, ap, ◌∙◌}
use Rattle.page_types.specs.Events.{Abort}
use Rattle.page_values.specs.Seen.{seen}
use Rattle.page_model.specs.State.{emit_each}
use Rattle.page_model.specs.Folds.{begin_abort}
use Rattle.page_signals.specs.Laws.{as_fold}
use Rattle.page_state.specs.Standing.{Standing, page_of, port_of}
use Rattle.page_state.specs.FoldActs.{abort_step, hosting_of, around}
use Rattle.page_state.proofs.Reaching.{Reaches-more, Reaches-stop, Reaches-wants}
use Rattle.page_state.proofs.Begun.{abort-begins}
use Rattle.page_state.proofs.state.PageState.begin_abort.Goals as goal

pub returns-in_err-signals : goal.returns-in_err-signals
returns-in_err-signals g c =
    Reaches-wants (abort_step c.args.s (seen c.args.reason) (hosting_of c.args.self.now)) c.args.self.now c.open_abort.new.self _ _ c.from_residual.ensures.1 c.in_err-signals.ensures.memory

pub returns-in_err-emit_aborts : goal.returns-in_err-emit_aborts
returns-in_err-emit_aborts g c =
    let s = c.args.self.now in
    let mid = c.open_abort.new.self in
    let reason = seen c.args.reason in
    let ss = c.deref.result.now in
    Reaches-stop (begin_abort c.args.s reason (page_of s)) (map as_fold s.folds) (emit_each (map Abort ss)) s mid _
    (abort-begins s mid c.args.s reason ss (c.deref.ensures.value ∙ c.in_ok-signals.ensures.signals) c.in_ok-signals.ensures.opened)
    c.from_residual-in_err-emit_aborts.ensures.1 (ap port_of c.in_ok-signals.ensures.opened) c.in_err-emit_aborts.ensures

pub returns : goal.returns
returns g c =
    let s = c.args.self.now in
    let mid = c.open_abort.new.self in
    let reason = seen c.args.reason in
    let ss = c.deref.result.now in
    let opened = c.in_ok-signals.ensures.opened in
    Reaches-more (begin_abort c.args.s reason (page_of s)) (map as_fold s.folds) (emit_each (map Abort ss)) s mid _
    (abort-begins s mid c.args.s reason ss (c.deref.ensures.value ∙ c.in_ok-signals.ensures.signals) opened)
    (ap (λ (t : Standing). map as_fold (around t.folds)) opened) (ap port_of opened)
    c.in_ok-emit_aborts.ensures c.reach.ensures
