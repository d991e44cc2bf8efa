use Rattle.std.proofs.Common.{map, ap, sym, subst, ◌∙◌}
use Rattle.std.specs.Option.{option_map}
use Rattle.page_values.specs.Seen.{seen}
use Rattle.page_model.specs.PageSignals.{abort_registration}
use Rattle.page_signals.specs.declared.visit.Visit.{Visit}
use Rattle.page_signals.specs.Steps.{Falls}
use Rattle.page_signals.specs.Seen.{visit_seen}
use Rattle.page_state.specs.CodeFolds.{called_seen}
use Rattle.page_state.specs.FoldActs.{signalling_in, rest_step, listener_called}
use Rattle.page_state.proofs.Reaching.{Reaches-wants}
use Rattle.page_state.proofs.Stepped.{abort-keeps, call-keeps, falls-then}
use Rattle.page_state.proofs.Visited.{algorithm-more, algorithm-stop, changed-more, changed-stop, ended-more, listener-stop, called-last, finished-end}
use Rattle.page_state.proofs.state.PageState.reach.Goals as goal

pub steps-init : goal.steps-init
steps-init g c = λ r new h. h

pub returns-in_err-registration : goal.returns-in_err-registration
returns-in_err-registration g c =
    c.steps.invariant _ _ (Reaches-wants (rest_step c.steps.self) c.steps.self c.fold_step.new.self _ _ c.from_residual.ensures.1 c.in_err-registration.ensures.memory)

pub returns-in_err-abort_registration-in-Algorithm : goal.returns-in_err-abort_registration-in-Algorithm
returns-in_err-abort_registration-in-Algorithm g c =
    let mid = c.fold_step.new.self in
    let e = c.in_ok-registration.ensures in
    c.steps.invariant _ _
    (algorithm-stop c.steps.self mid e.before e.after e.others c.in-Algorithm.registration (seen c.in-Algorithm.reason) _
    (ap (λ v. (visit_seen v, signalling_in mid)) (sym c.in-Algorithm.is) ∙ e.step)
    c.from_residual-in_err-abort_registration-in-Algorithm.ensures.1 c.in_err-abort_registration-in-Algorithm.ensures)

pub steps-preserved-in-Continue-branch-3 : goal.steps-preserved-in-Continue-branch-3
steps-preserved-in-Continue-branch-3 g c = λ r new h.
    let mid = c.fold_step.new.self in
    let e = c.in_ok-registration.ensures in
    c.steps.invariant r new
    (algorithm-more c.steps.self mid e.before e.after e.others c.in-Algorithm.registration (seen c.in-Algorithm.reason) r
    (ap (λ v. (visit_seen v, signalling_in mid)) (sym c.in-Algorithm.is) ∙ e.step)
    c.in_ok-abort_registration-in-Algorithm.ensures h)

pub steps-smaller-in-Continue-branch-3 : goal.steps-smaller-in-Continue-branch-3
steps-smaller-in-Continue-branch-3 g c =
    let s = c.steps.self in
    let mid = c.fold_step.new.self in
    let reason = seen c.in-Algorithm.reason in
    let r = c.in-Algorithm.registration in
    let P : Visit → Type 0 = λ v. Falls (visit_seen v) (signalling_in s) (signalling_in mid) in
    falls-then (abort_registration reason r) s mid c.abort_registration.new.self (abort-keeps reason r)
    (subst P c.in-Algorithm.is c.in_ok-registration.ensures.falls) c.in_ok-abort_registration-in-Algorithm.ensures

pub returns-in_err-calling-in-Listener : goal.returns-in_err-calling-in-Listener
returns-in_err-calling-in-Listener g c =
    let mid = c.fold_step.new.self in
    let e = c.in_ok-registration.ensures in
    c.steps.invariant _ _
    (listener-stop c.steps.self mid e.before e.after e.others c.in-Listener.registration (map seen c.in-Listener.arguments.items) _
    (ap (λ v. (visit_seen v, signalling_in mid)) (sym c.in-Listener.is) ∙ e.step)
    c.from_residual-in_err-calling-in-Listener.ensures.1 c.in_err-calling-in-Listener.ensures.does)

pub steps-preserved-in-Listener : goal.steps-preserved-in-Listener
steps-preserved-in-Listener g c = λ r new h.
    let mid = c.fold_step.new.self in
    let e = c.in_ok-registration.ensures in
    c.steps.invariant r new
    (ended-more c.steps.self mid e.before e.after e.others c.in-Listener.registration (map seen c.in-Listener.arguments.items) r
    (ap (λ v. (visit_seen v, signalling_in mid)) (sym c.in-Listener.is) ∙ e.step)
    (ap (option_map called_seen) (sym c.in_default.is) ∙ c.in_ok-calling-in-Listener.ensures.called)
    c.in_ok-calling-in-Listener.ensures.does h)

pub steps-smaller-in-Listener : goal.steps-smaller-in-Listener
steps-smaller-in-Listener g c =
    let s = c.steps.self in
    let mid = c.fold_step.new.self in
    let r = c.in-Listener.registration in
    let P : Visit → Type 0 = λ v. Falls (visit_seen v) (signalling_in s) (signalling_in mid) in
    falls-then (listener_called r) s mid c.listener_begun.new.self (call-keeps r)
    (subst P c.in-Listener.is c.in_ok-registration.ensures.falls) c.in_ok-calling-in-Listener.ensures.does

pub returns-in-Some : goal.returns-in-Some
returns-in-Some g c =
    let mid = c.fold_step.new.self in
    let e = c.in_ok-registration.ensures in
    c.steps.invariant _ _
    (called-last c.steps.self mid e.before e.after e.others c.in-Listener.registration (map seen c.in-Listener.arguments.items) (called_seen c.in-Some.calling) c.invoked.result
    (ap (λ v. (visit_seen v, signalling_in mid)) (sym c.in-Listener.is) ∙ e.step)
    (ap (option_map called_seen) (sym c.in-Some.is) ∙ c.in_ok-calling-in-Listener.ensures.called)
    c.in_ok-calling-in-Listener.ensures.does c.invoked.ensures.step c.invoked.ensures.folds)

pub steps-preserved : goal.steps-preserved
steps-preserved g c = λ r new h.
    let mid = c.fold_step.new.self in
    let e = c.in_ok-registration.ensures in
    c.steps.invariant r new
    (changed-more c.steps.self mid e.before e.after e.others c.in-Changed.signal c.in-Changed.before c.in-Changed.priority r
    (ap (λ v. (visit_seen v, signalling_in mid)) (sym c.in-Changed.is) ∙ e.step)
    c.in_ok-emit-in-Changed.ensures h)

pub returns-in_err-emit-in-Changed : goal.returns-in_err-emit-in-Changed
returns-in_err-emit-in-Changed g c =
    let mid = c.fold_step.new.self in
    let e = c.in_ok-registration.ensures in
    c.steps.invariant _ _
    (changed-stop c.steps.self mid e.before e.after e.others c.in-Changed.signal c.in-Changed.before c.in-Changed.priority _
    (ap (λ v. (visit_seen v, signalling_in mid)) (sym c.in-Changed.is) ∙ e.step)
    c.from_residual-in_err-emit-in-Changed.ensures.1 c.in_err-emit-in-Changed.ensures)

pub returns-in-Finished : goal.returns-in-Finished
returns-in-Finished g c =
    let mid = c.fold_step.new.self in
    let e = c.in_ok-registration.ensures in
    c.steps.invariant _ _
    (finished-end c.steps.self mid e.before e.after e.others (g.L.Lines.seen c.steps.lines)
    (ap (λ v. (visit_seen v, signalling_in mid)) (sym c.in-Finished.is) ∙ e.step))
