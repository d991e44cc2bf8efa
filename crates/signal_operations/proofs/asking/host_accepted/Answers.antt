use Rattle.std.proofs.Common.{ℕ, Option, refl, ◌∙◌, ap, false}
use Rattle.std.proofs.Math.Facts.{to_z-of_z}
use Rattle.std.specs.Option.{option_map_or}
use Rattle.page_types.specs.declared.FaultName.TheVariants.{NotAllowedError}
use Rattle.page_parts.specs.HostClosures.{HostClosure}
use Rattle.page_parts.specs.Kinds.{a_fault}
use Rattle.lang_meaning.specs.Machine.{Done, branch}
use Rattle.page_model.specs.State.{Page, State}
use Rattle.page_model.specs.PageSignals.{is_aborted_source}
use Rattle.page_model.specs.Operations.{answers, host_queued, is_fresh, last_promise_value, rejected_with}
use Rattle.page_state.specs.PageActs.{at}
use Rattle.page_answers.proofs.Choosing.{Answers-else, Answers-exit, Answers-last, Answers-left, Answers-none_left, Answers-then}
use Rattle.signal_operations.proofs.Tasks.{both_left, refused, promised_after}
use Rattle.signal_operations.proofs.asking.host_accepted.Goals as goal

-- what is done with a closure that was never asked
abbrev asked : Option ℕ → (Page → Page) → State → Done Page
asked signal F m = branch (is_aborted_source m.host signal) m (refused signal) (promised_after F)

pub returns-then-not-is_fresh : goal.returns-then-not-is_fresh
returns-then-not-is_fresh g c = λ closure is.
    let signal = c.args.signal in
    Answers-else (λ p. is_fresh closure.mark) (asked signal (host_queued c.args.k closure c.args.x signal)) (rejected_with (a_fault NotAllowedError)) (at c.args.page.now (g.L.Lines.seen c.args.lines.now))
    c.if-not-is_fresh.true (c.is_fresh.ensures ∙ ap (λ (o : Option HostClosure). option_map_or (λ (x : HostClosure). is_fresh x.mark) o false) is) c.reject_fault.ensures

pub returns-then-is_aborted_source : goal.returns-then-is_aborted_source
returns-then-is_aborted_source g c = λ closure is.
    let signal = c.args.signal in
    let F = host_queued c.args.k closure c.args.x signal in
    let old = at c.args.page.now (g.L.Lines.seen c.args.lines.now) in
    Answers-then (λ p. is_fresh closure.mark) (asked signal F) (rejected_with (a_fault NotAllowedError)) old
    c.if-not-is_fresh.false (c.is_fresh.ensures ∙ ap (λ (o : Option HostClosure). option_map_or (λ (x : HostClosure). is_fresh x.mark) o false) is)
    (Answers-then (λ p. is_aborted_source p signal) (refused signal) (promised_after F) old c.if-is_aborted_source.true c.is_aborted_source.ensures c.reject_aborted.ensures)

pub returns-then-not-are_both_left : goal.returns-then-not-are_both_left
returns-then-not-are_both_left g c = λ closure is.
    let signal = c.args.signal in
    let F = host_queued c.args.k closure c.args.x signal in
    let old = at c.args.page.now (g.L.Lines.seen c.args.lines.now) in
    Answers-then (λ p. is_fresh closure.mark) (asked signal F) (rejected_with (a_fault NotAllowedError)) old
    c.if-not-is_fresh.false (c.is_fresh.ensures ∙ ap (λ (o : Option HostClosure). option_map_or (λ (x : HostClosure). is_fresh x.mark) o false) is)
    (Answers-else (λ p. is_aborted_source p signal) (refused signal) (promised_after F) old c.if-is_aborted_source.false c.is_aborted_source.ensures
    (Answers-none_left g.L.Lines.keeping both_left (answers last_promise_value F) old c.throw.result c.if-not-are_both_left.true c.are_both_left.ensures c.throw.ensures))

pub returns-in_err-host_queued : goal.returns-in_err-host_queued
returns-in_err-host_queued g c = λ closure is.
    let signal = c.args.signal in
    let F = host_queued c.args.k closure c.args.x signal in
    let old = at c.args.page.now (g.L.Lines.seen c.args.lines.now) in
    Answers-then (λ p. is_fresh closure.mark) (asked signal F) (rejected_with (a_fault NotAllowedError)) old
    c.if-not-is_fresh.false (c.is_fresh.ensures ∙ ap (λ (o : Option HostClosure). option_map_or (λ (x : HostClosure). is_fresh x.mark) o false) is)
    (Answers-else (λ p. is_aborted_source p signal) (refused signal) (promised_after F) old c.if-is_aborted_source.false c.is_aborted_source.ensures
    (Answers-left both_left (answers last_promise_value F) old c.if-not-are_both_left.false c.are_both_left.ensures
    (Answers-exit (answers last_promise_value F) F old _ refl c.from_residual.ensures.1 (rw (to_z-of_z c.ranges.x) at (c.in_err-host_queued.ensures closure is)))))

pub returns : goal.returns
returns g c = λ closure is.
    let signal = c.args.signal in
    let F = host_queued c.args.k closure c.args.x signal in
    let old = at c.args.page.now (g.L.Lines.seen c.args.lines.now) in
    Answers-then (λ p. is_fresh closure.mark) (asked signal F) (rejected_with (a_fault NotAllowedError)) old
    c.if-not-is_fresh.false (c.is_fresh.ensures ∙ ap (λ (o : Option HostClosure). option_map_or (λ (x : HostClosure). is_fresh x.mark) o false) is)
    (Answers-else (λ p. is_aborted_source p signal) (refused signal) (promised_after F) old c.if-is_aborted_source.false c.is_aborted_source.ensures
    (Answers-left both_left (answers last_promise_value F) old c.if-not-are_both_left.false c.are_both_left.ensures
    (Answers-last F old c.promises_made.result c.give.result c.promises_made.ensures c.give.ensures (rw (to_z-of_z c.ranges.x) at (c.in_ok-host_queued.ensures closure is)))))
