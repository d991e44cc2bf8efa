use Rattle.std.proofs.Common.{refl}
use Rattle.page_model.specs.PageSignals.{is_aborted_source}
use Rattle.page_model.specs.Operations.{answers, continuation_queued, last_promise_value}
use Rattle.page_script.specs.Seen.{state_seen}
use Rattle.page_state.specs.PageActs.{at}
use Rattle.page_answers.proofs.Choosing.{Answers-else, Answers-exit, Answers-last, Answers-left, Answers-none_left, Answers-then}
use Rattle.signal_operations.proofs.Tasks.{both_left, refused, promised_after}
use Rattle.signal_operations.proofs.scheduling.yield_in.Goals as goal

pub returns-then-is_aborted_source : goal.returns-then-is_aborted_source
returns-then-is_aborted_source g c =
    let signal = c.args.state.abort_source in
    Answers-then (λ p. is_aborted_source p signal) (refused signal) (promised_after (continuation_queued (state_seen c.args.state))) (at c.args.page.now (g.L.Lines.seen c.args.lines.now))
    c.if-is_aborted_source.true c.is_aborted_source.ensures c.reject_aborted.ensures

pub returns-then-not-are_both_left : goal.returns-then-not-are_both_left
returns-then-not-are_both_left g c =
    let signal = c.args.state.abort_source in
    let F = continuation_queued (state_seen c.args.state) in
    let old = at c.args.page.now (g.L.Lines.seen c.args.lines.now) in
    Answers-else (λ p. is_aborted_source p signal) (refused signal) (promised_after F) old c.if-is_aborted_source.false c.is_aborted_source.ensures
    (Answers-none_left g.L.Lines.keeping both_left (answers last_promise_value F) old c.throw.result c.if-not-are_both_left.true c.are_both_left.ensures c.throw.ensures)

pub returns-in_err-continuation_queued : goal.returns-in_err-continuation_queued
returns-in_err-continuation_queued g c =
    let signal = c.args.state.abort_source in
    let F = continuation_queued (state_seen c.args.state) in
    let old = at c.args.page.now (g.L.Lines.seen c.args.lines.now) in
    Answers-else (λ p. is_aborted_source p signal) (refused signal) (promised_after F) old c.if-is_aborted_source.false c.is_aborted_source.ensures
    (Answers-left both_left (answers last_promise_value F) old c.if-not-are_both_left.false c.are_both_left.ensures
    (Answers-exit (answers last_promise_value F) F old _ refl c.from_residual.ensures.1 c.in_err-continuation_queued.ensures))

pub returns : goal.returns
returns g c =
    let signal = c.args.state.abort_source in
    let F = continuation_queued (state_seen c.args.state) in
    let old = at c.args.page.now (g.L.Lines.seen c.args.lines.now) in
    Answers-else (λ p. is_aborted_source p signal) (refused signal) (promised_after F) old c.if-is_aborted_source.false c.is_aborted_source.ensures
    (Answers-left both_left (answers last_promise_value F) old c.if-not-are_both_left.false c.are_both_left.ensures
    (Answers-last F old c.promises_made.result c.give.result c.promises_made.ensures c.give.ensures c.in_ok-continuation_queued.ensures))
