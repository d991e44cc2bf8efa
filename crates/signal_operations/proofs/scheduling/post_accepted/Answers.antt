use Rattle.std.proofs.Common.{ℕ, Option, refl, ap}
use Rattle.page_types.specs.declared.Priority.{Priority}
use Rattle.page_parts.specs.Kinds.{Func}
use Rattle.lang_meaning.specs.Machine.{Done}
use Rattle.page_model.specs.State.{Page, State, PrioSource}
use Rattle.page_model.specs.PageHost.{bare}
use Rattle.page_model.specs.PageSignals.{is_aborted_source}
use Rattle.page_model.specs.Operations.{answers, last_promise_value, post_queued, prio_source_of}
use Rattle.page_values.specs.Seen.{seen_func}
use Rattle.page_tasks.specs.Seen.{prio_source}
use Rattle.page_state.specs.Standing.{page_of}
use Rattle.page_state.specs.PageActs.{at}
use Rattle.page_answers.proofs.Answering.{Answers-is}
use Rattle.page_answers.proofs.Choosing.{Answers-else, Answers-exit, Answers-last, Answers-left, Answers-none_left, Answers-then}
use Rattle.signal_operations.proofs.Tasks.{both_left, refused, promised_after}
use Rattle.signal_operations.proofs.scheduling.post_accepted.Goals as goal

-- what is done where the signal is not aborted, with this source
abbrev posted : Func → PrioSource → Option ℕ → ℕ → State → Done Page
posted f source signal ms = promised_after (post_queued f source signal ms)

-- the same with the source that the page tells
abbrev posted_by : Func → Option Priority → Option ℕ → ℕ → State → Done Page
posted_by f priority signal ms m = posted f (prio_source_of m.host priority signal) signal ms m

pub returns-then-is_aborted_source : goal.returns-then-is_aborted_source
returns-then-is_aborted_source g c =
    let signal = c.args.signal in
    Answers-then (λ p. is_aborted_source p signal) (refused signal) (posted_by (seen_func c.args.callback) c.args.priority signal c.args.ms) (at c.args.page.now (g.L.Lines.seen c.args.lines.now))
    c.if-is_aborted_source.true c.is_aborted_source.ensures c.reject_aborted.ensures

pub returns-then-not-are_both_left : goal.returns-then-not-are_both_left
returns-then-not-are_both_left g c =
    let f = seen_func c.args.callback in
    let signal = c.args.signal in
    let source = prio_source_of (page_of c.args.page.now) c.args.priority signal in
    let old = at c.args.page.now (g.L.Lines.seen c.args.lines.now) in
    Answers-else (λ p. is_aborted_source p signal) (refused signal) (posted_by f c.args.priority signal c.args.ms) old c.if-is_aborted_source.false c.is_aborted_source.ensures
    (Answers-is (posted f source signal c.args.ms) (posted_by f c.args.priority signal c.args.ms) old refl
    (Answers-none_left g.L.Lines.keeping both_left (answers last_promise_value (post_queued f source signal c.args.ms)) old c.throw.result
    c.if-not-are_both_left.true c.are_both_left.ensures c.throw.ensures))

pub returns-in_err-post_queued : goal.returns-in_err-post_queued
returns-in_err-post_queued g c =
    let f = seen_func c.args.callback in
    let signal = c.args.signal in
    let source = prio_source c.prio_source_of-source.result in
    let F = post_queued f source signal c.args.ms in
    let old = at c.args.page.now (g.L.Lines.seen c.args.lines.now) in
    Answers-else (λ p. is_aborted_source p signal) (refused signal) (posted_by f c.args.priority signal c.args.ms) old c.if-is_aborted_source.false c.is_aborted_source.ensures
    (Answers-is (posted f source signal c.args.ms) (posted_by f c.args.priority signal c.args.ms) old
    (ap (λ (s : PrioSource). posted f s signal c.args.ms (bare (page_of c.args.page.now))) c.prio_source_of-source.ensures)
    (Answers-left both_left (answers last_promise_value F) old c.if-not-are_both_left.false c.are_both_left.ensures
    (Answers-exit (answers last_promise_value F) F old _ refl c.from_residual.ensures.1 c.in_err-post_queued.ensures)))

pub returns : goal.returns
returns g c =
    let f = seen_func c.args.callback in
    let signal = c.args.signal in
    let source = prio_source c.prio_source_of-source.result in
    let F = post_queued f source signal c.args.ms in
    let old = at c.args.page.now (g.L.Lines.seen c.args.lines.now) in
    Answers-else (λ p. is_aborted_source p signal) (refused signal) (posted_by f c.args.priority signal c.args.ms) old c.if-is_aborted_source.false c.is_aborted_source.ensures
    (Answers-is (posted f source signal c.args.ms) (posted_by f c.args.priority signal c.args.ms) old
    (ap (λ (s : PrioSource). posted f s signal c.args.ms (bare (page_of c.args.page.now))) c.prio_source_of-source.ensures)
    (Answers-left both_left (answers last_promise_value F) old c.if-not-are_both_left.false c.are_both_left.ensures
    (Answers-last F old c.promises_made.result c.give.result c.promises_made.ensures c.give.ensures c.in_ok-post_queued.ensures)))
