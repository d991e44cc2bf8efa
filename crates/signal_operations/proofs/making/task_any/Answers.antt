use Rattle.std.proofs.Common.{ℕ, List, ap, Option, Some, None}
use Rattle.page_types.specs.declared.FaultName.TheVariants.{TypeError}
use Rattle.page_types.specs.declared.Priority.{Priority}
use Rattle.page_types.specs.Values as model
use Rattle.page_parts.specs.Kinds.{signal_in}
use Rattle.page_values.specs.Seen.{seen}
use Rattle.lang_meaning.specs.Machine.{Done, given}
use Rattle.page_model.specs.State.{Page, State}
use Rattle.page_model.specs.PageHost.{bare}
use Rattle.page_model.specs.Operations.{any_following, any_with_priority, make_task_any, priority_in, signals_in}
use Rattle.page_state.specs.Standing.{page_of}
use Rattle.page_state.specs.PageActs.{at}
use Rattle.page_answers.proofs.Answering.{Answers-is}
use Rattle.page_answers.proofs.Choosing.{Answers-given, Answers-not_given, Answers-wanting}
use Rattle.signal_operations.proofs.making.task_any.Goals as goal

-- what is done with the signals, where the other argument names this priority
abbrev with_priority : Option Priority → model.Value → List ℕ → State → Done Page
with_priority o x ss m = elim o [ Some priority ↦ any_with_priority ss priority None m | None ↦ given (signal_in x) TypeError m (any_following ss) ]

-- the same for whatever the other argument is
abbrev depending_on : model.Value → List ℕ → State → Done Page
depending_on x ss = with_priority (priority_in x) x ss

pub returns-in_err-of : goal.returns-in_err-of
returns-in_err-of g c =
    Answers-wanting g.L.Lines.keeping (make_task_any (seen c.args.list) (seen c.args.priority)) c.args.page.now _ _ c.from_residual.ensures.1 c.in_err-of.ensures.memory

pub returns-in_default : goal.returns-in_default
returns-in_default g c =
    Answers-not_given g.L.Lines.keeping (signals_in (seen c.args.list)) TypeError (depending_on (seen c.args.priority)) (at c.args.page.now (g.L.Lines.seen c.args.lines.now)) c.throw.result
    (rw c.in_default.is at c.in_ok-of.ensures.numbers) c.throw.ensures

pub returns-in-Some-priority_in : goal.returns-in-Some-priority_in
returns-in-Some-priority_in g c =
    let x = seen c.args.priority in
    let ss = c.in-Some.of.items in
    let old = at c.args.page.now (g.L.Lines.seen c.args.lines.now) in
    Answers-given (signals_in (seen c.args.list)) ss TypeError (depending_on x) old (rw c.in-Some.is at c.in_ok-of.ensures.numbers)
    (Answers-is (with_priority (Some c.in-Some-priority_in.fixed) x ss) (depending_on x ss) old
    (ap (λ (o : Option Priority). with_priority o x ss (bare (page_of c.args.page.now))) c.in-Some-priority_in.ensures)
    (rw c.deref.ensures.value at c.any_with_priority.ensures))

pub returns-in-Some-as_signal : goal.returns-in-Some-as_signal
returns-in-Some-as_signal g c =
    let x = seen c.args.priority in
    let ss = c.in-Some.of.items in
    let s = c.in-Some-as_signal.s in
    let old = at c.args.page.now (g.L.Lines.seen c.args.lines.now) in
    Answers-given (signals_in (seen c.args.list)) ss TypeError (depending_on x) old (rw c.in-Some.is at c.in_ok-of.ensures.numbers)
    (Answers-is (with_priority None x ss) (depending_on x ss) old
    (ap (λ (o : Option Priority). with_priority o x ss (bare (page_of c.args.page.now))) c.in_default-priority_in.ensures)
    (Answers-given (signal_in x) s TypeError (any_following ss) old c.in-Some-as_signal.ensures (rw c.deref-in-Some-as_signal.ensures.value at c.any_following.ensures)))

pub returns : goal.returns
returns g c =
    let x = seen c.args.priority in
    let ss = c.in-Some.of.items in
    let old = at c.args.page.now (g.L.Lines.seen c.args.lines.now) in
    Answers-given (signals_in (seen c.args.list)) ss TypeError (depending_on x) old (rw c.in-Some.is at c.in_ok-of.ensures.numbers)
    (Answers-is (with_priority None x ss) (depending_on x ss) old
    (ap (λ (o : Option Priority). with_priority o x ss (bare (page_of c.args.page.now))) c.in_default-priority_in.ensures)
    (Answers-not_given g.L.Lines.keeping (signal_in x) TypeError (any_following ss) old c.throw-in-None.result c.in-None.ensures c.throw-in-None.ensures))
