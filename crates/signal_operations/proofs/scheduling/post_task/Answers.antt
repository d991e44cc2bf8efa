use Rattle.std.proofs.Common.{ℕ, Option}
use Rattle.page_types.specs.Values as model
use Rattle.page_types.specs.declared.Priority.{Priority}
use Rattle.page_parts.specs.Kinds.{Func, func_in}
use Rattle.page_values.specs.Seen.{seen, seen_func}
use Rattle.lang_meaning.specs.Machine.{Done}
use Rattle.page_model.specs.State.{Page, State}
use Rattle.page_model.specs.Operations.{delay_in, given_or_rejected, post_accepted, priority_or_unit, signal_or_unit}
use Rattle.page_state.specs.PageActs.{at}
use Rattle.page_answers.proofs.Choosing.{Answers-accepted, Answers-rejected}
use Rattle.signal_operations.proofs.scheduling.post_task.Goals as goal

-- what is done with the arguments, one after another
abbrev with_delay : Func → Option Priority → Option ℕ → ℕ → State → Done Page
with_delay f priority signal ms m = post_accepted f priority signal ms m

abbrev with_signal : model.Value → Func → Option Priority → Option ℕ → State → Done Page
with_signal ms f priority signal m = given_or_rejected (delay_in ms) m (with_delay f priority signal)

abbrev with_priority : model.Value → model.Value → Func → Option Priority → State → Done Page
with_priority signal ms f priority m = given_or_rejected (signal_or_unit signal) m (with_signal ms f priority)

abbrev with_function : model.Value → model.Value → model.Value → Func → State → Done Page
with_function priority signal ms f m = given_or_rejected (priority_or_unit priority) m (with_priority signal ms f)

pub returns-in_default : goal.returns-in_default
returns-in_default g c =
    Answers-rejected (func_in (seen c.args.callback)) (with_function (seen c.args.priority) (seen c.args.signal) (seen c.args.ms)) (at c.args.page.now (g.L.Lines.seen c.args.lines.now))
    c.in_default.ensures c.reject_fault.ensures

pub returns-in_default-priority_or_unit : goal.returns-in_default-priority_or_unit
returns-in_default-priority_or_unit g c =
    let f = seen_func c.in-Some.callback in
    let old = at c.args.page.now (g.L.Lines.seen c.args.lines.now) in
    Answers-accepted (func_in (seen c.args.callback)) f (with_function (seen c.args.priority) (seen c.args.signal) (seen c.args.ms)) old c.in-Some.ensures
    (Answers-rejected (priority_or_unit (seen c.args.priority)) (with_priority (seen c.args.signal) (seen c.args.ms) f) old
    c.in_default-priority_or_unit.ensures c.reject_fault-in_default-priority_or_unit.ensures)

pub returns-in_default-signal_or_unit : goal.returns-in_default-signal_or_unit
returns-in_default-signal_or_unit g c =
    let f = seen_func c.in-Some.callback in
    let priority = c.in-Some-priority_or_unit.priority in
    let old = at c.args.page.now (g.L.Lines.seen c.args.lines.now) in
    Answers-accepted (func_in (seen c.args.callback)) f (with_function (seen c.args.priority) (seen c.args.signal) (seen c.args.ms)) old c.in-Some.ensures
    (Answers-accepted (priority_or_unit (seen c.args.priority)) priority (with_priority (seen c.args.signal) (seen c.args.ms) f) old c.in-Some-priority_or_unit.ensures
    (Answers-rejected (signal_or_unit (seen c.args.signal)) (with_signal (seen c.args.ms) f priority) old
    c.in_default-signal_or_unit.ensures c.reject_fault-in_default-signal_or_unit.ensures))

pub returns-in_default-delay_in : goal.returns-in_default-delay_in
returns-in_default-delay_in g c =
    let f = seen_func c.in-Some.callback in
    let priority = c.in-Some-priority_or_unit.priority in
    let signal = c.in-Some-signal_or_unit.signal in
    let old = at c.args.page.now (g.L.Lines.seen c.args.lines.now) in
    Answers-accepted (func_in (seen c.args.callback)) f (with_function (seen c.args.priority) (seen c.args.signal) (seen c.args.ms)) old c.in-Some.ensures
    (Answers-accepted (priority_or_unit (seen c.args.priority)) priority (with_priority (seen c.args.signal) (seen c.args.ms) f) old c.in-Some-priority_or_unit.ensures
    (Answers-accepted (signal_or_unit (seen c.args.signal)) signal (with_signal (seen c.args.ms) f priority) old c.in-Some-signal_or_unit.ensures
    (Answers-rejected (delay_in (seen c.args.ms)) (with_delay f priority signal) old
    c.in_default-delay_in.ensures.delay c.reject_fault-in_default-delay_in.ensures)))

pub returns : goal.returns
returns g c =
    let f = seen_func c.in-Some.callback in
    let priority = c.in-Some-priority_or_unit.priority in
    let signal = c.in-Some-signal_or_unit.signal in
    let ms = c.in-Some-delay_in.ms in
    let old = at c.args.page.now (g.L.Lines.seen c.args.lines.now) in
    Answers-accepted (func_in (seen c.args.callback)) f (with_function (seen c.args.priority) (seen c.args.signal) (seen c.args.ms)) old c.in-Some.ensures
    (Answers-accepted (priority_or_unit (seen c.args.priority)) priority (with_priority (seen c.args.signal) (seen c.args.ms) f) old c.in-Some-priority_or_unit.ensures
    (Answers-accepted (signal_or_unit (seen c.args.signal)) signal (with_signal (seen c.args.ms) f priority) old c.in-Some-signal_or_unit.ensures
    (Answers-accepted (delay_in (seen c.args.ms)) ms (with_delay f priority signal) old c.in-Some-delay_in.ensures.delay
    c.post_accepted.ensures)))
