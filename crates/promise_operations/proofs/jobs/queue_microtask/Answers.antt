use Rattle.std.proofs.Common.{refl}
use Rattle.page_types.specs.declared.FaultName.TheVariants.{TypeError}
use Rattle.page_parts.specs.Kinds.{Func, func_in}
use Rattle.lang_meaning.specs.Machine.{Done}
use Rattle.page_values.specs.Seen.{seen, seen_func}
use Rattle.page_model.specs.State.{Page, State}
use Rattle.page_model.specs.Operations.{does, where_left, registration_left, micro_registered}
use Rattle.page_state.specs.PageActs.{at}
use Rattle.page_answers.proofs.Choosing.{Answers-does, Answers-exit, Answers-given, Answers-left, Answers-none_left, Answers-not_given}
use Rattle.promise_operations.proofs.jobs.queue_microtask.Goals as goal

-- what is done with a function
abbrev next : Func → State → Done Page
next f m = where_left (registration_left m.host) m (does (micro_registered f))

pub returns-in_default : goal.returns-in_default
returns-in_default g c =
    Answers-not_given g.L.Lines.keeping (func_in (seen c.args.callback)) TypeError next (at c.args.page.now (g.L.Lines.seen c.args.lines.now)) c.throw.result
    c.in_default.ensures c.throw.ensures

pub returns-then-not-is_registration_left : goal.returns-then-not-is_registration_left
returns-then-not-is_registration_left g c =
    let f = seen_func c.in-Some.function in
    let old = at c.args.page.now (g.L.Lines.seen c.args.lines.now) in
    Answers-given (func_in (seen c.args.callback)) f TypeError next old c.in-Some.ensures
    (Answers-none_left g.L.Lines.keeping registration_left (does (micro_registered f)) old c.throw-then-not-is_registration_left.result c.if-not-is_registration_left.true c.is_registration_left.ensures c.throw-then-not-is_registration_left.ensures)

pub returns-in_err-micro_registered : goal.returns-in_err-micro_registered
returns-in_err-micro_registered g c =
    let f = seen_func c.in-Some.function in
    let old = at c.args.page.now (g.L.Lines.seen c.args.lines.now) in
    Answers-given (func_in (seen c.args.callback)) f TypeError next old c.in-Some.ensures
    (Answers-left registration_left (does (micro_registered f)) old c.if-not-is_registration_left.false c.is_registration_left.ensures
    (Answers-exit (does (micro_registered f)) (micro_registered f) old _ refl c.from_residual.ensures.1 c.in_err-micro_registered.ensures))

pub returns : goal.returns
returns g c =
    let f = seen_func c.in-Some.function in
    let old = at c.args.page.now (g.L.Lines.seen c.args.lines.now) in
    Answers-given (func_in (seen c.args.callback)) f TypeError next old c.in-Some.ensures
    (Answers-left registration_left (does (micro_registered f)) old c.if-not-is_registration_left.false c.is_registration_left.ensures
    (Answers-does (micro_registered f) old c.give_unit.result c.give_unit.ensures c.in_ok-micro_registered.ensures))
