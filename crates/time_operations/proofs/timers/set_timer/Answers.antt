use Rattle.std.proofs.Common.{SFits, w64, rules}
use Rattle.std.proofs.Math.Facts.{to_z-of_z}
use Rattle.page_types.specs.declared.FaultName.TheVariants.{TypeError}
use Rattle.page_parts.specs.Kinds.{func_in, int_in}
use Rattle.lang_meaning.specs.Machine.{given}
use Rattle.page_values.specs.Seen.{seen, seen_func}
use Rattle.page_state.specs.PageActs.{at}
use Rattle.time_operations.specs.Rows.{timer_accepted}
use Rattle.page_answers.proofs.Choosing.{Answers-given, Answers-not_given}
use Rattle.time_operations.proofs.timers.set_timer.Goals as goal

pub returns-in_default : goal.returns-in_default
returns-in_default g c =
    let old = at c.args.page.now (g.L.Lines.seen c.args.lines.now) in
    Answers-not_given g.L.Lines.keeping (func_in (seen c.args.callback)) TypeError (λ f m. given (int_in (seen c.args.delay)) TypeError m (timer_accepted c.args.kind c.args.repeats f)) old c.throw.result c.in_default.ensures c.throw.ensures

pub returns-in_default-as_int : goal.returns-in_default-as_int
returns-in_default-as_int g c =
    let old = at c.args.page.now (g.L.Lines.seen c.args.lines.now) in
    let f = seen_func c.in-Some.callback in
    Answers-given (func_in (seen c.args.callback)) f TypeError (λ f m. given (int_in (seen c.args.delay)) TypeError m (timer_accepted c.args.kind c.args.repeats f)) old c.in-Some.ensures
    (Answers-not_given g.L.Lines.keeping (int_in (seen c.args.delay)) TypeError (timer_accepted c.args.kind c.args.repeats f) old c.throw-in_default-as_int.result c.in_default-as_int.ensures c.throw-in_default-as_int.ensures)

pub returns : goal.returns
returns g c =
    let old = at c.args.page.now (g.L.Lines.seen c.args.lines.now) in
    let fits : SFits w64 c.in-Some-as_int.delay = search rules in
    let f = seen_func c.in-Some.callback in
    Answers-given (func_in (seen c.args.callback)) f TypeError (λ f m. given (int_in (seen c.args.delay)) TypeError m (timer_accepted c.args.kind c.args.repeats f)) old c.in-Some.ensures
    (Answers-given (int_in (seen c.args.delay)) c.in-Some-as_int.delay TypeError (timer_accepted c.args.kind c.args.repeats f) old c.in-Some-as_int.ensures (rw (to_z-of_z fits) at c.accept_timer.ensures))
