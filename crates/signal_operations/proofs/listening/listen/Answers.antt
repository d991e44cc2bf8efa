use Rattle.std.proofs.Common.{ℕ, ◌<◌, ◌^◌, List, refl, sym, ◌∙◌, ap, rules}
use Rattle.std.specs.Prelude.{ℤ, pos}
use Rattle.std.specs.Int.{w64}
use Rattle.std.proofs.lemmas.Int.{to_z_pos}
use Rattle.page_types.specs.Values as model
use Rattle.page_types.specs.Values.{IntValue}
use Rattle.page_types.specs.declared.FaultName.TheVariants.{TypeError}
use Rattle.page_parts.specs.Kinds.{Func, func_in, text_in}
use Rattle.page_parts.specs.Listeners.{Target}
use Rattle.page_events.specs.Seen.{seen_target}
use Rattle.page_values.specs.Seen.{seen, seen_func}
use Rattle.lang_meaning.specs.Machine.{Done, given}
use Rattle.lang_meaning.specs.HostSteps.{StepValue}
use Rattle.page_model.specs.State.{Page, State, last_registration}
use Rattle.page_model.specs.Operations.{answers, listener_added, registration_left, target_in, where_left}
use Rattle.page_state.specs.PageActs.{at}
use Rattle.page_answers.proofs.Choosing.{Answers-exit, Answers-given, Answers-left, Answers-none_left, Answers-not_given}
use Rattle.signal_operations.proofs.Answered.{Answers-made}
use Rattle.signal_operations.proofs.listening.listen.Goals as goal

-- the number of the last registration, as a value
abbrev number : Page → model.Value
number p = IntValue (pos (last_registration p))

-- what is done with the arguments, one after another
abbrev with_function : Target → List ℕ → Func → State → Done Page
with_function target name f m = where_left (registration_left m.host) m (answers number (listener_added target name f))

abbrev with_name : model.Value → Target → List ℕ → State → Done Page
with_name f target name m = given (func_in f) TypeError m (with_function target name)

abbrev with_target : model.Value → model.Value → Target → State → Done Page
with_target name f target m = given (text_in name) TypeError m (with_name f target)

pub returns-in_default : goal.returns-in_default
returns-in_default g c =
    Answers-not_given g.L.Lines.keeping (target_in (seen c.args.target)) TypeError (with_target (seen c.args.name) (seen c.args.callback)) (at c.args.page.now (g.L.Lines.seen c.args.lines.now)) c.throw.result
    c.in_default.ensures c.throw.ensures

pub returns-in_default-as_text : goal.returns-in_default-as_text
returns-in_default-as_text g c =
    let target = seen_target c.in-Some.target in
    let old = at c.args.page.now (g.L.Lines.seen c.args.lines.now) in
    Answers-given (target_in (seen c.args.target)) target TypeError (with_target (seen c.args.name) (seen c.args.callback)) old c.in-Some.ensures
    (Answers-not_given g.L.Lines.keeping (text_in (seen c.args.name)) TypeError (with_name (seen c.args.callback) target) old c.throw-in_default-as_text.result
    (sym c.in_default-as_text.ensures) c.throw-in_default-as_text.ensures)

pub returns-in_default-function_of : goal.returns-in_default-function_of
returns-in_default-function_of g c =
    let target = seen_target c.in-Some.target in
    let name = c.in-Some-as_text.name.now in
    let old = at c.args.page.now (g.L.Lines.seen c.args.lines.now) in
    Answers-given (target_in (seen c.args.target)) target TypeError (with_target (seen c.args.name) (seen c.args.callback)) old c.in-Some.ensures
    (Answers-given (text_in (seen c.args.name)) name TypeError (with_name (seen c.args.callback) target) old (sym c.in-Some-as_text.ensures)
    (Answers-not_given g.L.Lines.keeping (func_in (seen c.args.callback)) TypeError (with_function target name) old c.throw-in_default-function_of.result
    c.in_default-function_of.ensures c.throw-in_default-function_of.ensures))

pub returns-then-not-is_registration_left : goal.returns-then-not-is_registration_left
returns-then-not-is_registration_left g c =
    let target = seen_target c.in-Some.target in
    let name = c.in-Some-as_text.name.now in
    let f = seen_func c.in-Some-function_of.callback in
    let old = at c.args.page.now (g.L.Lines.seen c.args.lines.now) in
    Answers-given (target_in (seen c.args.target)) target TypeError (with_target (seen c.args.name) (seen c.args.callback)) old c.in-Some.ensures
    (Answers-given (text_in (seen c.args.name)) name TypeError (with_name (seen c.args.callback) target) old (sym c.in-Some-as_text.ensures)
    (Answers-given (func_in (seen c.args.callback)) f TypeError (with_function target name) old c.in-Some-function_of.ensures
    (Answers-none_left g.L.Lines.keeping registration_left (answers number (listener_added target name f)) old c.throw-then-not-is_registration_left.result
    c.if-not-is_registration_left.true c.is_registration_left.ensures c.throw-then-not-is_registration_left.ensures)))

pub returns-in_err-r : goal.returns-in_err-r
returns-in_err-r g c =
    let target = seen_target c.in-Some.target in
    let name = c.in-Some-as_text.name.now in
    let f = seen_func c.in-Some-function_of.callback in
    let F = listener_added target name f in
    let old = at c.args.page.now (g.L.Lines.seen c.args.lines.now) in
    Answers-given (target_in (seen c.args.target)) target TypeError (with_target (seen c.args.name) (seen c.args.callback)) old c.in-Some.ensures
    (Answers-given (text_in (seen c.args.name)) name TypeError (with_name (seen c.args.callback) target) old (sym c.in-Some-as_text.ensures)
    (Answers-given (func_in (seen c.args.callback)) f TypeError (with_function target name) old c.in-Some-function_of.ensures
    (Answers-left registration_left (answers number F) old c.if-not-is_registration_left.false c.is_registration_left.ensures
    (Answers-exit (answers number F) F old _ refl c.from_residual.ensures.1 c.in_err-r.ensures.does))))

pub returns : goal.returns
returns g c =
    let target = seen_target c.in-Some.target in
    let name = c.in-Some-as_text.name.now in
    let f = seen_func c.in-Some-function_of.callback in
    let F = listener_added target name f in
    let small : c.in_ok-r.r < 2 ^ 63 = search rules in
    let old = at c.args.page.now (g.L.Lines.seen c.args.lines.now) in
    Answers-given (target_in (seen c.args.target)) target TypeError (with_target (seen c.args.name) (seen c.args.callback)) old c.in-Some.ensures
    (Answers-given (text_in (seen c.args.name)) name TypeError (with_name (seen c.args.callback) target) old (sym c.in-Some-as_text.ensures)
    (Answers-given (func_in (seen c.args.callback)) f TypeError (with_function target name) old c.in-Some-function_of.ensures
    (Answers-left registration_left (answers number F) old c.if-not-is_registration_left.false c.is_registration_left.ensures
    (Answers-made number F old c.give.result (λ q. refl) (c.give.ensures ∙ ap (λ (z : ℤ). StepValue (IntValue z)) (to_z_pos w64 c.in_ok-r.r small) ∙ ap (λ (n : ℕ). StepValue (IntValue (pos n))) c.in_ok-r.ensures.number) c.in_ok-r.ensures.does))))
