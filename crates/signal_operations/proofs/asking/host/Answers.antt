use Rattle.std.proofs.Common.{ℕ, Option, SFits, rules}
use Rattle.std.specs.Int.{w64}
use Rattle.std.proofs.lemmas.Int.{to_z-of_z}
use Rattle.std.specs.Prelude.{ℤ}
use Rattle.page_types.specs.Values as model
use Rattle.page_parts.specs.Kinds.{int_in}
use Rattle.page_values.specs.Seen.{seen}
use Rattle.lang_meaning.specs.Machine.{Done}
use Rattle.page_model.specs.State.{Page, State}
use Rattle.page_model.specs.Operations.{given_or_rejected, host_asked, signal_or_unit}
use Rattle.page_state.specs.PageActs.{at}
use Rattle.page_answers.proofs.Choosing.{Answers-accepted, Answers-rejected}
use Rattle.signal_operations.proofs.asking.host.Goals as goal

-- what is done with the arguments, one after another
abbrev with_signal : ℤ → ℤ → Option ℕ → State → Done Page
with_signal k x signal m = host_asked k x signal m

abbrev with_number : model.Value → ℤ → ℤ → State → Done Page
with_number signal k x m = given_or_rejected (signal_or_unit signal) m (with_signal k x)

abbrev with_closure : model.Value → model.Value → ℤ → State → Done Page
with_closure x signal k m = given_or_rejected (int_in x) m (with_number signal k)

pub returns-in_default : goal.returns-in_default
returns-in_default g c =
    Answers-rejected (int_in (seen c.args.closure)) (with_closure (seen c.args.number) (seen c.args.signal)) (at c.args.page.now (g.L.Lines.seen c.args.lines.now))
    c.in_default.ensures c.reject_fault.ensures

pub returns-in_default-as_int : goal.returns-in_default-as_int
returns-in_default-as_int g c =
    let k = c.in-Some.k in
    let old = at c.args.page.now (g.L.Lines.seen c.args.lines.now) in
    Answers-accepted (int_in (seen c.args.closure)) k (with_closure (seen c.args.number) (seen c.args.signal)) old c.in-Some.ensures
    (Answers-rejected (int_in (seen c.args.number)) (with_number (seen c.args.signal) k) old c.in_default-as_int.ensures c.reject_fault-in_default-as_int.ensures)

pub returns-in_default-signal_or_unit : goal.returns-in_default-signal_or_unit
returns-in_default-signal_or_unit g c =
    let k = c.in-Some.k in
    let x = c.in-Some-as_int.x in
    let old = at c.args.page.now (g.L.Lines.seen c.args.lines.now) in
    Answers-accepted (int_in (seen c.args.closure)) k (with_closure (seen c.args.number) (seen c.args.signal)) old c.in-Some.ensures
    (Answers-accepted (int_in (seen c.args.number)) x (with_number (seen c.args.signal) k) old c.in-Some-as_int.ensures
    (Answers-rejected (signal_or_unit (seen c.args.signal)) (with_signal k x) old c.in_default-signal_or_unit.ensures c.reject_fault-in_default-signal_or_unit.ensures))

pub returns : goal.returns
returns g c =
    let k = c.in-Some.k in
    let x = c.in-Some-as_int.x in
    let closure : SFits w64 c.in-Some.k = search rules in
    let number : SFits w64 c.in-Some-as_int.x = search rules in
    let signal = c.in-Some-signal_or_unit.signal in
    let old = at c.args.page.now (g.L.Lines.seen c.args.lines.now) in
    Answers-accepted (int_in (seen c.args.closure)) k (with_closure (seen c.args.number) (seen c.args.signal)) old c.in-Some.ensures
    (Answers-accepted (int_in (seen c.args.number)) x (with_number (seen c.args.signal) k) old c.in-Some-as_int.ensures
    (Answers-accepted (signal_or_unit (seen c.args.signal)) signal (with_signal k x) old c.in-Some-signal_or_unit.ensures (rw (to_z-of_z w64 k closure, to_z-of_z w64 x number) at c.host_asked.ensures)))
