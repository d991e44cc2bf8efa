use Rattle.std.proofs.Common.{ℕ, [], ◌∷◌, refl}
use Rattle.page_types.specs.Values.{Value, ListValue, values_of}
use Rattle.page_types.specs.declared.FaultName.TheVariants.{TypeError, RangeError}
use Rattle.page_parts.specs.Kinds.{within_limits}
use Rattle.lang_meaning.specs.Machine.{Done, given}
use Rattle.page_model.specs.State.{Page, State}
use Rattle.page_model.specs.Operations.{does, port_in, sendable_in, posted}
use Rattle.page_values.specs.Seen.{seen}
use Rattle.page_state.specs.PageActs.{at}
use Rattle.page_answers.proofs.Choosing.{Answers-does, Answers-exit, Answers-given, Answers-not_given}
use Rattle.time_operations.proofs.Rows.{sendable, not_sendable, light, heavy}
use Rattle.time_operations.proofs.messages.post_message.Goals as goal

-- what is done with a message that is light enough, with a value that may be sent, and with a port
abbrev last : ℕ → Value → Value → State → Done Page
last port v whole m = does (posted port v) m

abbrev more : Value → ℕ → Value → State → Done Page
more n port v m = given (within_limits (ListValue (values_of (n ∷ v ∷ [])))) RangeError m (last port v)

abbrev next : Value → Value → ℕ → State → Done Page
next n v port m = given (sendable_in v) TypeError m (more n port)

pub returns-in_default : goal.returns-in_default
returns-in_default g c =
    let n = seen c.args.port in
    Answers-not_given g.L.Lines.keeping (port_in n) TypeError (next n (seen c.args.value)) (at c.args.page.now (g.L.Lines.seen c.args.lines.now)) c.throw.result c.in_default.ensures c.throw.ensures

pub returns-then-not-is_sendable : goal.returns-then-not-is_sendable
returns-then-not-is_sendable g c =
    let n = seen c.args.port in
    let v = seen c.args.value in
    let old = at c.args.page.now (g.L.Lines.seen c.args.lines.now) in
    Answers-given (port_in n) c.in-Some.port TypeError (next n v) old c.in-Some.ensures
    (Answers-not_given g.L.Lines.keeping (sendable_in v) TypeError (more n c.in-Some.port) old c.throw-then-not-is_sendable.result (not_sendable v c.if-not-is_sendable.true c.is_sendable.ensures) c.throw-then-not-is_sendable.ensures)

pub returns-then-not-is_light : goal.returns-then-not-is_light
returns-then-not-is_light g c =
    let n = seen c.args.port in
    let v = seen c.args.value in
    let old = at c.args.page.now (g.L.Lines.seen c.args.lines.now) in
    let port = c.in-Some.port in
    Answers-given (port_in n) port TypeError (next n v) old c.in-Some.ensures
    (Answers-given (sendable_in v) v TypeError (more n port) old (sendable v c.if-not-is_sendable.false c.is_sendable.ensures)
    (Answers-not_given g.L.Lines.keeping (within_limits (ListValue (values_of (n ∷ v ∷ [])))) RangeError (last port v) old c.throw-then-not-is_light.result (heavy n v port c.in-Some.ensures c.if-not-is_light.true c.is_light.ensures) c.throw-then-not-is_light.ensures))

pub returns-in_err-posted : goal.returns-in_err-posted
returns-in_err-posted g c =
    let n = seen c.args.port in
    let v = seen c.args.value in
    let old = at c.args.page.now (g.L.Lines.seen c.args.lines.now) in
    let port = c.in-Some.port in
    Answers-given (port_in n) port TypeError (next n v) old c.in-Some.ensures
    (Answers-given (sendable_in v) v TypeError (more n port) old (sendable v c.if-not-is_sendable.false c.is_sendable.ensures)
    (Answers-given (within_limits (ListValue (values_of (n ∷ v ∷ [])))) _ RangeError (last port v) old (light n v port c.in-Some.ensures c.if-not-is_light.false c.is_light.ensures)
    (Answers-exit (does (posted port v)) (posted port v) old _ refl c.from_residual.ensures.1 c.in_err-posted.ensures)))

pub returns : goal.returns
returns g c =
    let n = seen c.args.port in
    let v = seen c.args.value in
    let old = at c.args.page.now (g.L.Lines.seen c.args.lines.now) in
    let port = c.in-Some.port in
    Answers-given (port_in n) port TypeError (next n v) old c.in-Some.ensures
    (Answers-given (sendable_in v) v TypeError (more n port) old (sendable v c.if-not-is_sendable.false c.is_sendable.ensures)
    (Answers-given (within_limits (ListValue (values_of (n ∷ v ∷ [])))) _ RangeError (last port v) old (light n v port c.in-Some.ensures c.if-not-is_light.false c.is_light.ensures)
    (Answers-does (posted port v) old c.give_unit.result c.give_unit.ensures c.in_ok-posted.ensures)))
