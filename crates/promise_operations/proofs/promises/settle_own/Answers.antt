use Rattle.std.proofs.Common.{refl, ℕ, Bool}
use Rattle.page_types.specs.Values.{UnitValue}
use Rattle.page_types.specs.declared.FaultName.TheVariants.{TypeError}
use Rattle.page_parts.specs.Words.{has_number}
use Rattle.page_parts.specs.Kinds.{promise_in}
use Rattle.page_parts.specs.Promises.{Settled}
use Rattle.page_values.specs.Seen.{seen}
use Rattle.promise_core.specs.Seen.{settled_seen}
use Rattle.lang_meaning.specs.Machine.{Done, branch, throw_fault}
use Rattle.page_model.specs.State.{Page, State}
use Rattle.page_model.specs.PagePromises.{settle}
use Rattle.page_model.specs.Operations.{does, settle_own}
use Rattle.page_state.specs.PageActs.{at}
use Rattle.page_answers.proofs.Answering.{Answers-wants}
use Rattle.page_answers.proofs.Choosing.{Answers-does, Answers-else, Answers-exit, Answers-fault, Answers-given, Answers-not_given, Answers-then}
use Rattle.promise_operations.proofs.promises.settle_own.Goals as goal

-- whether the script made promise number n
abbrev own : ℕ → Page → Bool
own n p = has_number p.script_promises n

-- what is done with promise number n
abbrev next : Settled → ℕ → State → Done Page
next how n m = branch (own n m.host) m (does (settle n how)) (throw_fault TypeError)

pub returns-in_default : goal.returns-in_default
returns-in_default g c =
    Answers-not_given g.L.Lines.keeping (promise_in (seen c.args.promise.now)) TypeError (next (settled_seen c.args.how)) (at c.args.page.now (g.L.Lines.seen c.args.lines.now)) c.throw.result
    c.in_default.ensures c.throw.ensures

pub returns-then-number-eq0 : goal.returns-then-number-eq0
returns-then-number-eq0 g c =
    Answers-wants g.L.Lines.keeping (settle_own (λ n v. settle n (settled_seen c.args.how)) (seen c.args.promise.now) UnitValue) c.args.page.now c.args.page.now (g.L.Lines.seen c.args.lines.now) refl

pub returns-then-not-is_script_promise : goal.returns-then-not-is_script_promise
returns-then-not-is_script_promise g c =
    let how = settled_seen c.args.how in
    let n = c.in-Some.number in
    let old = at c.args.page.now (g.L.Lines.seen c.args.lines.now) in
    Answers-given (promise_in (seen c.args.promise.now)) n TypeError (next how) old c.in-Some.ensures
    (Answers-else (own n) (does (settle n how)) (throw_fault TypeError) old c.if-not-is_script_promise.true c.is_script_promise.ensures
    (Answers-fault g.L.Lines.keeping TypeError old c.throw-then-not-is_script_promise.result c.throw-then-not-is_script_promise.ensures))

pub returns-in_err-settle : goal.returns-in_err-settle
returns-in_err-settle g c =
    let how = settled_seen c.args.how in
    let n = c.in-Some.number in
    let old = at c.args.page.now (g.L.Lines.seen c.args.lines.now) in
    Answers-given (promise_in (seen c.args.promise.now)) n TypeError (next how) old c.in-Some.ensures
    (Answers-then (own n) (does (settle n how)) (throw_fault TypeError) old c.if-not-is_script_promise.false c.is_script_promise.ensures
    (Answers-exit (does (settle n how)) (settle n how) old _ refl c.from_residual.ensures.1 c.in_err-settle.ensures))

pub returns : goal.returns
returns g c =
    let how = settled_seen c.args.how in
    let n = c.in-Some.number in
    let old = at c.args.page.now (g.L.Lines.seen c.args.lines.now) in
    Answers-given (promise_in (seen c.args.promise.now)) n TypeError (next how) old c.in-Some.ensures
    (Answers-then (own n) (does (settle n how)) (throw_fault TypeError) old c.if-not-is_script_promise.false c.is_script_promise.ensures
    (Answers-does (settle n how) old c.give_unit.result c.give_unit.ensures c.in_ok-settle.ensures))
