use Rattle.std.proofs.Common.{◌≡◌, ℕ, true, false, sym, ◌∙◌, ap, Option, Some, None}
use Rattle.std.specs.Prelude.{is_some}
use Rattle.page_types.specs.Values as model
use Rattle.page_parts.specs.Kinds.{promise_in}
use Rattle.page_parts.specs.Promises.{Fulfilled}
use Rattle.page_values.specs.Seen.{seen}
use Rattle.lang_meaning.specs.Machine.{Done, Gives}
use Rattle.page_model.specs.State.{Page, State}
use Rattle.page_model.specs.PageHost.{bare}
use Rattle.page_model.specs.Operations.{resolved_value}
use Rattle.page_state.specs.Standing.{page_of}
use Rattle.page_state.specs.PageActs.{at}
use Rattle.page_answers.specs.Settling.{outcome_given}
use Rattle.page_answers.proofs.Answering.{Answers-is}
use Rattle.page_answers.proofs.Choosing.{Answers-same}
use Rattle.promise_operations.proofs.promises.resolved.Goals as goal

as_it_is : (v : model.Value) (o : Option ℕ) → o ≡ promise_in v → is_some o ≡ true → (m : State) → Gives v m ≡ resolved_value v m
as_it_is v None is some m = absurd (cc)
as_it_is v (Some n) is some m = ap (λ (o : Option ℕ). elim o as (λ _. Done Page) [ Some n ↦ Gives v m | None ↦ outcome_given (Fulfilled v) m ]) is

in_a_new_one : (v : model.Value) (o : Option ℕ) → o ≡ promise_in v → is_some o ≡ false → (m : State) → outcome_given (Fulfilled v) m ≡ resolved_value v m
in_a_new_one v None is none m = ap (λ (o : Option ℕ). elim o as (λ _. Done Page) [ Some n ↦ Gives v m | None ↦ outcome_given (Fulfilled v) m ]) is
in_a_new_one v (Some n) is none m = absurd (cc)

pub returns-then-is_some : goal.returns-then-is_some
returns-then-is_some g c =
    let v = seen c.args.value in
    let old = at c.args.page.now (g.L.Lines.seen c.args.lines.now) in
    Answers-is (λ m. Gives v m) (resolved_value v) old (as_it_is v c.as_promise.result c.as_promise.ensures (sym c.is_some.ensures ∙ c.if-is_some.true) (bare (page_of c.args.page.now)))
    (Answers-same g.L.Lines.keeping v old c.give.result c.give.ensures)

pub returns : goal.returns
returns g c =
    let v = seen c.args.value in
    Answers-is (outcome_given (Fulfilled v)) (resolved_value v) (at c.args.page.now (g.L.Lines.seen c.args.lines.now))
    (in_a_new_one v c.as_promise.result c.as_promise.ensures (sym c.is_some.ensures ∙ c.if-is_some.false) (bare (page_of c.args.page.now))) c.give_settled.ensures
