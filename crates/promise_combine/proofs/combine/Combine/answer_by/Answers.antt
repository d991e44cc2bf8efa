use Rattle.std.proofs.Common.{◌≡◌, ◌+◌, ap, sym, ◌∙◌}
use Rattle.std.specs.Prelude.{Some, None}
use Rattle.promise_core.specs.Seen.{settled_seen}
use Rattle.promise_combine.specs.Seen.{kind_seen, outcomes_with}
use Rattle.promise_combine.specs.Answers.{listed_answer}
use Rattle.promise_combine.proofs.Kept.{at_once-none, answer-at_once, answer-none, answer-listed}
use Rattle.promise_combine.proofs.combine.Combine.answer_by.Goals as goal

pub returns-in-Some-clause-answer : goal.returns-in-Some-clause-answer
returns-in-Some-clause-answer c =
    let inside = c.self.inside in
    answer-at_once c.args.self.now (kind_seen inside.kind) inside.outcomes.items inside.order.items inside.answered c.args.place c.args.outcome.now (settled_seen c.in_ok-copied.copied) c.self.view_is c.self.invariant.0
    c.if-self.false c.requires.fresh c.requires.within (ap Some c.in_ok-copied.ensures ∙ c.in-Some.ensures)

pub returns-then-len-clause-answer : goal.returns-then-len-clause-answer
returns-then-len-clause-answer c =
    let inside = c.self.inside in
    answer-none c.args.self.now (kind_seen inside.kind) inside.outcomes.items inside.order.items inside.answered c.args.place c.args.outcome.now c.self.view_is c.self.invariant.0
    c.if-self.false c.requires.fresh c.requires.within c.in_default.ensures
    (λ last. c.if-len.true (ap (λ n. n + 1) (c.len.ensures ∙ inside.order.ok.0) ∙ (last ∙ sym (c.len-2.ensures ∙ inside.outcomes.ok.0))))

pub returns-clause-answer : goal.returns-clause-answer
returns-clause-answer c =
    let inside = c.self.inside in
    let kind = kind_seen inside.kind in
    let lent = ap (λ os. listed_answer kind (outcomes_with os c.args.place c.args.outcome.now)) c.deref.ensures.value in
    answer-listed c.args.self.now kind inside.outcomes.items inside.order.items inside.answered c.args.place c.args.outcome.now (settled_seen c.in_ok-answer.answer) c.self.view_is c.self.invariant.0
    c.if-self.false c.requires.fresh c.requires.within c.in_default.ensures
    (sym (ap (λ n. n + 1) (c.len.ensures ∙ inside.order.ok.0)) ∙ (c.if-len.false ∙ (c.len-2.ensures ∙ inside.outcomes.ok.0)))
    (c.in_ok-answer.ensures ∙ lent)

pub returns-in_err-copied-clause-memory : goal.returns-in_err-copied-clause-memory
returns-in_err-copied-clause-memory c =
    let inside = c.self.inside in
    λ none. let clash : Some (settled_seen c.in-Some.brought.now) ≡ None = c.in-Some.ensures ∙ at_once-none c.args.self.now (kind_seen inside.kind) inside.outcomes.items inside.order.items inside.answered c.args.place c.args.outcome.now c.self.view_is c.self.invariant.0
    c.if-self.false c.requires.fresh c.requires.within none in
    cc
