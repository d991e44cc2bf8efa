use Rattle.std.proofs.Common.{◌-◌, ◌++◌, [], ap, sym, ◌∙◌, take, drop}
use Rattle.std.specs.Prelude.{cond}
use Rattle.std.proofs.lemmas.List.{append-nil}
use Rattle.async_segments.specs.Encoded.{signs_for}
use Rattle.async_segments.proofs.marking.extend_marked.Goals as goal

pub returns-in-false-clause-written : goal.returns-in-false-clause-written
returns-in-false-clause-written c =
    let piece = take (c.args.token.now.at - c.args.done) (drop c.args.done c.args.bytes.now) ++ signs_for c.args.token.now.content in
    sym (append-nil c.args.into.now.items) ∙ ap (λ m. c.args.into.now.items ++ cond m piece []) c.in-false.ensures

pub returns-in-false-clause-end : goal.returns-in-false-clause-end
returns-in-false-clause-end c = ap (λ m. cond m c.args.token.now.end c.args.done) c.in-false.ensures

pub returns-in_ok-extend_up_to-in-true-clause-written : goal.returns-in_ok-extend_up_to-in-true-clause-written
returns-in_ok-extend_up_to-in-true-clause-written c =
    let piece = take (c.args.token.now.at - c.args.done) (drop c.args.done c.args.bytes.now) ++ signs_for c.args.token.now.content in
    c.in_ok-extend_up_to-in-true.ensures ∙ ap (λ z. c.args.into.now.items ++ z)
    (ap (λ n. take (n - c.args.done) (drop c.args.done c.args.bytes.now) ++ c.signs_for.result.now) c.at.ensures ∙
    (ap (λ z. take (c.args.token.now.at - c.args.done) (drop c.args.done c.args.bytes.now) ++ z) (c.signs_for.ensures ∙ ap signs_for c.content.ensures.content) ∙
    ap (λ m. cond m piece []) c.in-true.ensures))

pub returns-in_ok-extend_up_to-in-true-clause-end : goal.returns-in_ok-extend_up_to-in-true-clause-end
returns-in_ok-extend_up_to-in-true-clause-end c = c.end.ensures ∙ ap (λ m. cond m c.args.token.now.end c.args.done) c.in-true.ensures
