use Rattle.std.proofs.Common.{◌+◌, ◌&&◌, List, map, drop, sym, ap, ◌∙◌, arith}
use Rattle.std.proofs.lemmas.List.{at_drop_more}
use Rattle.page_values.specs.Seen.{seen}
use Rattle.page_values.specs.declared.Value.{Value}
use Rattle.page_model.specs.Operations.{all_known, is_known}
use Rattle.page_answers.proofs.known.all_known.Goals as goal

pub returns-then-not-is_known : goal.returns-then-not-is_known
returns-then-not-is_known c =
    let p = c.args.promises in
    let s = c.args.signals in
    let xs = c.args.args.now in
    let i = c.loop-value.value-index in
    let x = c.value-item.result in
    let more =
    at_drop_more (λ (ys : List Value). all_known p s (map seen ys)) xs i x (omega arith)
    ∙ ap (λ (y : Value). is_known p s (seen y) && all_known p s (map seen (drop (i + 1) xs))) (sym c.value-item.is)
    ∙ ap (λ b. b && all_known p s (map seen (drop (i + 1) xs))) (sym c.is_known.ensures ∙ c.if-not-is_known.true) in
    sym more ∙ c.loop-value.invariant
