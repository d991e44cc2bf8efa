use Rattle.std.proofs.Common.{◌≡◌, true, subst, sym, arith}
use Rattle.trace_text.specs.Trace.{IsPrinted}
use Rattle.trace_text.proofs.fields.read_value.Goals as goal

pub returns-then-not-is_spelling : goal.returns-then-not-is_spelling
returns-then-not-is_spelling c = λ printed. let yes = c.is_spelling.ensures.complete printed in let other = c.if-not-is_spelling.true in grind (arith, yes, other)

pub new-requires : goal.new-requires
new-requires c =
    let yes : c.is_spelling.result ≡ true = grind (arith, c.if-not-is_spelling.false) in
    subst (λ bytes. IsPrinted bytes) (sym (c.in_ok-to_vec.ensures.items_if_clones_equal (λ x y same. same))) (c.is_spelling.ensures.sound yes)

pub returns : goal.returns
returns c =
    let yes : c.is_spelling.result ≡ true = grind (arith, c.if-not-is_spelling.false) in
    let copied = c.in_ok-to_vec.ensures.items_if_clones_equal (λ x y same. same) in
    (cc, c.is_spelling.ensures.sound yes)
