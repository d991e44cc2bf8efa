use Rattle.std.proofs.Common.{◌≡◌, ◌+◌, ◌∷◌, [], length, sym, refl, arith}
use Rattle.lang_meaning.specs.Evaluation.{functions_of}
use Rattle.lang_ast.specs.Seen.{seen_item}
use Rattle.async_segments.proofs.ItemLemmas.{writes_plain}
use Rattle.async_segments.proofs.items.write_unmarked.Goals as goal

pub returns-in-Some-clause-written : goal.returns-in-Some-clause-written
returns-in-Some-clause-written c = (sym c.in-Some.ensures, refl, refl)

pub returns-in_ok-functions-in-None-clause-written : goal.returns-in_ok-functions-in-None-clause-written
returns-in_ok-functions-in-None-clause-written c =
    let count : c.in_ok-functions-in-None.functions + 0 ≡ length (functions_of (seen_item c.args.item.now ∷ [])) = omega (arith, c.in_ok-functions-in-None.ensures.count) in
    (sym c.in-None.ensures, writes_plain (seen_item c.args.item.now) _ _ _ c.in_ok-functions-in-None.ensures.written count)
