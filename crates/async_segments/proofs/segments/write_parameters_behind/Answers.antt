use Rattle.std.proofs.Common.{ap, sym, map, ◌∷◌, []}
use Rattle.std.specs.Prelude.{codes}
use Rattle.std.proofs.lemmas.List.{drop_all}
use Rattle.lang_ast.specs.Seen.{seen_name, exprs_of}
use Rattle.lang_parse.specs.Symbols.{NameAt, SignOf}
use Rattle.lang_parse.specs.Grammar.{each_behind}
use Rattle.async_segments.specs.Names.{spellings}
use Rattle.async_segments.specs.Expanded.{variables}
use Rattle.async_segments.proofs.Writing.{adds_then, adds_as, goes_on, goes_to, front}
use Rattle.async_segments.proofs.segments.write_parameters_behind.Goals as goal

pub loop-parameter-preserved : goal.loop-parameter-preserved
loop-parameter-preserved c = goes_on _ (ap (λ xs. each_behind (SignOf (codes ",")) (exprs_of (variables (spellings (map seen_name xs))))) (front _ _ _ c.parameter-item.is c.loop-parameter-test.true)) c.loop-parameter.invariant
    (adds_then c.in_ok-sign.ensures (adds_as (ap (λ bs. NameAt bs 0 ∷ []) c.bytes.ensures.bytes) c.in_ok-name.ensures))

pub returns : goal.returns
returns c = rw (sym c.deref-parameter-items.ensures.value) (goes_to _ (ap (λ xs. each_behind (SignOf (codes ",")) (exprs_of (variables (spellings (map seen_name xs))))) (drop_all _ _ c.loop-parameter-test.false)) c.loop-parameter.invariant)
