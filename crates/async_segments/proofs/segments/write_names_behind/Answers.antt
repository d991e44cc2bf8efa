use Rattle.std.proofs.Common.{ap, sym, map, ◌∷◌, []}
use Rattle.std.proofs.lemmas.List.{drop_all}
use Rattle.lang_parse.specs.Symbols.{NameAt}
use Rattle.lang_parse.specs.Grammar.{names_behind}
use Rattle.async_segments.specs.Names.{new_name}
use Rattle.async_segments.specs.Written.{names_of}
use Rattle.async_segments.proofs.Writing.{adds_then, adds_as, goes_on, goes_to, front}
use Rattle.async_segments.proofs.segments.write_names_behind.Goals as goal

pub loop-spelling-preserved : goal.loop-spelling-preserved
loop-spelling-preserved c = goes_on _ (ap (λ xs. names_behind (map new_name (names_of xs))) (front _ _ _ c.spelling-item.is c.loop-spelling-test.true)) c.loop-spelling.invariant
    (adds_then c.in_ok-sign.ensures (adds_as (ap (λ bs. NameAt bs 0 ∷ []) c.deref.ensures.value) c.in_ok-name.ensures))

pub returns : goal.returns
returns c = rw (sym c.deref-spelling-items.ensures.value) (goes_to _ (ap (λ xs. names_behind (map new_name (names_of xs))) (drop_all _ _ c.loop-spelling-test.false)) c.loop-spelling.invariant)
