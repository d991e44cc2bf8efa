use Rattle.std.proofs.Common.{ap, sym, map}
use Rattle.std.proofs.lemmas.List.{drop_all}
use Rattle.lang_ast.specs.Seen.{seen_name}
use Rattle.async_segments.specs.Names.{spellings}
use Rattle.async_segments.proofs.Writing.{front}
use Rattle.async_segments.proofs.NewNames.{names_on, names_to}
use Rattle.async_segments.proofs.locals.add_parameters.Goals as goal

pub loop-parameter-preserved : goal.loop-parameter-preserved
loop-parameter-preserved c = names_on _ (ap (λ xs. spellings (map seen_name xs)) (front _ _ _ c.parameter-item.is c.loop-parameter-test.true)) c.loop-parameter.invariant c.in_ok-add.ensures

pub returns : goal.returns
returns c = rw (sym c.deref-parameter-items.ensures.value) (names_to _ (ap (λ xs. spellings (map seen_name xs)) (drop_all _ _ c.loop-parameter-test.false)) c.loop-parameter.invariant)
