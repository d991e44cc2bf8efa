use Rattle.std.proofs.Common.{ap, sym, map, ◌∙◌}
use Rattle.std.proofs.lemmas.List.{drop_all}
use Rattle.lang_ast.specs.Seen.{seen_name}
use Rattle.async_segments.proofs.Writing.{adds_then, goes_on, goes_to, front}
use Rattle.async_segments.proofs.Flags.{rest_names, rest_names_step, rest_names_end}
use Rattle.async_segments.proofs.heads.write_parameters.Goals as goal

pub loop-parameter-preserved : goal.loop-parameter-preserved
loop-parameter-preserved c = goes_on _
    (ap (λ xs. rest_names c.loop-parameter.is_first (map seen_name xs)) (front _ _ _ c.parameter-item.is c.loop-parameter-test.true) ∙
    rest_names_step c.loop-parameter.is_first (seen_name c.parameter-item.result) _)
    c.loop-parameter.invariant (adds_then c.in_ok-between.ensures c.in_ok-own_name.ensures)

pub returns : goal.returns
returns c = rw (sym c.deref-parameter-items.ensures.value) (goes_to _
    (ap (λ xs. rest_names c.loop-parameter.is_first (map seen_name xs)) (drop_all _ _ c.loop-parameter-test.false) ∙ rest_names_end c.loop-parameter.is_first) c.loop-parameter.invariant)
