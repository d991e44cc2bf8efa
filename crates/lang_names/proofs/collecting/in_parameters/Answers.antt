use Rattle.std.proofs.Common.{ap, sym, map}
use Rattle.std.proofs.lemmas.List.{drop_all}
use Rattle.lang_ast.specs.Names.{mention}
use Rattle.lang_ast.specs.Seen.{seen_name}
use Rattle.lang_ast.specs.declared.role.Role.TheVariants as role
use Rattle.lang_names.proofs.Adding.{goes_on, goes_to, front}
use Rattle.lang_names.proofs.collecting.in_parameters.Goals as goal

pub loop-parameter-preserved : goal.loop-parameter-preserved
loop-parameter-preserved c = goes_on _ (ap (λ es. map (mention role.Parameter) (map seen_name es)) (front _ _ _ c.parameter-item.is c.loop-parameter-test.true)) c.loop-parameter.invariant c.in_ok-add.ensures

pub returns : goal.returns
returns c = rw (sym c.deref-parameter-items.ensures.value) (goes_to _ (ap (λ es. map (mention role.Parameter) (map seen_name es)) (drop_all _ _ c.loop-parameter-test.false)) c.loop-parameter.invariant)
