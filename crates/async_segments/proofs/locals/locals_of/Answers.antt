use Rattle.std.proofs.Common.{◌++◌, map, ap, ◌∙◌}
use Rattle.lang_meaning.specs.Evaluation.{names_in}
use Rattle.lang_ast.specs.Seen.{seen_name, seen_block}
use Rattle.async_segments.specs.Names.{with_new, spellings}
use Rattle.async_segments.specs.Written.{names_of}
use Rattle.async_segments.proofs.NewNames.{names_then}
use Rattle.async_segments.proofs.locals.locals_of.Goals as goal

pub returns : goal.returns
returns c = (names_then c.in_ok-add_parameters.ensures c.in_ok-add_all.ensures).is ∙
    ap (λ z. with_new (names_of z) (spellings (map seen_name c.args.parameters.now.items) ++ names_in (seen_block c.args.body.now.items))) c.new-names.ensures.items
