use Rattle.std.proofs.Common.{drop, map}
use Rattle.lang_ast.specs.Seen.{seen_name}
use Rattle.async_segments.specs.Names.{spellings}
use Rattle.async_segments.proofs.NewNames.{NamesGoOn}
use Rattle.async_segments.proofs.locals.add_parameters.Given as goal

abbrev pub invariant-loop-parameter : goal.invariant-loop-parameter
invariant-loop-parameter l = NamesGoOn l.initial.names.items l.names.items (spellings (map seen_name l.parameter-items)) (spellings (map seen_name (drop l.parameter-index l.parameter-items)))
