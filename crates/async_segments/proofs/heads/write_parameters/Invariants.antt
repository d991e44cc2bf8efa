use Rattle.std.proofs.Common.{drop, map}
use Rattle.lang_ast.specs.Seen.{seen_name}
use Rattle.lang_parse.specs.Grammar.{names_spelling}
use Rattle.async_segments.specs.Written.{GoesOn}
use Rattle.async_segments.proofs.Flags.{rest_names}
use Rattle.async_segments.proofs.heads.write_parameters.Given as goal

abbrev pub invariant-loop-parameter : goal.invariant-loop-parameter
invariant-loop-parameter l = GoesOn l.initial.into.items l.into.items (names_spelling (map seen_name l.parameter-items)) (rest_names l.is_first (map seen_name (drop l.parameter-index l.parameter-items)))
