use Rattle.std.proofs.Common.{◌≡◌, drop, map}
use Rattle.lang_place.specs.NameSets.{has_name}
use Rattle.lang_ast.specs.Seen.{seen_name}
use Rattle.async_segments.specs.Names.{spellings}
use Rattle.async_segments.proofs.locals.has_parameter.Given as goal

abbrev pub invariant-loop-parameter : goal.invariant-loop-parameter
invariant-loop-parameter l = has_name (spellings (map seen_name (drop l.parameter-index l.parameter-items))) l.name ≡ has_name (spellings (map seen_name l.parameter-items)) l.name
