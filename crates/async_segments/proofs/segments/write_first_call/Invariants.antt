use Rattle.std.proofs.Common.{drop, map}
use Rattle.lang_ast.specs.Seen.{seen_name}
use Rattle.async_segments.specs.Names.{spellings}
use Rattle.async_segments.specs.Written.{GoesOn, names_of}
use Rattle.async_segments.proofs.SegmentLemmas.{units_symbols}
use Rattle.async_segments.proofs.segments.write_first_call.Given as goal

abbrev pub invariant-loop-local : goal.invariant-loop-local
invariant-loop-local l = GoesOn l.initial.into.items l.into.items (units_symbols (spellings (map seen_name l.function.parameters.items)) (names_of l.local-items)) (units_symbols (spellings (map seen_name l.function.parameters.items)) (names_of (drop l.local-index l.local-items)))
