use Rattle.std.proofs.Common.{drop, map}
use Rattle.lang_parse.specs.Grammar.{names_behind}
use Rattle.async_segments.specs.Names.{new_name}
use Rattle.async_segments.specs.Written.{GoesOn, names_of}
use Rattle.async_segments.proofs.segments.write_names_behind.Given as goal

abbrev pub invariant-loop-spelling : goal.invariant-loop-spelling
invariant-loop-spelling l = GoesOn l.initial.into.items l.into.items (names_behind (map new_name (names_of l.spelling-items))) (names_behind (map new_name (names_of (drop l.spelling-index l.spelling-items))))
