use Rattle.std.proofs.Common.{drop, map}
use Rattle.std.specs.Prelude.{codes}
use Rattle.lang_ast.specs.Seen.{seen_name, exprs_of}
use Rattle.lang_parse.specs.Symbols.{SignOf}
use Rattle.lang_parse.specs.Grammar.{each_behind}
use Rattle.async_segments.specs.Names.{spellings}
use Rattle.async_segments.specs.Expanded.{variables}
use Rattle.async_segments.specs.Written.{GoesOn}
use Rattle.async_segments.proofs.segments.write_parameters_behind.Given as goal

abbrev pub invariant-loop-parameter : goal.invariant-loop-parameter
invariant-loop-parameter l = GoesOn l.initial.into.items l.into.items (each_behind (SignOf (codes ",")) (exprs_of (variables (spellings (map seen_name l.parameter-items))))) (each_behind (SignOf (codes ",")) (exprs_of (variables (spellings (map seen_name (drop l.parameter-index l.parameter-items))))))
