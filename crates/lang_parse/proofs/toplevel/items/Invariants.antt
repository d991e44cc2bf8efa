use Rattle.std.proofs.Common.{length, map}
use Rattle.lang_ast.specs.Seen.{seen_item}
use Rattle.lang_parse.specs.Symbols.{symbols_of}
use Rattle.lang_parse.specs.Parts.{ItemRead, NotElse, AtEnd}
use Rattle.lang_parse.proofs.Generic.{Progress}
use Rattle.lang_parse.proofs.toplevel.items.Given as goal

abbrev pub invariant-loop-rest : goal.invariant-loop-rest
invariant-loop-rest l = Progress ItemRead NotElse AtEnd (symbols_of l.fn.tokens) (map seen_item l.items.items) (symbols_of l.rest)

abbrev pub decreases-loop-rest : goal.decreases-loop-rest
decreases-loop-rest l = length l.rest
