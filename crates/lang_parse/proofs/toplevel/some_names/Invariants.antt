use Rattle.std.proofs.Common.{length, map}
use Rattle.lang_ast.specs.Seen.{seen_name}
use Rattle.lang_parse.specs.Symbols.{symbols_of}
use Rattle.lang_parse.proofs.ItemSteps.{NamesProgress}
use Rattle.lang_parse.proofs.toplevel.some_names.Given as goal

abbrev pub invariant-loop-next : goal.invariant-loop-next
invariant-loop-next l = NamesProgress (symbols_of l.fn.tokens) (map seen_name l.names.items) (symbols_of l.rest)

abbrev pub decreases-loop-next : goal.decreases-loop-next
decreases-loop-next l = length l.rest
