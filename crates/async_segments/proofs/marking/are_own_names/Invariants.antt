use Rattle.std.proofs.Common.{◌↔◌, drop}
use Rattle.lang_parse.specs.Symbols.{symbols_of}
use Rattle.async_segments.specs.Script.{Each, IsOwnName}
use Rattle.async_segments.proofs.marking.are_own_names.Given as goal

abbrev pub invariant-loop-token : goal.invariant-loop-token
invariant-loop-token l = Each IsOwnName (symbols_of l.tokens) ↔ Each IsOwnName (symbols_of (drop l.token-index l.tokens))
