use Rattle.std.proofs.Common.{◌≤◌, ◌↔◌, drop}
use Rattle.lang_parse.specs.Symbols.{symbols_of}
use Rattle.lang_parse.specs.Grammar.{IsShallow}
use Rattle.lang_parse.proofs.limits.is_shallow.Given as goal

abbrev pub invariant-loop-token : goal.invariant-loop-token
invariant-loop-token l = (l.count ≤ 64) × (IsShallow 0 (symbols_of l.tokens) ↔ IsShallow l.count (symbols_of (drop l.token-index l.tokens)))
