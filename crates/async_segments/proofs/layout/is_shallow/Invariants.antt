use Rattle.std.proofs.Common.{◌≤◌, ◌↔◌, drop}
use Rattle.lang_parse.specs.Grammar.{IsShallow}
use Rattle.async_segments.specs.Written.{shown_all}
use Rattle.async_segments.proofs.layout.is_shallow.Given as goal

abbrev pub invariant-loop-token : goal.invariant-loop-token
invariant-loop-token l = (l.count ≤ 64) × (IsShallow 0 (shown_all l.tokens) ↔ IsShallow l.count (shown_all (drop l.token-index l.tokens)))
