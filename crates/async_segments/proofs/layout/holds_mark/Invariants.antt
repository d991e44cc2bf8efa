use Rattle.std.proofs.Common.{◌≡◌, drop}
use Rattle.async_segments.specs.Encoded.{has_mark}
use Rattle.async_segments.specs.Written.{shown_all}
use Rattle.async_segments.proofs.layout.holds_mark.Given as goal

abbrev pub invariant-loop-token : goal.invariant-loop-token
invariant-loop-token l = has_mark (shown_all (drop l.token-index l.tokens)) ≡ has_mark (shown_all l.tokens)
