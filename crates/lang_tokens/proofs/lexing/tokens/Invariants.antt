use Rattle.std.proofs.Common.{◌-◌, length}
use Rattle.lang_tokens.proofs.CutLemmas.{Lexing}
use Rattle.lang_tokens.proofs.lexing.tokens.Given as goal

abbrev pub invariant-loop-at : goal.invariant-loop-at
invariant-loop-at l = Lexing l.bytes l.tokens.items l.at

abbrev pub decreases-loop-at : goal.decreases-loop-at
decreases-loop-at l = length l.bytes - l.at
