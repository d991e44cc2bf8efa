use Rattle.std.proofs.Common.{◌≡◌, ◌++◌, drop}
use Rattle.async_segments.specs.Layout.{laid_out}
use Rattle.async_segments.specs.Written.{shown_all}
use Rattle.async_segments.proofs.LayoutLemmas.{rest_laid}
use Rattle.async_segments.proofs.layout.lay_out.Given as goal

abbrev pub invariant-loop-token : goal.invariant-loop-token
invariant-loop-token l = l.text.items ++ rest_laid l.is_first (shown_all (drop l.token-index l.tokens)) ≡ laid_out (shown_all l.tokens)
