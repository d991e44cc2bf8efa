use Rattle.std.proofs.Common.{◌≡◌, drop}
use Rattle.async_segments.specs.Names.{holds_lines}
use Rattle.async_segments.proofs.LayoutLemmas.{holds_behind}
use Rattle.async_segments.proofs.marking.holds_lines.Given as goal

abbrev pub invariant-loop-byte : goal.invariant-loop-byte
invariant-loop-byte l = holds_behind l.is_behind_line (drop l.byte-index l.name) ≡ holds_lines l.name
