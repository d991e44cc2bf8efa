use Rattle.std.proofs.Common.{◌≡◌, ◌+◌, ◌≤◌, drop, length}
use Rattle.lang_ast.specs.Seen.{seen_block}
use Rattle.async_segments.specs.Encoded.{cut}
use Rattle.async_segments.specs.Written.{GoesOn, names_of}
use Rattle.async_segments.proofs.SegmentLemmas.{left_of}
use Rattle.async_segments.proofs.segments.write_segments.Given as goal

abbrev pub invariant-loop-stmt : goal.invariant-loop-stmt
invariant-loop-stmt l = record {
  written : GoesOn l.initial.into.items l.into.items (left_of l.function (names_of l.locals.items) 1 (seen_block l.stmt-items)) (left_of l.function (names_of l.locals.items) (l.awaits + 1) (seen_block (drop l.stmt-index l.stmt-items)));
  few : l.awaits ≤ l.stmt-index;
  left : l.awaits + length (cut (seen_block (drop l.stmt-index l.stmt-items))).others ≡ length (cut (seen_block l.stmt-items)).others;
}
