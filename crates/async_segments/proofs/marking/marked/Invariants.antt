use Rattle.std.proofs.Common.{◌≡◌, ◌++◌, drop, length}
use Rattle.lang_tokens.specs.Tokens.{InOrder}
use Rattle.async_segments.specs.Encoded.{marked_bytes}
use Rattle.async_segments.proofs.marking.marked.Given as goal

abbrev pub invariant-loop-token : goal.invariant-loop-token
invariant-loop-token l = record {
  in_order : InOrder l.done (length l.bytes) (drop l.token-index l.tokens);
  so_far : l.marked.items ++ marked_bytes l.done (drop l.token-index l.tokens) (drop l.done l.bytes) ≡ marked_bytes 0 l.tokens l.bytes;
}
