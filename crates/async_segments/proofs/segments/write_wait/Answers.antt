use Rattle.std.proofs.Common.{ap, ◌∙◌}
use Rattle.async_segments.proofs.Writing.{then_ok, ok_as, adds_as}
use Rattle.lang_ast.specs.Seen.{seen_exprs}
use Rattle.async_segments.specs.Encoded.{operand_from}
use Rattle.async_segments.specs.Written.{names_of}
use Rattle.async_segments.specs.Segments.{bind_symbols}
use Rattle.async_segments.proofs.SegmentLemmas.{waits_spelling}
use Rattle.async_segments.proofs.segments.write_wait.Goals as goal

pub returns : goal.returns
returns c = ok_as _ _ c.write_call_end.result (waits_spelling c.args.function.now (names_of c.args.locals.now.items) c.args.k (operand_from (seen_exprs c.args.operands.now.items))) (then_ok _ _ c.write_call_end.result c.in_ok-write_resolved.ensures (then_ok _ _ c.write_call_end.result (adds_as (ap bind_symbols (c.deref.ensures.value ∙ c.in_ok-segment.ensures)) c.in_ok-write_bind.ensures) (then_ok _ _ c.write_call_end.result c.in_ok-write_names_behind.ensures (then_ok _ _ c.write_call_end.result c.in_ok-write_bind_end.ensures (then_ok _ _ c.write_call_end.result c.in_ok-sign.ensures (then_ok _ _ c.write_call_end.result (adds_as (ap bind_symbols (c.deref-2.ensures.value ∙ c.in_ok-rejecting.ensures)) c.in_ok-write_bind-2.ensures) (then_ok _ _ c.write_call_end.result c.in_ok-write_bind_end-2.ensures c.write_call_end.ensures)))))))
