use Rattle.async_segments.proofs.Writing.{then_ok, ok_as}
use Rattle.async_segments.specs.Written.{names_of}
use Rattle.async_segments.specs.Awaits.{seen_await}
use Rattle.async_segments.proofs.SegmentLemmas.{regroup_await_symbols}
use Rattle.async_segments.proofs.segments.write_await.Goals as goal

pub returns : goal.returns
returns c = ok_as _ _ c.write_store.result (regroup_await_symbols c.args.function.now (names_of c.args.locals.now.items) c.args.k (seen_await c.args.found.now)) (then_ok _ _ c.write_store.result c.in_ok-write_wait.ensures (then_ok _ _ c.write_store.result c.in_ok-write_end.ensures (then_ok _ _ c.write_store.result c.in_ok-write_segment_head.ensures (then_ok _ _ c.write_store.result c.in_ok-sign.ensures (then_ok _ _ c.write_store.result c.in_ok-name.ensures (then_ok _ _ c.write_store.result c.in_ok-write_begin.ensures c.write_store.ensures))))))
