use Rattle.std.proofs.Common.{◌∙◌, length}
use Rattle.std.proofs.lemmas.List.{drop_all}
use Rattle.async_segments.proofs.Writing.{front}
use Rattle.async_segments.proofs.MarkLemmas.{first_in_order, order_behind, marked_next, marked_last}
use Rattle.async_segments.proofs.marking.marked.Goals as goal

pub extend_marked-requires : goal.extend_marked-requires
extend_marked-requires c =
    let order = first_in_order c.loop-token.done (length c.args.bytes.now) _ c.token-item.result _ (front _ _ _ c.token-item.is c.loop-token-test.true) c.loop-token.invariant.in_order in
    record { begins = order.0; ends = order.1; within = order.2 }

pub loop-token-preserved : goal.loop-token-preserved
loop-token-preserved c =
    let at = front _ _ _ c.token-item.is c.loop-token-test.true in
    record {
      in_order = order_behind c.loop-token.done _ (length c.args.bytes.now) _ c.token-item.result _ at c.in_ok-done.ensures.end c.loop-token.invariant.in_order;
      so_far = marked_next c.loop-token.done _ c.args.bytes.now _ _ c.token-item.result _ _ at c.loop-token.invariant.in_order c.in_ok-done.ensures.end c.in_ok-done.ensures.written c.loop-token.invariant.so_far;
    }

pub returns : goal.returns
returns c = c.in_ok-extend_from_slice.ensures.items ∙ marked_last c.loop-token.done c.args.bytes.now c.loop-token.marked.items _ (drop_all _ _ c.loop-token-test.false) c.loop-token.invariant.so_far
