use Rattle.std.proofs.Common.{◌+◌, ap, sym, drop, subst, None, arith}
use Rattle.std.proofs.lemmas.List.{drop_all}
use Rattle.lang_ast.specs.Seen.{seen_items}
use Rattle.async_segments.specs.Items.{Walk}
use Rattle.async_segments.proofs.Writing.{front}
use Rattle.async_segments.proofs.ItemLemmas.{walk_from, closed_ok, closed_err}
use Rattle.async_segments.proofs.items.write_items.Goals as goal

pub loop-item-init : goal.loop-item-init
loop-item-init c = record {
  few = omega arith;
  walk = subst (λ ws. Walk (seen_items c.deref-item-items.result.now) (seen_items c.deref-item-items.result.now) None ws 0) (sym c.new-written.ensures.items) (walk_from (seen_items c.deref-item-items.result.now));
}

pub loop-item-preserved : goal.loop-item-preserved
loop-item-preserved c =
    let items = c.deref-item-items.result.now in
    let walk = subst (λ z. Walk (seen_items items) z c.loop-item.pending c.loop-item.written.items c.loop-item.functions) (ap seen_items (front _ _ _ c.item-item.is c.loop-item-test.true)) c.loop-item.invariant.walk in
    record { few = c.in-Ok.ensures.few; walk = c.in-Ok.ensures.written (seen_items items) (seen_items (drop (c.loop-item.item-index + 1) items)) walk }

pub returns-in-Err-clause-refused : goal.returns-in-Err-clause-refused
returns-in-Err-clause-refused c =
    let items = c.deref-item-items.result.now in
    let walk = subst (λ z. Walk (seen_items items) z c.loop-item.pending c.loop-item.written.items c.loop-item.functions) (ap seen_items (front _ _ _ c.item-item.is c.loop-item-test.true)) c.loop-item.invariant.walk in
    rw (sym c.deref-item-items.ensures.value) (λ refused. c.in-Err.ensures.refused refused (seen_items items) (seen_items (drop (c.loop-item.item-index + 1) items)) walk)

pub returns-clause-written : goal.returns-clause-written
returns-clause-written c = rw (sym c.deref-item-items.ensures.value)
    (closed_ok (seen_items c.deref-item-items.result.now) c.loop-item.pending c.loop-item.written.items c.loop-item.functions c.closed.result
    (subst (λ z. Walk (seen_items c.deref-item-items.result.now) (seen_items z) c.loop-item.pending c.loop-item.written.items c.loop-item.functions) (drop_all _ _ c.loop-item-test.false) c.loop-item.invariant.walk)
    c.closed.ensures.kept c.closed.ensures.none)

pub returns-clause-refused : goal.returns-clause-refused
returns-clause-refused c = rw (sym c.deref-item-items.ensures.value)
    (closed_err (seen_items c.deref-item-items.result.now) c.loop-item.pending c.loop-item.written.items c.loop-item.functions c.closed.result
    (subst (λ z. Walk (seen_items c.deref-item-items.result.now) (seen_items z) c.loop-item.pending c.loop-item.written.items c.loop-item.functions) (drop_all _ _ c.loop-item-test.false) c.loop-item.invariant.walk)
    c.closed.ensures.mark)
