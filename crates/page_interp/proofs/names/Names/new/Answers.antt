use Rattle.std.proofs.Common.{arith, ◌-◌, sym, ◌∙◌}
use Rattle.page_interp.proofs.NameIndex.{one_more_name, whole_index, no_index, none_once, one_once, not_once, whole_once, absent_from, none_there}
use Rattle.page_interp.proofs.names.Names.new.Goals as goal

pub loop-left-init : goal.loop-left-init
loop-left-init c = record {
  within = omega arith;
  indexed = no_index c.args.names.items c.len-left.result c.new-places.result (omega arith) c.new-places.ensures.empty;
  apart = none_once c.len-left.result c.args.names.items _ (omega arith);
}

pub loop-left-preserved-then-is_some : goal.loop-left-preserved-then-is_some
loop-left-preserved-then-is_some c = record {
  within = omega arith;
  indexed = one_more_name c.args.names.items (c.loop-left.left - 1) c.loop-left.left c.in_ok-name.name.items c.loop-left.places c.insert.new.self (rw (c.in_ok-name.ensures.items, c.bytes.ensures.bytes) c.index.ensures) (omega arith) c.in_ok-insert.ensures.updates (omega arith) c.loop-left.invariant.indexed;
  apart = not_once (c.loop-left.left - 1) c.args.names.items;
}

pub loop-left-preserved : goal.loop-left-preserved
loop-left-preserved c = record {
  within = omega arith;
  indexed = one_more_name c.args.names.items (c.loop-left.left - 1) c.loop-left.left c.in_ok-name.name.items c.loop-left.places c.insert.new.self (rw (c.in_ok-name.ensures.items, c.bytes.ensures.bytes) c.index.ensures) (omega arith) c.in_ok-insert.ensures.updates (omega arith) c.loop-left.invariant.indexed;
  apart = one_once (c.loop-left.left - 1) c.loop-left.left c.args.names.items c.in_ok-name.name.items c.loop-left.once (rw (c.in_ok-name.ensures.items, c.bytes.ensures.bytes) c.index.ensures) (omega arith) (omega arith)
      (absent_from c.loop-left.left c.args.names.items c.loop-left.places c.in_ok-name.name.items c.loop-left.invariant.indexed (sym c.in_ok-insert.ensures.old ∙ none_there c.in_ok-insert.field-0 (sym c.is_some.ensures ∙ c.if-is_some.false)))
      c.loop-left.invariant.apart;
}

pub invariant_of-result : goal.invariant_of-result
invariant_of-result c = record {
  index = whole_index c.args.names.items c.loop-left.left c.loop-left.places c.loop-left-test.false c.loop-left.invariant.indexed;
  apart = whole_once c.loop-left.left c.args.names.items c.loop-left.once (omega arith) c.loop-left.invariant.apart;
}
