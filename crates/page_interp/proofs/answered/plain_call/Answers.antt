use Rattle.std.proofs.Common.{rules, refl}
use Rattle.page_interp.proofs.NameIndex.{none_left}
use Rattle.page_interp.proofs.answered.plain_call.Goals as goal

pub returns-in-Ok : goal.returns-in-Ok
returns-in-Ok g c = record {
  named = search rules;
  plain = c.if-not-may_be_known.ensures refl;
  found = record { none = c.new-values.result; empty = c.new-values.ensures.items; brings = rw (none_left _ c.if-is_empty.ensures) at c.in-Ok.ensures };
}
