use Rattle.std.proofs.Common.{rules, refl}
use Rattle.page_interp.proofs.NameIndex.{none_left}
use Rattle.page_interp.proofs.answered.looked_at.Goals as goal

pub returns : goal.returns
returns c = record {
  named = search rules;
  plain = c.if-not-may_be_known.ensures refl;
  only = c.in_ok-only.only;
  one = rw (c.in_ok-only.ensures.cases.0, none_left _ c.if-not-is_empty.ensures) refl;
  value = c.in_ok-held.ensures;
}
