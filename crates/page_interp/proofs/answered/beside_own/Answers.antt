use Rattle.std.proofs.Common.{rules, refl}
use Rattle.page_interp.proofs.NameIndex.{none_left}
use Rattle.page_interp.proofs.answered.beside_own.Goals as goal

pub returns-in-Ok-Some : goal.returns-in-Ok-Some
returns-in-Ok-Some c = record {
  named = search rules;
  plain = c.if-not-may_be_known.ensures refl;
  own = c.in-Name.own;
  same = search rules;
  second = c.in_ok-second.second;
  both = rw (c.in_ok-first.ensures.cases.0, c.in_ok-second.ensures.cases.0, none_left _ c.if-not-is_empty.ensures, c.in-Name.is) refl;
  value = rw c.in-Ok-Some.field-0-is at c.in-Ok-Some.ensures;
}
