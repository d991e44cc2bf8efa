use Rattle.lang_place.proofs.Tables.{place_after, times_after, plus_after, minus_after, compare_after, no_second_compare, and_after, or_after, no_operator}
use Rattle.lang_place.proofs.following.after_value.Goals as goal

pub returns-in-OpenSquare : goal.returns-in-OpenSquare
returns-in-OpenSquare c = rw c.in-OpenSquare.is (place_after _ _)

pub returns-in-Times : goal.returns-in-Times
returns-in-Times c = rw c.in-Times.is (times_after _ _)

pub returns-in-Plus : goal.returns-in-Plus
returns-in-Plus c = rw c.in-Plus.is (plus_after _ _)

pub returns-in-Minus : goal.returns-in-Minus
returns-in-Minus c = rw c.in-Minus.is (minus_after _ _)

pub returns-then-is_compared : goal.returns-then-is_compared
returns-then-is_compared c = rw (c.in-Compare.is, c.if-is_compared.true) (no_second_compare _)

pub returns-else-is_compared : goal.returns-else-is_compared
returns-else-is_compared c = rw (c.in-Compare.is, c.if-is_compared.false) (compare_after _)

pub returns-in-And : goal.returns-in-And
returns-in-And c = rw c.in-And.is (and_after _ _)

pub returns-in-Or : goal.returns-in-Or
returns-in-Or c = rw c.in-Or.is (or_after _ _)

pub returns-in_default : goal.returns-in_default
returns-in_default c = no_operator _ _ _ _ c.in_default.not-OpenSquare c.in_default.not-Times c.in_default.not-Plus c.in_default.not-Minus c.in_default.not-Compare c.in_default.not-And c.in_default.not-Or c.after_expression.ensures
