use Rattle.lang_place.proofs.Tables.{if_behind_else, block_behind_else, nothing_behind_else}
use Rattle.std.proofs.Common.{subst}
use Rattle.lang_place.specs.Expecting.{IsToCome}
use Rattle.lang_place.proofs.following.after.Goals as goal

pub returns-in-Done : goal.returns-in-Done
returns-in-Done c = absurd (subst IsToCome c.in-Done.is c.requires)

pub returns-in-If : goal.returns-in-If
returns-in-If c = rw (c.in-BehindElse.is, c.in-If.is) (if_behind_else _)

pub returns-in-OpenBrace : goal.returns-in-OpenBrace
returns-in-OpenBrace c = rw (c.in-BehindElse.is, c.in-OpenBrace.is) (block_behind_else _)

pub returns-in_default : goal.returns-in_default
returns-in_default c = rw c.in-BehindElse.is (nothing_behind_else _ _ c.in_default.not-If c.in_default.not-OpenBrace)
