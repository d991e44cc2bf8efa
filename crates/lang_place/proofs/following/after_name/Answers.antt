use Rattle.lang_place.proofs.Tables.{call_after, no_call}
use Rattle.lang_place.proofs.following.after_name.Goals as goal

pub returns-in-OpenRound : goal.returns-in-OpenRound
returns-in-OpenRound c = rw c.in-OpenRound.is (call_after _ _)

pub returns-in_default : goal.returns-in_default
returns-in_default c = no_call _ _ _ _ c.in_default.not-OpenRound c.after_value.ensures
