-- Rows of changes and moves.
use Rattle.page_types.specs.Values.{Value}
use Rattle.page_parts.specs.AbortGraph.{Signals}
use Rattle.page_model.specs.State.{Page}
use Rattle.page_laws.specs.Moves.{FirstIsPlain, IsPlain, IsQuiet, PageChange, PlaceIsPlain, SignalsChange, WhenCalm, calmly, marking, elsewhere, registered, arm_told, Changes, nothing, with_change, with_arm, Moves, here, changing, arming, calling, ending, flagging, running, framing, idling}

pub moves-then : {p q r : Page} → Moves p q → Moves q r → Moves p r
moves-then a here = a
moves-then a (changing b c plain) = changing (moves-then a b) c plain
moves-then a (arming b c d w) = arming (moves-then a b) c d w
moves-then a (calling b c h k) = calling (moves-then a b) c h k
moves-then a (ending b e h) = ending (moves-then a b) e h
moves-then a (flagging b x y z w u v t j) = flagging (moves-then a b) x y z w u v t j
moves-then a (running b j others x y nm) = running (moves-then a b) j others x y nm
moves-then a (framing b t) = framing (moves-then a b) t
moves-then a (idling b none) = idling (moves-then a b) none

pub changes-then : {p q r : Page} → Changes p q → Changes q r → Changes p r
changes-then a nothing = a
changes-then a (with_change b c plain) = with_change (changes-then a b) c plain
changes-then a (with_arm b c d w new) = with_arm (changes-then a b) c d w new

-- what holds where no reason is set
pub calm-holds : {p : Page} {ss : Signals Value} (k : SignalsChange p ss) (T : Type 0) → WhenCalm k T → T
calm-holds (calmly h) T x = x
calm-holds marking T x = elim x [ ]

pub quiet-plain : {p q : Page} (c : PageChange p q) → IsQuiet c → IsPlain c
quiet-plain (elsewhere c b k) h = calm-holds b.watched (PlaceIsPlain c) h
quiet-plain (registered kind x e unframed u b at) h = calm-holds b.watched (FirstIsPlain u) h
quiet-plain (arm_told r due level w well) h = h
quiet-plain c h = tt

pub moves_of : {p q : Page} → Changes p q → Moves p q
moves_of nothing = here
moves_of (with_change b c plain) = changing (moves_of b) c (quiet-plain c plain)
moves_of (with_arm b c d w new) = arming (moves_of b) c d w
