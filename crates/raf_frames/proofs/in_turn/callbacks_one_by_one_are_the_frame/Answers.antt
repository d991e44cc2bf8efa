use Rattle.raf_frames.proofs.TurnLemmas.{visits_by_next, next_is_there}
use Rattle.raf_frames.proofs.in_turn.callbacks_one_by_one_are_the_frame.Goals as goal

pub returns-clause-visits : goal.returns-clause-visits
returns-clause-visits g c v turn = visits_by_next v turn

pub returns-clause-next : goal.returns-clause-next
returns-clause-next g c f callback next = next_is_there f.map.callbacks f.left callback next
