use Rattle.lang_place.proofs.Machine.{pushed}
use Rattle.lang_place.proofs.recogniser.push.Goals as goal

pub returns-in_ok-push-in-Some : goal.returns-in_ok-push-in-Some
returns-in_ok-push-in-Some c = rw c.in-Some.is (pushed _ _ _ c.in_ok-push-in-Some.ensures.items)
