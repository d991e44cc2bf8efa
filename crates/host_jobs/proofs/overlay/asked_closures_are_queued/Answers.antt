use Rattle.host_jobs.proofs.OverlayLemmas.{closure_is, live_is, takes_is, count_is, none_is, asked_is, fired_is, drop_is, was_dropped_is}
use Rattle.host_jobs.proofs.overlay.asked_closures_are_queued.Goals as goal

pub returns : goal.returns
returns c = record {
  closure = closure_is;
  live = live_is;
  takes = takes_is;
  count = count_is;
  none = none_is;
  asked = λ asked cs now k. asked_is asked now cs k;
  fired = fired_is;
  dropped = drop_is;
  was_dropped = was_dropped_is;
}
