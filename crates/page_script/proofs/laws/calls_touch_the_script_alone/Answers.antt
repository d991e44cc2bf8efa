use Rattle.page_script.proofs.Lifting.{emit-only}
use Rattle.page_script.proofs.Touching.{register_as-only, call_begun-only, call_ended-only, thrown-only, report-only, report_before-only, report_after-only, at_time-only, turn-only, wait-only, under-only, level-only, scheduling-only, with_state-only, posted-only, posts_taken-only}
use Rattle.page_script.proofs.laws.calls_touch_the_script_alone.Goals as goal

pub returns : goal.returns
returns c = record {
  line = emit-only;
  registered = register_as-only;
  begun = call_begun-only;
  ended = call_ended-only;
  thrown = thrown-only;
  report = report-only;
  before = report_before-only;
  after = report_after-only;
  time = at_time-only;
  turn = turn-only;
  wait = wait-only;
  context = under-only;
  level = level-only;
  scheduling = scheduling-only;
  state = with_state-only;
  posted = posted-only;
  taken = posts_taken-only;
}
