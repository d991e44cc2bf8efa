use Rattle.page_script.proofs.Touching.{on_notices-only, new_promise-only, script_promise-only, settle-only, follow-only, oldest_begun-only, checkpoint_begun-only, outstanding_if_unhandled-only, lead_into-only, combinator_made-only, item_made-only, with_element-only}
use Rattle.page_script.proofs.laws.promises_touch_the_script_alone.Goals as goal

pub returns : goal.returns
returns c = record {
  notices = on_notices-only;
  made = new_promise-only;
  of_script = script_promise-only;
  settled = settle-only;
  followed = follow-only;
  job = oldest_begun-only;
  checkpoint = checkpoint_begun-only;
  outstanding = outstanding_if_unhandled-only;
  led = lead_into-only;
  combinator = combinator_made-only;
  item = item_made-only;
  element = with_element-only;
}
