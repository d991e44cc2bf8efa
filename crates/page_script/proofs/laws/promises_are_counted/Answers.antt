use Rattle.page_script.proofs.Lengths.{settle-made, follow-made, subscribe-made, lead_into-made, combinator_made-made, element_made-made, item_made-made}
use Rattle.page_script.proofs.laws.promises_are_counted.Goals as goal

pub returns : goal.returns
returns c = record {
  settled = settle-made;
  followed = follow-made;
  subscribed = subscribe-made;
  led = lead_into-made;
  combinator = combinator_made-made;
  element = element_made-made;
  item = item_made-made;
}
