use Rattle.page_hosts.proofs.PageLemmas.{found_is, asked_is, fired_is, answered_is, legal_is}
use Rattle.std.proofs.Common.{refl}
use Rattle.page_hosts.proofs.laws.closures_are_those_of_a_page.Goals as goal

pub returns : goal.returns
returns g c = record {
  found = found_is;
  asked = asked_is;
  fired = fired_is;
  answered = answered_is;
  dropped = λ p t. refl;
  legal = legal_is;
}
