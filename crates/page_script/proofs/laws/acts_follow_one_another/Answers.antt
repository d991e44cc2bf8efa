use Rattle.page_script.proofs.Lifting.{Does-next}
use Rattle.page_script.proofs.PageDoing.{Does-next as Does-next_page}
use Rattle.page_script.proofs.laws.acts_follow_one_another.Goals as goal

pub returns : goal.returns
returns g c = record {
  script = λ f g s mid new old seen after why only h rest. Does-next f g only h rest;
  page = λ f g p mid new old seen after why only h rest. Does-next_page f g only h rest;
}
