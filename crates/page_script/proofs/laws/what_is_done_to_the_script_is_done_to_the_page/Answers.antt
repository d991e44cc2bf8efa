use Rattle.page_script.proofs.Lifting.{Does-script}
use Rattle.page_script.proofs.Tasking.{Does-tasks}
use Rattle.page_script.proofs.laws.what_is_done_to_the_script_is_done_to_the_page.Goals as goal

pub returns : goal.returns
returns g c = record {
  alone = λ f p s old new why only h. Does-script f p only h;
  tasks = λ f p s old new why only h. Does-tasks f p only h;
}
