use Rattle.std.proofs.Common.{refl}
use Rattle.page_state.specs.PageActs.{on_page}
use Rattle.page_host.proofs.turn_laws.waits_end_as_in_the_model.Goals as goal

pub returns : goal.returns
unfolding on_page
returns c = λ target reading s. refl
