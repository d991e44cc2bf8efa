use Rattle.page_laws.proofs.Migrating.{migrates}
use Rattle.page_laws.proofs.a_trace_is_told_in_its_second_form.Goals as goal

pub returns : goal.returns
returns c = λ program setup hosts es legal. migrates program setup hosts es legal
