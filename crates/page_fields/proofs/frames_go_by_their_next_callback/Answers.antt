use Rattle.page_fields.proofs.FieldLemmas.{goes_by_next}
use Rattle.page_fields.proofs.frames_go_by_their_next_callback.Goals as goal

pub returns-clause-next : goal.returns-clause-next
returns-clause-next c w t f m is = goes_by_next w t f m is
