use Rattle.trace_export.proofs.ReadLists.{one_reading}
use Rattle.trace_export.proofs.laws.an_export_has_one_reading.Goals as goal

pub returns : goal.returns
returns c = one_reading
