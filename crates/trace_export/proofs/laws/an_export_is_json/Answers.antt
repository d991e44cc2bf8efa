use Rattle.trace_export.proofs.JsonText.{export_is_json}
use Rattle.trace_export.proofs.laws.an_export_is_json.Goals as goal

pub returns : goal.returns
returns c = export_is_json
