use Rattle.lang_parse.proofs.ScriptForms.{begins}
use Rattle.lang_parse.proofs.begins.a_script_begins.Goals as goal

pub returns : goal.returns
returns c = begins
