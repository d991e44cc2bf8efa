use Rattle.lang_parse.proofs.NamePlaces.{names_rise}
use Rattle.lang_parse.proofs.parser.names_rise.Goals as goal

pub returns : goal.returns
returns c = names_rise
