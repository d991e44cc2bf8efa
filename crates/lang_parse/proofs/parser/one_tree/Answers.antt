use Rattle.lang_parse.proofs.Script.{one_tree}
use Rattle.lang_parse.proofs.parser.one_tree.Goals as goal

pub returns : goal.returns
returns c = one_tree
