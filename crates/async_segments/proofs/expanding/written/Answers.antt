use Rattle.lang_ast.specs.Seen.{seen_tree}
use Rattle.async_segments.proofs.ScriptLemmas.{refuses_tree, tested_ok, tested_err}
use Rattle.async_segments.proofs.expanding.written.Goals as goal

pub returns-in-Ok-clause-written : goal.returns-in-Ok-clause-written
returns-in-Ok-clause-written c = tested_ok (seen_tree c.args.tree.now) c.in-Ok.written.items c.in-Ok.ensures.written c.tested.result c.tested.ensures.kept c.tested.ensures.no_mark c.tested.ensures.shallow

pub returns-in-Ok-clause-refused : goal.returns-in-Ok-clause-refused
returns-in-Ok-clause-refused c = tested_err (seen_tree c.args.tree.now) c.in-Ok.written.items c.in-Ok.ensures.written c.tested.result c.tested.ensures.refused

pub returns-in-Err-clause-refused : goal.returns-in-Err-clause-refused
returns-in-Err-clause-refused c = λ refused. refuses_tree (seen_tree c.args.tree.now) (c.in-Err.ensures.refused refused)
