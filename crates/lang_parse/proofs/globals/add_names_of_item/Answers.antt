use Rattle.lang_parse.proofs.NameSteps.{on_ok, no_item_names, item_adds}
use Rattle.lang_parse.proofs.globals.add_names_of_item.Goals as goal

pub returns-in-Fn-clause-added : goal.returns-in-Fn-clause-added
returns-in-Fn-clause-added c = no_item_names c.args.item.now c.in-Fn.field-0 _ c.in-Fn.is

pub returns-in-Stmt-clause-added : goal.returns-in-Stmt-clause-added
returns-in-Stmt-clause-added c = on_ok c.add_names_of.result _ _ (item_adds c.args.item.now c.in-Stmt.statement _ _ c.in-Stmt.is) c.add_names_of.ensures.added
