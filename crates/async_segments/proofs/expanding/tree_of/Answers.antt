use Rattle.lang_ast.specs.Seen.{seen_tree}
use Rattle.async_segments.proofs.ScriptLemmas.{has_signed, no_tokens, no_tree, if_ok, if_err}
use Rattle.async_segments.proofs.expanding.tree_of.Goals as goal

pub returns-in-Ok-clause-found : goal.returns-in-Ok-clause-found
returns-in-Ok-clause-found c = if_ok c.parsed.result (λ tree has. has_signed c.args.text.now c.in-Ok.tokens.items (seen_tree tree) c.in-Ok.ensures.found has) c.parsed.ensures.found

pub returns-in-Ok-clause-none : goal.returns-in-Ok-clause-none
returns-in-Ok-clause-none c = if_err c.parsed.result (no_tree c.args.text.now c.in-Ok.tokens.items c.in-Ok.ensures.found) c.parsed.ensures.none

pub returns-in-Err-clause-none : goal.returns-in-Err-clause-none
returns-in-Err-clause-none c = λ refused. no_tokens c.args.text.now (c.in-Err.ensures.none refused)
