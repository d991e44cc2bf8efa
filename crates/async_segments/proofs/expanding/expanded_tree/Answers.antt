use Rattle.std.proofs.Common.{ap, ◌∙◌}
use Rattle.lang_ast.specs.Seen.{seen_tree}
use Rattle.async_segments.specs.Layout.{laid_out}
use Rattle.async_segments.specs.Written.{shown_all}
use Rattle.async_segments.proofs.ScriptLemmas.{lays_out}
use Rattle.async_segments.proofs.expanding.expanded_tree.Goals as goal

pub returns-in_ok-lay_out-in-Ok-clause-expanded : goal.returns-in_ok-lay_out-in-Ok-clause-expanded
returns-in_ok-lay_out-in-Ok-clause-expanded c = lays_out (seen_tree c.args.tree.now) c.in-Ok.written.items _ c.in-Ok.ensures.written (c.in_ok-lay_out-in-Ok.ensures ∙ ap (λ ws. laid_out (shown_all ws)) c.deref.ensures.value)
