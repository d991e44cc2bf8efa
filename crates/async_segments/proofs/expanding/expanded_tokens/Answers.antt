use Rattle.std.proofs.Common.{◌≡◌, ap, ◌∙◌}
use Rattle.lang_ast.specs.Seen.{seen_tree}
use Rattle.async_segments.specs.Encoded.{marked_bytes}
use Rattle.async_segments.proofs.ScriptLemmas.{not_signed, not_expandable, expanded_to, if_ok, if_err}
use Rattle.async_segments.proofs.expanding.expanded_tokens.Goals as goal

pub returns-in-Ok-clause-expanded : goal.returns-in-Ok-clause-expanded
returns-in-Ok-clause-expanded c =
    let text : c.in_ok-text.text.items ≡ marked_bytes 0 c.args.source.now.items c.args.bytes.now = c.in_ok-text.ensures ∙ ap (λ ts. marked_bytes 0 ts c.args.bytes.now) c.items.ensures.value in
    if_ok c.expanded_tree.result (λ out laid. expanded_to c.args.bytes.now c.args.source.now.items c.requires.lexed c.deref.result.now (c.deref.ensures.value ∙ text) (seen_tree c.in-Ok.tree) c.in-Ok.ensures.found out.items c.requires.own_names laid) c.expanded_tree.ensures.expanded

pub returns-in-Ok-clause-refused : goal.returns-in-Ok-clause-refused
returns-in-Ok-clause-refused c =
    let text : c.in_ok-text.text.items ≡ marked_bytes 0 c.args.source.now.items c.args.bytes.now = c.in_ok-text.ensures ∙ ap (λ ts. marked_bytes 0 ts c.args.bytes.now) c.items.ensures.value in
    if_err c.expanded_tree.result (not_expandable c.args.bytes.now c.args.source.now.items c.requires.lexed c.deref.result.now (c.deref.ensures.value ∙ text) (seen_tree c.in-Ok.tree) c.in-Ok.ensures.found) c.expanded_tree.ensures.refused

pub returns-clause-refused : goal.returns-clause-refused
returns-clause-refused c =
    let text : c.in_ok-text.text.items ≡ marked_bytes 0 c.args.source.now.items c.args.bytes.now = c.in_ok-text.ensures ∙ ap (λ ts. marked_bytes 0 ts c.args.bytes.now) c.items.ensures.value in
    λ refused. not_signed c.args.bytes.now c.args.source.now.items c.requires.lexed c.deref.result.now (c.deref.ensures.value ∙ text) (c.in-Err.ensures.none refused)
