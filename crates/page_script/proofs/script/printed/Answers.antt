use Rattle.std.proofs.Common.{◌++◌, ◌∙◌, ap, sym, subst}
use Rattle.page_parts.specs.Spelling.{spelled}
use Rattle.page_values.specs.Seen.{seen}
use Rattle.page_values.specs.Spellings.{IsSpelling}
use Rattle.page_script.proofs.script.printed.Goals as goal

pub new-requires : goal.new-requires
new-requires c =
    let whole = c.in_ok-print.ensures.ok ∙ ap (λ z. z ++ spelled c.args.names.now (seen c.args.value.now)) c.new-spelling.ensures.items in
    record { spelling = subst (IsSpelling 64) (sym whole) (c.in_ok-print.ensures.spelling c.requires) }
