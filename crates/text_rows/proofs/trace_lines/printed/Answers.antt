use Rattle.std.proofs.Common.{subst, sym}
use Rattle.trace_text.specs.Trace.{IsPrinted}
use Rattle.text_rows.proofs.trace_lines.printed.Goals as goal

pub new-requires : goal.new-requires
new-requires c = subst (λ bytes. IsPrinted bytes) (sym (c.in_ok-to_vec.ensures.items_if_clones_equal (λ x y same. same))) c.requires
