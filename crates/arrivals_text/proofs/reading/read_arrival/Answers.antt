use Rattle.std.proofs.Common.{◌≡◌, true, arith, subst, sym}
use Rattle.page_values.specs.Names.{is_name}
use Rattle.page_values.specs.Texts.{is_text}
use Rattle.arrivals_text.proofs.Rows.{name_is_text}
use Rattle.arrivals_text.proofs.reading.read_arrival.Goals as goal

pub new-requires : goal.new-requires
new-requires c =
    let named : is_name c.in-Some-cut_at-2.name.now ≡ true = grind (arith, c.is_name.ensures, c.if-not-is_name.false) in
    let copied = c.in_ok-to_vec.ensures.items_if_clones_equal (λ x y same. same) in
    subst (λ bytes. is_text bytes ≡ true) (sym copied) (name_is_text c.in-Some-cut_at-2.name.now named)
