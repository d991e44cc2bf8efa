use Rattle.page_values.proofs.Texts.{is_text-append}
use Rattle.page_values.proofs.limits.join.Goals as goal

pub invariant_of-result : goal.invariant_of-result
invariant_of-result c =
    rw (c.in_ok-extend_from_slice-2.ensures.items, c.in_ok-extend_from_slice.ensures.items, c.in_ok-bytes.ensures.items, c.deref.ensures.value, c.deref-2.ensures.value) (is_text-append c.a.inside.bytes.items c.b.inside.bytes.items c.a.invariant c.b.invariant)
