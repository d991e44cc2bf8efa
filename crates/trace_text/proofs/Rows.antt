-- Rows of values, read one by one.
use Rattle.std.proofs.Common.{◌≡◌, ◌≢◌, ℕ, ◌<◌, List, [], ◌∷◌, ◌++◌, ◌⊎◌, inl, inr, length, Option, Some, None, refl, sym, ap, ◌∙◌, subst, append_assoc, length-append, arith}
use Rattle.std.specs.Prelude.{IsTrue}
use Rattle.std.specs.List.{join_with_byte}
use Rattle.page_values.specs.Spellings.{Each}
use Rattle.trace_text.specs.ValueEnds.{closes, may_follow, ValueAt, RowAt, ItemsAt, Leaves, LeavesValue}

-- what is left begins with a row exactly where the whole does
pub record GoesOn (IsItem : List ℕ → Type 0) (close : ℕ) (bytes rest : List ℕ) : Type 0 where
  pub sound : (more : List ℕ) → ItemsAt IsItem close rest more → ItemsAt IsItem close bytes more
  pub complete : (more : List ℕ) → ItemsAt IsItem close bytes more → ItemsAt IsItem close rest more

pub begins : (IsItem : List ℕ → Type 0) (close : ℕ) (bytes : List ℕ) → GoesOn IsItem close bytes bytes
begins IsItem close bytes = record { sound = λ more at. at; complete = λ more at. at }

close_follows : (close : ℕ) (more : List ℕ) → closes close → IsTrue (may_follow (close ∷ more))
close_follows close more (inl e) = subst (λ b. IsTrue (may_follow (b ∷ more))) (sym e) refl
close_follows close more (inr e) = subst (λ b. IsTrue (may_follow (b ∷ more))) (sym e) refl

no_comma : (close : ℕ) → closes close → close ≢ 44
no_comma close (inl e) h = omega arith
no_comma close (inr e) h = omega arith

-- behind the first value stands the closing byte, or a comma and the others
abbrev Next : (List ℕ → Type 0) → ℕ → Option (List ℕ) → List ℕ → Type 0
Next IsItem close answer more = (answer ≡ Some (close ∷ more)) ⊎ ((next : List ℕ) × (answer ≡ Some (44 ∷ next)) × ItemsAt IsItem close next more)

by_others : (IsItem : List ℕ → Type 0) (close : ℕ) (bytes more first : List ℕ) (others : List (List ℕ)) (answer : Option (List ℕ)) → closes close → LeavesValue IsItem bytes answer → Each IsItem (first ∷ others)
    → bytes ≡ join_with_byte 44 (first ∷ others) ++ close ∷ more → Next IsItem close answer more
by_others IsItem close bytes more first [] answer closing read each whole =
    inl (read.complete (close ∷ more) (record { spelling = first; spells = each.0; whole = whole }) (close_follows close more closing))
by_others IsItem close bytes more first (x ∷ xs) answer closing read each whole =
    let next : List ℕ = join_with_byte 44 (x ∷ xs) ++ close ∷ more in
    inr (
      next,
      read.complete (44 ∷ next) (record { spelling = first; spells = each.0; whole = whole ∙ append_assoc first (44 ∷ join_with_byte 44 (x ∷ xs)) (close ∷ more) }) refl,
      record { first = x; others = xs; each = each.1; whole = refl },
    )

step : (IsItem : List ℕ → Type 0) (close : ℕ) (bytes more : List ℕ) (answer : Option (List ℕ)) → closes close → LeavesValue IsItem bytes answer → ItemsAt IsItem close bytes more → Next IsItem close answer more
step IsItem close bytes more answer closing read at = by_others IsItem close bytes more at.first at.others answer closing read at.each at.whole

-- a value, a comma and further values
joined : (IsItem : List ℕ → Type 0) (close : ℕ) (rest next end more : List ℕ) → ValueAt IsItem rest end → end ≡ 44 ∷ next → ItemsAt IsItem close next more → ItemsAt IsItem close rest more
joined IsItem close rest next end more v ends at =
    let others : List ℕ = join_with_byte 44 (at.first ∷ at.others) in
    record {
      first = v.spelling;
      others = at.first ∷ at.others;
      each = (v.spells, at.each);
      whole = v.whole ∙ ap (λ e. v.spelling ++ e) (ends ∙ ap (λ x. 44 ∷ x) at.whole) ∙ sym (append_assoc v.spelling (44 ∷ others) (close ∷ more));
    }

comma_left : (IsItem : List ℕ → Type 0) (close : ℕ) (next end more : List ℕ) → closes close → end ≡ 44 ∷ next → Next IsItem close (Some end) more → ItemsAt IsItem close next more
comma_left IsItem close next end more closing ends (inl e) = let same : close ≡ 44 = cc in absurd (no_comma close closing same)
comma_left IsItem close next end more closing ends (inr found) =
    let is = found.1 in
    let same : found.0 ≡ next = cc in subst (λ n. ItemsAt IsItem close n more) same found.2

-- a value and a comma were read
pub after_comma : (IsItem : List ℕ → Type 0) (close : ℕ) (bytes rest next end : List ℕ) → closes close → GoesOn IsItem close bytes rest → LeavesValue IsItem rest (Some end) → end ≡ 44 ∷ next → GoesOn IsItem close bytes next
after_comma IsItem close bytes rest next end closing on read ends = record {
  sound = λ more at. on.sound more (joined IsItem close rest next end more (read.sound end refl) ends at);
  complete = λ more at. comma_left IsItem close next end more closing ends (step IsItem close rest more (Some end) closing read (on.complete more at));
}

alone : (IsItem : List ℕ → Type 0) (close : ℕ) (rest next end more : List ℕ) → ValueAt IsItem rest end → end ≡ close ∷ next → Some next ≡ Some more → ItemsAt IsItem close rest more
alone IsItem close rest next end more v ends is =
    let same : end ≡ close ∷ more = cc in
    record { first = v.spelling; others = []; each = (v.spells, tt); whole = v.whole ∙ ap (λ e. v.spelling ++ e) same }

close_left : (IsItem : List ℕ → Type 0) (close : ℕ) (next end more : List ℕ) → closes close → end ≡ close ∷ next → Next IsItem close (Some end) more → Some next ≡ Some more
close_left IsItem close next end more closing ends (inl e) = cc
close_left IsItem close next end more closing ends (inr found) = let is = found.1 in let same : close ≡ 44 = cc in absurd (no_comma close closing same)

-- the last value and the closing byte were read
pub after_close : (IsItem : List ℕ → Type 0) (close : ℕ) (bytes rest next end : List ℕ) → closes close → GoesOn IsItem close bytes rest → LeavesValue IsItem rest (Some end) → end ≡ close ∷ next → Leaves (ItemsAt IsItem close bytes) (Some next)
after_close IsItem close bytes rest next end closing on read ends = record {
  sound = λ more is. on.sound more (alone IsItem close rest next end more (read.sound end refl) ends is);
  complete = λ more at. close_left IsItem close next end more closing ends (step IsItem close rest more (Some end) closing read (on.complete more at));
}

none_left : (IsItem : List ℕ → Type 0) (close : ℕ) (more : List ℕ) (answer : Option (List ℕ)) → ((next : List ℕ) → answer ≢ Some (close ∷ next)) → ((next : List ℕ) → answer ≢ Some (44 ∷ next)) → Next IsItem close answer more → None ≡ Some more
none_left IsItem close more answer p q (inl e) = absurd (p more e)
none_left IsItem close more answer p q (inr found) = absurd (q found.0 found.1)

-- no value was read, or what stands behind it neither goes on nor closes
pub no_row : (IsItem : List ℕ → Type 0) (close : ℕ) (bytes rest : List ℕ) (answer : Option (List ℕ)) → closes close → GoesOn IsItem close bytes rest → LeavesValue IsItem rest answer
    → ((next : List ℕ) → answer ≢ Some (close ∷ next)) → ((next : List ℕ) → answer ≢ Some (44 ∷ next)) → Leaves (ItemsAt IsItem close bytes) None
no_row IsItem close bytes rest answer closing on read p q = record {
  sound = λ more is. let bad : None ≡ Some more = is in absurd cc;
  complete = λ more at. none_left IsItem close more answer p q (step IsItem close rest more answer closing read (on.complete more at));
}

pub shorter : (IsItem : List ℕ → Type 0) (rest end next : List ℕ) (b : ℕ) → LeavesValue IsItem rest (Some end) → end ≡ b ∷ next → length next < length rest
shorter IsItem rest end next b read ends =
    let v = read.sound end refl in
    let sum = ap length v.whole ∙ length-append v.spelling end in
    let less = ap length ends in
    omega (arith, sum, less)

-- ---- rows that may be empty

no_items : (IsItem : List ℕ → Type 0) (close : ℕ) (bytes more inside : List ℕ) (items : List (List ℕ)) (next : List ℕ) → bytes ≡ close ∷ next → ((spelling : List ℕ) (rest : List ℕ) → IsItem spelling → spelling ++ rest ≢ close ∷ next)
    → Each IsItem items → inside ≡ join_with_byte 44 items → bytes ≡ inside ++ close ∷ more → Some next ≡ Some more
no_items IsItem close bytes more inside [] next is first each row whole =
    let e : bytes ≡ close ∷ more = whole ∙ ap (λ i. i ++ close ∷ more) row in cc
no_items IsItem close bytes more inside (x ∷ []) next is first each row whole =
    absurd (first x (close ∷ more) each.0 (sym (whole ∙ ap (λ i. i ++ close ∷ more) row) ∙ is))
no_items IsItem close bytes more inside (x ∷ y ∷ xs) next is first each row whole =
    absurd (first x ((44 ∷ join_with_byte 44 (y ∷ xs)) ++ close ∷ more) each.0
    (sym (append_assoc x (44 ∷ join_with_byte 44 (y ∷ xs)) (close ∷ more)) ∙ sym (whole ∙ ap (λ i. i ++ close ∷ more) row) ∙ is))

-- the row closes at once
pub closed : (IsItem : List ℕ → Type 0) (close : ℕ) (bytes next : List ℕ) → bytes ≡ close ∷ next → ((spelling : List ℕ) (rest : List ℕ) → IsItem spelling → spelling ++ rest ≢ close ∷ next) → Leaves (RowAt IsItem close bytes) (Some next)
closed IsItem close bytes next is first = record {
  sound = λ more e. let whole : bytes ≡ close ∷ more = cc in record { inside = []; row = record { items = []; each = tt; whole = refl }; whole = whole };
  complete = λ more at. no_items IsItem close bytes more at.inside at.row.items next is first at.row.each at.row.whole at.whole;
}

as_items : (IsItem : List ℕ → Type 0) (close : ℕ) (bytes more inside : List ℕ) (items : List (List ℕ)) → ((next : List ℕ) → bytes ≢ close ∷ next) → Each IsItem items → inside ≡ join_with_byte 44 items → bytes ≡ inside ++ close ∷ more → ItemsAt IsItem close bytes more
as_items IsItem close bytes more inside [] other each row whole = absurd (other more (whole ∙ ap (λ i. i ++ close ∷ more) row))
as_items IsItem close bytes more inside (x ∷ xs) other each row whole = record { first = x; others = xs; each = each; whole = whole ∙ ap (λ i. i ++ close ∷ more) row }

as_row : (IsItem : List ℕ → Type 0) (close : ℕ) (bytes more : List ℕ) → ItemsAt IsItem close bytes more → RowAt IsItem close bytes more
as_row IsItem close bytes more at = record { inside = join_with_byte 44 (at.first ∷ at.others); row = record { items = at.first ∷ at.others; each = at.each; whole = refl }; whole = at.whole }

-- the row does not close at once
pub open_row : (IsItem : List ℕ → Type 0) (close : ℕ) (bytes : List ℕ) (answer : Option (List ℕ)) → ((next : List ℕ) → bytes ≢ close ∷ next) → Leaves (ItemsAt IsItem close bytes) answer → Leaves (RowAt IsItem close bytes) answer
open_row IsItem close bytes answer other read = record {
  sound = λ more is. as_row IsItem close bytes more (read.sound more is);
  complete = λ more at. read.complete more (as_items IsItem close bytes more at.inside at.row.items other at.row.each at.row.whole at.whole);
}
