-- Going over lists, item by item.
use Rattle.std.proofs.Common.{◌≡◌, ℕ, zero, suc, ◌+◌, ◌<◌, ◌≤◌, List, [], ◌∷◌, get_or, drop, length, sym, ap, ◌∙◌, refl, arith, nat_eq}
use Rattle.std.specs.Prelude.{◌&&◌}
use Rattle.std.specs.Cmp.Lexicographic.{pointwise}
use Rattle.std.proofs.lemmas.List.{drop_more, drop_all}
use Rattle.page_parts.specs.Words.{same_bytes}
use Rattle.page_parts.specs.Kinds.{same_all, none_left}
use Rattle.page_values.specs.declared.Value.{Value}
use Rattle.page_values.specs.Seen.{seen_all}

-- what is left begins with the item that is looked at
pub front : {X : Type 0} (xs : List X) (i : ℕ) (x : X) → x ≡ get_or xs i x → i < length xs → drop i xs ≡ x ∷ drop (i + 1) xs
front xs i x at lt = drop_more xs i x lt ∙ ap (λ y. y ∷ drop (i + 1) xs) (sym at)

pub same_bytes-pointwise : (xs ys : List ℕ) → pointwise nat_eq xs ys ≡ same_bytes xs ys
same_bytes-pointwise [] [] = refl
same_bytes-pointwise [] (y ∷ ys) = refl
same_bytes-pointwise (x ∷ xs) [] = refl
same_bytes-pointwise (x ∷ xs) (y ∷ ys) = ap (λ b. nat_eq x y && b) (same_bytes-pointwise xs ys)

left_after : (ys : List Value) (i : ℕ) → i ≤ length ys → none_left (seen_all (drop i ys)) ≡ nat_eq i (length ys)
left_after [] zero h = refl
left_after [] (suc i) h = grind arith
left_after (y ∷ ys) zero h = grind arith
left_after (y ∷ ys) (suc i) h = left_after ys i (omega arith) ∙ grind arith

-- where the first list has ended, the second one has too
pub same_end : (xs ys : List Value) (i : ℕ) → length xs ≤ i → i ≤ length ys → same_all (seen_all (drop i xs)) (seen_all (drop i ys)) ≡ nat_eq i (length ys)
same_end xs ys i past h = rw (drop_all i xs past) (left_after ys i h)
