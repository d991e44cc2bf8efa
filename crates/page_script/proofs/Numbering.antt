-- Items by their number, of a list that is seen item by item.
use Rattle.std.proofs.Common.{◌≡◌, ℕ, zero, suc, ◌-◌, ◌<◌, ◌≤◌, arith, List, [], ◌∷◌, length, map, get_or, refl, ap, ◌∙◌}
use Rattle.std.specs.Prelude.{slice_get, slice_set, unwrap_or}
use Rattle.std.proofs.lemmas.List.{length-map}
use Rattle.page_parts.specs.Words.{numbered, with_numbered}

module _ {X Y : Type 0} (f : X → Y) (d : Y) where
  at_index : (xs : List X) (i : ℕ) (x : X) → i < length xs → x ≡ get_or xs i x → f x ≡ unwrap_or (slice_get (map f xs) i) d
  at_index [] i x h e = absurd (omega (arith, h))
  at_index (y ∷ ys) zero x h e = ap f e
  at_index (y ∷ ys) (suc i) x h e = at_index ys i x (omega (arith, h)) e

  -- the item that is read at a number's place
  pub numbered_read : (xs : List X) (n : ℕ) (x : X) → 0 < n → n ≤ length (map f xs) → x ≡ get_or xs (n - 1) x → f x ≡ numbered (map f xs) n d
  numbered_read xs n x h k e =
      let within : n - 1 < length xs = omega (arith, h, k, length-map xs f) in
      at_index xs (n - 1) x within e ∙ ap (λ m. numbered (map f xs) m d) (let same : suc (n - 1) ≡ n = omega (arith, h) in same)

  past_index : (xs : List X) (i : ℕ) → length xs ≤ i → d ≡ unwrap_or (slice_get (map f xs) i) d
  past_index [] i h = refl
  past_index (y ∷ ys) zero h = absurd (omega (arith, h))
  past_index (y ∷ ys) (suc i) h = past_index ys i (omega (arith, h))

  number_of : (xs : List X) (n i : ℕ) → 0 < n → i ≡ n - 1 → unwrap_or (slice_get (map f xs) i) d ≡ numbered (map f xs) n d
  number_of xs n i h at = ap (λ m. numbered (map f xs) m d) (let same : suc i ≡ n = omega (arith, h, at) in same)

  -- the item at the index of a number, and what stands for one that is absent
  pub numbered_there : (xs : List X) (n i : ℕ) (x : X) → 0 < n → i ≡ n - 1 → i < length xs → x ≡ get_or xs i x → f x ≡ numbered (map f xs) n d
  numbered_there xs n i x h at k e = at_index xs i x k e ∙ number_of xs n i h at

  pub numbered_absent : (xs : List X) (n i : ℕ) → 0 < n → i ≡ n - 1 → length xs ≤ i → d ≡ numbered (map f xs) n d
  numbered_absent xs n i h at k = past_index xs i k ∙ number_of xs n i h at

  set_index : (xs : List X) (i : ℕ) (y : X) → map f (slice_set xs i y) ≡ slice_set (map f xs) i (f y)
  set_index [] i y = refl
  set_index (x ∷ xs) zero y = refl
  set_index (x ∷ xs) (suc i) y = ap (λ zs. f x ∷ zs) (set_index xs i y)

  -- another item at a number's place
  pub numbered_set : (xs : List X) (n : ℕ) (y : X) → 0 < n → map f (slice_set xs (n - 1) y) ≡ with_numbered (map f xs) n (f y)
  numbered_set xs n y h =
      set_index xs (n - 1) y ∙ ap (λ m. with_numbered (map f xs) m (f y)) (let same : suc (n - 1) ≡ n = omega (arith, h) in same)

  -- the length of the list as it is seen
  pub length_seen : (xs : List X) (n : ℕ) → n ≤ length xs → n ≤ length (map f xs)
  length_seen xs n h = omega (arith, h, length-map xs f)
