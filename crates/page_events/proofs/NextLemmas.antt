-- The next listener of a dispatch.
use Rattle.std.proofs.Common.{◌≡◌, ℕ, true, false, List, ◌∷◌, Some, sym}
use Rattle.page_parts.specs.Listeners.{Listener, is_listening}
use Rattle.page_events.specs.Dispatching.{next_listening, behind_next}

module _ (ls : List Listener) (r : ℕ) (left rest : List ℕ) (front : left ≡ r ∷ rest) where
  -- the first registration that is left is live
  pub next_found : is_listening r ls ≡ true → next_listening ls left ≡ Some r
  next_found h = rw (front, next_listening, h)

  pub behind_found : is_listening r ls ≡ true → behind_next ls left ≡ rest
  behind_found h = rw (front, behind_next, h)

  -- it is not, and is passed over
  pub next_passed : is_listening r ls ≡ false → next_listening ls rest ≡ next_listening ls left
  next_passed h = sym (rw (front, next_listening, h))

  pub behind_passed : is_listening r ls ≡ false → behind_next ls rest ≡ behind_next ls left
  behind_passed h = sym (rw (front, behind_next, h))
