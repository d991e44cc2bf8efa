-- What one list of a pool has become changes no other list and not how many there are.
use Rattle.std.proofs.Common.{◌≡◌, ◌≢◌, ℕ, ◌<◌, List, get_or, set, length, [], ap, ◌∙◌}
use Rattle.std.proofs.lemmas.List.{length-set, get_or-set_same, get_or-set_other}
use Rattle.task_pool.specs.Lists.{Entry, Lists, list_of}

module _ {T : Type 0} where
  pub set_here : (old new : Lists T) (l : ℕ) (es : List (Entry T)) → l < length old.lists → new.lists ≡ set old.lists l es → list_of new l ≡ es
  set_here old new l es h is = ap (λ (ls : List (List (Entry T))). get_or ls l []) is ∙ get_or-set_same old.lists l es [] h

  pub set_elsewhere : (old new : Lists T) (l : ℕ) (es : List (Entry T)) → new.lists ≡ set old.lists l es → (k : ℕ) → k ≢ l → list_of new k ≡ list_of old k
  set_elsewhere old new l es is k h = ap (λ (ls : List (List (Entry T))). get_or ls k []) is ∙ get_or-set_other old.lists l k es [] h

  pub set_length : (old new : Lists T) (l : ℕ) (es : List (Entry T)) → new.lists ≡ set old.lists l es → length new.lists ≡ length old.lists
  set_length old new l es is = ap length is ∙ length-set old.lists l es
