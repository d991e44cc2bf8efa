-- Names that are added to a set.
use Rattle.std.proofs.Common.{◌≡◌, ℕ, List, [], ◌∷◌, ◌++◌, Vec, Global, refl, sym, subst, append-nil}
use Rattle.lang_place.specs.NameSets.{HoldsNames, Adds}

pub adds_nothing : (a : List (Vec ℕ Global)) → Adds a a []
adds_nothing a = record { more = λ xs h. subst (HoldsNames a) (sym (append-nil xs)) h }
