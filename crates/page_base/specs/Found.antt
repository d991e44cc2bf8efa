-- What is answered where something is looked for.
use Rattle.std.specs.Prelude.{◌≡◌, Option, Some, None, MatchOption}

-- the answer, as it is seen, is what there is: none where there is none
abbrev pub IsFound : {A B : Type 0} → Option A → (there : Option B) → (seen : A → B) → Type 0
IsFound result there seen = MatchOption result (there ≡ None) (λ found. there ≡ Some (seen found))
