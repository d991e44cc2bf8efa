-- The parts of a text, one after another.
use Rattle.std.specs.Prelude.{◌≡◌, ℕ, List, ◌∷◌, Option, None, option_map, MatchOption}
use Rattle.std.specs.Borrow.{Bor}
use Rattle.arrivals_text.specs.Fields.{parts_at, escape_at}

-- what is answered of the first part: the byte that it stands for, and what follows it; none where these bytes are no parts of a text
abbrev pub IsPart : Option (ℕ × Bor (List ℕ)) → (bytes : List ℕ) → Type 0
IsPart result bytes =
    MatchOption result (parts_at bytes ≡ None) (λ part. parts_at bytes ≡ option_map (λ text. part.0 ∷ text) (parts_at part.1.now))

-- the same behind a `\`, with which the first part begins
abbrev pub IsEscape : Option (ℕ × Bor (List ℕ)) → (bytes : List ℕ) → Type 0
IsEscape result bytes =
    MatchOption result (escape_at bytes ≡ None) (λ part. escape_at bytes ≡ option_map (λ text. part.0 ∷ text) (parts_at part.1.now))
