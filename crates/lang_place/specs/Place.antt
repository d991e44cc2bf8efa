-- The place of the first token with which the tokens so far begin no script.
use Rattle.std.specs.Prelude.{◌≡◌, ◌⊎◌, ℕ, List, [], ◌∷◌, ◌++◌}
use Rattle.lang_tokens.specs.Seen.{TokenSeen}
use Rattle.lang_place.specs.Forms.{part, Script}
use Rattle.lang_place.specs.Begun.{Begun}
use Rattle.lang_place.specs.Terminals.{terminals_of}
use Rattle.lang_place.specs.Counting.{AreWithin, no_counts}

-- the tokens begin a script, and are within its limits
pub record BeginsScript (ts : List TokenSeen) : Type 0 where
  pub begun : Begun (part Script ∷ []) (terminals_of ts)
  pub within : AreWithin no_counts ts

-- the tokens before this byte begin a script, and with the one that stands at it they do not
pub record StopsAt (ts : List TokenSeen) (at : ℕ) : Type 0 where
  pub before : List TokenSeen
  pub token : TokenSeen
  pub more : List TokenSeen
  pub split : ts ≡ before ++ token ∷ more
  pub begins : BeginsScript before
  pub no_more : BeginsScript (before ++ token ∷ []) → ⊥
  pub place : at ≡ token.at

-- the byte at which the script stops to be the beginning of one, and where it begins one to its end, that end
abbrev pub IsPlace : List TokenSeen → (end at : ℕ) → Type 0
IsPlace ts end at = StopsAt ts at ⊎ (BeginsScript ts × (at ≡ end))
