-- What a trace may hold as a value, from the reader's side: bytes alone, with no value and no names at hand.
use Rattle.std.specs.Prelude.{◌≡◌, ℕ, zero, suc, ◌<◌, ◌^◌, Bool, true, false, if◌then◌else◌, not, ◌&&◌, ◌||◌, ◌⊎◌, List, [], ◌∷◌, ◌++◌, length, ℤ, FitsSigned, IsTrue, ◌==◌, nat_le, codes}
use Rattle.std.specs.Int.{w64}
use Rattle.std.specs.List.{join_with_byte}
use Rattle.page_types.specs.Values.{Value}
use Rattle.page_types.specs.declared.FaultName.{FaultName}
use Rattle.page_parts.specs.Words.{decimal_of, int_decimal}
use Rattle.page_parts.specs.Spelling.{spelled, fault_text}
use Rattle.page_values.specs.Names.{is_name}
use Rattle.page_values.specs.Written.{IsNumbered}

-- from 0x20 to 0x7E, but no quotation mark
abbrev pub is_plain : ℕ → Bool
is_plain b = (nat_le 32 b && nat_le b 126) && not (b == 34)

-- the bytes between the quotation marks: a backslash stands only before `"`, before another backslash and before `n`
abbrev mutual
  pub are_parts : List ℕ → Bool
  are_parts [] = true
  are_parts (b ∷ bs) = if b == 92 then is_escape_first bs else is_plain b && are_parts bs

  pub is_escape_first : List ℕ → Bool
  is_escape_first [] = false
  is_escape_first (b ∷ bs) = (b == 34 || (b == 92 || b == 110)) && are_parts bs

-- the decimal of a number below a limit
pub record IsNumber (limit : ℕ) (bs : List ℕ) : Type 0 where
  pub number : ℕ
  pub below : number < limit
  pub whole : bs ≡ decimal_of number

-- a value with no values inside
pub data IsSimple (bs : List ℕ) : Type 0 where
  is_unit : bs ≡ codes "unit" → IsSimple bs
  is_true : bs ≡ codes "true" → IsSimple bs
  is_false : bs ≡ codes "false" → IsSimple bs
  is_int : (n : ℤ) → FitsSigned w64 n → bs ≡ int_decimal n → IsSimple bs
  is_text : (parts : List ℕ) → IsTrue (are_parts parts) → bs ≡ 34 ∷ parts ++ 34 ∷ [] → IsSimple bs
  is_promise : (number : List ℕ) → IsNumber (2 ^ 32) number → bs ≡ codes "promise#" ++ number → IsSimple bs
  is_signal : (number : List ℕ) → IsNumber (2 ^ 32) number → bs ≡ codes "signal#" ++ number → IsSimple bs
  is_controller : (number : List ℕ) → IsNumber (2 ^ 32) number → bs ≡ codes "controller#" ++ number → IsSimple bs
  is_period : bs ≡ codes "deadline" → IsSimple bs
  is_deadline : (number : List ℕ) → IsNumber (2 ^ 64) number → bs ≡ codes "deadline@" ++ number → IsSimple bs
  is_fault : (name : FaultName) (parts : List ℕ) → IsTrue (are_parts parts)
      → bs ≡ fault_text name ++ 40 ∷ (34 ∷ parts ++ 34 ∷ []) ++ 41 ∷ [] → IsSimple bs

abbrev pub Each : (List ℕ → Type 0) → List (List ℕ) → Type 0
Each IsItem [] = Unit {0}
Each IsItem (x ∷ xs) = IsItem x × Each IsItem xs

-- spellings with a comma between each two
pub record IsRow (IsItem : List ℕ → Type 0) (bs : List ℕ) : Type 0 where
  pub items : List (List ℕ)
  pub each : Each IsItem items
  pub whole : bs ≡ join_with_byte 44 items

pub record IsListOf (IsItem : List ℕ → Type 0) (bs : List ℕ) : Type 0 where
  pub inside : List ℕ
  pub row : IsRow IsItem inside
  pub whole : bs ≡ 91 ∷ inside ++ 93 ∷ []

pub record IsFunctionOf (IsItem : List ℕ → Type 0) (bs : List ℕ) : Type 0 where
  pub name : List ℕ
  pub named : IsTrue (is_name name)
  pub inside : List ℕ
  pub row : IsRow IsItem inside
  pub whole : bs ≡ codes "fn:" ++ name ++ 40 ∷ inside ++ 41 ∷ []

-- the spelling of a value in which lists and bound lists nest at most so deep
abbrev pub IsSpelling : ℕ → List ℕ → Type 0
IsSpelling zero bs = IsSimple bs
IsSpelling (suc deep) bs = IsSimple bs ⊎ (IsListOf (IsSpelling deep) bs ⊎ IsFunctionOf (IsSpelling deep) bs)

-- Where each function that a value names has one of these names, the value's spelling by them is one.
abbrev pub IsSpelledBy : (names : List (List ℕ)) → Value → Type 0
IsSpelledBy names value = IsNumbered (length names) value → IsSpelling 64 (spelled names value)
