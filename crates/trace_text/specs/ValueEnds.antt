-- What stands behind a value at the front of some bytes.
use Rattle.std.specs.Prelude.{◌≡◌, ◌≢◌, ℕ, Bool, true, false, if◌then◌else◌, ◌||◌, ◌==◌, ◌⊎◌, List, [], ◌∷◌, ◌++◌, length, drop, take_while, Option, Some, None, MatchOption, codes, IsTrue}
use Rattle.std.specs.Borrow.{Bor}
use Rattle.std.specs.List.{join_with_byte}
use Rattle.page_base.specs.Decimals.{is_digit, number_at, after_digits}
use Rattle.page_base.specs.Fields.{behind, ◌>>=◌, read_or}
use Rattle.page_values.specs.Names.{is_name, is_name_byte}
use Rattle.page_values.specs.Spellings.{is_plain, Each, IsRow}

-- ---- Ours: simple values, read from the front

-- behind a canonical decimal of at most so much
unfoldable pub after_number : ℕ → List ℕ → Option (List ℕ)
after_number most bytes = number_at most bytes >>= λ n. Some (after_digits bytes)

-- behind the size of a negative integer, which is not 0
unfoldable pub after_negative : List ℕ → Option (List ℕ)
after_negative bytes = number_at 9223372036854775808 bytes >>= λ n. if n == 0 then None else Some (after_digits bytes)

-- behind an integer of 64 bits
unfoldable pub after_int : List ℕ → Option (List ℕ)
after_int bytes = read_or (behind (codes "-") bytes) after_negative (after_number 9223372036854775807 bytes)

abbrev mutual
  -- behind the parts of a text and the `"` that ends it
  pub after_parts : List ℕ → Option (List ℕ)
  after_parts [] = None
  after_parts (b ∷ bytes) =
      if b == 34 then Some bytes
      else if b == 92 then after_escape bytes
      else if is_plain b then after_parts bytes else None

  -- the same after a `\`
  pub after_escape : List ℕ → Option (List ℕ)
  after_escape [] = None
  after_escape (b ∷ bytes) = if b == 34 || (b == 92 || b == 110) then after_parts bytes else None

-- behind the text of a fault, in brackets
unfoldable pub after_cause : List ℕ → Option (List ℕ)
after_cause bytes = behind (codes "(\"") bytes >>= after_parts >>= behind (codes ")")

-- behind a fault
unfoldable pub after_fault : List ℕ → Option (List ℕ)
after_fault bytes =
    read_or (behind (codes "Error") bytes) after_cause
    (read_or (behind (codes "TypeError") bytes) after_cause
    (read_or (behind (codes "RangeError") bytes) after_cause
    (read_or (behind (codes "AbortError") bytes) after_cause
    (read_or (behind (codes "TimeoutError") bytes) after_cause
    (read_or (behind (codes "NotAllowedError") bytes) after_cause None)))))

-- behind the time of a deadline, if there is one
unfoldable pub after_deadline : List ℕ → Option (List ℕ)
after_deadline bytes = read_or (behind (codes "@") bytes) (after_number 18446744073709551615) (Some bytes)

-- behind what has a number, or a fault
unfoldable pub after_numbered : List ℕ → Option (List ℕ)
after_numbered bytes =
    read_or (behind (codes "promise#") bytes) (after_number 4294967295)
    (read_or (behind (codes "signal#") bytes) (after_number 4294967295)
    (read_or (behind (codes "controller#") bytes) (after_number 4294967295)
    (read_or (behind (codes "deadline") bytes) after_deadline (after_fault bytes))))

-- behind a simple value that is no integer
unfoldable pub after_word : List ℕ → Option (List ℕ)
after_word bytes =
    read_or (behind (codes "unit") bytes) Some
    (read_or (behind (codes "true") bytes) Some
    (read_or (behind (codes "false") bytes) Some
    (read_or (behind (codes "\"") bytes) after_parts (after_numbered bytes))))

-- whether the first byte is `-` or a digit
abbrev pub begins_number : List ℕ → Bool
begins_number [] = false
begins_number (b ∷ bytes) = b == 45 || is_digit b

-- behind a value with no values inside
unfoldable pub after_simple : List ℕ → Option (List ℕ)
after_simple bytes = if begins_number bytes then after_int bytes else after_word bytes

-- ---- Ours: what begins a row of values

-- behind a name and the bracket that opens its row
unfoldable pub inside_name : List ℕ → Option (List ℕ)
inside_name bytes =
    if is_name (take_while is_name_byte bytes) then behind (codes "(") (drop (length (take_while is_name_byte bytes)) bytes) else None

-- behind what begins a list or a function, with the byte that will close it
unfoldable pub inside : List ℕ → Option (ℕ × List ℕ)
inside bytes =
    read_or (behind (codes "[") bytes) (λ row. Some (93, row))
    (behind (codes "fn:") bytes >>= inside_name >>= λ row. Some (41, row))

-- the byte closes a list, or a function
abbrev pub closes : ℕ → Type 0
closes b = (b ≡ 93) ⊎ (b ≡ 41)

-- ---- Ours: values and rows of values at the front of some bytes

-- what may stand behind a value: nothing, a comma, or a closing bracket
abbrev pub may_follow : List ℕ → Bool
may_follow [] = true
may_follow (b ∷ bytes) = b == 44 || (b == 93 || b == 41)

-- a value's spelling stands at the front, and this behind it
pub record ValueAt (IsItem : List ℕ → Type 0) (bytes rest : List ℕ) : Type 0 where
  pub spelling : List ℕ
  pub spells : IsItem spelling
  pub whole : bytes ≡ spelling ++ rest

-- spellings with a comma between each two stand at the front, then the byte that closes them, and this behind it
pub record RowAt (IsItem : List ℕ → Type 0) (close : ℕ) (bytes rest : List ℕ) : Type 0 where
  pub inside : List ℕ
  pub row : IsRow IsItem inside
  pub whole : bytes ≡ inside ++ close ∷ rest

-- the same, with one spelling at least
pub record ItemsAt (IsItem : List ℕ → Type 0) (close : ℕ) (bytes rest : List ℕ) : Type 0 where
  pub first : List ℕ
  pub others : List (List ℕ)
  pub each : Each IsItem (first ∷ others)
  pub whole : bytes ≡ join_with_byte 44 (first ∷ others) ++ close ∷ rest

-- the answer is what stands behind, and none exactly where nothing of the kind stands at the front
pub record Leaves (At : List ℕ → Type 0) (answer : Option (List ℕ)) : Type 0 where
  pub sound : (rest : List ℕ) → answer ≡ Some rest → At rest
  pub complete : (rest : List ℕ) → At rest → answer ≡ Some rest

-- the answer is what stands behind a value; the value is found wherever it can end there
pub record LeavesValue (IsItem : List ℕ → Type 0) (bytes : List ℕ) (answer : Option (List ℕ)) : Type 0 where
  pub sound : (rest : List ℕ) → answer ≡ Some rest → ValueAt IsItem bytes rest
  pub complete : (rest : List ℕ) → ValueAt IsItem bytes rest → IsTrue (may_follow rest) → answer ≡ Some rest

-- ---- Ours: bytes that a call lends again

-- they are the rest that is told, and none exactly where none is told
abbrev pub IsRest : Option (Bor (List ℕ)) → (told : Option (List ℕ)) → Type 0
IsRest result told = MatchOption result (told ≡ None) (λ rest. told ≡ Some rest.now)

-- they stand behind this byte, and there are none exactly where the byte does not stand at the front
abbrev pub IsBehindByte : Option (Bor (List ℕ)) → (wanted : ℕ) → (bytes : List ℕ) → Type 0
IsBehindByte result wanted bytes =
    MatchOption result ((rest : List ℕ) → bytes ≢ wanted ∷ rest) (λ rest. bytes ≡ wanted ∷ rest.now)

-- the text whose parts these bytes begin goes on with them, and there are none only where it never ends
abbrev pub IsBehindPart : Option (Bor (List ℕ)) → (bytes : List ℕ) → Type 0
IsBehindPart result bytes = MatchOption result (after_parts bytes ≡ None) (λ rest. after_parts bytes ≡ after_parts rest.now)
