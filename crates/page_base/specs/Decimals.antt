-- Numbers written in decimal digits.
use Rattle.std.specs.Prelude.{ℕ, ◌+◌, ◌-◌, ◌*◌, ◌^◌, ◌&&◌, Bool, true, false, not, List, [], ◌∷◌, length, drop, Option, Some, None, ◌==◌, nat_le, take_while, if◌then◌else◌}

-- the characters 0 to 9
abbrev pub is_digit : ℕ → Bool
is_digit byte = nat_le 48 byte && nat_le byte 57

-- the longest run of digits at the front, and what stands behind it
abbrev pub digits_of : List ℕ → List ℕ
digits_of bytes = take_while is_digit bytes

abbrev pub after_digits : List ℕ → List ℕ
after_digits bytes = drop (length (digits_of bytes)) bytes

-- the number that digits spell, each digit at its place
abbrev pub number_of : List ℕ → ℕ
number_of [] = 0
number_of (digit ∷ digits) = (digit - 48) * 10 ^ length digits + number_of digits

-- the one spelling of a number: a digit at least, and no 0 before other digits
abbrev pub is_canonical : List ℕ → Bool
is_canonical [] = false
is_canonical (digit ∷ []) = true
is_canonical (digit ∷ next ∷ digits) = not (digit == 48)

-- the number at the front of some bytes, where it is canonical and not above `most`
abbrev pub number_at : ℕ → List ℕ → Option ℕ
number_at most bytes =
    if is_canonical (digits_of bytes) && nat_le (number_of (digits_of bytes)) most
    then Some (number_of (digits_of bytes))
    else None
