-- How an exported call is read, part by part.
use Rattle.std.specs.Prelude.{◌≡◌, ℕ, ◌+◌, Bool, ◌&&◌, ◌==◌, not, List, [], ◌∷◌, Option, Some, None, option_map, MatchOption, codes, nat_le, if◌then◌else◌}
use Rattle.std.specs.Borrow.{Bor}
use Rattle.page_base.specs.Decimals.{number_at, after_digits}
use Rattle.page_base.specs.Fields.{behind, ◌>>=◌, where_true}
use Rattle.trace_export.specs.Export.{Span}

-- ---- Ours: texts

-- a byte of a text that stands for itself between quotation marks
abbrev pub is_plain : ℕ → Bool
is_plain b = (nat_le 32 b && nat_le b 126) && (not (b == 34) && not (b == 92))

-- a text with this byte in front, and what stands behind it
abbrev pub with_byte : ℕ → Option (List ℕ × List ℕ) → Option (List ℕ × List ℕ)
with_byte b read = option_map (λ r. (b ∷ r.0, r.1)) read

-- the byte that is spelled with a backslash and this one
abbrev pub unescaped : ℕ → Option ℕ
unescaped b = if b == 34 then Some 34 else if b == 92 then Some 92 else if b == 110 then Some 10 else None

-- The text up to the next quotation mark, and what stands behind that.
abbrev mutual
  pub text_at : List ℕ → Option (List ℕ × List ℕ)
  text_at [] = None
  text_at (b ∷ bytes) =
      if b == 34 then Some ([], bytes)
      else if b == 92 then escape_at bytes
      else if is_plain b then with_byte b (text_at bytes)
      else None

  -- the same, behind a backslash
  pub escape_at : List ℕ → Option (List ℕ × List ℕ)
  escape_at [] = None
  escape_at (b ∷ bytes) = unescaped b >>= λ c. with_byte c (text_at bytes)

-- what is answered of the first byte of a text: the byte that is spelled, and what stands behind it; none where no text is spelled
abbrev pub IsFirstByte : Option (ℕ × Bor (List ℕ)) → (bytes : List ℕ) → Type 0
IsFirstByte result bytes =
    MatchOption result (text_at bytes ≡ None) (λ r. text_at bytes ≡ with_byte r.0 (text_at r.1.now))

-- ---- Ours: calls

-- a number of 64 bits, and what stands behind it
unfoldable pub count_at : List ℕ → Option (ℕ × List ℕ)
count_at bytes = option_map (λ n. (n, after_digits bytes)) (number_at 18446744073709551615 bytes)

-- a call, where its end is a number of 64 bits, and what stands behind it
unfoldable pub span_at : List ℕ → Option (Span × List ℕ)
span_at bytes = do
  first ← behind (codes "{\"dur\":") bytes
  length ← count_at first
  second ← behind (codes ",\"name\":\"") length.1
  name ← text_at second
  third ← behind (codes ",\"ph\":\"X\",\"pid\":1,\"tid\":1,\"ts\":") name.1
  begin ← count_at third
  rest ← behind (codes "}") begin.1
  where_true (nat_le (begin.0 + length.0) 18446744073709551615)
      (record { name = name.0; begin = begin.0; end = begin.0 + length.0 }, rest)
