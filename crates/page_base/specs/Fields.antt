-- How a line of text is cut into its fields.
use Rattle.std.specs.Prelude.{ℕ, Bool, if◌then◌else◌, ◌==◌, List, [], ◌∷◌, Option, Some, None, option_map}
use Rattle.page_parts.specs.Words.{same_bytes}

-- what follows a start, where the bytes begin with it
abbrev pub behind_start : (start bytes : List ℕ) → Option (List ℕ)
behind_start [] bytes = Some bytes
behind_start (c ∷ start) [] = None
behind_start (c ∷ start) (b ∷ bytes) = if b == c then behind_start start bytes else None

-- the same, for any start
unfoldable pub behind : (start bytes : List ℕ) → Option (List ℕ)
behind start bytes = behind_start start bytes

-- whether the bytes are this word
unfoldable pub is_word : (word bytes : List ℕ) → Bool
is_word word bytes = same_bytes word bytes

-- what stands before the first byte of a kind, and what stands behind it
abbrev pub cut_at : ℕ → List ℕ → Option (List ℕ × List ℕ)
cut_at byte [] = None
cut_at byte (b ∷ bytes) = if b == byte then Some ([], bytes) else option_map (λ c. (b ∷ c.0, c.1)) (cut_at byte bytes)

-- the answer and what it leads to; none where one of them is none
infixl 10 ◌>>=◌
abbrev pub ◌>>=◌ : {A B : Type 0} → Option A → (A → Option B) → Option B
None >>= next = None
(Some x) >>= next = next x

-- what the rest is read as, where there is one, or else the other answer
abbrev pub read_or : {X : Type 0} → Option (List ℕ) → (List ℕ → Option X) → Option X → Option X
read_or None read other = other
read_or (Some rest) read other = read rest

-- the value, where the test holds
abbrev pub where_true : {X : Type 0} → Bool → X → Option X
where_true test x = if test then Some x else None
