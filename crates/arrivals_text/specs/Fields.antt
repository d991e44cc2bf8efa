-- The fields of a line of an arrivals file.
use Rattle.std.specs.Prelude.{ℕ, zero, suc, Bool, true, false, if◌then◌else◌, not, ◌&&◌, ◌||◌, ◌==◌, nat_le, List, [], ◌∷◌, length, Option, Some, None, option_map, ℤ, pos, negsuc, codes, find, map}
use Rattle.std.specs.List.{slice_split}
use Rattle.page_types.specs.declared.Source.{Source}
use Rattle.page_types.specs.declared.Source.TheVariants.{User, Net, Dom}
use Rattle.page_types.specs.Values.{Value, UnitValue, BoolValue, IntValue, TextValue}
use Rattle.page_parts.specs.Words.{is_empty}
use Rattle.page_parts.specs.Setup.{Policy, Fifo, Rank, Fair, Latency, Arrival}
use Rattle.page_parts.specs.Sources.{default_list}
use Rattle.page_parts.specs.TraceText.{source_text}
use Rattle.page_base.specs.Decimals.{number_at, after_digits}
use Rattle.page_base.specs.Fields.{behind, is_word, cut_at, ◌>>=◌, read_or, where_true}
use Rattle.page_values.specs.Names.{is_name}
use Rattle.loop_policy.specs.Policies.{lists_each}

-- ---- Ours: the arrivals file

-- the words of a text, with exactly one space between each two; two spaces have an empty word between them
abbrev pub words_of : List ℕ → List (List ℕ)
words_of bytes = slice_split (λ b. b == 32) bytes

-- all answers, where each is there
abbrev pub all_of : {X : Type 0} → List (Option X) → Option (List X)
all_of [] = Some []
all_of (None ∷ answers) = None
all_of (Some x ∷ answers) = option_map (λ xs. x ∷ xs) (all_of answers)

-- the canonical decimal of a number within limits
unfoldable pub number_in : (low high : ℕ) → List ℕ → Option ℕ
number_in low high bytes = number_at high bytes >>= λ n. where_true (is_empty (after_digits bytes) && nat_le low n) n

-- the word of a source among these
unfoldable pub source_among : List Source → List ℕ → Option Source
source_among sources word = find (λ s. is_word (source_text (Some s)) word) sources

-- `fifo`, `fair` with a number from 1 to 1000, or `rank` with the seven sources, each once
unfoldable pub sources_at : List ℕ → Option (List Source)
sources_at bytes = all_of (map (source_among default_list) (words_of bytes))

unfoldable pub rank_at : List ℕ → Option Policy
rank_at bytes = sources_at bytes >>= λ sources. where_true (lists_each sources) (Rank sources)

unfoldable pub fair_at : List ℕ → Option Policy
fair_at bytes = option_map Fair (number_in 1 1000 bytes)

unfoldable pub policy_at : List ℕ → Option Policy
policy_at bytes =
    if is_word (codes "fifo") bytes then Some Fifo
    else read_or (behind (codes "fair ") bytes) fair_at
    (read_or (behind (codes "rank ") bytes) rank_at None)

-- one or more latenesses, each at most a second
unfoldable pub late_at : List ℕ → Option (List ℕ)
late_at bytes = all_of (map (number_in 0 1000000) (words_of bytes))

-- a closure's number, and its latency, at most 1,000,000,000 microseconds
unfoldable pub latency_at : List ℕ → Option Latency
latency_at bytes = do
  word ← cut_at 32 bytes
  closure ← number_in 0 4095 word.0
  latency ← number_in 0 1000000000 word.1
  Some (record { closure = closure; latency = latency })

-- ---- the value of an arrival

-- what may stand in a text for itself: from 0x20 to 0x7E, but no `"` and no `\`
abbrev pub is_plain : ℕ → Bool
is_plain b = (nat_le 32 b && nat_le b 126) && not (b == 34 || b == 92)

abbrev mutual
  -- what the parts of a text stand for, up to the `"` that ends it and the bytes
  pub parts_at : List ℕ → Option (List ℕ)
  parts_at [] = None
  parts_at (b ∷ bytes) =
      if b == 34 then where_true (is_empty bytes) []
      else if b == 92 then escape_at bytes
      else if is_plain b then option_map (λ text. b ∷ text) (parts_at bytes) else None

  -- the same after a `\`: `\"` and `\\` stand for their second byte, `\n` stands for LF
  pub escape_at : List ℕ → Option (List ℕ)
  escape_at [] = None
  escape_at (b ∷ bytes) =
      if b == 34 || b == 92 then option_map (λ text. b ∷ text) (parts_at bytes)
      else if b == 110 then option_map (λ text. 10 ∷ text) (parts_at bytes) else None

-- the text of at most 65,535 bytes whose parts these are
unfoldable pub text_at : List ℕ → Option (List ℕ)
text_at bytes = parts_at bytes >>= λ text. where_true (nat_le (length text) 65535) text

-- an integer of 64 bits. `-` stands only before a number that is not 0.
abbrev pub negative : ℕ → ℤ
negative zero = pos 0
negative (suc n) = negsuc n

unfoldable pub int_at : List ℕ → Option ℤ
int_at bytes =
    read_or (behind (codes "-") bytes) (λ digits. option_map negative (number_in 1 9223372036854775808 digits))
    (option_map pos (number_in 0 9223372036854775807 bytes))

unfoldable pub value_at : List ℕ → Option Value
value_at bytes =
    if is_word (codes "unit") bytes then Some UnitValue
    else if is_word (codes "true") bytes then Some (BoolValue true)
    else if is_word (codes "false") bytes then Some (BoolValue false)
    else read_or (behind (codes "\"") bytes) (λ parts. option_map TextValue (text_at parts)) (option_map IntValue (int_at bytes))

-- the time, the source, the name and the value of an arrival
unfoldable pub arrival_at : List ℕ → Option Arrival
arrival_at bytes = do
  time ← cut_at 32 bytes
  at ← number_in 0 1000000000000 time.0
  word ← cut_at 32 time.1
  source ← source_among (User ∷ Net ∷ Dom ∷ []) word.0
  name ← cut_at 32 word.1
  named ← where_true (is_name name.0) name.0
  value ← value_at name.1
  Some (record { at = at; source = source; name = named; value = value })
