-- How the symbols of a script are written: with a space between each two, and LF at the end.
use Rattle.std.specs.Prelude.{ℕ, Bool, if◌then◌else◌, List, [], ◌∷◌, ◌++◌}
use Rattle.page_parts.specs.Words.{int_decimal}
use Rattle.page_parts.specs.Spelling.{quoted}
use Rattle.lang_parse.specs.Symbols.{Symbol, NameAt, WordOf, NumberOf, TextOf, SignOf}

-- the bytes of a symbol's token
abbrev pub bytes_of : Symbol → List ℕ
bytes_of (NameAt x at) = x
bytes_of (WordOf bs) = bs
bytes_of (NumberOf n) = int_decimal n
bytes_of (TextOf bs) = quoted bs
bytes_of (SignOf bs) = bs

-- the symbols behind the first one
abbrev pub further : List Symbol → List ℕ
further [] = 10 ∷ []
further (k ∷ ks) = 32 ∷ bytes_of k ++ further ks

abbrev pub space_before : Bool → List ℕ
space_before is_first = if is_first then [] else 32 ∷ []

abbrev pub laid_out : List Symbol → List ℕ
laid_out [] = 10 ∷ []
laid_out (k ∷ ks) = bytes_of k ++ further ks

-- a symbol without its place
abbrev pub placeless : Symbol → Symbol
placeless (NameAt x at) = NameAt x 0
placeless (WordOf bs) = WordOf bs
placeless (NumberOf n) = NumberOf n
placeless (TextOf bs) = TextOf bs
placeless (SignOf bs) = SignOf bs
