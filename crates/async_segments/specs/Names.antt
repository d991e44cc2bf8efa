-- The names of an async function and of the functions that it becomes.
use Rattle.std.specs.Prelude.{ℕ, Bool, false, if◌then◌else◌, ◌==◌, ◌&&◌, ◌||◌, List, [], ◌∷◌, ◌++◌, map, codes}
use Rattle.page_types.specs.Tree.{Named, Block}
use Rattle.page_parts.specs.Words.{and_last, decimal_of}
use Rattle.lang_meaning.specs.Evaluation.{names_in}
use Rattle.lang_place.specs.NameSets.{has_name}

-- a name of the expansion, which stands nowhere in the script
abbrev pub new_name : List ℕ → Named
new_name x = record { name = x; at = 0 }

-- these names, and then those of others that are not among them, in their order
abbrev pub with_new : (names more : List (List ℕ)) → List (List ℕ)
with_new names [] = names
with_new names (x ∷ xs) = with_new (if has_name names x then names else and_last names x) xs

-- the names alone, without their places
abbrev pub spellings : List Named → List (List ℕ)
spellings xs = map (λ x. x.name) xs

-- the local names of a function: its parameters, and what `var` and `catch` name in it, in the order of the text
abbrev pub locals_of : List Named → Block → List (List ℕ)
locals_of parameters body = with_new [] (spellings parameters ++ names_in body)

-- f__k, the segment of f with number k
abbrev pub segment_name : List ℕ → ℕ → List ℕ
segment_name f k = f ++ codes "__" ++ decimal_of k

-- f__r, which rejects the promise of f
abbrev pub rejecting_name : List ℕ → List ℕ
rejecting_name f = f ++ codes "__r"

abbrev pub is_line : ℕ → Bool
is_line b = b == 95

abbrev pub begins_with_line : List ℕ → Bool
begins_with_line [] = false
begins_with_line (b ∷ bs) = is_line b

-- whether a name holds `__`, as all new names do
abbrev pub holds_lines : List ℕ → Bool
holds_lines [] = false
holds_lines (b ∷ bs) = (is_line b && begins_with_line bs) || holds_lines bs
