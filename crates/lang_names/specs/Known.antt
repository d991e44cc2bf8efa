-- What a set of names holds.
use Rattle.std.specs.Prelude.{ℕ, List, Option, Bool, ◌≡◌, ◌&&◌, ◌||◌, nat_eq}
use Rattle.std.specs.Option.{option_eq}
use Rattle.std.specs.Cmp.Lexicographic.{pointwise}
use Rattle.std.specs.HashSet.{contains_by}
use Rattle.page_parts.specs.Words.{same_bytes}
use Rattle.lang_ast.specs.declared.role.Role.{Role}
use Rattle.lang_ast.specs.Names.{Occurrence}
use Rattle.lang_ast.specs.NameFaults.{same_scope, names_as}
use Rattle.lang_names.specs.declared.name_set.NameSet.{NameSet}

abbrev pub has_name : NameSet → Option ℕ → List ℕ → Bool
has_name set scope x = contains_by (λ k. option_eq nat_eq scope k.0 && pointwise nat_eq x k.1.now) set.names

-- a name was added to a set
abbrev pub Added : (old new : NameSet) → Option ℕ → List ℕ → Type 0
Added old new scope x = (s : Option ℕ) (y : List ℕ) → has_name new s y ≡ ((same_scope scope s && same_bytes x y) || has_name old s y)

-- a set has the names that these give as something of this kind
abbrev pub HasAs : (Role → Bool) → NameSet → List Occurrence → Type 0
HasAs kind set os = (scope : Option ℕ) (x : List ℕ) → has_name set scope x ≡ names_as kind os scope x
