-- What the names that were collected so far are seen as.
use Rattle.std.specs.Prelude.{◌≡◌, List, ◌++◌, map, Option, ℕ, Vec}
use Rattle.std.specs.declared.alloc.Global.{Global}
use Rattle.lang_ast.specs.Names as Model
use Rattle.lang_ast.specs.Names.{Mention, inside, mention, in_function}
use Rattle.lang_ast.specs.Seen.{seen_name, seen_block}
use Rattle.lang_ast.specs.declared.role.Role.TheVariants as role
use Rattle.lang_ast.specs.declared.tree.Function.{Function}
use Rattle.lang_ast.specs.declared.tree.Named.{Named}
use Rattle.lang_names.specs.declared.occurrence.Occurrence.{Occurrence}

abbrev pub seen_occurrence : Occurrence → Model.Occurrence
seen_occurrence o = record { scope = o.scope; mention = record { role = o.role; name = o.name.now; at = o.at } }

abbrev pub seen_all : List Occurrence → List Model.Occurrence
seen_all os = map seen_occurrence os

-- after these names came those, in a function or outside
pub record Adds (scope : Option ℕ) (old new : List Occurrence) (mentions : List Mention) : Type 0 where
  pub is : seen_all new ≡ seen_all old ++ inside scope mentions

-- the same of the list that holds them
abbrev pub Collects : (scope : Option ℕ) → (old new : Vec Occurrence Global) → List Mention → Type 0
Collects scope old new mentions = Adds scope old.items new.items mentions

-- names, each as that of a parameter
abbrev pub in_parameters : List Named → List Mention
in_parameters xs = map (mention role.Parameter) (map seen_name xs)

-- the names of a function's parameters, and those in its block
abbrev pub mentions_of : Function → List Mention
mentions_of f = in_function (map seen_name f.parameters.items) (seen_block f.body.items)

-- after these names came some, and with those that are left they are all of a row
pub record GoesOn (scope : Option ℕ) (old new : List Occurrence) (all left : List Mention) : Type 0 where
  pub is : seen_all new ++ inside scope left ≡ seen_all old ++ inside scope all
