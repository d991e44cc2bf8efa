-- An index that tells what operations names stand for.
use Rattle.std.specs.Prelude.{◌≡◌, ℕ, List, Option, Vec}
use Rattle.std.specs.Option.{ForSome}
use Rattle.std.specs.declared.alloc.Global.{Global}
use Rattle.std.specs.Ordering.{nat_cmp}
use Rattle.std.specs.Cmp.Lexicographic.{slice_cmp}
use Rattle.std.specs.BTreeMap.{BTreeMap, get_by}
use Rattle.page_types.specs.declared.Op.{Op}
use Rattle.lang_meaning.specs.OpNames.{op_named}

-- ---- Ours: the names by which a script calls operations

-- what an index has at some bytes
abbrev pub op_at : BTreeMap (Vec ℕ Global) (Option Op) → List ℕ → Option (Option Op)
op_at ops x = get_by (λ k. slice_cmp nat_cmp x k.items) ops

-- the index tells of each name that it has the operation, or that there is none
abbrev pub AreNamed : BTreeMap (Vec ℕ Global) (Option Op) → Type 0
AreNamed ops = (x : List ℕ) → ForSome (op_at ops x) (λ op. op ≡ op_named x)
