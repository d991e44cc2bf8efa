-- What is written of items, whose marks are found one after another.
use Rattle.std.specs.Prelude.{◌≡◌, ◌≤◌, ℕ, List, [], ◌∷◌, length, map, Option, Some, None}
use Rattle.page_types.specs.Tree.{Item, FnItem, StmtItem}
use Rattle.lang_meaning.specs.Evaluation.{functions_of}
use Rattle.lang_ast.specs.declared.tree.Function.{Function}
use Rattle.lang_ast.specs.Seen.{seen_name, seen_block}
use Rattle.lang_parse.specs.Grammar.{script_spelling}
use Rattle.async_segments.specs.Marked.{MarkedItem, AsyncFn, Plain}
use Rattle.async_segments.specs.Expanded.{expanded, expanded_item}
use Rattle.async_segments.specs.Script.{IsSmall, AreSmall}
use Rattle.async_segments.specs.Encoded.{cut, mark_at, Found, in_front, found}
use Rattle.async_segments.specs.Written.{Adds, shown_all}
use Rattle.async_segments.specs.Layout.{placeless}
use Rattle.async_segments.specs.declared.written.Written.{Written}

abbrev pub seen_fn : Function → Item
seen_fn f = FnItem (seen_name f.name) (map seen_name f.parameters.items) (seen_block f.body.items)

-- an async function that stands behind a mark
abbrev pub marked_fn : ℕ → Function → MarkedItem
marked_fn at f =
    AsyncFn at (seen_name f.name) (map seen_name f.parameters.items) (cut (seen_block f.body.items)).first
    (cut (seen_block f.body.items)).others

-- the marked item that an item behind a mark is
abbrev pub behind_mark : ℕ → Item → Option MarkedItem
behind_mark at (FnItem f xs body) = Some (AsyncFn at f xs (cut body).first (cut body).others)
behind_mark at (StmtItem s) = None

-- an item was written, which is so many functions
pub record WritesOne (item : MarkedItem) (old new : List Written) (count : ℕ) : Type 0 where
  pub small : IsSmall item
  pub adds : Adds old new (script_spelling (expanded_item item))
  pub functions : count ≡ length (functions_of (expanded_item item))

-- an async function was written, wherever its mark stands
abbrev pub WritesMarked : Function → (old new : List Written) → ℕ → Type 0
WritesMarked f old new count = (at : ℕ) → WritesOne (marked_fn at f) old new count

abbrev pub WritesBehind : Item → (old new : List Written) → ℕ → Type 0
WritesBehind item old new count =
    (at : ℕ) → (marked : MarkedItem) × (behind_mark at item ≡ Some marked) × WritesOne marked old new count

-- no small item stands behind the mark
abbrev pub RefusesBehind : Item → Type 0
RefusesBehind item = (at : ℕ) (marked : MarkedItem) → behind_mark at item ≡ Some marked → IsSmall marked → ⊥

-- an item behind none is a mark, or is written as it is; an item behind a mark is written as an async function
abbrev pub WritesNext : (begun : Option ℕ) → Item → (mark : Option ℕ) → (old new : List Written) → ℕ → Type 0
WritesNext None item None old new count = (mark_at item ≡ None) × WritesOne (Plain item) old new count
WritesNext None item (Some at) old new count = (mark_at item ≡ Some at) × (new ≡ old) × (count ≡ 0)
WritesNext (Some at) item None old new count = (m : MarkedItem) × (behind_mark at item ≡ Some m) × WritesOne m old new count
WritesNext (Some at) item (Some other) old new count = ⊥

abbrev pub RefusesNext : Option ℕ → Item → Type 0
RefusesNext None item = ⊥
RefusesNext (Some at) item = (marked : MarkedItem) → behind_mark at item ≡ Some marked → IsSmall marked → ⊥

-- all items with their marks were written
pub record WritesItems (tree : List Item) (written : List Written) : Type 0 where
  pub items : List MarkedItem
  pub marks : found tree None ≡ Some items
  pub small : AreSmall items
  pub functions : length (functions_of (expanded items)) ≤ 4096
  pub shown : shown_all written ≡ map placeless (script_spelling (expanded items))

-- no small items with marks are the tree, or their functions are too many
abbrev pub RefusesItems : List Item → Type 0
RefusesItems tree = (items : List MarkedItem) → found tree None ≡ Some items → AreSmall items →
    length (functions_of (expanded items)) ≤ 4096 → ⊥

-- these items before others that were found
abbrev pub all_in_front : List MarkedItem → Found → Found
all_in_front [] o = o
all_in_front (m ∷ ms) o = in_front m (all_in_front ms o)

-- these items were found and written, and behind a mark, or none, the rest is left
pub record Walk (tree rest : List Item) (pending : Option ℕ) (written : List Written) (functions : ℕ) : Type 0 where
  pub front : List MarkedItem
  pub marks : found tree None ≡ all_in_front front (found rest pending)
  pub small : AreSmall front
  pub few : functions ≤ 4096
  pub count : functions ≡ length (functions_of (expanded front))
  pub shown : shown_all written ≡ map placeless (script_spelling (expanded front))
