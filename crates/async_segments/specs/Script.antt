-- Async scripts, and what they become.
use Rattle.std.specs.Prelude.{◌≡◌, ◌≤◌, ⊤, ℕ, false, List, [], ◌∷◌, length, Ok}
use Rattle.page_types.specs.Tree.{Item}
use Rattle.lang_tokens.specs.Seen.{TokenSeen}
use Rattle.lang_tokens.specs.Tokens.{tokens_of}
use Rattle.lang_parse.specs.Symbols.{Symbol, NameAt, WordOf, NumberOf, TextOf, SignOf, symbols_of}
use Rattle.lang_parse.specs.Grammar.{HasTree, script_spelling}
use Rattle.async_segments.specs.Marked.{MarkedItem, AsyncFn, Plain, IsMarked}
use Rattle.async_segments.specs.Names.{holds_lines}
use Rattle.async_segments.specs.Expanded.{locals_in, expanded}
use Rattle.async_segments.specs.Layout.{laid_out}
use Rattle.async_segments.specs.Unplaced.{tree_unplaced}
use Rattle.async_segments.specs.declared.fault.ExpandFault.{ExpandFault}
use Rattle.async_segments.specs.declared.fault.ExpandFault.TheVariants.{Is, OutOfMemory}

-- a name does not hold `__`, which all names of the expansion do
abbrev pub IsOwnName : Symbol → Type 0
IsOwnName (NameAt x at) = holds_lines x ≡ false
IsOwnName (WordOf bs) = ⊤
IsOwnName (NumberOf n) = ⊤
IsOwnName (TextOf bs) = ⊤
IsOwnName (SignOf bs) = ⊤

-- a fact holds of each symbol
abbrev pub Each : (Symbol → Type 0) → List Symbol → Type 0
Each P [] = ⊤
Each P (k ∷ ks) = P k × Each P ks

-- the name of an async function has at most 50 bytes, and its local names are at most 6
abbrev pub IsSmall : MarkedItem → Type 0
IsSmall (AsyncFn at f xs first others) = (length f.name ≤ 50) × (length (locals_in xs first others) ≤ 6)
IsSmall (Plain item) = ⊤

abbrev pub AreSmall : List MarkedItem → Type 0
AreSmall [] = ⊤
AreSmall (item ∷ items) = IsSmall item × AreSmall items

-- The symbols are those of an async script, whose tree with its marks is this one.
pub record IsAsync (ks : List Symbol) (items : List MarkedItem) : Type 0 where
  pub marked : IsMarked ks items
  pub names : Each IsOwnName ks
  pub small : AreSmall items
  pub expansion : HasTree (script_spelling (expanded items)) (expanded items)

-- the same of bytes, which have these tokens
pub record IsAsyncScript (bytes : List ℕ) (tokens : List TokenSeen) (items : List MarkedItem) : Type 0 where
  pub lexed : tokens_of bytes ≡ Ok tokens
  pub script : IsAsync (symbols_of tokens) items

-- the bytes have one marked tree at most
abbrev pub IsMarkedOnce : List ℕ → Type 0
IsMarkedOnce bytes = (tokens others : List TokenSeen) (items more : List MarkedItem) →
    IsAsyncScript bytes tokens items → IsAsyncScript bytes others more → items ≡ more

-- the bytes are no async script
abbrev pub IsNoAsync : List ℕ → Type 0
IsNoAsync bytes = (tokens : List TokenSeen) (items : List MarkedItem) → IsAsyncScript bytes tokens items → ⊥

-- the text has tokens with a tree, and this is the tree but for the places of names
pub record ReadsAs (text : List ℕ) (items : List Item) : Type 0 where
  pub tokens : List TokenSeen
  pub tree : List Item
  pub lexed : tokens_of text ≡ Ok tokens
  pub has_tree : HasTree (symbols_of tokens) tree
  pub same : tree_unplaced tree ≡ tree_unplaced items

-- what is written is the expansion of the script: its tokens with a space between each two, which are read as it
pub record IsExpansion (bytes written : List ℕ) : Type 0 where
  pub tokens : List TokenSeen
  pub items : List MarkedItem
  pub source : IsAsyncScript bytes tokens items
  pub layout : written ≡ laid_out (script_spelling (expanded items))
  pub read : ReadsAs written (expanded items)

abbrev pub IsNotAsync : ExpandFault → Type 0
IsNotAsync (Is fault) = ⊤
IsNotAsync OutOfMemory = ⊥
