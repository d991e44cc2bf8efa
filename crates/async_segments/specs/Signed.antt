-- The tree of the script with signs in place of `async` and `await`, and what is written of it.
use Rattle.std.specs.Prelude.{◌≡◌, ℕ, List, map, Ok}
use Rattle.page_types.specs.Tree.{Item}
use Rattle.lang_tokens.specs.Seen.{TokenSeen}
use Rattle.lang_tokens.specs.Tokens.{tokens_of}
use Rattle.lang_parse.specs.Symbols.{symbols_of}
use Rattle.lang_parse.specs.Grammar.{HasTree, script_spelling}
use Rattle.async_segments.specs.Marked.{MarkedItem}
use Rattle.async_segments.specs.Expanded.{expanded}
use Rattle.async_segments.specs.Layout.{placeless, laid_out}
use Rattle.async_segments.specs.Encoded.{IsExpandable}
use Rattle.async_segments.specs.Written.{shown_all}
use Rattle.async_segments.specs.declared.written.Written.{Written}

pub record HasSignedTree (bytes : List ℕ) (tree : List Item) : Type 0 where
  pub tokens : List TokenSeen
  pub lexed : tokens_of bytes ≡ Ok tokens
  pub has_tree : HasTree (symbols_of tokens) tree

abbrev pub HasNoSignedTree : List ℕ → Type 0
HasNoSignedTree bytes = (tree : List Item) → HasSignedTree bytes tree → ⊥

pub record WritesTree (tree : List Item) (written : List Written) : Type 0 where
  pub items : List MarkedItem
  pub expandable : IsExpandable tree items
  pub shown : shown_all written ≡ map placeless (script_spelling (expanded items))

abbrev pub RefusesTree : List Item → Type 0
RefusesTree tree = (items : List MarkedItem) → IsExpandable tree items → ⊥

-- the tokens of the plain script were laid out
pub record LaysOutTree (tree : List Item) (out : List ℕ) : Type 0 where
  pub items : List MarkedItem
  pub expandable : IsExpandable tree items
  pub layout : out ≡ laid_out (script_spelling (expanded items))
