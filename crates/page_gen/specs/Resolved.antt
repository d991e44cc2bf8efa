-- Bytes that are a script whose names are resolved.
use Rattle.std.specs.Prelude.{◌≡◌, ◌≤◌, ℕ, List, length, Ok}
use Rattle.page_types.specs.Tree.{Item}
use Rattle.lang_tokens.specs.Seen.{TokenSeen}
use Rattle.lang_tokens.specs.Tokens.{tokens_of}
use Rattle.lang_parse.specs.Symbols.{symbols_of}
use Rattle.lang_parse.specs.Grammar.{HasTree}
use Rattle.lang_ast.specs.NameFaults.{IsResolved}

-- ---- Ours: the language of scripts, from bytes on

-- These bytes have a tree by the grammar, in which no name is at fault. There are at most 1,048,576 of them.
pub record IsResolvedScript (bytes : List ℕ) : Type 0 where
  pub size : length bytes ≤ 1048576
  pub tokens : List TokenSeen
  pub tokens_are : tokens_of bytes ≡ Ok tokens
  pub tree : List Item
  pub has_tree : HasTree (symbols_of tokens) tree
  pub is_resolved : IsResolved tree
