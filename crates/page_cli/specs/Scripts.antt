-- What stands in the bytes of a script.
use Rattle.std.specs.Prelude.{◌≡◌, ◌≤◌, ◌⊎◌, ℕ, List, length, Ok, Err}
use Rattle.page_types.specs.Tree.{Item, Program}
use Rattle.lang_tokens.specs.Seen.{TokenSeen}
use Rattle.lang_tokens.specs.Tokens.{tokens_of}
use Rattle.lang_place.specs.Place.{IsPlace}
use Rattle.lang_parse.specs.Symbols.{symbols_of}
use Rattle.lang_parse.specs.Grammar.{HasTree}
use Rattle.lang_ast.specs.Names.{occurrences}
use Rattle.lang_ast.specs.NameFaults.{IsResolved, IsFirstFault}
use Rattle.lang_ast.specs.Programs.{program_of}
use Rattle.lang_names.specs.Told.{seen_fault}
use Rattle.lang_names.specs.declared.fault.NameFault.{NameFault}

-- ---- Ours: the language of scripts, from bytes on

-- The script has this tree by the grammar. It has at most 1,048,576 bytes.
pub record IsScript (bytes : List ℕ) (tree : List Item) : Type 0 where
  pub size : length bytes ≤ 1048576
  pub tokens : List TokenSeen
  pub tokens_are : tokens_of bytes ≡ Ok tokens
  pub has_tree : HasTree (symbols_of tokens) tree

-- the script's program: that of its tree, in which no name is at fault
pub record HasProgram (script : List ℕ) (program : Program) : Type 0 where
  pub tree : List Item
  pub is_script : IsScript script tree
  pub is_resolved : IsResolved tree
  pub is_program : program ≡ program_of tree

-- the script has a program
abbrev pub HasSomeProgram : List ℕ → Type 0
HasSomeProgram script = (program : Program) × HasProgram script program

-- the script has no tree
abbrev pub HasNoTree : List ℕ → Type 0
HasNoTree script = (tree : List Item) → IsScript script tree → ⊥

-- the script's first bad byte, or the place of the first token with which its tokens stop to be the beginning of a script
abbrev pub IsSyntaxPlace : List ℕ → ℕ → Type 0
IsSyntaxPlace script at =
    (tokens_of script ≡ Err at) ⊎ ((tokens : List TokenSeen) × (tokens_of script ≡ Ok tokens) × IsPlace tokens (length script) at)

-- the script has no tree, and the error is at this byte
pub record IsSyntaxError (script : List ℕ) (at : ℕ) : Type 0 where
  pub none : HasNoTree script
  pub place : IsSyntaxPlace script at

-- the script has a tree, in which this name is at fault, and no name before it
pub record HasBadName (script : List ℕ) (fault : NameFault) : Type 0 where
  pub tree : List Item
  pub is_script : IsScript script tree
  pub first : IsFirstFault (occurrences tree) (seen_fault fault)
