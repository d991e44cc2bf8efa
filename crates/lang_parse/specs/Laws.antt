-- What a tree says of the tokens that have it.
use Rattle.std.specs.Prelude.{ℕ, List, [], ◌∷◌}
use Rattle.page_types.specs.Tree.{Item}
use Rattle.lang_tokens.specs.Seen.{TokenSeen}
use Rattle.lang_tokens.specs.Tokens.{InOrder}
use Rattle.lang_ast.specs.Names.{occurrences, Rise}
use Rattle.lang_place.specs.Forms.{part, Script}
use Rattle.lang_place.specs.Begun.{Begun}
use Rattle.lang_place.specs.Terminals.{terminals_of}
use Rattle.lang_parse.specs.Symbols.{symbols_of}
use Rattle.lang_parse.specs.Grammar.{HasTree}

-- P, where the tokens are those of a script: where they have a tree
abbrev pub IfScript : List TokenSeen → (P : Type 0) → Type 0
IfScript tokens P = (tree : List Item) → HasTree (symbols_of tokens) tree → P

-- the tokens begin a script by the grammar's forms
abbrev pub BeginByForms : List TokenSeen → Type 0
BeginByForms tokens = Begun (part Script ∷ []) (terminals_of tokens)

-- where the tokens stand in order up to this byte and have this tree, its names stand in the order of the text
abbrev pub NamesRise : (end : ℕ) → List TokenSeen → List Item → Type 0
NamesRise end tokens tree =
    InOrder 0 end tokens → HasTree (symbols_of tokens) tree → Rise (occurrences tree)
