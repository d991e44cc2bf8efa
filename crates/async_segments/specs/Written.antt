-- What the tokens that are to be written are seen as.
use Rattle.std.specs.Prelude.{◌≡◌, Bool, true, false, if◌then◌else◌, List, [], ◌∷◌, ◌++◌, map, ℕ, Result, Vec, IfOk, codes}
use Rattle.std.specs.declared.alloc.Global.{Global}
use Rattle.page_types.specs.Tree.{Exprs, no_exprs, with_expr, Stmt, Block, ElseIfs, ElsePart}
use Rattle.lang_parse.specs.Symbols.{Symbol, NameAt, WordOf, SignOf, symbol_by}
use Rattle.lang_parse.specs.Grammar.{spelling, each_behind}
use Rattle.async_segments.specs.Expanded.{one, in_segment, all_in_segment, others_in_segment, else_in_segment}
use Rattle.async_segments.specs.Names.{with_new}
use Rattle.async_segments.specs.Layout.{placeless}
use Rattle.async_segments.specs.declared.written.Written.{Written}

abbrev pub shown : Written → Symbol
shown w = symbol_by w.kind w.content.items 0

abbrev pub shown_all : List Written → List Symbol
shown_all ws = map shown ws

-- after these tokens came those of the symbols
pub record Adds (old new : List Written) (ks : List Symbol) : Type 0 where
  pub is : shown_all new ≡ shown_all old ++ map placeless ks

-- a call that found memory wrote the tokens of these symbols
abbrev pub Writes : {X E : Type 0} → Result X E → (old new : Vec Written Global) → List Symbol → Type 0
Writes result old new ks = IfOk result (λ _. Adds old.items new.items ks)

-- after these tokens came some, and with those that are left they are all of a row
pub record GoesOn (old new : List Written) (all left : List Symbol) : Type 0 where
  pub is : shown_all new ++ map placeless left ≡ shown_all old ++ map placeless all

-- expressions with a symbol between each two
abbrev pub joined : Symbol → Exprs → List Symbol
joined sign no_exprs = []
joined sign (with_expr e es) = spelling e ++ each_behind sign es

-- a symbol before what is not the first in a row
abbrev pub between : Bool → Symbol → List Symbol
between is_first sign = if is_first then [] else sign ∷ []

-- a statement as it is, or as a segment has it
abbrev pub as_in : Bool → Stmt → Block
as_in true s = in_segment s
as_in false s = one s

abbrev pub all_as_in : Bool → Block → Block
all_as_in true b = all_in_segment b
all_as_in false b = b

abbrev pub others_as_in : Bool → ElseIfs → ElseIfs
others_as_in true others = others_in_segment others
others_as_in false others = others

abbrev pub else_as_in : Bool → ElsePart → ElsePart
else_as_in true last = else_in_segment last
else_as_in false last = last

abbrev pub names_of : List (Vec ℕ Global) → List (List ℕ)
names_of names = map (λ x. x.items) names

-- these names came to those, each once
pub record AddsNames (old new : List (Vec ℕ Global)) (names : List (List ℕ)) : Type 0 where
  pub is : names_of new ≡ with_new (names_of old) names

-- a call that found memory added these names, each once
abbrev pub Gathers : {X E : Type 0} → Result X E → (old new : Vec (Vec ℕ Global) Global) → List (List ℕ) → Type 0
Gathers result old new names = IfOk result (λ _. AddsNames old.items new.items names)

-- "resolve" "(" "p__" ","
abbrev pub resolve_symbols : List Symbol
resolve_symbols = NameAt (codes "resolve") 0 ∷ SignOf (codes "(") ∷ NameAt (codes "p__") 0 ∷ SignOf (codes ",") ∷ []

-- ")" ";"
abbrev pub call_end_symbols : List Symbol
call_end_symbols = SignOf (codes ")") ∷ SignOf (codes ";") ∷ []

-- "return" ";"
abbrev pub return_symbols : List Symbol
return_symbols = WordOf (codes "return") ∷ SignOf (codes ";") ∷ []
