-- The names of a tree stand in the order of its symbols, so in a text their bytes rise.
use Rattle.std.proofs.Common.{◌≡◌, ℕ, zero, suc, ◌<◌, ◌≤◌, List, [], ◌∷◌, ◌++◌, Option, Some, None, map, refl, sym, ap, ◌∙◌, subst, arith, codes, append_assoc}
use Rattle.std.specs.Prelude.{slice_get}
use Rattle.std.proofs.lemmas.List.{append-nil}
use Rattle.page_types.specs.Tree.{Named, Expr, Or, And, Compare, Sum, Product, Unary, Post, Number, TextLiteral, TrueLiteral, FalseLiteral, UnitLiteral, Name, Call, Paren, ListLiteral, Exprs, no_exprs, with_expr, SumParts, no_terms, with_term, ProductParts, no_factors, with_factor, Stmt, VarStmt, AssignStmt, ExprStmt, IfStmt, WhileStmt, ReturnStmt, ThrowStmt, TryStmt, Block, no_stmts, with_stmt, ElseIfs, no_else_ifs, with_else_if, ElsePart, no_else, else_block, Item, FnItem, StmtItem}
use Rattle.page_types.specs.declared.SumSign.{SumSign}
use Rattle.page_types.specs.declared.SumSign.TheVariants.{Plus, Minus}
use Rattle.page_types.specs.declared.ProductSign.{ProductSign}
use Rattle.page_types.specs.declared.ProductSign.TheVariants.{Times, Divide, Remainder}
use Rattle.page_types.specs.declared.CompareSign.{CompareSign}
use Rattle.page_types.specs.declared.CompareSign.TheVariants.{Equals, Differs, Less, AtMost, Greater, AtLeast}
use Rattle.page_types.specs.declared.UnarySign.{UnarySign}
use Rattle.page_types.specs.declared.UnarySign.TheVariants.{Negative, Not}
use Rattle.lang_tokens.specs.Seen.{TokenSeen}
use Rattle.lang_tokens.specs.Tokens.{InOrder}
use Rattle.lang_tokens.specs.declared.token.TokenKind.{TokenKind}
use Rattle.lang_tokens.specs.declared.token.TokenKind.TheVariants as token
use Rattle.lang_ast.specs.declared.role.Role.TheVariants as role
use Rattle.lang_ast.specs.Names.{Mention, mention, in_expr, in_exprs, in_terms, in_factors, in_returned, in_stmt, in_block, in_others, in_else, Occurrence, inside, in_function, in_items, occurrences, Rise}
use Rattle.lang_parse.specs.Symbols.{Symbol, NameAt, WordOf, NumberOf, TextOf, SignOf, symbol_by, symbols_of}
use Rattle.lang_parse.specs.Grammar.{sum_sign, product_sign, compare_sign, unary_sign, spelling, each_behind, terms, factors, places_spelled, separated, return_spelling, in_braces, in_brackets, stmt_spelling, stmts_spelling, else_ifs_spelling, else_spelling, names_behind, names_spelling, script_spelling, HasTree}

-- the bytes of the names among symbols
abbrev places_in : List Symbol → List ℕ
places_in [] = []
places_in (NameAt x at ∷ ks) = at ∷ places_in ks
places_in (WordOf bs ∷ ks) = places_in ks
places_in (NumberOf n ∷ ks) = places_in ks
places_in (TextOf bs ∷ ks) = places_in ks
places_in (SignOf bs ∷ ks) = places_in ks

abbrev bytes : List Mention → List ℕ
bytes ms = map (λ m. m.at) ms

append_bytes : (m n : List Mention) → bytes (m ++ n) ≡ bytes m ++ bytes n
append_bytes [] n = refl
append_bytes (x ∷ m) n = ap (λ z. x.at ∷ z) (append_bytes m n)

append_places : (a b : List Symbol) → places_in (a ++ b) ≡ places_in a ++ places_in b
append_places [] b = refl
append_places (NameAt x at ∷ a) b = ap (λ z. at ∷ z) (append_places a b)
append_places (WordOf bs ∷ a) b = append_places a b
append_places (NumberOf n ∷ a) b = append_places a b
append_places (TextOf bs ∷ a) b = append_places a b
append_places (SignOf bs ∷ a) b = append_places a b

both : (a b : List Symbol) (m n : List Mention) → places_in a ≡ bytes m → places_in b ≡ bytes n → places_in (a ++ b) ≡ bytes (m ++ n)
both a b m n e f = append_places a b ∙ ap (λ z. z ++ places_in b) e ∙ ap (λ z. bytes m ++ z) f ∙ sym (append_bytes m n)

closed : (a : List Symbol) (m : List Mention) (bs : List ℕ) → places_in a ≡ bytes m → places_in (a ++ SignOf bs ∷ []) ≡ bytes m
closed a m bs e = append_places a (SignOf bs ∷ []) ∙ append-nil (places_in a) ∙ e

sum_silent : (s : SumSign) (ks : List Symbol) → places_in (sum_sign s ∷ ks) ≡ places_in ks
sum_silent Plus ks = refl
sum_silent Minus ks = refl

product_silent : (s : ProductSign) (ks : List Symbol) → places_in (product_sign s ∷ ks) ≡ places_in ks
product_silent Times ks = refl
product_silent Divide ks = refl
product_silent Remainder ks = refl

compare_silent : (s : CompareSign) (ks : List Symbol) → places_in (compare_sign s ∷ ks) ≡ places_in ks
compare_silent Equals ks = refl
compare_silent Differs ks = refl
compare_silent Less ks = refl
compare_silent AtMost ks = refl
compare_silent Greater ks = refl
compare_silent AtLeast ks = refl

unary_silent : (s : UnarySign) (ks : List Symbol) → places_in (unary_sign s ∷ ks) ≡ places_in ks
unary_silent Negative ks = refl
unary_silent Not ks = refl

mutual
  expr_places : (e : Expr) → places_in (spelling e) ≡ bytes (in_expr e)
  expr_places (Or e es) = both (spelling e) (each_behind (SignOf (codes "||")) es) (in_expr e) (in_exprs es) (expr_places e) (each_places (codes "||") es)
  expr_places (And e es) = both (spelling e) (each_behind (SignOf (codes "&&")) es) (in_expr e) (in_exprs es) (expr_places e) (each_places (codes "&&") es)
  expr_places (Compare a s b) = both (spelling a) (compare_sign s ∷ spelling b) (in_expr a) (in_expr b) (expr_places a) (compare_silent s (spelling b) ∙ expr_places b)
  expr_places (Sum e ps) = both (spelling e) (terms ps) (in_expr e) (in_terms ps) (expr_places e) (terms_places ps)
  expr_places (Product e ps) = both (spelling e) (factors ps) (in_expr e) (in_factors ps) (expr_places e) (factors_places ps)
  expr_places (Unary s e) = unary_silent s (spelling e) ∙ expr_places e
  expr_places (Post e es) = both (spelling e) (places_spelled es) (in_expr e) (in_exprs es) (expr_places e) (indices_places es)
  expr_places (Number n) = refl
  expr_places (TextLiteral bs) = refl
  expr_places TrueLiteral = refl
  expr_places FalseLiteral = refl
  expr_places UnitLiteral = refl
  expr_places (Name x) = refl
  expr_places (Call f es) = ap (λ z. f.at ∷ z) (closed (separated es) (in_exprs es) (codes ")") (separated_places es))
  expr_places (Paren e) = closed (spelling e) (in_expr e) (codes ")") (expr_places e)
  expr_places (ListLiteral es) = closed (separated es) (in_exprs es) (codes "]") (separated_places es)

  each_places : (bs : List ℕ) (es : Exprs) → places_in (each_behind (SignOf bs) es) ≡ bytes (in_exprs es)
  each_places bs no_exprs = refl
  each_places bs (with_expr e es) = both (spelling e) (each_behind (SignOf bs) es) (in_expr e) (in_exprs es) (expr_places e) (each_places bs es)

  terms_places : (ps : SumParts) → places_in (terms ps) ≡ bytes (in_terms ps)
  terms_places no_terms = refl
  terms_places (with_term s e ps) = sum_silent s (spelling e ++ terms ps) ∙ both (spelling e) (terms ps) (in_expr e) (in_terms ps) (expr_places e) (terms_places ps)

  factors_places : (ps : ProductParts) → places_in (factors ps) ≡ bytes (in_factors ps)
  factors_places no_factors = refl
  factors_places (with_factor s e ps) = product_silent s (spelling e ++ factors ps) ∙ both (spelling e) (factors ps) (in_expr e) (in_factors ps) (expr_places e) (factors_places ps)

  indices_places : (es : Exprs) → places_in (places_spelled es) ≡ bytes (in_exprs es)
  indices_places no_exprs = refl
  indices_places (with_expr e es) = both (spelling e) (SignOf (codes "]") ∷ places_spelled es) (in_expr e) (in_exprs es) (expr_places e) (indices_places es)

  separated_places : (es : Exprs) → places_in (separated es) ≡ bytes (in_exprs es)
  separated_places no_exprs = refl
  separated_places (with_expr e es) = both (spelling e) (each_behind (SignOf (codes ",")) es) (in_expr e) (in_exprs es) (expr_places e) (each_places (codes ",") es)

braces : (a : List Symbol) (m : List Mention) → places_in a ≡ bytes m → places_in (in_braces a) ≡ bytes m
braces a m e = closed a m (codes "}") e

brackets : (a : List Symbol) (m : List Mention) → places_in a ≡ bytes m → places_in (in_brackets a) ≡ bytes m
brackets a m e = closed a m (codes ")") e

returned_places : (e : Option Expr) → places_in (return_spelling e) ≡ bytes (in_returned e)
returned_places None = refl
returned_places (Some e) = expr_places e

mutual
  stmt_places : (s : Stmt) → places_in (stmt_spelling s) ≡ bytes (in_stmt s)
  stmt_places (VarStmt x e) = ap (λ z. x.at ∷ z) (closed (spelling e) (in_expr e) (codes ";") (expr_places e))
  stmt_places (AssignStmt x e) = ap (λ z. x.at ∷ z) (closed (spelling e) (in_expr e) (codes ";") (expr_places e))
  stmt_places (ExprStmt e) = closed (spelling e) (in_expr e) (codes ";") (expr_places e)
  stmt_places (IfStmt e block others last) =
      both (in_brackets (spelling e) ++ in_braces (stmts_spelling block) ++ else_ifs_spelling others) (else_spelling last) (in_expr e ++ in_block block ++ in_others others) (in_else last)
      (both (in_brackets (spelling e) ++ in_braces (stmts_spelling block)) (else_ifs_spelling others) (in_expr e ++ in_block block) (in_others others)
      (both (in_brackets (spelling e)) (in_braces (stmts_spelling block)) (in_expr e) (in_block block)
      (brackets (spelling e) (in_expr e) (expr_places e)) (braces (stmts_spelling block) (in_block block) (stmts_places block)))
      (others_places others)) (else_places last)
  stmt_places (WhileStmt e block) =
      both (in_brackets (spelling e)) (in_braces (stmts_spelling block)) (in_expr e) (in_block block)
      (brackets (spelling e) (in_expr e) (expr_places e)) (braces (stmts_spelling block) (in_block block) (stmts_places block))
  stmt_places (ReturnStmt e) = closed (return_spelling e) (in_returned e) (codes ";") (returned_places e)
  stmt_places (ThrowStmt e) = closed (spelling e) (in_expr e) (codes ";") (expr_places e)
  stmt_places (TryStmt block x handler) =
      both (in_braces (stmts_spelling block) ++ WordOf (codes "catch") ∷ in_brackets (NameAt x.name x.at ∷ [])) (in_braces (stmts_spelling handler)) (in_block block ++ mention role.Caught x ∷ []) (in_block handler)
      (both (in_braces (stmts_spelling block)) (WordOf (codes "catch") ∷ in_brackets (NameAt x.name x.at ∷ [])) (in_block block) (mention role.Caught x ∷ [])
      (braces (stmts_spelling block) (in_block block) (stmts_places block)) refl)
      (braces (stmts_spelling handler) (in_block handler) (stmts_places handler))
      ∙ ap bytes (append_assoc (in_block block) (mention role.Caught x ∷ []) (in_block handler))

  stmts_places : (block : Block) → places_in (stmts_spelling block) ≡ bytes (in_block block)
  stmts_places no_stmts = refl
  stmts_places (with_stmt s rest) = both (stmt_spelling s) (stmts_spelling rest) (in_stmt s) (in_block rest) (stmt_places s) (stmts_places rest)

  others_places : (others : ElseIfs) → places_in (else_ifs_spelling others) ≡ bytes (in_others others)
  others_places no_else_ifs = refl
  others_places (with_else_if e block others) =
      both (in_brackets (spelling e) ++ in_braces (stmts_spelling block)) (else_ifs_spelling others) (in_expr e ++ in_block block) (in_others others)
      (both (in_brackets (spelling e)) (in_braces (stmts_spelling block)) (in_expr e) (in_block block)
      (brackets (spelling e) (in_expr e) (expr_places e)) (braces (stmts_spelling block) (in_block block) (stmts_places block)))
      (others_places others)

  else_places : (last : ElsePart) → places_in (else_spelling last) ≡ bytes (in_else last)
  else_places no_else = refl
  else_places (else_block block) = braces (stmts_spelling block) (in_block block) (stmts_places block)

parameters_behind : (xs : List Named) → places_in (names_behind xs) ≡ bytes (map (mention role.Parameter) xs)
parameters_behind [] = refl
parameters_behind (x ∷ xs) = ap (λ z. x.at ∷ z) (parameters_behind xs)

parameters_places : (xs : List Named) → places_in (names_spelling xs) ≡ bytes (map (mention role.Parameter) xs)
parameters_places [] = refl
parameters_places (x ∷ xs) = ap (λ z. x.at ∷ z) (parameters_behind xs)

-- ---- the names of a script

abbrev bytes_of : List Occurrence → List ℕ
bytes_of os = map (λ o. o.mention.at) os

inside_bytes : (scope : Option ℕ) (ms : List Mention) (os : List Occurrence) → bytes_of (inside scope ms ++ os) ≡ bytes ms ++ bytes_of os
inside_bytes scope [] os = refl
inside_bytes scope (m ∷ ms) os = ap (λ z. m.at ∷ z) (inside_bytes scope ms os)

items_places : (n : ℕ) (items : List Item) → places_in (script_spelling items) ≡ bytes_of (in_items n items)
items_places n [] = refl
items_places n (FnItem f xs body ∷ items) =
    let head = in_brackets (names_spelling xs) ++ in_braces (stmts_spelling body) in
    let named = both (in_brackets (names_spelling xs)) (in_braces (stmts_spelling body)) (map (mention role.Parameter) xs) (in_block body)
    (brackets (names_spelling xs) (map (mention role.Parameter) xs) (parameters_places xs)) (braces (stmts_spelling body) (in_block body) (stmts_places body)) in
    ap (λ z. f.at ∷ z) (append_places head (script_spelling items) ∙ ap (λ z. z ++ places_in (script_spelling items)) named
    ∙ ap (λ z. bytes (in_function xs body) ++ z) (items_places (suc n) items) ∙ sym (inside_bytes (Some n) (in_function xs body) (in_items (suc n) items)))
items_places n (StmtItem s ∷ items) =
    append_places (stmt_spelling s) (script_spelling items) ∙ ap (λ z. z ++ places_in (script_spelling items)) (stmt_places s)
    ∙ ap (λ z. bytes (in_stmt s) ++ z) (items_places n items) ∙ sym (inside_bytes None (in_stmt s) (in_items n items))

-- ---- the names of a text

-- the numbers rise, from this one on
abbrev Rises : ℕ → List ℕ → Type 0
Rises from [] = Unit {0}
Rises from (p ∷ ps) = (from ≤ p) × Rises (suc p) ps

rises_from : (from to : ℕ) (ps : List ℕ) → from ≤ to → Rises to ps → Rises from ps
rises_from from to [] le r = tt
rises_from from to (p ∷ ps) le r = (omega (arith, r.0, le), r.1)

token_rises : (from at end : ℕ) (kind : TokenKind) (content : List ℕ) (ks : List Symbol) → from ≤ at → at < end → Rises end (places_in ks) → Rises from (places_in (symbol_by kind content at ∷ ks))
token_rises from at end token.Name content ks le lt r = (le, rises_from (suc at) end (places_in ks) (omega (arith, lt)) r)
token_rises from at end token.Word content ks le lt r = rises_from from end (places_in ks) (omega (arith, le, lt)) r
token_rises from at end (token.Number n) content ks le lt r = rises_from from end (places_in ks) (omega (arith, le, lt)) r
token_rises from at end token.Text content ks le lt r = rises_from from end (places_in ks) (omega (arith, le, lt)) r
token_rises from at end token.Sign content ks le lt r = rises_from from end (places_in ks) (omega (arith, le, lt)) r

tokens_rise : (from to : ℕ) (ts : List TokenSeen) → InOrder from to ts → Rises from (places_in (symbols_of ts))
tokens_rise from to [] h = tt
tokens_rise from to (t ∷ ts) h = token_rises from t.at t.end t.kind t.content (symbols_of ts) h.0 h.1 (tokens_rise t.end to ts h.2)

-- what stands behind is not below
above : (from : ℕ) (os : List Occurrence) (j : ℕ) (b : Occurrence) → Rises from (bytes_of os) → slice_get os j ≡ Some b → from ≤ b.mention.at
above from [] zero b r e = absurd (cc)
above from [] (suc j) b r e = absurd (cc)
above from (o ∷ os) zero b r e = let s : o ≡ b = cc in omega (arith, r.0, ap (λ (o : Occurrence). o.mention.at) s)
above from (o ∷ os) (suc j) b r e = omega (arith, r.0, above (suc o.mention.at) os j b r.1 e)

rise : (from : ℕ) (os : List Occurrence) → Rises from (bytes_of os) → Rise os
rise from [] r zero j a b lt e f = absurd (cc)
rise from [] r (suc i) j a b lt e f = absurd (cc)
rise from (o ∷ os) r i zero a b lt e f = absurd (omega (arith, lt))
rise from (o ∷ os) r zero (suc j) a b lt e f = let s : o ≡ a = cc in omega (arith, above (suc o.mention.at) os j b r.1 f, ap (λ (o : Occurrence). o.mention.at) s)
rise from (o ∷ os) r (suc i) (suc j) a b lt e f = rise (suc o.mention.at) os r.1 i j a b (omega (arith, lt)) e f

pub names_rise : (to : ℕ) (ts : List TokenSeen) (tree : List Item) → InOrder 0 to ts → HasTree (symbols_of ts) tree → Rise (occurrences tree)
names_rise to ts tree order h = rise 0 (occurrences tree) (subst (Rises 0) (ap places_in h.spelled ∙ items_places 0 tree) (tokens_rise 0 to ts order))
