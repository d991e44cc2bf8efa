-- Statements as they are, or as a segment has them: how they are spelled.
use Rattle.std.proofs.Common.{◌≡◌, List, [], ◌∷◌, ◌++◌, Bool, true, false, Option, refl, sym, ap, ◌∙◌, append_assoc}
use Rattle.std.specs.Prelude.{codes, cond}
use Rattle.std.proofs.lemmas.List.{append-nil}
use Rattle.page_types.specs.Tree.{Named, Expr, Exprs, no_exprs, with_expr, Stmt, VarStmt, AssignStmt, IfStmt, WhileStmt, ReturnStmt, TryStmt, Block, no_stmts, with_stmt, ElseIfs, no_else_ifs, with_else_if, ElsePart, no_else, else_block}
use Rattle.lang_parse.specs.Symbols.{Symbol, NameAt, WordOf, SignOf}
use Rattle.lang_parse.specs.Grammar.{name_symbol, names_spelling, names_behind, spelling, each_behind, separated, in_brackets, in_braces, stmt_spelling, stmts_spelling, else_ifs_spelling, else_spelling}
use Rattle.async_segments.specs.Marked.{followed_by}
use Rattle.async_segments.specs.Expanded.{one, resolves, resolves_and_returns, in_segment, all_in_segment, others_in_segment, else_in_segment}
use Rattle.async_segments.specs.Written.{resolve_symbols, call_end_symbols, return_symbols, joined, between, as_in, all_as_in, others_as_in, else_as_in}

pub followed_spelling : (a b : Block) → stmts_spelling (followed_by a b) ≡ stmts_spelling a ++ stmts_spelling b
followed_spelling no_stmts b = refl
followed_spelling (with_stmt s a) b = ap (λ z. stmt_spelling s ++ z) (followed_spelling a b) ∙ sym (append_assoc (stmt_spelling s) (stmts_spelling a) (stmts_spelling b))

pub one_spelling : (s : Stmt) → stmts_spelling (one s) ≡ stmt_spelling s
one_spelling s = append-nil (stmt_spelling s)

pub joined_comma : (es : Exprs) → joined (SignOf (codes ",")) es ≡ separated es
joined_comma no_exprs = refl
joined_comma (with_expr e es) = refl

-- what stands before an expression in a row, and the row behind it
abbrev pub rest_joined : Bool → Symbol → Exprs → List Symbol
rest_joined is_first sign es = cond is_first (joined sign es) (each_behind sign es)

pub rest_joined_step : (is_first : Bool) (sign : Symbol) (e : Expr) (es : Exprs) →
    rest_joined is_first sign (with_expr e es) ≡ (between is_first sign ++ spelling e) ++ rest_joined false sign es
rest_joined_step true sign e es = refl
rest_joined_step false sign e es = refl

pub rest_joined_end : (is_first : Bool) (sign : Symbol) → rest_joined is_first sign no_exprs ≡ []
rest_joined_end true sign = refl
rest_joined_end false sign = refl

-- the names that are left
abbrev pub rest_names : Bool → List Named → List Symbol
rest_names is_first xs = cond is_first (names_spelling xs) (names_behind xs)

pub rest_names_step : (is_first : Bool) (x : Named) (xs : List Named) →
    rest_names is_first (x ∷ xs) ≡ (between is_first (SignOf (codes ",")) ++ name_symbol x ∷ []) ++ rest_names false xs
rest_names_step true x xs = refl
rest_names_step false x xs = refl

pub rest_names_end : (is_first : Bool) → rest_names is_first [] ≡ []
rest_names_end true = refl
rest_names_end false = refl

-- ---- statements

-- one that a segment has as it is
pub as_kept : (flag : Bool) (s : Stmt) → in_segment s ≡ one s → stmt_spelling s ≡ stmts_spelling (as_in flag s)
as_kept true s e = sym (ap stmts_spelling e ∙ one_spelling s)
as_kept false s e = sym (one_spelling s)

pub as_var : (flag : Bool) (x : Named) (e : Expr) →
    cond flag [] (WordOf (codes "var") ∷ []) ++ stmt_spelling (AssignStmt x e) ≡ stmts_spelling (as_in flag (VarStmt x e))
as_var true x e = sym (one_spelling (AssignStmt x e))
as_var false x e = sym (one_spelling (VarStmt x e))

pub as_if : (flag : Bool) (e : Expr) (block : Block) (others : ElseIfs) (last : ElsePart) →
    WordOf (codes "if") ∷ in_brackets (spelling e) ++ in_braces (stmts_spelling (all_as_in flag block)) ++ else_ifs_spelling (others_as_in flag others) ++
    else_spelling (else_as_in flag last) ≡ stmts_spelling (as_in flag (IfStmt e block others last))
as_if true e block others last = sym (one_spelling (IfStmt e (all_in_segment block) (others_in_segment others) (else_in_segment last)))
as_if false e block others last = sym (one_spelling (IfStmt e block others last))

pub as_while : (flag : Bool) (e : Expr) (block : Block) →
    WordOf (codes "while") ∷ in_brackets (spelling e) ++ in_braces (stmts_spelling (all_as_in flag block)) ≡ stmts_spelling (as_in flag (WhileStmt e block))
as_while true e block = sym (one_spelling (WhileStmt e (all_in_segment block)))
as_while false e block = sym (one_spelling (WhileStmt e block))

pub as_try : (flag : Bool) (block : Block) (x : Named) (handler : Block) →
    WordOf (codes "try") ∷ in_braces (stmts_spelling (all_as_in flag block)) ++ WordOf (codes "catch") ∷ in_brackets (name_symbol x ∷ []) ++
    in_braces (stmts_spelling (all_as_in flag handler)) ≡ stmts_spelling (as_in flag (TryStmt block x handler))
as_try true block x handler = sym (one_spelling (TryStmt (all_in_segment block) x (all_in_segment handler)))
as_try false block x handler = sym (one_spelling (TryStmt block x handler))

pub as_return : (e : Option Expr) → stmt_spelling (ReturnStmt e) ≡ stmts_spelling (as_in false (ReturnStmt e))
as_return e = sym (one_spelling (ReturnStmt e))

pub resolves_spelling : (e : Expr) → stmt_spelling (resolves e) ≡ resolve_symbols ++ (spelling e ++ call_end_symbols)
resolves_spelling e = ap (λ z. NameAt (codes "resolve") 0 ∷ SignOf (codes "(") ∷ NameAt (codes "p__") 0 ∷ SignOf (codes ",") ∷ z)
    (ap (λ z. (z ++ SignOf (codes ")") ∷ []) ++ SignOf (codes ";") ∷ []) (append-nil (spelling e)) ∙ append_assoc (spelling e) (SignOf (codes ")") ∷ []) (SignOf (codes ";") ∷ []))

pub resolving_spelling : (e : Expr) → stmts_spelling (resolves_and_returns e) ≡ resolve_symbols ++ (spelling e ++ (call_end_symbols ++ return_symbols))
resolving_spelling e = ap (λ z. z ++ return_symbols) (resolves_spelling e) ∙
    (append_assoc resolve_symbols (spelling e ++ call_end_symbols) return_symbols ∙ ap (λ z. resolve_symbols ++ z) (append_assoc (spelling e) call_end_symbols return_symbols))

-- ---- rows of statements

pub all_step : (flag : Bool) (s : Stmt) (rest : Block) →
    stmts_spelling (all_as_in flag (with_stmt s rest)) ≡ stmts_spelling (as_in flag s) ++ stmts_spelling (all_as_in flag rest)
all_step true s rest = followed_spelling (in_segment s) (all_in_segment rest)
all_step false s rest = ap (λ z. z ++ stmts_spelling rest) (sym (one_spelling s))

pub all_end : (flag : Bool) → stmts_spelling (all_as_in flag no_stmts) ≡ []
all_end true = refl
all_end false = refl

pub others_step : (flag : Bool) (e : Expr) (block : Block) (others : ElseIfs) →
    else_ifs_spelling (others_as_in flag (with_else_if e block others)) ≡
    (WordOf (codes "else") ∷ WordOf (codes "if") ∷ in_brackets (spelling e) ++ in_braces (stmts_spelling (all_as_in flag block))) ++ else_ifs_spelling (others_as_in flag others)
others_step true e block others = refl
others_step false e block others = refl

pub others_end : (flag : Bool) → else_ifs_spelling (others_as_in flag no_else_ifs) ≡ []
others_end true = refl
others_end false = refl

pub else_some : (flag : Bool) (block : Block) → WordOf (codes "else") ∷ in_braces (stmts_spelling (all_as_in flag block)) ≡ else_spelling (else_as_in flag (else_block block))
else_some true block = refl
else_some false block = refl

pub else_none : (flag : Bool) → [] ≡ else_spelling (else_as_in flag no_else)
else_none true = refl
else_none false = refl
