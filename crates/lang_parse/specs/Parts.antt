-- Parts of the grammar as the parser reads them: x is read at the front of the symbols, and a rest follows it.
use Rattle.std.specs.Prelude.{◌≡◌, ◌≤◌, ◌||◌, ◌⊎◌, ℕ, ⊤, Bool, if◌then◌else◌, List, [], ◌∷◌, ◌++◌, Option, Some, None, codes}
use Rattle.page_types.specs.Tree.{Named, Expr, Or, And, Compare, Sum, Product, Post, Stmt, Item}
use Rattle.page_types.specs.declared.SumSign.{SumSign}
use Rattle.page_types.specs.declared.ProductSign.{ProductSign}
use Rattle.page_types.specs.declared.CompareSign.{CompareSign}
use Rattle.page_parts.specs.Words.{same_bytes}
use Rattle.lang_ast.specs.Seen.{exprs_of, terms_of, factors_of}
use Rattle.lang_parse.specs.Symbols.{Symbol, NameAt, WordOf, NumberOf, TextOf, SignOf}
use Rattle.lang_parse.specs.Grammar.{name_symbol, sum_sign, product_sign, compare_sign, spelling, level, IsExpr, stmt_spelling, IsStmt, item_spelling, IsItem}

-- ---- what may follow

abbrev pub is_compare_sign : List ℕ → Bool
is_compare_sign bs =
    same_bytes bs (codes "==") || same_bytes bs (codes "!=") || same_bytes bs (codes "<") || same_bytes bs (codes "<=") ||
    same_bytes bs (codes ">") || same_bytes bs (codes ">=")

abbrev pub is_sum_sign : List ℕ → Bool
is_sum_sign bs = same_bytes bs (codes "+") || same_bytes bs (codes "-")

abbrev pub is_product_sign : List ℕ → Bool
is_product_sign bs = same_bytes bs (codes "*") || same_bytes bs (codes "/") || same_bytes bs (codes "%")

-- How tightly a symbol goes on with the expression before it: one more than the level that it belongs to, and 0 where
-- no expression goes on with it.
unfoldable pub binding : Symbol → ℕ
binding (NameAt x at) = 0
binding (WordOf bs) = 0
binding (NumberOf n) = 0
binding (TextOf bs) = 0
binding (SignOf bs) =
    if same_bytes bs (codes "||") then 1
    else if same_bytes bs (codes "&&") then 2
    else if is_compare_sign bs then 3
    else if is_sum_sign bs then 4
    else if is_product_sign bs then 5
    else if same_bytes bs (codes "[") then 7
    else if same_bytes bs (codes "(") then 8 else 0

-- the rest does not go on with an expression of this level
abbrev pub Stops : ℕ → List Symbol → Type 0
Stops n [] = ⊤
Stops n (k ∷ ks) = binding k ≤ n

abbrev pub Anything : List Symbol → Type 0
Anything ks = ⊤

-- the rest does not begin with `else`
abbrev pub NotElse : List Symbol → Type 0
NotElse ks = (rest : List Symbol) → ks ≡ WordOf (codes "else") ∷ rest → ⊥

-- ---- parts

-- a symbol, and a part behind it
pub record Behind {X : Type 0} (k : Symbol) (R : X → List Symbol → List Symbol → Type 0) (x : X) (ks end : List Symbol) : Type 0 where
  pub mid : List Symbol
  pub begins : ks ≡ k ∷ mid
  pub goes_on : R x mid end

-- a part, and a symbol that closes it
pub record Closed {X : Type 0} (R : X → List Symbol → List Symbol → Type 0) (k : Symbol) (x : X) (ks end : List Symbol) : Type 0 where
  pub inner : R x ks (k ∷ end)

-- a part, and another one
pub record Both {X Y : Type 0} (A : X → List Symbol → List Symbol → Type 0) (B : Y → List Symbol → List Symbol → Type 0) (p : X × Y)
    (ks end : List Symbol) : Type 0 where
  pub mid : List Symbol
  pub first : A p.0 ks mid
  pub second : B p.1 mid end

-- {part}
abbrev pub Many : {X : Type 0} → (X → List Symbol → List Symbol → Type 0) → List X → (ks end : List Symbol) → Type 0
Many R [] ks end = ks ≡ end
Many R (x ∷ xs) ks end = (mid : List Symbol) × R x ks mid × Many R xs mid end

-- [part]
abbrev pub Perhaps : {X : Type 0} → (X → List Symbol → List Symbol → Type 0) → Option X → (ks end : List Symbol) → Type 0
Perhaps R None ks end = ks ≡ end
Perhaps R (Some x) ks end = R x ks end

-- a name
abbrev pub NameRead : Named → (ks end : List Symbol) → Type 0
NameRead x ks end = ks ≡ name_symbol x ∷ end

-- an expression of this level, or of one that binds more tightly
abbrev pub IsAt : ℕ → Expr → Type 0
IsAt n e = (n ≤ level e) × IsExpr e

pub record Reads (n : ℕ) (e : Expr) (ks end : List Symbol) : Type 0 where
  pub tree : IsAt n e
  pub spelled : ks ≡ spelling e ++ end

-- an operand behind one of several signs
abbrev pub Signed : {S : Type 0} → (S → Symbol) → ℕ → S × Expr → (ks end : List Symbol) → Type 0
Signed sign n p ks end = Behind (sign p.0) (Reads n) p.1 ks end

abbrev pub SumItem : SumSign × Expr → (ks end : List Symbol) → Type 0
SumItem = Signed sum_sign 4

abbrev pub ProductItem : ProductSign × Expr → (ks end : List Symbol) → Type 0
ProductItem = Signed product_sign 5

abbrev pub CompareItem : CompareSign × Expr → (ks end : List Symbol) → Type 0
CompareItem = Signed compare_sign 3

-- an operand behind `||` or `&&`
abbrev pub OrItem : Expr → (ks end : List Symbol) → Type 0
OrItem = Behind (SignOf (codes "||")) (Reads 1)

abbrev pub AndItem : Expr → (ks end : List Symbol) → Type 0
AndItem = Behind (SignOf (codes "&&")) (Reads 2)

-- "[" expr "]"
abbrev pub Place : Expr → (ks end : List Symbol) → Type 0
Place = Behind (SignOf (codes "[")) (Closed (Reads 0) (SignOf (codes "]")))

-- "," expr
abbrev pub CommaItem : Expr → (ks end : List Symbol) → Type 0
CommaItem = Behind (SignOf (codes ",")) (Reads 0)

-- [part {item}]
abbrev pub Separated : {X : Type 0} → (item next : X → List Symbol → List Symbol → Type 0) → List X
    → List Symbol → List Symbol → Type 0
Separated R item [] ks end = ks ≡ end
Separated R item (x ∷ xs) ks end = (mid : List Symbol) × R x ks mid × Many item xs mid end

-- expressions with commas between them
pub record Listed (xs : List Expr) (ks end : List Symbol) : Type 0 where
  pub inner : Separated (Reads 0) CommaItem xs ks end

-- the rest goes on neither with an expression nor with a comma
pub record ListEnds (ks : List Symbol) : Type 0 where
  pub stops : Stops 0 ks
  pub no_comma : (rest : List Symbol) → ks ≡ SignOf (codes ",") ∷ rest → ⊥

-- the same with one expression at least
pub record SomeListed (xs : List Expr) (ks end : List Symbol) : Type 0 where
  pub some : xs ≡ [] → ⊥
  pub listed : Listed xs ks end

-- a sign that closes a list of expressions
abbrev pub IsCloser : List ℕ → Type 0
IsCloser close = (close ≡ codes ")") ⊎ (close ≡ codes "]")

-- expressions with commas between them, and this sign behind them
abbrev pub ListedUpTo : (close : List ℕ) → List Expr → (ks end : List Symbol) → Type 0
ListedUpTo close = Closed Listed (SignOf close)

pub record StmtRead (s : Stmt) (ks end : List Symbol) : Type 0 where
  pub tree : IsStmt s
  pub spelled : ks ≡ stmt_spelling s ++ end

-- expr ";"
abbrev pub Ended : Expr → (ks end : List Symbol) → Type 0
Ended = Closed (Reads 0) (SignOf (codes ";"))

-- "(" expr ")"
abbrev pub Condition : Expr → (ks end : List Symbol) → Type 0
Condition = Behind (SignOf (codes "(")) (Closed (Reads 0) (SignOf (codes ")")))

-- "{" {stmt} "}"
abbrev pub BlockRead : List Stmt → (ks end : List Symbol) → Type 0
BlockRead = Behind (SignOf (codes "{")) (Closed (Many StmtRead) (SignOf (codes "}")))

-- "else" "if" "(" expr ")" block
abbrev pub ElseIf : Expr × List Stmt → (ks end : List Symbol) → Type 0
ElseIf = Behind (WordOf (codes "else")) (Behind (WordOf (codes "if")) (Both Condition BlockRead))

-- "else" block
abbrev pub Else : List Stmt → (ks end : List Symbol) → Type 0
Else = Behind (WordOf (codes "else")) BlockRead

-- "(" name ")"
abbrev pub BracketedName : Named → (ks end : List Symbol) → Type 0
BracketedName = Behind (SignOf (codes "(")) (Closed NameRead (SignOf (codes ")")))

-- the statements, each as the parts that are read one after another

abbrev pub VarParts : Named × Expr → (ks end : List Symbol) → Type 0
VarParts = Behind (WordOf (codes "var")) (Both NameRead (Behind (SignOf (codes "=")) Ended))

abbrev pub AssignParts : Named × Expr → (ks end : List Symbol) → Type 0
AssignParts = Both NameRead (Behind (SignOf (codes "=")) Ended)

abbrev pub IfParts : Expr × (List Stmt × (List (Expr × List Stmt) × Option (List Stmt))) → (ks end : List Symbol) → Type 0
IfParts = Behind (WordOf (codes "if")) (Both Condition (Both BlockRead (Both (Many ElseIf) (Perhaps Else))))

abbrev pub WhileParts : Expr × List Stmt → (ks end : List Symbol) → Type 0
WhileParts = Behind (WordOf (codes "while")) (Both Condition BlockRead)

abbrev pub ReturnParts : Option Expr → (ks end : List Symbol) → Type 0
ReturnParts = Behind (WordOf (codes "return")) (Closed (Perhaps (Reads 0)) (SignOf (codes ";")))

abbrev pub ThrowParts : Expr → (ks end : List Symbol) → Type 0
ThrowParts = Behind (WordOf (codes "throw")) Ended

abbrev pub TryParts : List Stmt × (Named × List Stmt) → (ks end : List Symbol) → Type 0
TryParts = Behind (WordOf (codes "try")) (Both BlockRead (Behind (WordOf (codes "catch")) (Both BracketedName BlockRead)))

-- the symbols begin with a sign
pub record BeginsWith (sign : List ℕ) (ks : List Symbol) : Type 0 where
  pub rest : List Symbol
  pub begins : ks ≡ SignOf sign ∷ rest

-- the rest closes a block
abbrev pub ClosesBlock : List Symbol → Type 0
ClosesBlock ks = BeginsWith (codes "}") ks

-- the rest does not begin with `else if`
abbrev pub NotElseIf : List Symbol → Type 0
NotElseIf ks = (rest : List Symbol) → ks ≡ WordOf (codes "else") ∷ WordOf (codes "if") ∷ rest → ⊥

-- the symbols begin with `else if`, and this rest stands behind it
abbrev pub BeginsElseIf : (ks rest : List Symbol) → Type 0
BeginsElseIf ks rest = ks ≡ WordOf (codes "else") ∷ WordOf (codes "if") ∷ rest

-- "," name
abbrev pub CommaName : Named → (ks end : List Symbol) → Type 0
CommaName = Behind (SignOf (codes ",")) NameRead

-- names with commas between them
pub record NamesListed (xs : List Named) (ks end : List Symbol) : Type 0 where
  pub inner : Separated NameRead CommaName xs ks end

-- "(" [name {"," name}] ")"
abbrev pub Parameters : List Named → (ks end : List Symbol) → Type 0
Parameters = Behind (SignOf (codes "(")) (Closed NamesListed (SignOf (codes ")")))

-- "fn" name "(" [name {"," name}] ")" block
abbrev pub FnParts : Named × (List Named × List Stmt) → (ks end : List Symbol) → Type 0
FnParts = Behind (WordOf (codes "fn")) (Both NameRead (Both Parameters BlockRead))

pub record ItemRead (item : Item) (ks end : List Symbol) : Type 0 where
  pub tree : IsItem item
  pub spelled : ks ≡ item_spelling item ++ end

-- nothing is left
abbrev pub AtEnd : List Symbol → Type 0
AtEnd ks = ks ≡ []

-- ---- a level from its operands: without optional parts it is its one operand

abbrev pub or_of : Expr → List Expr → Expr
or_of e [] = e
or_of e (x ∷ xs) = Or e (exprs_of (x ∷ xs))

abbrev pub and_of : Expr → List Expr → Expr
and_of e [] = e
and_of e (x ∷ xs) = And e (exprs_of (x ∷ xs))

abbrev pub compare_of : Expr → Option (CompareSign × Expr) → Expr
compare_of a None = a
compare_of a (Some p) = Compare a p.0 p.1

abbrev pub sum_of : Expr → List (SumSign × Expr) → Expr
sum_of e [] = e
sum_of e (p ∷ ps) = Sum e (terms_of (p ∷ ps))

abbrev pub product_of : Expr → List (ProductSign × Expr) → Expr
product_of e [] = e
product_of e (p ∷ ps) = Product e (factors_of (p ∷ ps))

abbrev pub post_of : Expr → List Expr → Expr
post_of e [] = e
post_of e (x ∷ xs) = Post e (exprs_of (x ∷ xs))

-- the symbols begin with none of the words that are expressions
pub record NoLiteral (ks : List Symbol) : Type 0 where
  pub no_true : (rest : List Symbol) → ks ≡ WordOf (codes "true") ∷ rest → ⊥
  pub no_false : (rest : List Symbol) → ks ≡ WordOf (codes "false") ∷ rest → ⊥
  pub no_unit : (rest : List Symbol) → ks ≡ WordOf (codes "unit") ∷ rest → ⊥

-- the symbols begin with no symbol of this kind
abbrev pub BeginsWithNone : {S : Type 0} → (kind : S → Symbol) → List Symbol → Type 0
BeginsWithNone {S} kind ks = (s : S) (rest : List Symbol) → ks ≡ kind s ∷ rest → ⊥

-- the symbols begin with no name
abbrev pub BeginsWithNoName : List Symbol → Type 0
BeginsWithNoName ks = (x : List ℕ) (at : ℕ) (rest : List Symbol) → ks ≡ NameAt x at ∷ rest → ⊥

-- the symbols begin with a name and `=`
pub record BeginsAssignment (ks : List Symbol) : Type 0 where
  pub name : Named
  pub rest : List Symbol
  pub begins : ks ≡ name_symbol name ∷ SignOf (codes "=") ∷ rest

-- the rest does not begin with a comma
abbrev pub NotComma : List Symbol → Type 0
NotComma ks = (rest : List Symbol) → ks ≡ SignOf (codes ",") ∷ rest → ⊥

-- names with commas between them, one at least
pub record SomeNames (xs : List Named) (ks end : List Symbol) : Type 0 where
  pub some : xs ≡ [] → ⊥
  pub listed : NamesListed xs ks end
