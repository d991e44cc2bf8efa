-- The grammar as forms.
use Rattle.lang_place.specs.declared.terminal.Terminal.{Terminal}
use Rattle.lang_place.specs.declared.terminal.Terminal.TheVariants.{Name, Value, Fn, Var, If, Else, While, Return, Throw, Try, Catch, OpenRound, CloseRound, OpenSquare, CloseSquare, OpenBrace, CloseBrace, Comma, Semicolon, Assign, Compare, Plus, Minus, Times, Not, And, Or, Other}

-- the names of the grammar
pub data Part : Type 0 where
  Script : Part
  Item : Part
  Block : Part
  Stmt : Part
  Expr : Part
  Conjunction : Part
  Comparison : Part
  Sum : Part
  Product : Part
  Unary : Part
  Post : Part
  Prim : Part

-- a terminal, two forms in a row, one of two forms, `[x]`, `{x}`, and what a name of the grammar stands for
pub data Form : Type 0 where
  one : Terminal → Form
  row : (first rest : Form) → Form
  either : (one other : Form) → Form
  perhaps : Form → Form
  many : Form → Form
  part : Part → Form

infixr 6 ◌·◌
abbrev pub ◌·◌ : (first rest : Form) → Form
a · b = row a b

infixr 4 ◌∣◌
abbrev pub ◌∣◌ : (one other : Form) → Form
a ∣ b = either a b

-- name {"," name}
abbrev pub names : Form
names = one Name · many (one Comma · one Name)

-- expr {"," expr}
abbrev pub exprs : Form
exprs = part Expr · many (one Comma · part Expr)

-- "(" expr ")"
abbrev pub condition : Form
condition = one OpenRound · part Expr · one CloseRound

-- "else" "if" "(" expr ")" block
abbrev pub else_if : Form
else_if = one Else · one If · one OpenRound · part Expr · one CloseRound · part Block

abbrev pub rule : Part → Form
rule Script = many (part Item)
rule Item = one Fn · one Name · one OpenRound · perhaps names · one CloseRound · part Block ∣ part Stmt
rule Block = one OpenBrace · many (part Stmt) · one CloseBrace
rule Stmt =
    one Var · one Name · one Assign · part Expr · one Semicolon ∣
    one Name · one Assign · part Expr · one Semicolon ∣
    part Expr · one Semicolon ∣
    one If · one OpenRound · part Expr · one CloseRound · part Block · many else_if · perhaps (one Else · part Block) ∣
    one While · one OpenRound · part Expr · one CloseRound · part Block ∣
    one Return · perhaps (part Expr) · one Semicolon ∣
    one Throw · part Expr · one Semicolon ∣
    one Try · part Block · one Catch · one OpenRound · one Name · one CloseRound · part Block
rule Expr = part Conjunction · many (one Or · part Conjunction)
rule Conjunction = part Comparison · many (one And · part Comparison)
rule Comparison = part Sum · perhaps (one Compare · part Sum)
rule Sum = part Product · many ((one Plus ∣ one Minus) · part Product)
rule Product = part Unary · many (one Times · part Unary)
rule Unary = perhaps (one Minus ∣ one Not) · part Post
rule Post = part Prim · many (one OpenSquare · part Expr · one CloseSquare)
rule Prim =
    one Value ∣ one Name ∣
    one Name · one OpenRound · perhaps exprs · one CloseRound ∣
    one OpenRound · part Expr · one CloseRound ∣
    one OpenSquare · perhaps exprs · one CloseSquare
