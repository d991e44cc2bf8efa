-- What may follow, in the grammar's forms.
use Rattle.std.specs.Prelude.{⊤, Bool, true, false, List, [], ◌∷◌, ◌++◌, Option, Some, None, ◌⊎◌}
use Rattle.lang_place.specs.declared.terminal.Terminal.{Terminal}
use Rattle.lang_place.specs.declared.terminal.Terminal.TheVariants.{Name, Value, Fn, Var, If, Else, While, Return, Throw, Try, Catch, OpenRound, CloseRound, OpenSquare, CloseSquare, OpenBrace, CloseBrace, Comma, Semicolon, Assign, Compare, Plus, Minus, Times, Not, And, Or, Other}
use Rattle.lang_place.specs.declared.expected.Closer.{Closer}
use Rattle.lang_place.specs.declared.expected.Closer.TheVariants as closer
use Rattle.lang_place.specs.declared.expected.Within.{Within}
use Rattle.lang_place.specs.declared.expected.Within.TheVariants as within
use Rattle.lang_place.specs.declared.expected.Expected.{Expected}
use Rattle.lang_place.specs.declared.expected.Expected.TheVariants as expect
use Rattle.lang_place.specs.declared.expected.Next.{Next}
use Rattle.lang_place.specs.declared.expected.Next.TheVariants.{Done, Part, BehindFirstName, BehindName, BehindElse}
use Rattle.lang_place.specs.declared.expected.Taken.{Taken}
use Rattle.lang_place.specs.Forms as grammar
use Rattle.lang_place.specs.Forms.{Form, one, row, either, perhaps, many, part, ◌·◌, ◌∣◌, names, exprs, else_if}
use Rattle.lang_place.specs.Begun.{Begun}

-- what ends an expression, and then these forms
abbrev pub closer_forms : Closer → List Form → List Form
closer_forms closer.Bracket fs = one CloseRound ∷ fs
closer_forms closer.Square fs = one CloseSquare ∷ fs
closer_forms closer.Semicolon fs = one Semicolon ∷ fs
closer_forms closer.Argument fs = many (one Comma · part grammar.Expr) ∷ one CloseRound ∷ fs
closer_forms closer.Item fs = many (one Comma · part grammar.Expr) ∷ one CloseSquare ∷ fs

-- a comparison, where there is none yet
abbrev pub compare_forms : Bool → List Form → List Form
compare_forms true fs = fs
compare_forms false fs = perhaps (one Compare · part grammar.Sum) ∷ fs

-- what an expression has behind an operand without its places
abbrev pub operators : Bool → List Form → List Form
operators is_compared fs =
    many (one Times · part grammar.Unary) ∷ many ((one Plus ∣ one Minus) · part grammar.Product) ∷
    compare_forms is_compared (many (one And · part grammar.Comparison) ∷ many (one Or · part grammar.Conjunction) ∷ fs)

-- the same behind a value
abbrev pub behind_value : Bool → List Form → List Form
behind_value is_compared fs = many (one OpenSquare · part grammar.Expr · one CloseSquare) ∷ operators is_compared fs

-- a call's brackets, and what an expression has behind them
abbrev pub behind_callee : Bool → List Form → List Form
behind_callee is_compared fs = one OpenRound ∷ perhaps exprs ∷ one CloseRound ∷ behind_value is_compared fs

-- an operand, before which a sign may stand or stands already
abbrev pub operand : Bool → Form
operand true = part grammar.Post
operand false = part grammar.Unary

-- an expression from its first operand on
abbrev pub expr_forms : List Form → List Form
expr_forms fs = part grammar.Unary ∷ operators false fs

-- the statements that are to come, and what closes their block; behind a script nothing comes
abbrev pub within_forms : Within → List Form → List Form
within_forms within.Script fs = many (part grammar.Item) ∷ []
within_forms within.Block fs = many (part grammar.Stmt) ∷ one CloseBrace ∷ fs

abbrev pub else_forms : Within → List Form → List Form
else_forms w fs = many else_if ∷ perhaps (one Else · part grammar.Block) ∷ within_forms w fs

-- a function from behind its parameters on
abbrev pub behind_names : List Form → List Form
behind_names fs = one CloseRound ∷ part grammar.Block ∷ fs

abbrev pub more_names : List Form → List Form
more_names fs = many (one Comma · one Name) ∷ behind_names fs

-- the forms that are still to come, and then these
abbrev pub forms : Expected → List Form → List Form
forms (expect.Statements w) fs = within_forms w fs
forms (expect.Else w) fs = else_forms w fs
forms expect.Block fs = part grammar.Block ∷ fs
forms expect.Function fs = one Name ∷ one OpenRound ∷ perhaps names ∷ behind_names fs
forms expect.ParameterList fs = one OpenRound ∷ perhaps names ∷ behind_names fs
forms expect.Parameters fs = perhaps names ∷ behind_names fs
forms expect.MoreParameters fs = more_names fs
forms expect.Parameter fs = one Name ∷ more_names fs
forms expect.Variable fs = one Name ∷ one Assign ∷ expr_forms (one Semicolon ∷ fs)
forms expect.Assigned fs = one Assign ∷ expr_forms (one Semicolon ∷ fs)
forms expect.Condition fs = one OpenRound ∷ expr_forms (one CloseRound ∷ fs)
forms expect.Returned fs = perhaps (part grammar.Expr) ∷ one Semicolon ∷ fs
forms expect.Catch fs = one Catch ∷ one OpenRound ∷ one Name ∷ behind_names fs
forms expect.CatchList fs = one OpenRound ∷ one Name ∷ behind_names fs
forms expect.CatchName fs = one Name ∷ behind_names fs
forms expect.CatchEnd fs = behind_names fs
forms (expect.Operand is_signed is_compared closer) fs = operand is_signed ∷ operators is_compared (closer_forms closer fs)
forms (expect.Operator is_compared closer) fs = behind_value is_compared (closer_forms closer fs)
forms expect.Arguments fs = perhaps exprs ∷ one CloseRound ∷ fs
forms expect.Items fs = perhaps exprs ∷ one CloseSquare ∷ fs

-- the branches of which one is to come, and then these forms
abbrev pub branches : Next → List Form → List (List Form)
branches Done fs = fs ∷ []
branches (Part e) fs = forms e fs ∷ []
branches BehindFirstName fs =
    (one Assign ∷ expr_forms (one Semicolon ∷ fs)) ∷ behind_value false (one Semicolon ∷ fs) ∷
    behind_callee false (one Semicolon ∷ fs) ∷ []
branches (BehindName is_compared closer) fs =
    behind_value is_compared (closer_forms closer fs) ∷ behind_callee is_compared (closer_forms closer fs) ∷ []
branches (BehindElse w) fs =
    (one If ∷ one OpenRound ∷ expr_forms (one CloseRound ∷ part grammar.Block ∷ else_forms w fs)) ∷
    (part grammar.Block ∷ within_forms w fs) ∷ []

-- the terminals begin one of these branches
abbrev pub BeginsOne : List (List Form) → List Terminal → Type 0
BeginsOne [] ts = ⊥
BeginsOne (b ∷ bs) ts = Begun b ts ⊎ BeginsOne bs ts

abbrev pub perhaps_forms : Option Expected → List Form → List Form
perhaps_forms None fs = fs
perhaps_forms (Some e) fs = forms e fs

-- this alone is still to come
abbrev pub to_come : Next → Option Taken
to_come n = Some (record { next = n; then = None; last = None })

-- what is still to come behind a token, and then these forms
abbrev pub taken_branches : Option Taken → List Form → List (List Form)
taken_branches None fs = []
taken_branches (Some t) fs = branches t.next (perhaps_forms t.then (perhaps_forms t.last fs))

-- A terminal can begin one of the branches exactly where something was found, and that is then still to come.
pub record Follows (bs : List Form → List (List Form)) (t : Terminal) (found : Option Taken) : Type 0 where
  pub goes_on : (fs : List Form) (ts : List Terminal) → BeginsOne (bs fs) (t ∷ ts) → BeginsOne (taken_branches found fs) ts
  pub comes_from : (fs : List Form) (ts : List Terminal) → BeginsOne (taken_branches found fs) ts → BeginsOne (bs fs) (t ∷ ts)

-- the same of one form
abbrev pub FollowsIn : (List Form → List Form) → Terminal → Option Taken → Type 0
FollowsIn b t found = Follows (λ fs. b fs ∷ []) t found

-- ---- a script that is read

-- a part of it is to come
abbrev pub IsToCome : Next → Type 0
IsToCome Done = ⊥
IsToCome (Part e) = ⊤
IsToCome BehindFirstName = ⊤
IsToCome (BehindName is_compared closer) = ⊤
IsToCome (BehindElse w) = ⊤

-- the parts that are to come, the last one first, and then these forms
abbrev pub onto : List Expected → List Form → List Form
onto [] fs = fs
onto (e ∷ es) fs = onto es (forms e fs)

-- The branches of which one is to come.
abbrev pub to_read : Next → List Expected → List (List Form)
to_read next later = branches next (onto later [])

-- behind this terminal the branches are these, if it begins one of them
pub record Reads (old : List (List Form)) (t : Terminal) (new : List (List Form)) : Type 0 where
  pub goes_on : (ts : List Terminal) → BeginsOne old (t ∷ ts) → BeginsOne new ts
  pub comes_from : (ts : List Terminal) → BeginsOne new ts → BeginsOne old (t ∷ ts)

pub record Refuses (old : List (List Form)) (t : Terminal) : Type 0 where
  pub none : (ts : List Terminal) → BeginsOne old (t ∷ ts) → ⊥
