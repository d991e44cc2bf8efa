-- What a script's expressions, statements and calls do.
use Rattle.std.specs.Prelude.{ℕ, zero, suc, ◌^◌, Bool, true, false, if◌then◌else◌, not, ◌&&◌, List, [], ◌∷◌, ◌++◌, map, Option, Some, None, ℤ, pos, negsuc, ◌+ℤ◌, ◌-ℤ◌, ◌*ℤ◌, neg_ℤ, int_lt, int_le, int_div, int_rem, slice_get, nat_lt, Result, Ok, Err}
use Rattle.page_types.specs.Values.{Value, UnitValue, BoolValue, IntValue, TextValue, ListValue, FunValue, Values, no_values, items_of, values_of}
use Rattle.page_types.specs.declared.FaultName.{FaultName}
use Rattle.page_types.specs.declared.FaultName.TheVariants.{TypeError, RangeError}
use Rattle.page_types.specs.declared.CompareSign.{CompareSign}
use Rattle.page_types.specs.declared.CompareSign.TheVariants.{Equals, Differs, Less, AtMost, Greater, AtLeast}
use Rattle.page_types.specs.declared.ProductSign.{ProductSign}
use Rattle.page_types.specs.declared.ProductSign.TheVariants.{Times, Divide, Remainder}
use Rattle.page_types.specs.declared.UnarySign.{UnarySign}
use Rattle.page_types.specs.declared.UnarySign.TheVariants.{Negative, Not}
use Rattle.page_types.specs.Tree.{Expr, Or, And, Compare, Sum, Product, Unary, Post, Number, TextLiteral, TrueLiteral, FalseLiteral, UnitLiteral, Name, Call, Paren, ListLiteral, Exprs, no_exprs, with_expr, SumParts, no_terms, with_term, ProductParts, no_factors, with_factor, Stmt, VarStmt, AssignStmt, ExprStmt, IfStmt, WhileStmt, ReturnStmt, ThrowStmt, TryStmt, Block, no_stmts, with_stmt, ElseIfs, no_else_ifs, with_else_if, ElsePart, no_else, else_block, Item, FnItem, StmtItem, Program}
use Rattle.page_types.specs.declared.Op.{Op}
use Rattle.page_types.specs.declared.SumSign.{SumSign}
use Rattle.page_types.specs.declared.SumSign.TheVariants.{Plus, Minus}
use Rattle.page_parts.specs.Words.{same_bytes, same_int}
use Rattle.page_parts.specs.Kinds.{func_in, bool_in, int_in, text_in, list_in, same, within_limits}
use Rattle.lang_meaning.specs.Machine.{Variable, Machine, Done, Gives, Throws, Returns, OutOfFuel, and_then, or_catch, throw_fault, finish, given, branch, take_unit, variable, assigned, or_else, Caller, Operations}
use Rattle.lang_meaning.specs.OpNames.{op_named}

-- ---- Ours: the meaning of the script language

-- what stands around an expression: the program, how functions are called here, and what operations do
pub record Around (H : Type 0) : Type 0 where
  pub program : Program
  pub call : Caller H
  pub operate : Op → List Value → Machine H → Done H

-- whether an integer fits 64 bits with a sign
abbrev pub fits : ℤ → Bool
fits (pos n) = nat_lt n (2 ^ 63)
fits (negsuc n) = nat_lt n (2 ^ 63)

-- what an operator answers: a value, or the name of the fault that it throws
abbrev pub Answer : Type 0
Answer = Result Value FaultName

-- the answer of an operator, as a step of the machine
abbrev pub answered : {H : Type 0} → Answer → Machine H → Done H
answered (Ok v) m = Gives v m
answered (Err name) m = throw_fault name m

-- what is done with what is there; a fault where nothing is
abbrev pub need : {X : Type 0} → Option X → FaultName → (X → Answer) → Answer
need None fault next = Err fault
need (Some x) fault next = next x

-- an integer within 64 bits, or RangeError
abbrev pub int_answer : ℤ → Answer
int_answer n = if fits n then Ok (IntValue n) else Err RangeError

-- two integers, or TypeError
abbrev pub both_ints : (a b : Value) → (ℤ → ℤ → Answer) → Answer
both_ints a b next = need (int_in a) TypeError (λ x. need (int_in b) TypeError (next x))

-- a value within the limits of weight and nesting, or RangeError
abbrev pub limited_value : Value → Answer
limited_value v = need (within_limits v) RangeError Ok

-- the same as a step of the machine
abbrev pub limited : {H : Type 0} → Value → Machine H → Done H
limited v m = answered (limited_value v) m

-- a sum of two integers, or two texts in a row
abbrev pub sum_answer : SumSign → (a b : Value) → Answer
sum_answer Plus (TextValue a) b = need (text_in b) TypeError (λ bs. limited_value (TextValue (a ++ bs)))
sum_answer Plus a b = both_ints a b (λ x y. int_answer (x +ℤ y))
sum_answer Minus a b = both_ints a b (λ x y. int_answer (x -ℤ y))

-- the same as a step of the machine
abbrev pub sum_of : {H : Type 0} → SumSign → (a b : Value) → Machine H → Done H
sum_of sign a b m = answered (sum_answer sign a b) m

-- whether an integer is 0
abbrev pub is_zero : ℤ → Bool
is_zero n = same_int n (pos 0)

-- whether x can be divided by y: y is not 0, and x is not the least integer where y is -1
abbrev pub divides : (x y : ℤ) → Bool
divides x y = not (is_zero y) && not (same_int y (negsuc 0) && same_int x (neg_ℤ (pos (2 ^ 63))))

-- a quotient or a remainder, or RangeError
abbrev pub divided : (ℤ → ℤ → ℤ) → (x y : ℤ) → Answer
divided by x y = if divides x y then Ok (IntValue (by x y)) else Err RangeError

-- division truncates towards zero, and a remainder has the sign of the dividend
abbrev pub product_answer : ProductSign → (a b : Value) → Answer
product_answer Times a b = both_ints a b (λ x y. int_answer (x *ℤ y))
product_answer Divide a b = both_ints a b (divided int_div)
product_answer Remainder a b = both_ints a b (divided int_rem)

-- the same as a step of the machine
abbrev pub product_of : {H : Type 0} → ProductSign → (a b : Value) → Machine H → Done H
product_of sign a b m = answered (product_answer sign a b) m

-- the answer of a comparison of two integers
abbrev pub ordered : (ℤ → ℤ → Bool) → (x y : ℤ) → Answer
ordered test x y = Ok (BoolValue (test x y))

-- equality compares any two values by structure, and order two integers
abbrev pub compare_answer : CompareSign → (a b : Value) → Answer
compare_answer Equals a b = Ok (BoolValue (same a b))
compare_answer Differs a b = Ok (BoolValue (not (same a b)))
compare_answer Less a b = both_ints a b (ordered int_lt)
compare_answer AtMost a b = both_ints a b (ordered int_le)
compare_answer Greater a b = both_ints a b (ordered (λ x y. int_lt y x))
compare_answer AtLeast a b = both_ints a b (ordered (λ x y. int_le y x))

-- the same as a step of the machine
abbrev pub compared : {H : Type 0} → CompareSign → (a b : Value) → Machine H → Done H
compared sign a b m = answered (compare_answer sign a b) m

-- a negated integer within 64 bits, or a negated Bool
abbrev pub unary_answer : UnarySign → Value → Answer
unary_answer Negative a = need (int_in a) TypeError (λ x. int_answer (neg_ℤ x))
unary_answer Not a = need (bool_in a) TypeError (λ b. Ok (BoolValue (not b)))

-- the same as a step of the machine
abbrev pub unary_of : {H : Type 0} → UnarySign → Value → Machine H → Done H
unary_of sign a m = answered (unary_answer sign a) m

-- the item at a place from 0, none outside the list
abbrev pub place_in : Values → ℤ → Option Value
place_in vs (pos n) = slice_get (items_of vs) n
place_in vs (negsuc n) = None

-- an item of a list by its place, from 0: RangeError outside the list
abbrev pub item_answer : (v i : Value) → Answer
item_answer v i = need (list_in v) TypeError (λ vs. need (int_in i) TypeError (λ n. need (place_in vs n) RangeError Ok))

-- the same as a step of the machine
abbrev pub item_at : {H : Type 0} → (v i : Value) → Machine H → Done H
item_at v i m = answered (item_answer v i) m

-- a value is tested: with a Bool comes one way or the other, with any other value TypeError
abbrev pub tested : {H : Type 0} → Value → Machine H → (held failed : Machine H → Done H) → Done H
tested v m held failed = given (bool_in v) TypeError m (λ b m. branch b m held failed)

-- a function of the script: its name, the names of its parameters, its body
pub record Function : Type 0 where
  pub name : List ℕ
  pub parameters : List (List ℕ)
  pub body : Block

-- the functions of a script, in the order of their numbers
abbrev pub functions_of : List Item → List Function
functions_of [] = []
functions_of (FnItem f xs body ∷ items) = record { name = f.name; parameters = map (λ x. x.name) xs; body = body } ∷ functions_of items
functions_of (StmtItem s ∷ items) = functions_of items

-- the statements outside functions: the script's own body
abbrev pub own_body : List Item → Block
own_body [] = no_stmts
own_body (FnItem f xs body ∷ items) = own_body items
own_body (StmtItem s ∷ items) = with_stmt s (own_body items)

-- the number of the function with this name
abbrev pub number_of : List Function → List ℕ → Option ℕ
number_of [] x = None
number_of (f ∷ fs) x = if same_bytes f.name x then Some 0 else elim (number_of fs x) [ None ↦ None | Some n ↦ Some (suc n) ]

-- a function as a value, with no bound argument
abbrev pub function_value : Option ℕ → Option Value
function_value None = None
function_value (Some f) = Some (FunValue f no_values)

-- what a name stands for: a local variable, a global one or a function
abbrev pub named_value : {H : Type 0} → Program → Machine H → List ℕ → Option Value
named_value program m x = or_else (variable m x) (function_value (number_of (functions_of program.items) x))

-- a value is called with arguments, which come after its bound ones; TypeError where it is no function
abbrev pub called : {H : Type 0} → Caller H → Value → List Value → Machine H → Done H
called call v args m = given (func_in v) TypeError m (λ f m. call f.function (items_of f.bound ++ args) m)

-- what is called by a name: an operation, or the value that the name has before the arguments
abbrev pub call_of : {H : Type 0} → Around H → List ℕ → (before : Machine H) → List Value → (m : Machine H) → Done H
call_of w x before args m =
    elim (op_named x) [
      | Some op ↦ w.operate op args m
      | None ↦ given (named_value w.program before x) TypeError m (λ f m. called w.call f args m)
    ]

abbrev mutual
  -- The meaning of an expression. Operands and arguments come from left to right.
  pub eval : {H : Type 0} → Around H → Expr → Machine H → Done H
  eval w (Or e es) m = and_then (eval w e m) (λ v m. tested v m (Gives (BoolValue true)) (eval_or w es))
  eval w (And e es) m = and_then (eval w e m) (λ v m. tested v m (eval_and w es) (Gives (BoolValue false)))
  eval w (Compare a sign b) m = and_then (eval w a m) (λ x m. and_then (eval w b m) (λ y m. compared sign x y m))
  eval w (Sum e parts) m = and_then (eval w e m) (eval_sum w parts)
  eval w (Product e parts) m = and_then (eval w e m) (eval_product w parts)
  eval w (Unary sign e) m = and_then (eval w e m) (unary_of sign)
  eval w (Post e places) m = and_then (eval w e m) (eval_places w places)
  eval w (Number n) m = Gives (IntValue n) m
  eval w (TextLiteral bs) m = Gives (TextValue bs) m
  eval w TrueLiteral m = Gives (BoolValue true) m
  eval w FalseLiteral m = Gives (BoolValue false) m
  eval w UnitLiteral m = Gives UnitValue m
  eval w (Name x) m = given (named_value w.program m x.name) TypeError m Gives
  eval w (Call f args) m = eval_all w args [] (call_of w f.name m) m
  eval w (Paren e) m = eval w e m
  eval w (ListLiteral es) m = eval_all w es [] (λ vs m. limited (ListValue (values_of vs)) m) m

  -- the operands of `||` from here on, where those before were false
  pub eval_or : {H : Type 0} → Around H → Exprs → Machine H → Done H
  eval_or w no_exprs m = Gives (BoolValue false) m
  eval_or w (with_expr e es) m = and_then (eval w e m) (λ v m. tested v m (Gives (BoolValue true)) (eval_or w es))

  -- the operands of `&&` from here on, where those before were true
  pub eval_and : {H : Type 0} → Around H → Exprs → Machine H → Done H
  eval_and w no_exprs m = Gives (BoolValue true) m
  eval_and w (with_expr e es) m = and_then (eval w e m) (λ v m. tested v m (eval_and w es) (Gives (BoolValue false)))

  -- the values of all expressions, and then what is done with them
  pub eval_all : {H : Type 0} → Around H → Exprs → List Value → (List Value → Machine H → Done H) → Machine H → Done H
  eval_all w no_exprs vs next m = next vs m
  eval_all w (with_expr e es) vs next m = and_then (eval w e m) (λ v m. eval_all w es (vs ++ v ∷ []) next m)

  -- an item of an item and so on, by the places in a row
  pub eval_places : {H : Type 0} → Around H → Exprs → Value → Machine H → Done H
  eval_places w no_exprs v m = Gives v m
  eval_places w (with_expr e es) v m = and_then (eval w e m) (λ i m. and_then (item_at v i m) (eval_places w es))

  -- the further terms, added to or subtracted from what stands so far
  pub eval_sum : {H : Type 0} → Around H → SumParts → Value → Machine H → Done H
  eval_sum w no_terms v m = Gives v m
  eval_sum w (with_term sign e parts) v m = and_then (eval w e m) (λ x m. and_then (sum_of sign v x m) (eval_sum w parts))

  -- the further factors, by which what stands so far is multiplied or divided
  pub eval_product : {H : Type 0} → Around H → ProductParts → Value → Machine H → Done H
  eval_product w no_factors v m = Gives v m
  eval_product w (with_factor sign e parts) v m = and_then (eval w e m) (λ x m. and_then (product_of sign v x m) (eval_product w parts))

-- The turns of a loop. Each entry into the body takes a unit of fuel, so there are at most as many as units are left.
abbrev pub loop_turns : {H : Type 0} → ℕ → (test body : Machine H → Done H) → Machine H → Done H
loop_turns zero test body m = OutOfFuel m
loop_turns (suc n) test body m =
    and_then (test m) (λ v m. tested v m (λ m. take_unit m (λ m. and_then (body m) (λ u m. loop_turns n test body m))) finish)

-- a value becomes one that is returned
abbrev pub returned : {H : Type 0} → Done H → Done H
returned d = and_then d Returns

-- the value of a `return`, unit where none is written
abbrev pub opt_eval : {H : Type 0} → Around H → Option Expr → Machine H → Done H
opt_eval w None m = Returns UnitValue m
opt_eval w (Some e) m = returned (eval w e m)

abbrev mutual
  -- The meaning of a statement. It gives unit where it comes to its end.
  pub exec : {H : Type 0} → Around H → Stmt → Machine H → Done H
  exec w (VarStmt x e) m = and_then (eval w e m) (λ v m. finish (assigned m x.name v))
  exec w (AssignStmt x e) m = and_then (eval w e m) (λ v m. finish (assigned m x.name v))
  exec w (ExprStmt e) m = and_then (eval w e m) (λ v m. finish m)
  exec w (IfStmt e block others last) m =
      and_then (eval w e m) (λ v m. tested v m (exec_block w block) (exec_others w others (exec_else w last)))
  exec w (WhileStmt e block) m = loop_turns (suc m.fuel) (eval w e) (exec_block w block) m
  exec w (ReturnStmt e) m = opt_eval w e m
  exec w (ThrowStmt e) m = and_then (eval w e m) Throws
  exec w (TryStmt block x handler) m = or_catch (exec_block w block m) (λ v m. exec_block w handler (assigned m x.name v))

  -- statements in a row
  pub exec_block : {H : Type 0} → Around H → Block → Machine H → Done H
  exec_block w no_stmts m = finish m
  exec_block w (with_stmt s rest) m = and_then (exec w s m) (λ u m. exec_block w rest m)

  -- the `else if` parts in a row, and where none applies what comes last
  pub exec_others : {H : Type 0} → Around H → ElseIfs → (Machine H → Done H) → Machine H → Done H
  exec_others w no_else_ifs last m = last m
  exec_others w (with_else_if e block others) last m =
      and_then (eval w e m) (λ v m. tested v m (exec_block w block) (exec_others w others last))

  -- the `else` part, where there is one
  pub exec_else : {H : Type 0} → Around H → ElsePart → Machine H → Done H
  exec_else w no_else m = finish m
  exec_else w (else_block block) m = exec_block w block m

abbrev mutual
  -- the names that `var` and `catch` give in a statement
  pub names_in_stmt : Stmt → List (List ℕ)
  names_in_stmt (VarStmt x e) = x.name ∷ []
  names_in_stmt (AssignStmt x e) = []
  names_in_stmt (ExprStmt e) = []
  names_in_stmt (IfStmt e block others last) = names_in block ++ names_in_others others ++ names_in_else last
  names_in_stmt (WhileStmt e block) = names_in block
  names_in_stmt (ReturnStmt e) = []
  names_in_stmt (ThrowStmt e) = []
  names_in_stmt (TryStmt block x handler) = names_in block ++ x.name ∷ names_in handler

  -- the same in a block
  pub names_in : Block → List (List ℕ)
  names_in no_stmts = []
  names_in (with_stmt s rest) = names_in_stmt s ++ names_in rest

  -- the same in the `else if` parts
  pub names_in_others : ElseIfs → List (List ℕ)
  names_in_others no_else_ifs = []
  names_in_others (with_else_if e block others) = names_in block ++ names_in_others others

  -- the same in the `else` part
  pub names_in_else : ElsePart → List (List ℕ)
  names_in_else no_else = []
  names_in_else (else_block block) = names_in block

-- variables of these names, each unit
abbrev pub unit_variables : List (List ℕ) → List Variable
unit_variables xs = map (λ x. record { name = x; value = UnitValue }) xs

-- parameters with their arguments: surplus ones are dropped, missing ones are unit
abbrev pub parameters_with : List (List ℕ) → List Value → List Variable
parameters_with [] vs = []
parameters_with (x ∷ xs) [] = record { name = x; value = UnitValue } ∷ parameters_with xs []
parameters_with (x ∷ xs) (v ∷ vs) = record { name = x; value = v } ∷ parameters_with xs vs

-- the state in a call, with these local variables
abbrev pub opened : {H : Type 0} → List Variable → Machine H → Machine H
opened xs m = record m { open_calls = xs ∷ m.open_calls }

-- a list without its first item
abbrev pub without_first : {X : Type 0} → List X → List X
without_first [] = []
without_first (x ∷ xs) = xs

-- the state after a call
abbrev pub closed : {H : Type 0} → Machine H → Machine H
closed m = record m { open_calls = without_first m.open_calls }

-- the end of a call, by how its body ended
abbrev pub end_of_call : {H : Type 0} → Done H → Done H
end_of_call (Gives v m) = Gives UnitValue (closed m)
end_of_call (Returns v m) = Gives v (closed m)
end_of_call (Throws v m) = Throws v (closed m)
end_of_call (OutOfFuel m) = OutOfFuel (closed m)

-- the body of a function, or of the script, which has the number after the last one
abbrev pub body_of_call : {H : Type 0} → Around H → Option Function → List Value → Machine H → Done H
body_of_call w None args m = end_of_call (exec_block w (own_body w.program.items) (opened [] m))
body_of_call w (Some f) args m =
    end_of_call (exec_block w f.body (opened (parameters_with f.parameters args ++ unit_variables (names_in f.body)) m))

-- what stands around the body of a call: the program, how functions are called there, and what operations do there
abbrev pub around : {H : Type 0} → Program → Operations H → Caller H → Around H
around program operations call = record { program = program; call = call; operate = operations call }

-- A call takes a unit of fuel and runs the body. `n` is how many calls may still be open: one more throws RangeError and takes no unit.
abbrev pub calls : {H : Type 0} → Program → Operations H → ℕ → Caller H
calls program operations zero f args m = throw_fault RangeError m
calls program operations (suc n) f args m =
    take_unit m (λ m. body_of_call (around program operations (calls program operations n))
    (slice_get (functions_of program.items) f) args m)

-- how a function is called where no call is open
abbrev pub call_from_outside : {H : Type 0} → Program → Operations H → Caller H
call_from_outside program operations = calls program operations 256

-- before the first call the global variables are unit
abbrev pub first_globals : Program → List Variable
first_globals program = unit_variables (names_in (own_body program.items))
