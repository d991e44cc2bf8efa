-- The general induction over evaluation, where a step that ends for fuel is asked less than one that goes on.
use Rattle.std.proofs.Common.{◌≡◌, ℕ, zero, suc, Bool, true, false, List, [], ◌∷◌, ◌++◌, Option, Some, None, refl, ℤ, slice_get, Ok, Err}
use Rattle.page_types.specs.declared.FaultName.{FaultName}
use Rattle.page_types.specs.declared.FaultName.TheVariants.{TypeError, RangeError}
use Rattle.page_types.specs.Values.{Value, UnitValue, BoolValue, IntValue, TextValue, ListValue, FaultValue, values_of, items_of}
use Rattle.page_types.specs.declared.CompareSign.{CompareSign}
use Rattle.page_types.specs.declared.ProductSign.{ProductSign}
use Rattle.page_types.specs.declared.UnarySign.{UnarySign}
use Rattle.page_types.specs.declared.SumSign.{SumSign}
use Rattle.page_types.specs.Tree.{Expr, Or, And, Compare, Sum, Product, Unary, Post, Number, TextLiteral, TrueLiteral, FalseLiteral, UnitLiteral, Name, Call, Paren, ListLiteral, Exprs, no_exprs, with_expr, SumParts, no_terms, with_term, ProductParts, no_factors, with_factor, Stmt, VarStmt, AssignStmt, ExprStmt, IfStmt, WhileStmt, ReturnStmt, ThrowStmt, TryStmt, Block, no_stmts, with_stmt, ElseIfs, no_else_ifs, with_else_if, ElsePart, no_else, else_block, Program}
use Rattle.page_types.specs.declared.Op.{Op}
use Rattle.page_parts.specs.Kinds.{func_in, bool_in}
use Rattle.lang_meaning.specs.Machine.{Variable, Machine, Done, Gives, Throws, Returns, OutOfFuel, and_then, or_catch, afterwards, given, branch, with_fuel, take_unit, throw_fault, finish, variable, assigned, Caller, Operations}
use Rattle.lang_meaning.specs.OpNames.{op_named}
use Rattle.lang_meaning.specs.Evaluation.{Around, Answer, answered, sum_answer, product_answer, compare_answer, unary_answer, item_answer, limited_value, tested, Function, own_body, functions_of, function_value, number_of, named_value, called, call_of, eval, eval_or, eval_and, eval_all, eval_places, eval_sum, eval_product, loop_turns, opt_eval, exec, exec_block, exec_others, exec_else, opened, closed, unit_variables, names_in, parameters_with, end_of_call, body_of_call, calls, call_from_outside}
use Rattle.page_model.proofs.Holding.Evaluation.{Every, IfThere, IfGiven, Every-append, Every-map, or_else-there}

-- A preorder `Le` on the states of the script machine around a host, a property `Good` of states and a property `Val` of values in a state, with what is asked of them.
pub record Keeping (H : Type 0) (program : Program) : Type 1 where
  pub Le : Machine H → Machine H → Type 0
  pub Good : Machine H → Type 0
  pub Val : Value → Machine H → Type 0
  -- what is said of a state in which fuel ended, after another one
  pub Stop : Machine H → Machine H → Type 0
  pub stop : (m n : Machine H) → Le m n → Good n → Stop m n
  pub stop_later : (a b c : Machine H) → Le a b → Stop b c → Stop a c
  pub stop_closed : (m n : Machine H) → Stop m n → Stop m (closed n)
  pub same : (m : Machine H) → Le m m
  pub chain : (a b c : Machine H) → Le a b → Le b c → Le a c
  pub later : (v : Value) (a b : Machine H) → Le a b → Val v a → Val v b
  -- a variable is assigned, a call is opened with its local variables, a call is closed, a unit of fuel is taken
  pub assign : (m : Machine H) (x : List ℕ) (v : Value) → Good m → Val v m → Le m (assigned m x v) × Good (assigned m x v)
  pub open_call : (m : Machine H) (xs : List Variable) → Good m → Every (λ x. Val x.value m) xs → Le m (opened xs m) × Good (opened xs m)
  pub close_call : (m : Machine H) → Good m → Le m (closed m) × Good (closed m)
  pub take : (m : Machine H) (left : ℕ) → m.fuel ≡ suc left → Good m → Le m (record m { fuel = left }) × Good (record m { fuel = left })
  -- literals and faults
  pub unit_value : (m : Machine H) → Good m → Val UnitValue m
  pub bool_value : (m : Machine H) (b : Bool) → Good m → Val (BoolValue b) m
  pub int_value : (m : Machine H) (n : ℤ) → Good m → Val (IntValue n) m
  pub text_value : (m : Machine H) (bs : List ℕ) → Good m → Val (TextValue bs) m
  pub fault_value : (m : Machine H) (name : FaultName) → Good m → Val (FaultValue name []) m
  -- variables, functions of the script, and the bound arguments of a function value
  pub read : (m : Machine H) (x : List ℕ) → Good m → IfThere (λ v. Val v m) (variable m x)
  pub named : (m : Machine H) (x : List ℕ) → Good m → IfThere (λ v. Val v m) (function_value (number_of (functions_of program.items) x))
  pub bound : (m : Machine H) (v : Value) → Good m → Val v m → IfThere (λ f. Every (λ v. Val v m) (items_of f.bound)) (func_in v)
  -- the operators
  pub sum : (m : Machine H) (sign : SumSign) (a b : Value) → Good m → Val a m → Val b m → IfGiven (λ v. Val v m) (sum_answer sign a b)
  pub product : (m : Machine H) (sign : ProductSign) (a b : Value) → Good m → Val a m → Val b m → IfGiven (λ v. Val v m) (product_answer sign a b)
  pub compare : (m : Machine H) (sign : CompareSign) (a b : Value) → Good m → Val a m → Val b m → IfGiven (λ v. Val v m) (compare_answer sign a b)
  pub unary : (m : Machine H) (sign : UnarySign) (a : Value) → Good m → Val a m → IfGiven (λ v. Val v m) (unary_answer sign a)
  pub item : (m : Machine H) (a i : Value) → Good m → Val a m → Val i m → IfGiven (λ v. Val v m) (item_answer a i)
  pub list : (m : Machine H) (vs : List Value) → Good m → Every (λ v. Val v m) vs → IfGiven (λ v. Val v m) (limited_value (ListValue (values_of vs)))

-- ---- the induction

module _ {H : Type 0} {program : Program} (k : Keeping H program) where
  -- values that all have the property
  abbrev pub Vals : List Value → Machine H → Type 0
  Vals vs m = Every (λ v. k.Val v m) vs

  -- a step from m that ends so is in the preorder, and its state and value have the properties
  abbrev pub Holds : Machine H → Done H → Type 0
  Holds m (Gives v n) = k.Le m n × k.Good n × k.Val v n
  Holds m (Throws v n) = k.Le m n × k.Good n × k.Val v n
  Holds m (Returns v n) = k.Le m n × k.Good n × k.Val v n
  Holds m (OutOfFuel n) = k.Stop m n

  -- a step holds from every good state
  abbrev pub Keeps : (Machine H → Done H) → Type 0
  Keeps f = (m : Machine H) → k.Good m → Holds m (f m)

  -- a call with values holds from every good state
  abbrev pub CallsHold : Caller H → Type 0
  CallsHold call = (f : ℕ) (args : List Value) (m : Machine H) → k.Good m → Vals args m → Holds m (call f args m)

  -- the same of operations
  abbrev pub OperateHolds : (Op → List Value → Machine H → Done H) → Type 0
  OperateHolds operate = (op : Op) (args : List Value) (m : Machine H) → k.Good m → Vals args m → Holds m (operate op args m)

  -- ---- ways to put steps together

  pub wider : (m n : Machine H) (d : Done H) → k.Le m n → Holds n d → Holds m d
  wider m n (Gives v a) le h = (k.chain m n a le h.0, h.1, h.2)
  wider m n (Throws v a) le h = (k.chain m n a le h.0, h.1, h.2)
  wider m n (Returns v a) le h = (k.chain m n a le h.0, h.1, h.2)
  wider m n (OutOfFuel a) le h = k.stop_later m n a le h

  pub later_all : (vs : List Value) (m n : Machine H) → k.Le m n → Vals vs m → Vals vs n
  later_all vs m n le h = Every-map (λ v. k.Val v m) (λ v. k.Val v n) (λ v. k.later v m n le) vs h

  pub and_then-holds : (m : Machine H) (d : Done H) (next : Value → Machine H → Done H) → Holds m d → ((v : Value) (n : Machine H) → k.Le m n → k.Good n → k.Val v n → Holds n (next v n)) → Holds m (and_then d next)
  and_then-holds m (Gives v n) next h q = wider m n (next v n) h.0 (q v n h.0 h.1 h.2)
  and_then-holds m (Throws v n) next h q = h
  and_then-holds m (Returns v n) next h q = h
  and_then-holds m (OutOfFuel n) next h q = h

  pub or_catch-holds : (m : Machine H) (d : Done H) (next : Value → Machine H → Done H) → Holds m d → ((v : Value) (n : Machine H) → k.Le m n → k.Good n → k.Val v n → Holds n (next v n)) → Holds m (or_catch d next)
  or_catch-holds m (Gives v n) next h q = h
  or_catch-holds m (Throws v n) next h q = wider m n (next v n) h.0 (q v n h.0 h.1 h.2)
  or_catch-holds m (Returns v n) next h q = h
  or_catch-holds m (OutOfFuel n) next h q = h

  pub afterwards-holds : (m : Machine H) (d : Done H) (next : Machine H → Done H) → Holds m d → ((n : Machine H) → k.Le m n → k.Good n → Holds n (next n)) → Holds m (afterwards d next)
  afterwards-holds m (Gives v n) next h q = wider m n (next n) h.0 (q n h.0 h.1)
  afterwards-holds m (Throws v n) next h q = wider m n (next n) h.0 (q n h.0 h.1)
  afterwards-holds m (Returns v n) next h q = wider m n (next n) h.0 (q n h.0 h.1)
  afterwards-holds m (OutOfFuel n) next h q = h

  pub gives-holds : (m : Machine H) (v : Value) → k.Good m → k.Val v m → Holds m (Gives v m)
  gives-holds m v g h = (k.same m, g, h)

  pub finish-holds : (m : Machine H) → k.Good m → Holds m (finish m)
  finish-holds m g = (k.same m, g, k.unit_value m g)

  pub fault-holds : (m : Machine H) (name : FaultName) → k.Good m → Holds m (throw_fault name m)
  fault-holds m name g = (k.same m, g, k.fault_value m name g)

  pub given-holds : {X : Type 0} (P : X → Type 0) (o : Option X) (fault : FaultName) (m : Machine H) (next : X → Machine H → Done H) → k.Good m → IfThere P o → ((x : X) → P x → Holds m (next x m)) → Holds m (given o fault m next)
  given-holds P None fault m next g h q = fault-holds m fault g
  given-holds P (Some x) fault m next g h q = q x h

  -- where nothing is known of what is there
  pub given_any-holds : {X : Type 0} (o : Option X) (fault : FaultName) (m : Machine H) (next : X → Machine H → Done H) → k.Good m → ((x : X) → Holds m (next x m)) → Holds m (given o fault m next)
  given_any-holds None fault m next g q = fault-holds m fault g
  given_any-holds (Some x) fault m next g q = q x

  pub branch-holds : (b : Bool) (m : Machine H) (then else : Machine H → Done H) → Holds m (then m) → Holds m (else m) → Holds m (branch b m then else)
  branch-holds true m then else p q = p
  branch-holds false m then else p q = q

  pub tested-holds : (v : Value) (m : Machine H) (then else : Machine H → Done H) → k.Good m → Holds m (then m) → Holds m (else m) → Holds m (tested v m then else)
  tested-holds v m then else g p q = given_any-holds (bool_in v) TypeError m _ g (λ b. branch-holds b m then else p q)

  pub answered-holds : (a : Answer) (m : Machine H) → k.Good m → IfGiven (λ v. k.Val v m) a → Holds m (answered a m)
  answered-holds (Ok v) m g h = gives-holds m v g h
  answered-holds (Err name) m g h = fault-holds m name g

  pub take_unit-holds : (m : Machine H) (next : Machine H → Done H) → k.Good m → ((n : Machine H) → k.Le m n → k.Good n → Holds n (next n)) → Holds m (take_unit m next)
  take_unit-holds m next g q = by_fuel m.fuel refl
    where
      by_fuel : (n : ℕ) → m.fuel ≡ n → Holds m (with_fuel n m next)
      by_fuel zero e = k.stop m m (k.same m) g
      by_fuel (suc left) e =
          let taken = k.take m left e g in
          wider m (record m { fuel = left }) (next (record m { fuel = left })) taken.0 (q (record m { fuel = left }) taken.0 taken.1)

  -- ---- expressions and statements

  named-holds : (m : Machine H) (x : List ℕ) → k.Good m → IfThere (λ v. k.Val v m) (named_value program m x)
  named-holds m x g = or_else-there (λ v. k.Val v m) (variable m x) (function_value (number_of (functions_of program.items) x)) (k.read m x g) (k.named m x g)

  pub called-holds : (call : Caller H) → CallsHold call → (v : Value) (args : List Value) (m : Machine H) → k.Good m → k.Val v m → Vals args m → Holds m (called call v args m)
  called-holds call c v args m g h a =
      given-holds (λ f. Vals (items_of f.bound) m) (func_in v) TypeError m _ g (k.bound m v g h)
      (λ f b. c f.function (items_of f.bound ++ args) m g (Every-append (λ v. k.Val v m) (items_of f.bound) args b a))

  module _ (call : Caller H) (operate : Op → List Value → Machine H → Done H) (c : CallsHold call) (o : OperateHolds operate) where
    abbrev w : Around H
    w = record { program = program; call = call; operate = operate }

    call_of-holds : (x : List ℕ) (before m : Machine H) (args : List Value) → k.Good before → k.Le before m → k.Good m → Vals args m → Holds m (call_of w x before args m)
    call_of-holds x before m args b le g h = by_name (op_named x)
      where
        by_name : (found : Option Op) → Holds m (elim found [ Some op ↦ operate op args m | None ↦ given (named_value program before x) TypeError m (λ f m. called call f args m) ])
        by_name None = given-holds (λ v. k.Val v before) (named_value program before x) TypeError m _ g (named-holds before x b) (λ f hf. called-holds call c f args m g (k.later f before m le hf) h)
        by_name (Some op) = o op args m g h

    mutual
      pub eval-holds : (e : Expr) → Keeps (eval w e)
      eval-holds (Or e es) m g = and_then-holds m (eval w e m) _ (eval-holds e m g) (λ v n le gn hv. tested-holds v n _ _ gn (gives-holds n _ gn (k.bool_value n true gn)) (or-holds es n gn))
      eval-holds (And e es) m g = and_then-holds m (eval w e m) _ (eval-holds e m g) (λ v n le gn hv. tested-holds v n _ _ gn (and-holds es n gn) (gives-holds n _ gn (k.bool_value n false gn)))
      eval-holds (Compare a sign b) m g = and_then-holds m (eval w a m) _ (eval-holds a m g) (λ x n le gn hx. and_then-holds n (eval w b n) _ (eval-holds b n gn) (λ y r le' gr hy. answered-holds (compare_answer sign x y) r gr (k.compare r sign x y gr (k.later x n r le' hx) hy)))
      eval-holds (Sum e parts) m g = and_then-holds m (eval w e m) _ (eval-holds e m g) (λ v n le gn hv. sum-holds parts v n gn hv)
      eval-holds (Product e parts) m g = and_then-holds m (eval w e m) _ (eval-holds e m g) (λ v n le gn hv. product-holds parts v n gn hv)
      eval-holds (Unary sign e) m g = and_then-holds m (eval w e m) _ (eval-holds e m g) (λ v n le gn hv. answered-holds (unary_answer sign v) n gn (k.unary n sign v gn hv))
      eval-holds (Post e places) m g = and_then-holds m (eval w e m) _ (eval-holds e m g) (λ v n le gn hv. places-hold places v n gn hv)
      eval-holds (Number i) m g = gives-holds m _ g (k.int_value m i g)
      eval-holds (TextLiteral bs) m g = gives-holds m _ g (k.text_value m bs g)
      eval-holds TrueLiteral m g = gives-holds m _ g (k.bool_value m true g)
      eval-holds FalseLiteral m g = gives-holds m _ g (k.bool_value m false g)
      eval-holds UnitLiteral m g = finish-holds m g
      eval-holds (Name x) m g = given-holds (λ v. k.Val v m) (named_value program m x.name) TypeError m _ g (named-holds m x.name g) (λ v hv. gives-holds m v g hv)
      eval-holds (Call f args) m g = all-hold args [] _ m g tt (λ vs n le gn hvs. call_of-holds f.name m n vs g le gn hvs)
      eval-holds (Paren e) m g = eval-holds e m g
      eval-holds (ListLiteral es) m g = all-hold es [] _ m g tt (λ vs n le gn hvs. answered-holds (limited_value (ListValue (values_of vs))) n gn (k.list n vs gn hvs))

      or-holds : (es : Exprs) → Keeps (eval_or w es)
      or-holds no_exprs m g = gives-holds m _ g (k.bool_value m false g)
      or-holds (with_expr e es) m g = and_then-holds m (eval w e m) _ (eval-holds e m g) (λ v n le gn hv. tested-holds v n _ _ gn (gives-holds n _ gn (k.bool_value n true gn)) (or-holds es n gn))

      and-holds : (es : Exprs) → Keeps (eval_and w es)
      and-holds no_exprs m g = gives-holds m _ g (k.bool_value m true g)
      and-holds (with_expr e es) m g = and_then-holds m (eval w e m) _ (eval-holds e m g) (λ v n le gn hv. tested-holds v n _ _ gn (and-holds es n gn) (gives-holds n _ gn (k.bool_value n false gn)))

      all-hold : (es : Exprs) (vs : List Value) (next : List Value → Machine H → Done H) (m : Machine H) → k.Good m → Vals vs m → ((vs : List Value) (n : Machine H) → k.Le m n → k.Good n → Vals vs n → Holds n (next vs n)) → Holds m (eval_all w es vs next m)
      all-hold no_exprs vs next m g h q = q vs m (k.same m) g h
      all-hold (with_expr e es) vs next m g h q =
          and_then-holds m (eval w e m) _ (eval-holds e m g)
          (λ v n le gn hv. all-hold es (vs ++ v ∷ []) next n gn (Every-append (λ v. k.Val v n) vs (v ∷ []) (later_all vs m n le h) (hv, tt)) (λ us r le' gr hus. q us r (k.chain m n r le le') gr hus))

      places-hold : (es : Exprs) (v : Value) (m : Machine H) → k.Good m → k.Val v m → Holds m (eval_places w es v m)
      places-hold no_exprs v m g h = gives-holds m v g h
      places-hold (with_expr e es) v m g h =
          and_then-holds m (eval w e m) _ (eval-holds e m g)
          (λ i n le gn hi. and_then-holds n (answered (item_answer v i) n) _ (answered-holds (item_answer v i) n gn (k.item n v i gn (k.later v m n le h) hi)) (λ x r le' gr hx. places-hold es x r gr hx))

      sum-holds : (parts : SumParts) (v : Value) (m : Machine H) → k.Good m → k.Val v m → Holds m (eval_sum w parts v m)
      sum-holds no_terms v m g h = gives-holds m v g h
      sum-holds (with_term sign e parts) v m g h =
          and_then-holds m (eval w e m) _ (eval-holds e m g)
          (λ x n le gn hx. and_then-holds n (answered (sum_answer sign v x) n) _ (answered-holds (sum_answer sign v x) n gn (k.sum n sign v x gn (k.later v m n le h) hx)) (λ y r le' gr hy. sum-holds parts y r gr hy))

      product-holds : (parts : ProductParts) (v : Value) (m : Machine H) → k.Good m → k.Val v m → Holds m (eval_product w parts v m)
      product-holds no_factors v m g h = gives-holds m v g h
      product-holds (with_factor sign e parts) v m g h =
          and_then-holds m (eval w e m) _ (eval-holds e m g)
          (λ x n le gn hx. and_then-holds n (answered (product_answer sign v x) n) _ (answered-holds (product_answer sign v x) n gn (k.product n sign v x gn (k.later v m n le h) hx)) (λ y r le' gr hy. product-holds parts y r gr hy))

    pub loop_turns-holds : (i : ℕ) (test body : Machine H → Done H) → Keeps test → Keeps body → Keeps (loop_turns i test body)
    loop_turns-holds zero test body p q m g = k.stop m m (k.same m) g
    loop_turns-holds (suc i) test body p q m g =
        and_then-holds m (test m) _ (p m g)
        (λ v n le gn hv. tested-holds v n _ _ gn
        (take_unit-holds n _ gn (λ a le' ga. and_then-holds a (body a) _ (q a ga) (λ u b le'' gb hu. loop_turns-holds i test body p q b gb)))
        (finish-holds n gn))

    opt_eval-holds : (e : Option Expr) → Keeps (opt_eval w e)
    opt_eval-holds None m g = (k.same m, g, k.unit_value m g)
    opt_eval-holds (Some e) m g = and_then-holds m (eval w e m) Returns (eval-holds e m g) (λ v n le gn hv. (k.same n, gn, hv))

    finish_assigned-holds : (x : List ℕ) (v : Value) (m : Machine H) → k.Good m → k.Val v m → Holds m (finish (assigned m x v))
    finish_assigned-holds x v m g h =
        let after = k.assign m x v g h in
        (after.0, after.1, k.unit_value (assigned m x v) after.1)

    mutual
      pub exec-holds : (s : Stmt) → Keeps (exec w s)
      exec-holds (VarStmt x e) m g = and_then-holds m (eval w e m) _ (eval-holds e m g) (λ v n le gn hv. finish_assigned-holds x.name v n gn hv)
      exec-holds (AssignStmt x e) m g = and_then-holds m (eval w e m) _ (eval-holds e m g) (λ v n le gn hv. finish_assigned-holds x.name v n gn hv)
      exec-holds (ExprStmt e) m g = and_then-holds m (eval w e m) _ (eval-holds e m g) (λ v n le gn hv. finish-holds n gn)
      exec-holds (IfStmt e block others last) m g = and_then-holds m (eval w e m) _ (eval-holds e m g) (λ v n le gn hv. tested-holds v n _ _ gn (block-holds block n gn) (others-hold others (exec_else w last) (else-holds last) n gn))
      exec-holds (WhileStmt e block) m g = loop_turns-holds (suc m.fuel) (eval w e) (exec_block w block) (eval-holds e) (block-holds block) m g
      exec-holds (ReturnStmt e) m g = opt_eval-holds e m g
      exec-holds (ThrowStmt e) m g = and_then-holds m (eval w e m) Throws (eval-holds e m g) (λ v n le gn hv. (k.same n, gn, hv))
      exec-holds (TryStmt block x handler) m g =
          or_catch-holds m (exec_block w block m) _ (block-holds block m g)
          (λ v n le gn hv. let after = k.assign n x.name v gn hv in wider n (assigned n x.name v) (exec_block w handler (assigned n x.name v)) after.0 (block-holds handler (assigned n x.name v) after.1))

      pub block-holds : (b : Block) → Keeps (exec_block w b)
      block-holds no_stmts m g = finish-holds m g
      block-holds (with_stmt s rest) m g = and_then-holds m (exec w s m) _ (exec-holds s m g) (λ u n le gn hu. block-holds rest n gn)

      others-hold : (others : ElseIfs) (last : Machine H → Done H) → Keeps last → Keeps (exec_others w others last)
      others-hold no_else_ifs last q m g = q m g
      others-hold (with_else_if e block others) last q m g = and_then-holds m (eval w e m) _ (eval-holds e m g) (λ v n le gn hv. tested-holds v n _ _ gn (block-holds block n gn) (others-hold others last q n gn))

      else-holds : (last : ElsePart) → Keeps (exec_else w last)
      else-holds no_else m g = finish-holds m g
      else-holds (else_block block) m g = block-holds block m g

    -- ---- calls

    abbrev Locals : List Variable → Machine H → Type 0
    Locals xs m = Every (λ x. k.Val x.value m) xs

    unit_variables-hold : (xs : List (List ℕ)) (m : Machine H) → k.Good m → Locals (unit_variables xs) m
    unit_variables-hold [] m g = tt
    unit_variables-hold (x ∷ xs) m g = (k.unit_value m g, unit_variables-hold xs m g)

    parameters-hold : (xs : List (List ℕ)) (vs : List Value) (m : Machine H) → k.Good m → Vals vs m → Locals (parameters_with xs vs) m
    parameters-hold [] vs m g h = tt
    parameters-hold (x ∷ xs) [] m g h = (k.unit_value m g, parameters-hold xs [] m g tt)
    parameters-hold (x ∷ xs) (v ∷ vs) m g h = (h.0, parameters-hold xs vs m g h.1)

    end_of_call-holds : (m : Machine H) (d : Done H) → Holds m d → Holds m (end_of_call d)
    end_of_call-holds m (Gives v n) h = let end = k.close_call n h.1 in (k.chain m n (closed n) h.0 end.0, end.1, k.unit_value (closed n) end.1)
    end_of_call-holds m (Returns v n) h = let end = k.close_call n h.1 in (k.chain m n (closed n) h.0 end.0, end.1, k.later v n (closed n) end.0 h.2)
    end_of_call-holds m (Throws v n) h = let end = k.close_call n h.1 in (k.chain m n (closed n) h.0 end.0, end.1, k.later v n (closed n) end.0 h.2)
    end_of_call-holds m (OutOfFuel n) h = k.stop_closed m n h

    opened-holds : (xs : List Variable) (b : Block) (m : Machine H) → k.Good m → Locals xs m → Holds m (end_of_call (exec_block w b (opened xs m)))
    opened-holds xs b m g h =
        let begin = k.open_call m xs g h in
        end_of_call-holds m (exec_block w b (opened xs m)) (wider m (opened xs m) (exec_block w b (opened xs m)) begin.0 (block-holds b (opened xs m) begin.1))

    pub body_of_call-holds : (f : Option Function) (args : List Value) (m : Machine H) → k.Good m → Vals args m → Holds m (body_of_call w f args m)
    body_of_call-holds None args m g h = opened-holds [] (own_body program.items) m g tt
    body_of_call-holds (Some f) args m g h =
        opened-holds (parameters_with f.parameters args ++ unit_variables (names_in f.body)) f.body m g
        (Every-append (λ x. k.Val x.value m) (parameters_with f.parameters args) (unit_variables (names_in f.body)) (parameters-hold f.parameters args m g h) (unit_variables-hold (names_in f.body) m g))

  -- where operations hold with every caller that holds, a script's calls hold at any depth
  pub calls-hold : (operations : Operations H) → ((call : Caller H) → CallsHold call → OperateHolds (operations call)) → (n : ℕ) → CallsHold (calls program operations n)
  calls-hold operations o zero f args m g h = fault-holds m RangeError g
  calls-hold operations o (suc n) f args m g h =
      let before = calls-hold operations o n in
      take_unit-holds m _ g (λ a le ga. body_of_call-holds (calls program operations n) (operations (calls program operations n)) before (o (calls program operations n) before) (slice_get (functions_of program.items) f) args a ga (later_all args m a le h))

  pub outside-holds : (operations : Operations H) → ((call : Caller H) → CallsHold call → OperateHolds (operations call)) → CallsHold (call_from_outside program operations)
  outside-holds operations o = calls-hold operations o 256
