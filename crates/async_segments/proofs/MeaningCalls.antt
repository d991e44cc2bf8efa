-- Expressions and calls leave the variables of open calls as they are, and no variable comes or goes. No expression returns.
use Rattle.std.proofs.Common.{◌≡◌, ℕ, zero, suc, Bool, true, false, List, [], ◌∷◌, ◌++◌, Option, Some, None, refl, ap, ◌∙◌, cond, slice_get, Ok, Err}
use Rattle.page_types.specs.declared.FaultName.{FaultName}
use Rattle.page_types.specs.declared.FaultName.TheVariants.{TypeError}
use Rattle.page_types.specs.Values.{Value, ListValue, values_of, items_of}
use Rattle.page_types.specs.Tree.{Program, Expr, Or, And, Compare, Sum, Product, Unary, Post, Number, TextLiteral, TrueLiteral, FalseLiteral, UnitLiteral, Name, Call, Paren, ListLiteral, Exprs, no_exprs, with_expr, SumParts, no_terms, with_term, ProductParts, no_factors, with_factor, Stmt, VarStmt, AssignStmt, ExprStmt, IfStmt, WhileStmt, ReturnStmt, ThrowStmt, TryStmt, Block, no_stmts, with_stmt, ElseIfs, no_else_ifs, with_else_if, ElsePart, no_else, else_block}
use Rattle.page_types.specs.declared.Op.{Op}
use Rattle.page_parts.specs.Words.{same_bytes, is_there}
use Rattle.page_parts.specs.Kinds.{func_in, bool_in}
use Rattle.lang_meaning.specs.Machine.{Variable, Machine, Done, Gives, Throws, Returns, OutOfFuel, and_then, or_catch, given, branch, with_fuel, take_unit, value_in, locals, assigned, with_local, with_value_in, Caller}
use Rattle.lang_meaning.specs.OpNames.{op_named}
use Rattle.lang_meaning.specs.Evaluation.{Around, Answer, answered, sum_answer, product_answer, compare_answer, unary_answer, item_answer, limited_value, tested, Function, own_body, functions_of, named_value, called, call_of, eval, eval_or, eval_and, eval_all, eval_places, eval_sum, eval_product, loop_turns, opt_eval, exec, exec_block, exec_others, exec_else, opened, closed, unit_variables, names_in, parameters_with, end_of_call, body_of_call, around, calls, without_first}
use Rattle.lang_meaning.specs.HostSteps.{HostRules, HostStep, StepValue, StepThrow, StepInvoke, CallbackEnd, CallbackValue, CallbackThrow, AskOp, AskResume, on_ask, with_host, after_callback, steps_by, ask_host, asked_by, most_callbacks, is_busy, host_operations}

-- two lists of variables have the same names
abbrev pub SameNames : List Variable → List Variable → Type 0
SameNames xs ys = (x : List ℕ) → is_there (value_in ys x) ≡ is_there (value_in xs x)

-- the variables of open calls are the same, and the global variables have the same names
pub record Same {H : Type 0} (m n : Machine H) : Type 0 where
  pub open_calls : n.open_calls ≡ m.open_calls
  pub globals : SameNames m.globals n.globals

pub same-here : {H : Type 0} (m : Machine H) → Same m m
same-here m = record { open_calls = refl; globals = λ x. refl }

pub same-then : {H : Type 0} (a b c : Machine H) → Same a b → Same b c → Same a c
same-then a b c p q = record { open_calls = q.open_calls ∙ p.open_calls; globals = λ x. q.globals x ∙ p.globals x }

-- a step that ends so does not return, and its state has a property
abbrev pub KeptBy : {H : Type 0} → (Machine H → Type 0) → Done H → Type 0
KeptBy S (Gives v n) = S n
KeptBy S (Throws v n) = S n
KeptBy S (Returns v n) = ⊥
KeptBy S (OutOfFuel n) = Unit {0}

-- the same, where a step may return
abbrev pub After : {H : Type 0} → (Machine H → Type 0) → Done H → Type 0
After S (Gives v n) = S n
After S (Throws v n) = S n
After S (Returns v n) = S n
After S (OutOfFuel n) = Unit {0}

abbrev pub CallsKeep : {H : Type 0} → Caller H → Type 0
CallsKeep {H} call = (f : ℕ) (args : List Value) (m : Machine H) → KeptBy (Same m) (call f args m)

abbrev pub OperateKeeps : {H : Type 0} → (Op → List Value → Machine H → Done H) → Type 0
OperateKeeps {H} operate = (op : Op) (args : List Value) (m : Machine H) → KeptBy (Same m) (operate op args m)

-- a property that such steps keep
abbrev pub IsStable : {H : Type 0} → (Machine H → Type 0) → Type 0
IsStable {H} S = (m n : Machine H) → S m → Same m n → S n

pub stable-kept : {H : Type 0} (S : Machine H → Type 0) → IsStable S → (m : Machine H) → S m → (d : Done H) → KeptBy (Same m) d → KeptBy S d
stable-kept S stable m s (Gives v n) h = stable m n s h
stable-kept S stable m s (Throws v n) h = stable m n s h
stable-kept S stable m s (Returns v n) h = h
stable-kept S stable m s (OutOfFuel n) h = tt

pub after-kept : {H : Type 0} (S : Machine H → Type 0) (d : Done H) → KeptBy S d → After S d
after-kept S (Gives v n) h = h
after-kept S (Throws v n) h = h
after-kept S (Returns v n) h = absurd h
after-kept S (OutOfFuel n) h = tt

module _ {H : Type 0} (S : Machine H → Type 0) where
  abbrev pub Keeps : (Machine H → Done H) → Type 0
  Keeps f = (m : Machine H) → S m → KeptBy S (f m)

  pub and_then-kept : (d : Done H) (next : Value → Machine H → Done H) → KeptBy S d → ((v : Value) → Keeps (next v)) → KeptBy S (and_then d next)
  and_then-kept (Gives v m) next h k = k v m h
  and_then-kept (Throws v m) next h k = h
  and_then-kept (Returns v m) next h k = h
  and_then-kept (OutOfFuel m) next h k = h

  pub given-kept : {X : Type 0} (o : Option X) (fault : FaultName) (next : X → Machine H → Done H) → ((x : X) → Keeps (next x)) → Keeps (λ m. given o fault m next)
  given-kept None fault next k m h = h
  given-kept (Some x) fault next k m h = k x m h

  pub branch-kept : (b : Bool) (then else : Machine H → Done H) → Keeps then → Keeps else → Keeps (λ m. branch b m then else)
  branch-kept true then else p q m h = p m h
  branch-kept false then else p q m h = q m h

  pub tested-kept : (v : Value) (then else : Machine H → Done H) → Keeps then → Keeps else → Keeps (λ m. tested v m then else)
  tested-kept v then else p q = given-kept (bool_in v) TypeError (λ b m. branch b m then else) (λ b. branch-kept b then else p q)

  pub answered-kept : (a : Answer) → Keeps (answered a)
  answered-kept (Ok v) m h = h
  answered-kept (Err name) m h = h

-- ---- expressions

module _ {H : Type 0} (w : Around H) (c : CallsKeep w.call) (o : OperateKeeps w.operate) (S : Machine H → Type 0) (stable : IsStable S) where
  called-kept : (v : Value) (args : List Value) → Keeps S (called w.call v args)
  called-kept v args = given-kept S (func_in v) TypeError _ (λ f m s. stable-kept S stable m s _ (c f.function (items_of f.bound ++ args) m))

  call_of-kept : (x : List ℕ) (before : Machine H) (args : List Value) → Keeps S (call_of w x before args)
  call_of-kept x before args = by_name (op_named x)
    where
      by_name : (found : Option Op) → Keeps S (λ m. elim found [ Some op ↦ w.operate op args m | None ↦ given (named_value w.program before x) TypeError m (λ f m. called w.call f args m) ])
      by_name None = given-kept S (named_value w.program before x) TypeError _ (λ f. called-kept f args)
      by_name (Some op) = λ m s. stable-kept S stable m s _ (o op args m)

  mutual
    pub eval-kept : (e : Expr) → Keeps S (eval w e)
    eval-kept (Or e es) m s = and_then-kept S (eval w e m) _ (eval-kept e m s) (λ v. tested-kept S v _ _ (λ m s. s) (or-kept es))
    eval-kept (And e es) m s = and_then-kept S (eval w e m) _ (eval-kept e m s) (λ v. tested-kept S v _ _ (and-kept es) (λ m s. s))
    eval-kept (Compare a sign b) m s = and_then-kept S (eval w a m) _ (eval-kept a m s) (λ x m s. and_then-kept S (eval w b m) _ (eval-kept b m s) (λ y. answered-kept S (compare_answer sign x y)))
    eval-kept (Sum e parts) m s = and_then-kept S (eval w e m) _ (eval-kept e m s) (sum-kept parts)
    eval-kept (Product e parts) m s = and_then-kept S (eval w e m) _ (eval-kept e m s) (product-kept parts)
    eval-kept (Unary sign e) m s = and_then-kept S (eval w e m) _ (eval-kept e m s) (λ x. answered-kept S (unary_answer sign x))
    eval-kept (Post e places) m s = and_then-kept S (eval w e m) _ (eval-kept e m s) (places-kept places)
    eval-kept (Number i) m s = s
    eval-kept (TextLiteral bs) m s = s
    eval-kept TrueLiteral m s = s
    eval-kept FalseLiteral m s = s
    eval-kept UnitLiteral m s = s
    eval-kept (Name x) m s = given-kept S (named_value w.program m x.name) TypeError _ (λ v m s. s) m s
    eval-kept (Call f args) m s = all-kept args [] (call_of w f.name m) (call_of-kept f.name m) m s
    eval-kept (Paren e) m s = eval-kept e m s
    eval-kept (ListLiteral es) m s = all-kept es [] _ (λ vs. answered-kept S (limited_value (ListValue (values_of vs)))) m s

    or-kept : (es : Exprs) → Keeps S (eval_or w es)
    or-kept no_exprs m s = s
    or-kept (with_expr e es) m s = and_then-kept S (eval w e m) _ (eval-kept e m s) (λ v. tested-kept S v _ _ (λ m s. s) (or-kept es))

    and-kept : (es : Exprs) → Keeps S (eval_and w es)
    and-kept no_exprs m s = s
    and-kept (with_expr e es) m s = and_then-kept S (eval w e m) _ (eval-kept e m s) (λ v. tested-kept S v _ _ (and-kept es) (λ m s. s))

    pub all-kept : (es : Exprs) (vs : List Value) (next : List Value → Machine H → Done H) → ((vs : List Value) → Keeps S (next vs)) → Keeps S (eval_all w es vs next)
    all-kept no_exprs vs next k m s = k vs m s
    all-kept (with_expr e es) vs next k m s = and_then-kept S (eval w e m) _ (eval-kept e m s) (λ v. all-kept es (vs ++ v ∷ []) next k)

    places-kept : (es : Exprs) (v : Value) → Keeps S (eval_places w es v)
    places-kept no_exprs v m s = s
    places-kept (with_expr e es) v m s = and_then-kept S (eval w e m) _ (eval-kept e m s) (λ i m s. and_then-kept S (answered (item_answer v i) m) _ (answered-kept S (item_answer v i) m s) (places-kept es))

    sum-kept : (parts : SumParts) (v : Value) → Keeps S (eval_sum w parts v)
    sum-kept no_terms v m s = s
    sum-kept (with_term sign e parts) v m s = and_then-kept S (eval w e m) _ (eval-kept e m s) (λ x m s. and_then-kept S (answered (sum_answer sign v x) m) _ (answered-kept S (sum_answer sign v x) m s) (sum-kept parts))

    product-kept : (parts : ProductParts) (v : Value) → Keeps S (eval_product w parts v)
    product-kept no_factors v m s = s
    product-kept (with_factor sign e parts) v m s = and_then-kept S (eval w e m) _ (eval-kept e m s) (λ x m s. and_then-kept S (answered (product_answer sign v x) m) _ (answered-kept S (product_answer sign v x) m s) (product-kept parts))

-- ---- statements that assign variables of such names

abbrev mutual
  pub AllAssign : (List ℕ → Type 0) → Stmt → Type 0
  AllAssign A (VarStmt x e) = A x.name
  AllAssign A (AssignStmt x e) = A x.name
  AllAssign A (ExprStmt e) = Unit {0}
  AllAssign A (IfStmt e block others last) = BlockAssigns A block × OthersAssign A others × ElseAssigns A last
  AllAssign A (WhileStmt e block) = BlockAssigns A block
  AllAssign A (ReturnStmt e) = Unit {0}
  AllAssign A (ThrowStmt e) = Unit {0}
  AllAssign A (TryStmt block x handler) = BlockAssigns A block × A x.name × BlockAssigns A handler

  pub BlockAssigns : (List ℕ → Type 0) → Block → Type 0
  BlockAssigns A no_stmts = Unit {0}
  BlockAssigns A (with_stmt s rest) = AllAssign A s × BlockAssigns A rest

  pub OthersAssign : (List ℕ → Type 0) → ElseIfs → Type 0
  OthersAssign A no_else_ifs = Unit {0}
  OthersAssign A (with_else_if e block others) = BlockAssigns A block × OthersAssign A others

  pub ElseAssigns : (List ℕ → Type 0) → ElsePart → Type 0
  ElseAssigns A no_else = Unit {0}
  ElseAssigns A (else_block block) = BlockAssigns A block

abbrev pub AnyName : List ℕ → Type 0
AnyName x = Unit {0}

mutual
  any-stmt : (s : Stmt) → AllAssign AnyName s
  any-stmt (VarStmt x e) = tt
  any-stmt (AssignStmt x e) = tt
  any-stmt (ExprStmt e) = tt
  any-stmt (IfStmt e block others last) = (any-block block, any-others others, any-else last)
  any-stmt (WhileStmt e block) = any-block block
  any-stmt (ReturnStmt e) = tt
  any-stmt (ThrowStmt e) = tt
  any-stmt (TryStmt block x handler) = (any-block block, tt, any-block handler)

  any-block : (b : Block) → BlockAssigns AnyName b
  any-block no_stmts = tt
  any-block (with_stmt s rest) = (any-stmt s, any-block rest)

  any-others : (others : ElseIfs) → OthersAssign AnyName others
  any-others no_else_ifs = tt
  any-others (with_else_if e block others) = (any-block block, any-others others)

  any-else : (last : ElsePart) → ElseAssigns AnyName last
  any-else no_else = tt
  any-else (else_block block) = any-block block

module _ {H : Type 0} (S : Machine H → Type 0) where
  abbrev pub Follows : (Machine H → Done H) → Type 0
  Follows f = (m : Machine H) → S m → After S (f m)

  pub and_then-after : (d : Done H) (next : Value → Machine H → Done H) → After S d → ((v : Value) → Follows (next v)) → After S (and_then d next)
  and_then-after (Gives v m) next h k = k v m h
  and_then-after (Throws v m) next h k = h
  and_then-after (Returns v m) next h k = h
  and_then-after (OutOfFuel m) next h k = h

  pub or_catch-after : (d : Done H) (next : Value → Machine H → Done H) → After S d → ((v : Value) → Follows (next v)) → After S (or_catch d next)
  or_catch-after (Gives v m) next h k = h
  or_catch-after (Throws v m) next h k = k v m h
  or_catch-after (Returns v m) next h k = h
  or_catch-after (OutOfFuel m) next h k = h

  given-after : {X : Type 0} (o : Option X) (fault : FaultName) (next : X → Machine H → Done H) → ((x : X) → Follows (next x)) → Follows (λ m. given o fault m next)
  given-after None fault next k m h = h
  given-after (Some x) fault next k m h = k x m h

  branch-after : (b : Bool) (then else : Machine H → Done H) → Follows then → Follows else → Follows (λ m. branch b m then else)
  branch-after true then else p q m h = p m h
  branch-after false then else p q m h = q m h

  pub tested-after : (v : Value) (then else : Machine H → Done H) → Follows then → Follows else → Follows (λ m. tested v m then else)
  tested-after v then else p q = given-after (bool_in v) TypeError (λ b m. branch b m then else) (λ b. branch-after b then else p q)

  -- a state with less fuel
  pub take_unit-after : IsStable S → (next : Machine H → Done H) → Follows next → Follows (λ m. take_unit m next)
  take_unit-after stable next k m s = by_fuel m.fuel
    where
      by_fuel : (n : ℕ) → After S (with_fuel n m next)
      by_fuel zero = tt
      by_fuel (suc n) = k (record m { fuel = n }) (stable m (record m { fuel = n }) s (record { open_calls = refl; globals = λ x. refl }))

module _ {H : Type 0} (w : Around H) (c : CallsKeep w.call) (o : OperateKeeps w.operate) (S : Machine H → Type 0) (stable : IsStable S) (A : List ℕ → Type 0) (assign : (m : Machine H) (x : List ℕ) (v : Value) → A x → S m → S (assigned m x v)) where
  pub eval-after : (e : Expr) → Follows S (eval w e)
  eval-after e m s = after-kept S (eval w e m) (eval-kept w c o S stable e m s)

  pub loop_turns-after : (n : ℕ) (test body : Machine H → Done H) → Follows S test → Follows S body → Follows S (loop_turns n test body)
  loop_turns-after zero test body p q m s = tt
  loop_turns-after (suc n) test body p q m s =
      and_then-after S (test m) _ (p m s)
      (λ v. tested-after S v _ _ (take_unit-after S stable _ (λ m s. and_then-after S (body m) _ (q m s) (λ u. loop_turns-after n test body p q))) (λ m s. s))

  opt_eval-after : (e : Option Expr) → Follows S (opt_eval w e)
  opt_eval-after None m s = s
  opt_eval-after (Some e) m s = and_then-after S (eval w e m) Returns (eval-after e m s) (λ v m s. s)

  mutual
    pub exec-after : (s : Stmt) → AllAssign A s → Follows S (exec w s)
    exec-after (VarStmt x e) a m s = and_then-after S (eval w e m) _ (eval-after e m s) (λ v m s. assign m x.name v a s)
    exec-after (AssignStmt x e) a m s = and_then-after S (eval w e m) _ (eval-after e m s) (λ v m s. assign m x.name v a s)
    exec-after (ExprStmt e) a m s = and_then-after S (eval w e m) _ (eval-after e m s) (λ v m s. s)
    exec-after (IfStmt e block others last) a m s =
        and_then-after S (eval w e m) _ (eval-after e m s) (λ v. tested-after S v _ _ (block-after block a.0) (others-after others (exec_else w last) a.1 (else-after last a.2)))
    exec-after (WhileStmt e block) a m s = loop_turns-after (suc m.fuel) (eval w e) (exec_block w block) (eval-after e) (block-after block a) m s
    exec-after (ReturnStmt e) a m s = opt_eval-after e m s
    exec-after (ThrowStmt e) a m s = and_then-after S (eval w e m) Throws (eval-after e m s) (λ v m s. s)
    exec-after (TryStmt block x handler) a m s =
        or_catch-after S (exec_block w block m) _ (block-after block a.0 m s) (λ v m s. block-after handler a.2 (assigned m x.name v) (assign m x.name v a.1 s))

    pub block-after : (b : Block) → BlockAssigns A b → Follows S (exec_block w b)
    block-after no_stmts a m s = s
    block-after (with_stmt t rest) a m s = and_then-after S (exec w t m) _ (exec-after t a.0 m s) (λ u. block-after rest a.1)

    others-after : (others : ElseIfs) (last : Machine H → Done H) → OthersAssign A others → Follows S last → Follows S (exec_others w others last)
    others-after no_else_ifs last a k m s = k m s
    others-after (with_else_if e block others) last a k m s =
        and_then-after S (eval w e m) _ (eval-after e m s) (λ v. tested-after S v _ _ (block-after block a.0) (others-after others last a.1 k))

    else-after : (last : ElsePart) → ElseAssigns A last → Follows S (exec_else w last)
    else-after no_else a m s = s
    else-after (else_block block) a m s = block-after block a m s

-- ---- variables

there-cond : (b : Bool) (v u : Value) (more rest : Option Value) → is_there more ≡ is_there rest → is_there (cond b (Some v) more) ≡ is_there (cond b (Some u) rest)
there-cond true v u more rest e = refl
there-cond false v u more rest e = e

-- an assignment keeps the names
pub with-same : (xs : List Variable) (x : List ℕ) (v : Value) → SameNames xs (with_value_in xs x v)
with-same [] x v y = refl
with-same (a ∷ more) x v y = by_name (with-same more x v y) (same_bytes a.name x)
  where
    by_name : is_there (value_in (with_value_in more x v) y) ≡ is_there (value_in more y) → (b : Bool) → is_there (value_in (cond b (record a { value = v } ∷ more) (a ∷ with_value_in more x v)) y) ≡ is_there (value_in (a ∷ more) y)
    by_name e true = there-cond (same_bytes a.name y) v a.value (value_in more y) (value_in more y) refl
    by_name e false = there-cond (same_bytes a.name y) a.value a.value (value_in (with_value_in more x v) y) (value_in more y) e

-- ---- calls

-- a call is open with some variables, above these calls; the global variables have these names
pub record Within {H : Type 0} (rest : List (List Variable)) (globals : List Variable) (m : Machine H) : Type 0 where
  pub frame : List Variable
  pub is_open : m.open_calls ≡ frame ∷ rest
  pub names : SameNames globals m.globals

within-stable : {H : Type 0} (rest : List (List Variable)) (globals : List Variable) → IsStable {H = H} (Within rest globals)
within-stable rest globals m n h s = record { frame = h.frame; is_open = s.open_calls ∙ h.is_open; names = λ x. s.globals x ∙ h.names x }

within-assign : {H : Type 0} (rest : List (List Variable)) (globals : List Variable) (m : Machine H) (x : List ℕ) (v : Value) → AnyName x → Within rest globals m → Within rest globals (assigned m x v)
within-assign rest globals m x v a h = by_name (is_there (value_in (locals m.open_calls) x))
  where
    by_name : (b : Bool) → Within rest globals (cond b (record m { open_calls = with_local m.open_calls x v }) (record m { globals = with_value_in m.globals x v }))
    by_name true = record { frame = with_value_in h.frame x v; is_open = ap (λ z. with_local z x v) h.is_open; names = h.names }
    by_name false = record { frame = h.frame; is_open = h.is_open; names = λ y. with-same m.globals x v y ∙ h.names y }

closed-same : {H : Type 0} (m n : Machine H) → Within m.open_calls m.globals n → Same m (closed n)
closed-same m n h = record { open_calls = ap without_first h.is_open; globals = h.names }

module _ {H : Type 0} (w : Around H) (c : CallsKeep w.call) (o : OperateKeeps w.operate) where
  end-kept : (m : Machine H) (d : Done H) → After (Within m.open_calls m.globals) d → KeptBy (Same m) (end_of_call d)
  end-kept m (Gives v n) h = closed-same m n h
  end-kept m (Throws v n) h = closed-same m n h
  end-kept m (Returns v n) h = closed-same m n h
  end-kept m (OutOfFuel n) h = tt

  run-kept : (xs : List Variable) (b : Block) (m : Machine H) → KeptBy (Same m) (end_of_call (exec_block w b (opened xs m)))
  run-kept xs b m =
      end-kept m (exec_block w b (opened xs m))
      (block-after w c o (Within m.open_calls m.globals) (within-stable m.open_calls m.globals) AnyName (within-assign m.open_calls m.globals) b (any-block b) (opened xs m) (record { frame = xs; is_open = refl; names = λ x. refl }))

  pub body_of_call-kept : (f : Option Function) (args : List Value) (m : Machine H) → KeptBy (Same m) (body_of_call w f args m)
  body_of_call-kept None args m = run-kept [] (own_body w.program.items) m
  body_of_call-kept (Some f) args m = run-kept (parameters_with f.parameters args ++ unit_variables (names_in f.body)) f.body m

-- ---- a host that answers by steps

module _ {H : Type 0} (rules : HostRules H) where
  module _ (call : Caller H) (c : CallsKeep call) where
    callback-kept : (a m : Machine H) (next : ℕ → CallbackEnd → Machine H → Done H) (t : ℕ) → ((end : CallbackEnd) (n : Machine H) → Same a n → KeptBy (Same a) (next t end n)) → (d : Done H) → KeptBy (Same a) d → KeptBy (Same a) (after_callback next t d)
    callback-kept a m next t k (Gives v n) h = k (CallbackValue v) n h
    callback-kept a m next t k (Throws v n) h = k (CallbackThrow v) n h
    callback-kept a m next t k (Returns v n) h = absurd h
    callback-kept a m next t k (OutOfFuel n) h = tt

    invoked-kept : (a : Machine H) (f : Value) (args : List Value) (m : Machine H) → Same a m → KeptBy (Same a) (called call f args m)
    invoked-kept a f args m s =
        given-kept (Same a) (func_in f) TypeError _ (λ f m s. stable-kept (Same a) (λ m n p q. same-then a m n p q) m s _ (c f.function (items_of f.bound ++ args) m)) m s

    steps-kept : (k : ℕ) (step : HostStep) (a m : Machine H) → Same a m → KeptBy (Same a) (steps_by (ask_host rules) call k step m)
    steps-kept zero (StepValue v) a m s = s
    steps-kept zero (StepThrow v) a m s = s
    steps-kept zero (StepInvoke f args t) a m s = callback-kept a m (λ t end m. OutOfFuel m) t (λ end n p. tt) (called call f args m) (invoked-kept a f args m s)
    steps-kept (suc k) (StepValue v) a m s = s
    steps-kept (suc k) (StepThrow v) a m s = s
    steps-kept (suc k) (StepInvoke f args t) a m s =
        callback-kept a m (λ t end m. ask_host rules (AskResume t end) m (steps_by (ask_host rules) call k)) t
        (λ end n p. let s = on_ask rules (AskResume t end) n.host in steps-kept k s.step a (with_host s.host n) (record { open_calls = p.open_calls; globals = p.globals }))
        (called call f args m) (invoked-kept a f args m s)

    asked-kept : (a : Machine H) (op : Op) (args : List Value) (m : Machine H) → Same a m → KeptBy (Same a) (asked_by (ask_host rules) call op args m)
    asked-kept a op args m s =
        let t = on_ask rules (AskOp op args) m.host in steps-kept (most_callbacks m) t.step a (with_host t.host m) (record { open_calls = s.open_calls; globals = s.globals })

    pub operations-kept : OperateKeeps (host_operations rules call)
    operations-kept op args m = by_op (is_busy op)
      where
        by_fuel : (n : ℕ) → KeptBy (Same m) (with_fuel n m (asked_by (ask_host rules) call op args))
        by_fuel zero = tt
        by_fuel (suc n) = asked-kept m op args (record m { fuel = n }) (record { open_calls = refl; globals = λ x. refl })

        by_op : (b : Bool) → KeptBy (Same m) (branch b m (λ m. take_unit m (asked_by (ask_host rules) call op args)) (asked_by (ask_host rules) call op args))
        by_op true = by_fuel m.fuel
        by_op false = asked-kept m op args m (same-here m)

  -- what stands around the body of a call, where so many more may be open
  abbrev pub around_at : Program → ℕ → Around H
  around_at program n = around program (host_operations rules) (calls program (host_operations rules) n)

  pub calls-kept : (program : Program) (n : ℕ) → CallsKeep (calls program (host_operations rules) n)
  calls-kept program zero f args m = same-here m
  calls-kept program (suc n) f args m = by_fuel (body_of_call-kept (around_at program n) (calls-kept program n) (operations-kept (calls program (host_operations rules) n) (calls-kept program n)) (slice_get (functions_of program.items) f) args) m.fuel
    where
      by_fuel : ((m : Machine H) → KeptBy (Same m) (body_of_call (around_at program n) (slice_get (functions_of program.items) f) args m)) → (k : ℕ) → KeptBy (Same m) (with_fuel k m (λ m. body_of_call (around_at program n) (slice_get (functions_of program.items) f) args m))
      by_fuel run zero = tt
      by_fuel run (suc k) = stable-kept (Same m) (λ a b p q. same-then m a b p q) (record m { fuel = k }) (record { open_calls = refl; globals = λ x. refl }) _ (run (record m { fuel = k }))
