-- A script around a page within bounds does the same around the page as a host, where the operations do: one induction over evaluation.
use Rattle.std.proofs.Common.{◌≡◌, ℕ, zero, suc, ◌≤◌, ◌<◌, ◌⊎◌, inl, inr, arith, Bool, true, false, List, [], ◌∷◌, ◌++◌, Option, Some, None, refl, ap, sym, subst, cond, slice_get, Ok, Err}
use Rattle.page_types.specs.declared.FaultName.{FaultName}
use Rattle.page_types.specs.Values.{Value, UnitValue, BoolValue, IntValue, TextValue, ListValue, values_of, items_of}
use Rattle.page_types.specs.declared.FaultName.TheVariants.{TypeError, RangeError}
use Rattle.page_types.specs.Tree.{Expr, Or, And, Compare, Sum, Product, Unary, Post, Number, TextLiteral, TrueLiteral, FalseLiteral, UnitLiteral, Name, Call, Paren, ListLiteral, Exprs, no_exprs, with_expr, SumParts, no_terms, with_term, ProductParts, no_factors, with_factor, Stmt, VarStmt, AssignStmt, ExprStmt, IfStmt, WhileStmt, ReturnStmt, ThrowStmt, TryStmt, Block, no_stmts, with_stmt, ElseIfs, no_else_ifs, with_else_if, ElsePart, no_else, else_block, Program}
use Rattle.page_types.specs.declared.Op.{Op}
use Rattle.page_parts.specs.Words.{is_there}
use Rattle.page_parts.specs.Kinds.{func_in, bool_in}
use Rattle.lang_meaning.specs.Machine.{hosted, Machine, Done, Gives, Throws, Returns, OutOfFuel, and_then, or_catch, given, branch, with_fuel, take_unit, throw_fault, finish, value_in, locals, assigned, with_local, with_value_in, Caller, Operations}
use Rattle.lang_meaning.specs.OpNames.{op_named}
use Rattle.lang_meaning.specs.Evaluation.{Around, Answer, answered, sum_answer, product_answer, compare_answer, unary_answer, item_answer, limited_value, tested, Function, own_body, named_value, called, call_of, eval, eval_or, eval_and, eval_all, eval_places, eval_sum, eval_product, loop_turns, opt_eval, exec, exec_block, exec_others, exec_else, opened, unit_variables, names_in, parameters_with, end_of_call, body_of_call, calls, functions_of}
use Rattle.page_model.specs.State.{Page, State}
use Rattle.page_model.specs.Folds.{Fold}
use Rattle.page_model.specs.PageHost.{Hosting, with_folds}
use Rattle.page_model.specs.FoldBounds.{IsBounded}
use Rattle.page_model.specs.Hosted.{EndsSame}
use Rattle.page_model.proofs.Bounding.Counting.{Stays, stays-then}

-- n comes after m: no more fuel, priorities stay, and the page is within bounds
abbrev pub After : State → State → Type 0
After m n = (n.fuel ≤ m.fuel) × Stays m.host.prios n.host.prios × IsBounded n.host

pub after-then : (m n r : State) → After m n → After n r → After m r
after-then m n r h k = (omega (arith, h.0, k.0), stays-then m.host.prios n.host.prios r.host.prios h.1 k.1, k.2)

-- a state with the same fuel and page
pub after-same : (m : State) → IsBounded m.host → After m m
after-same m b = (omega arith, λ s h. h, b)

-- what a step from m leads to
abbrev pub Leads : State → Done Page → Type 0
Leads m (Gives v n) = After m n
Leads m (Throws v n) = After m n
Leads m (Returns v n) = After m n
Leads m (OutOfFuel n) = After m n

-- a step from m, and the same step of the host
abbrev pub Twin : List Fold → State → Done Page → Done Hosting → Type 0
Twin folds m d d' = Leads m d × EndsSame folds d d'

pub leads-wider : (m n : State) (d : Done Page) → After m n → Leads n d → Leads m d
leads-wider m n (Gives v r) a h = after-then m n r a h
leads-wider m n (Throws v r) a h = after-then m n r a h
leads-wider m n (Returns v r) a h = after-then m n r a h
leads-wider m n (OutOfFuel r) a h = after-then m n r a h

pub wider : (folds : List Fold) (m n : State) (d : Done Page) (d' : Done Hosting) → After m n → Twin folds n d d' → Twin folds m d d'
wider folds m n d d' a h = (leads-wider m n d a h.0, h.1)

-- a call at depth 0 throws and changes nothing, and any other takes fuel
abbrev pub TakesOrStays : State → Done Page → Type 0
TakesOrStays m (Gives v n) = n.fuel < m.fuel
TakesOrStays m (Throws v n) = (n ≡ m) ⊎ (n.fuel < m.fuel)
TakesOrStays m (Returns v n) = n.fuel < m.fuel
TakesOrStays m (OutOfFuel n) = Unit {0}

module _ (folds : List Fold) where
  abbrev in_host : State → Machine Hosting
  in_host m = hosted (with_folds folds) m

  -- g does in the host what f does
  abbrev pub Follow : (State → Done Page) → (Machine Hosting → Done Hosting) → Type 0
  Follow f g = (m : State) → IsBounded m.host → Twin folds m (f m) (g (hosted (with_folds folds) m))

  abbrev pub CallsFollow : Caller Page → Caller Hosting → Type 0
  CallsFollow call call' = (f : ℕ) (args : List Value) → Follow (call f args) (call' f args)

  abbrev pub OperateFollow : (Op → List Value → State → Done Page) → (Op → List Value → Machine Hosting → Done Hosting) → Type 0
  OperateFollow operate operate' = (op : Op) (args : List Value) → Follow (operate op args) (operate' op args)

  -- ---- ways to put steps together

  pub and_then-twin : (m : State) (d : Done Page) (d' : Done Hosting) (next : Value → State → Done Page) (next' : Value → Machine Hosting → Done Hosting)
      → Twin folds m d d' → ((v : Value) → Follow (next v) (next' v)) → Twin folds m (and_then d next) (and_then d' next')
  and_then-twin m (Gives v n) d' next next' h k =
      subst (λ x. Twin folds m (next v n) (and_then x next')) (sym h.1) (wider folds m n (next v n) (next' v (in_host n)) h.0 (k v n h.0.2))
  and_then-twin m (Throws v n) d' next next' h k = (h.0, ap (λ x. and_then x next') h.1)
  and_then-twin m (Returns v n) d' next next' h k = (h.0, ap (λ x. and_then x next') h.1)
  and_then-twin m (OutOfFuel n) d' next next' h k = (h.0, (h.1.0, ap (λ x. and_then x next') h.1.1))

  pub or_catch-twin : (m : State) (d : Done Page) (d' : Done Hosting) (next : Value → State → Done Page) (next' : Value → Machine Hosting → Done Hosting)
      → Twin folds m d d' → ((v : Value) → Follow (next v) (next' v)) → Twin folds m (or_catch d next) (or_catch d' next')
  or_catch-twin m (Throws v n) d' next next' h k =
      subst (λ x. Twin folds m (next v n) (or_catch x next')) (sym h.1) (wider folds m n (next v n) (next' v (in_host n)) h.0 (k v n h.0.2))
  or_catch-twin m (Gives v n) d' next next' h k = (h.0, ap (λ x. or_catch x next') h.1)
  or_catch-twin m (Returns v n) d' next next' h k = (h.0, ap (λ x. or_catch x next') h.1)
  or_catch-twin m (OutOfFuel n) d' next next' h k = (h.0, (h.1.0, ap (λ x. or_catch x next') h.1.1))

  pub gives-twin : (v : Value) → Follow (Gives v) (Gives v)
  gives-twin v m b = (after-same m b, refl)

  pub fault-twin : (name : FaultName) → Follow (throw_fault name) (throw_fault name)
  fault-twin name m b = (after-same m b, refl)

  pub given-twin : {X : Type 0} (o : Option X) (fault : FaultName) (next : X → State → Done Page) (next' : X → Machine Hosting → Done Hosting) → ((x : X) → Follow (next x) (next' x)) → Follow (λ m. given o fault m next) (λ m. given o fault m next')
  given-twin None fault next next' k m b = fault-twin fault m b
  given-twin (Some x) fault next next' k m b = k x m b

  branch-twin : (c : Bool) (then else : State → Done Page) (then' else' : Machine Hosting → Done Hosting) → Follow then then' → Follow else else' → Follow (λ m. branch c m then else) (λ m. branch c m then' else')
  branch-twin true then else then' else' p q m b = p m b
  branch-twin false then else then' else' p q m b = q m b

  take_unit-twin : (next : State → Done Page) (next' : Machine Hosting → Done Hosting) → Follow next next' → Follow (λ m. take_unit m next) (λ m. take_unit m next')
  take_unit-twin next next' k m b = by_fuel m.fuel refl
    where
      by_fuel : (n : ℕ) → m.fuel ≡ n → Twin folds m (with_fuel n m next) (with_fuel n (hosted (with_folds folds) m) next')
      by_fuel zero e = (after-same m b, (folds, refl))
      by_fuel (suc n) e =
          wider folds m (record m { fuel = n }) (next (record m { fuel = n })) (next' (hosted (with_folds folds) (record m { fuel = n }))) (omega (arith, e), λ s h. h, b) (k (record m { fuel = n }) b)

  tested-twin : (v : Value) (then else : State → Done Page) (then' else' : Machine Hosting → Done Hosting) → Follow then then' → Follow else else' → Follow (λ m. tested v m then else) (λ m. tested v m then' else')
  tested-twin v then else then' else' p q = given-twin (bool_in v) TypeError _ _ (λ c. branch-twin c then else then' else' p q)

  pub answered-twin : (a : Answer) → Follow (answered a) (answered a)
  answered-twin (Ok v) m b = (after-same m b, refl)
  answered-twin (Err name) m b = (after-same m b, refl)

  assigned-after : (m : State) (x : List ℕ) (v : Value) → IsBounded m.host → After m (assigned m x v)
  assigned-after m x v b = by (is_there (value_in (locals m.open_calls) x))
    where
      by : (c : Bool) → After m (cond c (record m { open_calls = with_local m.open_calls x v }) (record m { globals = with_value_in m.globals x v }))
      by true = (omega arith, λ s h. h, b)
      by false = (omega arith, λ s h. h, b)

  assigned-hosted : (m : State) (x : List ℕ) (v : Value) → assigned (hosted (with_folds folds) m) x v ≡ hosted (with_folds folds) (assigned m x v)
  assigned-hosted m x v = by (is_there (value_in (locals m.open_calls) x))
    where
      by : (c : Bool) → cond c (hosted (with_folds folds) (record m { open_calls = with_local m.open_calls x v })) (hosted (with_folds folds) (record m { globals = with_value_in m.globals x v }))
          ≡ hosted (with_folds folds) (cond c (record m { open_calls = with_local m.open_calls x v }) (record m { globals = with_value_in m.globals x v }))
      by true = refl
      by false = refl

  called-twin : (call : Caller Page) (call' : Caller Hosting) → CallsFollow call call' → (v : Value) (args : List Value) → Follow (called call v args) (called call' v args)
  called-twin call call' c v args = given-twin (func_in v) TypeError _ _ (λ f. c f.function (items_of f.bound ++ args))

  module _ (program : Program) (call : Caller Page) (call' : Caller Hosting) (operate : Op → List Value → State → Done Page) (operate' : Op → List Value → Machine Hosting → Done Hosting) (calls_follow : CallsFollow call call') (operate_follow : OperateFollow operate operate') where
    abbrev w : Around Page
    w = record { program = program; call = call; operate = operate }

    abbrev w' : Around Hosting
    w' = record { program = program; call = call'; operate = operate' }

    call_of-twin : (x : List ℕ) (before : State) (args : List Value) → Follow (call_of w x before args) (call_of w' x (hosted (with_folds folds) before) args)
    call_of-twin x before args = by_name (op_named x)
      where
        by_name : (o : Option Op) → Follow (λ m. elim o [ Some op ↦ operate op args m | None ↦ given (named_value program before x) TypeError m (λ f m. called call f args m) ]) (λ m. elim o [ Some op ↦ operate' op args m | None ↦ given (named_value program before x) TypeError m (λ f m. called call' f args m) ])
        by_name None = given-twin (named_value program before x) TypeError _ _ (λ f. called-twin call call' calls_follow f args)
        by_name (Some op) = operate_follow op args

    mutual
      eval-twin : (e : Expr) → Follow (eval w e) (eval w' e)
      eval-twin (Or e es) m b = and_then-twin m (eval w e m) _ _ _ (eval-twin e m b) (λ v. tested-twin v _ _ _ _ (gives-twin (BoolValue true)) (or-twin es))
      eval-twin (And e es) m b = and_then-twin m (eval w e m) _ _ _ (eval-twin e m b) (λ v. tested-twin v _ _ _ _ (and-twin es) (gives-twin (BoolValue false)))
      eval-twin (Compare a sign c) m b = and_then-twin m (eval w a m) _ _ _ (eval-twin a m b) (λ x m b. and_then-twin m (eval w c m) _ _ _ (eval-twin c m b) (λ y. answered-twin (compare_answer sign x y)))
      eval-twin (Sum e parts) m b = and_then-twin m (eval w e m) _ _ _ (eval-twin e m b) (sum-twin parts)
      eval-twin (Product e parts) m b = and_then-twin m (eval w e m) _ _ _ (eval-twin e m b) (product-twin parts)
      eval-twin (Unary sign e) m b = and_then-twin m (eval w e m) _ _ _ (eval-twin e m b) (λ x. answered-twin (unary_answer sign x))
      eval-twin (Post e places) m b = and_then-twin m (eval w e m) _ _ _ (eval-twin e m b) (places-twin places)
      eval-twin (Number i) m b = gives-twin (IntValue i) m b
      eval-twin (TextLiteral bs) m b = gives-twin (TextValue bs) m b
      eval-twin TrueLiteral m b = gives-twin (BoolValue true) m b
      eval-twin FalseLiteral m b = gives-twin (BoolValue false) m b
      eval-twin UnitLiteral m b = gives-twin UnitValue m b
      eval-twin (Name x) m b = given-twin (named_value program m x.name) TypeError Gives Gives gives-twin m b
      eval-twin (Call f args) m b = all-twin args [] _ _ (call_of-twin f.name m) m b
      eval-twin (Paren e) m b = eval-twin e m b
      eval-twin (ListLiteral es) m b = all-twin es [] _ _ (λ vs. answered-twin (limited_value (ListValue (values_of vs)))) m b

      or-twin : (es : Exprs) → Follow (eval_or w es) (eval_or w' es)
      or-twin no_exprs m b = gives-twin (BoolValue false) m b
      or-twin (with_expr e es) m b = and_then-twin m (eval w e m) _ _ _ (eval-twin e m b) (λ v. tested-twin v _ _ _ _ (gives-twin (BoolValue true)) (or-twin es))

      and-twin : (es : Exprs) → Follow (eval_and w es) (eval_and w' es)
      and-twin no_exprs m b = gives-twin (BoolValue true) m b
      and-twin (with_expr e es) m b = and_then-twin m (eval w e m) _ _ _ (eval-twin e m b) (λ v. tested-twin v _ _ _ _ (and-twin es) (gives-twin (BoolValue false)))

      all-twin : (es : Exprs) (vs : List Value) (next : List Value → State → Done Page) (next' : List Value → Machine Hosting → Done Hosting) → ((vs : List Value) → Follow (next vs) (next' vs)) → Follow (eval_all w es vs next) (eval_all w' es vs next')
      all-twin no_exprs vs next next' k m b = k vs m b
      all-twin (with_expr e es) vs next next' k m b = and_then-twin m (eval w e m) _ _ _ (eval-twin e m b) (λ v. all-twin es (vs ++ v ∷ []) next next' k)

      places-twin : (es : Exprs) (v : Value) → Follow (eval_places w es v) (eval_places w' es v)
      places-twin no_exprs v m b = gives-twin v m b
      places-twin (with_expr e es) v m b = and_then-twin m (eval w e m) _ _ _ (eval-twin e m b) (λ i m b. and_then-twin m (answered (item_answer v i) m) _ _ _ (answered-twin (item_answer v i) m b) (places-twin es))

      sum-twin : (parts : SumParts) (v : Value) → Follow (eval_sum w parts v) (eval_sum w' parts v)
      sum-twin no_terms v m b = gives-twin v m b
      sum-twin (with_term sign e parts) v m b = and_then-twin m (eval w e m) _ _ _ (eval-twin e m b) (λ x m b. and_then-twin m (answered (sum_answer sign v x) m) _ _ _ (answered-twin (sum_answer sign v x) m b) (sum-twin parts))

      product-twin : (parts : ProductParts) (v : Value) → Follow (eval_product w parts v) (eval_product w' parts v)
      product-twin no_factors v m b = gives-twin v m b
      product-twin (with_factor sign e parts) v m b = and_then-twin m (eval w e m) _ _ _ (eval-twin e m b) (λ x m b. and_then-twin m (answered (product_answer sign v x) m) _ _ _ (answered-twin (product_answer sign v x) m b) (product-twin parts))

    loop_turns-twin : (n : ℕ) (test body : State → Done Page) (test' body' : Machine Hosting → Done Hosting) → Follow test test' → Follow body body' → Follow (loop_turns n test body) (loop_turns n test' body')
    loop_turns-twin zero test body test' body' p q m b = (after-same m b, (folds, refl))
    loop_turns-twin (suc n) test body test' body' p q m b =
        and_then-twin m (test m) _ _ _ (p m b) (λ v. tested-twin v _ _ _ _ (take_unit-twin _ _ (λ m b. and_then-twin m (body m) _ _ _ (q m b) (λ u. loop_turns-twin n test body test' body' p q))) (gives-twin UnitValue))

    returns-twin : (v : Value) → Follow (Returns v) (Returns v)
    returns-twin v m b = (after-same m b, refl)

    throws-twin : (v : Value) → Follow (Throws v) (Throws v)
    throws-twin v m b = (after-same m b, refl)

    opt_eval-twin : (e : Option Expr) → Follow (opt_eval w e) (opt_eval w' e)
    opt_eval-twin None m b = returns-twin UnitValue m b
    opt_eval-twin (Some e) m b = and_then-twin m (eval w e m) _ Returns Returns (eval-twin e m b) returns-twin

    finish_assigned-twin : (x : List ℕ) (v : Value) → Follow (λ m. finish (assigned m x v)) (λ m. finish (assigned m x v))
    finish_assigned-twin x v m b = (assigned-after m x v b, ap finish (assigned-hosted m x v))

    mutual
      exec-twin : (s : Stmt) → Follow (exec w s) (exec w' s)
      exec-twin (VarStmt x e) m b = and_then-twin m (eval w e m) _ _ _ (eval-twin e m b) (finish_assigned-twin x.name)
      exec-twin (AssignStmt x e) m b = and_then-twin m (eval w e m) _ _ _ (eval-twin e m b) (finish_assigned-twin x.name)
      exec-twin (ExprStmt e) m b = and_then-twin m (eval w e m) _ _ _ (eval-twin e m b) (λ v. gives-twin UnitValue)
      exec-twin (IfStmt e block others last) m b = and_then-twin m (eval w e m) _ _ _ (eval-twin e m b) (λ v. tested-twin v _ _ _ _ (block-twin block) (others-twin others _ _ (else-twin last)))
      exec-twin (WhileStmt e block) m b = loop_turns-twin (suc m.fuel) (eval w e) (exec_block w block) (eval w' e) (exec_block w' block) (eval-twin e) (block-twin block) m b
      exec-twin (ReturnStmt e) m b = opt_eval-twin e m b
      exec-twin (ThrowStmt e) m b = and_then-twin m (eval w e m) _ Throws Throws (eval-twin e m b) throws-twin
      exec-twin (TryStmt block x handler) m b =
          or_catch-twin m (exec_block w block m) _ _ _ (block-twin block m b)
          (λ v n c. subst (λ a. Twin folds n (exec_block w handler (assigned n x.name v)) (exec_block w' handler a)) (sym (assigned-hosted n x.name v))
          (wider folds n (assigned n x.name v) (exec_block w handler (assigned n x.name v)) (exec_block w' handler (hosted (with_folds folds) (assigned n x.name v))) (assigned-after n x.name v c) (block-twin handler (assigned n x.name v) (assigned-after n x.name v c).2)))

      block-twin : (s : Block) → Follow (exec_block w s) (exec_block w' s)
      block-twin no_stmts m b = gives-twin UnitValue m b
      block-twin (with_stmt s rest) m b = and_then-twin m (exec w s m) _ _ _ (exec-twin s m b) (λ u. block-twin rest)

      others-twin : (others : ElseIfs) (last : State → Done Page) (last' : Machine Hosting → Done Hosting) → Follow last last' → Follow (exec_others w others last) (exec_others w' others last')
      others-twin no_else_ifs last last' k m b = k m b
      others-twin (with_else_if e block others) last last' k m b = and_then-twin m (eval w e m) _ _ _ (eval-twin e m b) (λ v. tested-twin v _ _ _ _ (block-twin block) (others-twin others last last' k))

      else-twin : (last : ElsePart) → Follow (exec_else w last) (exec_else w' last)
      else-twin no_else m b = gives-twin UnitValue m b
      else-twin (else_block block) m b = block-twin block m b

    end_of_call-twin : (m : State) (d : Done Page) (d' : Done Hosting) → Twin folds m d d' → Twin folds m (end_of_call d) (end_of_call d')
    end_of_call-twin m (Gives v n) d' h = (h.0, ap end_of_call h.1)
    end_of_call-twin m (Returns v n) d' h = (h.0, ap end_of_call h.1)
    end_of_call-twin m (Throws v n) d' h = (h.0, ap end_of_call h.1)
    end_of_call-twin m (OutOfFuel n) d' h = (h.0, (h.1.0, ap end_of_call h.1.1))

    pub body_of_call-twin : (f : Option Function) (args : List Value) → Follow (body_of_call w f args) (body_of_call w' f args)
    body_of_call-twin None args m b = end_of_call-twin m (exec_block w (own_body program.items) (opened [] m)) _ (block-twin (own_body program.items) (opened [] m) b)
    body_of_call-twin (Some f) args m b =
        let here = opened (parameters_with f.parameters args ++ unit_variables (names_in f.body)) m in
        end_of_call-twin m (exec_block w f.body here) _ (wider folds m here (exec_block w f.body here) _ (omega arith, λ s h. h, b) (block-twin f.body here b))

-- a caller, and the same through the host, with any folds open
abbrev pub CallersFollow : Caller Page → Caller Hosting → Type 0
CallersFollow call call' = (folds : List Fold) (f : ℕ) (args : List Value) (m : State) → IsBounded m.host → Twin folds m (call f args m) (call' f args (hosted (with_folds folds) m)) × TakesOrStays m (call f args m)

takes : (m n : State) (d : Done Page) → n.fuel < m.fuel → Leads n d → TakesOrStays m d
takes m n (Gives v r) l h = let k = h.0 in omega (arith, l, k)
takes m n (Throws v r) l h = let k = h.0 in inr (omega (arith, l, k))
takes m n (Returns v r) l h = let k = h.0 in omega (arith, l, k)
takes m n (OutOfFuel r) l h = tt

-- where operations follow whenever the callers do, a script's calls follow
pub callers-follow : (program : Program) (operations : Operations Page) (operations' : Operations Hosting)
    → ((call : Caller Page) (call' : Caller Hosting) → CallersFollow call call' → (folds : List Fold) → OperateFollow folds (operations call) (operations' call'))
    → (n : ℕ) → CallersFollow (calls program operations n) (calls program operations' n)
callers-follow program operations operations' o zero folds f args m b = (fault-twin folds RangeError m b, inl refl)
callers-follow program operations operations' o (suc n) folds f args m b = by_fuel m.fuel refl
    (λ r c. body_of_call-twin folds program (calls program operations n) (calls program operations' n) (operations (calls program operations n)) (operations' (calls program operations' n))
    (λ f args m b. (callers-follow program operations operations' o n folds f args m b).0)
    (o (calls program operations n) (calls program operations' n) (callers-follow program operations operations' o n) folds)
    (slice_get (functions_of program.items) f) args r c)
  where
    by_fuel : (left : ℕ) → m.fuel ≡ left → Follow folds (body_of_call (record { program = program; call = calls program operations n; operate = operations (calls program operations n) }) (slice_get (functions_of program.items) f) args) (body_of_call (record { program = program; call = calls program operations' n; operate = operations' (calls program operations' n) }) (slice_get (functions_of program.items) f) args)
        → Twin folds m (with_fuel left m (body_of_call (record { program = program; call = calls program operations n; operate = operations (calls program operations n) }) (slice_get (functions_of program.items) f) args))
        (with_fuel left (hosted (with_folds folds) m) (body_of_call (record { program = program; call = calls program operations' n; operate = operations' (calls program operations' n) }) (slice_get (functions_of program.items) f) args))
        × TakesOrStays m (with_fuel left m (body_of_call (record { program = program; call = calls program operations n; operate = operations (calls program operations n) }) (slice_get (functions_of program.items) f) args))
    by_fuel zero e k = ((after-same m b, (folds, refl)), tt)
    by_fuel (suc left) e k =
        let r = record m { fuel = left } in
        let twin = k r b in
        let less : r.fuel < m.fuel = omega (arith, e) in
        (wider folds m r _ _ (omega (arith, less), λ s h. h, b) twin, takes m r _ less twin.0)
