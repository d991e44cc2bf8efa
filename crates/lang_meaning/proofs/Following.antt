-- A script does the same around another host where the operations do the same.
use Rattle.std.proofs.Common.{◌≡◌, ℕ, zero, suc, Bool, true, false, List, [], ◌∷◌, ◌++◌, Option, Some, None, refl, ap, ◌∙◌, cond, slice_get, Ok, Err}
use Rattle.page_types.specs.declared.FaultName.{FaultName}
use Rattle.page_types.specs.Values.{Value, ListValue, values_of, items_of}
use Rattle.page_types.specs.declared.FaultName.TheVariants.{TypeError}
use Rattle.page_types.specs.Tree.{Expr, Or, And, Compare, Sum, Product, Unary, Post, Number, TextLiteral, TrueLiteral, FalseLiteral, UnitLiteral, Name, Call, Paren, ListLiteral, Exprs, no_exprs, with_expr, SumParts, no_terms, with_term, ProductParts, no_factors, with_factor, Stmt, VarStmt, AssignStmt, ExprStmt, IfStmt, WhileStmt, ReturnStmt, ThrowStmt, TryStmt, Block, no_stmts, with_stmt, ElseIfs, no_else_ifs, with_else_if, ElsePart, no_else, else_block, Program}
use Rattle.page_types.specs.declared.Op.{Op}
use Rattle.page_parts.specs.Words.{is_there}
use Rattle.page_parts.specs.Kinds.{func_in, bool_in}
use Rattle.lang_meaning.specs.Machine.{hosted, done_hosted, Machine, Done, Gives, Throws, Returns, OutOfFuel, and_then, or_catch, afterwards, given, branch, with_fuel, take_unit, finish, value_in, locals, assigned, with_local, with_value_in, Caller, Operations}
use Rattle.lang_meaning.specs.OpNames.{op_named}
use Rattle.lang_meaning.specs.Evaluation.{Around, Answer, answered, sum_answer, product_answer, compare_answer, unary_answer, item_answer, limited_value, tested, Function, own_body, named_value, called, call_of, eval, eval_or, eval_and, eval_all, eval_places, eval_sum, eval_product, loop_turns, opt_eval, exec, exec_block, exec_others, exec_else, opened, unit_variables, names_in, parameters_with, end_of_call, body_of_call, calls, functions_of}
use Rattle.lang_meaning.specs.Following.{Follows, CallsFollow, OperateFollow}

pub and_then-follows : {H K : Type 0} (φ : H → K) (d : Done H) (d' : Done K) (next : Value → Machine H → Done H) (next' : Value → Machine K → Done K) → d' ≡ done_hosted φ d → ((v : Value) → Follows φ (next v) (next' v)) → and_then d' next' ≡ done_hosted φ (and_then d next)
and_then-follows φ d d' next next' e k = ap (λ x. and_then x next') e ∙ by_case d
  where
    by_case : (d : Done _) → and_then (done_hosted φ d) next' ≡ done_hosted φ (and_then d next)
    by_case (Gives v m) = k v m
    by_case (Throws v m) = refl
    by_case (Returns v m) = refl
    by_case (OutOfFuel m) = refl

pub or_catch-follows : {H K : Type 0} (φ : H → K) (d : Done H) (d' : Done K) (next : Value → Machine H → Done H) (next' : Value → Machine K → Done K) → d' ≡ done_hosted φ d → ((v : Value) → Follows φ (next v) (next' v)) → or_catch d' next' ≡ done_hosted φ (or_catch d next)
or_catch-follows φ d d' next next' e k = ap (λ x. or_catch x next') e ∙ by_case d
  where
    by_case : (d : Done _) → or_catch (done_hosted φ d) next' ≡ done_hosted φ (or_catch d next)
    by_case (Gives v m) = refl
    by_case (Throws v m) = k v m
    by_case (Returns v m) = refl
    by_case (OutOfFuel m) = refl

pub afterwards-follows : {H K : Type 0} (φ : H → K) (d : Done H) (d' : Done K) (next : Machine H → Done H) (next' : Machine K → Done K) → d' ≡ done_hosted φ d → Follows φ next next' → afterwards d' next' ≡ done_hosted φ (afterwards d next)
afterwards-follows φ d d' next next' e k = ap (λ x. afterwards x next') e ∙ by_case d
  where
    by_case : (d : Done _) → afterwards (done_hosted φ d) next' ≡ done_hosted φ (afterwards d next)
    by_case (Gives v m) = k m
    by_case (Throws v m) = k m
    by_case (Returns v m) = k m
    by_case (OutOfFuel m) = refl

pub given-follows : {H K X : Type 0} (φ : H → K) (o : Option X) (fault : FaultName) (next : X → Machine H → Done H) (next' : X → Machine K → Done K) → ((x : X) → Follows φ (next x) (next' x)) → Follows φ (λ m. given o fault m next) (λ m. given o fault m next')
given-follows φ None fault next next' k m = refl
given-follows φ (Some x) fault next next' k m = k x m

pub branch-follows : {H K : Type 0} (φ : H → K) (b : Bool) (then else : Machine H → Done H) (then' else' : Machine K → Done K) → Follows φ then then' → Follows φ else else' → Follows φ (λ m. branch b m then else) (λ m. branch b m then' else')
branch-follows φ true then else then' else' p q m = p m
branch-follows φ false then else then' else' p q m = q m

pub take_unit-follows : {H K : Type 0} (φ : H → K) (next : Machine H → Done H) (next' : Machine K → Done K) → Follows φ next next' → Follows φ (λ m. take_unit m next) (λ m. take_unit m next')
take_unit-follows φ next next' k m = by_fuel m.fuel
  where
    by_fuel : (n : ℕ) → with_fuel n (hosted φ m) next' ≡ done_hosted φ (with_fuel n m next)
    by_fuel zero = refl
    by_fuel (suc n) = k (record m { fuel = n })

pub tested-follows : {H K : Type 0} (φ : H → K) (v : Value) (then else : Machine H → Done H) (then' else' : Machine K → Done K) → Follows φ then then' → Follows φ else else' → Follows φ (λ m. tested v m then else) (λ m. tested v m then' else')
tested-follows φ v then else then' else' p q = given-follows φ (bool_in v) TypeError _ _ (λ b. branch-follows φ b then else then' else' p q)

-- what a choice between ways that follow does
cond-follows : {H K : Type 0} (φ : H → K) (b : Bool) (d e : Done H) (d' e' : Done K) → d' ≡ done_hosted φ d → e' ≡ done_hosted φ e → cond b d' e' ≡ done_hosted φ (cond b d e)
cond-follows φ true d e d' e' p q = p
cond-follows φ false d e d' e' p q = q

-- what an operator or a pure operation answers
pub answered-follows : {H K : Type 0} (φ : H → K) (a : Answer) → Follows φ (answered a) (answered a)
answered-follows φ (Ok v) m = refl
answered-follows φ (Err name) m = refl

hosted-cond : {H K : Type 0} (φ : H → K) (b : Bool) (m n : Machine H) → cond b (hosted φ m) (hosted φ n) ≡ hosted φ (cond b m n)
hosted-cond φ true m n = refl
hosted-cond φ false m n = refl

assigned-hosted : {H K : Type 0} (φ : H → K) (m : Machine H) (x : List ℕ) (v : Value) → assigned (hosted φ m) x v ≡ hosted φ (assigned m x v)
assigned-hosted φ m x v =
    hosted-cond φ (is_there (value_in (locals m.open_calls) x)) (record m { open_calls = with_local m.open_calls x v }) (record m { globals = with_value_in m.globals x v })

-- the value that a name has
named_value-same : {H K : Type 0} (φ : H → K) (program : Program) (m : Machine H) (x : List ℕ) → named_value program (hosted φ m) x ≡ named_value program m x
named_value-same φ program m x = refl

pub called-follows : {H K : Type 0} (φ : H → K) (call : Caller H) (call' : Caller K) → CallsFollow φ call call' → (v : Value) (args : List Value) → Follows φ (called call v args) (called call' v args)
called-follows φ call call' c v args = given-follows φ (func_in v) TypeError _ _ (λ f. c f.function (items_of f.bound ++ args))

abbrev pub around_of : {H : Type 0} → Program → Caller H → (Op → List Value → Machine H → Done H) → Around H
around_of program call operate = record { program = program; call = call; operate = operate }

module _ {H K : Type 0} (φ : H → K) (program : Program) (call : Caller H) (call' : Caller K) (operate : Op → List Value → Machine H → Done H) (operate' : Op → List Value → Machine K → Done K) (calls_follow : CallsFollow φ call call') (operate_follow : OperateFollow φ operate operate') where
  abbrev w : Around H
  w = around_of program call operate

  abbrev w' : Around K
  w' = around_of program call' operate'

  call_of-follows : (x : List ℕ) (before : Machine H) (args : List Value) → Follows φ (call_of w x before args) (call_of w' x (hosted φ before) args)
  call_of-follows x before args = by_name (op_named x)
    where
      by_name : (o : Option Op) → Follows φ (λ m. elim o [ Some op ↦ operate op args m | None ↦ given (named_value program before x) TypeError m (λ f m. called call f args m) ]) (λ m. elim o [ Some op ↦ operate' op args m | None ↦ given (named_value program before x) TypeError m (λ f m. called call' f args m) ])
      by_name None = given-follows φ (named_value program before x) TypeError _ _ (λ f. called-follows φ call call' calls_follow f args)
      by_name (Some op) = operate_follow op args

  mutual
    eval-follows : (e : Expr) → Follows φ (eval w e) (eval w' e)
    eval-follows (Or e es) m = and_then-follows φ _ _ _ _ (eval-follows e m) (λ v. tested-follows φ v _ _ _ _ (λ m. refl) (or-follows es))
    eval-follows (And e es) m = and_then-follows φ _ _ _ _ (eval-follows e m) (λ v. tested-follows φ v _ _ _ _ (and-follows es) (λ m. refl))
    eval-follows (Compare a sign b) m = and_then-follows φ _ _ _ _ (eval-follows a m) (λ x m. and_then-follows φ _ _ _ _ (eval-follows b m) (λ y. answered-follows φ (compare_answer sign x y)))
    eval-follows (Sum e parts) m = and_then-follows φ _ _ _ _ (eval-follows e m) (sum-follows parts)
    eval-follows (Product e parts) m = and_then-follows φ _ _ _ _ (eval-follows e m) (product-follows parts)
    eval-follows (Unary sign e) m = and_then-follows φ _ _ _ _ (eval-follows e m) (λ x. answered-follows φ (unary_answer sign x))
    eval-follows (Post e places) m = and_then-follows φ _ _ _ _ (eval-follows e m) (places-follow places)
    eval-follows (Number i) m = refl
    eval-follows (TextLiteral bs) m = refl
    eval-follows TrueLiteral m = refl
    eval-follows FalseLiteral m = refl
    eval-follows UnitLiteral m = refl
    eval-follows (Name x) m = given-follows φ (named_value program m x.name) TypeError Gives Gives (λ v m. refl) m
    eval-follows (Call f args) m = all-follow args [] _ _ (call_of-follows f.name m) m
    eval-follows (Paren e) m = eval-follows e m
    eval-follows (ListLiteral es) m = all-follow es [] _ _ (λ vs. answered-follows φ (limited_value (ListValue (values_of vs)))) m

    or-follows : (es : Exprs) → Follows φ (eval_or w es) (eval_or w' es)
    or-follows no_exprs m = refl
    or-follows (with_expr e es) m = and_then-follows φ _ _ _ _ (eval-follows e m) (λ v. tested-follows φ v _ _ _ _ (λ m. refl) (or-follows es))

    and-follows : (es : Exprs) → Follows φ (eval_and w es) (eval_and w' es)
    and-follows no_exprs m = refl
    and-follows (with_expr e es) m = and_then-follows φ _ _ _ _ (eval-follows e m) (λ v. tested-follows φ v _ _ _ _ (and-follows es) (λ m. refl))

    all-follow : (es : Exprs) (vs : List Value) (next : List Value → Machine H → Done H) (next' : List Value → Machine K → Done K) → ((vs : List Value) → Follows φ (next vs) (next' vs)) → Follows φ (eval_all w es vs next) (eval_all w' es vs next')
    all-follow no_exprs vs next next' k m = k vs m
    all-follow (with_expr e es) vs next next' k m = and_then-follows φ _ _ _ _ (eval-follows e m) (λ v. all-follow es (vs ++ v ∷ []) next next' k)

    places-follow : (es : Exprs) (v : Value) → Follows φ (eval_places w es v) (eval_places w' es v)
    places-follow no_exprs v m = refl
    places-follow (with_expr e es) v m = and_then-follows φ _ _ _ _ (eval-follows e m) (λ i m. and_then-follows φ _ _ _ _ (answered-follows φ (item_answer v i) m) (places-follow es))

    sum-follows : (parts : SumParts) (v : Value) → Follows φ (eval_sum w parts v) (eval_sum w' parts v)
    sum-follows no_terms v m = refl
    sum-follows (with_term sign e parts) v m = and_then-follows φ _ _ _ _ (eval-follows e m) (λ x m. and_then-follows φ _ _ _ _ (answered-follows φ (sum_answer sign v x) m) (sum-follows parts))

    product-follows : (parts : ProductParts) (v : Value) → Follows φ (eval_product w parts v) (eval_product w' parts v)
    product-follows no_factors v m = refl
    product-follows (with_factor sign e parts) v m = and_then-follows φ _ _ _ _ (eval-follows e m) (λ x m. and_then-follows φ _ _ _ _ (answered-follows φ (product_answer sign v x) m) (product-follows parts))

  loop_turns-follows : (n : ℕ) (test body : Machine H → Done H) (test' body' : Machine K → Done K) → Follows φ test test' → Follows φ body body' → Follows φ (loop_turns n test body) (loop_turns n test' body')
  loop_turns-follows zero test body test' body' p q m = refl
  loop_turns-follows (suc n) test body test' body' p q m =
      and_then-follows φ _ _ _ _ (p m) (λ v. tested-follows φ v _ _ _ _ (take_unit-follows φ _ _ (λ m. and_then-follows φ _ _ _ _ (q m) (λ u. loop_turns-follows n test body test' body' p q))) (λ m. refl))

  opt_eval-follows : (e : Option Expr) → Follows φ (opt_eval w e) (opt_eval w' e)
  opt_eval-follows None m = refl
  opt_eval-follows (Some e) m = and_then-follows φ _ _ Returns Returns (eval-follows e m) (λ v m. refl)

  finish_assigned-follows : (x : List ℕ) (v : Value) → Follows φ (λ m. finish (assigned m x v)) (λ m. finish (assigned m x v))
  finish_assigned-follows x v m = ap finish (assigned-hosted φ m x v)

  mutual
    exec-follows : (s : Stmt) → Follows φ (exec w s) (exec w' s)
    exec-follows (VarStmt x e) m = and_then-follows φ _ _ _ _ (eval-follows e m) (finish_assigned-follows x.name)
    exec-follows (AssignStmt x e) m = and_then-follows φ _ _ _ _ (eval-follows e m) (finish_assigned-follows x.name)
    exec-follows (ExprStmt e) m = and_then-follows φ _ _ _ _ (eval-follows e m) (λ v m. refl)
    exec-follows (IfStmt e block others last) m = and_then-follows φ _ _ _ _ (eval-follows e m) (λ v. tested-follows φ v _ _ _ _ (block-follows block) (others-follow others _ _ (else-follows last)))
    exec-follows (WhileStmt e block) m = loop_turns-follows (suc m.fuel) (eval w e) (exec_block w block) (eval w' e) (exec_block w' block) (eval-follows e) (block-follows block) m
    exec-follows (ReturnStmt e) m = opt_eval-follows e m
    exec-follows (ThrowStmt e) m = and_then-follows φ _ _ Throws Throws (eval-follows e m) (λ v m. refl)
    exec-follows (TryStmt block x handler) m = or_catch-follows φ _ _ _ _ (block-follows block m) (λ v m. ap (exec_block w' handler) (assigned-hosted φ m x.name v) ∙ block-follows handler (assigned m x.name v))

    block-follows : (b : Block) → Follows φ (exec_block w b) (exec_block w' b)
    block-follows no_stmts m = refl
    block-follows (with_stmt s rest) m = and_then-follows φ _ _ _ _ (exec-follows s m) (λ u. block-follows rest)

    others-follow : (others : ElseIfs) (last : Machine H → Done H) (last' : Machine K → Done K) → Follows φ last last' → Follows φ (exec_others w others last) (exec_others w' others last')
    others-follow no_else_ifs last last' k m = k m
    others-follow (with_else_if e block others) last last' k m = and_then-follows φ _ _ _ _ (eval-follows e m) (λ v. tested-follows φ v _ _ _ _ (block-follows block) (others-follow others last last' k))

    else-follows : (last : ElsePart) → Follows φ (exec_else w last) (exec_else w' last)
    else-follows no_else m = refl
    else-follows (else_block block) m = block-follows block m

  end_of_call-follows : (d : Done H) (d' : Done K) → d' ≡ done_hosted φ d → end_of_call d' ≡ done_hosted φ (end_of_call d)
  end_of_call-follows d d' e = ap end_of_call e ∙ by_case d
    where
      by_case : (d : Done H) → end_of_call (done_hosted φ d) ≡ done_hosted φ (end_of_call d)
      by_case (Gives v m) = refl
      by_case (Throws v m) = refl
      by_case (Returns v m) = refl
      by_case (OutOfFuel m) = refl

  body_of_call-follows : (f : Option Function) (args : List Value) → Follows φ (body_of_call w f args) (body_of_call w' f args)
  body_of_call-follows None args m = end_of_call-follows _ _ (block-follows (own_body program.items) (opened [] m))
  body_of_call-follows (Some f) args m =
      end_of_call-follows _ _ (block-follows f.body (opened (parameters_with f.parameters args ++ unit_variables (names_in f.body)) m))

-- where the operations follow whenever the callers do, a script's calls follow
pub calls-follow : {H K : Type 0} (φ : H → K) (program : Program) (operations : Operations H) (operations' : Operations K) → ((n : ℕ) → CallsFollow φ (calls program operations n) (calls program operations' n) → OperateFollow φ (operations (calls program operations n)) (operations' (calls program operations' n))) → (n : ℕ) → CallsFollow φ (calls program operations n) (calls program operations' n)
calls-follow φ program operations operations' o zero f args m = refl
calls-follow φ program operations operations' o (suc n) f args m =
    let before = calls-follow φ program operations operations' o n in
    take_unit-follows φ _ _ (body_of_call-follows φ program (calls program operations n) (calls program operations' n) (operations (calls program operations n)) (operations' (calls program operations' n)) before (o n before) (slice_get (functions_of program.items) f) args) m
