-- What the host tells at an ask comes before what it tells at the end, in any order that its rules keep.
use Rattle.std.proofs.Common.{◌≡◌, ℕ, zero, suc, Bool, true, false, List, [], ◌∷◌, ◌++◌, Option, Some, None, refl, sym, ap, ◌∙◌, subst, cond, slice_get, Ok, Err}
use Rattle.page_types.specs.declared.FaultName.{FaultName}
use Rattle.page_types.specs.Values.{Value, UnitValue, BoolValue, IntValue, TextValue, FaultValue, ListValue, values_of, items_of}
use Rattle.page_types.specs.declared.FaultName.TheVariants.{TypeError, RangeError}
use Rattle.page_types.specs.Tree.{Expr, Or, And, Compare, Sum, Product, Unary, Post, Number, TextLiteral, TrueLiteral, FalseLiteral, UnitLiteral, Name, Call, Paren, ListLiteral, Exprs, no_exprs, with_expr, SumParts, no_terms, with_term, ProductParts, no_factors, with_factor, Stmt, VarStmt, AssignStmt, ExprStmt, IfStmt, WhileStmt, ReturnStmt, ThrowStmt, TryStmt, Block, no_stmts, with_stmt, ElseIfs, no_else_ifs, with_else_if, ElsePart, no_else, else_block, Program}
use Rattle.page_types.specs.declared.Op.{Op}
use Rattle.page_parts.specs.Words.{is_there}
use Rattle.page_parts.specs.Kinds.{func_in, bool_in}
use Rattle.lang_meaning.specs.Machine.{done_hosted, Machine, Done, Gives, Throws, Returns, OutOfFuel, and_then, or_catch, given, branch, with_fuel, take_unit, finish, value_in, locals, assigned, with_local, with_value_in, Caller}
use Rattle.lang_meaning.specs.OpNames.{op_named}
use Rattle.lang_meaning.specs.Evaluation.{Around, Answer, answered, sum_answer, product_answer, compare_answer, unary_answer, item_answer, limited_value, tested, Function, own_body, named_value, called, call_of, eval, eval_or, eval_and, eval_all, eval_places, eval_sum, eval_product, loop_turns, opt_eval, exec, exec_block, exec_others, exec_else, opened, unit_variables, names_in, parameters_with, closed, end_of_call, body_of_call, around, calls, functions_of}
use Rattle.lang_meaning.specs.HostSteps.{HostStep, StepValue, StepThrow, StepInvoke, CallbackEnd, CallbackValue, CallbackThrow, HostRules, Ask, AskOp, AskResume, on_ask, with_host, after_callback, steps_by, asked_by, most_callbacks, is_busy, host_operations}
use Rattle.lang_meaning.specs.Asks.{Limited, limited_host, limited, stopped_at, ask_limited, limited_operations, Reaches, IsPassed, unasked, after_ask, IsRefused, IsWithin, host_after, IsKept}
use Rattle.lang_meaning.proofs.Unlimited.{unlimited-follows}

-- where the limited script is when the other one has come to its end: at the same end, or left at an ask
data Cut {H : Type 0} (rules : HostRules H) (order : H → H → Type 0) (d : Done (Limited H)) (x : Done H) : Type 0 where
  together : (j : ℕ) → d ≡ done_hosted (limited_host (Some j)) x → Cut rules order d x
  cut : (ask : Ask) (before : H) (s : Machine (Limited H)) → d ≡ OutOfFuel s → s.host ≡ stopped_at ask before → order (on_ask rules ask before).host (host_after x) → Cut rules order d x

-- the limited script and the other one, from the host h on
record Tracks {H : Type 0} (rules : HostRules H) (order : H → H → Type 0) (h : H) (d d' : Done (Limited H)) : Type 0 where
  x : Done H
  full : d' ≡ done_hosted (limited_host None) x
  grows : order h (host_after x)
  at : Cut rules order d x

-- a script stops where a part of it stops
record StopsToo {H : Type 0} (c : Done (Limited H) → Done (Limited H)) (s : Machine (Limited H)) : Type 0 where
  state : Machine (Limited H)
  stops : c (OutOfFuel s) ≡ OutOfFuel state
  host : state.host ≡ s.host

module _ {H : Type 0} (rules : HostRules H) (order : H → H → Type 0) (k : IsKept rules order) where
  abbrev Law : (Machine (Limited H) → Done (Limited H)) → (Machine (Limited H) → Done (Limited H)) → Type 0
  Law f g = (n : ℕ) (m : Machine H) → Tracks rules order m.host (f (limited (Some n) m)) (g (limited None m))

  goes_on : (h : H) (d d' : Done (Limited H)) (c c' : Done (Limited H) → Done (Limited H)) → Tracks rules order h d d' → ((s : Machine (Limited H)) → StopsToo c s)
      → ((x : Done H) (j : ℕ) → Tracks rules order (host_after x) (c (done_hosted (limited_host (Some j)) x)) (c' (done_hosted (limited_host None) x))) → Tracks rules order h (c d) (c' d')
  goes_on h d d' c c' t stops ends = by t.at
    where
      by : Cut rules order d t.x → Tracks rules order h (c d) (c' d')
      by (together j p) = let y = ends t.x j in record { x = y.x; full = ap c' t.full ∙ y.full; grows = k.both _ _ _ t.grows y.grows; at = subst (λ d. Cut rules order d y.x) (sym (ap c p)) y.at }
      by (cut ask before s p q o) =
          let y = ends t.x 0 in
          let z = stops s in
          record { x = y.x; full = ap c' t.full ∙ y.full; grows = k.both _ _ _ t.grows y.grows; at = cut ask before z.state (ap c p ∙ z.stops) (z.host ∙ q) (k.both _ _ _ o y.grows) }

  -- both at the same end
  ended : (x : Done H) (j : ℕ) → Tracks rules order (host_after x) (done_hosted (limited_host (Some j)) x) (done_hosted (limited_host None) x)
  ended x j = record { x = x; full = refl; grows = k.same _; at = together j refl }

  and_then-law : (h : H) (d d' : Done (Limited H)) (next next' : Value → Machine (Limited H) → Done (Limited H)) → Tracks rules order h d d' → ((v : Value) → Law (next v) (next' v)) → Tracks rules order h (and_then d next) (and_then d' next')
  and_then-law h d d' next next' t l = goes_on h d d' (λ d. and_then d next) (λ d. and_then d next') t (λ s. record { state = s; stops = refl; host = refl }) by
    where
      by : (x : Done H) (j : ℕ) → Tracks rules order (host_after x) (and_then (done_hosted (limited_host (Some j)) x) next) (and_then (done_hosted (limited_host None) x) next')
      by (Gives v m) j = l v j m
      by (Throws v m) j = ended (Throws v m) j
      by (Returns v m) j = ended (Returns v m) j
      by (OutOfFuel m) j = ended (OutOfFuel m) j

  or_catch-law : (h : H) (d d' : Done (Limited H)) (handle handle' : Value → Machine (Limited H) → Done (Limited H)) → Tracks rules order h d d' → ((v : Value) → Law (handle v) (handle' v)) → Tracks rules order h (or_catch d handle) (or_catch d' handle')
  or_catch-law h d d' handle handle' t l = goes_on h d d' (λ d. or_catch d handle) (λ d. or_catch d handle') t (λ s. record { state = s; stops = refl; host = refl }) by
    where
      by : (x : Done H) (j : ℕ) → Tracks rules order (host_after x) (or_catch (done_hosted (limited_host (Some j)) x) handle) (or_catch (done_hosted (limited_host None) x) handle')
      by (Gives v m) j = ended (Gives v m) j
      by (Throws v m) j = l v j m
      by (Returns v m) j = ended (Returns v m) j
      by (OutOfFuel m) j = ended (OutOfFuel m) j

  end_of_call-law : (h : H) (d d' : Done (Limited H)) → Tracks rules order h d d' → Tracks rules order h (end_of_call d) (end_of_call d')
  end_of_call-law h d d' t = goes_on h d d' end_of_call end_of_call t (λ s. record { state = closed s; stops = refl; host = refl }) by
    where
      by : (x : Done H) (j : ℕ) → Tracks rules order (host_after x) (end_of_call (done_hosted (limited_host (Some j)) x)) (end_of_call (done_hosted (limited_host None) x))
      by (Gives v m) j = ended (Gives UnitValue (closed m)) j
      by (Throws v m) j = ended (Throws v (closed m)) j
      by (Returns v m) j = ended (Gives v (closed m)) j
      by (OutOfFuel m) j = ended (OutOfFuel (closed m)) j

  after_callback-law : (h : H) (d d' : Done (Limited H)) (next next' : ℕ → CallbackEnd → Machine (Limited H) → Done (Limited H)) (t : ℕ) → Tracks rules order h d d' → ((end : CallbackEnd) → Law (next t end) (next' t end)) → Tracks rules order h (after_callback next t d) (after_callback next' t d')
  after_callback-law h d d' next next' t s l = goes_on h d d' (after_callback next t) (after_callback next' t) s (λ s. record { state = s; stops = refl; host = refl }) by
    where
      by : (x : Done H) (j : ℕ) → Tracks rules order (host_after x) (after_callback next t (done_hosted (limited_host (Some j)) x)) (after_callback next' t (done_hosted (limited_host None) x))
      by (Gives v m) j = l (CallbackValue v) j m
      by (Throws v m) j = l (CallbackThrow v) j m
      by (Returns v m) j = l (CallbackValue v) j m
      by (OutOfFuel m) j = ended (OutOfFuel m) j

  given-law : {X : Type 0} (o : Option X) (fault : FaultName) (next next' : X → Machine (Limited H) → Done (Limited H)) → ((x : X) → Law (next x) (next' x)) → Law (λ m. given o fault m next) (λ m. given o fault m next')
  given-law None fault next next' l n m = ended (Throws (FaultValue fault []) m) n
  given-law (Some x) fault next next' l n m = l x n m

  branch-law : (b : Bool) (then else then' else' : Machine (Limited H) → Done (Limited H)) → Law then then' → Law else else' → Law (λ m. branch b m then else) (λ m. branch b m then' else')
  branch-law true then else then' else' p q n m = p n m
  branch-law false then else then' else' p q n m = q n m

  take_unit-law : (next next' : Machine (Limited H) → Done (Limited H)) → Law next next' → Law (λ m. take_unit m next) (λ m. take_unit m next')
  take_unit-law next next' l n m = by m.fuel
    where
      by : (fuel : ℕ) → Tracks rules order m.host (with_fuel fuel (limited (Some n) m) next) (with_fuel fuel (limited None m) next')
      by zero = ended (OutOfFuel m) n
      by (suc fuel) = l n (record m { fuel = fuel })

  tested-law : (v : Value) (then else then' else' : Machine (Limited H) → Done (Limited H)) → Law then then' → Law else else' → Law (λ m. tested v m then else) (λ m. tested v m then' else')
  tested-law v then else then' else' p q = given-law (bool_in v) TypeError _ _ (λ b. branch-law b then else then' else' p q)

  answered-law : (a : Answer) → Law (answered a) (answered a)
  answered-law (Ok v) n m = ended (Gives v m) n
  answered-law (Err name) n m = ended (Throws (FaultValue name []) m) n

  finish_assigned-law : (x : List ℕ) (v : Value) → Law (λ m. finish (assigned m x v)) (λ m. finish (assigned m x v))
  finish_assigned-law x v n m = by (is_there (value_in (locals m.open_calls) x))
    where
      by : (b : Bool) → Tracks rules order m.host (finish (cond b (record (limited (Some n) m) { open_calls = with_local m.open_calls x v }) (record (limited (Some n) m) { globals = with_value_in m.globals x v }))) (finish (cond b (record (limited None m) { open_calls = with_local m.open_calls x v }) (record (limited None m) { globals = with_value_in m.globals x v })))
      by true = ended (finish (record m { open_calls = with_local m.open_calls x v })) n
      by false = ended (finish (record m { globals = with_value_in m.globals x v })) n

  after_assigned-law : (x : List ℕ) (v : Value) (f : Machine (Limited H) → Done (Limited H)) → Law f f → Law (λ m. f (assigned m x v)) (λ m. f (assigned m x v))
  after_assigned-law x v f l n m = by (is_there (value_in (locals m.open_calls) x))
    where
      by : (b : Bool) → Tracks rules order m.host (f (cond b (record (limited (Some n) m) { open_calls = with_local m.open_calls x v }) (record (limited (Some n) m) { globals = with_value_in m.globals x v }))) (f (cond b (record (limited None m) { open_calls = with_local m.open_calls x v }) (record (limited None m) { globals = with_value_in m.globals x v })))
      by true = l n (record m { open_calls = with_local m.open_calls x v })
      by false = l n (record m { globals = with_value_in m.globals x v })

  module _ (w : Around (Limited H)) (calls_law : (f : ℕ) (args : List Value) → Law (w.call f args) (w.call f args)) (operate_law : (op : Op) (args : List Value) → Law (w.operate op args) (w.operate op args)) where
    called-law : (v : Value) (args : List Value) → Law (called w.call v args) (called w.call v args)
    called-law v args = given-law (func_in v) TypeError _ _ (λ f. calls_law f.function (items_of f.bound ++ args))

    call_of-law : (i : ℕ) (x : List ℕ) (before : Machine H) (args : List Value) → Law (call_of w x (limited (Some i) before) args) (call_of w x (limited None before) args)
    call_of-law i x before args = by_name (op_named x)
      where
        by_name : (o : Option Op) → Law (λ m. elim o [ Some op ↦ w.operate op args m | None ↦ given (named_value w.program before x) TypeError m (λ f m. called w.call f args m) ]) (λ m. elim o [ Some op ↦ w.operate op args m | None ↦ given (named_value w.program before x) TypeError m (λ f m. called w.call f args m) ])
        by_name None = given-law (named_value w.program before x) TypeError _ _ (λ f. called-law f args)
        by_name (Some op) = operate_law op args

    mutual
      eval-law : (e : Expr) → Law (eval w e) (eval w e)
      eval-law (Or e es) n m = and_then-law _ _ _ _ _ (eval-law e n m) (λ v. tested-law v _ _ _ _ (λ n m. ended (Gives (BoolValue true) m) n) (or-law es))
      eval-law (And e es) n m = and_then-law _ _ _ _ _ (eval-law e n m) (λ v. tested-law v _ _ _ _ (and-law es) (λ n m. ended (Gives (BoolValue false) m) n))
      eval-law (Compare a sign b) n m = and_then-law _ _ _ _ _ (eval-law a n m) (λ x n m. and_then-law _ _ _ _ _ (eval-law b n m) (λ y. answered-law (compare_answer sign x y)))
      eval-law (Sum e parts) n m = and_then-law _ _ _ _ _ (eval-law e n m) (sum-law parts)
      eval-law (Product e parts) n m = and_then-law _ _ _ _ _ (eval-law e n m) (product-law parts)
      eval-law (Unary sign e) n m = and_then-law _ _ _ _ _ (eval-law e n m) (λ x. answered-law (unary_answer sign x))
      eval-law (Post e places) n m = and_then-law _ _ _ _ _ (eval-law e n m) (places-law places)
      eval-law (Number i) n m = ended (Gives (IntValue i) m) n
      eval-law (TextLiteral bs) n m = ended (Gives (TextValue bs) m) n
      eval-law TrueLiteral n m = ended (Gives (BoolValue true) m) n
      eval-law FalseLiteral n m = ended (Gives (BoolValue false) m) n
      eval-law UnitLiteral n m = ended (Gives UnitValue m) n
      eval-law (Name x) n m = given-law (named_value w.program m x.name) TypeError Gives Gives (λ v n m. ended (Gives v m) n) n m
      eval-law (Call f args) n m = all-law args [] _ _ (call_of-law n f.name m) n m
      eval-law (Paren e) n m = eval-law e n m
      eval-law (ListLiteral es) n m = all-law es [] _ _ (λ vs. answered-law (limited_value (ListValue (values_of vs)))) n m

      or-law : (es : Exprs) → Law (eval_or w es) (eval_or w es)
      or-law no_exprs n m = ended (Gives (BoolValue false) m) n
      or-law (with_expr e es) n m = and_then-law _ _ _ _ _ (eval-law e n m) (λ v. tested-law v _ _ _ _ (λ n m. ended (Gives (BoolValue true) m) n) (or-law es))

      and-law : (es : Exprs) → Law (eval_and w es) (eval_and w es)
      and-law no_exprs n m = ended (Gives (BoolValue true) m) n
      and-law (with_expr e es) n m = and_then-law _ _ _ _ _ (eval-law e n m) (λ v. tested-law v _ _ _ _ (and-law es) (λ n m. ended (Gives (BoolValue false) m) n))

      all-law : (es : Exprs) (vs : List Value) (next next' : List Value → Machine (Limited H) → Done (Limited H)) → ((vs : List Value) → Law (next vs) (next' vs)) → Law (eval_all w es vs next) (eval_all w es vs next')
      all-law no_exprs vs next next' l n m = l vs n m
      all-law (with_expr e es) vs next next' l n m = and_then-law _ _ _ _ _ (eval-law e n m) (λ v. all-law es (vs ++ v ∷ []) next next' l)

      places-law : (es : Exprs) (v : Value) → Law (eval_places w es v) (eval_places w es v)
      places-law no_exprs v n m = ended (Gives v m) n
      places-law (with_expr e es) v n m = and_then-law _ _ _ _ _ (eval-law e n m) (λ i n m. and_then-law _ _ _ _ _ (answered-law (item_answer v i) n m) (places-law es))

      sum-law : (parts : SumParts) (v : Value) → Law (eval_sum w parts v) (eval_sum w parts v)
      sum-law no_terms v n m = ended (Gives v m) n
      sum-law (with_term sign e parts) v n m = and_then-law _ _ _ _ _ (eval-law e n m) (λ x n m. and_then-law _ _ _ _ _ (answered-law (sum_answer sign v x) n m) (sum-law parts))

      product-law : (parts : ProductParts) (v : Value) → Law (eval_product w parts v) (eval_product w parts v)
      product-law no_factors v n m = ended (Gives v m) n
      product-law (with_factor sign e parts) v n m = and_then-law _ _ _ _ _ (eval-law e n m) (λ x n m. and_then-law _ _ _ _ _ (answered-law (product_answer sign v x) n m) (product-law parts))

    loop_turns-law : (turns : ℕ) (test body : Machine (Limited H) → Done (Limited H)) → Law test test → Law body body → Law (loop_turns turns test body) (loop_turns turns test body)
    loop_turns-law zero test body p q n m = ended (OutOfFuel m) n
    loop_turns-law (suc turns) test body p q n m =
        and_then-law _ _ _ _ _ (p n m) (λ v. tested-law v _ _ _ _ (take_unit-law _ _ (λ n m. and_then-law _ _ _ _ _ (q n m) (λ u. loop_turns-law turns test body p q))) (λ n m. ended (finish m) n))

    opt_eval-law : (e : Option Expr) → Law (opt_eval w e) (opt_eval w e)
    opt_eval-law None n m = ended (Returns UnitValue m) n
    opt_eval-law (Some e) n m = and_then-law _ _ _ Returns Returns (eval-law e n m) (λ v n m. ended (Returns v m) n)

    mutual
      exec-law : (s : Stmt) → Law (exec w s) (exec w s)
      exec-law (VarStmt x e) n m = and_then-law _ _ _ _ _ (eval-law e n m) (finish_assigned-law x.name)
      exec-law (AssignStmt x e) n m = and_then-law _ _ _ _ _ (eval-law e n m) (finish_assigned-law x.name)
      exec-law (ExprStmt e) n m = and_then-law _ _ _ _ _ (eval-law e n m) (λ v n m. ended (finish m) n)
      exec-law (IfStmt e block others last) n m = and_then-law _ _ _ _ _ (eval-law e n m) (λ v. tested-law v _ _ _ _ (block-law block) (others-law others (exec_else w last) (else-law last)))
      exec-law (WhileStmt e block) n m = loop_turns-law (suc m.fuel) (eval w e) (exec_block w block) (eval-law e) (block-law block) n m
      exec-law (ReturnStmt e) n m = opt_eval-law e n m
      exec-law (ThrowStmt e) n m = and_then-law _ _ _ Throws Throws (eval-law e n m) (λ v n m. ended (Throws v m) n)
      exec-law (TryStmt block x handler) n m = or_catch-law _ _ _ _ _ (block-law block n m) (λ v. after_assigned-law x.name v (exec_block w handler) (block-law handler))

      block-law : (b : Block) → Law (exec_block w b) (exec_block w b)
      block-law no_stmts n m = ended (finish m) n
      block-law (with_stmt s rest) n m = and_then-law _ _ _ _ _ (exec-law s n m) (λ u. block-law rest)

      others-law : (others : ElseIfs) (last : Machine (Limited H) → Done (Limited H)) → Law last last → Law (exec_others w others last) (exec_others w others last)
      others-law no_else_ifs last l n m = l n m
      others-law (with_else_if e block others) last l n m = and_then-law _ _ _ _ _ (eval-law e n m) (λ v. tested-law v _ _ _ _ (block-law block) (others-law others last l))

      else-law : (last : ElsePart) → Law (exec_else w last) (exec_else w last)
      else-law no_else n m = ended (finish m) n
      else-law (else_block block) n m = block-law block n m

    body_of_call-law : (f : Option Function) (args : List Value) → Law (body_of_call w f args) (body_of_call w f args)
    body_of_call-law None args n m = end_of_call-law _ _ _ (block-law (own_body w.program.items) n (opened [] m))
    body_of_call-law (Some f) args n m = end_of_call-law _ _ _ (block-law f.body n (opened (parameters_with f.parameters args ++ unit_variables (names_in f.body)) m))

  -- an ask, and what follows it
  ask-law : (ask : Ask) (next next' : HostStep → Machine (Limited H) → Done (Limited H)) → ((step : HostStep) → Law (next step) (next' step)) → Law (λ m. ask_limited rules ask m next) (λ m. ask_limited rules ask m next')
  ask-law ask next next' l zero m =
      let s = on_ask rules ask m.host in
      let y = l s.step 0 (with_host s.host m) in
      record { x = y.x; full = y.full; grows = k.both _ _ _ (k.asked ask m.host) y.grows; at = cut ask m.host _ refl refl y.grows }
  ask-law ask next next' l (suc n) m =
      let s = on_ask rules ask m.host in
      let y = l s.step n (with_host s.host m) in
      record { x = y.x; full = y.full; grows = k.both _ _ _ (k.asked ask m.host) y.grows; at = y.at }

  module _ (call : Caller (Limited H)) (calls_law : (f : ℕ) (args : List Value) → Law (call f args) (call f args)) where
    invoked-law : (f : Value) (args : List Value) → Law (called call f args) (called call f args)
    invoked-law v args = given-law (func_in v) TypeError _ _ (λ f. calls_law f.function (items_of f.bound ++ args))

    steps-law : (turns : ℕ) (step : HostStep) → Law (steps_by (ask_limited rules) call turns step) (steps_by (ask_limited rules) call turns step)
    steps-law zero (StepValue v) n m = ended (Gives v m) n
    steps-law zero (StepThrow v) n m = ended (Throws v m) n
    steps-law zero (StepInvoke f args t) n m = after_callback-law _ _ _ (λ t end m. OutOfFuel m) (λ t end m. OutOfFuel m) t (invoked-law f args n m) (λ end n m. ended (OutOfFuel m) n)
    steps-law (suc turns) (StepValue v) n m = ended (Gives v m) n
    steps-law (suc turns) (StepThrow v) n m = ended (Throws v m) n
    steps-law (suc turns) (StepInvoke f args t) n m =
        after_callback-law _ _ _ (λ t end m. ask_limited rules (AskResume t end) m (steps_by (ask_limited rules) call turns)) (λ t end m. ask_limited rules (AskResume t end) m (steps_by (ask_limited rules) call turns)) t (invoked-law f args n m)
        (λ end. ask-law (AskResume t end) (steps_by (ask_limited rules) call turns) (steps_by (ask_limited rules) call turns) (steps-law turns))

    asked-law : (op : Op) (args : List Value) → Law (asked_by (ask_limited rules) call op args) (asked_by (ask_limited rules) call op args)
    asked-law op args n m = ask-law (AskOp op args) (steps_by (ask_limited rules) call (most_callbacks m)) (steps_by (ask_limited rules) call (most_callbacks m)) (steps-law (most_callbacks m)) n m

    operations-law : (op : Op) (args : List Value) → Law (limited_operations rules call op args) (limited_operations rules call op args)
    operations-law op args = branch-law (is_busy op) _ _ _ _ (take_unit-law _ _ (asked-law op args)) (asked-law op args)

  calls-law : (program : Program) (n f : ℕ) (args : List Value) → Law (calls program (limited_operations rules) n f args) (calls program (limited_operations rules) n f args)
  calls-law program zero f args n m = ended (Throws (FaultValue RangeError []) m) n
  calls-law program (suc i) f args n m =
      let call = calls program (limited_operations rules) i in
      take_unit-law _ _ (body_of_call-law (around program (limited_operations rules) call) (calls-law program i) (operations-law call (calls-law program i)) (slice_get (functions_of program.items) f) args) n m

  -- the end is that around the host itself
  end_after : (x y : Done H) → done_hosted (limited_host None) x ≡ done_hosted (limited_host None) y → host_after x ≡ host_after y
  end_after x y e = ap (λ h. h.host) (sym (same x) ∙ ap host_after e ∙ same y)
    where
      same : (x : Done H) → host_after (done_hosted (limited_host None) x) ≡ limited_host None (host_after x)
      same (Gives v m) = refl
      same (Throws v m) = refl
      same (Returns v m) = refl
      same (OutOfFuel m) = refl

  fuel_same : (s t : Machine (Limited H)) → OutOfFuel s ≡ OutOfFuel t → s ≡ t
  fuel_same s t e = ap state e
    where
      state : Done (Limited H) → Machine (Limited H)
      state (OutOfFuel m) = m
      state (Gives v m) = m
      state (Throws v m) = m
      state (Returns v m) = m

  not_together : (x : Done H) (j : ℕ) (s : Machine (Limited H)) (ask : Ask) (before : H) → done_hosted (limited_host (Some j)) x ≡ OutOfFuel s → s.host ≡ stopped_at ask before → ⊥
  not_together (Gives v m) j s ask before p q = cc
  not_together (Throws v m) j s ask before p q = cc
  not_together (Returns v m) j s ask before p q = cc
  not_together (OutOfFuel m) j s ask before p q =
      let r = ap (λ m. m.host.stop) (fuel_same _ s p) in
      let t = ap (λ h. h.stop) q in
      cc

  same_stop : (ask ask' : Ask) (a b : H) → stopped_at ask a ≡ stopped_at ask' b → (on_ask rules ask a).host ≡ (on_ask rules ask' b).host
  same_stop ask ask' a b e =
      let h : a ≡ b = ap (λ s. s.host) e in
      let stops : Some ask ≡ Some ask' = ap (λ s. s.stop) e in
      let same : ask ≡ ask' = cc in
      rw (same, h) refl

  -- the host after an ask comes before the host at the end
  pub asked-before : (program : Program) (most f : ℕ) (args : List Value) (m : Machine H) (n : ℕ) (ask : Ask) (before : H)
      → Reaches (calls program (limited_operations rules) most f args) m n ask before → order (on_ask rules ask before).host (host_after (calls program (host_operations rules) most f args m))
  asked-before program most f args m n ask before r = by t.at
    where
      t : Tracks rules order m.host (calls program (limited_operations rules) most f args (limited (Some n) m)) (calls program (limited_operations rules) most f args (limited None m))
      t = calls-law program most f args n m

      at_end : host_after t.x ≡ host_after (calls program (host_operations rules) most f args m)
      at_end = end_after t.x _ (sym t.full ∙ unlimited-follows rules program most f args m)

      by : Cut rules order (calls program (limited_operations rules) most f args (limited (Some n) m)) t.x → order (on_ask rules ask before).host (host_after (calls program (host_operations rules) most f args m))
      by (together j p) = absurd (not_together t.x j r.state ask before (sym p ∙ r.stops) r.host)
      by (cut ask' before' s p q o) =
          subst (λ h. order h (host_after (calls program (host_operations rules) most f args m))) (same_stop ask' ask before' before (sym q ∙ ap (λ s. s.host) (fuel_same s r.state (sym p ∙ r.stops)) ∙ r.host))
          (subst (λ h. order (on_ask rules ask' before').host h) at_end o)

  -- and so does the host before the first ask
  first-before : (program : Program) (most f : ℕ) (args : List Value) (m : Machine H) → order m.host (host_after (calls program (host_operations rules) most f args m))
  first-before program most f args m =
      let t = calls-law program most f args 0 m in
      subst (λ h. order m.host h) (end_after t.x _ (sym t.full ∙ unlimited-follows rules program most f args m)) t.grows

  pub passed-before : (program : Program) (most f : ℕ) (args : List Value) (m : Machine H) (told : H) → IsPassed rules (calls program (limited_operations rules) most f args) m told → order told (host_after (calls program (host_operations rules) most f args m))
  passed-before program most f args m told (unasked e) = rw e (first-before program most f args m)
  passed-before program most f args m told (after_ask n ask before r e) = rw e (asked-before program most f args m n ask before r)

  pub refused-before : (leaves : Ask → H → H → Type 0) → IsWithin rules leaves order → (program : Program) (most f : ℕ) (args : List Value) (m : Machine H) (told : H) → IsRefused leaves (calls program (limited_operations rules) most f args) m told → order told (host_after (calls program (host_operations rules) most f args m))
  refused-before leaves w program most f args m told r = k.both _ _ _ (w r.ask r.before told r.left) (asked-before program most f args m r.n r.ask r.before r.reached)
