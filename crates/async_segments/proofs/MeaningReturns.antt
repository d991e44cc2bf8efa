-- Statements of a segment do in its function what they do in the source, where `return` resolves the promise before.
use Rattle.std.proofs.Common.{◌≡◌, ℕ, zero, suc, Bool, true, false, List, [], ◌∷◌, Option, Some, None, refl, sym, ap, subst, ◌∙◌}
use Rattle.std.specs.Prelude.{codes}
use Rattle.page_types.specs.declared.FaultName.TheVariants.{TypeError}
use Rattle.page_types.specs.Values.{Value, UnitValue, PromiseValue}
use Rattle.page_types.specs.declared.Op.{Op}
use Rattle.page_types.specs.declared.Op.TheVariants.{ResolveOp}
use Rattle.page_types.specs.Tree.{Program, Expr, UnitLiteral, Name, no_exprs, with_expr, Stmt, VarStmt, AssignStmt, ExprStmt, IfStmt, WhileStmt, ReturnStmt, ThrowStmt, TryStmt, Block, no_stmts, with_stmt, ElseIfs, no_else_ifs, with_else_if, ElsePart, no_else, else_block}
use Rattle.page_parts.specs.Kinds.{bool_in}
use Rattle.lang_meaning.specs.Machine.{Machine, Done, Gives, Throws, Returns, OutOfFuel, and_then, or_catch, given, branch, with_fuel, take_unit, finish, value_in, locals, assigned, or_else}
use Rattle.lang_meaning.specs.Evaluation.{Around, functions_of, number_of, function_value, tested, call_of, eval, eval_all, loop_turns, exec, exec_block, exec_others, exec_else}
use Rattle.lang_meaning.specs.HostSteps.{HostRules, StepValue, with_host, steps_by, ask_host, asked_by, most_callbacks, is_busy, host_operations}
use Rattle.lang_meaning.specs.Evaluation.{calls}
use Rattle.async_segments.specs.Marked.{followed_by}
use Rattle.async_segments.specs.Names.{new_name, holds_lines}
use Rattle.async_segments.specs.Expanded.{one, resolves_and_returns, in_segment, all_in_segment, others_in_segment, else_in_segment}
use Rattle.async_segments.specs.Promising.{AnswersAtOnce}
use Rattle.async_segments.proofs.MeaningCalls.{IsStable, KeptBy, After, AllAssign, BlockAssigns, OthersAssign, ElseAssigns, around_at, calls-kept, operations-kept, eval-kept, exec-after, block-after, and_then-after}

-- a name of the source
abbrev pub IsOwn : List ℕ → Type 0
IsOwn x = holds_lines x ≡ false

-- a statement alone, and then nothing
abbrev pub alone : {H : Type 0} → Done H → Done H
alone d = and_then d (λ u m. finish m)

-- what returns still does after what comes next
pub returns-stay : {H : Type 0} (d : Done H) (v : Value) (next : Value → Machine H → Done H) → and_then (and_then d (λ u m. Returns v m)) next ≡ and_then d (λ u m. Returns v m)
returns-stay (Gives u m) v next = refl
returns-stay (Throws u m) v next = refl
returns-stay (Returns u m) v next = refl
returns-stay (OutOfFuel m) v next = refl

pub chained : {H : Type 0} (d : Done H) (f g : Value → Machine H → Done H) (h : Value → Machine H → Done H) → ((v : Value) (m : Machine H) → f v m ≡ and_then (g v m) h) → and_then d f ≡ and_then (and_then d g) h
chained (Gives v m) f g h k = k v m
chained (Throws v m) f g h k = refl
chained (Returns v m) f g h k = refl
chained (OutOfFuel m) f g h k = refl

pub alone-then : {H : Type 0} (d : Done H) (next : Machine H → Done H) → and_then (alone d) (λ u m. next m) ≡ and_then d (λ u m. next m)
alone-then (Gives v m) next = refl
alone-then (Throws v m) next = refl
alone-then (Returns v m) next = refl
alone-then (OutOfFuel m) next = refl

alone-returns : {H : Type 0} (d : Done H) → and_then (alone d) (λ u m. and_then (Returns UnitValue m) (λ u m. finish m)) ≡ and_then d (λ u m. Returns UnitValue m)
alone-returns (Gives v m) = refl
alone-returns (Throws v m) = refl
alone-returns (Returns v m) = refl
alone-returns (OutOfFuel m) = refl

-- statements behind others
pub followed : {H : Type 0} (w : Around H) (a b : Block) (m : Machine H) → exec_block w (followed_by a b) m ≡ and_then (exec_block w a m) (λ u m. exec_block w b m)
followed w no_stmts b m = refl
followed w (with_stmt s a) b m = chained (exec w s m) (λ u m. exec_block w (followed_by a b) m) (λ u m. exec_block w a m) (λ u m. exec_block w b m) (λ u m. followed w a b m)

module _ {H : Type 0} (rules : HostRules H) (program : Program) (n : ℕ) where
  steps-value : (k : ℕ) (v : Value) (m : Machine H) → steps_by (ask_host rules) (calls program (host_operations rules) n) k (StepValue v) m ≡ Gives v m
  steps-value zero v m = refl
  steps-value (suc k) v m = refl

  -- an operation that the host answers at once
  pub at_once : (op : Op) → is_busy op ≡ false → (args : List Value) (m : Machine H) (a : AnswersAtOnce rules op args m.host)
      → host_operations rules (calls program (host_operations rules) n) op args m ≡ Gives a.0 (with_host (rules.op op args m.host).host m)
  at_once op free args m a = ap (λ b. branch b m (λ m. take_unit m ask) ask) free ∙ (ap (λ s. steps_by (ask_host rules) (calls program (host_operations rules) n) (most_callbacks m) s (with_host (rules.op op args m.host).host m)) a.1 ∙ steps-value (most_callbacks m) a.0 (with_host (rules.op op args m.host).host m))
    where
      ask : Machine H → Done H
      ask m = asked_by (ask_host rules) (calls program (host_operations rules) n) op args m

  module _ (p : ℕ) (S : Machine H → Type 0) (stable : IsStable S) (assign : (m : Machine H) (x : List ℕ) (v : Value) → IsOwn x → S m → S (assigned m x v)) (promised : (m : Machine H) → S m → value_in (locals m.open_calls) (codes "p__") ≡ Some (PromiseValue p)) where
    abbrev w : Around H
    w = around_at rules program n

    -- `resolve` takes what is returned
    abbrev pub TakesReturn : Done H → Type 0
    TakesReturn (Gives v m) = Unit {0}
    TakesReturn (Throws v m) = Unit {0}
    TakesReturn (Returns v m) = AnswersAtOnce rules ResolveOp (PromiseValue p ∷ v ∷ []) m.host
    TakesReturn (OutOfFuel m) = Unit {0}

    -- what is returned resolves the promise, and then unit is returned
    abbrev pub coded : Done H → Done H
    coded (Gives v m) = Gives v m
    coded (Throws v m) = Throws v m
    coded (Returns v m) = and_then (w.operate ResolveOp (PromiseValue p ∷ v ∷ []) m) (λ u m. Returns UnitValue m)
    coded (OutOfFuel m) = OutOfFuel m

    pub takes-first : (d : Done H) (next : Value → Machine H → Done H) → TakesReturn (and_then d next) → TakesReturn d
    takes-first (Gives v m) next t = tt
    takes-first (Throws v m) next t = tt
    takes-first (Returns v m) next t = t
    takes-first (OutOfFuel m) next t = tt

    takes-tried : (d : Done H) (next : Value → Machine H → Done H) → TakesReturn (or_catch d next) → TakesReturn d
    takes-tried (Gives v m) next t = tt
    takes-tried (Throws v m) next t = tt
    takes-tried (Returns v m) next t = t
    takes-tried (OutOfFuel m) next t = tt

    pub coded-then : (d : Done H) (next next' : Value → Machine H → Done H) → After S d → TakesReturn (and_then d next') → ((v : Value) (m : Machine H) → S m → TakesReturn (next' v m) → next v m ≡ coded (next' v m)) → and_then (coded d) next ≡ coded (and_then d next')
    coded-then (Gives v m) next next' a t k = k v m a t
    coded-then (Throws v m) next next' a t k = refl
    coded-then (Returns v m) next next' a t k = returns-stay (w.operate ResolveOp (PromiseValue p ∷ v ∷ []) m) UnitValue next
    coded-then (OutOfFuel m) next next' a t k = refl

    plain-then : (d : Done H) (next next' : Value → Machine H → Done H) → KeptBy S d → TakesReturn (and_then d next') → ((v : Value) (m : Machine H) → S m → TakesReturn (next' v m) → next v m ≡ coded (next' v m)) → and_then d next ≡ coded (and_then d next')
    plain-then (Gives v m) next next' a t k = k v m a t
    plain-then (Throws v m) next next' a t k = refl
    plain-then (Returns v m) next next' a t k = absurd a
    plain-then (OutOfFuel m) next next' a t k = refl

    plain-same : (d : Done H) (next : Value → Machine H → Done H) → KeptBy S d → ((v : Value) (m : Machine H) → next v m ≡ coded (next v m)) → and_then d next ≡ coded (and_then d next)
    plain-same (Gives v m) next a k = k v m
    plain-same (Throws v m) next a k = refl
    plain-same (Returns v m) next a k = absurd a
    plain-same (OutOfFuel m) next a k = refl

    catch-coded : (d : Done H) (next next' : Value → Machine H → Done H) → After S d → TakesReturn (or_catch d next') → ((v : Value) (m : Machine H) → S m → TakesReturn (next' v m) → next v m ≡ coded (next' v m)) → or_catch (coded d) next ≡ coded (or_catch d next')
    catch-coded (Gives v m) next next' a t k = refl
    catch-coded (Throws v m) next next' a t k = k v m a t
    catch-coded (Returns v m) next next' a t k =
        let e = at_once ResolveOp refl (PromiseValue p ∷ v ∷ []) m t in
        ap (λ d. or_catch (and_then d (λ u m. Returns UnitValue m)) next) e ∙ sym (ap (λ d. and_then d (λ u m. Returns UnitValue m)) e)
    catch-coded (OutOfFuel m) next next' a t k = refl

    tested-coded : (v : Value) (m : Machine H) (then else then' else' : Machine H → Done H) → S m → TakesReturn (tested v m then' else') →
        (TakesReturn (then' m) → then m ≡ coded (then' m)) → (TakesReturn (else' m) → else m ≡ coded (else' m)) → tested v m then else ≡ coded (tested v m then' else')
    tested-coded v m then else then' else' s t p q = by_bool (bool_in v) t
      where
        by_bool : (o : Option Bool) → TakesReturn (given o TypeError m (λ b m. branch b m then' else')) → given o TypeError m (λ b m. branch b m then else) ≡ coded (given o TypeError m (λ b m. branch b m then' else'))
        by_bool None t = refl
        by_bool (Some true) t = p t
        by_bool (Some false) t = q t

    end-coded : (d : Done H) → alone (coded d) ≡ coded (alone d)
    end-coded (Gives v m) = refl
    end-coded (Throws v m) = refl
    end-coded (Returns v m) = returns-stay (w.operate ResolveOp (PromiseValue p ∷ v ∷ []) m) UnitValue (λ u m. finish m)
    end-coded (OutOfFuel m) = refl

    alone-coded : (d d' : Done H) → d ≡ coded d' → alone d ≡ coded (alone d')
    alone-coded d d' e = ap alone e ∙ end-coded d'

    kept : (e : Expr) (m : Machine H) → S m → KeptBy S (eval w e m)
    kept = eval-kept w (calls-kept rules program n) (operations-kept rules (calls program (host_operations rules) n) (calls-kept rules program n)) S stable

    pub left-after : (b : Block) → BlockAssigns IsOwn b → (m : Machine H) → S m → After S (exec_block w b m)
    left-after = block-after w (calls-kept rules program n) (operations-kept rules (calls program (host_operations rules) n) (calls-kept rules program n)) S stable IsOwn assign

    left-alone : (s : Stmt) → AllAssign IsOwn s → (m : Machine H) → S m → After S (alone (exec w s m))
    left-alone s a m h = and_then-after S (exec w s m) (λ u m. finish m) (exec-after w (calls-kept rules program n) (operations-kept rules (calls program (host_operations rules) n) (calls-kept rules program n)) S stable IsOwn assign s a m h) (λ u m h. h)

    loop-coded : (k : ℕ) (test body body' : Machine H → Done H) → ((m : Machine H) → S m → KeptBy S (test m)) → ((m : Machine H) → S m → After S (body' m)) →
        ((m : Machine H) → S m → TakesReturn (body' m) → body m ≡ coded (body' m)) → (m : Machine H) → S m → TakesReturn (loop_turns k test body' m) → loop_turns k test body m ≡ coded (loop_turns k test body' m)
    loop-coded zero test body body' p q r m s t = refl
    loop-coded (suc k) test body body' p q r m s t =
        plain-then (test m) _ _ (p m s) t (λ v m s t. tested-coded v m _ finish _ finish s t (λ t. by_fuel m s (λ m s t. loop-coded k test body body' p q r m s t) m.fuel t) (λ t. refl))
      where
        by_fuel : (m : Machine H) → S m → ((m : Machine H) → S m → TakesReturn (loop_turns k test body' m) → loop_turns k test body m ≡ coded (loop_turns k test body' m)) → (left : ℕ) →
            TakesReturn (with_fuel left m (λ m. and_then (body' m) (λ u m. loop_turns k test body' m))) →
            with_fuel left m (λ m. and_then (body m) (λ u m. loop_turns k test body m)) ≡ coded (with_fuel left m (λ m. and_then (body' m) (λ u m. loop_turns k test body' m)))
        by_fuel m s again zero t = refl
        by_fuel m s again (suc left) t =
            let less : Machine H = record m { fuel = left } in
            let s' : S less = stable m less s (record { open_calls = refl; globals = λ x. refl }) in
            ap (λ d. and_then d (λ u m. loop_turns k test body m)) (r less s' (takes-first (body' less) (λ u m. loop_turns k test body' m) t))
            ∙ coded-then (body' less) (λ u m. loop_turns k test body m) (λ u m. loop_turns k test body' m) (q less s') t (λ u m s t. again m s t)

    -- what `p__` stands for
    pub promise-value : (m : Machine H) → S m → eval w (Name (new_name (codes "p__"))) m ≡ Gives (PromiseValue p) m
    promise-value m s =
        ap (λ o. given (or_else (or_else o (value_in m.globals (codes "p__"))) (function_value (number_of (functions_of program.items) (codes "p__")))) TypeError m Gives) (promised m s)

    abbrev resolve_before : Machine H → Done H → Done H
    resolve_before before d = and_then (alone (and_then d (λ v m. call_of w (codes "resolve") before (PromiseValue p ∷ v ∷ []) m))) (λ u m. and_then (Returns UnitValue m) (λ u m. finish m))

    resolves-first : (e : Expr) (m : Machine H) → S m → exec_block w (resolves_and_returns e) m ≡ resolve_before m (eval w e m)
    resolves-first e m s =
        ap (λ d. and_then (alone (and_then d (λ v m'. eval_all w (with_expr e no_exprs) (v ∷ []) (call_of w (codes "resolve") m) m'))) (λ u m. and_then (Returns UnitValue m) (λ u m. finish m))) (promise-value m s)

    pub return-coded : (e : Expr) (m : Machine H) → S m → exec_block w (resolves_and_returns e) m ≡ coded (alone (and_then (eval w e m) Returns))
    return-coded e m s = resolves-first e m s ∙ by_end (eval w e m) (kept e m s)
      where
        by_end : (d : Done H) → KeptBy S d → resolve_before m d ≡ coded (alone (and_then d Returns))
        by_end (Gives v k) h = alone-returns (w.operate ResolveOp (PromiseValue p ∷ v ∷ []) k)
        by_end (Throws v k) h = refl
        by_end (Returns v k) h = absurd h
        by_end (OutOfFuel k) h = refl

    mutual
      pub stmt-coded : (s : Stmt) → AllAssign IsOwn s → (m : Machine H) → S m → TakesReturn (exec_block w (one s) m) → exec_block w (in_segment s) m ≡ coded (exec_block w (one s) m)
      stmt-coded (VarStmt x e) a m s t = alone-coded _ (exec w (VarStmt x e) m) (plain-same (eval w e m) (λ v m. finish (assigned m x.name v)) (kept e m s) (λ v m. refl))
      stmt-coded (AssignStmt x e) a m s t = alone-coded _ (exec w (AssignStmt x e) m) (plain-same (eval w e m) (λ v m. finish (assigned m x.name v)) (kept e m s) (λ v m. refl))
      stmt-coded (ExprStmt e) a m s t = alone-coded _ (exec w (ExprStmt e) m) (plain-same (eval w e m) (λ v m. finish m) (kept e m s) (λ v m. refl))
      stmt-coded (IfStmt e block others last) a m s t =
          alone-coded _ (exec w (IfStmt e block others last) m) (plain-then (eval w e m) _ _ (kept e m s) (takes-first (exec w (IfStmt e block others last) m) (λ u m. finish m) t)
          (λ v m s t. tested-coded v m _ _ _ _ s t (block-coded block a.0 m s) (others-coded others a.1 (exec_else w last) (exec_else w (else_in_segment last)) (else-coded last a.2) m s)))
      stmt-coded (WhileStmt e block) a m s t =
          alone-coded _ (exec w (WhileStmt e block) m) (loop-coded (suc m.fuel) (eval w e) (exec_block w (all_in_segment block)) (exec_block w block) (kept e) (left-after block a) (block-coded block a) m s
          (takes-first (exec w (WhileStmt e block) m) (λ u m. finish m) t))
      stmt-coded (ReturnStmt None) a m s t = return-coded UnitLiteral m s
      stmt-coded (ReturnStmt (Some e)) a m s t = return-coded e m s
      stmt-coded (ThrowStmt e) a m s t = alone-coded _ (exec w (ThrowStmt e) m) (plain-same (eval w e m) Throws (kept e m s) (λ v m. refl))
      stmt-coded (TryStmt block x handler) a m s t =
          let t' = takes-first (exec w (TryStmt block x handler) m) (λ u m. finish m) t in
          alone-coded _ (exec w (TryStmt block x handler) m) (ap (λ d. or_catch d (λ v m. exec_block w (all_in_segment handler) (assigned m x.name v))) (block-coded block a.0 m s (takes-tried (exec_block w block m) (λ v m. exec_block w handler (assigned m x.name v)) t'))
          ∙ catch-coded (exec_block w block m) (λ v m. exec_block w (all_in_segment handler) (assigned m x.name v)) (λ v m. exec_block w handler (assigned m x.name v)) (left-after block a.0 m s) t'
          (λ v m s t. block-coded handler a.2 (assigned m x.name v) (assign m x.name v a.1 s) t))

      pub block-coded : (b : Block) → BlockAssigns IsOwn b → (m : Machine H) → S m → TakesReturn (exec_block w b m) → exec_block w (all_in_segment b) m ≡ coded (exec_block w b m)
      block-coded no_stmts a m s t = refl
      block-coded (with_stmt st rest) a m s t =
          let same = alone-then (exec w st m) (λ m. exec_block w rest m) in
          let t' = subst TakesReturn (sym same) t in
          followed w (in_segment st) (all_in_segment rest) m
          ∙ (ap (λ d. and_then d (λ u m. exec_block w (all_in_segment rest) m)) (stmt-coded st a.0 m s (takes-first (alone (exec w st m)) (λ u m. exec_block w rest m) t'))
          ∙ (coded-then (alone (exec w st m)) (λ u m. exec_block w (all_in_segment rest) m) (λ u m. exec_block w rest m) (left-alone st a.0 m s) t' (λ u m s t. block-coded rest a.1 m s t)
          ∙ ap coded same))

      others-coded : (others : ElseIfs) → OthersAssign IsOwn others → (last last' : Machine H → Done H) → ((m : Machine H) → S m → TakesReturn (last m) → last' m ≡ coded (last m)) → (m : Machine H) → S m →
          TakesReturn (exec_others w others last m) → exec_others w (others_in_segment others) last' m ≡ coded (exec_others w others last m)
      others-coded no_else_ifs a last last' k m s t = k m s t
      others-coded (with_else_if e block others) a last last' k m s t =
          plain-then (eval w e m) _ _ (kept e m s) t (λ v m s t. tested-coded v m _ _ _ _ s t (block-coded block a.0 m s) (others-coded others a.1 last last' k m s))

      else-coded : (last : ElsePart) → ElseAssigns IsOwn last → (m : Machine H) → S m → TakesReturn (exec_else w last m) → exec_else w (else_in_segment last) m ≡ coded (exec_else w last m)
      else-coded no_else a m s t = refl
      else-coded (else_block block) a m s t = block-coded block a m s t
