-- A script around a page that answers by steps leaves all numbers given, and its values are known.
use Rattle.std.proofs.Common.{ℕ, zero, suc, ◌+◌, Bool, true, false, cond, List, [], ◌∷◌, map, Option, Some, None}
use Rattle.std.specs.Prelude.{unwrap_or}
use Rattle.page_types.specs.declared.FaultName.TheVariants.{RangeError}
use Rattle.page_types.specs.declared.Op.{Op}
use Rattle.page_types.specs.declared.Op.TheVariants.{Resolved, Then}
use Rattle.page_types.specs.Values.{Value, UnitValue, ListValue, PromiseValue, values_of}
use Rattle.page_types.specs.Tree.{Program, Expr}
use Rattle.page_parts.specs.Words.{same_bytes, is_there}
use Rattle.page_parts.specs.Kinds.{within_limits}
use Rattle.lang_meaning.specs.Machine.{Variable, Machine, Done, Gives, Throws, Returns, OutOfFuel, take_unit, value_in, locals, assigned, with_local, with_value_in, Caller}
use Rattle.lang_meaning.specs.Evaluation.{functions_of, number_of, called, calls, eval, exec_block}
use Rattle.lang_meaning.specs.HostSteps.{HostStep, StepValue, StepThrow, StepInvoke, CallbackEnd, CallbackValue, CallbackThrow, Stepped, AskOp, AskResume, on_ask, with_host, after_callback, steps_by, ask_host, asked_by, most_callbacks, is_busy, host_operations}
use Rattle.page_model.specs.PageHost.{Hosting, page_rules}
use Rattle.page_model.specs.Numbers.{Each, Made, made_by, Grows, IsKnown, VariablesAreKnown}
use Rattle.page_model.proofs.GivenNumbers.Growing.{Each-more, Grows-same, Grows-then, IsKnown-grows, Variables-grow}
use Rattle.page_model.proofs.GivenNumbers.Parts.{values-known}
use Rattle.page_model.proofs.GivenNumbers.Evaluation.{every, each, limited-known, sum-known, product-known, compare-known, unary-known, item-known, value_in-known, locals-known, without_first-known, function-known, bound-known}
use Rattle.page_model.proofs.Holding.Evaluation.{Keeping, or_else-there, Holds, CallsHold, OperateHolds, wider, and_then-holds, given_any-holds, branch-holds, take_unit-holds, called-holds, eval-holds, block-holds, calls-hold}
use Rattle.async_segments.specs.Marked.{AwaitForm, Alone, Declared, Stored, Returned}
use Rattle.async_segments.specs.Meaning.{AsyncFunction, names_of_locals, Part, stored_first, until_wait, reached, value_now, kept_values, function_with, waits_for, segment_run}
use Rattle.async_segments.specs.Names.{segment_name, rejecting_name}
use Rattle.async_segments.proofs.MeaningCalls.{around_at}
use Rattle.async_segments.proofs.KnownFolds.{HostIsGiven, StepIsKnown, StepIsGiven, asked-given}

abbrev pub made_in : Machine Hosting → Made
made_in m = made_by m.host.page

-- all numbers of a state are given
abbrev pub GoodHost : Machine Hosting → Type 0
GoodHost m = HostIsGiven m.host × VariablesAreKnown (made_in m) m.globals × Each (VariablesAreKnown (made_in m)) m.open_calls

with_value-known : (n : Made) (b : Bool) (xs : List Variable) (a : Variable) (v : Value) (rest : List Variable) → IsKnown n v → VariablesAreKnown n (a ∷ xs) → VariablesAreKnown n rest → VariablesAreKnown n (cond b (record a { value = v } ∷ xs) (a ∷ rest))
with_value-known n true xs a v rest k h r = (k, h.1)
with_value-known n false xs a v rest k h r = (h.0, r)

with_value_in-known : (n : Made) (xs : List Variable) (x : List ℕ) (v : Value) → VariablesAreKnown n xs → IsKnown n v → VariablesAreKnown n (with_value_in xs x v)
with_value_in-known n [] x v h k = tt
with_value_in-known n (a ∷ xs) x v h k = with_value-known n (same_bytes a.name x) xs a v (with_value_in xs x v) k h (with_value_in-known n xs x v h.1 k)

with_local-known : (n : Made) (frames : List (List Variable)) (x : List ℕ) (v : Value) → Each (VariablesAreKnown n) frames → IsKnown n v → Each (VariablesAreKnown n) (with_local frames x v)
with_local-known n [] x v h k = tt
with_local-known n (xs ∷ others) x v h k = (with_value_in-known n xs x v h.0 k, h.1)

pub assign-known : (m : Machine Hosting) (x : List ℕ) (v : Value) → GoodHost m → IsKnown (made_in m) v → Grows (made_in m) (made_in (assigned m x v)) × GoodHost (assigned m x v)
assign-known m x v g h = by_place (is_there (value_in (locals m.open_calls) x))
  where
    by_place : (b : Bool) → Grows (made_in m) (made_in (cond b (record m { open_calls = with_local m.open_calls x v }) (record m { globals = with_value_in m.globals x v }))) × GoodHost (cond b (record m { open_calls = with_local m.open_calls x v }) (record m { globals = with_value_in m.globals x v }))
    by_place true = (Grows-same (made_in m), (g.0, g.1, with_local-known (made_in m) m.open_calls x v g.2 h))
    by_place false = (Grows-same (made_in m), (g.0, with_value_in-known (made_in m) m.globals x v g.1 h, g.2))

-- what evaluation keeps
abbrev pub knowing : (program : Program) → Keeping Hosting program
knowing program =
    record {
      Le = λ a b. Grows (made_in a) (made_in b);
      Good = GoodHost;
      Val = λ v m. IsKnown (made_in m) v;
      same = λ m. Grows-same (made_in m);
      chain = λ a b c g h. Grows-then (made_in a) (made_in b) (made_in c) g h;
      later = λ v a b g h. IsKnown-grows (made_in a) (made_in b) g v h;
      assign = assign-known;
      open_call = λ m xs g h. (Grows-same (made_in m), (g.0, g.1, (each (λ x. IsKnown (made_in m) x.value) xs h, g.2)));
      close_call = λ m g. (Grows-same (made_in m), (g.0, g.1, without_first-known (made_in m) m.open_calls g.2));
      take = λ m left e g. (Grows-same (made_in m), (g.0, g.1, g.2));
      unit_value = λ m g. tt;
      bool_value = λ m b g. tt;
      int_value = λ m i g. tt;
      text_value = λ m bs g. tt;
      fault_value = λ m name g. tt;
      read = λ m x g. or_else-there (λ v. IsKnown (made_in m) v) (value_in (locals m.open_calls) x) (value_in m.globals x) (value_in-known (made_in m) (locals m.open_calls) x (locals-known (made_in m) m.open_calls g.2)) (value_in-known (made_in m) m.globals x g.1);
      named = λ m x g. function-known (made_in m) (number_of (functions_of program.items) x);
      bound = λ m v g h. bound-known (made_in m) v h;
      sum = λ m sign a b g h k. sum-known (made_in m) sign a b;
      product = λ m sign a b g h k. product-known (made_in m) sign a b;
      compare = λ m sign a b g h k. compare-known (made_in m) sign a b;
      unary = λ m sign a g h. unary-known (made_in m) sign a;
      item = λ m a i g h k. item-known (made_in m) a i h;
      list = λ m vs g h. limited-known (made_in m) (ListValue (values_of vs)) (values-known (made_in m) vs (each (λ v. IsKnown (made_in m) v) vs h));
    }

module _ (program : Program) where
  -- the machine with what the host is after a step
  stepped-good : (r : Machine Hosting) (s : Stepped Hosting) → GoodHost r → StepIsGiven (made_in r) s → GoodHost (with_host s.host r)
  stepped-good r s g h =
      let n = made_in r in
      let n' = made_by s.host.page in
      (h.1, Variables-grow n n' h.0 r.globals g.1, Each-more (VariablesAreKnown n) (VariablesAreKnown n') (Variables-grow n n' h.0) r.open_calls g.2)

  module _ (call : Caller Hosting) (c : CallsHold (knowing program) call) where
    callback-known : (m : Machine Hosting) (next : ℕ → CallbackEnd → Machine Hosting → Done Hosting) (t : ℕ) (d : Done Hosting) → Holds (knowing program) m d → ((end : CallbackEnd) (n : Machine Hosting) → GoodHost n → Holds (knowing program) n (next t end n)) → Holds (knowing program) m (after_callback next t d)
    callback-known m next t (Gives v n) h q = wider (knowing program) m n (next t (CallbackValue v) n) h.0 (q (CallbackValue v) n h.1)
    callback-known m next t (Throws v n) h q = wider (knowing program) m n (next t (CallbackThrow v) n) h.0 (q (CallbackThrow v) n h.1)
    callback-known m next t (Returns v n) h q = wider (knowing program) m n (next t (CallbackValue v) n) h.0 (q (CallbackValue v) n h.1)
    callback-known m next t (OutOfFuel n) h q = h

    steps-known : (k : ℕ) (step : HostStep) (n : Machine Hosting) → GoodHost n → StepIsKnown (made_in n) step → Holds (knowing program) n (steps_by (ask_host page_rules) call k step n)
    steps-known zero (StepValue v) n g k = (Grows-same (made_in n), g, k)
    steps-known zero (StepThrow v) n g k = (Grows-same (made_in n), g, k)
    steps-known zero (StepInvoke f args t) n g k =
        callback-known n (λ t end r. OutOfFuel r) t (called call f args n) (called-holds (knowing program) call c f args n g k.0 (every (IsKnown (made_in n)) args k.1)) (λ end r h. (Grows-same (made_in r), h))
    steps-known (suc i) (StepValue v) n g k = (Grows-same (made_in n), g, k)
    steps-known (suc i) (StepThrow v) n g k = (Grows-same (made_in n), g, k)
    steps-known (suc i) (StepInvoke f args t) n g k =
        callback-known n (λ t end r. ask_host page_rules (AskResume t end) r (steps_by (ask_host page_rules) call i)) t (called call f args n) (called-holds (knowing program) call c f args n g k.0 (every (IsKnown (made_in n)) args k.1))
        (λ end r h.
        let s = on_ask page_rules (AskResume t end) r.host in
        let y = asked-given (AskResume t end) r.host h.0 tt in
        wider (knowing program) r (with_host s.host r) (steps_by (ask_host page_rules) call i s.step (with_host s.host r)) y.0 (steps-known i s.step (with_host s.host r) (stepped-good r s h y) y.2))

    asked-known : (op : Op) (args : List Value) (m : Machine Hosting) → GoodHost m → Each (IsKnown (made_in m)) args → Holds (knowing program) m (asked_by (ask_host page_rules) call op args m)
    asked-known op args m g k =
        let s = on_ask page_rules (AskOp op args) m.host in
        let y = asked-given (AskOp op args) m.host g.0 k in
        wider (knowing program) m (with_host s.host m) (steps_by (ask_host page_rules) call (most_callbacks m) s.step (with_host s.host m)) y.0 (steps-known (most_callbacks m) s.step (with_host s.host m) (stepped-good m s g y) y.2)

    operations-known : OperateHolds (knowing program) (host_operations page_rules call)
    operations-known op args m g vs =
        branch-holds (knowing program) (is_busy op) m (λ m. take_unit m (asked_by (ask_host page_rules) call op args)) (asked_by (ask_host page_rules) call op args)
        (take_unit-holds (knowing program) m (asked_by (ask_host page_rules) call op args) g (λ n le h. asked-known op args n h (Each-more (IsKnown (made_in m)) (IsKnown (made_in n)) (λ v k. IsKnown-grows (made_in m) (made_in n) le v k) args (each (IsKnown (made_in m)) args vs))))
        (asked-known op args m g (each (IsKnown (made_in m)) args vs))

  calls-known : (n : ℕ) → CallsHold (knowing program) (calls program (host_operations page_rules) n)
  calls-known = calls-hold (knowing program) (host_operations page_rules) (λ call c. operations-known call c)

  -- ---- a segment

  module _ (n : ℕ) where
    operate-known : OperateHolds (knowing program) (host_operations page_rules (calls program (host_operations page_rules) n))
    operate-known = operations-known (calls program (host_operations page_rules) n) (calls-known n)

    stored-known : (stored : Option AwaitForm) (v : Value) (m : Machine Hosting) → GoodHost m → IsKnown (made_in m) v → Holds (knowing program) m (stored_first stored v m)
    stored-known None v m g k = (Grows-same (made_in m), g, tt)
    stored-known (Some Alone) v m g k = (Grows-same (made_in m), g, tt)
    stored-known (Some (Declared x)) v m g k = let a = assign-known m x.name v g k in (a.0, a.1, tt)
    stored-known (Some (Stored x)) v m g k = let a = assign-known m x.name v g k in (a.0, a.1, tt)
    stored-known (Some Returned) v m g k = (Grows-same (made_in m), g, k)

    until-known : (awaits : Option Expr) (m : Machine Hosting) → GoodHost m → Holds (knowing program) m (until_wait (around_at page_rules program n) awaits m)
    until-known None m g = (Grows-same (made_in m), g, tt)
    until-known (Some e) m g =
        and_then-holds (knowing program) m (eval (around_at page_rules program n) e m) (λ v m. host_operations page_rules (calls program (host_operations page_rules) n) Resolved (v ∷ []) m)
        (eval-holds (knowing program) (calls program (host_operations page_rules) n) (host_operations page_rules (calls program (host_operations page_rules) n)) (calls-known n) operate-known e m g)
        (λ v r le h hv. operate-known Resolved (v ∷ []) r h (hv, tt))

    pub reached-known : (part : Part) (v : Value) (m : Machine Hosting) → GoodHost m → IsKnown (made_in m) v → Holds (knowing program) m (reached (around_at page_rules program n) part v m)
    reached-known part v m g k =
        and_then-holds (knowing program) m (stored_first part.stored v m) _ (stored-known part.stored v m g k)
        (λ u r le h hu. and_then-holds (knowing program) r (exec_block (around_at page_rules program n) part.statements r) _
        (block-holds (knowing program) (calls program (host_operations page_rules) n) (host_operations page_rules (calls program (host_operations page_rules) n)) (calls-known n) operate-known part.statements r h)
        (λ u a le h hu. until-known part.awaits a h))

    now-by : (m : Machine Hosting) (o : Option Value) → Rattle.page_model.proofs.Holding.Evaluation.IfThere (λ v. IsKnown (made_in m) v) o → IsKnown (made_in m) (unwrap_or o UnitValue)
    now-by m None h = tt
    now-by m (Some v) h = h

    -- the values of locals are known
    pub values-now-known : (m : Machine Hosting) → GoodHost m → (names : List (List ℕ)) → Each (IsKnown (made_in m)) (map (value_now m) names)
    values-now-known m g [] = tt
    values-now-known m g (x ∷ names) = (now-by m (value_in (locals m.open_calls) x) (value_in-known (made_in m) (locals m.open_calls) x (locals-known (made_in m) m.open_calls g.2)), values-now-known m g names)

    waits-known : (f : AsyncFunction) (k p : ℕ) (q : Value) (m : Machine Hosting) → GoodHost m → IsKnown (made_in m) (PromiseValue p) → IsKnown (made_in m) q → Holds (knowing program) m (waits_for (around_at page_rules program n) f k p q m)
    waits-known f k p q m g kp kq =
        given_any-holds (knowing program) (within_limits (ListValue (values_of (kept_values f p m)))) RangeError m _ g
        (λ l. operate-known Then (q ∷ function_with program (segment_name f.name (k + 1)) (kept_values f p m) ∷ function_with program (rejecting_name f.name) (PromiseValue p ∷ []) ∷ []) m g (kq, (values-known (made_in m) (kept_values f p m) (kp, values-now-known m g (names_of_locals f)), (values-known (made_in m) (PromiseValue p ∷ []) (kp, tt), tt))))

    pub run-known : (f : AsyncFunction) (k : ℕ) (part : Part) (p : ℕ) (v : Value) (m : Machine Hosting) → GoodHost m → IsKnown (made_in m) v → IsKnown (made_in m) (PromiseValue p) → Holds (knowing program) m (segment_run (around_at page_rules program n) f k part p v m)
    run-known f k part p v m g kv kp =
        and_then-holds (knowing program) m (reached (around_at page_rules program n) part v m) (waits_for (around_at page_rules program n) f k p) (reached-known part v m g kv)
        (λ q r le h hq. waits-known f k p q r h (IsKnown-grows (made_in m) (made_in r) le (PromiseValue p) kp) hq)
