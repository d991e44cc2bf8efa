-- A promise that `promise` made stays one, whatever a script does.
use Rattle.std.proofs.Common.{ℕ, zero, suc, Bool, true, false, List, [], ◌∷◌, Option, Some, None, cond}
use Rattle.page_types.specs.declared.FaultName.TheVariants.{RangeError}
use Rattle.page_types.specs.declared.Op.{Op}
use Rattle.page_types.specs.declared.Op.TheVariants.{Resolved, Then}
use Rattle.page_types.specs.Values.{Value, ListValue, values_of}
use Rattle.page_types.specs.Tree.{Program, Expr}
use Rattle.page_parts.specs.Words.{is_there}
use Rattle.page_parts.specs.Kinds.{within_limits}
use Rattle.lang_meaning.specs.Machine.{Machine, Done, Gives, Throws, Returns, OutOfFuel, take_unit, value_in, locals, assigned, with_local, with_value_in, Caller}
use Rattle.lang_meaning.specs.Evaluation.{called, calls, eval, exec_block}
use Rattle.lang_meaning.specs.HostSteps.{HostRules, HostStep, StepValue, StepThrow, StepInvoke, CallbackEnd, CallbackValue, CallbackThrow, Ask, AskOp, AskResume, on_ask, with_host, after_callback, steps_by, ask_host, asked_by, most_callbacks, is_busy, host_operations}
use Rattle.page_model.proofs.Holding.Evaluation.{Keeping, KeepingStates, keeping_states, every_any, Holds, CallsHold, OperateHolds, wider, and_then-holds, given_any-holds, branch-holds, take_unit-holds, called-holds, eval-holds, block-holds, calls-hold}
use Rattle.async_segments.specs.Marked.{AwaitForm, Alone, Declared, Stored, Returned}
use Rattle.async_segments.specs.Meaning.{AsyncFunction, Part, stored_first, until_wait, reached, kept_values, waits_for, segment_run}
use Rattle.async_segments.proofs.MeaningCalls.{around_at}

module _ {H : Type 0} (rules : HostRules H) (program : Program) (owned : H → Type 0) (stays : (ask : Ask) (h : H) → owned h → owned (on_ask rules ask h).host) where
  pub assign-owned : (m : Machine H) (x : List ℕ) (v : Value) → owned m.host → owned (assigned m x v).host
  assign-owned m x v h = by (is_there (value_in (locals m.open_calls) x))
    where
      by : (b : Bool) → owned (cond b (record m { open_calls = with_local m.open_calls x v }) (record m { globals = with_value_in m.globals x v })).host
      by true = h
      by false = h

  abbrev pub owned_states : KeepingStates H
  owned_states = record {
    Le = λ m n. Unit {0};
    Good = λ m. owned m.host;
    same = λ m. tt;
    chain = λ a b c p q. tt;
    assign = λ m x v g. (tt, assign-owned m x v g);
    open_call = λ m xs g. (tt, g);
    close_call = λ m g. (tt, g);
    take = λ m left e g. (tt, g);
  }

  abbrev pub owning : Keeping H program
  owning = keeping_states program owned_states

  module _ (call : Caller H) (c : CallsHold owning call) where
    callback-owned : (m : Machine H) (next : ℕ → CallbackEnd → Machine H → Done H) (t : ℕ) (d : Done H) → Holds owning m d → ((end : CallbackEnd) (n : Machine H) → owned n.host → Holds owning m (next t end n)) → Holds owning m (after_callback next t d)
    callback-owned m next t (Gives v n) h q = q (CallbackValue v) n h.1
    callback-owned m next t (Throws v n) h q = q (CallbackThrow v) n h.1
    callback-owned m next t (Returns v n) h q = q (CallbackValue v) n h.1
    callback-owned m next t (OutOfFuel n) h q = h

    invoked-owned : (m n : Machine H) (f : Value) (args : List Value) → owned n.host → Holds owning m (called call f args n)
    invoked-owned m n f args g = wider owning m n (called call f args n) tt (called-holds owning call c f args n g tt (every_any args))

    steps-owned : (k : ℕ) (step : HostStep) (m n : Machine H) → owned n.host → Holds owning m (steps_by (ask_host rules) call k step n)
    steps-owned zero (StepValue v) m n g = (tt, g, tt)
    steps-owned zero (StepThrow v) m n g = (tt, g, tt)
    steps-owned zero (StepInvoke f args t) m n g = callback-owned m (λ t end r. OutOfFuel r) t (called call f args n) (invoked-owned m n f args g) (λ end r h. (tt, h))
    steps-owned (suc k) (StepValue v) m n g = (tt, g, tt)
    steps-owned (suc k) (StepThrow v) m n g = (tt, g, tt)
    steps-owned (suc k) (StepInvoke f args t) m n g =
        callback-owned m (λ t end r. ask_host rules (AskResume t end) r (steps_by (ask_host rules) call k)) t (called call f args n) (invoked-owned m n f args g)
        (λ end r h. let s = on_ask rules (AskResume t end) r.host in steps-owned k s.step m (with_host s.host r) (stays (AskResume t end) r.host h))

    asked-owned : (op : Op) (args : List Value) (m : Machine H) → owned m.host → Holds owning m (asked_by (ask_host rules) call op args m)
    asked-owned op args m g = let s = on_ask rules (AskOp op args) m.host in steps-owned (most_callbacks m) s.step m (with_host s.host m) (stays (AskOp op args) m.host g)

    operations-owned : OperateHolds owning (host_operations rules call)
    operations-owned op args m g vs =
        branch-holds owning (is_busy op) m (λ m. take_unit m (asked_by (ask_host rules) call op args)) (asked_by (ask_host rules) call op args)
        (take_unit-holds owning m (asked_by (ask_host rules) call op args) g (λ n le h. asked-owned op args n h)) (asked-owned op args m g)

  calls-owned : (n : ℕ) → CallsHold owning (calls program (host_operations rules) n)
  calls-owned = calls-hold owning (host_operations rules) (λ call c. operations-owned call c)

  -- ---- a segment

  module _ (n : ℕ) where
    operate-owned : OperateHolds owning (host_operations rules (calls program (host_operations rules) n))
    operate-owned = operations-owned (calls program (host_operations rules) n) (calls-owned n)

    stored-owned : (stored : Option AwaitForm) (v : Value) (m : Machine H) → owned m.host → Holds owning m (stored_first stored v m)
    stored-owned None v m g = (tt, g, tt)
    stored-owned (Some Alone) v m g = (tt, g, tt)
    stored-owned (Some (Declared x)) v m g = (tt, assign-owned m x.name v g, tt)
    stored-owned (Some (Stored x)) v m g = (tt, assign-owned m x.name v g, tt)
    stored-owned (Some Returned) v m g = (tt, g, tt)

    until-owned : (awaits : Option Expr) (m : Machine H) → owned m.host → Holds owning m (until_wait (around_at rules program n) awaits m)
    until-owned None m g = (tt, g, tt)
    until-owned (Some e) m g =
        and_then-holds owning m (eval (around_at rules program n) e m) (λ v m. host_operations rules (calls program (host_operations rules) n) Resolved (v ∷ []) m)
        (eval-holds owning (calls program (host_operations rules) n) (host_operations rules (calls program (host_operations rules) n)) (calls-owned n) operate-owned e m g)
        (λ v r le h hv. operate-owned Resolved (v ∷ []) r h (every_any (v ∷ [])))

    pub reached-owned : (part : Part) (v : Value) (m : Machine H) → owned m.host → Holds owning m (reached (around_at rules program n) part v m)
    reached-owned part v m g =
        and_then-holds owning m (stored_first part.stored v m) _ (stored-owned part.stored v m g)
        (λ u r le h hu. and_then-holds owning r (exec_block (around_at rules program n) part.statements r) _
        (block-holds owning (calls program (host_operations rules) n) (host_operations rules (calls program (host_operations rules) n)) (calls-owned n) operate-owned part.statements r h)
        (λ u a le h hu. until-owned part.awaits a h))

    waits-owned : (f : AsyncFunction) (k p : ℕ) (q : Value) (m : Machine H) → owned m.host → Holds owning m (waits_for (around_at rules program n) f k p q m)
    waits-owned f k p q m g =
        given_any-holds owning (within_limits (ListValue (values_of (kept_values f p m)))) RangeError m _ g (λ l. operate-owned Then _ m g (tt, (tt, (tt, tt))))

    pub run-owned : (f : AsyncFunction) (k : ℕ) (part : Part) (p : ℕ) (v : Value) (m : Machine H) → owned m.host → Holds owning m (segment_run (around_at rules program n) f k part p v m)
    run-owned f k part p v m g =
        and_then-holds owning m (reached (around_at rules program n) part v m) (waits_for (around_at rules program n) f k p) (reached-owned part v m g) (λ q r le h hq. waits-owned f k p q r h)
