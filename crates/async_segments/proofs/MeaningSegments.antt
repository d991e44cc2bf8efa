-- The body of the function that a segment becomes, from a state in which a call of it has begun.
use Rattle.std.proofs.Common.{◌≡◌, ℕ, ◌+◌, Bool, true, false, List, [], ◌∷◌, map, Option, Some, None, refl, sym, ap, ◌∙◌}
use Rattle.std.specs.Prelude.{cond, codes, ◌&&◌, nat_le, unwrap_or, Ok}
use Rattle.page_types.specs.declared.FaultName.TheVariants.{RangeError}
use Rattle.page_types.specs.declared.Op.TheVariants.{Bind, ResolveOp, RejectOp, Resolved, Then}
use Rattle.page_types.specs.Values.{Value, UnitValue, ListValue, FunValue, PromiseValue, no_values, values_of}
use Rattle.page_types.specs.Tree.{Program, Expr, UnitLiteral, Name, Stmt, TryStmt, Block, no_stmts}
use Rattle.page_parts.specs.Words.{is_there}
use Rattle.page_parts.specs.Kinds.{within_limits, weight, nesting}
use Rattle.lang_meaning.specs.Machine.{Variable, Machine, Done, Gives, Throws, Returns, OutOfFuel, and_then, or_catch, given, finish, value_in, locals, assigned, with_local, with_value_in}
use Rattle.lang_meaning.specs.Evaluation.{Around, functions_of, number_of, answered, need, limited, call_of, eval, exec_block, without_first, end_of_call, calls}
use Rattle.lang_meaning.specs.HostSteps.{HostRules, with_host, host_operations}
use Rattle.async_segments.specs.Marked.{AwaitForm, Alone, Declared, Stored, Returned, followed_by}
use Rattle.async_segments.specs.Names.{new_name, segment_name, rejecting_name}
use Rattle.async_segments.specs.Expanded.{variable, variables, call, list, promise, awaited_value, one, resolves, rejects, all_in_segment, store, going_on, rejecting, waits}
use Rattle.async_segments.specs.Meaning.{AsyncFunction, names_of_locals, Part, stored_first, until_wait, reached, value_now, kept_values, function_number, waits_for, segment_run, settled, segment}
use Rattle.async_segments.specs.Promising.{AnswersAtOnce, Binds}
use Rattle.async_segments.proofs.MeaningServed.{TakesEnd, BindsAtWait, IsServed}
use Rattle.async_segments.proofs.MeaningCalls.{KeptBy, After, after-kept, stable-kept, and_then-kept, and_then-after, BlockAssigns, around_at, calls-kept, operations-kept, eval-kept}
use Rattle.async_segments.proofs.MeaningReturns.{IsOwn, alone, returns-stay, followed, at_once, TakesReturn, coded, left-after, return-coded, block-coded}
use Rattle.async_segments.proofs.MeaningVariables.{Fits, fits-stable, fits-assign, fits-new, fits-there, with-apart, with-here, eval-is, eval-function, AreThere, eval-all-now}

-- the block that stores the awaited value
abbrev pub store_block : Option AwaitForm → Block
store_block None = no_stmts
store_block (Some form) = store form

-- it assigns a name of the source
abbrev pub StoresOwn : Option AwaitForm → Type 0
StoresOwn None = Unit {0}
StoresOwn (Some Alone) = Unit {0}
StoresOwn (Some (Declared x)) = IsOwn x.name
StoresOwn (Some (Stored x)) = IsOwn x.name
StoresOwn (Some Returned) = Unit {0}

-- a value was awaited
abbrev pub IsAwaited : Option AwaitForm → List Variable → Value → Type 0
IsAwaited None xs v = Unit {0}
IsAwaited (Some form) xs v = value_in xs (codes "v__") ≡ Some v

-- the statement at the end of a segment
abbrev pub end_stmt : AsyncFunction → ℕ → Option Expr → Stmt
end_stmt f k None = resolves UnitLiteral
end_stmt f k (Some e) = waits f.name (names_of_locals f) (k + 1) e

-- the functions that a wait names are there, and no variable has their names
pub record IsFunction (program : Program) (xs globals : List Variable) (x : List ℕ) : Type 0 where
  pub local : is_there (value_in xs x) ≡ false
  pub global : is_there (value_in globals x) ≡ false
  pub number : is_there (number_of (functions_of program.items) x) ≡ true

abbrev pub AllThere : List (List ℕ) → List Variable → Type 0
AllThere [] vs = Unit {0}
AllThere (x ∷ xs) vs = (is_there (value_in vs x) ≡ true) × AllThere xs vs

-- what is known of a call of the segment that has begun with these variables
pub record IsBegun (program : Program) (f : AsyncFunction) (k : ℕ) (part : Part) (p : ℕ) (value : Value) (xs globals : List Variable) : Type 0 where
  pub promise : value_in xs (codes "p__") ≡ Some (PromiseValue p)
  pub awaited : IsAwaited part.stored xs value
  pub thrown : is_there (value_in xs (codes "e__")) ≡ true
  pub locals : AllThere (names_of_locals f) xs
  pub next : is_there part.awaits ≡ true → IsFunction program xs globals (segment_name f.name (k + 1))
  pub rejecting : is_there part.awaits ≡ true → IsFunction program xs globals (rejecting_name f.name)
  pub stores : StoresOwn part.stored
  pub assigns : BlockAssigns IsOwn part.statements

without-first-local : (xs : List (List Variable)) (x : List ℕ) (v : Value) → without_first (with_local xs x v) ≡ without_first xs
without-first-local [] x v = refl
without-first-local (a ∷ xs) x v = refl

module _ {H : Type 0} (rules : HostRules H) (program : Program) (n : ℕ) (f : AsyncFunction) (k : ℕ) (part : Part) (p : ℕ) (value : Value) (xs : List Variable) (rest : List (List Variable)) (globals : List Variable)
    (begun : IsBegun program f k part p value xs globals) where
  abbrev w : Around H
  w = around_at rules program n

  abbrev S : Machine H → Type 0
  S = Fits xs rest globals

  promised : (m : Machine H) → S m → value_in (locals m.open_calls) (codes "p__") ≡ Some (PromiseValue p)
  promised m s = fits-new xs rest globals m (codes "p__") refl s ∙ begun.promise

  abbrev coded_done : Done H → Done H
  coded_done = coded rules program n p S (fits-stable xs rest globals) (fits-assign xs rest globals) promised

  abbrev Takes : Done H → Type 0
  Takes = TakesReturn rules program n p S (fits-stable xs rest globals) (fits-assign xs rest globals) promised

  -- ---- the wait

  there : (names : List (List ℕ)) (m : Machine H) → S m → AllThere names xs → AreThere w names m
  there [] m s h = tt
  there (x ∷ more) m s h = (fits-there xs rest globals m x true h.0 s, there more m s h.1)

  function_value : (m : Machine H) (x : List ℕ) → S m → IsFunction program xs globals x → eval w (Name (new_name x)) m ≡ Gives (FunValue (function_number program x) no_values) m
  function_value m x s h = eval-function w m x (fits-there xs rest globals m x false h.local s) (s.names x ∙ h.global) h.number

  -- the promise of the call and the locals, in a list
  list-now : (m : Machine H) → S m → eval w (list (promise ∷ variables (names_of_locals f))) m ≡ limited (ListValue (values_of (kept_values f p m))) m
  list-now m s =
      eval-all-now w (codes "p__" ∷ names_of_locals f) [] (λ vs m. limited (ListValue (values_of vs)) m) m (fits-there xs rest globals m (codes "p__") true (ap is_there begun.promise) s, there (names_of_locals f) m s begun.locals)
      ∙ ap (λ v. limited (ListValue (values_of (v ∷ map (value_now m) (names_of_locals f)))) m) (ap (λ o. unwrap_or o UnitValue) (promised m s))

  -- the host binds
  binds-now : (g : ℕ) (vs : List Value) (m : Machine H) → Binds rules g vs m.host → w.operate Bind (FunValue g no_values ∷ ListValue (values_of vs) ∷ []) m ≡ Gives (FunValue g (values_of vs)) m
  binds-now g vs m b =
      at_once rules program n Bind refl (FunValue g no_values ∷ ListValue (values_of vs) ∷ []) m (FunValue g (values_of vs), ap (λ s. s.step) b)
      ∙ ap (λ s. Gives (FunValue g (values_of vs)) (with_host s.host m)) b

  -- what follows the promise that is waited for
  abbrev after_promise : Value → Machine H → Done H
  after_promise q m = and_then (eval w (going_on f.name (names_of_locals f) (k + 1)) m) (λ g m. and_then (eval w (rejecting f.name) m) (λ r m. w.operate Then (q ∷ g ∷ r ∷ []) m))

  -- a call of `bind`, from its two arguments on
  abbrev bind_from : Machine H → Value → Done H → Done H
  bind_from before g d = and_then d (λ l m. call_of w (codes "bind") before (g ∷ l ∷ []) m)

  going-on-now : (m : Machine H) → S m → is_there part.awaits ≡ true →
      eval w (going_on f.name (names_of_locals f) (k + 1)) m ≡ bind_from m (FunValue (function_number program (segment_name f.name (k + 1))) no_values) (limited (ListValue (values_of (kept_values f p m))) m)
  going-on-now m s e =
      ap (λ d. and_then d (λ g m'. and_then (eval w (list (promise ∷ variables (names_of_locals f))) m') (λ l m''. call_of w (codes "bind") m (g ∷ l ∷ []) m''))) (function_value m (segment_name f.name (k + 1)) s (begun.next e))
      ∙ ap (bind_from m (FunValue (function_number program (segment_name f.name (k + 1))) no_values)) (list-now m s)

  rejecting-now : (m : Machine H) → S m → is_there part.awaits ≡ true → Binds rules (function_number program (rejecting_name f.name)) (PromiseValue p ∷ []) m.host →
      eval w (rejecting f.name) m ≡ Gives (FunValue (function_number program (rejecting_name f.name)) (values_of (PromiseValue p ∷ []))) m
  rejecting-now m s e b =
      ap (λ d. and_then d (λ g m'. and_then (eval w (list (promise ∷ [])) m') (λ l m''. call_of w (codes "bind") m (g ∷ l ∷ []) m''))) (function_value m (rejecting_name f.name) s (begun.rejecting e))
      ∙ (ap (λ d. bind_from m (FunValue (function_number program (rejecting_name f.name)) no_values) (and_then d (λ v m. limited (ListValue (values_of (v ∷ []))) m))) (eval-is w m (codes "p__") (PromiseValue p) (promised m s))
      ∙ binds-now (function_number program (rejecting_name f.name)) (PromiseValue p ∷ []) m b)

  -- the next segment, and the function that rejects
  abbrev next_now : Machine H → Value
  next_now m = FunValue (function_number program (segment_name f.name (k + 1))) (values_of (kept_values f p m))

  abbrev rejecting_now : Value
  rejecting_now = FunValue (function_number program (rejecting_name f.name)) (values_of (PromiseValue p ∷ []))

  abbrev then_from : Value → Done H → Done H
  then_from q d = and_then d (λ g m'. and_then (eval w (rejecting f.name) m') (λ r m''. w.operate Then (q ∷ g ∷ r ∷ []) m''))

  limits-now : (q : Value) (m : Machine H) → S m → is_there part.awaits ≡ true → (fits : Bool) → (is_there (cond fits (Some (ListValue (values_of (kept_values f p m)))) None) ≡ true →
      Binds rules (function_number program (segment_name f.name (k + 1))) (kept_values f p m) m.host × Binds rules (function_number program (rejecting_name f.name)) (PromiseValue p ∷ []) m.host) →
      then_from q (bind_from m (FunValue (function_number program (segment_name f.name (k + 1))) no_values) (answered (need (cond fits (Some (ListValue (values_of (kept_values f p m)))) None) RangeError Ok) m))
      ≡ given (cond fits (Some (ListValue (values_of (kept_values f p m)))) None) RangeError m (λ l m'. w.operate Then (q ∷ next_now m ∷ rejecting_now ∷ []) m')
  limits-now q m s e false h = refl
  limits-now q m s e true h =
      let b = h refl in
      ap (then_from q) (binds-now (function_number program (segment_name f.name (k + 1))) (kept_values f p m) m b.0)
      ∙ ap (λ d. and_then d (λ r m'. w.operate Then (q ∷ next_now m ∷ r ∷ []) m')) (rejecting-now m s e b.1)

  after-promise-now : (q : Value) (m : Machine H) → S m → is_there part.awaits ≡ true → BindsAtWait rules program f k p (Gives q m) → after_promise q m ≡ waits_for w f k p q m
  after-promise-now q m s e b =
      ap (then_from q) (going-on-now m s e)
      ∙ limits-now q m s e (nat_le (weight (ListValue (values_of (kept_values f p m)))) 65536 && nat_le (nesting (ListValue (values_of (kept_values f p m)))) 64) b

  kept : (e : Expr) (m : Machine H) → S m → KeptBy S (eval w e m)
  kept = eval-kept w (calls-kept rules program n) (operations-kept rules (calls program (host_operations rules) n) (calls-kept rules program n)) S (fits-stable xs rest globals)

  -- ---- the end of the call

  abbrev handler : Value → Machine H → Done H
  handler v m = exec_block w (one (rejects (variable (codes "e__")))) (assigned m (codes "e__") v)

  -- the end of the call, by how the block in `try` ended
  abbrev ended : Done H → Done H
  ended d = end_of_call (alone (or_catch d handler))

  ended-alone : (d : Done H) → ended (alone d) ≡ ended d
  ended-alone (Gives v m) = refl
  ended-alone (Throws v m) = refl
  ended-alone (Returns v m) = refl
  ended-alone (OutOfFuel m) = refl

  -- the state in which a thrown value was caught
  abbrev caught : Value → Machine H → Machine H
  caught v m = record m { open_calls = with_local m.open_calls (codes "e__") v }

  caught-is : (v : Value) (m : Machine H) → S m → assigned m (codes "e__") v ≡ caught v m
  caught-is v m s = ap (λ b. cond b (record m { open_calls = with_local m.open_calls (codes "e__") v }) (record m { globals = with_value_in m.globals (codes "e__") v })) (fits-there xs rest globals m (codes "e__") true begun.thrown s)

  promise-caught : (v : Value) (m : Machine H) → S m → value_in (locals (caught v m).open_calls) (codes "p__") ≡ Some (PromiseValue p)
  promise-caught v m s = ap (λ z. value_in (locals (with_local z (codes "e__") v)) (codes "p__")) s.is_open ∙ (with-apart s.frame (codes "e__") v (codes "p__") refl ∙ (s.new (codes "p__") refl ∙ begun.promise))

  thrown-caught : (v : Value) (m : Machine H) → S m → value_in (locals (caught v m).open_calls) (codes "e__") ≡ Some v
  thrown-caught v m s = ap (λ z. value_in (locals (with_local z (codes "e__") v)) (codes "e__")) s.is_open ∙ with-here s.frame (codes "e__") v (s.same (codes "e__") ∙ begun.thrown)

  rejects-caught : (v : Value) (m : Machine H) → S m → eval w (call (codes "reject") (promise ∷ variable (codes "e__") ∷ [])) (caught v m) ≡ w.operate RejectOp (PromiseValue p ∷ v ∷ []) (caught v m)
  rejects-caught v m s =
      ap (λ d. and_then d (λ u m'. and_then (eval w (variable (codes "e__")) m') (λ x m''. call_of w (codes "reject") (caught v m) (u ∷ x ∷ []) m''))) (eval-is w (caught v m) (codes "p__") (PromiseValue p) (promise-caught v m s))
      ∙ ap (λ d. and_then d (λ x m''. call_of w (codes "reject") (caught v m) (PromiseValue p ∷ x ∷ []) m'')) (eval-is w (caught v m) (codes "e__") v (thrown-caught v m s))

  -- a thrown value rejects the promise
  rejected : (v : Value) (m : Machine H) → S m → AnswersAtOnce rules RejectOp (PromiseValue p ∷ v ∷ []) m.host → ended (Throws v m) ≡ end_of_call (w.operate RejectOp (PromiseValue p ∷ v ∷ []) m)
  rejected v m s a =
      ap (λ m'. end_of_call (alone (exec_block w (one (rejects (variable (codes "e__")))) m'))) (caught-is v m s)
      ∙ (ap (λ d. end_of_call (alone (alone (alone d)))) (rejects-caught v m s)
      ∙ (ap (λ d. end_of_call (alone (alone (alone d)))) (at_once rules program n RejectOp refl (PromiseValue p ∷ v ∷ []) (caught v m) a)
      ∙ (ap (λ calls. Gives UnitValue (record m { open_calls = calls; host = (rules.op RejectOp (PromiseValue p ∷ v ∷ []) m.host).host })) (without-first-local m.open_calls (codes "e__") v)
      ∙ sym (ap end_of_call (at_once rules program n RejectOp refl (PromiseValue p ∷ v ∷ []) m a)))))

  -- how the segment ends, and how its function does
  settled-end : (d : Done H) → After S d → TakesEnd rules p d → ended (coded_done d) ≡ end_of_call (settled w p d)
  settled-end (Gives v m) s t = refl
  settled-end (Throws v m) s t = rejected v m s t
  settled-end (Returns v m) s t =
      let e = at_once rules program n ResolveOp refl (PromiseValue p ∷ v ∷ []) m t in
      ap (λ d. ended (and_then d (λ u m. Returns UnitValue m))) e ∙ sym (ap end_of_call e)
  settled-end (OutOfFuel m) s t = refl

  -- ---- the parts of the body, the last first

  coded-kept : (d : Done H) → KeptBy S d → coded_done d ≡ d
  coded-kept (Gives v m) h = refl
  coded-kept (Throws v m) h = refl
  coded-kept (Returns v m) h = absurd h
  coded-kept (OutOfFuel m) h = refl

  waits-kept : (q : Value) (m : Machine H) → S m → KeptBy S (waits_for w f k p q m)
  waits-kept q m s = by_limits (within_limits (ListValue (values_of (kept_values f p m))))
    where
      by_limits : (o : Option Value) → KeptBy S (given o RangeError m (λ l m'. w.operate Then (q ∷ next_now m ∷ rejecting_now ∷ []) m'))
      by_limits None = s
      by_limits (Some l) = stable-kept S (fits-stable xs rest globals) m s _ (operations-kept rules (calls program (host_operations rules) n) (calls-kept rules program n) Then _ m)

  waiting-kept : (e : Expr) (m : Machine H) → S m → KeptBy S (until_wait w (Some e) m)
  waiting-kept e m s = and_then-kept S (eval w e m) _ (kept e m s) (λ v m s. stable-kept S (fits-stable xs rest globals) m s _ (operations-kept rules (calls program (host_operations rules) n) (calls-kept rules program n) Resolved (v ∷ []) m))

  after-wait : (d : Done H) → KeptBy S d → is_there part.awaits ≡ true → BindsAtWait rules program f k p d → and_then d after_promise ≡ and_then d (waits_for w f k p)
  after-wait (Gives q m) s e b = after-promise-now q m s e b
  after-wait (Throws v m) s e b = refl
  after-wait (Returns v m) s e b = refl
  after-wait (OutOfFuel m) s e b = refl

  end-by : (awaits : Option Expr) → part.awaits ≡ awaits → (m : Machine H) → S m → TakesEnd rules p (and_then (until_wait w awaits m) (waits_for w f k p)) → BindsAtWait rules program f k p (until_wait w awaits m) →
      ended (exec_block w (one (end_stmt f k awaits)) m) ≡ ended (coded_done (and_then (until_wait w awaits m) (waits_for w f k p)))
  end-by None is m s t b =
      let a = at_once rules program n ResolveOp refl (PromiseValue p ∷ UnitValue ∷ []) m t in
      ap (λ d. ended (alone (alone (and_then d (λ v m'. call_of w (codes "resolve") m (v ∷ UnitValue ∷ []) m'))))) (eval-is w m (codes "p__") (PromiseValue p) (promised m s))
      ∙ (ap (λ d. ended (alone (alone d))) a ∙ sym (ap (λ d. ended (and_then d (λ u m. Returns UnitValue m))) a))
  end-by (Some e) is m s t b =
      ended-alone (alone (and_then (until_wait w (Some e) m) after_promise))
      ∙ (ended-alone (and_then (until_wait w (Some e) m) after_promise)
      ∙ (ap ended (after-wait (until_wait w (Some e) m) (waiting-kept e m s) (ap is_there is) b)
      ∙ sym (ap ended (coded-kept (and_then (until_wait w (Some e) m) (waits_for w f k p)) (and_then-kept S (until_wait w (Some e) m) _ (waiting-kept e m s) waits-kept)))))

  takes-early : (d : Done H) (next next' : Value → Machine H → Done H) → TakesEnd rules p (and_then (and_then d next) next') → Takes d
  takes-early (Gives v m) next next' t = tt
  takes-early (Throws v m) next next' t = tt
  takes-early (Returns v m) next next' t = t
  takes-early (OutOfFuel m) next next' t = tt

  -- what comes behind a part of the body
  behind : (d : Done H) (next next' : Value → Machine H → Done H) → After S d → TakesEnd rules p (and_then (and_then d next') (waits_for w f k p)) → BindsAtWait rules program f k p (and_then d next') →
      ((v : Value) (m : Machine H) → S m → TakesEnd rules p (and_then (next' v m) (waits_for w f k p)) → BindsAtWait rules program f k p (next' v m) → ended (next v m) ≡ ended (coded_done (and_then (next' v m) (waits_for w f k p)))) →
      ended (and_then (coded_done d) next) ≡ ended (coded_done (and_then (and_then d next') (waits_for w f k p)))
  behind (Gives v m) next next' s t b q = q v m s t b
  behind (Throws v m) next next' s t b q = refl
  behind (Returns v m) next next' s t b q = ap ended (returns-stay (w.operate ResolveOp (PromiseValue p ∷ v ∷ []) m) UnitValue next)
  behind (OutOfFuel m) next next' s t b q = refl

  -- the statements and the end
  statements-end : (m : Machine H) → S m → TakesEnd rules p (and_then (and_then (exec_block w part.statements m) (λ u m. until_wait w part.awaits m)) (waits_for w f k p)) →
      BindsAtWait rules program f k p (and_then (exec_block w part.statements m) (λ u m. until_wait w part.awaits m)) →
      ended (exec_block w (followed_by (all_in_segment part.statements) (one (end_stmt f k part.awaits))) m)
      ≡ ended (coded_done (and_then (and_then (exec_block w part.statements m) (λ u m. until_wait w part.awaits m)) (waits_for w f k p)))
  statements-end m s t b =
      ap ended (followed w (all_in_segment part.statements) (one (end_stmt f k part.awaits)) m)
      ∙ (ap (λ d. ended (and_then d (λ u m. exec_block w (one (end_stmt f k part.awaits)) m)))
      (block-coded rules program n p S (fits-stable xs rest globals) (fits-assign xs rest globals) promised part.statements begun.assigns m s (takes-early (exec_block w part.statements m) (λ u m. until_wait w part.awaits m) (waits_for w f k p) t))
      ∙ behind (exec_block w part.statements m) (λ u m. exec_block w (one (end_stmt f k part.awaits)) m) (λ u m. until_wait w part.awaits m)
      (left-after rules program n p S (fits-stable xs rest globals) (fits-assign xs rest globals) promised part.statements begun.assigns m s) t b (λ u m s t b. end-by part.awaits refl m s t b))

  -- the awaited value is stored
  stores-after : (stored : Option AwaitForm) → StoresOwn stored → (m : Machine H) → S m → After S (stored_first stored value m)
  stores-after None own m s = s
  stores-after (Some Alone) own m s = s
  stores-after (Some (Declared x)) own m s = fits-assign xs rest globals m x.name value own s
  stores-after (Some (Stored x)) own m s = fits-assign xs rest globals m x.name value own s
  stores-after (Some Returned) own m s = s

  value-now : (m : Machine H) → S m → value_in xs (codes "v__") ≡ Some value → eval w awaited_value m ≡ Gives value m
  value-now m s e = eval-is w m (codes "v__") value (fits-new xs rest globals m (codes "v__") refl s ∙ e)

  store-coded : (stored : Option AwaitForm) → IsAwaited stored xs value → (m : Machine H) → S m → exec_block w (store_block stored) m ≡ coded_done (stored_first stored value m)
  store-coded None e m s = refl
  store-coded (Some Alone) e m s = refl
  store-coded (Some (Declared x)) e m s = ap (λ d. alone (and_then d (λ v m. finish (assigned m x.name v)))) (value-now m s e)
  store-coded (Some (Stored x)) e m s = ap (λ d. alone (and_then d (λ v m. finish (assigned m x.name v)))) (value-now m s e)
  store-coded (Some Returned) e m s =
      return-coded rules program n p S (fits-stable xs rest globals) (fits-assign xs rest globals) promised awaited_value m s
      ∙ ap (λ d. coded_done (alone (and_then d Returns))) (value-now m s e)

  -- the body of the segment's function
  abbrev pub body_block : Block
  body_block = followed_by (store_block part.stored) (followed_by (all_in_segment part.statements) (one (end_stmt f k part.awaits)))

  body-ended : (m : Machine H) → S m → IsServed rules w f k part p value m → ended (exec_block w body_block m) ≡ ended (coded_done (segment_run w f k part p value m))
  body-ended m s served =
      ap ended (followed w (store_block part.stored) (followed_by (all_in_segment part.statements) (one (end_stmt f k part.awaits))) m)
      ∙ (ap (λ d. ended (and_then d (λ u m. exec_block w (followed_by (all_in_segment part.statements) (one (end_stmt f k part.awaits))) m))) (store-coded part.stored begun.awaited m s)
      ∙ behind (stored_first part.stored value m) (λ u m. exec_block w (followed_by (all_in_segment part.statements) (one (end_stmt f k part.awaits))) m)
      (λ u m. and_then (exec_block w part.statements m) (λ u m. until_wait w part.awaits m)) (stores-after part.stored begun.stores m s) served.settles served.binds (λ u m s t b. statements-end m s t b))

  run-after : (m : Machine H) → S m → After S (segment_run w f k part p value m)
  run-after m s =
      and_then-after S (reached w part value m) (waits_for w f k p)
      (and_then-after S (stored_first part.stored value m) _ (stores-after part.stored begun.stores m s)
      (λ u m s. and_then-after S (exec_block w part.statements m) _
      (left-after rules program n p S (fits-stable xs rest globals) (fits-assign xs rest globals) promised part.statements begun.assigns m s)
      (λ u m s. until-after part.awaits m s)))
      (λ q m s. after-kept S (waits_for w f k p q m) (waits-kept q m s))
    where
      until-after : (awaits : Option Expr) (m : Machine H) → S m → After S (until_wait w awaits m)
      until-after None m s = s
      until-after (Some e) m s = after-kept S (until_wait w (Some e) m) (waiting-kept e m s)

  -- the function of a segment does what the segment does
  pub body-is-segment : (m : Machine H) → S m → IsServed rules w f k part p value m →
      end_of_call (exec_block w (one (TryStmt body_block (new_name (codes "e__")) (one (rejects (variable (codes "e__")))))) m) ≡ end_of_call (segment w f k part p value m)
  body-is-segment m s served = body-ended m s served ∙ settled-end (segment_run w f k part p value m) (run-after m s) served.settles
