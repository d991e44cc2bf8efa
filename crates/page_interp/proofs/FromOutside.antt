-- Calls from outside of the script, in the words of its meaning.
use Rattle.std.proofs.Common.{◌≡◌, ℕ, zero, suc, ◌≤◌, List, [], Option, Some, None, refl, sym, ap, ◌∙◌, subst}
use Rattle.std.specs.Prelude.{slice_get}
use Rattle.page_types.specs.Values as Model
use Rattle.page_types.specs.Tree.{Program}
use Rattle.page_values.specs.declared.Value.{Value}
use Rattle.lang_meaning.specs.Machine.{Machine, Done, Gives, Throws, Returns, OutOfFuel, done_hosted, with_fuel, Operations}
use Rattle.lang_meaning.specs.Evaluation as E
use Rattle.lang_meaning.specs.Evaluation.{calls, body_of_call, end_of_call, unit_variables, first_globals}
use Rattle.lang_meaning.specs.HostSteps.{HostRules, Ask, host_operations}
use Rattle.lang_meaning.specs.Asks.{Limited, limited_host, limited, limited_operations}
use Rattle.lang_meaning.proofs.Unlimited.{unlimited-follows}
use Rattle.lang_ast.specs.Hosts.{HostNow}
use Rattle.page_interp.specs.declared.exit.Store.{Store}
use Rattle.page_interp.specs.declared.machine.Ran.{Ran}
use Rattle.page_interp.specs.declared.machine.Stopped.{Stopped}
use Rattle.page_interp.specs.MachineNow.{MachineNow}
use Rattle.page_interp.specs.Machines.{bound_args, ran_left, Means}
use Rattle.page_interp.specs.Variables.{globals_of}
use Rattle.page_values.specs.declared.Func.{Func}
use Rattle.lang_ast.specs.declared.program.Program.{Program as Script}
use Rattle.lang_ast.specs.SeenProgram.{seen_program}
use Rattle.std.specs.declared.alloc.Global.{Global}
use Rattle.std.specs.Prelude.{Vec, Result}
use Rattle.page_interp.specs.Runs.{Ended, done, Left, ends, refused, no_memory, gives, throws, returns, no_fuel, Is, more, Comes, Stands, IsDry, WhereSettled, Refuses, LeftIsNumbered, AreNumberedIn, outside, count_of_functions, global_names, variables_of, IsReady, moment_of, machine_of, Runs, caller_of, as_called}
use Rattle.page_interp.proofs.Numbered.{units_numbered}

-- no call ends in a `return` of its caller

end_returns : {T : Type 0} (d : Done T) (v : Model.Value) (m : Machine T) → end_of_call d ≡ Returns v m → ⊥
end_returns (Gives w n) v m e = cc
end_returns (Throws w n) v m e = cc
end_returns (Returns w n) v m e = cc
end_returns (OutOfFuel n) v m e = cc

body_returns : {T : Type 0} (w : E.Around T) (o : Option E.Function) (args : List Model.Value) (n : Machine T) (v : Model.Value) (m : Machine T) → body_of_call w o args n ≡ Returns v m → ⊥
body_returns w None args n v m e = end_returns _ v m e
body_returns w (Some f) args n v m e = end_returns _ v m e

unit_returns : {T : Type 0} (k : ℕ) (n : Machine T) (next : Machine T → Done T) (v : Model.Value) (m : Machine T) → ((n : Machine T) → next n ≡ Returns v m → ⊥) → with_fuel k n next ≡ Returns v m → ⊥
unit_returns zero n next v m no_return e = cc
unit_returns (suc k) n next v m no_return e = no_return _ e

never_returns : {T : Type 0} (p : Program) (operations : Operations T) (n f : ℕ) (args : List Model.Value) (a : Machine T) (v : Model.Value) (m : Machine T) → calls p operations n f args a ≡ Returns v m → ⊥
never_returns p operations zero f args a v m e = cc
never_returns p operations (suc n) f args a v m e = unit_returns a.fuel a _ v m (λ b. body_returns (E.around p operations (calls p operations n)) (slice_get (E.functions_of p.items) f) args b v m) e

called_meaning : {T S : Type 0} (l : Left S) (d : Done T) (m : Machine T) → ((v : Model.Value) → d ≡ Returns v m → ⊥) → Is d l m → Is d (as_called l) m
called_meaning (ends (gives v)) d m never h = h
called_meaning (ends (throws v)) d m never h = h
called_meaning (ends (returns v)) d m never h = absurd (never v h)
called_meaning (ends no_fuel) d m never h = h
called_meaning (refused stop) d m never h = tt
called_meaning no_memory d m never h = tt

called_refuses : {S : Type 0} (l : Left S) (a b : ℕ) (last : Option S) → Refuses l a b last → Refuses (as_called l) a b last
called_refuses (ends (gives v)) a b last h = h
called_refuses (ends (throws v)) a b last h = h
called_refuses (ends (returns v)) a b last h = h
called_refuses (ends no_fuel) a b last h = h
called_refuses (refused stop) a b last h = h
called_refuses no_memory a b last h = h

called_settled : {S : Type 0} (X : Type 0) (l : Left S) → WhereSettled l X → WhereSettled (as_called l) X
called_settled X (ends (gives v)) h = h
called_settled X (ends (throws v)) h = h
called_settled X (ends (returns v)) h = h
called_settled X (ends no_fuel) h = h
called_settled X (refused stop) h = h
called_settled X no_memory h = h

called_numbered : {S : Type 0} (count : ℕ) (l : Left S) → LeftIsNumbered count l → LeftIsNumbered count (as_called l)
called_numbered count (ends (gives v)) h = h
called_numbered count (ends (throws v)) h = h
called_numbered count (ends (returns v)) h = h
called_numbered count (ends no_fuel) h = h
called_numbered count (refused stop) h = h
called_numbered count no_memory h = h

called_stands : {T S : Type 0} (R : HostRules T) (leaves : Ask → T → T → Type 0) (f : Machine (Limited T) → Done (Limited T)) (a : Machine T) (told : T) (l : Left S) → Stands R leaves l f a told → Stands R leaves (as_called l) f a told
called_stands R leaves f a told (ends (gives v)) h = h
called_stands R leaves f a told (ends (throws v)) h = h
called_stands R leaves f a told (ends (returns v)) h = h
called_stands R leaves f a told (ends no_fuel) h = h
called_stands R leaves f a told (refused stop) h = h
called_stands R leaves f a told no_memory h = h

called_dry : {S : Type 0} (l : Left S) (fuel : ℕ) → IsDry l fuel → IsDry (as_called l) fuel
called_dry (ends (gives v)) fuel h = h
called_dry (ends (throws v)) fuel h = h
called_dry (ends (returns v)) fuel h = h
called_dry (ends no_fuel) fuel h = h
called_dry (refused stop) fuel h = h
called_dry no_memory fuel h = h

-- around a host that is asked any number of times a script ends as around the host itself

more_none : (n : ℕ) → more n None ≡ None
more_none zero = refl
more_none (suc n) = rw (more_none n) refl

itself : {T : Type 0} → Limited T → T
itself h = h.host

itself_end : {T : Type 0} (d : Done T) → done_hosted itself (done_hosted (limited_host None) d) ≡ d
unfolding itself
itself_end (Gives v m) = refl
itself_end (Throws v m) = refl
itself_end (Returns v m) = refl
itself_end (OutOfFuel m) = refl

itself_done : {T : Type 0} (e : Ended) (m : Machine T) → done_hosted itself (done e (limited None m)) ≡ done e m
unfolding itself
itself_done (gives v) m = refl
itself_done (throws v) m = refl
itself_done (returns v) m = refl
itself_done no_fuel m = refl

ends_itself : {T : Type 0} (d : Done T) (e : Ended) (m : Machine T) → done_hosted (limited_host None) d ≡ done e (limited None m) → d ≡ done e m
ends_itself d e m q = sym (itself_end d) ∙ ap (done_hosted itself) q ∙ itself_done e m

module _ {T S : Type 0} (R : HostRules T) (p : Program) where
  itself_meaning : (f : ℕ) (args : List Model.Value) (a b : Machine T) (l : Left S) → Comes (calls p (limited_operations R) 256 f args) a l b → Is (calls p (host_operations R) 256 f args a) l b
  itself_meaning f args a b (ends e) y =
      ends_itself (calls p (host_operations R) 256 f args a) e b
      (sym (unlimited-follows R p 256 f args a) ∙ subst (λ k. calls p (limited_operations R) 256 f args (limited k a) ≡ done e (limited None b)) (more_none y.asks) (y.ends None))
  itself_meaning f args a b (refused stop) y = tt
  itself_meaning f args a b no_memory y = tt

  pub outside_meaning : {leaves : Ask → T → T → Type 0} (h h' : HostNow T S) (store store' : Store) (f : ℕ) (args all : List Model.Value) (l left : Left S) → all ≡ args → left ≡ as_called l
      → Runs (outside R leaves p) (caller_of R p 0 f all) (moment_of p h store []) l (moment_of p h' store' [])
      → Is (calls p (host_operations R) 256 f args (machine_of p h.told store [])) left (machine_of p h'.told store' [])
  unfolding moment_of caller_of
  outside_meaning h h' store store' f args all l left e q r =
      subst (λ l. Is (calls p (host_operations R) 256 f args (machine_of p h.told store [])) l (machine_of p h'.told store' [])) (sym q)
      (called_meaning l _ _ (λ v. never_returns p (host_operations R) 256 f args (machine_of p h.told store []) v (machine_of p h'.told store' []))
      (subst (λ vs. Is (calls p (host_operations R) 256 f vs (machine_of p h.told store [])) l (machine_of p h'.told store' [])) e (itself_meaning f all (machine_of p h.told store []) (machine_of p h'.told store' []) l r.meaning)))

  -- the same of a machine that is seen so
  pub outside_means : {leaves : Ask → T → T → Type 0} (script : Script) (before : MachineNow) (h h' : HostNow T S) (store store' : Store) (fun : Func) (args : Vec Value Global) (all : List Model.Value) (result : Result Ran (Stopped S)) (l : Left S)
      → p ≡ seen_program script → record { script = script; globals = globals_of script store } ≡ before → all ≡ bound_args fun args → ran_left result ≡ as_called l
      → Runs (outside R leaves p) (caller_of R p 0 fun.function all) (moment_of p h store []) l (moment_of p h' store' [])
      → Means R before store.fuel h fun args result (record { script = script; globals = globals_of script store' }) store'.fuel h'
  outside_means script before h h' store store' fun args all result l s v e q r =
      subst (λ m. Means R m store.fuel h fun args result (record { script = script; globals = globals_of script store' }) store'.fuel h') v
      (subst (λ p. Is (calls p (host_operations R) 256 fun.function (bound_args fun args) (machine_of p h.told store [])) (ran_left result) (machine_of p h'.told store' [])) s
      (outside_meaning h h' store store' fun.function (bound_args fun args) all l (ran_left result) e q r))

  pub outside_stands : {leaves : Ask → T → T → Type 0} (h h' : HostNow T S) (store store' : Store) (f : ℕ) (args all : List Model.Value) (l left : Left S) → all ≡ args → left ≡ as_called l
      → Runs (outside R leaves p) (caller_of R p 0 f all) (moment_of p h store []) l (moment_of p h' store' [])
      → Stands R leaves left (calls p (limited_operations R) 256 f args) (machine_of p h.told store []) h'.told
  unfolding moment_of caller_of
  outside_stands {leaves = leaves} h h' store store' f args all l left e q r =
      subst (λ l. Stands R leaves l (calls p (limited_operations R) 256 f args) (machine_of p h.told store []) h'.told) (sym q)
      (called_stands R leaves (calls p (limited_operations R) 256 f args) (machine_of p h.told store []) h'.told l (subst (λ vs. Stands R leaves l (calls p (limited_operations R) 256 f vs) (machine_of p h.told store []) h'.told) e r.stands))

module _ {T S : Type 0} {R : HostRules T} {leaves : Ask → T → T → Type 0} (p : Program) where
  pub outside_refusals : {g : Machine (Limited T) → Done (Limited T)} (h h' : HostNow T S) (store store' : Store) (l left : Left S) → left ≡ as_called l → Runs (outside R leaves p) g (moment_of p h store []) l (moment_of p h' store' []) → Refuses left h.refusals h'.refusals h'.last_stop
  unfolding moment_of
  outside_refusals h h' store store' l left q r = subst (λ l. Refuses l h.refusals h'.refusals h'.last_stop) (sym q) (called_refuses l h.refusals h'.refusals h'.last_stop r.refusals)

  pub outside_tickets : {g : Machine (Limited T) → Done (Limited T)} (h h' : HostNow T S) (store store' : Store) (l left : Left S) → left ≡ as_called l → Runs (outside R leaves p) g (moment_of p h store []) l (moment_of p h' store' []) → WhereSettled left (h'.tickets ≡ h.tickets)
  unfolding moment_of
  outside_tickets h h' store store' l left q r = subst (λ l. WhereSettled l (h'.tickets ≡ h.tickets)) (sym q) (called_settled (h'.tickets ≡ h.tickets) l r.tickets)

  pub outside_dry : {g : Machine (Limited T) → Done (Limited T)} (h h' : HostNow T S) (store store' : Store) (l left : Left S) → left ≡ as_called l → Runs (outside R leaves p) g (moment_of p h store []) l (moment_of p h' store' []) → IsDry left store'.fuel
  unfolding moment_of
  outside_dry h h' store store' l left q r = subst (λ l. IsDry l store'.fuel) (sym q) (called_dry l store'.fuel r.dry)

  pub outside_numbered : {g : Machine (Limited T) → Done (Limited T)} (h h' : HostNow T S) (store store' : Store) (l left : Left S) → left ≡ as_called l → Runs (outside R leaves p) g (moment_of p h store []) l (moment_of p h' store' []) → LeftIsNumbered (count_of_functions p) left
  outside_numbered h h' store store' l left q r = subst (λ l. LeftIsNumbered (count_of_functions p) l) (sym q) (called_numbered (count_of_functions p) l r.numbered)

  pub first_ready : (h : HostNow T S) (store : Store) → h.functions ≡ count_of_functions p → store.fuel ≤ h.room → AreNumberedIn (count_of_functions p) (variables_of (global_names p) store.globals.items) → IsReady (outside R leaves p) (moment_of p h store [])
  unfolding moment_of
  first_ready h store f r g = record { functions = f; room = r; globals = g; held = tt }

  pub globals_ready : (h : HostNow T S) (store : Store) → IsReady (outside R leaves p) (moment_of p h store []) → AreNumberedIn (count_of_functions p) (variables_of (global_names p) store.globals.items)
  unfolding moment_of
  globals_ready h store k = k.globals

-- before the first call

pub first_numbered : (count : ℕ) (p : Program) (names : List (List ℕ)) (vs : List Value) → names ≡ global_names p → variables_of names vs ≡ unit_variables names → AreNumberedIn count (variables_of (global_names p) vs)
first_numbered count p names vs n e = subst (λ xs. AreNumberedIn count (variables_of xs vs)) n (subst (λ xs. AreNumberedIn count xs) (sym e) (units_numbered count names))

pub globals_first : (p q : Program) (names : List (List ℕ)) (vs : List Value) → names ≡ global_names p → variables_of names vs ≡ unit_variables names → p ≡ q → variables_of (global_names p) vs ≡ first_globals q
globals_first p q names vs n e same = subst (λ q. variables_of (global_names p) vs ≡ first_globals q) same (subst (λ xs. variables_of xs vs ≡ unit_variables xs) n e)
