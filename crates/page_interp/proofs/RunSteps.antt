-- Steps that do not ask the host, as steps of a run.
use Rattle.std.proofs.Common.{◌≡◌, ℕ, suc, ◌+◌, ◌*◌, ◌<◌, ◌≤◌, List, [], ◌∷◌, ◌++◌, map, true, Option, Some, None, Result, Ok, Err, IfOk, IfErr, Vec, Global, refl, sym, ap, ◌∙◌, arith}
use Rattle.std.specs.Borrow.{Bor}
use Rattle.std.specs.Option.{option_map}
use Rattle.page_types.specs.declared.FaultName.{FaultName}
use Rattle.page_types.specs.Values as Model
use Rattle.page_types.specs.Values.{FaultValue, items_of}
use Rattle.page_types.specs.Tree.{Program}
use Rattle.page_parts.specs.Kinds.{Func, bool_in}
use Rattle.page_values.specs.declared.Value.{Value}
use Rattle.page_values.specs.declared.Value.TheVariants as value
use Rattle.page_values.specs.Seen.{seen}
use Rattle.lang_ast.specs.declared.tree.Expr.{Expr}
use Rattle.lang_ast.specs.declared.tree.Stmt.{Stmt}
use Rattle.lang_ast.specs.Hosts.{HostNow}
use Rattle.lang_ast.specs.Steps.{AllNumbered}
use Rattle.lang_meaning.specs.Machine as M
use Rattle.lang_meaning.specs.Machine.{Machine}
use Rattle.std.proofs.Common.{subst}
use Rattle.lang_meaning.specs.Evaluation.{Around, without_first, Function, functions_of, exec_block, end_of_call}
use Rattle.std.proofs.Common.{slice_get, ◌^◌}
use Rattle.page_types.specs.Tree.{Block}
use Rattle.lang_ast.specs.Calls.{CallsFit}
use Rattle.lang_ast.specs.Names.{in_block}
use Rattle.lang_ast.specs.Sizes.{block_size}
use Rattle.lang_meaning.specs.HostSteps.{HostRules, Ask, CallbackEnd}
use Rattle.lang_meaning.specs.Asks.{Limited, limited, limited_host, unasked}
use Rattle.page_interp.specs.declared.exit.Exit.{Exit}
use Rattle.page_interp.specs.declared.exit.Exit.TheVariants as exit
use Rattle.page_interp.specs.declared.exit.Store.{Store}
use Rattle.page_interp.specs.declared.stack.Current.{Current}
use Rattle.page_interp.specs.declared.stack.Focus.{Focus}
use Rattle.page_interp.specs.declared.stack.Focus.TheVariants as focus
use Rattle.page_interp.specs.declared.stack.Frame.{Frame}
use Rattle.page_interp.specs.declared.stack.Frame.TheVariants as frame
use Rattle.page_interp.specs.Runs.{Left, ends, refused, no_memory, gives, throws, returns, no_fuel, WhereSettled, IsUnsettled, variables_of, machine_of, IsReady, Runs, outside, moment_of, exit_left, call_left, func_of, caller_of, around_of, call_given, count_of_functions}
use Rattle.page_interp.specs.Sizes.{program_size}
use Rattle.page_interp.specs.AtOnce.{Leads, EndsWanting, tested_at}
use Rattle.page_interp.specs.Frames.{does, first, goes_on, resumes, waiting_at, Leaves, IsBody, call_body, call_variables, FocusIsSound, focus_size, depth_of, after_all, meaning_at, state_at, HaveTurns, focus_weight, frames_weight, steps_left, place, Place, Holds, Goes, Moves, IsWant, Opens, IsUncalled, IsCallable, Stood, Gets, Advances, Finishes, Steps}
use Rattle.page_interp.proofs.Steps.{still}
use Rattle.page_interp.proofs.Calls.{given_none, given_some, deep_call, dry_call}
use Rattle.page_interp.proofs.FrameSteps.{after_dry, turns_less}
use Rattle.page_interp.proofs.AskSteps.{asks_trans, asks_same, asks_runs, never_settled, goes_advances, halts_finishes, memory_ends, memory_finishes, dry_finishes}
use Rattle.page_interp.proofs.OpenSteps.{call_opens as call_opens_at, variables_numbered, body_small}
use Rattle.page_interp.proofs.Bodies.{bound_numbered}
use Rattle.page_interp.proofs.Numbered.{all_append}

module _ {T S : Type 0} (rules : HostRules T) (leaves : Ask → T → T → Type 0) (p : Program) (h : HostNow T S) where
  pub steps_goes : (result : Result Focus (Exit S)) (a : Place) (store1 : Store) (current1 : Current) (fs1 : List Frame) → IfOk result (λ f. Holds p a → Goes rules p a (place store1 current1 fs1 f)) → IfErr result (λ x. x ≡ exit.OutOfMemory)
      → store1.globals ≡ a.store.globals → store1.fuel ≤ a.store.fuel → Steps rules leaves p h a result h store1 current1 fs1
  steps_goes (Ok f) a store1 current1 fs1 g e gl l = λ ts st. goes_advances rules leaves p ts h a (place store1 current1 fs1 f) st (g st.holds)
  steps_goes (Err x) a store1 current1 fs1 g e gl l = λ ts st. rw e (memory_finishes rules leaves p ts (λ d. does d a.focus) h a store1 st.ready gl l)

  pub steps_moves : (result : Result Focus (Exit S)) (store : Store) (current : Current) (fs0 fs1 : List Frame) (f0 : Focus) → IfOk result (Moves rules fs0 f0 fs1) → IfErr result (λ x. x ≡ exit.OutOfMemory) → Steps rules leaves p h (place store current fs0 f0) result h store current fs1
  steps_moves (Ok f) store current fs0 fs1 f0 m e = λ ts st. goes_advances rules leaves p ts h (place store current fs0 f0) (place store current fs1 f) st (m.goes p store current st.holds)
  steps_moves (Err x) store current fs0 fs1 f0 m e = λ ts st. rw e (memory_finishes rules leaves p ts (λ d. does d f0) h (place store current fs0 f0) store st.ready refl (still store.fuel))

  pub step_goes : (a b : Place) → (Holds p a → Goes rules p a b) → (ts : List ℕ) → Stood rules leaves p ts h a → Advances rules leaves p ts (λ d. does d a.focus) (focus_weight a.focus) h a h b
  step_goes a b g ts st = goes_advances rules leaves p ts h a b st (g st.holds)

  pub steps_pushed : (result : Result Focus (Exit S)) (store : Store) (current : Current) (fs0 fs fs1 : List Frame) (f0 f : Focus) → IfOk result (λ _. fs1 ≡ fs) → IfOk result (λ x. x ≡ f) → IfErr result (λ x. x ≡ exit.OutOfMemory)
      → (Holds p (place store current fs0 f0) → Goes rules p (place store current fs0 f0) (place store current fs f)) → Steps rules leaves p h (place store current fs0 f0) result h store current fs1
  steps_pushed (Ok x) store current fs0 fs fs1 f0 f a b e g = rw (a, b) (step_goes (place store current fs0 f0) (place store current fs f) g)
  steps_pushed (Err x) store current fs0 fs fs1 f0 f a b e g = λ ts st. rw e (memory_finishes rules leaves p ts (λ d. does d f0) h (place store current fs0 f0) store st.ready refl (still store.fuel))

  -- the outermost call ends
  pub value_ends : (store : Store) (current : Current) (v : Value) (ts : List ℕ) → Stood rules leaves p ts h (place store current [] (focus.Value v)) → Finishes rules leaves p ts (λ d. does d (focus.Value v)) h (place store current [] (focus.Value v)) (exit.Return value.Unit) h store
  unfolding meaning_at
  value_ends store current v ts st = halts_finishes rules leaves p ts h (place store current [] (focus.Value v)) (exit.Return value.Unit) store st
      (record { means = λ ns k host. refl; own = tt; fuel = still store.fuel; dry = tt; globals = st.holds.globals; numbered = tt; outermost = refl })

  pub throw_ends : (store : Store) (current : Current) (v : Value) (ts : List ℕ) → Stood rules leaves p ts h (place store current [] (focus.Throw v)) → Finishes rules leaves p ts (λ d. does d (focus.Throw v)) h (place store current [] (focus.Throw v)) (exit.Throw v) h store
  unfolding meaning_at
  throw_ends store current v ts st = halts_finishes rules leaves p ts h (place store current [] (focus.Throw v)) (exit.Throw v) store st
      (record { means = λ ns k host. refl; own = tt; fuel = still store.fuel; dry = tt; globals = st.holds.globals; numbered = st.holds.focus; outermost = refl })

  pub return_ends : (store : Store) (current : Current) (v : Value) (ts : List ℕ) → Stood rules leaves p ts h (place store current [] (focus.Return v)) → Finishes rules leaves p ts (λ d. does d (focus.Return v)) h (place store current [] (focus.Return v)) (exit.Return v) h store
  unfolding meaning_at
  return_ends store current v ts st = halts_finishes rules leaves p ts h (place store current [] (focus.Return v)) (exit.Return v) store st
      (record { means = λ ns k host. refl; own = tt; fuel = still store.fuel; dry = tt; globals = st.holds.globals; numbered = st.holds.focus; outermost = refl })

  -- no unit for a turn of a loop
  test_ends : (store store1 : Store) (current : Current) (fs : List Frame) (e : Bor Expr) (b : Bor (List Stmt)) (v : Value) (x : Exit S) (ts : List ℕ) → EndsWanting p (tested_at store current e b fs v) store1 x → bool_in (seen v) ≡ Some true
      → Stood rules leaves p ts h (tested_at store current e b fs v) → Finishes rules leaves p ts (λ d. does d (focus.Value v)) h (tested_at store current e b fs v) x h store1
  unfolding meaning_at
  test_ends store store1 current fs e b v exit.Fuel ts w q st = rw w.1 (halts_finishes rules leaves p ts h (tested_at store current e b fs v) exit.Fuel store st
      (record { means = λ ns k host. rw (q, w.0) (after_dry rules p fs (without_first ns) _ _ _ host); own = tt; fuel = still store.fuel; dry = w.0; globals = st.holds.globals; numbered = tt; outermost = tt }))
  test_ends store store1 current fs e b v exit.OutOfMemory ts w q st = let k = w st.holds in memory_ends rules leaves p ts (λ d. does d (focus.Value v)) h (tested_at store current e b fs v) store1 st.ready k.0 k.1
  test_ends store store1 current fs e b v (exit.Throw d) ts w q st = absurd w
  test_ends store store1 current fs e b v (exit.Return d) ts w q st = absurd w
  test_ends store store1 current fs e b v (exit.Host stop) ts w q st = absurd w

  pub steps_test : (result : Result Focus (Exit S)) (store store1 : Store) (current current1 : Current) (fs fs1 : List Frame) (e : Bor Expr) (b : Bor (List Stmt)) (v : Value)
      → IfOk result (λ f. Leads rules p (tested_at store current e b fs v) (place store1 current1 fs1 f)) → IfErr result (EndsWanting p (tested_at store current e b fs v) store1) → IfErr result (λ _. bool_in (seen v) ≡ Some true)
      → Steps rules leaves p h (tested_at store current e b fs v) result h store1 current1 fs1
  steps_test (Ok f) store store1 current current1 fs fs1 e b v m w q = step_goes (tested_at store current e b fs v) (place store1 current1 fs1 f) m
  steps_test (Err x) store store1 current current1 fs fs1 e b v m w q = λ ts st. test_ends store store1 current fs e b v x ts w q st

  -- a call of what a name stood for
  call_ends : (store store1 : Store) (current : Current) (fs : List Frame) (o : Option Value) (vs : Vec Value Global) (x : Exit S) (ts : List ℕ) → IsWant store.fuel x → IsCallable current.depth (option_map seen o) → store1.globals ≡ store.globals → store1.fuel ≤ store.fuel
      → Stood rules leaves p ts h (place store current fs (focus.Call o vs)) → Finishes rules leaves p ts (λ d. does d (focus.Call o vs)) h (place store current fs (focus.Call o vs)) x h store1
  unfolding around_of
  call_ends store store1 current fs o vs exit.Fuel ts w q g l st =
      let deep : depth_of fs < 256 = let d = st.holds.depth in let r = q.0 in omega (arith, d, r) in
      dry_finishes rules leaves p ts (λ d. does d (focus.Call o vs)) h (place store current fs (focus.Call o vs)) store1 st.ready g l w
      (λ host. given_some (caller_of rules p (depth_of fs)) (option_map seen o) (map seen vs.items) _ q.1.0 q.1.1 ∙ dry_call rules p (depth_of fs) q.1.0.function _ _ deep w)
  call_ends store store1 current fs o vs exit.OutOfMemory ts w q g l st = memory_finishes rules leaves p ts (λ d. does d (focus.Call o vs)) h (place store current fs (focus.Call o vs)) store1 st.ready g l
  call_ends store store1 current fs o vs (exit.Throw d) ts w q g l st = absurd w
  call_ends store store1 current fs o vs (exit.Return d) ts w q g l st = absurd w
  call_ends store store1 current fs o vs (exit.Host stop) ts w q g l st = absurd w

  pub steps_call : (result : Result Focus (Exit S)) (store store1 : Store) (current current1 : Current) (fs fs1 : List Frame) (o : Option Value) (vs : Vec Value Global)
      → IfOk result (λ f. Holds p (place store current fs (focus.Call o vs)) → Goes rules p (place store current fs (focus.Call o vs)) (place store1 current1 fs1 f))
      → IfErr result (IsWant store.fuel) → IfErr result (λ _. IsCallable current.depth (option_map seen o)) → store1.globals ≡ store.globals → store1.fuel ≤ store.fuel
      → Steps rules leaves p h (place store current fs (focus.Call o vs)) result h store1 current1 fs1
  steps_call (Ok f) store store1 current current1 fs fs1 o vs m w q g l = step_goes (place store current fs (focus.Call o vs)) (place store1 current1 fs1 f) m
  steps_call (Err x) store store1 current current1 fs fs1 o vs m w q g l = λ ts st. call_ends store store1 current fs o vs x ts w q g l st

opened_less : (fuel less size w fs : ℕ) → fuel ≡ less + 1 → w ≤ 2 * size → less * (2 * size + 8) + (w + (1 + fs)) < fuel * (2 * size + 8) + (2 + fs)
opened_less fuel less size w fs f h = let z : fuel * (2 * size + 8) ≡ less * (2 * size + 8) + (2 * size + 8) = rw f (omega arith) in omega (arith, z, h)

module _ {T : Type 0} (rules : HostRules T) (p : Program) (store : Store) (current : Current) (fs : List Frame) where
  -- the body of what is called is next
  pub call_opens : (o : Option Value) (vs : Vec Value Global) (called : Func) (all : List Model.Value) (b : Place) → func_of (option_map seen o) ≡ Some called → all ≡ items_of called.bound ++ map seen vs.items
      → Opens rules p called.function all (place store current fs (focus.Call o vs)) b → Goes rules p (place store current fs (focus.Call o vs)) b
  unfolding meaning_at steps_left around_of
  call_opens o vs called all b q e op = record {
    means = λ ns k. record {
      numbers = 0 ∷ ns;
      enough = rw op.frames (tt, turns_less fs ns store.fuel b.store.fuel (let f = op.fuel in omega (arith, f)) k);
      same = λ host. ap (after_all rules p fs ns) (given_some (caller_of rules p (depth_of fs)) (option_map seen o) (map seen vs.items) _ called q ∙ ap (λ xs. caller_of rules p (depth_of fs) called.function xs (state_at p host (place store current fs (focus.Call o vs)))) (sym e)) ∙ op.means ns host;
    };
    holds = op.holds;
    fuel = let f = op.fuel in omega (arith, f);
    tickets = λ ts. rw op.frames refl;
    fewer = rw op.frames (opened_less store.fuel b.store.fuel (program_size p) (focus_weight b.focus) (frames_weight fs) op.fuel op.light);
  }

  pub opened_goes : {S : Type 0} (result : Result Focus (Exit S)) (store1 : Store) (current1 : Current) (fs1 : List Frame) (o : Option Value) (vs : Vec Value Global) (called : Func) (all : List Model.Value)
      → func_of (option_map seen o) ≡ Some called → all ≡ items_of called.bound ++ map seen vs.items
      → IfOk result (λ f. (g : Focus) → Holds p (place store current fs g) → AllNumbered (count_of_functions p) all → Opens rules p called.function all (place store current fs g) (place store1 current1 fs1 f))
      → IfOk result (λ f. Holds p (place store current fs (focus.Call o vs)) → Goes rules p (place store current fs (focus.Call o vs)) (place store1 current1 fs1 f))
  opened_goes (Ok f) store1 current1 fs1 o vs called all q e op = λ h. call_opens o vs called all (place store1 current1 fs1 f) q e
      (op (focus.Call o vs) h (rw e (all_append _ (items_of called.bound) (map seen vs.items) (bound_numbered _ (option_map seen o) called q h.focus.0) h.focus.1)))
  opened_goes (Err x) store1 current1 fs1 o vs called all q e op = tt

  uncalled_throws : (o : Option Model.Value) (args : List Model.Value) (f : Option Func) (name : FaultName) → func_of o ≡ f → IsUncalled (depth_of fs) f name → (m : Machine (Limited T)) → call_given (caller_of rules p (depth_of fs)) o args m ≡ M.Throws (FaultValue name []) m
  uncalled_throws o args None name q u m = given_none (caller_of rules p (depth_of fs)) o args m q ∙ ap (λ n. M.Throws (FaultValue n []) m) (sym u)
  uncalled_throws o args (Some f) name q u m = given_some (caller_of rules p (depth_of fs)) o args m f q ∙ deep_call rules p (depth_of fs) f.function (items_of f.bound ++ args) m u.1 ∙ ap (λ n. M.Throws (FaultValue n []) m) (sym u.0)

  pub uncalled_goes : (o : Option Value) (vs : Vec Value Global) (name : FaultName) (v : Value) → IsUncalled current.depth (func_of (option_map seen o)) name → seen v ≡ FaultValue name []
      → Holds p (place store current fs (focus.Call o vs)) → Goes rules p (place store current fs (focus.Call o vs)) (place store current fs (focus.Throw v))
  unfolding meaning_at steps_left around_of
  uncalled_goes o vs name v u q h =
      let u1 : IsUncalled (depth_of fs) (func_of (option_map seen o)) name = subst (λ d. IsUncalled d (func_of (option_map seen o)) name) h.depth u in
      record {
        means = λ ns k. record { numbers = ns; enough = k; same = λ host. ap (after_all rules p fs ns) (uncalled_throws (option_map seen o) (map seen vs.items) _ name refl u1 _ ∙ rw q refl) };
        holds = record { depth = h.depth; few = h.few; globals = h.globals; held = h.held; frames = h.frames; focus = rw q tt; size = omega arith };
        fuel = still store.fuel;
        tickets = λ ts. refl;
        fewer = omega arith;
      }

module _ {T S : Type 0} (rules : HostRules T) (leaves : Ask → T → T → Type 0) (p : Program) (store : Store) (current : Current) (fs : List Frame) (t : ℕ) where
  -- the frame of a host goes
  pub host_popped : (h : HostNow T S) (f : Focus) (ts : List ℕ) → Stood rules leaves p ts h (place store current (frame.Host t ∷ fs) f) → Holds p (waiting_at store current fs)
  host_popped h f ts st = record { depth = st.holds.depth; few = st.holds.few; globals = st.holds.globals; held = st.holds.held; frames = st.holds.frames.2; focus = tt; size = omega arith }

  pub host_steps : (h : HostNow T S) (f0 : Focus) (end : CallbackEnd) (result : Result Focus (Exit S)) (h' : HostNow T S) (store1 : Store) (current1 : Current) (fs1 : List Frame) (ts : List ℕ) → focus_weight f0 ≡ 1
      → ((d : Around (Limited T)) (n : ℕ) (m : Machine (Limited T)) → goes_on rules d n t (does d f0 m) ≡ resumes rules n t end d m) → IfErr result IsUnsettled
      → ((n : ℕ) → (store.fuel + 1) * (2 ^ 64) ≤ n → Leaves rules leaves p ts (resumes rules n t end) 2 h (waiting_at store current fs) result h' store1 current1 fs1)
      → Stood rules leaves p ts h (place store current (frame.Host t ∷ fs) f0) → Leaves rules leaves p ts (λ d. does d f0) (focus_weight f0) h (place store current (frame.Host t ∷ fs) f0) result h' store1 current1 fs1
  unfolding moment_of
  host_steps h f0 end (Ok f) h' store1 current1 fs1 ts w q u y st = record {
    means = λ ns k. let m = (y (first ns) k.0).means (without_first ns) k.1 in record {
      numbers = m.numbers;
      enough = m.enough;
      asks = asks_trans (asks_same (λ left. ap (after_all rules p fs (without_first ns)) (q (around_of rules p (depth_of fs)) (first ns) (limited left (state_at p h.told (place store current (frame.Host t ∷ fs) f0))))) st.ready) m.asks;
    };
    stood = (y ((store.fuel + 1) * (2 ^ 64)) (still _)).stood;
    fewer = let z = (y ((store.fuel + 1) * (2 ^ 64)) (still _)).fewer in rw w (omega (arith, z));
  }
  host_steps h f0 end (Err x) h' store1 current1 fs1 ts w q u y st = record {
    runs = λ ns k. asks_runs (asks_same (λ left. ap (after_all rules p fs (without_first ns)) (q (around_of rules p (depth_of fs)) (first ns) (limited left (state_at p h.told (place store current (frame.Host t ∷ fs) f0))))) st.ready) ((y (first ns) k.0).runs (without_first ns) k.1) (never_settled _ x u);
    tickets = never_settled _ x u;
  }

-- a run is under way
pub record Underway {T S : Type 0} (rules : HostRules T) (leaves : Ask → T → T → Type 0) (p : Program) (h0 : HostNow T S) (a : Place) (h : HostNow T S) (b : Place) : Type 0 where
  pub gets : (ts : List ℕ) → Stood rules leaves p ts h0 a → (ns : List ℕ) → HaveTurns a.store.fuel a.frames ns → Gets rules leaves p ns (λ d. does d a.focus) h0 a h b
  pub stood : (ts : List ℕ) → Stood rules leaves p ts h0 a → Stood rules leaves p ts h b

settled_fact : {S : Type 0} {X : Type 0} (l : Left S) → X → WhereSettled l X
settled_fact (ends (gives v)) x = x
settled_fact (ends (throws v)) x = x
settled_fact (ends (returns v)) x = x
settled_fact (ends no_fuel) x = tt
settled_fact (refused s) x = tt
settled_fact no_memory x = tt

settled_start : {S : Type 0} (l : Left S) (x y ts : List ℕ) → x ≡ ts → WhereSettled l (y ≡ ts) → WhereSettled l (y ≡ x)
settled_start (ends (gives v)) x y ts q h = h ∙ sym q
settled_start (ends (throws v)) x y ts q h = h ∙ sym q
settled_start (ends (returns v)) x y ts q h = h ∙ sym q
settled_start (ends no_fuel) x y ts q h = tt
settled_start (refused s) x y ts q h = tt
settled_start no_memory x y ts q h = tt

module _ {T S : Type 0} (rules : HostRules T) (leaves : Ask → T → T → Type 0) (p : Program) (store : Store) (current : Current) (f0 : Focus) (h0 : HostNow T S) where
  pub underway_first : Underway rules leaves p h0 (place store current [] f0) h0 (place store current [] f0)
  underway_first = record {
    gets = λ ts st ns k. record { numbers = ns; enough = k; asks = asks_same (λ left. refl) st.ready };
    stood = λ ts st. st;
  }

  pub underway_more : (h h1 : HostNow T S) (b c : Place) → Underway rules leaves p h0 (place store current [] f0) h b
      → ((ts : List ℕ) → Stood rules leaves p ts h b → Advances rules leaves p ts (λ d. does d b.focus) (focus_weight b.focus) h b h1 c) → Underway rules leaves p h0 (place store current [] f0) h1 c
  underway_more h h1 b c u step = record {
    gets = λ ts st ns k. let g = u.gets ts st ns k in let m = (step ts (u.stood ts st)).means g.numbers g.enough in record { numbers = m.numbers; enough = m.enough; asks = asks_trans g.asks m.asks };
    stood = λ ts st. (step ts (u.stood ts st)).stood;
  }

  pub underway_ends : (h h1 : HostNow T S) (b : Place) (x : Exit S) (store1 : Store) (ts : List ℕ) → Underway rules leaves p h0 (place store current [] f0) h b
      → ((ts : List ℕ) → Stood rules leaves p ts h b → Finishes rules leaves p ts (λ d. does d b.focus) h b x h1 store1) → Stood rules leaves p ts h0 (place store current [] f0)
      → Finishes rules leaves p ts (λ d. does d f0) h0 (place store current [] f0) x h1 store1
  unfolding moment_of
  underway_ends h h1 b x store1 ts u step st =
      let f = step ts (u.stood ts st) in record {
        runs = λ ns k. let g = u.gets ts st ns k in asks_runs g.asks (f.runs g.numbers g.enough) (settled_start (call_left (exit_left x)) h0.tickets h.tickets ts st.tickets f.tickets);
        tickets = settled_fact (call_left (exit_left x)) st.tickets;
      }

-- a call from outside
body_sound : (count : ℕ) (body : Block) (f : Focus) → IsBody body f → CallsFit (in_block body) → FocusIsSound count f
body_sound count body (focus.Block ss) q k = rw q k
body_sound count body (focus.Items items) q k = rw q k
body_sound count body f q k = absurd q

body_size : (body : Block) (f : Focus) → IsBody body f → focus_size f ≡ block_size body
body_size body (focus.Block ss) q = rw q refl
body_size body (focus.Items items) q = rw q refl
body_size body f q = absurd q

body_does : {T : Type 0} (d : Around (Limited T)) (m : Machine (Limited T)) (body : Block) (f : Focus) → IsBody body f → does d f m ≡ exec_block d body m
body_does d m body (focus.Block ss) q = rw q refl
body_does d m body (focus.Items items) q = rw q refl
body_does d m body f q = absurd q

module _ {T S : Type 0} (rules : HostRules T) (leaves : Ask → T → T → Type 0) (p : Program) (h : HostNow T S) (store less : Store) (function : ℕ) (args : List Model.Value) (o : Option Function) (k : ℕ) where
  pub first_stood : (current : Current) (f : Focus) → slice_get (functions_of p.items) function ≡ o → store.fuel ≡ suc k → less ≡ record store { fuel = k } → current.depth ≡ 1 → variables_of current.names.now current.locals.items ≡ call_variables o args
      → IsBody (call_body p o) f → CallsFit (in_block (call_body p o)) → AllNumbered (count_of_functions p) args → IsReady (outside rules leaves p) (moment_of p h store []) → Stood rules leaves p h.tickets h (place less current [] f)
  unfolding moment_of
  first_stood current f q u l d v b fits n r = rw l (record {
    holds = record { depth = d; few = omega (arith, d); globals = r.globals; held = rw v (variables_numbered _ o args n); frames = tt; focus = body_sound _ _ f b fits; size = let z = body_size _ f b in let y = body_small p function o q in omega (arith, z, y) };
    ready = record { functions = r.functions; room = let z = r.room in omega (arith, z, u); globals = r.globals; held = tt };
    tickets = refl;
  })

  pub first_runs : (current : Current) (f : Focus) (x : Exit S) (h1 : HostNow T S) (store1 : Store) (l : Left S) → slice_get (functions_of p.items) function ≡ o → store.fuel ≡ suc k → less ≡ record store { fuel = k } → variables_of current.names.now current.locals.items ≡ call_variables o args
      → IsBody (call_body p o) f → IsReady (outside rules leaves p) (moment_of p h store []) → l ≡ call_left (exit_left x)
      → Finishes rules leaves p h.tickets (λ d. does d f) h (place less current [] f) x h1 store1
      → Runs (outside rules leaves p) (caller_of rules p 0 function args) (moment_of p h store []) l (moment_of p h1 store1 [])
  unfolding moment_of
  first_runs current f x h1 store1 l q u e v b r s y = rw s (asks_runs (record {
    asks = 0;
    comes = λ left. call_opens_at rules p 0 function args o k (omega arith) q (machine_of p (limited_host left h.told) store []) u
        ∙ rw e (rw (← v) (ap end_of_call (sym (body_does (around_of rules p 1) _ (call_body p o) f b))));
    stands = unasked refl;
    fuel = rw e (omega (arith, u));
    refusals = refl;
    ready = record { functions = r.functions; room = rw e (let z = r.room in omega (arith, z, u)); globals = rw e r.globals; held = tt };
  }) (y.runs [] tt) (settled_fact (call_left (exit_left x)) refl))

pub if_err : {A E : Type 0} (result : Result A E) (P : Type 0) → P → IfErr result (λ _. P)
if_err (Ok x) P h = tt
if_err (Err x) P h = h

pub steps_ok : {A E : Type 0} (result : Result A E) (x : A) (P : A → Type 0) → IfOk result (λ y. y ≡ x) → P x → IfOk result P
steps_ok (Ok y) x P q h = rw q h
steps_ok (Err y) x P q h = tt

pub fewer_left : {T S : Type 0} (rules : HostRules T) (leaves : Ask → T → T → Type 0) (p : Program) (ts : List ℕ) (h h1 : HostNow T S) (b c : Place) → Advances rules leaves p ts (λ d. does d b.focus) (focus_weight b.focus) h b h1 c → steps_left p c < steps_left p b
unfolding steps_left
fewer_left rules leaves p ts h h1 b c a = a.fewer
