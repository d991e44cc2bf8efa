-- How a run goes on where the host is asked with no frame for what asks.
use Rattle.std.proofs.Common.{◌≡◌, ℕ, ◌+◌, ◌*◌, ◌^◌, ◌<◌, ◌≤◌, List, [], ◌∷◌, length, map, false, true, true≢false, Some, Result, Ok, Err, IfErr, Vec, Global, refl, sym, ap, ◌∙◌, cond, Bool, arith}
use Rattle.std.specs.Borrow.{Bor}
use Rattle.page_types.specs.Counts.{Rose}
use Rattle.page_types.specs.Tree.{Program}
use Rattle.page_types.specs.Values as Model
use Rattle.page_types.specs.declared.Op.{Op}
use Rattle.page_parts.specs.Words.{same_bytes, is_there}
use Rattle.page_values.specs.declared.Value.{Value}
use Rattle.page_values.specs.declared.Value.TheVariants as value
use Rattle.page_values.specs.Seen.{seen}
use Rattle.lang_ast.specs.Hosts.{HostNow}
use Rattle.lang_ast.specs.Operations.{count_of}
use Rattle.lang_ast.specs.SeenProgram.{seen_program}
use Rattle.lang_ast.specs.Steps.{AllNumbered}
use Rattle.lang_ast.specs.declared.program.Program as Code
use Rattle.lang_ast.specs.declared.tree.Named.{Named}
use Rattle.lang_ast.specs.declared.tree.Expr.{Expr}
use Rattle.lang_ast.specs.declared.tree.Expr as E
use Rattle.lang_ast.specs.declared.tree.Stmt.{Stmt}
use Rattle.lang_ast.specs.declared.tree.Stmt as statement
use Rattle.lang_ast.proofs.Trees.{seen-Name}
use Rattle.lang_meaning.specs.Machine as M
use Rattle.lang_meaning.specs.Machine.{Machine, Done, value_in, with_value_in}
use Rattle.lang_meaning.specs.Evaluation.{Around}
use Rattle.lang_meaning.specs.HostSteps.{HostRules, HostStep, StepValue, Ask, AskOp, asked_by, steps_by, is_busy}
use Rattle.lang_meaning.specs.OpNames.{op_named}
use Rattle.lang_meaning.specs.Asks.{Limited, limited_host, stopped_at, ask_limited, unasked}
use Rattle.page_interp.specs.declared.exit.Exit.{Exit}
use Rattle.page_interp.specs.declared.exit.Exit.TheVariants as exit
use Rattle.page_interp.specs.declared.exit.Store.{Store}
use Rattle.page_interp.specs.declared.stack.Current.{Current}
use Rattle.page_interp.specs.declared.stack.Focus.{Focus}
use Rattle.page_interp.specs.declared.stack.Focus.TheVariants as focus
use Rattle.page_interp.specs.declared.stack.Frame.{Frame}
use Rattle.page_interp.specs.declared.stack.Frame.TheVariants as frame
use Rattle.page_interp.specs.declared.stack.Purpose.TheVariants as purpose
use Rattle.page_interp.specs.Runs.{IsUnsettled, IsReady, outside, moment_of, AreNumberedIn, count_of_functions, globals_in, variables_of}
use Rattle.page_interp.specs.AtOnce.{Assigns, Leads, Brings, before_stmt}
use Rattle.lang_ast.specs.Hosts.{KnowsValue}
use Rattle.page_interp.specs.Asked.{IsKnown, LooksAt, IsAnswered, RefusesAsk, CallsPlainly, HasOwnFirst, ArePair, ProceedsTo, StopsFrom, ExprStands, ExprAsks, ExprStops, BlockStands, BlockAsks, BlockStops, SetsAsked}
use Rattle.page_interp.specs.Direct.{NameHolds, direct_there}
use Rattle.page_interp.specs.Frames.{Place, Stood, Finishes, Steps, IsSet, does, place, moment_at, meaning_at, steps_left, steps_with, focus_weight, waiting_at}
use Rattle.page_interp.specs.StackClauses.{BlockBrings, RowBrings}
use Rattle.page_interp.proofs.Steps.{still}
use Rattle.page_interp.proofs.SmallSteps.{pushes_moves, pops_moves, stays_moves, within}
use Rattle.page_interp.proofs.StmtSteps.{block_pushes}
use Rattle.page_interp.proofs.ExprSteps.{row_ask}
use Rattle.page_interp.proofs.ValueSteps.{stmts_pops}
use Rattle.page_interp.proofs.FrameSteps.{assign_goes, after_dry}
use Rattle.page_interp.proofs.NameSteps.{call_row, called_op}
use Rattle.page_interp.proofs.BlockSteps.{expr_moves}
use Rattle.page_interp.proofs.Fitting.{call_fits}
use Rattle.page_interp.proofs.Numbered.{cond_numbered, write_numbered}
use Rattle.page_interp.proofs.AtOnce.{goes_trans, goes_arrives, goes_on, assigns_moves, block_stays, row_stays, row_more}
use Rattle.page_interp.proofs.AskSteps.{asks_same, asks_trans, asks_runs, leaves_trans, never_settled, memory_ends}
use Rattle.page_interp.proofs.HostTurns.{value_advances, answers_now, ready_now, op_leaves, plain_leaves, stood_waiting}

-- ---- From place to place

module _ {T S : Type 0} (rules : HostRules T) (leaves : Ask → T → T → Type 0) (p : Program) where
  -- steps that do not ask the host
  pub brings_proceeds : (h : HostNow T S) (a b : Place) → Brings rules p a b → ProceedsTo rules leaves p h a h b
  unfolding meaning_at moment_of
  brings_proceeds h a b r = λ ts st.
      let x = r st.holds in
      let ready : IsReady (outside rules leaves p) (moment_at p h b) = record { functions = st.ready.functions; room = let r = st.ready.room in let f = x.fuel in omega (arith, r, f); globals = x.holds.globals; held = tt } in
      record {
        means = λ ns k. let m = x.means ns k in record { numbers = m.numbers; enough = m.enough; asks = record { asks = 0; comes = λ left. m.same (limited_host left h.told); stands = unasked refl; fuel = x.fuel; refusals = refl; ready = ready } };
        stood = record { holds = x.holds; ready = ready; tickets = st.tickets ∙ sym (x.tickets ts) };
        fewer = x.fewer;
      }

  pub leads_proceeds : (h : HostNow T S) (a b : Place) → Leads rules p a b → ProceedsTo rules leaves p h a h b
  leads_proceeds h a b g = brings_proceeds h a b (λ k. goes_arrives rules p a b (g k))

  pub proceeds_trans : (h h1 h2 : HostNow T S) (a b c : Place) → ProceedsTo rules leaves p h a h1 b → ProceedsTo rules leaves p h1 b h2 c → ProceedsTo rules leaves p h a h2 c
  proceeds_trans h h1 h2 a b c x y = λ ts st.
      let one = x ts st in
      let two = y ts one.stood in
      record {
        means = λ ns k. let m = one.means ns k in let n = two.means m.numbers m.enough in record { numbers = n.numbers; enough = n.enough; asks = asks_trans m.asks n.asks };
        stood = two.stood;
        fewer = within _ _ _ two.fewer one.fewer;
      }

  pub proceeds_stops : (h h1 h2 : HostNow T S) (a b : Place) (x : Exit S) (store : Store) → ProceedsTo rules leaves p h a h1 b → StopsFrom rules leaves p h1 b x h2 store → StopsFrom rules leaves p h a x h2 store
  proceeds_stops h h1 h2 a b x store y s = (
    s.0,
    λ ts st.
        let one = y ts st in
        let f = s.1 ts one.stood in
        record { runs = λ ns k. let m = one.means ns k in asks_runs m.asks (f.runs m.numbers m.enough) (never_settled _ x s.0); tickets = never_settled _ x s.0 },
  )

  pub leads_stops : (h h1 : HostNow T S) (a b : Place) (x : Exit S) (store : Store) → Leads rules p a b → StopsFrom rules leaves p h b x h1 store → StopsFrom rules leaves p h a x h1 store
  leads_stops h h1 a b x store g s = proceeds_stops h h h1 a b x store (leads_proceeds h a b g) s

  -- what comes before a step, and the step
  pub proceeds_steps : (h h1 h2 : HostNow T S) (a b : Place) (result : Result Focus (Exit S)) (store : Store) (current : Current) (fs : List Frame) → IfErr result IsUnsettled → ProceedsTo rules leaves p h a h1 b
      → Steps rules leaves p h1 b result h2 store current fs → Steps rules leaves p h a result h2 store current fs
  unfolding steps_left
  proceeds_steps h h1 h2 a b (Ok f) store current fs u x s = λ ts st.
      let one = x ts st in
      let two = s ts one.stood in
      record {
        means = λ ns k. let m = one.means ns k in let n = two.means m.numbers m.enough in record { numbers = n.numbers; enough = n.enough; asks = asks_trans m.asks n.asks };
        stood = two.stood;
        fewer = let i = two.fewer in let j = one.fewer in omega (arith, i, j);
      }
  proceeds_steps h h1 h2 a b (Err e) store current fs u x s = λ ts st.
      let one = x ts st in
      let f = s ts one.stood in
      record { runs = λ ns k. let m = one.means ns k in asks_runs m.asks (f.runs m.numbers m.enough) (never_settled _ e u); tickets = never_settled _ e u }

-- ---- An ask

less_still : (a b : ℕ) → a < b → a ≤ b
less_still a b h = omega arith

stood_less : (p : Program) (a b : Place) → steps_left p b < steps_with p a (focus_weight a.focus) → steps_left p b ≤ steps_left p a
unfolding steps_left
stood_less p a b h = less_still _ _ h

module _ {T S : Type 0} (rules : HostRules T) (leaves : Ask → T → T → Type 0) (p : Program) (store : Store) (current : Current) (fs : List Frame) where
  -- the host answers with a value, in one step
  pub answered_steps : (h h1 : HostNow T S) (op : Op) (vs : Vec Value Global) (v : Value) → is_busy op ≡ false → IsAnswered rules op (map seen vs.items) h h1 v → Steps rules leaves p h (place store current fs (focus.Ask op vs)) (Ok (focus.Value v)) h1 store current fs
  unfolding moment_of
  answered_steps h h1 op vs v b y = λ ts st.
      let few : ℕ → ℕ = λ t. 0 in
      let w = stood_waiting rules leaves p ts few store current fs h (focus.Ask op vs) st in
      let room : store.fuel + 0 ≤ h.room = let r = st.ready.room in omega (arith, r) in
      let more : h.room ≤ h1.room + 0 = let r = y.room in omega (arith, r) in
      let now = answers_now rules leaves p ts few store current fs h h1 (StepValue (seen v)) 0 w.holds w.ready y.functions more room (y.tickets ∙ st.tickets) tt y.numbered in
      let n = store.fuel * (2 ^ 64) + (2 ^ 64) in
      let one = op_leaves rules leaves p ts few store current fs h h1 (StepValue (seen v)) op (map seen vs.items) (Ok (focus.Value v)) h1 store current fs y.rule y.refusals w.ready (ready_now rules leaves p ts few store current fs h h1 0 w.ready y.functions more room) tt
      (value_advances rules leaves p ts few store current fs h1 (StepValue (seen v)) v n refl now) in
      plain_leaves rules leaves p ts few store current fs h op vs (Ok (focus.Value v)) h1 store current fs b st tt one

  pub answered : (h h1 : HostNow T S) (op : Op) (vs : Vec Value Global) (v : Value) → is_busy op ≡ false → IsAnswered rules op (map seen vs.items) h h1 v → ProceedsTo rules leaves p h (place store current fs (focus.Ask op vs)) h1 (place store current fs (focus.Value v))
  answered h h1 op vs v b y = λ ts st. let two = answered_steps h h1 op vs v b y ts st in record { means = two.means; stood = two.stood; fewer = stood_less p _ _ two.fewer }

  refused_ask : (ts : List ℕ) (h h1 : HostNow T S) (ask : Ask) (next : Around (Limited T) → HostStep → Machine (Limited T) → Done (Limited T)) (stop : S) (store1 : Store)
      → Rose h.refusals h1.refusals → h1.last_stop ≡ Some stop → leaves ask h.told h1.told → IsReady (outside rules leaves p) (moment_of p h1 store1 []) → store1.fuel ≤ store.fuel
      → Finishes rules leaves p ts (λ d m. ask_limited rules ask m (next d)) h (waiting_at store current fs) (exit.Host stop) h1 store1
  unfolding moment_of
  refused_ask ts h h1 ask next stop store1 r q left k l = record {
    runs = λ ns t. record {
      meaning = tt;
      stands = record { n = 0; ask = ask; before = h.told; reached = record { state = _; stops = after_dry rules p fs ns _ _ _ (stopped_at ask h.told); host = refl }; left = left };
      fuel = l;
      dry = tt;
      tickets = tt;
      refusals = (r, q);
      ready = k;
      numbered = tt;
    };
    tickets = tt;
  }

  -- the host refuses, whatever has become of the variables
  pub refused : (h h1 : HostNow T S) (op : Op) (vs : Vec Value Global) (stop : S) (store1 : Store) → is_busy op ≡ false → RefusesAsk leaves op (map seen vs.items) h h1 stop → AreNumberedIn (count_of_functions p) (globals_in p store1) → store1.fuel ≤ store.fuel
      → StopsFrom rules leaves p h (place store current fs (focus.Ask op vs)) (exit.Host stop) h1 store1
  unfolding moment_of
  refused h h1 op vs stop store1 b r g l = (
    tt,
    λ ts st.
        let few : ℕ → ℕ = λ t. 0 in
        let w = stood_waiting rules leaves p ts few store current fs h (focus.Ask op vs) st in
        let n = store.fuel * (2 ^ 64) + (2 ^ 64) in
        let ready : IsReady (outside rules leaves p) (moment_of p h1 store1 []) = record { functions = r.functions ∙ st.ready.functions; room = let x = st.ready.room in let y = r.room in omega (arith, x, y, l); globals = g; held = tt } in
        plain_leaves rules leaves p ts few store current fs h op vs (Err (exit.Host stop)) h1 store1 current fs b st tt
        (leaves_trans rules leaves p ts (λ d. asked_by (ask_limited rules) d.call op (map seen vs.items)) (λ d m. ask_limited rules (AskOp op (map seen vs.items)) m (steps_by (ask_limited rules) d.call n)) 2 h h (waiting_at store current fs) (Err (exit.Host stop)) h1 store1 current fs
        (λ ns. asks_same (λ left. refl) w.ready) tt
        (refused_ask ts h h1 (AskOp op (map seen vs.items)) (λ d step. steps_by (ask_limited rules) d.call n step) stop store1 r.rises r.last r.left ready l)),
  )

  -- no memory, whatever has become of the variables
  pub wanting : (h : HostNow T S) (f : Focus) (store1 : Store) → AreNumberedIn (count_of_functions p) (globals_in p store1) → store1.fuel ≤ store.fuel → StopsFrom rules leaves p h (place store current fs f) exit.OutOfMemory h store1
  wanting h f store1 g l = (tt, λ ts st. memory_ends rules leaves p ts (λ d. does d f) h (place store current fs f) store1 st.ready g l)

-- no value in a row, and one
pub no_value : Vec Value Global → Vec Value Global
no_value vs = record { ptr = vs.ptr; len = 0; cap = 0; alloc = vs.alloc; items = []; ok = (refl, omega arith); small = omega arith }

pub single : Vec Value Global → Value → Vec Value Global
single vs v = record { ptr = vs.ptr; len = 1; cap = 1; alloc = vs.alloc; items = v ∷ []; ok = (refl, omega arith); small = omega arith }

-- ---- A call that is an operation

module _ {T : Type 0} (rules : HostRules T) (p : Code.Program) (store : Store) (current : Current) where
  -- to the ask
  pub call_asks : (e : Expr) (name : Named) (es : Vec Expr Global) (args : List Expr) (op : Op) (vs : Vec Value Global) → e ≡ E.Call name es → args ≡ es.items → CallsPlainly rules p store current name args op vs
      → (fs : List Frame) (expr : Bor Expr) → expr.now ≡ e → Leads rules (seen_program p) (place store current fs (focus.Expr expr)) (place store current fs (focus.Ask op vs))
  call_asks e name es args op vs is a c fs expr q = λ h.
      let row : Bor (List Expr) = record { ref_ptr = (0, 0); now = args } in
      let end : Bor (List Expr) = record { ref_ptr = (0, 0); now = [] } in
      let one = call_row rules p store current fs expr name es row row (purpose.Ask op) c.found.none (q ∙ is) a (called_op (op_named name.name) op _ c.named) c.found.empty refl h in
      let two = c.found.brings fs (purpose.Ask op) row end refl refl one.holds in
      let three = (stays_moves rules fs (row_ask op vs end refl)).goes (seen_program p) store current two.holds in
      goes_trans rules (seen_program p) _ _ _ (goes_on rules (seen_program p) _ _ _ one two) three

  -- the variable that takes the answer, and a value beside it
  pub own_plain : (target name : Named) (args : List Expr) (op : Op) (a b : Value) (vs : Vec Value Global) → HasOwnFirst p store current target name args op b → NameHolds p store current target.name (seen a) → ArePair a b vs → CallsPlainly rules p store current name args op vs
  own_plain target name args op a b vs o n r =
      let whole : Bor (List Expr) = record { ref_ptr = (0, 0); now = args } in
      let later : Bor (List Expr) = record { ref_ptr = (0, 0); now = o.second.now ∷ [] } in
      let own : Bor Expr = record { ref_ptr = (0, 0); now = E.Name o.own } in
      let held : direct_there p store current (E.Name o.own) ≡ Some (seen a) = rw (seen-Name, o.same) n in
      let start : RowBrings rules p store current r.none args r.none whole.now = λ fs purpose row rest q e. row_stays rules p store current fs purpose r.none row rest (q ∙ sym e) in
      let one = row_more rules p store current r.none r.none r.first args whole a (o.second.now ∷ []) start (record { expr = own; first = o.both; value = held }) r.one in
      let two = row_more rules p store current r.none r.first vs args later b [] one (record { expr = o.second; first = refl; value = o.value }) r.both in
      record { named = o.named; plain = o.plain; found = record { none = r.none; empty = r.empty; brings = two } }

  -- one argument that is lent
  pub look_plain : (name : Named) (args : List Expr) (op : Op) (v : Value) (u : Vec Value Global) → LooksAt p store current name args op v → CallsPlainly rules p store current name args op (single u v)
  unfolding no_value single
  look_plain name args op v u o =
      let whole : Bor (List Expr) = record { ref_ptr = (0, 0); now = args } in
      let start : RowBrings rules p store current (no_value u) args (no_value u) whole.now = λ fs purpose row rest q e. row_stays rules p store current fs purpose (no_value u) row rest (q ∙ sym e) in
      let one = row_more rules p store current (no_value u) (no_value u) (single u v) args whole v [] start (record { expr = o.only; first = o.one; value = o.value }) refl in
      record { named = o.named; plain = o.plain; found = record { none = no_value u; empty = refl; brings = one } }

module _ {T S : Type 0} (rules : HostRules T) (leaves : Ask → T → T → Type 0) (p : Code.Program) (store : Store) (current : Current) where
  -- what is known of the arguments of an operation where a run stands at its call
  pub args_fit : (h : HostNow T S) (e : Expr) (name : Named) (es : Vec Expr Global) (args : List Expr) (op : Op) (vs : Vec Value Global) → e ≡ E.Call name es → args ≡ es.items → CallsPlainly rules p store current name args op vs → ExprStands rules leaves p h store current e
      → (length vs.items ≡ count_of op) × AllNumbered h.functions (map seen vs.items)
  unfolding moment_of
  args_fit h e name es args op vs is a c s =
      let st = s.3.1 in
      let g = call_asks rules p store current e name es args op vs is a c s.0 s.1 s.2 st.holds in
      (g.holds.focus.0, rw st.ready.functions g.holds.focus.1)

  pub expr_asks : (h h1 : HostNow T S) (e : Expr) (name : Named) (es : Vec Expr Global) (args : List Expr) (op : Op) (vs : Vec Value Global) (v : Value) → e ≡ E.Call name es → args ≡ es.items → CallsPlainly rules p store current name args op vs
      → IsAnswered rules op (map seen vs.items) h h1 v → ExprAsks rules leaves p e store current h v h1
  expr_asks h h1 e name es args op vs v is a c y = λ fs expr q.
      proceeds_trans rules leaves (seen_program p) h h h1 _ _ _ (leads_proceeds rules leaves (seen_program p) h _ _ (call_asks rules p store current e name es args op vs is a c fs expr q))
      (answered rules leaves (seen_program p) store current fs h h1 op vs v c.plain y)

  pub expr_refused : (h h1 : HostNow T S) (e : Expr) (name : Named) (es : Vec Expr Global) (args : List Expr) (op : Op) (vs : Vec Value Global) (stop : S) (store1 : Store) → e ≡ E.Call name es → args ≡ es.items → CallsPlainly rules p store current name args op vs
      → RefusesAsk leaves op (map seen vs.items) h h1 stop → AreNumberedIn (count_of_functions (seen_program p)) (globals_in (seen_program p) store1) → store1.fuel ≤ store.fuel → ExprStops rules leaves p e store current h h1 store1 (exit.Host stop)
  expr_refused h h1 e name es args op vs stop store1 is a c r g l = λ fs expr q.
      leads_stops rules leaves (seen_program p) h h1 _ _ (exit.Host stop) store1 (call_asks rules p store current e name es args op vs is a c fs expr q)
      (refused rules leaves (seen_program p) store current fs h h1 op vs stop store1 c.plain r g l)

  pub expr_wanting : (h : HostNow T S) (e : Expr) (store1 : Store) → AreNumberedIn (count_of_functions (seen_program p)) (globals_in (seen_program p) store1) → store1.fuel ≤ store.fuel → ExprStops rules leaves p e store current h h store1 exit.OutOfMemory
  expr_wanting h e store1 g l = λ fs expr q. wanting rules leaves (seen_program p) store current fs h (focus.Expr expr) store1 g l

  -- an operation with two arguments takes two
  pub own_count : (h : HostNow T S) (e : Expr) (target name : Named) (es : Vec Expr Global) (args : List Expr) (op : Op) (v : Value) → e ≡ E.Call name es → args ≡ es.items → HasOwnFirst p store current target name args op v → ExprStands rules leaves p h store current e → count_of op ≡ 2
  own_count h e target name es args op v is a o s =
      let st = s.3.1 in
      let fits = (call_fits s.1.now name es (s.2 ∙ is) st.holds.focus).0 in
      sym (rw (← o.named, ← a, o.both) at fits)

  -- the host knows the answer
  pub expr_known : (h : HostNow T S) (e : Expr) (name : Named) (es : Vec Expr Global) (args : List Expr) (op : Op) (held v : Value) (u : Vec Value Global) → e ≡ E.Call name es → args ≡ es.items → LooksAt p store current name args op held
      → KnowsValue rules op (seen held ∷ []) h v → IsKnown rules leaves p e store current h v
  unfolding single
  expr_known h e name es args op held v u is a o k = λ fs expr q.
      let c = look_plain rules p store current name args op held u o in
      let y : IsAnswered rules op (seen held ∷ []) h h v = record { rule = k.rule; tickets = refl; room = still _; functions = refl; refusals = refl; numbered = k.numbered } in
      proceeds_steps rules leaves (seen_program p) h h h (place store current fs (focus.Expr expr)) (place store current fs (focus.Ask op (single u held))) (Ok (focus.Value v)) store current fs tt
      (leads_proceeds rules leaves (seen_program p) h _ _ (call_asks rules p store current e name es args op (single u held) is a c fs expr q))
      (answered_steps rules leaves (seen_program p) store current fs h h op (single u held) v c.plain y)

  pub known_asks : (h : HostNow T S) (e : Expr) (v : Value) → IsKnown rules leaves p e store current h v → ExprAsks rules leaves p e store current h v h
  known_asks h e v k = λ fs expr q ts st. let two = k fs expr q ts st in record { means = two.means; stood = two.stood; fewer = stood_less (seen_program p) _ _ two.fewer }

  -- what is known of an argument that is lent
  pub look_fits : (h : HostNow T S) (e : Expr) (name : Named) (es : Vec Expr Global) (args : List Expr) (op : Op) (held : Value) (u : Vec Value Global) → e ≡ E.Call name es → args ≡ es.items → LooksAt p store current name args op held → ExprStands rules leaves p h store current e
      → (1 ≡ count_of op) × AllNumbered h.functions (seen held ∷ [])
  unfolding single
  look_fits h e name es args op held u is a o s = args_fit h e name es args op (single u held) is a (look_plain rules p store current name args op held u o) s

  -- global variables are numbered where a run stands
  pub stands_numbered : (h : HostNow T S) (e : Expr) → ExprStands rules leaves p h store current e → AreNumberedIn (count_of_functions (seen_program p)) (globals_in (seen_program p) store)
  stands_numbered h e s = s.3.1.holds.globals

-- ---- Statements

module _ {T : Type 0} (rules : HostRules T) (p : Code.Program) (store : Store) (current : Current) where
  -- the steps from a statement that is an expression to it
  to_expr : (s : Stmt) (more : List Stmt) (e : Expr) → s ≡ statement.Expr e → (fs : List Frame) (block rest : Bor (List Stmt)) (expr : Bor Expr) → block.now ≡ s ∷ more → rest.now ≡ more → expr.now ≡ e
      → Leads rules (seen_program p) (place store current fs (focus.Block block)) (place store current (before_stmt rest fs) (focus.Expr expr))
  to_expr s more e is fs block rest expr q r a = λ h.
      let stmt : Bor Stmt = record { ref_ptr = (0, 0); now = s } in
      let one = (pushes_moves rules fs (block_pushes block rest stmt (rw r q))).goes (seen_program p) store current h in
      let two = (expr_moves rules fs stmt rest expr e is a).goes (seen_program p) store current one.holds in
      goes_trans rules (seen_program p) _ _ _ one two

  -- the same of one that gives a variable its value
  to_value : (s : Stmt) (more : List Stmt) (name : Named) (e : Expr) → Assigns s name e → (fs : List Frame) (block rest : Bor (List Stmt)) (bound : Bor Named) (expr : Bor Expr) → block.now ≡ s ∷ more → rest.now ≡ more → bound.now ≡ name → expr.now ≡ e
      → Leads rules (seen_program p) (place store current fs (focus.Block block)) (place store current (frame.Assign bound ∷ before_stmt rest fs) (focus.Expr expr))
  to_value s more name e is fs block rest bound expr q r n a = λ h.
      let stmt : Bor Stmt = record { ref_ptr = (0, 0); now = s } in
      let one = (pushes_moves rules fs (block_pushes block rest stmt (rw r q))).goes (seen_program p) store current h in
      let two = (assigns_moves rules (before_stmt rest fs) stmt s bound expr refl (rw (n, a) is)).goes (seen_program p) store current one.holds in
      goes_trans rules (seen_program p) _ _ _ one two

module _ {T S : Type 0} (rules : HostRules T) (leaves : Ask → T → T → Type 0) (p : Code.Program) (store : Store) (current : Current) where
  stands_on : (h : HostNow T S) (a b : Place) → Leads rules (seen_program p) a b → (ts : List ℕ) → Stood rules leaves (seen_program p) ts h a → Stood rules leaves (seen_program p) ts h b
  stands_on h a b g ts st = (leads_proceeds rules leaves (seen_program p) h a b g ts st).stood

  pub expr_stands : (h : HostNow T S) (s : Stmt) (more : List Stmt) (e : Expr) → s ≡ statement.Expr e → BlockStands rules leaves p h store current (s ∷ more) → ExprStands rules leaves p h store current e
  expr_stands h s more e is b =
      let rest : Bor (List Stmt) = record { ref_ptr = (0, 0); now = more } in
      let expr : Bor Expr = record { ref_ptr = (0, 0); now = e } in
      (before_stmt rest b.0, expr, refl, (b.3.0, stands_on h _ _ (to_expr rules p store current s more e is b.0 b.1 rest expr b.2 refl refl) b.3.0 b.3.1))

  pub value_stands : (h : HostNow T S) (s : Stmt) (more : List Stmt) (name : Named) (e : Expr) → Assigns s name e → BlockStands rules leaves p h store current (s ∷ more) → ExprStands rules leaves p h store current e
  value_stands h s more name e is b =
      let rest : Bor (List Stmt) = record { ref_ptr = (0, 0); now = more } in
      let bound : Bor Named = record { ref_ptr = (0, 0); now = name } in
      let expr : Bor Expr = record { ref_ptr = (0, 0); now = e } in
      (frame.Assign bound ∷ before_stmt rest b.0, expr, refl, (b.3.0, stands_on h _ _ (to_value rules p store current s more name e is b.0 b.1 rest bound expr b.2 refl refl refl) b.3.0 b.3.1))

  -- a statement that is an expression is done
  pub expr_done : (h h1 : HostNow T S) (s : Stmt) (more : List Stmt) (e : Expr) (v : Value) → s ≡ statement.Expr e → ExprAsks rules leaves p e store current h v h1 → BlockAsks rules leaves p h store current (s ∷ more) h1 store current more
  expr_done h h1 s more e v is y = λ fs block rest q r.
      let expr : Bor Expr = record { ref_ptr = (0, 0); now = e } in
      proceeds_trans rules leaves (seen_program p) h h h1 _ _ _ (leads_proceeds rules leaves (seen_program p) h _ _ (to_expr rules p store current s more e is fs block rest expr q r refl))
      (proceeds_trans rules leaves (seen_program p) h h1 h1 _ _ _ (y (before_stmt rest fs) expr refl)
      (leads_proceeds rules leaves (seen_program p) h1 _ _ (λ k. (pops_moves rules fs (stmts_pops v rest)).goes (seen_program p) store current k)))

  -- one that gives a variable its value
  pub sets_asked : (h h1 : HostNow T S) (name : Named) (e : Expr) (v : Value) (store1 : Store) (current1 : Current) → ExprAsks rules leaves p e store current h v h1 → IsSet p store current name.name v store1 current1 → SetsAsked rules leaves p name e h store current h1 store1 current1
  sets_asked h h1 name e v store1 current1 y i = λ s more is fs block rest q r.
      let bound : Bor Named = record { ref_ptr = (0, 0); now = name } in
      let expr : Bor Expr = record { ref_ptr = (0, 0); now = e } in
      let fs1 = before_stmt rest fs in
      let last : Leads rules (seen_program p) (place store current (frame.Assign bound ∷ fs1) (focus.Value v)) (place store1 current1 fs (focus.Block rest)) = λ k.
      let four = assign_goes rules (seen_program p) store current fs1 store1 current1 bound v i.names i.depth i.locals i.globals i.fuel k in
      let five = (pops_moves rules fs (stmts_pops value.Unit rest)).goes (seen_program p) store1 current1 four.holds in
      goes_trans rules (seen_program p) _ _ _ four five in
      proceeds_trans rules leaves (seen_program p) h h h1 _ _ _ (leads_proceeds rules leaves (seen_program p) h _ _ (to_value rules p store current s more name e is fs block rest bound expr q r refl refl))
      (proceeds_trans rules leaves (seen_program p) h h1 h1 _ _ _ (y (frame.Assign bound ∷ fs1) expr refl) (leads_proceeds rules leaves (seen_program p) h1 _ _ last))

  pub expr_stops : (h h1 : HostNow T S) (s : Stmt) (more : List Stmt) (e : Expr) (store1 : Store) (x : Exit S) → s ≡ statement.Expr e → ExprStops rules leaves p e store current h h1 store1 x → BlockStops rules leaves p h store current (s ∷ more) h1 store1 x
  expr_stops h h1 s more e store1 x is y = λ fs block q.
      let rest : Bor (List Stmt) = record { ref_ptr = (0, 0); now = more } in
      let expr : Bor Expr = record { ref_ptr = (0, 0); now = e } in
      leads_stops rules leaves (seen_program p) h h1 _ _ x store1 (to_expr rules p store current s more e is fs block rest expr q refl refl) (y (before_stmt rest fs) expr refl)

  pub value_stops : (h h1 : HostNow T S) (s : Stmt) (more : List Stmt) (name : Named) (e : Expr) (store1 : Store) (x : Exit S) → Assigns s name e → ExprStops rules leaves p e store current h h1 store1 x → BlockStops rules leaves p h store current (s ∷ more) h1 store1 x
  value_stops h h1 s more name e store1 x is y = λ fs block q.
      let rest : Bor (List Stmt) = record { ref_ptr = (0, 0); now = more } in
      let bound : Bor Named = record { ref_ptr = (0, 0); now = name } in
      let expr : Bor Expr = record { ref_ptr = (0, 0); now = e } in
      leads_stops rules leaves (seen_program p) h h1 _ _ x store1 (to_value rules p store current s more name e is fs block rest bound expr q refl refl refl) (y (frame.Assign bound ∷ before_stmt rest fs) expr refl)

  pub block_asks_none : (h : HostNow T S) (ss : List Stmt) → BlockAsks rules leaves p h store current ss h store current ss
  block_asks_none h ss = λ fs block rest q r. brings_proceeds rules leaves (seen_program p) h _ _ (block_stays rules p store current fs block rest (q ∙ sym r))

module _ {T S : Type 0} (rules : HostRules T) (leaves : Ask → T → T → Type 0) (p : Code.Program) where
  -- some statements of a block, and then more of them
  pub block_asks_on : (h h1 h2 : HostNow T S) (store store1 store2 : Store) (current current1 current2 : Current) (ss ss1 ss2 : List Stmt)
      → BlockAsks rules leaves p h store current ss h1 store1 current1 ss1 → BlockAsks rules leaves p h1 store1 current1 ss1 h2 store2 current2 ss2 → BlockAsks rules leaves p h store current ss h2 store2 current2 ss2
  block_asks_on h h1 h2 store store1 store2 current current1 current2 ss ss1 ss2 x y = λ fs block rest q r.
      let here : Bor (List Stmt) = record { ref_ptr = (0, 0); now = ss1 } in
      proceeds_trans rules leaves (seen_program p) h h1 h2 _ _ _ (x fs block here q refl) (y fs here rest refl r)

  pub block_brought : (h : HostNow T S) (store store1 : Store) (current current1 : Current) (ss ss1 : List Stmt) → BlockBrings rules p store current ss store1 current1 ss1 → BlockAsks rules leaves p h store current ss h store1 current1 ss1
  block_brought h store store1 current current1 ss ss1 x = λ fs block rest q r. brings_proceeds rules leaves (seen_program p) h _ _ (x fs block rest q r)

  pub block_stops_on : (h h1 h2 : HostNow T S) (store store1 store2 : Store) (current current1 : Current) (ss ss1 : List Stmt) (x : Exit S)
      → BlockAsks rules leaves p h store current ss h1 store1 current1 ss1 → BlockStops rules leaves p h1 store1 current1 ss1 h2 store2 x → BlockStops rules leaves p h store current ss h2 store2 x
  block_stops_on h h1 h2 store store1 store2 current current1 ss ss1 x y s = λ fs block q.
      let here : Bor (List Stmt) = record { ref_ptr = (0, 0); now = ss1 } in
      proceeds_stops rules leaves (seen_program p) h h1 h2 _ _ x store2 (y fs block here q refl) (s fs here refl)

  pub block_stands_on : (h h1 : HostNow T S) (store store1 : Store) (current current1 : Current) (ss ss1 : List Stmt) → BlockAsks rules leaves p h store current ss h1 store1 current1 ss1 → BlockStands rules leaves p h store current ss → BlockStands rules leaves p h1 store1 current1 ss1
  block_stands_on h h1 store store1 current current1 ss ss1 x b =
      let here : Bor (List Stmt) = record { ref_ptr = (0, 0); now = ss1 } in
      (b.0, here, refl, (b.3.0, (x b.0 b.1 here b.2 refl b.3.0 b.3.1).stood))

-- ---- A variable that is emptied, and then set

there_by : (b c : Bool) (n : List ℕ) (v u : Model.Value) (xs ys : List M.Variable) (x : List ℕ) → same_bytes n x ≡ b → is_there (value_in ys x) ≡ is_there (value_in xs x)
    → is_there (value_in (cond b (record { name = n; value = u } ∷ xs) (record { name = n; value = v } ∷ ys)) x) ≡ is_there (cond b (Some v) (value_in xs x))
there_by true c n v u xs ys x q h = rw q refl
there_by false c n v u xs ys x q h = rw q h

-- what stands under a name stands there after it was written
pub there_still : (xs : List M.Variable) (x : List ℕ) (u : Model.Value) → is_there (value_in (with_value_in xs x u) x) ≡ is_there (value_in xs x)
there_still [] x u = refl
there_still (a ∷ xs) x u = there_by (same_bytes a.name x) true a.name a.value u xs (with_value_in xs x u) x refl (there_still xs x u)

twice_by : (b : Bool) (n : List ℕ) (w u v : Model.Value) (xs ys zs : List M.Variable) (x : List ℕ) → same_bytes n x ≡ b → with_value_in ys x v ≡ zs
    → with_value_in (cond b (record { name = n; value = u } ∷ xs) (record { name = n; value = w } ∷ ys)) x v ≡ cond b (record { name = n; value = v } ∷ xs) (record { name = n; value = w } ∷ zs)
twice_by true n w u v xs ys zs x q h = rw q refl
twice_by false n w u v xs ys zs x q h = rw q (ap (λ more. record { name = n; value = w } ∷ more) h)

-- the last of two values that are written stays
pub written_twice : (xs : List M.Variable) (x : List ℕ) (u v : Model.Value) → with_value_in (with_value_in xs x u) x v ≡ with_value_in xs x v
written_twice [] x u v = refl
written_twice (a ∷ xs) x u v = twice_by (same_bytes a.name x) a.name a.value u v xs (with_value_in xs x u) (with_value_in xs x v) x refl (written_twice xs x u v)

set_by : (b : Bool) (held held1 held2 : List M.Variable) (x : List ℕ) (u v : Model.Value) → is_there (value_in held x) ≡ b → held1 ≡ cond b (with_value_in held x u) held → held2 ≡ cond (is_there (value_in held1 x)) (with_value_in held1 x v) held1
    → held2 ≡ cond b (with_value_in held x v) held
set_by true held held1 held2 x u v b q r = rw (q, there_still held x u, b) at r ∙ written_twice held x u v
set_by false held held1 held2 x u v b q r = rw (q, b) at r

others_by : (b : Bool) (held held1 all all1 all2 : List M.Variable) (x : List ℕ) (u v : Model.Value) → is_there (value_in held x) ≡ b → held1 ≡ cond b (with_value_in held x u) held → all1 ≡ cond b all (with_value_in all x u) → all2 ≡ cond (is_there (value_in held1 x)) all1 (with_value_in all1 x v)
    → all2 ≡ cond b all (with_value_in all x v)
others_by true held held1 all all1 all2 x u v b q a r = rw (q, there_still held x u, b, a) at r
others_by false held held1 all all1 all2 x u v b q a r = rw (q, b, a) at r ∙ written_twice all x u v

-- a variable is emptied, and then it takes a value
pub set_twice : (p : Code.Program) (store store1 store2 : Store) (current current1 current2 : Current) (x : List ℕ) (u v : Value) → IsSet p store current x u store1 current1 → IsSet p store1 current1 x v store2 current2 → IsSet p store current x v store2 current2
set_twice p store store1 store2 current current1 current2 x u v i j = record {
  names = j.names ∙ i.names;
  depth = j.depth ∙ i.depth;
  locals = set_by _ (variables_of current.names.now current.locals.items) (variables_of current.names.now current1.locals.items) (variables_of current.names.now current2.locals.items) x (seen u) (seen v) refl i.locals (rw i.names at j.locals);
  globals = others_by _ (variables_of current.names.now current.locals.items) (variables_of current.names.now current1.locals.items) (globals_in (seen_program p) store) (globals_in (seen_program p) store1) (globals_in (seen_program p) store2) x (seen u) (seen v) refl i.locals i.globals (rw i.names at j.globals);
  fuel = j.fuel ∙ i.fuel;
}

emptied_by : (count : ℕ) (b : Bool) (all all1 : List M.Variable) (x : List ℕ) → all1 ≡ cond b all (with_value_in all x Model.UnitValue) → AreNumberedIn count all → AreNumberedIn count all1
emptied_by count b all all1 x q n = rw q (cond_numbered count b all (with_value_in all x Model.UnitValue) n (write_numbered count all x Model.UnitValue tt n))

-- global variables are numbered after one was emptied
pub emptied_numbered : (p : Code.Program) (store store1 : Store) (current current1 : Current) (x : List ℕ) → IsSet p store current x value.Unit store1 current1 → AreNumberedIn (count_of_functions (seen_program p)) (globals_in (seen_program p) store) → AreNumberedIn (count_of_functions (seen_program p)) (globals_in (seen_program p) store1)
emptied_numbered p store store1 current current1 x i n = emptied_by _ (is_there (value_in (variables_of current.names.now current.locals.items) x)) (globals_in (seen_program p) store) (globals_in (seen_program p) store1) x i.globals n

-- ---- Results

bool_of : {E : Type 0} → Result Bool E → Bool
bool_of (Ok b) = b
bool_of (Err e) = false

is_fault : {E : Type 0} → Result Bool E → Bool
is_fault (Ok b) = false
is_fault (Err e) = true

pub not_both : {E : Type 0} (r : Result Bool E) → r ≡ Ok true → r ≡ Ok false → ⊥
unfolding bool_of
not_both r q n = true≢false (sym (ap bool_of q) ∙ ap bool_of n)

pub no_fault : {E : Type 0} (r : Result Bool E) (e : E) (b : Bool) → r ≡ Err e → r ≡ Ok b → ⊥
unfolding is_fault
no_fault r e b q n = true≢false (sym (ap is_fault q) ∙ ap is_fault n)
