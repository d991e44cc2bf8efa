-- Several steps as one, where an expression calls nothing.
use Rattle.std.proofs.Common.{◌≡◌, ℕ, suc, ◌<◌, ◌≤◌, List, [], ◌∷◌, ◌++◌, true, Result, Ok, Err, IfOk, IfErr, Some, Vec, Global, refl, ◌∙◌, arith}
use Rattle.std.specs.Borrow.{Bor}
use Rattle.page_types.specs.Tree.{Program}
use Rattle.page_parts.specs.Kinds.{bool_in}
use Rattle.page_values.specs.declared.Value.{Value}
use Rattle.page_values.specs.declared.Value.TheVariants as value
use Rattle.page_values.specs.Seen.{seen}
use Rattle.lang_ast.specs.SeenProgram.{seen_program}
use Rattle.lang_ast.specs.Hosts.{HostNow}
use Rattle.lang_ast.specs.declared.program.Program as Code
use Rattle.lang_ast.specs.declared.tree.Named.{Named}
use Rattle.lang_ast.specs.declared.tree.Expr.{Expr}
use Rattle.lang_ast.specs.declared.tree.Expr as E
use Rattle.lang_ast.specs.declared.tree.Stmt.{Stmt}
use Rattle.lang_ast.specs.declared.tree.Stmt as S
use Rattle.lang_meaning.specs.OpNames.{op_named}
use Rattle.lang_meaning.specs.HostSteps.{HostRules, Ask}
use Rattle.page_interp.specs.declared.exit.Exit.{Exit}
use Rattle.page_interp.specs.declared.exit.Exit.TheVariants as exit
use Rattle.page_interp.specs.declared.exit.Store.{Store}
use Rattle.page_interp.specs.declared.stack.Current.{Current}
use Rattle.page_interp.specs.declared.stack.Focus.{Focus}
use Rattle.page_interp.specs.declared.stack.Focus.TheVariants as focus
use Rattle.page_interp.specs.declared.stack.Frame.{Frame}
use Rattle.page_interp.specs.declared.stack.Frame.TheVariants as frame
use Rattle.page_interp.specs.declared.stack.Waiting.TheVariants as waiting
use Rattle.page_interp.specs.declared.stack.Purpose.{Purpose}
use Rattle.page_interp.specs.AtOnce.{Assigns, HasFirst, Leads, Brings, IsKept, EndsWanting, turned, tested_at}
use Rattle.page_interp.specs.Direct.{direct_there, names_there}
use Rattle.page_interp.specs.Frames.{does, place, meaning_at, steps_left, Place, Goes, Arrives, Moves, Steps, IsCalled, IsSet}
use Rattle.page_interp.specs.StackClauses.{RowBrings, BlockBrings, Sets, ValueComes}
use Rattle.page_interp.proofs.Steps.{still}
use Rattle.page_interp.proofs.SmallSteps.{pushes_moves, pops_moves, within}
use Rattle.page_interp.proofs.StmtSteps.{block_pushes, var_moves, assign_moves}
use Rattle.page_interp.proofs.ValueSteps.{stmts_pops, row_pops}
use Rattle.page_interp.proofs.ExprSteps.{row_pushes}
use Rattle.page_interp.proofs.FrameSteps.{assign_goes, test_true}
use Rattle.page_interp.proofs.NameSteps.{call_row}
use Rattle.page_interp.proofs.DirectSteps.{direct_goes}
use Rattle.page_interp.proofs.AskSteps.{goes_advances, memory_ends}

less_trans : (a b c : ℕ) → a < b → b < c → a < c
less_trans a b c h k = omega arith

less_within : (a b c : ℕ) → a < b → b ≤ c → a < c
less_within a b c h k = omega arith

less_than : (a b c : ℕ) → a < b → c ≤ a → c < b
less_than a b c h k = omega arith

at_most : (a b : ℕ) → a < b → a ≤ b
at_most a b h = omega arith

module _ {T : Type 0} (rules : HostRules T) (p : Program) where
  pub goes_trans : (a b c : Place) → Goes rules p a b → Goes rules p b c → Goes rules p a c
  goes_trans a b c x y = record {
    means = λ ns k. let s = x.means ns k in let t = y.means s.numbers s.enough in record { numbers = t.numbers; enough = t.enough; same = λ host. s.same host ∙ t.same host };
    holds = y.holds;
    fuel = within _ _ _ y.fuel x.fuel;
    tickets = λ ts. y.tickets ts ∙ x.tickets ts;
    fewer = less_trans _ _ _ y.fewer x.fewer;
  }

  pub arrives_goes : (a b c : Place) → Arrives rules p a b → Goes rules p b c → Goes rules p a c
  arrives_goes a b c x y = record {
    means = λ ns k. let s = x.means ns k in let t = y.means s.numbers s.enough in record { numbers = t.numbers; enough = t.enough; same = λ host. s.same host ∙ t.same host };
    holds = y.holds;
    fuel = within _ _ _ y.fuel x.fuel;
    tickets = λ ts. y.tickets ts ∙ x.tickets ts;
    fewer = less_within _ _ _ y.fewer x.fewer;
  }

  -- one step is some steps
  pub goes_arrives : (a b : Place) → Goes rules p a b → Arrives rules p a b
  goes_arrives a b x = record { means = x.means; holds = x.holds; fuel = x.fuel; tickets = x.tickets; fewer = at_most _ _ x.fewer }

  pub arrives_trans : (a b c : Place) → Arrives rules p a b → Arrives rules p b c → Arrives rules p a c
  arrives_trans a b c x y = record {
    means = λ ns k. let s = x.means ns k in let t = y.means s.numbers s.enough in record { numbers = t.numbers; enough = t.enough; same = λ host. s.same host ∙ t.same host };
    holds = y.holds;
    fuel = within _ _ _ y.fuel x.fuel;
    tickets = λ ts. y.tickets ts ∙ x.tickets ts;
    fewer = within _ _ _ y.fewer x.fewer;
  }

  -- a step, and then any number of steps
  pub goes_on : (a b c : Place) → Goes rules p a b → Arrives rules p b c → Goes rules p a c
  goes_on a b c x y = record {
    means = λ ns k. let s = x.means ns k in let t = y.means s.numbers s.enough in record { numbers = t.numbers; enough = t.enough; same = λ host. s.same host ∙ t.same host };
    holds = y.holds;
    fuel = within _ _ _ y.fuel x.fuel;
    tickets = λ ts. y.tickets ts ∙ x.tickets ts;
    fewer = less_than _ _ _ x.fewer y.fewer;
  }

  -- one step more
  pub arrives_on : (a b c : Place) → Arrives rules p a b → Goes rules p b c → Arrives rules p a c
  arrives_on a b c x y = let g = arrives_goes a b c x y in record { means = g.means; holds = g.holds; fuel = g.fuel; tickets = g.tickets; fewer = at_most _ _ g.fewer }

-- a step that may change the variables, or for which memory is wanting
pub steps_leads : {T S : Type 0} (rules : HostRules T) (leaves : Ask → T → T → Type 0) (p : Program) (h : HostNow T S) (result : Result Focus (Exit S)) (a : Place) (store1 : Store) (current1 : Current) (fs1 : List Frame)
    → IfOk result (λ f. Leads rules p a (place store1 current1 fs1 f)) → IfErr result (λ x. x ≡ exit.OutOfMemory) → IfErr result (λ _. IsKept p a store1) → Steps rules leaves p h a result h store1 current1 fs1
steps_leads rules leaves p h (Ok f) a store1 current1 fs1 g e s = λ ts st. goes_advances rules leaves p ts h a (place store1 current1 fs1 f) st (g st.holds)
steps_leads rules leaves p h (Err x) a store1 current1 fs1 g e s = λ ts st. let k = s st.holds in rw e (memory_ends rules leaves p ts (λ d. does d a.focus) h a store1 st.ready k.0 k.1)

-- the store is kept by what leads to where memory is wanting
pub brings_kept : {T S X : Type 0} (rules : HostRules T) (p : Program) (result : Result X (Exit S)) (a b : Place) → Brings rules p a b → IfErr result (λ _. IsKept p a b.store)
brings_kept rules p (Ok x) a b r = tt
brings_kept rules p (Err x) a b r = λ h. let z = r h in (z.holds.globals, z.fuel)

-- what comes before a step, and the step
pub brings_leads : {T S : Type 0} (rules : HostRules T) (p : Program) (result : Result Focus (Exit S)) (a b : Place) (store : Store) (current : Current) (fs : List Frame) → Brings rules p a b → IfOk result (λ f. Leads rules p b (place store current fs f))
    → IfOk result (λ f. Leads rules p a (place store current fs f))
brings_leads rules p (Ok f) a b store current fs r k = λ h. let one = r h in arrives_goes rules p _ _ _ one (k one.holds)
brings_leads rules p (Err x) a b store current fs r k = tt

pub assigns_moves : {T : Type 0} (rules : HostRules T) (fs : List Frame) (s : Bor Stmt) (x : Stmt) (n : Bor Named) (e : Bor Expr) → s.now ≡ x → Assigns x n.now e.now → Moves rules fs (focus.Stmt s) (frame.Assign n ∷ fs) (focus.Expr e)
assigns_moves rules fs s (S.Var name f) n e q r = var_moves rules fs s n e n.now e.now (rw (r.0, r.1) at q) refl refl
assigns_moves rules fs s (S.Assign name f) n e q r = assign_moves rules fs s n e n.now e.now (rw (r.0, r.1) at q) refl refl
assigns_moves rules fs s x n e q r = absurd r

module _ {T : Type 0} (rules : HostRules T) (p : Code.Program) (store : Store) (current : Current) where
  -- a value that is found with no frame for the parts of its expression
  pub direct_comes : (e : Expr) (v : Value) → direct_there p store current e ≡ Some (seen v) → ValueComes rules p e store current v store
  direct_comes e v d = λ fs expr q h. direct_goes rules p store current fs expr v (rw q d) h

  -- a statement that only gives a variable a value
  pub takes_value : (store1 store2 : Store) (current2 : Current) (name : Named) (e : Expr) (v : Value) → ValueComes rules p e store current v store1 → IsSet p store1 current name.name v store2 current2 → Sets rules p name e store current store2 current2
  takes_value store1 store2 current2 name e v g i = λ s more a fs block rest q r h.
      let stmt : Bor Stmt = record { ref_ptr = (0, 0); now = s } in
      let bound : Bor Named = record { ref_ptr = (0, 0); now = name } in
      let expr : Bor Expr = record { ref_ptr = (0, 0); now = e } in
      let fs1 = frame.Wait (waiting.Stmts rest) ∷ fs in
      let one = (pushes_moves rules fs (block_pushes block rest stmt (rw r q))).goes (seen_program p) store current h in
      let two = (assigns_moves rules fs1 stmt s bound expr refl a).goes (seen_program p) store current one.holds in
      let three = g (frame.Assign bound ∷ fs1) expr refl two.holds in
      let four = assign_goes rules (seen_program p) store1 current fs1 store2 current2 bound v i.names i.depth i.locals i.globals i.fuel three.holds in
      let five = (pops_moves rules fs (stmts_pops value.Unit rest)).goes (seen_program p) store2 current2 four.holds in
      goes_arrives rules (seen_program p) _ _ (goes_trans rules (seen_program p) _ _ _ one (goes_trans rules (seen_program p) _ _ _ two (goes_trans rules (seen_program p) _ _ _ three (goes_trans rules (seen_program p) _ _ _ four five))))

  -- the value of an expression in a row
  pub row_direct : (fs : List Frame) (purpose : Purpose) (vs vs1 : Vec Value Global) (row rest : Bor (List Expr)) (e : Bor Expr) (v : Value) → row.now ≡ e.now ∷ rest.now → direct_there p store current e.now ≡ Some (seen v) → vs1.items ≡ vs.items ++ v ∷ []
      → Leads rules (seen_program p) (place store current fs (focus.Row purpose vs row)) (place store current fs (focus.Row purpose vs1 rest))
  row_direct fs purpose vs vs1 row rest e v q d a = λ h.
      let one = (pushes_moves rules fs (row_pushes purpose vs row rest e q)).goes (seen_program p) store current h in
      let two = direct_goes rules p store current (frame.Wait (waiting.Row purpose vs rest) ∷ fs) e v d one.holds in
      let three = (pops_moves rules fs (row_pops v purpose vs vs1 rest a)).goes (seen_program p) store current two.holds in
      goes_trans rules (seen_program p) _ _ _ one (goes_trans rules (seen_program p) _ _ _ two three)

  -- the same expressions, wherever they stand
  pub row_stays : (fs : List Frame) (purpose : Purpose) (vs : Vec Value Global) (row rest : Bor (List Expr)) → row.now ≡ rest.now → Brings rules (seen_program p) (place store current fs (focus.Row purpose vs row)) (place store current fs (focus.Row purpose vs rest))
  unfolding meaning_at steps_left
  row_stays fs purpose vs row rest q = λ h. record {
    means = λ ns k. record { numbers = ns; enough = k; same = λ host. rw q refl };
    holds = record { depth = h.depth; few = h.few; globals = h.globals; held = h.held; frames = h.frames; focus = rw (← q) h.focus; size = rw (← q) h.size };
    fuel = still store.fuel;
    tickets = λ ts. refl;
    fewer = rw q (still _);
  }

  -- the same statements, wherever they stand
  pub block_stays : (fs : List Frame) (block rest : Bor (List Stmt)) → block.now ≡ rest.now → Brings rules (seen_program p) (place store current fs (focus.Block block)) (place store current fs (focus.Block rest))
  unfolding meaning_at steps_left
  block_stays fs block rest q = λ h. record {
    means = λ ns k. record { numbers = ns; enough = k; same = λ host. rw q refl };
    holds = record { depth = h.depth; few = h.few; globals = h.globals; held = h.held; frames = h.frames; focus = rw (← q) h.focus; size = rw (← q) h.size };
    fuel = still store.fuel;
    tickets = λ ts. refl;
    fewer = rw q (still _);
  }

  -- one more value of a row
  pub row_more : (vs vs1 vs2 : Vec Value Global) (es : List Expr) (here : Bor (List Expr)) (v : Value) (more : List Expr) → RowBrings rules p store current vs es vs1 here.now → HasFirst p store current here.now v more → vs2.items ≡ vs1.items ++ v ∷ [] → RowBrings rules p store current vs es vs2 more
  row_more vs vs1 vs2 es here v more r g a = λ fs purpose row rest q e h.
      let one = r fs purpose row here q refl h in
      let two = row_direct fs purpose vs1 vs2 here rest g.expr v (rw e g.first) g.value a one.holds in
      arrives_on rules (seen_program p) _ _ _ one two

  -- a call by name, and then its arguments
  pub call_leads : {S : Type 0} (result : Result Focus (Exit S)) (fs fs1 : List Frame) (n : Named) (args : Bor (List Expr)) (purpose : Purpose) (vs : Vec Value Global) → IsCalled (op_named n.name) (names_there p store current n.name) purpose → vs.items ≡ []
      → IfOk result (λ f. Leads rules (seen_program p) (place store current fs (focus.Row purpose vs args)) (place store current fs1 f))
      → IfOk result (λ f. (call : Bor Expr) (es : Vec Expr Global) → call.now ≡ E.Call n es → args.now ≡ es.items → Leads rules (seen_program p) (place store current fs (focus.Expr call)) (place store current fs1 f))
  call_leads (Ok f) fs fs1 n args purpose vs k e next = λ call es q a h.
      let one = call_row rules p store current fs call n es args args purpose vs q a k e refl h in
      goes_trans rules (seen_program p) _ _ _ one (next one.holds)
  call_leads (Err x) fs fs1 n args purpose vs k e next = tt

  pub call_at : {S : Type 0} (result : Result Focus (Exit S)) (fs fs1 : List Frame) (n : Named) (args : List Expr) (call : Bor Expr) (es : Vec Expr Global) → call.now ≡ E.Call n es → args ≡ es.items
      → IfOk result (λ f. (call : Bor Expr) (es : Vec Expr Global) → call.now ≡ E.Call n es → args ≡ es.items → Leads rules (seen_program p) (place store current fs (focus.Expr call)) (place store current fs1 f))
      → IfOk result (λ f. Leads rules (seen_program p) (place store current fs (focus.Expr call)) (place store current fs1 f))
  call_at (Ok f) fs fs1 n args call es q a k = k call es q a
  call_at (Err x) fs fs1 n args call es q a k = tt

-- some statements of a block, and then more of them
pub block_on : {T : Type 0} (rules : HostRules T) (p : Code.Program) (store store1 store2 : Store) (current current1 current2 : Current) (ss ss1 ss2 : List Stmt)
    → BlockBrings rules p store current ss store1 current1 ss1 → BlockBrings rules p store1 current1 ss1 store2 current2 ss2 → BlockBrings rules p store current ss store2 current2 ss2
block_on rules p store store1 store2 current current1 current2 ss ss1 ss2 x y = λ fs block rest q e h.
    let here : Bor (List Stmt) = record { ref_ptr = (0, 0); now = ss1 } in
    let one = x fs block here q refl h in
    arrives_trans rules (seen_program p) _ _ _ one (y fs here rest refl e one.holds)

module _ {T : Type 0} (rules : HostRules T) (p : Program) where
  -- a step, and then more
  pub leads_on : {S : Type 0} (result : Result Focus (Exit S)) (a b : Place) (store : Store) (current : Current) (fs : List Frame) → Leads rules p a b → IfOk result (λ f. Leads rules p b (place store current fs f)) → IfOk result (λ f. Leads rules p a (place store current fs f))
  leads_on (Ok f) a b store current fs g k = λ h. let one = g h in goes_trans rules p _ _ _ one (k one.holds)
  leads_on (Err x) a b store current fs g k = tt

  pub kept_on : {S : Type 0} (result : Result Focus (Exit S)) (a b : Place) (store : Store) → Leads rules p a b → IfErr result (λ _. IsKept p b store) → IfErr result (λ _. IsKept p a store)
  kept_on (Ok f) a b store g k = tt
  kept_on (Err x) a b store g k = λ h. let one = g h in let z = k one.holds in (z.0, within _ _ _ z.1 one.fuel)

module _ (p : Program) where
  -- the same store is kept
  pub same_kept : (a : Place) → IsKept p a a.store
  same_kept a = λ h. (h.globals, still a.store.fuel)

  pub if_kept : {A S : Type 0} (result : Result A (Exit S)) (a : Place) → IfErr result (λ _. IsKept p a a.store)
  if_kept (Ok x) a = tt
  if_kept (Err x) a = same_kept a

  -- another name of the store that is kept
  pub kept_as : {A S : Type 0} (result : Result A (Exit S)) (a : Place) (store store1 : Store) → IfErr result (λ _. store1 ≡ store) → IfErr result (λ _. IsKept p a store) → IfErr result (λ _. IsKept p a store1)
  kept_as (Ok x) a store store1 e k = tt
  kept_as (Err x) a store store1 e k = rw e k

  -- no memory, where the store is kept
  pub if_wanting : {S : Type 0} (result : Result Focus (Exit S)) (a : Place) (store : Store) → IfErr result (λ x. x ≡ exit.OutOfMemory) → IfErr result (λ _. IsKept p a store) → IfErr result (EndsWanting p a store)
  if_wanting (Ok f) a store e k = tt
  if_wanting (Err x) a store e k = rw e k

module _ {T : Type 0} (rules : HostRules T) (p : Code.Program) (store : Store) (current : Current) (fs : List Frame) (test : Bor Expr) (block : Bor (List Stmt)) where
  -- the condition holds, and a unit is taken
  pub test_enters : (v : Value) (store1 : Store) (fs1 : List Frame) (k : ℕ) → bool_in (seen v) ≡ Some true → store.fuel ≡ suc k → store1 ≡ record store { fuel = k } → fs1 ≡ frame.Turn test block ∷ fs
      → Leads rules (seen_program p) (tested_at store current test block fs v) (place store1 current fs1 (focus.Block block))
  test_enters v store1 fs1 k q u s a = rw a (λ h. test_true rules (seen_program p) store current fs store1 test block v k q u s h)

  -- whatever value the turn ended with
  pub turn_at : {S : Type 0} (result : Result Focus (Exit S)) (store1 : Store) (current1 : Current) (fs1 : List Frame) (v : Value) → IfOk result (λ f. (v : Value) → Leads rules (seen_program p) (turned store current test block fs v) (place store1 current1 fs1 f))
      → IfOk result (λ f. Leads rules (seen_program p) (turned store current test block fs v) (place store1 current1 fs1 f))
  turn_at (Ok f) store1 current1 fs1 v k = k v
  turn_at (Err x) store1 current1 fs1 v k = tt

module _ (p : Program) (store : Store) (current : Current) (fs : List Frame) (test : Bor Expr) (block : Bor (List Stmt)) where
  pub turn_kept_at : {S : Type 0} (result : Result Focus (Exit S)) (store1 : Store) (v : Value) → IfErr result (λ _. (v : Value) → IsKept p (turned store current test block fs v) store1) → IfErr result (λ _. IsKept p (turned store current test block fs v) store1)
  turn_kept_at (Ok f) store1 v k = tt
  turn_kept_at (Err x) store1 v k = k v

-- a store whose units came back
pub unit_back : (store store1 : Store) → store1.globals ≡ store.globals → record store1 { fuel = store.fuel } ≡ store
unit_back store store1 q = rw q refl
