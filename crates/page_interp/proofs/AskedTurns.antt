-- Steps from the statements of a block and from the end of a loop's turn, with asks of the host among them.
use Rattle.std.proofs.Common.{◌≡◌, List, [], ◌∷◌, Result, Ok, Err, IfOk, IfErr, refl}
use Rattle.std.specs.Borrow.{Bor}
use Rattle.page_values.specs.declared.Value.{Value}
use Rattle.page_values.specs.declared.Value.TheVariants as value
use Rattle.lang_ast.specs.Hosts.{HostNow}
use Rattle.lang_ast.specs.SeenProgram.{seen_program}
use Rattle.lang_ast.specs.declared.program.Program as Code
use Rattle.lang_ast.specs.declared.tree.Expr.{Expr}
use Rattle.lang_ast.specs.declared.tree.Stmt.{Stmt}
use Rattle.lang_meaning.specs.HostSteps.{HostRules, Ask}
use Rattle.page_interp.specs.declared.exit.Exit.{Exit}
use Rattle.page_interp.specs.declared.exit.Exit.TheVariants as exit
use Rattle.page_interp.specs.declared.exit.Store.{Store}
use Rattle.page_interp.specs.declared.stack.Current.{Current}
use Rattle.page_interp.specs.declared.stack.Focus.{Focus}
use Rattle.page_interp.specs.declared.stack.Focus.TheVariants as focus
use Rattle.page_interp.specs.declared.stack.Frame.{Frame}
use Rattle.page_interp.specs.declared.stack.Frame.TheVariants as frame
use Rattle.page_interp.specs.Runs.{IsUnsettled}
use Rattle.page_interp.specs.AtOnce.{Leads, IsKept, before_stmt, turned}
use Rattle.page_interp.specs.Asked.{ProceedsTo, BlockStands, BlockAsks, BlockStops, TurnStands}
use Rattle.page_interp.specs.Frames.{Place, Steps, place}
use Rattle.page_interp.specs.StackClauses.{BlockBrings, TurnBegins, TurnComes, IsStanding}
use Rattle.page_interp.proofs.Steps.{still}
use Rattle.page_interp.proofs.SmallSteps.{pops_moves, stays_moves}
use Rattle.page_interp.proofs.ValueSteps.{stmts_pops}
use Rattle.page_interp.proofs.StmtSteps.{block_stays}
use Rattle.page_interp.proofs.AtOnce.{steps_leads, turn_at, turn_kept_at, if_kept, kept_as}
use Rattle.page_interp.proofs.LoopTurns.{come_leads, come_kept}
use Rattle.page_interp.proofs.Asked.{leads_proceeds, brings_proceeds, proceeds_trans, proceeds_stops, proceeds_steps, block_brought, block_asks_on, block_stands_on, block_stops_on}

pub memory_unsettled : {S : Type 0} (result : Result Focus (Exit S)) → IfErr result (λ x. x ≡ exit.OutOfMemory) → IfErr result IsUnsettled
memory_unsettled (Ok f) e = tt
memory_unsettled (Err x) e = rw e tt

module _ {T S : Type 0} (rules : HostRules T) (leaves : Ask → T → T → Type 0) (p : Code.Program) where
  -- a run that stands at some statements stands at those that are left of them
  pub stands_at : (h : HostNow T S) (store store1 : Store) (current current1 : Current) (ss ss1 : List Stmt) → BlockStands rules leaves p h store current ss → BlockBrings rules p store current ss store1 current1 ss1 → BlockStands rules leaves p h store1 current1 ss1
  stands_at h store store1 current current1 ss ss1 s b = block_stands_on rules leaves p h h store store1 current current1 ss ss1 (block_brought rules leaves p h store store1 current current1 ss ss1 b) s

  -- what comes before a step that does not ask the host, and the step
  leads_steps : (h h1 : HostNow T S) (a b : Place) (result : Result Focus (Exit S)) (store : Store) (current : Current) (fs : List Frame) → ProceedsTo rules leaves (seen_program p) h a h1 b → IfOk result (λ f. Leads rules (seen_program p) b (place store current fs f))
      → IfErr result (λ x. x ≡ exit.OutOfMemory) → IfErr result (λ _. IsKept (seen_program p) b store) → Steps rules leaves (seen_program p) h a result h1 store current fs
  leads_steps h h1 a b result store current fs x k e i = proceeds_steps rules leaves (seen_program p) h h1 h1 a b result store current fs (memory_unsettled result e) x (steps_leads rules leaves (seen_program p) h1 result b store current fs k e i)

  pub stmts_steps : (h h1 : HostNow T S) (store store1 store2 store3 : Store) (current current1 current2 current3 : Current) (fs fs1 : List Frame) (block rest : Bor (List Stmt)) (ss : List Stmt) (result : Result Focus (Exit S)) → BlockBrings rules p store current block.now store1 current1 ss
      → BlockAsks rules leaves p h store1 current1 ss h1 store2 current2 rest.now → IfOk result (λ f. Leads rules (seen_program p) (place store2 current2 fs (focus.Block rest)) (place store3 current3 fs1 f))
      → IfErr result (λ x. x ≡ exit.OutOfMemory) → IfErr result (λ _. store3 ≡ store2) → Steps rules leaves (seen_program p) h (place store current fs (focus.Block block)) result h1 store3 current3 fs1
  stmts_steps h h1 store store1 store2 store3 current current1 current2 current3 fs fs1 block rest ss result b y k e i =
      leads_steps h h1 _ (place store2 current2 fs (focus.Block rest)) result store3 current3 fs1
      (block_asks_on rules leaves p h h h1 store store1 store2 current current1 current2 block.now ss rest.now (block_brought rules leaves p h store store1 current current1 block.now ss b) y fs block rest refl refl) k e
      (kept_as (seen_program p) result (place store2 current2 fs (focus.Block rest)) store2 store3 i (if_kept (seen_program p) result (place store2 current2 fs (focus.Block rest))))

  pub stmts_stop : (h h1 : HostNow T S) (store store1 store2 : Store) (current current1 current2 : Current) (fs fs1 : List Frame) (block : Bor (List Stmt)) (ss : List Stmt) (x : Exit S) → BlockBrings rules p store current block.now store1 current1 ss
      → BlockStops rules leaves p h store1 current1 ss h1 store2 x → Steps rules leaves (seen_program p) h (place store current fs (focus.Block block)) (Err x) h1 store2 current2 fs1
  stmts_stop h h1 store store1 store2 current current1 current2 fs fs1 block ss x b y =
      (block_stops_on rules leaves p h h h1 store store1 store2 current current1 block.now ss x (block_brought rules leaves p h store store1 current current1 block.now ss b) y fs block refl).1

  -- statements that wait for a value that has come
  pub stmts_stand : (h : HostNow T S) (store : Store) (current : Current) (fs : List Frame) (rest : Bor (List Stmt)) (v : Value) → IsStanding rules leaves p h (place store current (before_stmt rest fs) (focus.Value v)) → BlockStands rules leaves p h store current rest.now
  stmts_stand h store current fs rest v s = (fs, rest, refl, (s.0, (leads_proceeds rules leaves (seen_program p) h _ _ (λ k. (pops_moves rules fs (stmts_pops v rest)).goes (seen_program p) store current k) s.0 s.1).stood))

  pub stmts_next : (h h1 : HostNow T S) (store store1 : Store) (current current1 : Current) (fs fs1 : List Frame) (rest : Bor (List Stmt)) (v : Value) (result : Result Focus (Exit S)) → Steps rules leaves (seen_program p) h (place store current fs (focus.Block rest)) result h1 store1 current1 fs1 → IfErr result IsUnsettled
      → Steps rules leaves (seen_program p) h (place store current (before_stmt rest fs) (focus.Value v)) result h1 store1 current1 fs1
  stmts_next h h1 store store1 current current1 fs fs1 rest v result s u = proceeds_steps rules leaves (seen_program p) h h h1 _ _ result store1 current1 fs1 u (leads_proceeds rules leaves (seen_program p) h _ _ (λ k. (pops_moves rules fs (stmts_pops v rest)).goes (seen_program p) store current k)) s

-- the turns of a loop so far, whatever value the first of them ended with
pub record Turned {T S : Type 0} (rules : HostRules T) (leaves : Ask → T → T → Type 0) (p : Code.Program) (h0 : HostNow T S) (store0 : Store) (current0 : Current) (fs : List Frame) (test : Bor Expr) (block : Bor (List Stmt)) (v : Value)
    (h : HostNow T S) (store : Store) (current : Current) : Type 0 where
  pub last : Value
  pub proceeds : ProceedsTo rules leaves (seen_program p) h0 (turned store0 current0 test block fs v) h (turned store current test block fs last)

-- the same of any loop with this condition and this block
abbrev pub TurnsTo : {T S : Type 0} → HostRules T → (Ask → T → T → Type 0) → Code.Program → HostNow T S → Store → Current → Expr → List Stmt → HostNow T S → Store → Current → Type 0
TurnsTo rules leaves p h0 store0 current0 e ss h store current =
    (fs : List Frame) (v : Value) (test : Bor Expr) (block : Bor (List Stmt)) → test.now ≡ e → block.now ≡ ss → Turned rules leaves p h0 store0 current0 fs test block v h store current

module _ {T S : Type 0} (rules : HostRules T) (leaves : Ask → T → T → Type 0) (p : Code.Program) (h0 : HostNow T S) (store0 : Store) (current0 : Current) (e : Expr) (ss : List Stmt) where
  pub turned_none : TurnsTo rules leaves p h0 store0 current0 e ss h0 store0 current0
  turned_none = λ fs v test block q r. record { last = v; proceeds = brings_proceeds rules leaves (seen_program p) h0 _ _ (λ h. record { means = λ ns k. record { numbers = ns; enough = k; same = λ host. refl }; holds = h; fuel = still _; tickets = λ ts. refl; fewer = still _ }) }

  module _ (h : HostNow T S) (store store1 : Store) (current current1 : Current) (left : List Stmt) where
    -- to the statements that are left of a turn
    turn_begun : (fs : List Frame) (v : Value) (test : Bor Expr) (block : Bor (List Stmt)) → test.now ≡ e → block.now ≡ ss → TurnsTo rules leaves p h0 store0 current0 e ss h store current → TurnBegins rules p e ss store current store1 current1 left
        → (rest : Bor (List Stmt)) → rest.now ≡ left → ProceedsTo rules leaves (seen_program p) h0 (turned store0 current0 test block fs v) h (place store1 current1 (frame.Turn test block ∷ fs) (focus.Block rest))
    turn_begun fs v test block q r t b rest n =
        let before = t fs v test block q r in
        proceeds_trans rules leaves (seen_program p) h0 h h _ _ _ before.proceeds (leads_proceeds rules leaves (seen_program p) h _ _ (b fs before.last test block rest q r n))

    pub turn_stands : TurnStands rules leaves p h0 store0 current0 e ss → TurnsTo rules leaves p h0 store0 current0 e ss h store current → TurnBegins rules p e ss store current store1 current1 left → BlockStands rules leaves p h store1 current1 left
    turn_stands s t b =
        let rest : Bor (List Stmt) = record { ref_ptr = (0, 0); now = left } in
        (frame.Turn s.2 s.3 ∷ s.0, rest, refl, (s.6.0, (turn_begun s.0 s.1 s.2 s.3 s.4 s.5 t b rest refl s.6.0 s.6.1).stood))

    module _ (h1 : HostNow T S) (store2 : Store) (current2 : Current) where
      -- the block of the turn is done
      pub turned_more : (none : List Stmt) → none ≡ [] → TurnsTo rules leaves p h0 store0 current0 e ss h store current → TurnBegins rules p e ss store current store1 current1 left
          → BlockAsks rules leaves p h store1 current1 left h1 store2 current2 none → TurnsTo rules leaves p h0 store0 current0 e ss h1 store2 current2
      turned_more none n t b y = λ fs v test block q r.
          let rest : Bor (List Stmt) = record { ref_ptr = (0, 0); now = left } in
          let end : Bor (List Stmt) = record { ref_ptr = (0, 0); now = none } in
          let fs1 = frame.Turn test block ∷ fs in
          record {
            last = value.Unit;
            proceeds = proceeds_trans rules leaves (seen_program p) h0 h h1 _ _ _ (turn_begun fs v test block q r t b rest refl)
                (proceeds_trans rules leaves (seen_program p) h h1 h1 _ _ _ (y fs1 rest end refl refl)
                (leads_proceeds rules leaves (seen_program p) h1 _ _ (λ k. (stays_moves rules fs1 (block_stays end n)).goes (seen_program p) store2 current2 k)));
          }

      -- statements are left of it
      pub turn_goes_on : (fs fs1 : List Frame) (v : Value) (test : Bor Expr) (block more : Bor (List Stmt)) (result : Result Focus (Exit S)) (store3 : Store) (current3 : Current) → test.now ≡ e → block.now ≡ ss → TurnsTo rules leaves p h0 store0 current0 e ss h store current
          → TurnBegins rules p e ss store current store1 current1 left → BlockAsks rules leaves p h store1 current1 left h1 store2 current2 more.now
          → IfOk result (λ f. Leads rules (seen_program p) (place store2 current2 (frame.Turn test block ∷ fs) (focus.Block more)) (place store3 current3 fs1 f))
          → IfErr result (λ x. x ≡ exit.OutOfMemory) → IfErr result (λ _. store3 ≡ store2) → Steps rules leaves (seen_program p) h0 (turned store0 current0 test block fs v) result h1 store3 current3 fs1
      turn_goes_on fs fs1 v test block more result store3 current3 q r t b y k x i =
          let rest : Bor (List Stmt) = record { ref_ptr = (0, 0); now = left } in
          let here = place store2 current2 (frame.Turn test block ∷ fs) (focus.Block more) in
          leads_steps rules leaves p h0 h1 _ here result store3 current3 fs1
          (proceeds_trans rules leaves (seen_program p) h0 h h1 _ _ _ (turn_begun fs v test block q r t b rest refl) (y (frame.Turn test block ∷ fs) rest more refl refl)) k x
          (kept_as (seen_program p) result here store2 store3 i (if_kept (seen_program p) result here))

      -- the run ends in it
      pub turn_stops : (fs fs1 : List Frame) (v : Value) (test : Bor Expr) (block : Bor (List Stmt)) (x : Exit S) (current3 : Current) → test.now ≡ e → block.now ≡ ss → TurnsTo rules leaves p h0 store0 current0 e ss h store current
          → TurnBegins rules p e ss store current store1 current1 left → BlockStops rules leaves p h store1 current1 left h1 store2 x → Steps rules leaves (seen_program p) h0 (turned store0 current0 test block fs v) (Err x) h1 store2 current3 fs1
      turn_stops fs fs1 v test block x current3 q r t b y =
          let rest : Bor (List Stmt) = record { ref_ptr = (0, 0); now = left } in
          (proceeds_stops rules leaves (seen_program p) h0 h h1 _ _ x store2 (turn_begun fs v test block q r t b rest refl) (y (frame.Turn test block ∷ fs) rest refl)).1

  -- the condition is next
  pub turn_comes : (h : HostNow T S) (store store1 : Store) (current current1 : Current) (fs fs1 : List Frame) (v : Value) (test : Bor Expr) (block : Bor (List Stmt)) (result : Result Focus (Exit S)) → test.now ≡ e → block.now ≡ ss → TurnsTo rules leaves p h0 store0 current0 e ss h store current
      → TurnComes rules p e ss store current store1 current1 → IfOk result (λ _. fs1 ≡ frame.Test test block ∷ fs) → IfOk result (λ x. x ≡ focus.Expr test) → IfErr result (λ x. x ≡ exit.OutOfMemory) → Steps rules leaves (seen_program p) h0 (turned store0 current0 test block fs v) result h store1 current1 fs1
  turn_comes h store store1 current current1 fs fs1 v test block result q r t c a n x =
      let before = t fs v test block q r in
      let comes : TurnComes rules p test.now block.now store current store1 current1 = rw (q, r) c in
      leads_steps rules leaves p h0 h _ (turned store current test block fs before.last) result store1 current1 fs1 before.proceeds
      (turn_at rules p store current fs test block result store1 current1 fs1 before.last (come_leads rules p test block store store1 current current1 fs result fs1 comes a n)) x
      (turn_kept_at (seen_program p) store current fs test block result store1 before.last (come_kept rules p test block store store1 current current1 fs result comes))
