-- Turns of a loop of which all is done at once.
use Rattle.std.proofs.Common.{◌≡◌, ℕ, suc, List, [], ◌∷◌, Bool, true, Result, Ok, Err, IfOk, IfErr, refl}
use Rattle.std.specs.Borrow.{Bor}
use Rattle.page_values.specs.declared.Value.{Value}
use Rattle.page_values.specs.declared.Value.TheVariants as value
use Rattle.lang_ast.specs.SeenProgram.{seen_program}
use Rattle.lang_ast.specs.declared.program.Program as Code
use Rattle.lang_ast.specs.declared.tree.Expr.{Expr}
use Rattle.lang_ast.specs.declared.tree.Stmt.{Stmt}
use Rattle.lang_meaning.specs.HostSteps.{HostRules}
use Rattle.page_interp.specs.declared.exit.Exit.{Exit}
use Rattle.page_interp.specs.declared.exit.Store.{Store}
use Rattle.page_interp.specs.declared.stack.Current.{Current}
use Rattle.page_interp.specs.declared.stack.Focus.{Focus}
use Rattle.page_interp.specs.declared.stack.Focus.TheVariants as focus
use Rattle.page_interp.specs.declared.stack.Frame.{Frame}
use Rattle.page_interp.specs.declared.stack.Frame.TheVariants as frame
use Rattle.page_interp.specs.AtOnce.{IsBoolThere, IsKept, Leads, turned}
use Rattle.page_interp.specs.Frames.{place}
use Rattle.page_interp.specs.StackClauses.{BlockBrings, TurnComes, TurnBegins}
use Rattle.page_interp.proofs.SmallSteps.{stays_moves}
use Rattle.page_interp.proofs.StmtSteps.{block_stays}
use Rattle.page_interp.proofs.FrameSteps.{turn_goes}
use Rattle.page_interp.proofs.DirectSteps.{direct_goes}
use Rattle.page_interp.proofs.AtOnce.{goes_trans, goes_on, test_enters}

pub told_there : (p : Code.Program) (store : Store) (current : Current) (e : Expr) (b : Bool) {c : Bool} → b ≡ c → IsBoolThere p store current e b → IsBoolThere p store current e c
told_there p store current e b q h = rw q at h

module _ {T : Type 0} (rules : HostRules T) (p : Code.Program) (e : Expr) (ss : List Stmt) where
  -- at the end of a turn the condition is next
  pub comes_first : (store : Store) (current : Current) → TurnComes rules p e ss store current store current
  comes_first store current = λ fs v test block q r h. turn_goes rules (seen_program p) store current fs test test block block v refl refl h

  -- a turn begins, and these statements are left of its block
  pub begins : (store store1 store2 store3 : Store) (current current1 current3 : Current) (k : ℕ) (left : List Stmt)
      → TurnComes rules p e ss store current store1 current1 → IsBoolThere p store1 current1 e true → store1.fuel ≡ suc k → store2 ≡ record store1 { fuel = k }
      → BlockBrings rules p store2 current1 ss store3 current3 left → TurnBegins rules p e ss store current store3 current3 left
  begins store store1 store2 store3 current current1 current3 k left c d u s b = λ fs v test block rest q r t h.
      let one = c fs v test block q r h in
      let two = direct_goes rules p store1 current1 (frame.Test test block ∷ fs) test (value.Bool true) (rw q d) one.holds in
      let three = test_enters rules p store1 current1 fs test block (value.Bool true) store2 (frame.Turn test block ∷ fs) k refl u s refl two.holds in
      let four = b (frame.Turn test block ∷ fs) block rest r t three.holds in
      goes_trans rules (seen_program p) _ _ _ one (goes_trans rules (seen_program p) _ _ _ two (goes_on rules (seen_program p) _ _ _ three four))

  -- the block of a turn is done, and the condition is next
  pub comes_again : (store store1 : Store) (current current1 : Current) (left : List Stmt) → left ≡ [] → TurnBegins rules p e ss store current store1 current1 left → TurnComes rules p e ss store current store1 current1
  comes_again store store1 current current1 left n b = λ fs v test block q r h.
      let rest : Bor (List Stmt) = record { ref_ptr = (0, 0); now = left } in
      let one = b fs v test block rest q r refl h in
      let two = (stays_moves rules (frame.Turn test block ∷ fs) (block_stays rest n)).goes (seen_program p) store1 current1 one.holds in
      let three = turn_goes rules (seen_program p) store1 current1 fs test test block block value.Unit refl refl two.holds in
      goes_trans rules (seen_program p) _ _ _ one (goes_trans rules (seen_program p) _ _ _ two three)

module _ {T : Type 0} (rules : HostRules T) (p : Code.Program) (test : Bor Expr) (block : Bor (List Stmt)) (store store1 : Store) (current current1 : Current) (fs : List Frame) where
  -- the condition is next, and the loop waits for it
  pub come_leads : {S : Type 0} (result : Result Focus (Exit S)) (fs1 : List Frame) → TurnComes rules p test.now block.now store current store1 current1 → IfOk result (λ _. fs1 ≡ frame.Test test block ∷ fs) → IfOk result (λ x. x ≡ focus.Expr test)
      → IfOk result (λ f. (v : Value) → Leads rules (seen_program p) (turned store current test block fs v) (place store1 current1 fs1 f))
  come_leads (Ok f) fs1 c a b = λ v. rw (a, b) (c fs v test block refl refl)
  come_leads (Err x) fs1 c a b = tt

  pub come_kept : {A : Type 0} (result : Result Focus A) → TurnComes rules p test.now block.now store current store1 current1 → IfErr result (λ _. (v : Value) → IsKept (seen_program p) (turned store current test block fs v) store1)
  come_kept (Ok f) c = tt
  come_kept (Err x) c = λ v h. let one = c fs v test block refl refl h in (one.holds.globals, one.fuel)
