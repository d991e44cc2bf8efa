-- Steps from the first statement of a block, with those after it.
use Rattle.std.proofs.Common.{◌≡◌, ℕ, ◌+◌, ◌<◌, List, [], ◌∷◌, Result, Ok, Err, Option, Some, None, Bool, false, IfOk, IfErr, Vec, Global, refl, ap, ◌∙◌, arith}
use Rattle.std.specs.Borrow.{Bor}
use Rattle.page_parts.specs.Kinds.{bool_in}
use Rattle.page_values.specs.declared.Value.{Value}
use Rattle.page_values.specs.declared.Value.TheVariants as value
use Rattle.page_values.specs.Seen.{seen}
use Rattle.lang_ast.specs.SeenProgram.{seen_program}
use Rattle.lang_ast.specs.declared.program.Program as Code
use Rattle.lang_ast.specs.declared.tree.Expr.{Expr}
use Rattle.lang_ast.specs.declared.tree.Stmt.{Stmt}
use Rattle.lang_ast.specs.declared.tree.Stmt as S
use Rattle.lang_ast.proofs.Trees.{seen-Expr, seen-Return}
use Rattle.lang_meaning.specs.Machine.{Done, Gives, Throws, Returns, OutOfFuel, and_then, finish}
use Rattle.lang_meaning.specs.Evaluation.{Around, without_first}
use Rattle.lang_meaning.specs.HostSteps.{HostRules}
use Rattle.page_interp.specs.declared.exit.Exit.{Exit}
use Rattle.page_interp.specs.declared.exit.Store.{Store}
use Rattle.page_interp.specs.declared.stack.Current.{Current}
use Rattle.page_interp.specs.declared.stack.Focus.{Focus}
use Rattle.page_interp.specs.declared.stack.Focus.TheVariants as focus
use Rattle.page_interp.specs.declared.stack.Frame.{Frame}
use Rattle.page_interp.specs.declared.stack.Frame.TheVariants as frame
use Rattle.page_interp.specs.declared.stack.Waiting.TheVariants as waiting
use Rattle.page_interp.specs.AtOnce.{Leads, IsBoolThere, before_stmt, branches}
use Rattle.page_interp.specs.Direct.{direct_there}
use Rattle.page_interp.specs.Frames.{continues, after_all, depth_of, meaning_at, steps_left, place, Moves, IsPicked}
use Rattle.page_interp.specs.Runs.{around_of}
use Rattle.page_interp.specs.StackClauses.{BlockBrings, ValueComes}
use Rattle.page_interp.proofs.Steps.{still}
use Rattle.page_interp.proofs.Fitting.{expr_fits, return_fits}
use Rattle.page_interp.proofs.SmallSteps.{pushes_moves, stays_moves, pops_moves, under}
use Rattle.page_interp.proofs.StmtSteps.{block_pushes, if_pushes, others_none}
use Rattle.page_interp.proofs.ValueSteps.{if_picks, return_pops, stmts_pops}
use Rattle.page_interp.proofs.DirectSteps.{direct_goes}
use Rattle.page_interp.proofs.AtOnce.{goes_trans, goes_arrives}

module _ {H : Type 0} (w : Around H) (ss : Bor (List Stmt)) where
  -- the value of an expression that is a statement
  ignored : (d : Done H) → and_then (and_then d (λ v m. finish m)) (continues w (waiting.Stmts ss)) ≡ and_then d (continues w (waiting.Stmts ss))
  ignored (Gives v m) = refl
  ignored (Throws v m) = refl
  ignored (Returns v m) = refl
  ignored (OutOfFuel m) = refl

  -- nothing comes after a `return`
  past_return : (d : Done H) → and_then (and_then d Returns) (continues w (waiting.Stmts ss)) ≡ and_then d (continues w waiting.Return)
  past_return (Gives v m) = refl
  past_return (Throws v m) = refl
  past_return (Returns v m) = refl
  past_return (OutOfFuel m) = refl

past : (a b c w d e : ℕ) → a + b < c + w → e + (a + (b + d)) < e + (c + (w + d))
past a b c w d e h = omega arith

module _ {T : Type 0} (rules : HostRules T) where
  pub moves_trans : {fs0 fs1 fs2 : List Frame} {f0 f1 f2 : Focus} → Moves rules fs0 f0 fs1 f1 → Moves rules fs1 f1 fs2 f2 → Moves rules fs0 f0 fs2 f2
  moves_trans x y = record { goes = λ p store current h. let one = x.goes p store current h in goes_trans rules p _ _ _ one (y.goes p store current one.holds) }

  pub moves_after : {X : Type 0} {fs0 fs1 : List Frame} {f0 f1 : Focus} (result : Result Focus (Exit X)) (fs2 : List Frame) → Moves rules fs0 f0 fs1 f1 → IfOk result (Moves rules fs1 f1 fs2) → IfOk result (Moves rules fs0 f0 fs2)
  moves_after (Ok f) fs2 x y = moves_trans x y
  moves_after (Err e) fs2 x y = tt

module _ {T : Type 0} (rules : HostRules T) (fs : List Frame) where
  -- what a statement that is an expression gives is not needed: the statements after it come next
  pub expr_moves : (s : Bor Stmt) (rest : Bor (List Stmt)) (e : Bor Expr) (f : Expr) → s.now ≡ S.Expr f → e.now ≡ f → Moves rules (before_stmt rest fs) (focus.Stmt s) (before_stmt rest fs) (focus.Expr e)
  unfolding meaning_at steps_left
  expr_moves s rest e f q a = record {
    goes = λ p store current h. record {
      means = λ ns k. record { numbers = ns; enough = k; same = λ host. rw (q, seen-Expr, a) (ap (after_all rules p fs (without_first ns)) (ignored (around_of rules p (depth_of fs)) rest _)) };
      holds = record { depth = h.depth; few = h.few; globals = h.globals; held = h.held; frames = h.frames; focus = rw a (expr_fits s.now f q h.focus); size = let z = h.size in let t = rw (q, seen-Expr) at z in rw a (omega (arith, t)) };
      fuel = still store.fuel;
      tickets = λ ts. refl;
      fewer = under _ _ _ _ (rw (q, seen-Expr, a) (omega arith));
    };
  }

  -- the statements after a `return` never come
  pub return_moves : (s : Bor Stmt) (rest : Bor (List Stmt)) (e : Bor Expr) → s.now ≡ S.Return (Some e.now) → Moves rules (before_stmt rest fs) (focus.Stmt s) (frame.Wait waiting.Return ∷ fs) (focus.Expr e)
  unfolding meaning_at steps_left
  return_moves s rest e q = record {
    goes = λ p store current h. record {
      means = λ ns k. record { numbers = ns; enough = (tt, k.1); same = λ host. rw (q, seen-Return) (ap (after_all rules p fs (without_first ns)) (past_return (around_of rules p (depth_of fs)) rest _)) };
      holds = record { depth = h.depth; few = h.few; globals = h.globals; held = h.held; frames = (tt, omega arith, h.frames.2); focus = return_fits s.now (Some e.now) e.now q refl h.focus; size = let z = h.size in let t = rw (q, seen-Return) at z in omega (arith, t) };
      fuel = still store.fuel;
      tickets = λ ts. refl;
      fewer = past _ _ _ _ _ _ (rw (q, seen-Return) (omega arith));
    };
  }

  -- a condition that does not hold, with no `else` side
  pub else_none : (others : Bor (List (Expr × Vec Stmt Global))) (last : Bor (Option (Vec Stmt Global))) (rest : Bor (List Stmt)) → others.now ≡ [] → last.now ≡ None → Moves rules (before_stmt rest fs) (focus.Others others last) fs (focus.Block rest)
  else_none others last rest q r = moves_trans rules (stays_moves rules (before_stmt rest fs) (others_none others last q r)) (pops_moves rules fs (stmts_pops value.Unit rest))

  -- a condition's value picks a side
  pub side_moves : (v : Value) (block : Bor (List Stmt)) (others : Bor (List (Expr × Vec Stmt Global))) (last : Bor (Option (Vec Stmt Global))) (rest : Bor (List Stmt)) (o : Option Bool) (f : Focus) → bool_in (seen v) ≡ o → IsPicked o (focus.Block block) (focus.Others others last) f
      → Moves rules (branches block others last rest fs) (focus.Value v) (before_stmt rest fs) f
  side_moves v block others last rest o f q h = pops_moves rules (before_stmt rest fs) (if_picks v block others last o f q h)

module _ {T : Type 0} (rules : HostRules T) (p : Code.Program) (store : Store) (current : Current) where
  pub leads_after : {X : Type 0} {fs0 fs1 : List Frame} {f0 f1 : Focus} (result : Result Focus (Exit X)) (store1 : Store) (current1 : Current) (fs2 : List Frame) → Moves rules fs0 f0 fs1 f1 → IfOk result (λ f. Leads rules (seen_program p) (place store current fs1 f1) (place store1 current1 fs2 f))
      → IfOk result (λ f. Leads rules (seen_program p) (place store current fs0 f0) (place store1 current1 fs2 f))
  leads_after (Ok f) store1 current1 fs2 m k = λ h. let one = m.goes (seen_program p) store current h in goes_trans rules (seen_program p) _ _ _ one (k one.holds)
  leads_after (Err x) store1 current1 fs2 m k = tt

  -- a statement that is an expression, for whose end those after it wait
  pub expr_leads : {X : Type 0} (result : Result Focus (Exit X)) (store1 : Store) (fs fs1 fs2 : List Frame) (s : Bor Stmt) (rest : Bor (List Stmt)) (e : Bor Expr) (f : Expr) → s.now ≡ S.Expr f → e.now ≡ f → fs1 ≡ before_stmt rest fs
      → IfOk result (λ g. Leads rules (seen_program p) (place store current fs1 (focus.Expr e)) (place store1 current fs2 g)) → IfOk result (λ g. Leads rules (seen_program p) (place store current (before_stmt rest fs) (focus.Stmt s)) (place store1 current fs2 g))
  expr_leads result store1 fs fs1 fs2 s rest e f q a b k = leads_after result store1 current fs2 (expr_moves rules fs s rest e f q a) (rw b at k)

  -- a `return` whose value is found at once
  pub return_direct : (fs : List Frame) (s : Bor Stmt) (rest : Bor (List Stmt)) (e : Bor Expr) (v : Value) → s.now ≡ S.Return (Some e.now) → direct_there p store current e.now ≡ Some (seen v)
      → Leads rules (seen_program p) (place store current (before_stmt rest fs) (focus.Stmt s)) (place store current fs (focus.Return v))
  return_direct fs s rest e v q d = λ h.
      let one = (return_moves rules fs s rest e q).goes (seen_program p) store current h in
      let two = direct_goes rules p store current (frame.Wait waiting.Return ∷ fs) e v d one.holds in
      let three = (pops_moves rules fs (return_pops v)).goes (seen_program p) store current two.holds in
      goes_trans rules (seen_program p) _ _ _ one (goes_trans rules (seen_program p) _ _ _ two three)

  -- one whose value comes later
  pub return_waits : {X : Type 0} (result : Result Focus (Exit X)) (fs fs1 : List Frame) (e : Bor Expr) → IfOk result (λ _. fs1 ≡ frame.Wait waiting.Return ∷ fs) → IfOk result (λ x. x ≡ focus.Expr e)
      → IfOk result (λ f. (s : Bor Stmt) (rest : Bor (List Stmt)) → s.now ≡ S.Return (Some e.now) → Leads rules (seen_program p) (place store current (before_stmt rest fs) (focus.Stmt s)) (place store current fs1 f))
  return_waits (Ok f) fs fs1 e a b = λ s rest q. rw (a, b) ((return_moves rules fs s rest e q).goes (seen_program p) store current)
  return_waits (Err x) fs fs1 e a b = tt

  pub return_at : {X : Type 0} (result : Result Focus (Exit X)) (fs fs1 : List Frame) (y : Expr) (s : Bor Stmt) (rest : Bor (List Stmt)) → s.now ≡ S.Return (Some y)
      → IfOk result (λ f. (s : Bor Stmt) (rest : Bor (List Stmt)) → s.now ≡ S.Return (Some y) → Leads rules (seen_program p) (place store current (before_stmt rest fs) (focus.Stmt s)) (place store current fs1 f))
      → IfOk result (λ f. Leads rules (seen_program p) (place store current (before_stmt rest fs) (focus.Stmt s)) (place store current fs1 f))
  return_at (Ok f) fs fs1 y s rest q k = k s rest q
  return_at (Err x) fs fs1 y s rest q k = tt

  -- a condition whose value is found at once
  pub if_direct : {X : Type 0} (result : Result Focus (Exit X)) (fs fs1 : List Frame) (s : Bor Stmt) (rest : Bor (List Stmt)) (t : Expr) (block : Vec Stmt Global) (others : Vec (Expr × Vec Stmt Global) Global) (last : Option (Vec Stmt Global))
      (b : Bor (List Stmt)) (o : Bor (List (Expr × Vec Stmt Global))) (l : Bor (Option (Vec Stmt Global))) (v : Value)
      → s.now ≡ S.If t block others last → b.now ≡ block.items → o.now ≡ others.items → l.now ≡ last → direct_there p store current t ≡ Some (seen v)
      → IfOk result (Moves rules (branches b o l rest fs) (focus.Value v) fs1) → IfOk result (λ f. Leads rules (seen_program p) (place store current (before_stmt rest fs) (focus.Stmt s)) (place store current fs1 f))
  if_direct (Ok f) fs fs1 s rest t block others last b o l v q bq oq lq d m = λ h.
      let test : Bor Expr = record { ref_ptr = (0, 0); now = t } in
      let one = (pushes_moves rules (before_stmt rest fs) (if_pushes s test t block others last b o l q refl bq oq lq)).goes (seen_program p) store current h in
      let two = direct_goes rules p store current (branches b o l rest fs) test v d one.holds in
      goes_trans rules (seen_program p) _ _ _ one (goes_trans rules (seen_program p) _ _ _ two (m.goes (seen_program p) store current two.holds))
  if_direct (Err x) fs fs1 s rest t block others last b o l v q bq oq lq d m = tt

module _ {T : Type 0} (rules : HostRules T) (p : Code.Program) (store : Store) (current : Current) where
  -- a condition that does not hold, with no `else` side, is passed over
  pub if_passed : (s : Stmt) (more : List Stmt) (t : Expr) (block : Vec Stmt Global) (others : Vec (Expr × Vec Stmt Global) Global) (last : Option (Vec Stmt Global))
      → s ≡ S.If t block others last → IsBoolThere p store current t false → others.items ≡ [] → last ≡ None → BlockBrings rules p store current (s ∷ more) store current more
  if_passed s more t block others last is f n e = λ fs whole rest q r h.
      let stmt : Bor Stmt = record { ref_ptr = (0, 0); now = s } in
      let test : Bor Expr = record { ref_ptr = (0, 0); now = t } in
      let side : Bor (List Stmt) = record { ref_ptr = (0, 0); now = block.items } in
      let elses : Bor (List (Expr × Vec Stmt Global)) = record { ref_ptr = (0, 0); now = others.items } in
      let end : Bor (Option (Vec Stmt Global)) = record { ref_ptr = (0, 0); now = last } in
      let v = value.Bool false in
      let one = (pushes_moves rules fs (block_pushes whole rest stmt (rw r q))).goes (seen_program p) store current h in
      let two = (pushes_moves rules (before_stmt rest fs) (if_pushes stmt test t block others last side elses end is refl refl refl refl)).goes (seen_program p) store current one.holds in
      let three = direct_goes rules p store current (branches side elses end rest fs) test v f two.holds in
      let four = (side_moves rules fs v side elses end rest (Some false) (focus.Others elses end) refl refl).goes (seen_program p) store current three.holds in
      let five = (else_none rules fs elses end rest n e).goes (seen_program p) store current four.holds in
      goes_arrives rules (seen_program p) _ _ (goes_trans rules (seen_program p) _ _ _ one (goes_trans rules (seen_program p) _ _ _ two (goes_trans rules (seen_program p) _ _ _ three (goes_trans rules (seen_program p) _ _ _ four five))))

  -- a statement that is an expression
  pub expr_done : (store1 : Store) (s : Stmt) (more : List Stmt) (e : Expr) (v : Value) → s ≡ S.Expr e → ValueComes rules p e store current v store1 → BlockBrings rules p store current (s ∷ more) store1 current more
  expr_done store1 s more e v is g = λ fs whole rest q r h.
      let stmt : Bor Stmt = record { ref_ptr = (0, 0); now = s } in
      let expr : Bor Expr = record { ref_ptr = (0, 0); now = e } in
      let one = (pushes_moves rules fs (block_pushes whole rest stmt (rw r q))).goes (seen_program p) store current h in
      let two = (expr_moves rules fs stmt rest expr e is refl).goes (seen_program p) store current one.holds in
      let three = g (before_stmt rest fs) expr refl two.holds in
      let four = (pops_moves rules fs (stmts_pops v rest)).goes (seen_program p) store1 current three.holds in
      goes_arrives rules (seen_program p) _ _ (goes_trans rules (seen_program p) _ _ _ one (goes_trans rules (seen_program p) _ _ _ two (goes_trans rules (seen_program p) _ _ _ three four)))

-- the same store, by another name of it
pub same_then : {A E : Type 0} (result : Result A E) (a b c : Store) → IfErr result (λ _. a ≡ b) → b ≡ c → IfErr result (λ _. a ≡ c)
same_then (Ok x) a b c h q = tt
same_then (Err x) a b c h q = h ∙ q
