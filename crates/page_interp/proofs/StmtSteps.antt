-- Steps from statements.
use Rattle.std.proofs.Common.{◌≡◌, List, [], ◌∷◌, ◌++◌, Option, Some, None, Vec, Global, refl, arith}
use Rattle.std.specs.Borrow.{Bor}
use Rattle.page_values.specs.declared.Value.TheVariants as value
use Rattle.lang_ast.specs.declared.tree.Named.{Named}
use Rattle.lang_ast.specs.declared.tree.Expr.{Expr}
use Rattle.lang_ast.specs.declared.tree.Stmt.{Stmt}
use Rattle.lang_ast.specs.declared.tree.Stmt as S
use Rattle.lang_ast.specs.declared.tree.Item.{Item}
use Rattle.lang_ast.specs.Names.{in_expr, in_stmt, in_block, in_others}
use Rattle.lang_ast.specs.Seen.{seen_expr, seen_stmt, seen_block, seen_others, seen_items}
use Rattle.lang_ast.proofs.Fits.{fits_front, fits_back}
use Rattle.lang_ast.proofs.Trees.{seen-Var, seen-Assign, seen-Expr, seen-If, seen-While, seen-Return, seen-Throw, seen-Try}
use Rattle.lang_meaning.specs.Evaluation.{own_body}
use Rattle.lang_meaning.specs.HostSteps.{HostRules}
use Rattle.page_interp.specs.declared.stack.Focus.TheVariants as focus
use Rattle.page_interp.specs.declared.stack.Frame.{Frame}
use Rattle.page_interp.specs.declared.stack.Frame.TheVariants as frame
use Rattle.page_interp.specs.declared.stack.Waiting.TheVariants as waiting
use Rattle.page_interp.specs.Frames.{meaning_at, steps_left, Moves}
use Rattle.page_interp.proofs.Steps.{still}
use Rattle.page_interp.proofs.SmallSteps.{Pushes, Stays}
use Rattle.page_interp.proofs.Fitting.{var_fits, assign_fits, expr_fits, if_fits, while_fits, turn_fits, return_fits, throw_fits, try_fits}
use Rattle.page_types.specs.Tree.{no_stmts, with_stmt}
use Rattle.page_interp.proofs.SmallSteps.{below}

module _ {T : Type 0} where
  pub ignore_pushes : (x : Bor Stmt) (e : Bor Expr) (f : Expr) → x.now ≡ S.Expr f → e.now ≡ f → Pushes T (focus.Stmt x) waiting.Ignore (focus.Expr e)
  ignore_pushes x e f q a = record {
    same = λ d m. rw (q, seen-Expr, a) refl;
    sound = λ count h. (rw a (expr_fits x.now f q h), tt);
    size = rw (q, seen-Expr, a) (omega arith);
    waits = omega arith;
    fewer = rw (q, seen-Expr, a) (omega arith);
  }

  pub throw_pushes : (x : Bor Stmt) (e : Bor Expr) (f : Expr) → x.now ≡ S.Throw f → e.now ≡ f → Pushes T (focus.Stmt x) waiting.Throw (focus.Expr e)
  throw_pushes x e f q a = record {
    same = λ d m. rw (q, seen-Throw, a) refl;
    sound = λ count h. (rw a (throw_fits x.now f q h), tt);
    size = rw (q, seen-Throw, a) (omega arith);
    waits = omega arith;
    fewer = rw (q, seen-Throw, a) (omega arith);
  }

  pub return_pushes : (x : Bor Stmt) (e : Bor Expr) (o : Option Expr) (f : Expr) → x.now ≡ S.Return o → o ≡ Some f → e.now ≡ f → Pushes T (focus.Stmt x) waiting.Return (focus.Expr e)
  return_pushes x e o f q r a = record {
    same = λ d m. rw (q, seen-Return, r, a) refl;
    sound = λ count h. (rw a (return_fits x.now o f q r h), tt);
    size = rw (q, seen-Return, r, a) (omega arith);
    waits = omega arith;
    fewer = rw (q, seen-Return, r, a) (omega arith);
  }

  pub return_stays : (x : Bor Stmt) (o : Option Expr) → x.now ≡ S.Return o → o ≡ None → Stays T (focus.Stmt x) (focus.Return value.Unit)
  return_stays x o q r = record {
    same = λ d m. rw (q, seen-Return, r) refl;
    sound = λ count h. tt;
    size = omega arith;
    fewer = rw (q, seen-Return, r) (omega arith);
  }

  pub if_pushes : (x : Bor Stmt) (e : Bor Expr) (f : Expr) (block : Vec Stmt Global) (others : Vec (Expr × Vec Stmt Global) Global) (last : Option (Vec Stmt Global)) (b : Bor (List Stmt)) (o : Bor (List (Expr × Vec Stmt Global))) (l : Bor (Option (Vec Stmt Global)))
      → x.now ≡ S.If f block others last → e.now ≡ f → b.now ≡ block.items → o.now ≡ others.items → l.now ≡ last → Pushes T (focus.Stmt x) (waiting.If b o l) (focus.Expr e)
  if_pushes x e f block others last b o l q a bq oq lq = record {
    same = λ d m. rw (q, seen-If, a, bq, oq, lq) refl;
    sound = λ count h. let s = if_fits x.now f block others last q h in
        (rw a s.0, rw (bq, oq, lq) (s.1, fits_front (in_others (seen_others others.items)) _ s.2, fits_back (in_others (seen_others others.items)) _ s.2));
    size = rw (q, seen-If, a) (omega arith);
    waits = rw (q, seen-If, bq, oq, lq) (omega arith);
    fewer = rw (q, seen-If, a, bq, oq, lq) (omega arith);
  }

  -- statements in a row
  pub block_pushes : (ss rest : Bor (List Stmt)) (s : Bor Stmt) → ss.now ≡ s.now ∷ rest.now → Pushes T (focus.Block ss) (waiting.Stmts rest) (focus.Stmt s)
  block_pushes ss rest s q = record {
    same = λ d m. rw q refl;
    sound = λ count h. let k = rw q at h in (fits_front _ _ k, fits_back (in_stmt (seen_stmt s.now)) _ k);
    size = rw q (omega arith);
    waits = rw q (omega arith);
    fewer = rw q (omega arith);
  }

  pub block_stays : (ss : Bor (List Stmt)) → ss.now ≡ [] → Stays T (focus.Block ss) (focus.Value value.Unit)
  block_stays ss q = record { same = λ d m. rw q refl; sound = λ count h. tt; size = omega arith; fewer = rw q (omega arith) }

  pub items_pushes : (items rest : Bor (List Item)) (s : Bor Stmt) → own_body (seen_items items.now) ≡ with_stmt (seen_stmt s.now) (own_body (seen_items rest.now)) → Pushes T (focus.Items items) (waiting.Items rest) (focus.Stmt s)
  items_pushes items rest s q = record {
    same = λ d m. rw q refl;
    sound = λ count h. let k = rw q at h in (fits_front _ _ k, fits_back (in_stmt (seen_stmt s.now)) _ k);
    size = rw q (omega arith);
    waits = rw q (omega arith);
    fewer = rw q (omega arith);
  }

  pub items_stays : (items : Bor (List Item)) → own_body (seen_items items.now) ≡ no_stmts → Stays T (focus.Items items) (focus.Value value.Unit)
  items_stays items q = record { same = λ d m. rw q refl; sound = λ count h. tt; size = omega arith; fewer = rw q (omega arith) }

  -- `else if` parts in a row
  pub others_pushes : (others rest : Bor (List (Expr × Vec Stmt Global))) (last : Bor (Option (Vec Stmt Global))) (p : Bor (Expr × Vec Stmt Global)) (e : Bor Expr) (b : Bor (List Stmt))
      → others.now ≡ p.now ∷ rest.now → e.now ≡ p.now.0 → b.now ≡ p.now.1.items → Pushes T (focus.Others others last) (waiting.If b rest last) (focus.Expr e)
  others_pushes others rest last p e b q a bq = record {
    same = λ d m. rw (q, a, bq) refl;
    sound = λ count h. let s = rw q at h in
        let one = fits_front (in_expr (seen_expr p.now.0) ++ in_block (seen_block p.now.1.items)) _ s.0 in
        (rw a (fits_front (in_expr (seen_expr p.now.0)) _ one), (rw bq (fits_back (in_expr (seen_expr p.now.0)) _ one), fits_back (in_expr (seen_expr p.now.0) ++ in_block (seen_block p.now.1.items)) _ s.0, s.1));
    size = rw (q, a) (omega arith);
    waits = rw (q, bq) (omega arith);
    fewer = rw (q, a, bq) (omega arith);
  }

  pub others_last : (others : Bor (List (Expr × Vec Stmt Global))) (last : Bor (Option (Vec Stmt Global))) (block : Vec Stmt Global) (b : Bor (List Stmt)) → others.now ≡ [] → last.now ≡ Some block → b.now ≡ block.items → Stays T (focus.Others others last) (focus.Block b)
  others_last others last block b q r a = record {
    same = λ d m. rw (q, r, a) refl;
    sound = λ count h. let s = rw (q, r) at h in rw a s.1;
    size = rw (q, r, a) (omega arith);
    fewer = rw (q, r, a) (omega arith);
  }

  pub others_none : (others : Bor (List (Expr × Vec Stmt Global))) (last : Bor (Option (Vec Stmt Global))) → others.now ≡ [] → last.now ≡ None → Stays T (focus.Others others last) (focus.Value value.Unit)
  others_none others last q r = record {
    same = λ d m. rw (q, r) refl;
    sound = λ count h. tt;
    size = omega arith;
    fewer = rw (q, r) (omega arith);
  }

module _ {T : Type 0} (rules : HostRules T) (fs : List Frame) where
  pub var_moves : (x : Bor Stmt) (n : Bor Named) (e : Bor Expr) (name : Named) (f : Expr) → x.now ≡ S.Var name f → n.now ≡ name → e.now ≡ f → Moves rules fs (focus.Stmt x) (frame.Assign n ∷ fs) (focus.Expr e)
  unfolding meaning_at steps_left
  var_moves x n e name f q a b = record {
    goes = λ p store current h. record {
      means = λ ns k. record { numbers = 0 ∷ ns; enough = (tt, k); same = λ host. rw (q, seen-Var, a, b) refl };
      holds = record { depth = h.depth; few = h.few; globals = h.globals; held = h.held; frames = (tt, omega arith, h.frames); focus = rw b (var_fits x.now name f q h.focus); size = let s = h.size in let t = rw (q, seen-Var) at s in rw b (omega (arith, t)) };
      fuel = still store.fuel;
      tickets = λ ts. refl;
      fewer = below _ _ _ _ _ (rw (q, seen-Var, b) (omega arith));
    };
  }

  pub assign_moves : (x : Bor Stmt) (n : Bor Named) (e : Bor Expr) (name : Named) (f : Expr) → x.now ≡ S.Assign name f → n.now ≡ name → e.now ≡ f → Moves rules fs (focus.Stmt x) (frame.Assign n ∷ fs) (focus.Expr e)
  unfolding meaning_at steps_left
  assign_moves x n e name f q a b = record {
    goes = λ p store current h. record {
      means = λ ns k. record { numbers = 0 ∷ ns; enough = (tt, k); same = λ host. rw (q, seen-Assign, a, b) refl };
      holds = record { depth = h.depth; few = h.few; globals = h.globals; held = h.held; frames = (tt, omega arith, h.frames); focus = rw b (assign_fits x.now name f q h.focus); size = let s = h.size in let t = rw (q, seen-Assign) at s in rw b (omega (arith, t)) };
      fuel = still store.fuel;
      tickets = λ ts. refl;
      fewer = below _ _ _ _ _ (rw (q, seen-Assign, b) (omega arith));
    };
  }

  pub while_moves : (x : Bor Stmt) (e e1 : Bor Expr) (b : Bor (List Stmt)) (f : Expr) (block : Vec Stmt Global) → x.now ≡ S.While f block → e.now ≡ f → e1.now ≡ f → b.now ≡ block.items → Moves rules fs (focus.Stmt x) (frame.Test e b ∷ fs) (focus.Expr e1)
  unfolding meaning_at steps_left
  while_moves x e e1 b f block q a a1 bq = record {
    goes = λ p store current h.
        let s = turn_fits f block (while_fits x.now f block q h.focus) in
        record {
          means = λ ns k. record { numbers = store.fuel ∷ ns; enough = (still store.fuel, k); same = λ host. rw (q, seen-While, a, a1, bq) refl };
          holds = record {
            depth = h.depth;
            few = h.few;
            globals = h.globals;
            held = h.held;
            frames = (rw (a, bq) (s.0, s.1), (let z = h.size in let t = rw (q, seen-While) at z in rw (a, bq) (omega (arith, t))), h.frames);
            focus = rw a1 s.0;
            size = let z = h.size in let t = rw (q, seen-While) at z in rw a1 (omega (arith, t));
          };
          fuel = still store.fuel;
          tickets = λ ts. refl;
          fewer = below _ _ _ _ _ (rw (q, seen-While, a1) (omega arith));
        };
  }

  pub try_moves : (x : Bor Stmt) (b c : Bor (List Stmt)) (n : Bor Named) (block handler : Vec Stmt Global) (name : Named) → x.now ≡ S.Try block name handler → n.now ≡ name → b.now ≡ block.items → c.now ≡ handler.items → Moves rules fs (focus.Stmt x) (frame.Try n c ∷ fs) (focus.Block b)
  unfolding meaning_at steps_left
  try_moves x b c n block handler name q a bq cq = record {
    goes = λ p store current h.
        let s = try_fits x.now block name handler q h.focus in
        record {
          means = λ ns k. record { numbers = 0 ∷ ns; enough = (tt, k); same = λ host. rw (q, seen-Try, a, bq, cq) refl };
          holds = record {
            depth = h.depth;
            few = h.few;
            globals = h.globals;
            held = h.held;
            frames = (rw cq s.1, (let z = h.size in let t = rw (q, seen-Try) at z in rw cq (omega (arith, t))), h.frames);
            focus = rw bq s.0;
            size = let z = h.size in let t = rw (q, seen-Try) at z in rw bq (omega (arith, t));
          };
          fuel = still store.fuel;
          tickets = λ ts. refl;
          fewer = below _ _ _ _ _ (rw (q, seen-Try, bq, cq) (omega arith));
        };
  }
