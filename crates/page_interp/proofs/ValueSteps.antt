-- Steps from a value that comes back to what waits for it.
use Rattle.std.proofs.Common.{◌≡◌, ◌<◌, List, [], ◌∷◌, ◌++◌, Option, Some, None, Err, true, false, Vec, Global, refl, arith}
use Rattle.std.specs.Borrow.{Bor}
use Rattle.std.proofs.Common.{Bool}
use Rattle.std.proofs.lemmas.List.{map-append, length-append}
use Rattle.page_types.specs.Tree.{Block, no_stmts, with_stmt}
use Rattle.lang_ast.specs.Sizes.{block_size}
use Rattle.page_types.specs.declared.SumSign.{SumSign}
use Rattle.page_types.specs.declared.ProductSign.{ProductSign}
use Rattle.page_types.specs.declared.CompareSign.{CompareSign}
use Rattle.page_types.specs.declared.UnarySign.{UnarySign}
use Rattle.page_types.specs.declared.FaultName.TheVariants.{TypeError}
use Rattle.page_parts.specs.Kinds.{bool_in}
use Rattle.page_values.specs.declared.Value.{Value}
use Rattle.page_values.specs.declared.Value.TheVariants as value
use Rattle.page_values.specs.Seen.{seen}
use Rattle.lang_ast.specs.declared.tree.Expr.{Expr}
use Rattle.lang_ast.specs.declared.tree.Stmt.{Stmt}
use Rattle.lang_ast.specs.declared.tree.Item.{Item}
use Rattle.lang_ast.specs.Names.{in_expr}
use Rattle.lang_ast.specs.Seen.{seen_expr, seen_block}
use Rattle.lang_ast.proofs.Fits.{fits_front, fits_back}
use Rattle.lang_meaning.specs.Evaluation.{sum_answer, product_answer, compare_answer, unary_answer, item_answer}
use Rattle.page_interp.specs.declared.stack.Focus.{Focus}
use Rattle.page_interp.specs.declared.stack.Focus.TheVariants as focus
use Rattle.page_interp.specs.declared.stack.Waiting.TheVariants as waiting
use Rattle.page_interp.specs.declared.stack.Purpose.{Purpose}
use Rattle.page_interp.specs.Frames.{IsAnswer, IsPicked}
use Rattle.page_interp.proofs.Numbered.{sum_numbered, product_numbered, compare_numbered, unary_numbered, item_numbered, all_append}
use Rattle.page_interp.proofs.SmallSteps.{Pops, Swaps, answer_pops, answer_swaps}

some_block : (b : Block) → 0 < block_size b
some_block no_stmts = omega arith
some_block (with_stmt s rest) = omega arith

module _ {T : Type 0} where
  pub or_stops : (v : Value) (rest : Bor (List Expr)) → bool_in (seen v) ≡ Some true → Pops T (waiting.Or rest) v (focus.Value (value.Bool true))
  or_stops v rest q = record { same = λ d m. rw q refl; sound = λ count h n. tt; size = omega arith; fewer = omega arith }

  pub or_last : (v : Value) (rest : Bor (List Expr)) → bool_in (seen v) ≡ Some false → rest.now ≡ [] → Pops T (waiting.Or rest) v (focus.Value (value.Bool false))
  or_last v rest q r = record { same = λ d m. rw (q, r) refl; sound = λ count h n. tt; size = omega arith; fewer = omega arith }

  pub or_next : (v : Value) (rest more : Bor (List Expr)) (e : Bor Expr) → bool_in (seen v) ≡ Some false → rest.now ≡ e.now ∷ more.now → Swaps T (waiting.Or rest) v (waiting.Or more) (focus.Expr e)
  or_next v rest more e q r = record {
    same = λ d m. rw (q, r) refl;
    sound = λ count h n. let s = rw r at h in (fits_front _ _ s, fits_back (in_expr (seen_expr e.now)) _ s);
    size = rw r (omega arith);
    waits = rw r (omega arith);
    fewer = rw r (omega arith);
  }

  pub or_no_bool : (v : Value) (rest : Bor (List Expr)) (f : Focus) → bool_in (seen v) ≡ None → IsAnswer f (Err TypeError) → Pops T (waiting.Or rest) v f
  or_no_bool v rest f q h = answer_pops (waiting.Or rest) v f (Err TypeError) h (λ d m. rw q refl) (λ count k n. tt) (omega arith)

  pub and_stops : (v : Value) (rest : Bor (List Expr)) → bool_in (seen v) ≡ Some false → Pops T (waiting.And rest) v (focus.Value (value.Bool false))
  and_stops v rest q = record { same = λ d m. rw q refl; sound = λ count h n. tt; size = omega arith; fewer = omega arith }

  pub and_last : (v : Value) (rest : Bor (List Expr)) → bool_in (seen v) ≡ Some true → rest.now ≡ [] → Pops T (waiting.And rest) v (focus.Value (value.Bool true))
  and_last v rest q r = record { same = λ d m. rw (q, r) refl; sound = λ count h n. tt; size = omega arith; fewer = omega arith }

  pub and_next : (v : Value) (rest more : Bor (List Expr)) (e : Bor Expr) → bool_in (seen v) ≡ Some true → rest.now ≡ e.now ∷ more.now → Swaps T (waiting.And rest) v (waiting.And more) (focus.Expr e)
  and_next v rest more e q r = record {
    same = λ d m. rw (q, r) refl;
    sound = λ count h n. let s = rw r at h in (fits_front _ _ s, fits_back (in_expr (seen_expr e.now)) _ s);
    size = rw r (omega arith);
    waits = rw r (omega arith);
    fewer = rw r (omega arith);
  }

  pub and_no_bool : (v : Value) (rest : Bor (List Expr)) (f : Focus) → bool_in (seen v) ≡ None → IsAnswer f (Err TypeError) → Pops T (waiting.And rest) v f
  and_no_bool v rest f q h = answer_pops (waiting.And rest) v f (Err TypeError) h (λ d m. rw q refl) (λ count k n. tt) (omega arith)

  pub left_swaps : (v : Value) (sign : CompareSign) (e : Bor Expr) → Swaps T (waiting.Left sign e) v (waiting.Right sign v) (focus.Expr e)
  left_swaps v sign e = record { same = λ d m. refl; sound = λ count h n. (h, tt); size = omega arith; waits = omega arith; fewer = omega arith }

  pub right_pops : (v left : Value) (sign : CompareSign) (f : Focus) → IsAnswer f (compare_answer sign (seen left) (seen v)) → Pops T (waiting.Right sign left) v f
  right_pops v left sign f h = answer_pops (waiting.Right sign left) v f (compare_answer sign (seen left) (seen v)) h (λ d m. refl) (λ count k n. compare_numbered count sign (seen left) (seen v)) (omega arith)

  pub unary_pops : (v : Value) (sign : UnarySign) (f : Focus) → IsAnswer f (unary_answer sign (seen v)) → Pops T (waiting.Unary sign) v f
  unary_pops v sign f h = answer_pops (waiting.Unary sign) v f (unary_answer sign (seen v)) h (λ d m. refl) (λ count k n. unary_numbered count sign (seen v)) (omega arith)

  pub terms_last : (v : Value) (ts : Bor (List (SumSign × Expr))) → ts.now ≡ [] → Pops T (waiting.Terms ts) v (focus.Value v)
  terms_last v ts q = record { same = λ d m. rw q refl; sound = λ count h n. n; size = omega arith; fewer = rw q (omega arith) }

  pub terms_next : (v : Value) (ts rest : Bor (List (SumSign × Expr))) (t : Bor (SumSign × Expr)) (e : Bor Expr) → ts.now ≡ t.now ∷ rest.now → e.now ≡ t.now.1 → Swaps T (waiting.Terms ts) v (waiting.Term v t.now.0 rest) (focus.Expr e)
  terms_next v ts rest t e q a = record {
    same = λ d m. rw (q, a) refl;
    sound = λ count h n. let s = rw q at h in (rw a (fits_front _ _ s), fits_back (in_expr (seen_expr t.now.1)) _ s);
    size = rw (q, a) (omega arith);
    waits = rw q (omega arith);
    fewer = rw (q, a) (omega arith);
  }

  pub terms_answer : (v first : Value) (sign : SumSign) (rest : Bor (List (SumSign × Expr))) (f : Focus) → IsAnswer f (sum_answer sign (seen first) (seen v)) → Swaps T (waiting.Term first sign rest) v (waiting.Terms rest) f
  terms_answer v first sign rest f h = answer_swaps (waiting.Term first sign rest) v (waiting.Terms rest) f (sum_answer sign (seen first) (seen v)) h (λ d m. refl) (λ count k n. (sum_numbered count sign (seen first) (seen v), k)) (omega arith) (omega arith)

  pub factors_last : (v : Value) (ts : Bor (List (ProductSign × Expr))) → ts.now ≡ [] → Pops T (waiting.Factors ts) v (focus.Value v)
  factors_last v ts q = record { same = λ d m. rw q refl; sound = λ count h n. n; size = omega arith; fewer = rw q (omega arith) }

  pub factors_next : (v : Value) (ts rest : Bor (List (ProductSign × Expr))) (t : Bor (ProductSign × Expr)) (e : Bor Expr) → ts.now ≡ t.now ∷ rest.now → e.now ≡ t.now.1 → Swaps T (waiting.Factors ts) v (waiting.Factor v t.now.0 rest) (focus.Expr e)
  factors_next v ts rest t e q a = record {
    same = λ d m. rw (q, a) refl;
    sound = λ count h n. let s = rw q at h in (rw a (fits_front _ _ s), fits_back (in_expr (seen_expr t.now.1)) _ s);
    size = rw (q, a) (omega arith);
    waits = rw q (omega arith);
    fewer = rw (q, a) (omega arith);
  }

  pub factors_answer : (v first : Value) (sign : ProductSign) (rest : Bor (List (ProductSign × Expr))) (f : Focus) → IsAnswer f (product_answer sign (seen first) (seen v)) → Swaps T (waiting.Factor first sign rest) v (waiting.Factors rest) f
  factors_answer v first sign rest f h = answer_swaps (waiting.Factor first sign rest) v (waiting.Factors rest) f (product_answer sign (seen first) (seen v)) h (λ d m. refl) (λ count k n. (product_numbered count sign (seen first) (seen v), k)) (omega arith) (omega arith)

  pub places_last : (v : Value) (es : Bor (List Expr)) → es.now ≡ [] → Pops T (waiting.Places es) v (focus.Value v)
  places_last v es q = record { same = λ d m. rw q refl; sound = λ count h n. n; size = omega arith; fewer = rw q (omega arith) }

  pub places_next : (v : Value) (es rest : Bor (List Expr)) (e : Bor Expr) → es.now ≡ e.now ∷ rest.now → Swaps T (waiting.Places es) v (waiting.Place v rest) (focus.Expr e)
  places_next v es rest e q = record {
    same = λ d m. rw q refl;
    sound = λ count h n. let s = rw q at h in (fits_front _ _ s, (n, fits_back (in_expr (seen_expr e.now)) _ s));
    size = rw q (omega arith);
    waits = rw q (omega arith);
    fewer = rw q (omega arith);
  }

  pub places_answer : (v list : Value) (rest : Bor (List Expr)) (f : Focus) → IsAnswer f (item_answer (seen list) (seen v)) → Swaps T (waiting.Place list rest) v (waiting.Places rest) f
  places_answer v list rest f h = answer_swaps (waiting.Place list rest) v (waiting.Places rest) f (item_answer (seen list) (seen v)) h (λ d m. refl) (λ count k n. (item_numbered count (seen list) (seen v) k.0, k.1)) (omega arith) (omega arith)

  pub row_pops : (v : Value) (purpose : Purpose) (vs vs1 : Vec Value Global) (rest : Bor (List Expr)) → vs1.items ≡ vs.items ++ v ∷ [] → Pops T (waiting.Row purpose vs rest) v (focus.Row purpose vs1 rest)
  row_pops v purpose vs vs1 rest q = record {
    same = λ d m. rw (q, map-append seen vs.items (v ∷ [])) refl;
    sound = λ count h n. (rw (q, length-append vs.items (v ∷ [])) h.0, rw (q, map-append seen vs.items (v ∷ [])) (all_append count _ _ h.1 (n, tt)), h.2);
    size = omega arith;
    fewer = omega arith;
  }

  pub ignore_pops : (v : Value) → Pops T waiting.Ignore v (focus.Value value.Unit)
  ignore_pops v = record { same = λ d m. refl; sound = λ count h n. tt; size = omega arith; fewer = omega arith }

  pub if_picks : (v : Value) (block : Bor (List Stmt)) (others : Bor (List (Expr × Vec Stmt Global))) (last : Bor (Option (Vec Stmt Global))) (o : Option Bool) (f : Focus) → bool_in (seen v) ≡ o
      → IsPicked o (focus.Block block) (focus.Others others last) f → Pops T (waiting.If block others last) v f
  if_picks v block others last (Some true) f q h = rw h (record { same = λ d m. rw q refl; sound = λ count h n. h.0; size = omega arith; fewer = omega arith })
  if_picks v block others last (Some false) f q h = rw h (record { same = λ d m. rw q refl; sound = λ count h n. (h.1, h.2); size = omega arith; fewer = omega (arith, some_block (seen_block block.now)) })
  if_picks v block others last None f q h = answer_pops (waiting.If block others last) v f (Err TypeError) h (λ d m. rw q refl) (λ count k n. tt) (omega arith)

  pub return_pops : (v : Value) → Pops T waiting.Return v (focus.Return v)
  return_pops v = record { same = λ d m. refl; sound = λ count h n. n; size = omega arith; fewer = omega arith }

  pub throw_pops : (v : Value) → Pops T waiting.Throw v (focus.Throw v)
  throw_pops v = record { same = λ d m. refl; sound = λ count h n. n; size = omega arith; fewer = omega arith }

  pub stmts_pops : (v : Value) (ss : Bor (List Stmt)) → Pops T (waiting.Stmts ss) v (focus.Block ss)
  stmts_pops v ss = record { same = λ d m. refl; sound = λ count h n. h; size = omega arith; fewer = omega arith }

  pub items_pops : (v : Value) (items : Bor (List Item)) → Pops T (waiting.Items items) v (focus.Items items)
  items_pops v items = record { same = λ d m. refl; sound = λ count h n. h; size = omega arith; fewer = omega arith }
