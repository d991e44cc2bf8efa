-- Steps from expressions.
use Rattle.std.proofs.Common.{◌≡◌, ℕ, List, [], ◌∷◌, map, Option, Ok, true, false, Vec, Global, refl, arith}
use Rattle.std.specs.Prelude.{Box, ℤ}
use Rattle.std.specs.Borrow.{Bor}
use Rattle.page_types.specs.declared.SumSign.{SumSign}
use Rattle.page_types.specs.declared.ProductSign.{ProductSign}
use Rattle.page_types.specs.declared.CompareSign.{CompareSign}
use Rattle.page_types.specs.declared.UnarySign.{UnarySign}
use Rattle.page_types.specs.declared.Op.{Op}
use Rattle.page_types.specs.Values.{TextValue, ListValue, values_of}
use Rattle.page_values.specs.declared.Value.{Value}
use Rattle.page_values.specs.declared.Value.TheVariants as value
use Rattle.page_values.specs.Seen.{seen}
use Rattle.lang_ast.specs.declared.tree.Expr.{Expr}
use Rattle.lang_ast.specs.declared.tree.Expr as E
use Rattle.lang_ast.specs.Names.{in_expr}
use Rattle.lang_ast.specs.Seen.{seen_expr}
use Rattle.lang_ast.proofs.Fits.{fits_front, fits_back}
use Rattle.lang_ast.proofs.Trees.{seen-Or, seen-And, seen-Compare, seen-Sum, seen-Product, seen-Unary, seen-Post, seen-Number, seen-Text, seen-True, seen-False, seen-Unit, seen-Paren, seen-List}
use Rattle.lang_meaning.specs.Evaluation.{limited_value}
use Rattle.page_interp.specs.declared.stack.Focus.{Focus}
use Rattle.page_interp.specs.declared.stack.Focus.TheVariants as focus
use Rattle.page_interp.specs.declared.stack.Waiting.TheVariants as waiting
use Rattle.page_interp.specs.declared.stack.Purpose.{Purpose}
use Rattle.page_interp.specs.declared.stack.Purpose.TheVariants as purpose
use Rattle.page_interp.specs.Frames.{HasArguments, IsAnswer}
use Rattle.page_interp.proofs.Numbered.{limited_numbered, list_numbered}
use Rattle.page_interp.proofs.SmallSteps.{Pushes, Stays, answer_stays}
use Rattle.page_interp.proofs.Fitting.{or_fits, and_fits, compare_fits, sum_fits, product_fits, unary_fits, post_fits, paren_fits, list_fits}

counted : (count : ℕ) (purpose : Purpose) (n k : ℕ) → n ≡ k → HasArguments count purpose n → HasArguments count purpose k
counted count purpose n k q h = rw q at h

module _ {T : Type 0} where
  pub or_pushes : (x first : Bor Expr) (rest : Bor (List Expr)) (e : Box Expr Global) (es : Vec Expr Global) → x.now ≡ E.Or e es → first.now ≡ e.value → rest.now ≡ es.items → Pushes T (focus.Expr x) (waiting.Or rest) (focus.Expr first)
  or_pushes x first rest e es q a b = record {
    same = λ d m. rw (q, seen-Or, a, b) refl;
    sound = λ count h. rw (a, b) (or_fits x.now e es q h);
    size = rw (q, seen-Or, a) (omega arith);
    waits = rw (q, seen-Or, b) (omega arith);
    fewer = rw (q, seen-Or, a, b) (omega arith);
  }

  pub and_pushes : (x first : Bor Expr) (rest : Bor (List Expr)) (e : Box Expr Global) (es : Vec Expr Global) → x.now ≡ E.And e es → first.now ≡ e.value → rest.now ≡ es.items → Pushes T (focus.Expr x) (waiting.And rest) (focus.Expr first)
  and_pushes x first rest e es q a b = record {
    same = λ d m. rw (q, seen-And, a, b) refl;
    sound = λ count h. rw (a, b) (and_fits x.now e es q h);
    size = rw (q, seen-And, a) (omega arith);
    waits = rw (q, seen-And, b) (omega arith);
    fewer = rw (q, seen-And, a, b) (omega arith);
  }

  pub sum_pushes : (x first : Bor Expr) (rest : Bor (List (SumSign × Expr))) (e : Box Expr Global) (es : Vec (SumSign × Expr) Global) → x.now ≡ E.Sum e es → first.now ≡ e.value → rest.now ≡ es.items → Pushes T (focus.Expr x) (waiting.Terms rest) (focus.Expr first)
  sum_pushes x first rest e es q a b = record {
    same = λ d m. rw (q, seen-Sum, a, b) refl;
    sound = λ count h. rw (a, b) (sum_fits x.now e es q h);
    size = rw (q, seen-Sum, a) (omega arith);
    waits = rw (q, seen-Sum, b) (omega arith);
    fewer = rw (q, seen-Sum, a, b) (omega arith);
  }

  pub product_pushes : (x first : Bor Expr) (rest : Bor (List (ProductSign × Expr))) (e : Box Expr Global) (es : Vec (ProductSign × Expr) Global) → x.now ≡ E.Product e es → first.now ≡ e.value → rest.now ≡ es.items → Pushes T (focus.Expr x) (waiting.Factors rest) (focus.Expr first)
  product_pushes x first rest e es q a b = record {
    same = λ d m. rw (q, seen-Product, a, b) refl;
    sound = λ count h. rw (a, b) (product_fits x.now e es q h);
    size = rw (q, seen-Product, a) (omega arith);
    waits = rw (q, seen-Product, b) (omega arith);
    fewer = rw (q, seen-Product, a, b) (omega arith);
  }

  pub post_pushes : (x first : Bor Expr) (rest : Bor (List Expr)) (e : Box Expr Global) (es : Vec Expr Global) → x.now ≡ E.Post e es → first.now ≡ e.value → rest.now ≡ es.items → Pushes T (focus.Expr x) (waiting.Places rest) (focus.Expr first)
  post_pushes x first rest e es q a b = record {
    same = λ d m. rw (q, seen-Post, a, b) refl;
    sound = λ count h. rw (a, b) (post_fits x.now e es q h);
    size = rw (q, seen-Post, a) (omega arith);
    waits = rw (q, seen-Post, b) (omega arith);
    fewer = rw (q, seen-Post, a, b) (omega arith);
  }

  pub compare_pushes : (x left right : Bor Expr) (a : Box Expr Global) (sign : CompareSign) (b : Box Expr Global) → x.now ≡ E.Compare a sign b → left.now ≡ a.value → right.now ≡ b.value → Pushes T (focus.Expr x) (waiting.Left sign right) (focus.Expr left)
  compare_pushes x left right a sign b q p r = record {
    same = λ d m. rw (q, seen-Compare, p, r) refl;
    sound = λ count h. rw (p, r) (compare_fits x.now a sign b q h);
    size = rw (q, seen-Compare, p) (omega arith);
    waits = rw (q, seen-Compare, r) (omega arith);
    fewer = rw (q, seen-Compare, p, r) (omega arith);
  }

  pub unary_pushes : (x operand : Bor Expr) (sign : UnarySign) (e : Box Expr Global) → x.now ≡ E.Unary sign e → operand.now ≡ e.value → Pushes T (focus.Expr x) (waiting.Unary sign) (focus.Expr operand)
  unary_pushes x operand sign e q a = record {
    same = λ d m. rw (q, seen-Unary, a) refl;
    sound = λ count h. (rw a (unary_fits x.now sign e q h), tt);
    size = rw (q, seen-Unary, a) (omega arith);
    waits = omega arith;
    fewer = rw (q, seen-Unary, a) (omega arith);
  }

  pub paren_stays : (x inner : Bor Expr) (e : Box Expr Global) → x.now ≡ E.Paren e → inner.now ≡ e.value → Stays T (focus.Expr x) (focus.Expr inner)
  paren_stays x inner e q a = record {
    same = λ d m. rw (q, seen-Paren, a) refl;
    sound = λ count h. rw a (paren_fits x.now e q h);
    size = rw (q, seen-Paren, a) (omega arith);
    fewer = rw (q, seen-Paren, a) (omega arith);
  }

  pub list_stays : (x : Bor Expr) (row : Bor (List Expr)) (es : Vec Expr Global) (vs : Vec Value Global) → x.now ≡ E.List es → row.now ≡ es.items → vs.items ≡ [] → Stays T (focus.Expr x) (focus.Row purpose.List vs row)
  list_stays x row es vs q a n = record {
    same = λ d m. rw (q, seen-List, a, n) refl;
    sound = λ count h. (tt, rw n tt, rw a (list_fits x.now es q h));
    size = rw (q, seen-List, a) (omega arith);
    fewer = rw (q, seen-List, a) (omega arith);
  }

  pub number_stays : (x : Bor Expr) (n : ℤ) → x.now ≡ E.Number n → Stays T (focus.Expr x) (focus.Value (value.Int n))
  number_stays x n q = record {
    same = λ d m. rw (q, seen-Number) refl;
    sound = λ count h. tt;
    size = omega arith;
    fewer = rw (q, seen-Number) (omega arith);
  }

  pub true_stays : (x : Bor Expr) → x.now ≡ E.True → Stays T (focus.Expr x) (focus.Value (value.Bool true))
  true_stays x q = record {
    same = λ d m. rw (q, seen-True) refl;
    sound = λ count h. tt;
    size = omega arith;
    fewer = rw (q, seen-True) (omega arith);
  }

  pub false_stays : (x : Bor Expr) → x.now ≡ E.False → Stays T (focus.Expr x) (focus.Value (value.Bool false))
  false_stays x q = record {
    same = λ d m. rw (q, seen-False) refl;
    sound = λ count h. tt;
    size = omega arith;
    fewer = rw (q, seen-False) (omega arith);
  }

  pub unit_stays : (x : Bor Expr) → x.now ≡ E.Unit → Stays T (focus.Expr x) (focus.Value value.Unit)
  unit_stays x q = record {
    same = λ d m. rw (q, seen-Unit) refl;
    sound = λ count h. tt;
    size = omega arith;
    fewer = rw (q, seen-Unit) (omega arith);
  }

  pub text_stays : (x : Bor Expr) (t : List ℕ) (f : Focus) → x.now ≡ E.Text t → IsAnswer f (Ok (TextValue t)) → Stays T (focus.Expr x) f
  text_stays x t f q h = answer_stays (focus.Expr x) f (Ok (TextValue t)) h (λ d m. rw (q, seen-Text) refl) (λ count k. tt) (rw (q, seen-Text) (omega arith))

  -- from expressions in a row
  pub row_pushes : (purpose : Purpose) (vs : Vec Value Global) (row rest : Bor (List Expr)) (e : Bor Expr) → row.now ≡ e.now ∷ rest.now → Pushes T (focus.Row purpose vs row) (waiting.Row purpose vs rest) (focus.Expr e)
  row_pushes purpose vs row rest e q = record {
    same = λ d m. rw q refl;
    sound = λ count h. let s = rw q at h in (fits_front _ _ s.2, (counted count purpose _ _ (omega arith) s.0, s.1, fits_back (in_expr (seen_expr e.now)) _ s.2));
    size = rw q (omega arith);
    waits = rw q (omega arith);
    fewer = rw q (omega arith);
  }

  pub row_list : (vs : Vec Value Global) (row : Bor (List Expr)) (f : Focus) → row.now ≡ [] → IsAnswer f (limited_value (ListValue (values_of (map seen vs.items)))) → Stays T (focus.Row purpose.List vs row) f
  row_list vs row f q h = answer_stays (focus.Row purpose.List vs row) f (limited_value (ListValue (values_of (map seen vs.items)))) h (λ d m. rw q refl) (λ count k. limited_numbered count (ListValue (values_of (map seen vs.items))) (list_numbered count _ k.1)) (rw q (omega arith))

  pub row_ask : (op : Op) (vs : Vec Value Global) (row : Bor (List Expr)) → row.now ≡ [] → Stays T (focus.Row (purpose.Ask op) vs row) (focus.Ask op vs)
  row_ask op vs row q = record {
    same = λ d m. rw q refl;
    sound = λ count h. let s = rw q at h in (let n = s.0 in omega (arith, n), s.1);
    size = omega arith;
    fewer = rw q (omega arith);
  }

  pub row_call : (o : Option Value) (vs : Vec Value Global) (row : Bor (List Expr)) → row.now ≡ [] → Stays T (focus.Row (purpose.Call o) vs row) (focus.Call o vs)
  row_call o vs row q = record {
    same = λ d m. rw q refl;
    sound = λ count h. (h.0, h.1);
    size = omega arith;
    fewer = rw q (omega arith);
  }
