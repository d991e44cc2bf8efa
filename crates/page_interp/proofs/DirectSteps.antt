-- An expression that calls nothing has the value that is found with no frame for its parts.
use Rattle.std.proofs.Common.{◌≡◌, ℕ, ◌<◌, List, [], ◌∷◌, ◌++◌, Option, Some, None, Result, Ok, Err, IfOk, IfSome, Vec, Global, refl, sym, ap, ◌∙◌, arith}
use Rattle.std.specs.Prelude.{Box, Bool, true, false, cond, ℤ, ◌*ℤ◌, int_div, int_rem}
use Rattle.std.specs.Option.{option_map}
use Rattle.std.specs.Borrow.{Bor}
use Rattle.page_types.specs.declared.FaultName.TheVariants.{TypeError, RangeError}
use Rattle.page_types.specs.declared.SumSign.{SumSign}
use Rattle.page_types.specs.declared.SumSign.TheVariants.{Plus}
use Rattle.page_types.specs.declared.ProductSign.{ProductSign}
use Rattle.page_types.specs.declared.ProductSign.TheVariants.{Times, Divide, Remainder}
use Rattle.page_types.specs.declared.CompareSign.{CompareSign}
use Rattle.page_types.specs.Values as Model
use Rattle.page_types.specs.Values.{IntValue, FunValue, no_values}
use Rattle.page_parts.specs.Kinds.{int_in, list_in, within_limits}
use Rattle.page_types.specs.Tree as Tree
use Rattle.page_types.specs.Tree.{Compare, Sum, Product, Post, Number, Name, Paren, Exprs, no_exprs, with_expr, SumParts, no_terms, with_term, ProductParts, no_factors, with_factor}
use Rattle.page_values.specs.declared.Value.{Value}
use Rattle.page_values.specs.Seen.{seen}
use Rattle.page_values.specs.Written.{IsNumbered}
use Rattle.lang_ast.specs.declared.program.Program.{Program}
use Rattle.lang_ast.specs.SeenProgram.{seen_program}
use Rattle.lang_ast.specs.declared.tree.Expr.{Expr}
use Rattle.lang_ast.specs.declared.tree.Expr as E
use Rattle.lang_ast.specs.declared.tree.Named.{Named}
use Rattle.lang_ast.specs.Seen.{seen_expr, seen_exprs, seen_terms, seen_factors}
use Rattle.lang_ast.proofs.Trees.{seen-Compare, seen-Sum, seen-Product, seen-Post, seen-Number, seen-Text, seen-True, seen-False, seen-Name, seen-Paren}
use Rattle.lang_ast.specs.Sizes.{expr_size}
use Rattle.lang_meaning.specs.Machine.{Machine, Done, Gives, given, and_then}
use Rattle.lang_meaning.specs.Evaluation.{functions_of, number_of, Answer, Around, answered, eval, eval_places, eval_sum, eval_product, named_value, sum_answer, product_answer, compare_answer, item_answer, place_in, fits, divides}
use Rattle.lang_meaning.specs.HostSteps.{HostRules}
use Rattle.page_interp.specs.declared.exit.Store.{Store}
use Rattle.page_interp.specs.declared.stack.Current.{Current}
use Rattle.page_interp.specs.declared.stack.Focus.TheVariants as focus
use Rattle.page_interp.specs.declared.stack.Frame.{Frame}
use Rattle.page_interp.specs.Answers.{int_product}
use Rattle.page_interp.specs.Direct.{value_of, and_so, direct, direct_item, direct_sum, direct_product, names_there, direct_there}
use Rattle.page_interp.specs.Runs.{AnswerIsNumbered, SomeIsNumbered, around_of, global_names}
use Rattle.page_interp.specs.Variables.{value_at}
use Rattle.page_interp.specs.Frames.{depth_of, state_at, place, Holds, Goes}
use Rattle.page_interp.proofs.Numbered.{sum_numbered, product_numbered, compare_numbered, item_numbered}
use Rattle.page_interp.proofs.NameSteps.{name_numbered}
use Rattle.page_interp.proofs.SmallSteps.{answer_at}

-- what is done with a value that is there
pub so_is : (o : Option Model.Value) (next : Model.Value → Option Model.Value) (v : Model.Value) → o ≡ Some v → and_so o next ≡ next v
so_is o next v q = rw q refl

-- ---- the value is the meaning's

module _ {H : Type 0} (m : Machine H) where
  Is : Option Model.Value → Done H → Type 0
  Is o d = IfSome o (λ v. d ≡ Gives v m)

  so : (o : Option Model.Value) (d : Done H) (next : Model.Value → Option Model.Value) (then : Model.Value → Machine H → Done H)
      → IfSome o (λ v. d ≡ Gives v m) → ((v : Model.Value) → IfSome (next v) (λ u. then v m ≡ Gives u m)) → IfSome (and_so o next) (λ u. and_then d then ≡ Gives u m)
  so None d next then q each = tt
  so (Some v) d next then q each = rw q (each v)

  answers : (r : Answer) → IfSome (value_of r) (λ v. answered r m ≡ Gives v m)
  answers (Ok v) = refl
  answers (Err name) = tt

  names : (o named : Option Model.Value) → named ≡ o → IfSome o (λ v. given named TypeError m Gives ≡ Gives v m)
  names None named q = tt
  names (Some v) named q = rw q refl

module _ {H : Type 0} (w : Around H) (m : Machine H) (look : List ℕ → Option Model.Value) (same : (x : List ℕ) → named_value w.program m x ≡ look x) where
  mutual
    pub direct_means : (e : Tree.Expr) → IfSome (direct look e) (λ v. eval w e m ≡ Gives v m)
    direct_means (Number n) = refl
    direct_means (Tree.TextLiteral bs) = refl
    direct_means Tree.TrueLiteral = refl
    direct_means Tree.FalseLiteral = refl
    direct_means (Name x) = names m (look x.name) (named_value w.program m x.name) (same x.name)
    direct_means (Paren e) = direct_means e
    direct_means (Compare a sign b) =
        so m (direct look a) (eval w a m) _ _ (direct_means a) (λ x. so m (direct look b) (eval w b m) _ _ (direct_means b) (λ y. answers m (compare_answer sign x y)))
    direct_means (Sum e parts) = so m (direct look e) (eval w e m) _ _ (direct_means e) (sum_means parts)
    direct_means (Product e parts) = so m (direct look e) (eval w e m) _ _ (direct_means e) (product_means parts)
    direct_means (Post e places) = so m (direct look e) (eval w e m) _ _ (direct_means e) (item_means places)
    direct_means e = tt

    item_means : (es : Exprs) (v : Model.Value) → IfSome (direct_item look es v) (λ u. eval_places w es v m ≡ Gives u m)
    item_means no_exprs v = refl
    item_means (with_expr e es) v =
        so m (direct look e) (eval w e m) _ _ (direct_means e) (λ i. so m (value_of (item_answer v i)) (answered (item_answer v i) m) _ _ (answers m (item_answer v i)) (item_means es))

    sum_means : (parts : SumParts) (v : Model.Value) → IfSome (direct_sum look parts v) (λ u. eval_sum w parts v m ≡ Gives u m)
    sum_means no_terms v = refl
    sum_means (with_term sign e parts) v =
        so m (direct look e) (eval w e m) _ _ (direct_means e) (λ x. so m (value_of (sum_answer sign v x)) (answered (sum_answer sign v x) m) _ _ (answers m (sum_answer sign v x)) (sum_means parts))

    product_means : (parts : ProductParts) (v : Model.Value) → IfSome (direct_product look parts v) (λ u. eval_product w parts v m ≡ Gives u m)
    product_means no_factors v = refl
    product_means (with_factor sign e parts) v =
        so m (direct look e) (eval w e m) _ _ (direct_means e) (λ x. so m (value_of (product_answer sign v x)) (answered (product_answer sign v x) m) _ _ (answers m (product_answer sign v x)) (product_means parts))

-- ---- functions that it names are there

module _ (count : ℕ) where
  held : (o : Option Model.Value) (next : Model.Value → Option Model.Value) → SomeIsNumbered count o → ((v : Model.Value) → IsNumbered count v → SomeIsNumbered count (next v)) → SomeIsNumbered count (and_so o next)
  held None next h each = tt
  held (Some v) next h each = each v h

  answer_held : (r : Answer) → AnswerIsNumbered count r → SomeIsNumbered count (value_of r)
  answer_held (Ok v) h = h
  answer_held (Err name) h = tt

module _ (count : ℕ) (look : List ℕ → Option Model.Value) (each : (x : List ℕ) → SomeIsNumbered count (look x)) where
  mutual
    pub direct_numbered : (e : Tree.Expr) → SomeIsNumbered count (direct look e)
    direct_numbered (Number n) = tt
    direct_numbered (Tree.TextLiteral bs) = tt
    direct_numbered Tree.TrueLiteral = tt
    direct_numbered Tree.FalseLiteral = tt
    direct_numbered (Name x) = each x.name
    direct_numbered (Paren e) = direct_numbered e
    direct_numbered (Compare a sign b) =
        held count (direct look a) _ (direct_numbered a) (λ x h. held count (direct look b) _ (direct_numbered b) (λ y k. answer_held count (compare_answer sign x y) (compare_numbered count sign x y)))
    direct_numbered (Sum e parts) = held count (direct look e) _ (direct_numbered e) (sum_held parts)
    direct_numbered (Product e parts) = held count (direct look e) _ (direct_numbered e) (product_held parts)
    direct_numbered (Post e places) = held count (direct look e) _ (direct_numbered e) (item_held places)
    direct_numbered e = tt

    item_held : (es : Exprs) (v : Model.Value) → IsNumbered count v → SomeIsNumbered count (direct_item look es v)
    item_held no_exprs v h = h
    item_held (with_expr e es) v h =
        held count (direct look e) _ (direct_numbered e) (λ i k. held count (value_of (item_answer v i)) _ (answer_held count (item_answer v i) (item_numbered count v i h)) (item_held es))

    sum_held : (parts : SumParts) (v : Model.Value) → IsNumbered count v → SomeIsNumbered count (direct_sum look parts v)
    sum_held no_terms v h = h
    sum_held (with_term sign e parts) v h =
        held count (direct look e) _ (direct_numbered e) (λ x k. held count (value_of (sum_answer sign v x)) _ (answer_held count (sum_answer sign v x) (sum_numbered count sign v x)) (sum_held parts))

    product_held : (parts : ProductParts) (v : Model.Value) → IsNumbered count v → SomeIsNumbered count (direct_product look parts v)
    product_held no_factors v h = h
    product_held (with_factor sign e parts) v h =
        held count (direct look e) _ (direct_numbered e) (λ x k. held count (value_of (product_answer sign v x)) _ (answer_held count (product_answer sign v x) (product_numbered count sign v x)) (product_held parts))

-- ---- the step

weighty : (e : Tree.Expr) → 0 < expr_size e
weighty (Tree.Or e es) = omega arith
weighty (Tree.And e es) = omega arith
weighty (Tree.Compare a sign b) = omega arith
weighty (Tree.Sum e parts) = omega arith
weighty (Tree.Product e parts) = omega arith
weighty (Tree.Unary sign e) = omega arith
weighty (Tree.Post e es) = omega arith
weighty (Tree.Number n) = omega arith
weighty (Tree.TextLiteral bs) = omega arith
weighty Tree.TrueLiteral = omega arith
weighty Tree.FalseLiteral = omega arith
weighty Tree.UnitLiteral = omega arith
weighty (Tree.Name x) = omega arith
weighty (Tree.Call x es) = omega arith
weighty (Tree.Paren e) = omega arith
weighty (Tree.ListLiteral es) = omega arith

module _ {T : Type 0} (rules : HostRules T) (p : Program) (store : Store) (current : Current) (fs : List Frame) where
  means_at : (o : Option Model.Value) (v : Model.Value) {H : Type 0} (d : Done H) (m : Machine H) → o ≡ Some v → IfSome o (λ v. d ≡ Gives v m) → d ≡ Gives v m
  means_at o v d m q h = rw q at h

  numbered_at : (count : ℕ) (o : Option Model.Value) (v : Model.Value) → o ≡ Some v → SomeIsNumbered count o → IsNumbered count v
  numbered_at count o v q h = rw q at h

  pub direct_goes : (x : Bor Expr) (v : Value) → direct_there p store current x.now ≡ Some (seen v)
      → Holds (seen_program p) (place store current fs (focus.Expr x)) → Goes rules (seen_program p) (place store current fs (focus.Expr x)) (place store current fs (focus.Value v))
  unfolding around_of
  direct_goes x v q h = answer_at rules (seen_program p) store current fs (focus.Expr x) (focus.Value v) (Ok (seen v)) refl
      (λ host. means_at (direct_there p store current x.now) (seen v) _ _ q
      (direct_means (around_of rules (seen_program p) (depth_of fs)) (state_at (seen_program p) host (place store current fs (focus.Expr x))) (names_there p store current) (λ n. refl) (seen_expr x.now)))
      (numbered_at _ (direct_there p store current x.now) (seen v) q
      (direct_numbered _ (names_there p store current) (λ n. name_numbered p store current fs (focus.Expr x) n h) (seen_expr x.now)))
      (let k = weighty (seen_expr x.now) in omega (arith, k)) h

-- ---- what the parts of an expression give

module _ (look : List ℕ → Option Model.Value) where
  pub number_gives : (x : Expr) (n : ℤ) → x ≡ E.Number n → direct look (seen_expr x) ≡ Some (IntValue n)
  number_gives x n q = rw (q, seen-Number) refl

  pub text_gives : (x : Expr) (t : List ℕ) → x ≡ E.Text t → direct look (seen_expr x) ≡ Some (Model.TextValue t)
  text_gives x t q = rw (q, seen-Text) refl

  pub true_gives : (x : Expr) → x ≡ E.True → direct look (seen_expr x) ≡ Some (Model.BoolValue true)
  true_gives x q = rw (q, seen-True) refl

  pub false_gives : (x : Expr) → x ≡ E.False → direct look (seen_expr x) ≡ Some (Model.BoolValue false)
  false_gives x q = rw (q, seen-False) refl

  pub name_gives : (x : Expr) (n : Named) (v : Model.Value) → x ≡ E.Name n → look n.name ≡ Some v → direct look (seen_expr x) ≡ Some v
  name_gives x n v q h = rw (q, seen-Name) h

  pub paren_gives : (x inner : Expr) (e : Box Expr Global) (v : Model.Value) → x ≡ E.Paren e → inner ≡ e.value → direct look (seen_expr inner) ≡ Some v → direct look (seen_expr x) ≡ Some v
  paren_gives x inner e v q a h = rw (q, seen-Paren, ← a) h

  pub post_gives : (x first : Expr) (e : Box Expr Global) (es : Vec Expr Global) (places : List Expr) (v u : Model.Value) → x ≡ E.Post e es → first ≡ e.value → places ≡ es.items
      → direct look (seen_expr first) ≡ Some v → direct_item look (seen_exprs places) v ≡ Some u → direct look (seen_expr x) ≡ Some u
  post_gives x first e es places v u q a b h k = rw (q, seen-Post, ← a, ← b) (so_is (direct look (seen_expr first)) (direct_item look (seen_exprs places)) v h ∙ k)

  pub sum_gives : (x first : Expr) (e : Box Expr Global) (es : Vec (SumSign × Expr) Global) (terms : List (SumSign × Expr)) (v u : Model.Value) → x ≡ E.Sum e es → first ≡ e.value → terms ≡ es.items
      → direct look (seen_expr first) ≡ Some v → direct_sum look (seen_terms terms) v ≡ Some u → direct look (seen_expr x) ≡ Some u
  sum_gives x first e es terms v u q a b h k = rw (q, seen-Sum, ← a, ← b) (so_is (direct look (seen_expr first)) (direct_sum look (seen_terms terms)) v h ∙ k)

  pub term_gives : (rest more : List (SumSign × Expr)) (t : SumSign × Expr) (i v u : Model.Value) → rest ≡ t ∷ more → direct look (seen_expr t.1) ≡ Some i → sum_answer t.0 v i ≡ Ok u
      → direct_sum look (seen_terms rest) v ≡ direct_sum look (seen_terms more) u
  term_gives rest more t i v u q h k = rw q
      (so_is (direct look (seen_expr t.1)) (λ x. and_so (value_of (sum_answer t.0 v x)) (direct_sum look (seen_terms more))) i h
      ∙ so_is (value_of (sum_answer t.0 v i)) (direct_sum look (seen_terms more)) u (ap value_of k))

  -- two texts in a row
  pub texts_give : (first : Expr) (terms : List (SumSign × Expr)) (t : SumSign × Expr) (a b : List ℕ) (v : Model.Value) → terms ≡ t ∷ [] → t.0 ≡ Plus
      → direct look (seen_expr first) ≡ Some (Model.TextValue a) → direct look (seen_expr t.1) ≡ Some (Model.TextValue b) → within_limits (Model.TextValue (a ++ b)) ≡ Some v
      → and_so (direct look (seen_expr first)) (direct_sum look (seen_terms terms)) ≡ Some v
  texts_give first terms t a b v q plus h k fits =
      let joined : sum_answer t.0 (Model.TextValue a) (Model.TextValue b) ≡ Ok v = rw (plus, fits) refl in
      so_is (direct look (seen_expr first)) (direct_sum look (seen_terms terms)) (Model.TextValue a) h
      ∙ term_gives terms [] t (Model.TextValue b) (Model.TextValue a) v q k joined

  pub whole_sum_gives : (x first : Expr) (e : Box Expr Global) (es : Vec (SumSign × Expr) Global) (terms : List (SumSign × Expr)) (v : Model.Value) → x ≡ E.Sum e es → first ≡ e.value → terms ≡ es.items
      → and_so (direct look (seen_expr first)) (direct_sum look (seen_terms terms)) ≡ Some v → direct look (seen_expr x) ≡ Some v
  whole_sum_gives x first e es terms v q a b h = rw (q, seen-Sum, ← a, ← b) h

  pub product_gives : (x first : Expr) (e : Box Expr Global) (es : Vec (ProductSign × Expr) Global) (factors : List (ProductSign × Expr)) (v u : Model.Value) → x ≡ E.Product e es → first ≡ e.value → factors ≡ es.items
      → direct look (seen_expr first) ≡ Some v → direct_product look (seen_factors factors) v ≡ Some u → direct look (seen_expr x) ≡ Some u
  product_gives x first e es factors v u q a b h k = rw (q, seen-Product, ← a, ← b) (so_is (direct look (seen_expr first)) (direct_product look (seen_factors factors)) v h ∙ k)

  pub compares : (left right : Expr) (sign : CompareSign) (v u r : Model.Value) → direct look (seen_expr left) ≡ Some v → direct look (seen_expr right) ≡ Some u → compare_answer sign v u ≡ Ok r
      → and_so (direct look (seen_expr left)) (λ x. and_so (direct look (seen_expr right)) (λ y. value_of (compare_answer sign x y))) ≡ Some r
  compares left right sign v u r h k o =
      so_is (direct look (seen_expr left)) (λ x. and_so (direct look (seen_expr right)) (λ y. value_of (compare_answer sign x y))) v h
      ∙ (so_is (direct look (seen_expr right)) (λ y. value_of (compare_answer sign v y)) u k ∙ ap value_of o)

  pub compare_gives : (x left right : Expr) (a : Box Expr Global) (sign : CompareSign) (b : Box Expr Global) (r : Model.Value) → x ≡ E.Compare a sign b → left ≡ a.value → right ≡ b.value
      → and_so (direct look (seen_expr left)) (λ x. and_so (direct look (seen_expr right)) (λ y. value_of (compare_answer sign x y))) ≡ Some r → direct look (seen_expr x) ≡ Some r
  compare_gives x left right a sign b r q p s h = rw (q, seen-Compare, ← p, ← s) h

  pub item_gives : (rest more : List Expr) (place : Expr) (i v u : Model.Value) → rest ≡ place ∷ more → direct look (seen_expr place) ≡ Some i → item_answer v i ≡ Ok u
      → direct_item look (seen_exprs rest) v ≡ direct_item look (seen_exprs more) u
  item_gives rest more place i v u q h k = rw q
      (so_is (direct look (seen_expr place)) (λ i. and_so (value_of (item_answer v i)) (direct_item look (seen_exprs more))) i h
      ∙ so_is (value_of (item_answer v i)) (direct_item look (seen_exprs more)) u (ap value_of k))

  pub factor_gives : (rest more : List (ProductSign × Expr)) (t : ProductSign × Expr) (i v u : Model.Value) → rest ≡ t ∷ more → direct look (seen_expr t.1) ≡ Some i → product_answer t.0 v i ≡ Ok u
      → direct_product look (seen_factors rest) v ≡ direct_product look (seen_factors more) u
  factor_gives rest more t i v u q h k = rw q
      (so_is (direct look (seen_expr t.1)) (λ x. and_so (value_of (product_answer t.0 v x)) (direct_product look (seen_factors more))) i h
      ∙ so_is (value_of (product_answer t.0 v i)) (direct_product look (seen_factors more)) u (ap value_of k))

-- an item of a list
pub item_is : (v u : Model.Value) (vs : Model.Values) (n : ℤ) → list_in v ≡ Some vs → place_in vs n ≡ Some u → item_answer v (IntValue n) ≡ Ok u
item_is v u vs n p q = rw (p, q) refl

-- what holds of what is there, and follows from what held
pub if_so : {X : Type 0} {P Q : X → Type 0} (o : Option X) → IfSome o P → ((x : X) → P x → Q x) → IfSome o Q
if_so None h each = tt
if_so (Some x) h each = each x h

pub ok_so : {X F : Type 0} {P Q : X → Type 0} (r : Result (Option X) F) → IfOk r (λ o. IfSome o P) → ((x : X) → P x → Q x) → IfOk r (λ o. IfSome o Q)
ok_so (Ok o) h each = if_so o h each
ok_so (Err _) h each = tt

product_by : (b : Bool) (p z : ℤ) → Some z ≡ cond b (Some p) None → cond b (Ok (IntValue p)) (Err RangeError) ≡ Ok (IntValue z)
product_by true p z h = let e : p ≡ z = cc in ap (λ n. Ok (IntValue n)) e
product_by false p z h = cc

-- a product, a quotient or a remainder of integers
pub product_is : (sign : ProductSign) (x y z : ℤ) → Some z ≡ int_product sign x y → product_answer sign (IntValue x) (IntValue y) ≡ Ok (IntValue z)
product_is Times x y z h = product_by (fits (x *ℤ y)) (x *ℤ y) z h
product_is Divide x y z h = product_by (divides x y) (int_div x y) z h
product_is Remainder x y z h = product_by (divides x y) (int_rem x y) z h

-- what a name stands for, where it stands for anything
name_stands : (look : List ℕ → Option Model.Value) (x : Expr) (n : Named) (o : Option Value) → x ≡ E.Name n → option_map seen o ≡ look n.name → IfSome o (λ v. direct look (seen_expr x) ≡ Some (seen v))
name_stands look x n None q h = tt
name_stands look x n (Some v) q h = name_gives look x n (seen v) q (sym h)

pub name_in : {F : Type 0} (look : List ℕ → Option Model.Value) (x : Expr) (n : Named) (r : Result (Option Value) F) → x ≡ E.Name n → IfOk r (λ o. option_map seen o ≡ look n.name) → IfOk r (λ o. IfSome o (λ v. direct look (seen_expr x) ≡ Some (seen v)))
name_in look x n (Ok o) q h = name_stands look x n o q h
name_in look x n (Err e) q h = tt

-- an integer that a variable holds
pub int_there : (look : List ℕ → Option Model.Value) (x : Expr) (n : Named) (v : Model.Value) (o : Option ℤ) → x ≡ E.Name n → look n.name ≡ Some v → o ≡ int_in v → IfSome o (λ i. direct look (seen_expr x) ≡ Some (IntValue i))
int_there look x n (IntValue i) o q h r = rw r (name_gives look x n (IntValue i) q h)
int_there look x n v o q h r = rw r tt

-- a name that is no variable's stands for a function
pub function_there : (p : Program) (store : Store) (current : Current) (x : List ℕ) (n : ℕ) → value_at current.names.now current.locals x ≡ None → value_at (global_names (seen_program p)) store.globals x ≡ None → number_of (functions_of (seen_program p).items) x ≡ Some n
    → names_there p store current x ≡ Some (FunValue n no_values)
function_there p store current x n a b q = rw (a, b, q) refl
