-- A test of the form: no expression and no statement leaves more fuel than there was.
use Rattle.std.proofs.Common.{ℕ, ◌≤◌, Bool, true, false, List, [], ◌∷◌, ◌++◌, Option, Some, None}
use Rattle.page_types.specs.Values.{ListValue, values_of, Value}
use Rattle.page_types.specs.declared.FaultName.{FaultName}
use Rattle.page_types.specs.declared.FaultName.TheVariants.{TypeError}
use Rattle.page_types.specs.declared.CompareSign.{CompareSign}
use Rattle.page_types.specs.declared.ProductSign.{ProductSign}
use Rattle.page_types.specs.declared.UnarySign.{UnarySign}
use Rattle.page_types.specs.Tree.{Expr, Or, And, Compare, Sum, Product, Unary, Post, Number, TextLiteral, TrueLiteral, FalseLiteral, UnitLiteral, Name, Call, Paren, ListLiteral, Exprs, no_exprs, with_expr, SumParts, no_terms, with_term, ProductParts, no_factors, with_factor}
use Rattle.page_types.specs.declared.SumSign.{SumSign}
use Rattle.lang_meaning.specs.Machine.{Machine, Done, Gives, Throws, Returns, OutOfFuel, and_then, given, branch}
use Rattle.lang_meaning.specs.Evaluation.{Around, eval, eval_or, eval_and, eval_all, eval_places, eval_sum, eval_product, tested, compared, sum_of, product_of, unary_of, item_at, call_of, limited, named_value}
use Rattle.page_parts.specs.Kinds.{bool_in}

abbrev fuel_after : {H : Type 0} → Done H → ℕ
fuel_after (Gives v m) = m.fuel
fuel_after (Throws v m) = m.fuel
fuel_after (Returns v m) = m.fuel
fuel_after (OutOfFuel m) = m.fuel

-- what comes next leaves at most n, from any state with at most n
abbrev Keeps : {H : Type 0} → ℕ → (Machine H → Done H) → Type 0
Keeps {H} n f = (m : Machine H) → m.fuel ≤ n → fuel_after (f m) ≤ n

and_then-keeps : {H : Type 0} (n : ℕ) (d : Done H) (next : Value → Machine H → Done H) → fuel_after d ≤ n → ((v : Value) → Keeps n (next v)) → fuel_after (and_then d next) ≤ n
and_then-keeps n (Gives v m) next h k = k v m h
and_then-keeps n (Throws v m) next h k = h
and_then-keeps n (Returns v m) next h k = h
and_then-keeps n (OutOfFuel m) next h k = h

given-keeps : {H X : Type 0} (n : ℕ) (o : Option X) (fault : FaultName) (next : X → Machine H → Done H) → ((x : X) → Keeps n (next x)) → Keeps n (λ m. given o fault m next)
given-keeps n None fault next k m h = h
given-keeps n (Some x) fault next k m h = k x m h

branch-keeps : {H : Type 0} (n : ℕ) (b : Bool) (then else : Machine H → Done H) → Keeps n then → Keeps n else → Keeps n (λ m. branch b m then else)
branch-keeps n true then else p q m h = p m h
branch-keeps n false then else p q m h = q m h

tested-keeps : {H : Type 0} (n : ℕ) (v : Value) (then else : Machine H → Done H) → Keeps n then → Keeps n else → Keeps n (λ m. tested v m then else)
tested-keeps n v then else p q = given-keeps n (bool_in v) TypeError (λ b m. branch b m then else) (λ b. branch-keeps n b then else p q)

-- what the operators and the calls around keep
record KeepsAround {H : Type 0} (n : ℕ) (w : Around H) : Type 0 where
  compared : (sign : CompareSign) (x y : Value) → Keeps {H = H} n (λ m. compared sign x y m)
  sum_of : (sign : SumSign) (x y : Value) → Keeps {H = H} n (λ m. sum_of sign x y m)
  product_of : (sign : ProductSign) (x y : Value) → Keeps {H = H} n (λ m. product_of sign x y m)
  unary_of : (sign : UnarySign) (x : Value) → Keeps {H = H} n (λ m. unary_of sign x m)
  item_at : (x y : Value) → Keeps {H = H} n (λ m. item_at x y m)
  limited : (x : Value) → Keeps {H = H} n (λ m. limited x m)
  called : (name : List ℕ) (before : Machine H) (args : List Value) → Keeps n (λ m. call_of w name before args m)
  named : (x : List ℕ) (m : Machine H) → m.fuel ≤ n → fuel_after (given (named_value w.program m x) TypeError m Gives) ≤ n

module _ (H : Type 0) (n : ℕ) (w : Around H) (k : KeepsAround n w) where
  mutual
    eval-keeps : (e : Expr) → Keeps n (eval w e)
    eval-keeps (Or e es) m h = and_then-keeps n (eval w e m) _ (eval-keeps e m h) (λ v. tested-keeps n v _ _ (λ m h. h) (or-keeps es))
    eval-keeps (And e es) m h = and_then-keeps n (eval w e m) _ (eval-keeps e m h) (λ v. tested-keeps n v _ _ (and-keeps es) (λ m h. h))
    eval-keeps (Compare a sign b) m h = and_then-keeps n (eval w a m) _ (eval-keeps a m h) (λ x m h. and_then-keeps n (eval w b m) _ (eval-keeps b m h) (λ y. k.compared sign x y))
    eval-keeps (Sum e parts) m h = and_then-keeps n (eval w e m) _ (eval-keeps e m h) (sum-keeps parts)
    eval-keeps (Product e parts) m h = and_then-keeps n (eval w e m) _ (eval-keeps e m h) (product-keeps parts)
    eval-keeps (Unary sign e) m h = and_then-keeps n (eval w e m) _ (eval-keeps e m h) (k.unary_of sign)
    eval-keeps (Post e places) m h = and_then-keeps n (eval w e m) _ (eval-keeps e m h) (places-keep places)
    eval-keeps (Number i) m h = h
    eval-keeps (TextLiteral bs) m h = h
    eval-keeps TrueLiteral m h = h
    eval-keeps FalseLiteral m h = h
    eval-keeps UnitLiteral m h = h
    eval-keeps (Name x) m h = k.named x.name m h
    eval-keeps (Call f args) m h = all-keep args [] (λ vs m'. call_of w f.name m vs m') (λ vs. k.called f.name m vs) m h
    eval-keeps (Paren e) m h = eval-keeps e m h
    eval-keeps (ListLiteral es) m h = all-keep es [] _ (λ vs. k.limited (ListValue (values_of vs))) m h

    or-keeps : (es : Exprs) → Keeps n (eval_or w es)
    or-keeps no_exprs m h = h
    or-keeps (with_expr e es) m h = and_then-keeps n (eval w e m) _ (eval-keeps e m h) (λ v. tested-keeps n v _ _ (λ m h. h) (or-keeps es))

    and-keeps : (es : Exprs) → Keeps n (eval_and w es)
    and-keeps no_exprs m h = h
    and-keeps (with_expr e es) m h = and_then-keeps n (eval w e m) _ (eval-keeps e m h) (λ v. tested-keeps n v _ _ (and-keeps es) (λ m h. h))

    all-keep : (es : Exprs) (vs : List Value) (next : List Value → Machine H → Done H) → ((vs : List Value) → Keeps n (next vs)) → Keeps n (eval_all w es vs next)
    all-keep no_exprs vs next q m h = q vs m h
    all-keep (with_expr e es) vs next q m h = and_then-keeps n (eval w e m) _ (eval-keeps e m h) (λ v. all-keep es (vs ++ v ∷ []) next q)

    places-keep : (es : Exprs) (v : Value) → Keeps n (eval_places w es v)
    places-keep no_exprs v m h = h
    places-keep (with_expr e es) v m h = and_then-keeps n (eval w e m) _ (eval-keeps e m h) (λ i m h. and_then-keeps n (item_at v i m) _ (k.item_at v i m h) (places-keep es))

    sum-keeps : (parts : SumParts) (v : Value) → Keeps n (eval_sum w parts v)
    sum-keeps no_terms v m h = h
    sum-keeps (with_term sign e parts) v m h = and_then-keeps n (eval w e m) _ (eval-keeps e m h) (λ x m h. and_then-keeps n (sum_of sign v x m) _ (k.sum_of sign v x m h) (sum-keeps parts))

    product-keeps : (parts : ProductParts) (v : Value) → Keeps n (eval_product w parts v)
    product-keeps no_factors v m h = h
    product-keeps (with_factor sign e parts) v m h = and_then-keeps n (eval w e m) _ (eval-keeps e m h) (λ x m h. and_then-keeps n (product_of sign v x m) _ (k.product_of sign v x m h) (product-keeps parts))
