-- What an expression gives where it calls nothing and nothing is thrown.
use Rattle.std.specs.Prelude.{◌≡◌, ℕ, ℤ, Bool, true, false, List, Option, Some, None, Result, Ok, Err, IfOk, IfSome}
use Rattle.std.specs.Option.{option_and_then}
use Rattle.std.specs.Borrow.{Bor}
use Rattle.page_types.specs.Values.{Value, IntValue, BoolValue, TextValue}
use Rattle.page_types.specs.Tree.{Expr, Compare, Sum, Product, Post, Number, TextLiteral, TrueLiteral, FalseLiteral, Name, Paren, Exprs, no_exprs, with_expr, SumParts, no_terms, with_term, ProductParts, no_factors, with_factor}
use Rattle.page_types.specs.declared.CompareSign.{CompareSign}
use Rattle.page_types.specs.declared.SumSign.{SumSign}
use Rattle.page_types.specs.declared.ProductSign.{ProductSign}
use Rattle.page_values.specs.declared.Value.{Value as HeldValue}
use Rattle.page_values.specs.Seen.{seen}
use Rattle.lang_meaning.specs.Evaluation.{Answer, sum_answer, product_answer, compare_answer, item_answer}
use Rattle.lang_ast.specs.declared.program.Program as Code
use Rattle.lang_ast.specs.declared.tree.Expr as Syntax
use Rattle.lang_ast.specs.Seen.{seen_expr, seen_exprs, seen_terms, seen_factors}
use Rattle.page_interp.specs.declared.exit.Store.{Store}
use Rattle.page_interp.specs.declared.stack.Current.{Current}
use Rattle.page_interp.specs.Variables.{named_in}

-- ---- Ours: the meaning of the script language

-- the value of an answer, where it is no fault
abbrev pub value_of : Answer → Option Value
value_of (Ok v) = Some v
value_of (Err name) = None

-- what is done with a value, where there is one
abbrev pub and_so : Option Value → (Value → Option Value) → Option Value
and_so o next = option_and_then next o

abbrev mutual
  -- the value of an expression, where `look` tells the values of names
  pub direct : (look : List ℕ → Option Value) → Expr → Option Value
  direct look (Number n) = Some (IntValue n)
  direct look (TextLiteral bs) = Some (TextValue bs)
  direct look TrueLiteral = Some (BoolValue true)
  direct look FalseLiteral = Some (BoolValue false)
  direct look (Name x) = look x.name
  direct look (Paren e) = direct look e
  direct look (Compare a sign b) =
      and_so (direct look a) (λ x. and_so (direct look b) (λ y. value_of (compare_answer sign x y)))
  direct look (Sum e parts) = and_so (direct look e) (direct_sum look parts)
  direct look (Product e parts) = and_so (direct look e) (direct_product look parts)
  direct look (Post e places) = and_so (direct look e) (direct_item look places)
  direct look e = None

  -- an item of an item and so on, by the places in a row
  pub direct_item : (look : List ℕ → Option Value) → Exprs → Value → Option Value
  direct_item look no_exprs v = Some v
  direct_item look (with_expr e es) v =
      and_so (direct look e) (λ i. and_so (value_of (item_answer v i)) (direct_item look es))

  -- the further terms, added to or subtracted from what stands so far
  pub direct_sum : (look : List ℕ → Option Value) → SumParts → Value → Option Value
  direct_sum look no_terms v = Some v
  direct_sum look (with_term sign e parts) v =
      and_so (direct look e) (λ x. and_so (value_of (sum_answer sign v x)) (direct_sum look parts))

  -- the further factors, by which what stands so far is multiplied or divided
  pub direct_product : (look : List ℕ → Option Value) → ProductParts → Value → Option Value
  direct_product look no_factors v = Some v
  direct_product look (with_factor sign e parts) v =
      and_so (direct look e)
      (λ x. and_so (value_of (product_answer sign v x)) (direct_product look parts))

-- the values of names in a call
abbrev pub names_there : Code.Program → Store → Current → List ℕ → Option Value
names_there script store current x = named_in script store current.names.now current.locals x

-- the value of an expression there
abbrev pub direct_there : Code.Program → Store → Current → Syntax.Expr → Option Value
direct_there script store current e = direct (names_there script store current) (seen_expr e)

-- the name has this value there
abbrev pub NameHolds : Code.Program → Store → Current → List ℕ → Value → Type 0
NameHolds script store current x v = names_there script store current x ≡ Some v

-- the expression has this value there
abbrev pub HasValue : Code.Program → Store → Current → Syntax.Expr → Value → Type 0
HasValue script store current e v = direct_there script store current e ≡ Some v

-- the places in a row lead from the first value to the second one
abbrev pub PlacesGive : Code.Program → Store → Current → List Syntax.Expr
    → (list v : Value) → Type 0
PlacesGive script store current es list v =
    direct_item (names_there script store current) (seen_exprs es) list ≡ Some v

-- the same of values of the code
abbrev pub LeadToItem : Code.Program → Store → Current → List Syntax.Expr
    → (list : HeldValue) → Bor HeldValue → Type 0
LeadToItem script store current es list = λ v.
    PlacesGive script store current es (seen list) (seen v.now)

-- the further terms lead from the first sum to the second one
abbrev pub TermsGive : Code.Program → Store → Current → List (SumSign × Syntax.Expr)
    → (first total : ℤ) → Type 0
TermsGive script store current terms first total =
    direct_sum (names_there script store current) (seen_terms terms) (IntValue first)
    ≡ Some (IntValue total)

-- the further factors lead from the first product to the second one
abbrev pub FactorsGive : Code.Program → Store → Current → List (ProductSign × Syntax.Expr)
    → (first total : ℤ) → Type 0
FactorsGive script store current factors first total =
    direct_product (names_there script store current) (seen_factors factors) (IntValue first)
    ≡ Some (IntValue total)

-- the terms of a sum, from the first one on, give this value
abbrev pub SumGives : Code.Program → Store → Current → (first : Syntax.Expr)
    → List (SumSign × Syntax.Expr) → Value → Type 0
SumGives script store current first terms v =
    and_so (direct_there script store current first)
    (direct_sum (names_there script store current) (seen_terms terms))
    ≡ Some v

-- where a value is found, they give it
abbrev pub FindsSum : {X : Type 0} → Result (Option HeldValue) X → Code.Program → Store → Current
    → (first : Syntax.Expr) → List (SumSign × Syntax.Expr) → Type 0
FindsSum result script store current first terms =
    IfOk result (λ o. IfSome o (λ v. SumGives script store current first terms (seen v)))

-- the two expressions compare so
abbrev pub ComparesTo : Code.Program → Store → Current → (left : Syntax.Expr) → CompareSign
    → (right : Syntax.Expr) → Bool → Type 0
ComparesTo script store current left sign right b =
    and_so (direct_there script store current left)
    (λ x. and_so (direct_there script store current right)
    (λ y. value_of (compare_answer sign x y)))
    ≡ Some (BoolValue b)
