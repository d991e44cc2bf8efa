-- An item is smaller than the list that it is in.
use Rattle.std.proofs.Common.{◌≡◌, ℕ, zero, suc, ◌+◌, ◌<◌, List, [], ◌∷◌, get_or, length, Vec, Global, ap, arith}
use Rattle.page_types.specs.declared.SumSign.{SumSign}
use Rattle.page_types.specs.declared.ProductSign.{ProductSign}
use Rattle.lang_ast.specs.declared.tree.Expr.{Expr}
use Rattle.lang_ast.specs.declared.tree.Stmt.{Stmt}
use Rattle.lang_ast.specs.Seen.{seen_expr, seen_exprs, seen_terms, seen_factors, seen_stmt, seen_block, seen_others}
use Rattle.lang_ast.specs.Sizes.{expr_size, exprs_size, terms_size, factors_size, stmt_size, block_size, others_size}

below : {X : Type 0} (one : X → ℕ) (all : List X → ℕ) → ((x : X) (xs : List X) → one x + all xs < all (x ∷ xs)) → (xs : List X) (i : ℕ) (d : X) → i < length xs → one (get_or xs i d) < all xs
below one all step [] i d lt = absurd (omega arith)
below one all step (x ∷ xs) zero d lt = omega (arith, step x xs)
below one all step (x ∷ xs) (suc i) d lt = omega (arith, step x xs, below one all step xs i d (omega arith))

in_list : {X : Type 0} (one : X → ℕ) (all : List X → ℕ) → ((x : X) (xs : List X) → one x + all xs < all (x ∷ xs)) → (xs : List X) (i : ℕ) (x : X) → x ≡ get_or xs i x → i < length xs → one x < all xs
in_list one all step xs i x at lt = let e = ap one at in let h = below one all step xs i x lt in omega (arith, e, h)

pub in_exprs : (es : List Expr) (i : ℕ) (e : Expr) → e ≡ get_or es i e → i < length es → expr_size (seen_expr e) < exprs_size (seen_exprs es)
in_exprs = in_list (λ e. expr_size (seen_expr e)) (λ es. exprs_size (seen_exprs es)) (λ x xs. omega arith)

pub in_terms : (ts : List (SumSign × Expr)) (i : ℕ) (t : SumSign × Expr) → t ≡ get_or ts i t → i < length ts → expr_size (seen_expr t.1) < terms_size (seen_terms ts)
in_terms = in_list (λ t. expr_size (seen_expr t.1)) (λ ts. terms_size (seen_terms ts)) (λ x xs. omega arith)

pub in_factors : (ts : List (ProductSign × Expr)) (i : ℕ) (t : ProductSign × Expr) → t ≡ get_or ts i t → i < length ts → expr_size (seen_expr t.1) < factors_size (seen_factors ts)
in_factors = in_list (λ t. expr_size (seen_expr t.1)) (λ ts. factors_size (seen_factors ts)) (λ x xs. omega arith)

pub in_block : (ss : List Stmt) (i : ℕ) (s : Stmt) → s ≡ get_or ss i s → i < length ss → stmt_size (seen_stmt s) < block_size (seen_block ss)
in_block = in_list (λ s. stmt_size (seen_stmt s)) (λ ss. block_size (seen_block ss)) (λ x xs. omega arith)

pub in_others : (ps : List (Expr × Vec Stmt Global)) (i : ℕ) (p : Expr × Vec Stmt Global) → p ≡ get_or ps i p → i < length ps → expr_size (seen_expr p.0) + block_size (seen_block p.1.items) < others_size (seen_others ps)
in_others = in_list (λ p. expr_size (seen_expr p.0) + block_size (seen_block p.1.items)) (λ ps. others_size (seen_others ps)) (λ x xs. omega arith)
