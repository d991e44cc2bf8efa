-- Adding the names of a tree to a set, step by step.
use Rattle.std.proofs.Common.{◌≡◌, ℕ, suc, ◌+◌, ◌<◌, List, [], ◌∷◌, ◌++◌, length, drop, get_or, Vec, Global, Option, Some, None, refl, sym, ap, ◌∙◌, subst, arith, append_assoc, append-nil, drop-cons, add-one, zero, Result, Ok, Err}
use Rattle.page_types.specs.Tree as Model
use Rattle.lang_meaning.specs.Evaluation.{names_in, names_in_stmt, names_in_others, names_in_else, own_body}
use Rattle.lang_ast.specs.declared.tree.Expr.{Expr}
use Rattle.lang_ast.specs.declared.tree.Stmt.{Stmt}
use Rattle.lang_ast.specs.declared.tree.Item.{Item}
use Rattle.std.specs.Prelude.{OnOk}
use Rattle.lang_ast.specs.declared.tree.Named.{Named}
use Rattle.lang_ast.specs.declared.tree.Function.{Function}
use Rattle.lang_ast.specs.declared.tree.Item.TheVariants as item
use Rattle.lang_ast.specs.declared.tree.Stmt as S
use Rattle.lang_ast.specs.Sizes.{stmt_size, block_size, others_size, else_size}
use Rattle.lang_ast.proofs.Trees.{seen-Var, seen-Assign, seen-Expr, seen-If, seen-While, seen-Return, seen-Throw, seen-Try}
use Rattle.lang_ast.specs.Seen.{seen_name, seen_else, seen_expr, seen_stmt, seen_block, seen_others, seen_items}
use Rattle.lang_place.specs.NameSets.{distinct}
use Rattle.lang_place.specs.NameSets.{HoldsNames, Adds}

pub adds_nothing : (a : List (Vec ℕ Global)) → Adds a a []
adds_nothing a = record { more = λ xs h. subst (HoldsNames a) (sym (append-nil xs)) h }

pub adds_both : (a b c : List (Vec ℕ Global)) (xs ys : List (List ℕ)) → Adds a b xs → Adds b c ys → Adds a c (xs ++ ys)
adds_both a b c xs ys p q = record { more = λ zs h. subst (HoldsNames c) (append_assoc zs xs ys) (q.more (zs ++ xs) (p.more zs h)) }

pub adds_same : (a b : List (Vec ℕ Global)) (xs ys : List (List ℕ)) → xs ≡ ys → Adds a b xs → Adds a b ys
adds_same a b xs ys e p = subst (Adds a b) e p

-- The names of the items so far were added, and those of the rest are left. `names_of` gives those of a list of items.
pub record Adding {X : Type 0} (names_of : List X → List (List ℕ)) (before now : List (Vec ℕ Global)) (xs rest : List X) : Type 0 where
  pub done : List (List ℕ)
  pub adds : Adds before now done
  pub left : done ++ names_of rest ≡ names_of xs

module _ {X : Type 0} (names_of : List X → List (List ℕ)) (before : List (Vec ℕ Global)) (xs : List X) where
  pub adding_begins : Adding names_of before before xs xs
  adding_begins = record { done = []; adds = adds_nothing before; left = refl }

  pub adding_next : (now new : List (Vec ℕ Global)) (i : ℕ) (x : X) (ys : List (List ℕ)) → ((rest : List X) → names_of (x ∷ rest) ≡ ys ++ names_of rest) → i < length xs → x ≡ get_or xs i x → Adding names_of before now xs (drop i xs) → Adds now new ys → Adding names_of before new xs (drop (i + 1) xs)
  adding_next now new i x ys split lt is p q =
      let d : drop i xs ≡ x ∷ drop (i + 1) xs = step xs i x lt is in
      record {
        done = p.done ++ ys;
        adds = adds_both before now new p.done ys p.adds q;
        left = append_assoc p.done ys (names_of (drop (i + 1) xs)) ∙ ap (λ z. p.done ++ z) (sym (split (drop (i + 1) xs)) ∙ ap names_of (sym d)) ∙ p.left;
      }
    where
      step : (zs : List X) (j : ℕ) (z : X) → j < length zs → z ≡ get_or zs j z → drop j zs ≡ z ∷ drop (j + 1) zs
      step zs j z l e = rw (add-one, drop-cons zs j z) (ap (λ y. y ∷ drop (suc j) zs) (sym e))

  pub adding_ends : (now : List (Vec ℕ Global)) → names_of [] ≡ [] → Adding names_of before now xs [] → Adds before now (names_of xs)
  adding_ends now none p = adds_same before now p.done (names_of xs) (sym (append-nil p.done) ∙ ap (λ z. p.done ++ z) (sym none) ∙ p.left) p.adds

-- ---- what is gone through

abbrev pub block_names : List Stmt → List (List ℕ)
block_names ss = names_in (seen_block ss)

abbrev pub others_names : List (Expr × Vec Stmt Global) → List (List ℕ)
others_names ps = names_in_others (seen_others ps)

abbrev pub item_names : List Item → List (List ℕ)
item_names items = names_in (own_body (seen_items items))

-- ---- the parts of a statement

pub on_ok : {A B : Type 0} (r : Result A B) (P Q : Type 0) → (P → Q) → OnOk r P → OnOk r Q
on_ok (Ok x) P Q f p = f p
on_ok (Err e) P Q f p = tt

module _ (s : Stmt) (e : Expr) (v : Vec Stmt Global) where
  module _ (others : Vec (Expr × Vec Stmt Global) Global) (last : Option (Vec Stmt Global)) (is : s ≡ S.If e v others last) where
    if_size : stmt_size (seen_stmt s) ≡ stmt_size (Model.IfStmt (seen_expr e) (seen_block v.items) (seen_others others.items) (seen_else last))
    if_size = ap (λ z. stmt_size (seen_stmt z)) is ∙ ap stmt_size (seen-If e v others last)

    pub in_if_block : (ds : List Stmt) → ds ≡ v.items → block_size (seen_block ds) < stmt_size (seen_stmt s)
    in_if_block ds d = omega (arith, if_size, ap (λ z. block_size (seen_block z)) d)

    pub in_if_others : (es : List (Expr × Vec Stmt Global)) → es ≡ others.items → others_size (seen_others es) < stmt_size (seen_stmt s)
    in_if_others es d = omega (arith, if_size, ap (λ z. others_size (seen_others z)) d)

    pub in_if_last : (b : Vec Stmt Global) (ds : List Stmt) → last ≡ Some b → ds ≡ b.items → block_size (seen_block ds) < stmt_size (seen_stmt s)
    in_if_last b ds l d = omega (arith, if_size, ap (λ z. else_size (seen_else z)) l, ap (λ z. block_size (seen_block z)) d)

    if_names : names_in_stmt (seen_stmt s) ≡ names_in (seen_block v.items) ++ names_in_others (seen_others others.items) ++ names_in_else (seen_else last)
    if_names = ap (λ z. names_in_stmt (seen_stmt z)) is ∙ ap names_in_stmt (seen-If e v others last)

    module _ (k l m : List (Vec ℕ Global)) (ds : List Stmt) (es : List (Expr × Vec Stmt Global)) (d : ds ≡ v.items) (f : es ≡ others.items) (p : Adds k l (names_in (seen_block ds))) (q : Adds l m (names_in_others (seen_others es))) where
      if_parts : Adds k m (names_in (seen_block v.items) ++ names_in_others (seen_others others.items))
      if_parts = adds_both k l m _ _ (subst (λ z. Adds k l (names_in (seen_block z))) d p) (subst (λ z. Adds l m (names_in_others (seen_others z))) f q)

      pub if_adds_last : (b : Vec Stmt Global) (n : List (Vec ℕ Global)) (cs : List Stmt) → last ≡ Some b → cs ≡ b.items → Adds m n (names_in (seen_block cs)) → Adds k n (names_in_stmt (seen_stmt s))
      if_adds_last b n cs i g r = subst (Adds k n) (sym if_names) (adds_both k m n _ _ if_parts (subst (λ z. Adds m n (names_in_else (seen_else z))) (sym i) (subst (λ z. Adds m n (names_in (seen_block z))) g r)))

      pub if_adds_none : last ≡ None → Adds k m (names_in_stmt (seen_stmt s))
      if_adds_none i = subst (Adds k m) (sym if_names) (adds_both k m m _ _ if_parts (subst (λ z. Adds m m (names_in_else (seen_else z))) (sym i) (adds_nothing m)))

  module _ (is : s ≡ S.While e v) (ds : List Stmt) (d : ds ≡ v.items) where
    pub in_while : block_size (seen_block ds) < stmt_size (seen_stmt s)
    in_while = omega (arith, ap (λ z. stmt_size (seen_stmt z)) is, ap stmt_size (seen-While e v), ap (λ z. block_size (seen_block z)) d)

    pub while_adds : (k l : List (Vec ℕ Global)) → Adds k l (names_in (seen_block ds)) → Adds k l (names_in_stmt (seen_stmt s))
    while_adds k l p = subst (Adds k l) (ap (λ z. names_in (seen_block z)) d ∙ sym (ap (λ z. names_in_stmt (seen_stmt z)) is ∙ ap names_in_stmt (seen-While e v))) p

module _ (s : Stmt) (v : Vec Stmt Global) (x : Named) (w : Vec Stmt Global) (is : s ≡ S.Try v x w) where
  try_size : stmt_size (seen_stmt s) ≡ stmt_size (Model.TryStmt (seen_block v.items) (seen_name x) (seen_block w.items))
  try_size = ap (λ z. stmt_size (seen_stmt z)) is ∙ ap stmt_size (seen-Try v x w)

  pub in_try : (ds : List Stmt) → ds ≡ v.items → block_size (seen_block ds) < stmt_size (seen_stmt s)
  in_try ds d = omega (arith, try_size, ap (λ z. block_size (seen_block z)) d)

  pub in_handler : (ds : List Stmt) → ds ≡ w.items → block_size (seen_block ds) < stmt_size (seen_stmt s)
  in_handler ds d = omega (arith, try_size, ap (λ z. block_size (seen_block z)) d)

  pub try_adds : (k l m n : List (Vec ℕ Global)) (ds es : List Stmt) → ds ≡ v.items → es ≡ w.items → Adds k l (names_in (seen_block ds)) → Adds l m (x.name ∷ []) → Adds m n (names_in (seen_block es)) → Adds k n (names_in_stmt (seen_stmt s))
  try_adds k l m n ds es d f p q r = subst (Adds k n)
      (append_assoc (names_in (seen_block v.items)) (x.name ∷ []) (names_in (seen_block w.items)) ∙ sym (ap (λ z. names_in_stmt (seen_stmt z)) is ∙ ap names_in_stmt (seen-Try v x w)))
      (adds_both k m n _ _ (adds_both k l m _ _ (subst (λ z. Adds k l (names_in (seen_block z))) d p) q) (subst (λ z. Adds m n (names_in (seen_block z))) f r))

pub var_adds : (s : Stmt) (x : Named) (e : Expr) (k l : List (Vec ℕ Global)) → s ≡ S.Var x e → Adds k l (x.name ∷ []) → Adds k l (names_in_stmt (seen_stmt s))
var_adds s x e k l is p = subst (Adds k l) (sym (ap (λ z. names_in_stmt (seen_stmt z)) is ∙ ap names_in_stmt (seen-Var x e))) p

pub assign_adds : (s : Stmt) (x : Named) (e : Expr) (k : List (Vec ℕ Global)) → s ≡ S.Assign x e → Adds k k (names_in_stmt (seen_stmt s))
assign_adds s x e k is = subst (Adds k k) (sym (ap (λ z. names_in_stmt (seen_stmt z)) is ∙ ap names_in_stmt (seen-Assign x e))) (adds_nothing k)

pub expr_adds : (s : Stmt) (e : Expr) (k : List (Vec ℕ Global)) → s ≡ S.Expr e → Adds k k (names_in_stmt (seen_stmt s))
expr_adds s e k is = subst (Adds k k) (sym (ap (λ z. names_in_stmt (seen_stmt z)) is ∙ ap names_in_stmt (seen-Expr e))) (adds_nothing k)

pub return_adds : (s : Stmt) (e : Option Expr) (k : List (Vec ℕ Global)) → s ≡ S.Return e → Adds k k (names_in_stmt (seen_stmt s))
return_adds s e k is = subst (Adds k k) (sym (ap (λ z. names_in_stmt (seen_stmt z)) is ∙ ap names_in_stmt (seen-Return e))) (adds_nothing k)

pub throw_adds : (s : Stmt) (e : Expr) (k : List (Vec ℕ Global)) → s ≡ S.Throw e → Adds k k (names_in_stmt (seen_stmt s))
throw_adds s e k is = subst (Adds k k) (sym (ap (λ z. names_in_stmt (seen_stmt z)) is ∙ ap names_in_stmt (seen-Throw e))) (adds_nothing k)

-- an item of `else if` parts is smaller than they are
pub in_others : (ps : List (Expr × Vec Stmt Global)) (i : ℕ) (p : Expr × Vec Stmt Global) (ds : List Stmt) → p ≡ get_or ps i p → i < length ps → ds ≡ p.1.items → block_size (seen_block ds) < others_size (seen_others ps)
in_others [] i p ds is lt d = absurd (omega (arith, lt))
in_others (q ∷ ps) zero p ds is lt d = omega (arith, ap (λ z. block_size (seen_block z)) d, ap (λ (z : Expr × Vec Stmt Global). block_size (seen_block z.1.items)) is)
in_others (q ∷ ps) (suc i) p ds is lt d = let h = in_others ps i p ds is (omega (arith, lt)) d in omega (arith, h)

-- ---- the items of a script

pub function_adds : (i : Item) (f : Function) (rest : List Item) → i ≡ item.Fn f → item_names (i ∷ rest) ≡ [] ++ item_names rest
function_adds i f rest is = ap (λ z. item_names (z ∷ rest)) is

pub statement_adds : (i : Item) (s : Stmt) (rest : List Item) → i ≡ item.Stmt s → item_names (i ∷ rest) ≡ names_in_stmt (seen_stmt s) ++ item_names rest
statement_adds i s rest is = ap (λ z. item_names (z ∷ rest)) is

pub item_split : (x : Item) (rest : List Item) → item_names (x ∷ rest) ≡ item_names (x ∷ []) ++ item_names rest
item_split (item.Fn f) rest = refl
item_split (item.Stmt s) rest = ap (λ z. z ++ item_names rest) (sym (append-nil (names_in_stmt (seen_stmt s))))

pub no_item_names : (i : Item) (f : Function) (k : List (Vec ℕ Global)) → i ≡ item.Fn f → Adds k k (item_names (i ∷ []))
no_item_names i f k is = subst (λ z. Adds k k (item_names (z ∷ []))) (sym is) (adds_nothing k)

pub item_adds : (i : Item) (s : Stmt) (k l : List (Vec ℕ Global)) → i ≡ item.Stmt s → Adds k l (names_in_stmt (seen_stmt s)) → Adds k l (item_names (i ∷ []))
item_adds i s k l is p = subst (λ z. Adds k l (item_names (z ∷ []))) (sym is) (adds_same k l _ _ (sym (append-nil (names_in_stmt (seen_stmt s)))) p)

pub counted_names : (keys : List (Vec ℕ Global)) (names : List (List ℕ)) → Adds [] keys names → length keys ≡ length (distinct names)
counted_names keys names p = (p.more [] (record { members = λ q. refl; count = refl })).count
