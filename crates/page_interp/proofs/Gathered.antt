-- The names that a script gives, item by item.
use Rattle.std.proofs.Common.{◌≡◌, ℕ, ◌+◌, ◌<◌, List, [], ◌∷◌, ◌++◌, map, drop, get_or, length, refl, sym, ap, ◌∙◌, append_assoc}
use Rattle.page_values.proofs.Lists.{front}
use Rattle.lang_meaning.specs.Evaluation.{names_in, names_in_stmt, functions_of, own_body}
use Rattle.lang_ast.specs.declared.tree.Named.{Named}
use Rattle.lang_ast.specs.declared.tree.Function.{Function}
use Rattle.lang_ast.specs.declared.tree.Stmt.{Stmt}
use Rattle.lang_ast.specs.declared.tree.Item.{Item}
use Rattle.lang_ast.specs.declared.tree.Item.TheVariants as item
use Rattle.lang_ast.specs.Seen.{seen_name, seen_stmt, seen_block, seen_items, seen_function}
use Rattle.page_interp.specs.Runs.{frame_names}

same_parameters : (xs : List Named) → map (λ x. x.name) (map seen_name xs) ≡ map (λ x. x.name) xs
same_parameters [] = refl
same_parameters (x ∷ xs) = ap (λ more. x.name ∷ more) (same_parameters xs)

first_frame : (all : List (List (List ℕ))) (f : Function) (items : List Item) → (all ++ frame_names (seen_function f) ∷ []) ++ map frame_names (functions_of (seen_items items)) ≡ all ++ map frame_names (functions_of (seen_items (item.Fn f ∷ items)))
first_frame all f items =
    append_assoc all (frame_names (seen_function f) ∷ []) (map frame_names (functions_of (seen_items items)))
    ∙ ap (λ ps. all ++ (ps ++ names_in (seen_block f.body.items)) ∷ map frame_names (functions_of (seen_items items))) (sym (same_parameters f.parameters.items))

pub next_frame : (all : List (List (List ℕ))) (items : List Item) (i : ℕ) (x : Item) (f : Function) (n : List (List ℕ)) → x ≡ get_or items i x → i < length items → x ≡ item.Fn f → n ≡ frame_names (seen_function f)
    → (all ++ n ∷ []) ++ map frame_names (functions_of (seen_items (drop (i + 1) items))) ≡ all ++ map frame_names (functions_of (seen_items (drop i items)))
next_frame all items i x f n at lt is e = rw (e, front items i x at lt, is) (first_frame all f (drop (i + 1) items))

pub skip_frame : (items : List Item) (i : ℕ) (x : Item) (s : Stmt) → x ≡ get_or items i x → i < length items → x ≡ item.Stmt s → functions_of (seen_items (drop (i + 1) items)) ≡ functions_of (seen_items (drop i items))
skip_frame items i x s at lt is = rw (front items i x at lt, is) refl

pub next_global : (into : List (List ℕ)) (items : List Item) (i : ℕ) (x : Item) (s : Stmt) → x ≡ get_or items i x → i < length items → x ≡ item.Stmt s
    → (into ++ names_in_stmt (seen_stmt s)) ++ names_in (own_body (seen_items (drop (i + 1) items))) ≡ into ++ names_in (own_body (seen_items (drop i items)))
next_global into items i x s at lt is = rw (front items i x at lt, is) (append_assoc into (names_in_stmt (seen_stmt s)) (names_in (own_body (seen_items (drop (i + 1) items)))))

pub skip_global : (items : List Item) (i : ℕ) (x : Item) (f : Function) → x ≡ get_or items i x → i < length items → x ≡ item.Fn f → own_body (seen_items (drop (i + 1) items)) ≡ own_body (seen_items (drop i items))
skip_global items i x f at lt is = rw (front items i x at lt, is) refl
