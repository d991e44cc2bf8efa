-- Names of functions that no operation and no global variable has.
use Rattle.std.proofs.Common.{◌≡◌, ℕ, suc, ◌&&◌, Bool, true, false, cond, Vec, Global, List, [], ◌∷◌, map, Option, Some, None, is_none, refl, sym, ◌∙◌, slice_get}
use Rattle.std.specs.Option.{option_map}
use Rattle.std.specs.Cmp.Lexicographic.{bytes_decides}
use Rattle.page_types.specs.Values.{FunValue, no_values}
use Rattle.page_parts.specs.Words.{same_bytes}
use Rattle.page_values.proofs.Lists.{same_bytes-pointwise}
use Rattle.page_values.specs.declared.Value.{Value}
use Rattle.lang_meaning.specs.Evaluation.{functions_of, number_of}
use Rattle.lang_meaning.specs.OpNames.{op_named}
use Rattle.lang_ast.specs.SeenProgram.{seen_program}
use Rattle.lang_ast.specs.declared.program.Program as Code
use Rattle.page_interp.specs.declared.exit.Store.{Store}
use Rattle.page_interp.specs.Places.{place_of}
use Rattle.page_interp.specs.CodeNames.{is_own}
use Rattle.page_interp.specs.Runs.{global_names}
use Rattle.page_interp.specs.Variables.{value_at, named_in}
use Rattle.page_interp.proofs.Frames.{no_variable}

marked_by : (f : List ℕ → Bool) (n x : List ℕ) (ns : List (List ℕ)) (b : Bool) (o : Option ℕ) (i : ℕ) → same_bytes n x ≡ b → cond b (Some 0) (option_map suc o) ≡ Some i → ((k : ℕ) → o ≡ Some k → slice_get (map f ns) k ≡ Some (f x)) → slice_get (f n ∷ map f ns) i ≡ Some (f x)
marked_by f n x ns true o i same e next =
    let z : 0 ≡ i = cc in
    let y : n ≡ x = (bytes_decides n x).0 (sym (same_bytes-pointwise n x) ∙ same) in
    rw (← z, y) refl
marked_by f n x ns false None i same e next = cc
marked_by f n x ns false (Some k) i same e next = let s : suc k ≡ i = cc in rw (← s) (next k refl)

-- what is marked at the first place of a name is what holds of the name
pub marked_at : (f : List ℕ → Bool) (names : List (List ℕ)) (x : List ℕ) (i : ℕ) → place_of names x ≡ Some i → slice_get (map f names) i ≡ Some (f x)
marked_at f [] x i e = cc
marked_at f (n ∷ ns) x i e = marked_by f n x ns (same_bytes n x) (place_of ns x) i refl e (λ k o. marked_at f ns x k o)

both_none : {A B : Type 0} (a : Option A) (b : Option B) → is_none a && is_none b ≡ true → (a ≡ None) × (b ≡ None)
both_none None None q = (refl, refl)
both_none None (Some y) q = cc
both_none (Some x) b q = cc

-- a name at a place that is so marked
pub own_at : (globals names : List (List ℕ)) (x : List ℕ) (i : ℕ) → place_of names x ≡ Some i → slice_get (map (is_own globals) names) i ≡ Some true → (op_named x ≡ None) × (place_of globals x ≡ None)
own_at globals names x i e q = both_none (op_named x) (place_of globals x) (let h : Some (is_own globals x) ≡ Some true = sym (marked_at (is_own globals) names x i e) ∙ q in cc)

-- a name that no variable has is the function's
pub function_held : (p : Code.Program) (store : Store) (names : List (List ℕ)) (locals : Vec Value Global) (x : List ℕ) (n : ℕ) → value_at names locals x ≡ None → place_of (global_names (seen_program p)) x ≡ None → number_of (functions_of (seen_program p).items) x ≡ Some n
    → named_in p store names locals x ≡ Some (FunValue n no_values)
function_held p store names locals x n a b c = rw (a, no_variable (global_names (seen_program p)) store.globals.items x (sym b), c) refl
