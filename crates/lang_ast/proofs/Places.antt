-- The places of functions among items.
use Rattle.std.proofs.Common.{◌≡◌, ℕ, zero, suc, ◌+◌, List, [], ◌∷◌, map, Some, None, refl, ap, subst, arith, length}
use Rattle.std.specs.Prelude.{slice_get}
use Rattle.lang_meaning.specs.Evaluation.{functions_of}
use Rattle.lang_ast.specs.declared.tree.Item.{Item}
use Rattle.lang_ast.specs.declared.tree.Item.TheVariants as item
use Rattle.lang_ast.specs.declared.tree.Function.{Function}
use Rattle.lang_ast.specs.declared.tree.Named.{Named}
use Rattle.lang_ast.specs.Seen.{seen_name, seen_block, seen_items, seen_function}
use Rattle.lang_ast.specs.Programs.{function_places}

pub absent : (n : ℕ) (items : List Item) (k : ℕ) → slice_get (function_places n items) k ≡ None → slice_get (functions_of (seen_items items)) k ≡ None
absent n [] k e = refl
absent n (item.Fn f ∷ items) zero e = cc
absent n (item.Fn f ∷ items) (suc k) e = absent (suc n) items k e
absent n (item.Stmt s ∷ items) k e = absent (suc n) items k e

pub record Found (items : List Item) (k q : ℕ) : Type 0 where
  pub function : Function
  pub here : slice_get items q ≡ Some (item.Fn function)
  pub is : slice_get (functions_of (seen_items items)) k ≡ Some (seen_function function)

names_seen : (xs : List Named) → map (λ x. x.name) (map seen_name xs) ≡ map (λ x. x.name) xs
names_seen [] = refl
names_seen (x ∷ xs) = ap (λ names. x.name ∷ names) (names_seen xs)

function_seen : (f : Function) → slice_get (functions_of (seen_items (item.Fn f ∷ []))) 0 ≡ Some (seen_function f)
function_seen f = ap (λ names. Some (record { name = f.name.name; parameters = names; body = seen_block f.body.items })) (names_seen f.parameters.items)

pub record FoundFrom (n : ℕ) (items : List Item) (k p : ℕ) : Type 0 where
  pub q : ℕ
  pub place : p ≡ n + q
  pub found : Found items k q

behind : (n : ℕ) (x : Item) (items : List Item) (k j p : ℕ) → ((q : ℕ) → Found items k q → Found (x ∷ items) j (suc q)) → FoundFrom (suc n) items k p → FoundFrom n (x ∷ items) j p
behind n x items k j p next r = record { q = suc r.q; place = omega (arith, r.place); found = next r.q r.found }

pub found_from : (n : ℕ) (items : List Item) (k p : ℕ) → slice_get (function_places n items) k ≡ Some p → FoundFrom n items k p
found_from n [] k p e = cc
found_from n (item.Fn f ∷ items) zero p e = record { q = 0; place = (let h : n ≡ p = cc in omega (arith, h)); found = record { function = f; here = refl; is = function_seen f } }
found_from n (item.Fn f ∷ items) (suc k) p e = behind n (item.Fn f) items k (suc k) p (λ q r. record { function = r.function; here = r.here; is = r.is }) (found_from (suc n) items k p e)
found_from n (item.Stmt s ∷ items) k p e = behind n (item.Stmt s) items k k p (λ q r. record { function = r.function; here = r.here; is = r.is }) (found_from (suc n) items k p e)

pub found : (items : List Item) (k p : ℕ) → slice_get (function_places 0 items) k ≡ Some p → Found items k p
found items k p e =
    let r = found_from 0 items k p e in
    let h : r.q ≡ p = omega (arith, r.place) in
    let P : ℕ → Type 0 = λ q. Found items k q in
    subst P h r.found

pub places_length : (n : ℕ) (items : List Item) → length (function_places n items) ≡ length (functions_of (seen_items items))
places_length n [] = refl
places_length n (item.Fn f ∷ items) = ap suc (places_length (suc n) items)
places_length n (item.Stmt s ∷ items) = places_length (suc n) items
