-- What an index has at any name after one more name was put in.
use Rattle.std.proofs.Common.{◌≡◌, ℕ, zero, suc, ◌+◌, ◌<◌, ◌≤◌, ◌==◌, Bool, true, false, true≢false, cond, List, [], ◌∷◌, Vec, Global, Option, Some, None, refl, sym, ap, ◌∙◌, subst, arith, drop, get_or, length}
use Rattle.std.specs.Option.{option_map, is_some}
use borrow.Author.Tests.{eqb-true}
use Rattle.std.specs.Cmp.Lexicographic.{bytes_decides, nat_list_eq_equiv}
use Rattle.std.specs.Str.{bytes_eq}
use Rattle.std.specs.HashMap.{HashMap, UpdatesBy}
use Rattle.std.specs.Map.{lookup, IsKeyTest, AreApart, KeepsOthers}
use Rattle.std.proofs.lemmas.Bool.{cases_Bool, cond-true, cond-false}
use mathlib.Core.Logic.{⊎_elim}
use Rattle.std.proofs.lemmas.List.{drop_all}
use Rattle.page_values.proofs.Lists.{front, same_bytes-pointwise}
use Rattle.page_parts.specs.Words.{same_bytes}
use Rattle.page_interp.specs.Places.{at_bytes, place_of, IsIndex, AreOnce}

abbrev pub same_key : Vec ℕ Global → Vec ℕ Global → Bool
same_key x y = bytes_eq x.items y.items

pub apart : (bs cs ks : List ℕ) → bytes_eq bs cs ≡ false → bytes_eq bs ks ≡ true → bytes_eq cs ks ≡ false
apart bs cs ks n y = nat_list_eq_equiv.symm cs ks ∙ sym (nat_list_eq_equiv.congr bs ks cs y) ∙ n

module _ {K : Type 0} (eq : K → K → Bool) (test : K → Bool) where
  pub other_entries : {X : Type 0} (old new : List (K × X)) → KeepsOthers eq test old new → (other : K → Bool) → IsKeyTest eq other → AreApart test other → lookup other new ≡ lookup other old
  unfolding KeepsOthers
  other_entries old new h = h

-- g is w at bs, and f at other bytes
by_bytes : {W : Type 0} (f g : List ℕ → W) (bs : List ℕ) (w : W) → g bs ≡ w → ((cs : List ℕ) → bytes_eq bs cs ≡ false → g cs ≡ f cs) → (cs : List ℕ) → g cs ≡ cond (bytes_eq bs cs) w (f cs)
by_bytes f g bs w here other cs =
    ⊎_elim
    (λ y. subst (λ l. g l ≡ w) ((bytes_decides bs cs).0 y) here ∙ sym (cond-true (bytes_eq bs cs) w (f cs) y))
    (λ n. other cs n ∙ sym (cond-false (bytes_eq bs cs) w (f cs) n))
    (cases_Bool (bytes_eq bs cs))

pub put_at : {S : Type 0} (bs : List ℕ) (m n : HashMap (Vec ℕ Global) ℕ S) (w : Option ℕ) → UpdatesBy same_key (λ k. bytes_eq bs k.items) m n w → (cs : List ℕ) → at_bytes n cs ≡ cond (bytes_eq bs cs) w (at_bytes m cs)
put_at bs m n w h = by_bytes (at_bytes m) (at_bytes n) bs w h.1 (λ cs e. other_entries _ _ _ _ h.3 _ (λ x y. nat_list_eq_equiv.congr cs x.items y.items) (λ k. apart bs cs k.items e))

-- the index of the names from the place i on
abbrev pub IndexesFrom : {S : Type 0} → ℕ → List (List ℕ) → HashMap (Vec ℕ Global) ℕ S → Type 0
IndexesFrom i names places = (x : List ℕ) → at_bytes places x ≡ option_map (λ k. i + k) (place_of (drop i names) x)

by_first : (i : ℕ) (b : Bool) (o : Option ℕ) → cond b (Some i) (option_map (λ k. i + 1 + k) o) ≡ option_map (λ k. i + k) (cond b (Some 0) (option_map suc o))
by_first i true o = ap Some (omega arith)
by_first i false None = refl
by_first i false (Some k) = ap Some (omega arith)

pub one_more_name : {S : Type 0} (names : List (List ℕ)) (i j : ℕ) (name : List ℕ) (m n : HashMap (Vec ℕ Global) ℕ S) → name ≡ get_or names i name → i < length names → UpdatesBy same_key (λ k. bytes_eq name k.items) m n (Some i)
    → j ≡ i + 1 → IndexesFrom j names m → IndexesFrom i names n
one_more_name names i j name m n at lt put next before = λ x.
    rw (front names i name at lt)
    (put_at name m n (Some i) put x ∙ ap (λ o. cond (bytes_eq name x) (Some i) o) (rw next at (before x)) ∙ rw (same_bytes-pointwise name x) (by_first i (bytes_eq name x) (place_of (drop (i + 1) names) x)))

from_zero : (o : Option ℕ) → option_map (λ k. 0 + k) o ≡ o
from_zero None = refl
from_zero (Some k) = ap Some (omega arith)

pub whole_index : {S : Type 0} (names : List (List ℕ)) (i : ℕ) (m : HashMap (Vec ℕ Global) ℕ S) → i ≤ 0 → IndexesFrom i names m → IsIndex names m
whole_index names i m le h =
    let none : i ≡ 0 = omega arith in
    λ x. (rw none at (h x)) ∙ from_zero (place_of names x)

pub no_index : {S : Type 0} (names : List (List ℕ)) (i : ℕ) (m : HashMap (Vec ℕ Global) ℕ S) → i ≡ length names → m.entries ≡ [] → IndexesFrom i names m
no_index names i m at e = λ x. rw (e, at, drop_all (length names) names (omega arith)) refl

-- the first place of a name, as far as the places before i do not have it
unfoldable pub IsSoughtTo : ℕ → List (List ℕ) → List ℕ → Type 0
IsSoughtTo i names x = place_of names x ≡ option_map (λ k. i + k) (place_of (drop i names) x)

pub sought_none : (names : List (List ℕ)) (x : List ℕ) → IsSoughtTo 0 names x
unfolding IsSoughtTo
sought_none names x = sym (from_zero (place_of names x))

pub sought_here : (names : List (List ℕ)) (i : ℕ) (name x : List ℕ) → name ≡ get_or names i name → i < length names → same_bytes name x ≡ true → IsSoughtTo i names x → place_of names x ≡ Some i
unfolding IsSoughtTo
sought_here names i name x at lt q h = h ∙ rw (front names i name at lt, q) (ap Some (omega arith))

pub sought_on : (names : List (List ℕ)) (i : ℕ) (name x : List ℕ) → name ≡ get_or names i name → i < length names → same_bytes name x ≡ false → IsSoughtTo i names x → IsSoughtTo (i + 1) names x
unfolding IsSoughtTo
sought_on names i name x at lt q h = h ∙ rw (front names i name at lt, q) (sym (by_first i false (place_of (drop (i + 1) names) x)))

pub sought_all : (names : List (List ℕ)) (i : ℕ) (x : List ℕ) → length names ≤ i → IsSoughtTo i names x → place_of names x ≡ None
unfolding IsSoughtTo
sought_all names i x le h = h ∙ rw (drop_all i names le) refl

-- ---- names of which each stands there once

other_first : (n x : List ℕ) (ns : List (List ℕ)) (k : ℕ) (b : Bool) → place_of ns n ≡ None → place_of ns x ≡ Some k → same_bytes n x ≡ b → b ≡ false
other_first n x ns k false none there q = refl
other_first n x ns k true none there q =
    let e : n ≡ x = (bytes_decides n x).0 (sym (same_bytes-pointwise n x) ∙ q) in
    let no : place_of ns x ≡ None = rw e at none in
    cc

pub once_place : (names : List (List ℕ)) (i : ℕ) (y x : List ℕ) → AreOnce names → y ≡ get_or names i y → i < length names → same_bytes y x ≡ true → place_of names x ≡ Some i
once_place [] i y x once at lt q = absurd (omega arith)
once_place (n ∷ ns) zero y x once at lt q = rw (rw at at q) refl
once_place (n ∷ ns) (suc k) y x once at lt q =
    let there = once_place ns k y x once.1 at (omega arith) q in
    rw (other_first n x ns k (same_bytes n x) once.0 there refl, there) refl

-- the names from a place on stand there once, if the flag says so
abbrev pub AreOnceFrom : ℕ → List (List ℕ) → Bool → Type 0
AreOnceFrom i names once = once ≡ true → AreOnce (drop i names)

pub none_once : (i : ℕ) (names : List (List ℕ)) (once : Bool) → length names ≤ i → AreOnceFrom i names once
none_once i names once le q = rw (drop_all i names le) tt

pub one_once : (i j : ℕ) (names : List (List ℕ)) (name : List ℕ) (once : Bool) → name ≡ get_or names i name → i < length names → j ≡ i + 1 → place_of (drop j names) name ≡ None → AreOnceFrom j names once → AreOnceFrom i names once
one_once i j names name once at lt next none h q = rw (front names i name at lt) (rw next at none, rw next at (h q))

pub not_once : (i : ℕ) (names : List (List ℕ)) → AreOnceFrom i names false
not_once i names q = cc

pub whole_once : (i : ℕ) (names : List (List ℕ)) (once : Bool) → i ≤ 0 → AreOnceFrom i names once → once ≡ true → AreOnce names
whole_once i names once le h q = let none : i ≡ 0 = omega arith in rw none at (h q)

pub none_left : {X : Type 0} (xs : List X) → true ≡ (length xs == 0) → xs ≡ []
none_left [] q = refl
none_left (x ∷ xs) q = absurd (omega (arith, eqb-true (suc (length xs)) 0 (sym q)))

pub none_there : {X : Type 0} (o : Option X) → is_some o ≡ false → o ≡ None
none_there None q = refl
none_there (Some x) q = absurd (true≢false q)

no_map : (i : ℕ) (o : Option ℕ) → option_map (λ k. i + k) o ≡ None → o ≡ None
no_map i None q = refl
no_map i (Some k) q = cc

-- a name that the index of those from a place on does not have
pub absent_from : {S : Type 0} (i : ℕ) (names : List (List ℕ)) (places : HashMap (Vec ℕ Global) ℕ S) (x : List ℕ) → IndexesFrom i names places → at_bytes places x ≡ None → place_of (drop i names) x ≡ None
absent_from i names places x h q = no_map i (place_of (drop i names) x) (sym (h x) ∙ q)
