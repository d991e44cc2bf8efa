-- Names that are added, each once.
use Rattle.std.proofs.Common.{◌≡◌, ℕ, List, [], ◌∷◌, ◌++◌, Bool, true, false, Vec, Global, Result, Ok, Err, refl, sym, ap, ◌∙◌}
use Rattle.std.specs.Prelude.{cond, IfOk, ◌||◌}
use Rattle.page_parts.specs.Words.{and_last, same_bytes}
use Rattle.lang_place.specs.NameSets.{has_name}
use Rattle.async_segments.specs.Names.{with_new}
use Rattle.async_segments.specs.Written.{names_of, AddsNames}

pub with_new-append : (names xs ys : List (List ℕ)) → with_new names (xs ++ ys) ≡ with_new (with_new names xs) ys
with_new-append names [] ys = refl
with_new-append names (x ∷ xs) ys = with_new-append (cond (has_name names x) names (and_last names x)) xs ys

pub names_none : (a : List (Vec ℕ Global)) → AddsNames a a []
names_none a = record { is = refl }

pub names_then : {a b c : List (Vec ℕ Global)} {xs ys : List (List ℕ)} → AddsNames a b xs → AddsNames b c ys → AddsNames a c (xs ++ ys)
names_then {a} {b} {c} {xs} {ys} f g = record { is = g.is ∙ (ap (λ z. with_new z ys) f.is ∙ sym (with_new-append (names_of a) xs ys)) }

pub names_then_ok : {E : Type 0} {a b : List (Vec ℕ Global)} {xs : List (List ℕ)} (c : List (Vec ℕ Global)) (ys : List (List ℕ)) (r : Result (Unit {0}) E) →
    AddsNames a b xs → IfOk r (λ _. AddsNames b c ys) → IfOk r (λ _. AddsNames a c (xs ++ ys))
names_then_ok c ys (Ok u) f g = names_then f g
names_then_ok c ys (Err e) f g = g

-- one that is there
pub names_known : (a : List (Vec ℕ Global)) (x : List ℕ) → has_name (names_of a) x ≡ true → AddsNames a a (x ∷ [])
names_known a x e = record { is = sym (ap (λ b. cond b (names_of a) (and_last (names_of a) x)) e) }

names_of-append : (a b : List (Vec ℕ Global)) → names_of (a ++ b) ≡ names_of a ++ names_of b
names_of-append [] b = refl
names_of-append (v ∷ a) b = ap (λ z. v.items ∷ z) (names_of-append a b)

-- one that is new
pub names_new : (a b : List (Vec ℕ Global)) (v : Vec ℕ Global) (x : List ℕ) → has_name (names_of a) x ≡ false → b ≡ a ++ v ∷ [] → v.items ≡ x → AddsNames a b (x ∷ [])
names_new a b v x e more is = record {
  is = ap names_of more ∙ (names_of-append a (v ∷ []) ∙ (ap (λ z. names_of a ++ z ∷ []) is ∙ sym (ap (λ t. cond t (names_of a) (and_last (names_of a) x)) e)));
}

-- after these names some came, and with those that are left they are all of a row
pub record NamesGoOn (old new : List (Vec ℕ Global)) (all left : List (List ℕ)) : Type 0 where
  pub is : with_new (names_of new) left ≡ with_new (names_of old) all

pub names_on : {a b c : List (Vec ℕ Global)} {all xs rest : List (List ℕ)} (left : List (List ℕ)) → left ≡ xs ++ rest → NamesGoOn a b all left → AddsNames b c xs → NamesGoOn a c all rest
names_on {a} {b} {c} {all} {xs} {rest} left e g f = record {
  is = ap (λ z. with_new z rest) f.is ∙ (sym (with_new-append (names_of b) xs rest) ∙ (ap (λ z. with_new (names_of b) z) (sym e) ∙ g.is));
}

pub names_to : {a b : List (Vec ℕ Global)} {all : List (List ℕ)} (left : List (List ℕ)) → left ≡ [] → NamesGoOn a b all left → AddsNames a b all
names_to {a} {b} {all} left e g = record { is = sym (ap (λ z. with_new (names_of b) z) e) ∙ g.is }

-- the name is not the first of those that are left
pub has_next : (left rest : List (List ℕ)) (x name : List ℕ) (whole : Bool) → left ≡ x ∷ rest → same_bytes x name ≡ false → has_name left name ≡ whole → has_name rest name ≡ whole
has_next left rest x name whole e other inv = sym (ap (λ z. has_name z name) e ∙ ap (λ b. b || has_name rest name) other) ∙ inv

-- it is the first of them
pub has_here : (left rest : List (List ℕ)) (x name : List ℕ) (whole : Bool) → left ≡ x ∷ rest → same_bytes x name ≡ true → has_name left name ≡ whole → true ≡ whole
has_here left rest x name whole e same inv = sym (ap (λ z. has_name z name) e ∙ ap (λ b. b || has_name rest name) same) ∙ inv
