-- Where no name in a list is at fault, and where no bracket is nested too deep, by one test each.
use Rattle.std.proofs.Common.{◌≡◌, ℕ, zero, suc, Bool, true, false, not, ◌&&◌, nat_le, leb-true, List, [], ◌∷◌, ◌++◌, take, Option, Some, None, slice_get, refl, sym, ap, ◌∙◌, append_assoc, append-nil}
use Rattle.page_parts.specs.Words.{is_there}
use Rattle.lang_ast.specs.Names.{Occurrence}
use Rattle.lang_ast.specs.NameFaults.{Fault, fault_of, fault_in, HasNoFault}
use Rattle.lang_parse.specs.Symbols.{Symbol}
use Rattle.lang_parse.specs.Grammar.{IsShallow, brackets_after}

and_left : (x y : Bool) → (x && y) ≡ true → x ≡ true
and_left true y e = refl
and_left false y e = e

and_right : (x y : Bool) → (x && y) ≡ true → y ≡ true
and_right true y e = e
and_right false y e = cc

-- none of the names behind some others is at fault
abbrev pub are_right : List Occurrence → List Occurrence → List Occurrence → Bool
are_right all before [] = true
are_right all before (o ∷ os) = not (is_there (fault_of all before o)) && are_right all (before ++ o ∷ []) os

nothing : (found : Option Fault) → not (is_there found) ≡ true → found ≡ None
nothing None e = refl
nothing (Some fault) e = cc

right_behind : (all before os : List Occurrence) → are_right all before os ≡ true → (place : ℕ) → fault_in all (before ++ take place os) (slice_get os place) ≡ None
right_behind all before [] e place = refl
right_behind all before (o ∷ os) e zero =
    ap (λ front. fault_of all front o) (append-nil before) ∙ nothing (fault_of all before o) (and_left _ _ e)
right_behind all before (o ∷ os) e (suc place) =
    ap (λ front. fault_in all front (slice_get os place)) (sym (append_assoc before (o ∷ []) (take place os)))
    ∙ right_behind all (before ++ o ∷ []) os (and_right _ _ e) place

pub no_fault : (all : List Occurrence) → are_right all [] all ≡ true → HasNoFault all
no_fault all e place = right_behind all [] all e place

-- at none of these symbols are more than 64 brackets open
abbrev pub are_shallow : ℕ → List Symbol → Bool
are_shallow n [] = true
are_shallow n (k ∷ ks) = nat_le (brackets_after n k) 64 && are_shallow (brackets_after n k) ks

pub shallow : (n : ℕ) (ks : List Symbol) → are_shallow n ks ≡ true → IsShallow n ks
shallow n [] e = tt
shallow n (k ∷ ks) e = (leb-true (brackets_after n k) 64 (and_left _ _ e), shallow (brackets_after n k) ks (and_right _ _ e))
