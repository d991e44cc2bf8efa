-- A name without a fault is known, and a fault stands where its name does.
use Rattle.std.proofs.Common.{◌≡◌, ℕ, Bool, true, false, cond, not, List, Option, Some, None, refl, sym, ap, ◌∙◌, take, inl, inr, arith}
use Rattle.std.specs.Prelude.{◌||◌, slice_get}
use Rattle.std.proofs.lemmas.Bool.{cases_lt, cases_eq}
use Rattle.lang_ast.specs.declared.role.Role.{Role}
use Rattle.lang_ast.specs.declared.role.Role.TheVariants as role
use Rattle.lang_ast.specs.Names.{Occurrence, occurrences}
use Rattle.lang_ast.specs.NameFaults.{Fault, UnknownAt, TwiceAt, ArityAt, fault_of, fault_in, fault_at, HasNoFault, is_twice, is_unknown, is_arity, is_operation, knows_variable, names_function}
use Rattle.lang_ast.proofs.Fits.{one_fits}
use Rattle.lang_names.specs.Laws.{is_known, byte_of, AllKnown, FirstIsLeast}

second_false : (a b c : Bool) (x y z : Fault) → cond a (Some x) (cond b (Some y) (cond c (Some z) None)) ≡ None → b ≡ false
second_false true b c x y z e = cc
second_false false true c x y z e = cc
second_false false false c x y z e = refl

read_known : (a b : Bool) → (a || not b) ≡ false → b ≡ true
read_known true b e = cc
read_known false true e = refl
read_known false false e = cc

called_known : (b : Bool) → not b ≡ false → b ≡ true
called_known true e = refl
called_known false e = cc

role_known : (all : List Occurrence) (r : Role) (scope : Option ℕ) (x : List ℕ) → is_unknown all r scope x ≡ false → is_known all r scope x ≡ true
role_known all role.Function scope x e = refl
role_known all role.Parameter scope x e = refl
role_known all role.Variable scope x e = refl
role_known all role.Caught scope x e = refl
role_known all role.Read scope x e = read_known (is_operation x) (knows_variable all scope x || names_function all x) e
role_known all role.Assigned scope x e = read_known (is_operation x) (knows_variable all scope x) e
role_known all (role.Called n) scope x e = called_known (is_operation x || knows_variable all scope x || names_function all x) e

none_here : (all : List Occurrence) (place : ℕ) (o : Occurrence) → HasNoFault all → slice_get all place ≡ Some o → fault_of all (take place all) o ≡ None
none_here all place o none e = ap (fault_in all (take place all)) (sym e) ∙ none place

pub all_known : AllKnown
all_known = λ items place o none e.
    let all = occurrences items in
    let h = none_here all place o none e in (
      role_known all o.mention.role o.scope o.mention.name (second_false (is_twice all (take place all) o.mention.role o.scope o.mention.name) (is_unknown all o.mention.role o.scope o.mention.name) (is_arity o.mention.role o.mention.name) (TwiceAt o.mention.at) (UnknownAt o.mention.at) (ArityAt o.mention.at) h),
      one_fits all (take place all) o h,
    )

one_byte : (a b c : Bool) (at : ℕ) (f : Fault) → cond a (Some (TwiceAt at)) (cond b (Some (UnknownAt at)) (cond c (Some (ArityAt at)) None)) ≡ Some f → byte_of f ≡ at
one_byte true b c at f e = let s : TwiceAt at ≡ f = cc in ap byte_of (sym s)
one_byte false true c at f e = let s : UnknownAt at ≡ f = cc in ap byte_of (sym s)
one_byte false false true at f e = let s : ArityAt at ≡ f = cc in ap byte_of (sym s)
one_byte false false false at f e = cc

record Stands (all : List Occurrence) (place : ℕ) (f : Fault) : Type 0 where
  occurrence : Occurrence
  here : slice_get all place ≡ Some occurrence
  byte : byte_of f ≡ occurrence.mention.at

stands_by : (all : List Occurrence) (place : ℕ) (f : Fault) (o : Option Occurrence) → slice_get all place ≡ o → fault_in all (take place all) o ≡ Some f → Stands all place f
stands_by all place f None e h = cc
stands_by all place f (Some o) e h = record {
  occurrence = o;
  here = e;
  byte = one_byte (is_twice all (take place all) o.mention.role o.scope o.mention.name) (is_unknown all o.mention.role o.scope o.mention.name) (is_arity o.mention.role o.mention.name) o.mention.at f h;
}

stands : (all : List Occurrence) (place : ℕ) (f : Fault) → fault_at all place ≡ Some f → Stands all place f
stands all place f h = stands_by all place f (slice_get all place) refl h

same_byte : (all : List Occurrence) (i j : ℕ) (f g : Fault) → i ≡ j → fault_at all i ≡ Some f → fault_at all j ≡ Some g → byte_of f ≡ byte_of g
same_byte all i j f g e p q = let s = ap (fault_at all) e in let h : f ≡ g = cc in ap byte_of h

not_before : (all : List Occurrence) (i : ℕ) (f : Fault) → fault_at all i ≡ None → fault_at all i ≡ Some f → ⊥
not_before all i f p q = cc

pub first_is_least : FirstIsLeast
first_is_least = λ all first other place rise f h.
    let a = stands all f.place first f.here in
    let b = stands all place other h in
    elim (cases_lt place f.place) [
      | inl lt ↦ absurd (not_before all place other (f.first place lt) h)
      | inr ge ↦ elim (cases_eq f.place place) [
        | inl e ↦ let s = same_byte all f.place place first other e f.here h in omega (arith, s)
        | inr apart ↦ let r = rise f.place place a.occurrence b.occurrence (omega (arith, ge, apart)) a.here b.here in omega (arith, r, a.byte, b.byte)
      ]
    ]
