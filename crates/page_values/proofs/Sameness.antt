-- The test of equality is equality.
use Rattle.std.proofs.Common.{◌≡◌, ℕ, Bool, true, false, List, [], ◌∷◌, Some, None, ℤ, pos, negsuc, ap, refl, arith, not, ◌↔◌, subst}
use Rattle.std.specs.Prelude.{◌&&◌, IsTrue, ◌==◌, cond}
use Rattle.std.proofs.lemmas.Bool.Decides.{nat_tests}
use Rattle.std.proofs.lemmas.Bool.{eqb-true, eq-eqb, false≢true}
use Rattle.page_types.specs.declared.FaultName.{FaultName}
use Rattle.page_types.specs.declared.FaultName.TheVariants.{Error, TypeError, RangeError, AbortError, TimeoutError, NotAllowedError}
use Rattle.page_types.specs.Values.{Value, UnitValue, BoolValue, IntValue, TextValue, ListValue, FunValue, PromiseValue, SignalValue, ControllerValue, DeadlineValue, FaultValue, Values, no_values, with_value}
use Rattle.page_parts.specs.Words.{same_bytes, same_int}
use Rattle.page_parts.specs.Spelling.{fault_text}
use Rattle.page_parts.specs.Kinds.{same, same_all}

left : (a b : Bool) → IsTrue (a && b) → IsTrue a
left true b p = refl
left false b p = absurd (false≢true p)

right : (a b : Bool) → IsTrue (a && b) → IsTrue b
right true b p = p
right false b p = absurd (false≢true p)

both : (a b : Bool) → IsTrue a → IsTrue b → IsTrue (a && b)
both true b p q = q
both false b p q = absurd (false≢true p)

bytes-equal : (xs ys : List ℕ) → IsTrue (same_bytes xs ys) → xs ≡ ys
bytes-equal [] [] p = refl
bytes-equal [] (y ∷ ys) p = absurd (false≢true p)
bytes-equal (x ∷ xs) [] p = absurd (false≢true p)
bytes-equal (x ∷ xs) (y ∷ ys) p = let first : x ≡ y = eqb-true x y (left (x == y) (same_bytes xs ys) p) in let rest : xs ≡ ys = bytes-equal xs ys (right (x == y) (same_bytes xs ys) p) in cc

bytes-self : (xs : List ℕ) → IsTrue (same_bytes xs xs)
bytes-self [] = refl
bytes-self (x ∷ xs) = both (x == x) (same_bytes xs xs) (eq-eqb x x refl) (bytes-self xs)

int-equal : (a b : ℤ) → IsTrue (same_int a b) → a ≡ b
int-equal (pos m) (pos n) p = grind (arith, nat_tests)
int-equal (pos m) (negsuc n) p = absurd (false≢true p)
int-equal (negsuc m) (pos n) p = absurd (false≢true p)
int-equal (negsuc m) (negsuc n) p = grind (arith, nat_tests)

int-self : (a : ℤ) → IsTrue (same_int a a)
int-self (pos n) = grind (arith, nat_tests)
int-self (negsuc n) = grind (arith, nat_tests)

bool-equal : (x y : Bool) → IsTrue (cond x y (not y)) → x ≡ y
bool-equal true true p = refl
bool-equal true false p = absurd (false≢true p)
bool-equal false true p = absurd (false≢true p)
bool-equal false false p = refl

bool-self : (x : Bool) → IsTrue (cond x x (not x))
bool-self true = refl
bool-self false = refl

name-equal : (a b : FaultName) → IsTrue (same_bytes (fault_text a) (fault_text b)) → a ≡ b
name-equal Error Error p = refl
name-equal TypeError TypeError p = refl
name-equal RangeError RangeError p = refl
name-equal AbortError AbortError p = refl
name-equal TimeoutError TimeoutError p = refl
name-equal NotAllowedError NotAllowedError p = refl
name-equal a b p = absurd (false≢true p)

mutual
  equal : (a b : Value) → IsTrue (same a b) → a ≡ b
  equal UnitValue UnitValue p = refl
  equal (BoolValue x) (BoolValue y) p = ap BoolValue (bool-equal x y p)
  equal (IntValue x) (IntValue y) p = ap IntValue (int-equal x y p)
  equal (TextValue x) (TextValue y) p = ap TextValue (bytes-equal x y p)
  equal (ListValue xs) (ListValue ys) p = ap ListValue (all-equal xs ys p)
  equal (FunValue f xs) (FunValue g ys) p = let number : f ≡ g = eqb-true f g (left (f == g) (same_all xs ys) p) in let bound : xs ≡ ys = all-equal xs ys (right (f == g) (same_all xs ys) p) in cc
  equal (PromiseValue x) (PromiseValue y) p = ap PromiseValue (eqb-true x y p)
  equal (SignalValue x) (SignalValue y) p = ap SignalValue (eqb-true x y p)
  equal (ControllerValue x) (ControllerValue y) p = ap ControllerValue (eqb-true x y p)
  equal (DeadlineValue None) (DeadlineValue None) p = refl
  equal (DeadlineValue (Some x)) (DeadlineValue (Some y)) p = ap (λ t. DeadlineValue (Some t)) (eqb-true x y p)
  equal (FaultValue a x) (FaultValue b y) p = let name : a ≡ b = name-equal a b (left (same_bytes (fault_text a) (fault_text b)) (same_bytes x y) p) in let text : x ≡ y = bytes-equal x y (right (same_bytes (fault_text a) (fault_text b)) (same_bytes x y) p) in cc
  equal a b p = absurd (false≢true p)

  all-equal : (xs ys : Values) → IsTrue (same_all xs ys) → xs ≡ ys
  all-equal no_values no_values p = refl
  all-equal (with_value x xs) (with_value y ys) p = let first : x ≡ y = equal x y (left (same x y) (same_all xs ys) p) in let rest : xs ≡ ys = all-equal xs ys (right (same x y) (same_all xs ys) p) in cc
  all-equal xs ys p = absurd (false≢true p)

mutual
  self : (a : Value) → IsTrue (same a a)
  self UnitValue = refl
  self (BoolValue x) = bool-self x
  self (IntValue x) = int-self x
  self (TextValue x) = bytes-self x
  self (ListValue xs) = all-self xs
  self (FunValue f xs) = both (f == f) (same_all xs xs) (eq-eqb f f refl) (all-self xs)
  self (PromiseValue x) = eq-eqb x x refl
  self (SignalValue x) = eq-eqb x x refl
  self (ControllerValue x) = eq-eqb x x refl
  self (DeadlineValue None) = refl
  self (DeadlineValue (Some t)) = eq-eqb t t refl
  self (FaultValue a x) = both (same_bytes (fault_text a) (fault_text a)) (same_bytes x x) (bytes-self (fault_text a)) (bytes-self x)

  all-self : (xs : Values) → IsTrue (same_all xs xs)
  all-self no_values = refl
  all-self (with_value x xs) = both (same x x) (same_all xs xs) (self x) (all-self xs)

pub same-equal : (a b : Value) → IsTrue (same a b) ↔ (a ≡ b)
same-equal a b = (equal a b, λ e. subst (λ (v : Value). IsTrue (same a v)) e (self a))
