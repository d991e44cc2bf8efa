-- Two tests at once, and answers that lead to others.
use Rattle.std.proofs.Common.{◌≡◌, ℕ, Bool, true, false, List, Option, Some, None, refl}
use Rattle.std.specs.Prelude.{◌&&◌, IsTrue}
use Rattle.std.proofs.lemmas.Bool.{false≢true}
use Rattle.page_base.specs.Fields.{◌>>=◌, read_or}

pub left : (a b : Bool) → IsTrue (a && b) → IsTrue a
left true b p = refl
left false b p = absurd (false≢true p)

pub right : (a b : Bool) → IsTrue (a && b) → IsTrue b
right true b p = p
right false b p = absurd (false≢true p)

pub both : (a b : Bool) → IsTrue a → IsTrue b → IsTrue (a && b)
both true b p q = q
both false b p q = absurd (false≢true p)

pub record Leads {A B : Type 0} (o : Option A) (next : A → Option B) (x : B) : Type 0 where
  pub between : A
  pub first : o ≡ Some between
  pub second : next between ≡ Some x

pub leads : {A B : Type 0} (o : Option A) (next : A → Option B) (x : B) → (o >>= next) ≡ Some x → Leads o next x
leads None next x is = absurd cc
leads (Some a) next x is = record { between = a; first = refl; second = is }

-- from an answer by the first reading or by another
pub or_found : {X G : Type 0} (o : Option (List ℕ)) (read : List ℕ → Option X) (other : Option X) (x : X) → ((rest : List ℕ) → o ≡ Some rest → read rest ≡ Some x → G) → (other ≡ Some x → G) → read_or o read other ≡ Some x → G
or_found None read other x first second is = second is
or_found (Some rest) read other x first second is = first rest refl is
