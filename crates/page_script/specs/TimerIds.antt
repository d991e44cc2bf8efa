-- The first registration with each timer id, as it is kept.
use Rattle.std.specs.Prelude.{◌≡◌, ℕ, zero, suc, List, Option, Some, None}
use Rattle.page_model.specs.State.{Registration}
use Rattle.page_model.specs.PageTime.{registration_with_id}

-- a number, and none for 0, which names nothing
abbrev pub number_if_any : ℕ → Option ℕ
number_if_any zero = None
number_if_any (suc n) = Some (suc n)

-- the number of the first registration with a timer id, where there is one
abbrev pub first_with_id : ℕ → List Registration → Option ℕ
first_with_id id registrations = number_if_any (registration_with_id id 1 registrations)

-- what is kept of each timer id is the first registration with it
pub record AreFirst (kept : ℕ → Option ℕ) (registrations : List Registration) : Type 0 where
  pub told : (id : ℕ) → kept id ≡ first_with_id id registrations
