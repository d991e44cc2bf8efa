-- Numbers that were noted, with a mark for each number that has room.
use Rattle.std.specs.Prelude.{◌≡◌, ℕ, Bool, false, List, refl}
use Rattle.std.specs.Coded.{Coded, code_by, coded_list, coded×, coded_ℕ}
use Rattle.page_parts.specs.Words.{has_number, numbered}

-- the numbers in the order in which they were noted, and up to which number there is room
pub record Numbers : Type 0 where
  pub noted : List ℕ
  pub room : ℕ

abbrev pub coded_numbers : Coded Numbers
coded_numbers =
    code_by (List ℕ × ℕ) (coded× (coded_list coded_ℕ) coded_ℕ) (λ s. (s.noted, s.room)) (λ t. record { noted = t.0; room = t.1 })
    (λ _. refl)

-- mark number n tells whether n was noted, and none that has no mark was
pub record AreMarked (marks : List Bool) (noted : List ℕ) : Type 0 where
  pub told : (n : ℕ) → numbered marks n false ≡ has_number noted n
