-- How far on timers are armed, and with which level what is no timer is.
use Rattle.std.proofs.Common.{◌≡◌, ℕ, suc, ◌≤◌, ◌+◌, ◌-◌, ◌*◌, ◌%◌, Bool, true, false, ◌&&◌, ◌||◌, cond, refl, sym, ap, ◌∙◌, arith, nat_lt, nat_le}
use Rattle.std.proofs.lemmas.Bool.{eq-eqb, le-leb, ltb-false}
use Rattle.page_parts.specs.Timers.{clamped}
use Rattle.page_model.specs.State.{Page}
use Rattle.page_model.specs.Numbers.{is_timer_role}
use Rattle.page_laws.specs.Moves.{IsArmedWell, role_at}
use Rattle.page_laws.specs.TimerLaws.{is_delay}
use Rattle.page_laws.proofs.Framed.{false_true}

clamped-least : (nesting ms : ℕ) → 6 ≤ nesting → 4 ≤ clamped nesting ms
clamped-least nesting ms le = by_level (nat_lt 5 nesting) refl
  where
    by_level : (b : Bool) → nat_lt 5 nesting ≡ b → 4 ≤ cond (b && nat_lt ms 4) 4 ms
    by_level true e = by_time (nat_lt ms 4) refl
      where
        by_time : (c : Bool) → nat_lt ms 4 ≡ c → 4 ≤ cond c 4 ms
        by_time true q = omega arith
        by_time false q = ltb-false ms 4 q
    by_level false e = let lt = ltb-false 5 nesting e in absurd (omega (arith, lt, le))

-- what a timer is armed for
pub clamped-delay : (now nesting ms : ℕ) → is_delay ((now + clamped nesting ms * 1000) - now) (suc nesting) ≡ true
clamped-delay now nesting ms = both (eq-eqb (((now + clamped nesting ms * 1000) - now) % 1000) 0 (omega arith)) (by_level (nat_lt (suc nesting) 7) refl)
  where
    both : {a b : Bool} → a ≡ true → b ≡ true → a && b ≡ true
    both {a = true} {b = b} h k = k
    both {a = false} {b = b} h k = absurd (false_true h)

    by_level : (b : Bool) → nat_lt (suc nesting) 7 ≡ b → b || nat_le 4000 ((now + clamped nesting ms * 1000) - now) ≡ true
    by_level true e = refl
    by_level false e = let le = ltb-false (suc nesting) 7 e in let least = clamped-least nesting ms (omega (arith, le)) in le-leb 4000 ((now + clamped nesting ms * 1000) - now) (omega (arith, least))

-- a timer is armed so
pub timer-well : (p : Page) (r nesting ms due : ℕ) → due ≡ p.now + clamped nesting ms * 1000 → is_timer_role (role_at p.registrations r) ≡ true → IsArmedWell p r due (suc nesting)
timer-well p r nesting ms due e role =
    record {
      timer = λ h. (omega (arith, e), ap {A = ℕ} {B = Bool} (λ n. is_delay (n - p.now) (suc nesting)) e ∙ clamped-delay p.now nesting ms);
      other = λ h. absurd (false_true (sym h ∙ role));
    }

-- and anything else with level 0
pub other-well : (p : Page) (r due : ℕ) → is_timer_role (role_at p.registrations r) ≡ false → IsArmedWell p r due 0
other-well p r due role = record { timer = λ h. absurd (false_true (sym role ∙ h)); other = λ h. refl }
