-- Turns and jobs that run take a unit of fuel each, and no turn begins at `until` or later: what is kept of it along the lines.
use Rattle.std.proofs.Common.{◌≡◌, ℕ, suc, ◌+◌, ◌≤◌, ◌<◌, Bool, true, false, [], ◌∷◌, Option, refl, ◌&&◌, nat_lt, nat_le, arith}
use Rattle.std.proofs.lemmas.Bool.{ltb-false, leb-false}
use Rattle.page_types.specs.declared.End.TheVariants.{Clock}
use Rattle.page_types.specs.declared.Source.{Source}
use Rattle.page_types.specs.Events.{Event, Turn, Run, EndLine}
use Rattle.page_laws.specs.History.{History, count_lines, is_run, is_turn}
use Rattle.page_laws.specs.SchedulerLaws.{has_fuel_for, keeps_limits}
use Rattle.page_laws.proofs.Scans.{Test, Kept}

-- the time at which no turn begins any more, and the fuel of the whole run
pub record Limits : Type 0 where
  pub until : ℕ
  pub most : ℕ

-- the lines of turns and of jobs that run
abbrev pub spent : History → ℕ
spent past = count_lines is_turn past + count_lines is_run past

-- a line of these and of an end by the clock passes the test; what was asked of the lines before it
abbrev fits_in : Limits → History → ℕ → Event → Type 0 → Type 0
fits_in l past now (Turn n source) rest = keeps_limits l.until l.most past now (Turn n source) ≡ true × rest
fits_in l past now (Run j) rest = keeps_limits l.until l.most past now (Run j) ≡ true × rest
fits_in l past now (EndLine Clock) rest = keeps_limits l.until l.most past now (EndLine Clock) ≡ true × rest
fits_in l past now e rest = rest

abbrev fits : Limits → History → Type 0
fits l [] = Unit {0}
fits l (e ∷ past) = fits_in l past e.time e.event (fits l past)

-- the limits are kept by the lines, with so much fuel left
abbrev pub FitsBy : Limits → (left : ℕ) → History → Type 0
FitsBy l left past = spent past + left ≤ l.most × fits l past

-- ---- the lines that are tested

less-true : (n k : ℕ) → n < k → nat_lt n k ≡ true
less-true n k h = by_test (nat_lt n k) refl
  where
    by_test : (b : Bool) → nat_lt n k ≡ b → b ≡ true
    by_test true e = refl
    by_test false e = let a = ltb-false n k e in absurd (omega (arith, a, h))

most-true : (n k : ℕ) → n ≤ k → nat_le n k ≡ true
most-true n k h = by_test (nat_le n k) refl
  where
    by_test : (b : Bool) → nat_le n k ≡ b → b ≡ true
    by_test true e = refl
    by_test false e = let a = leb-false n k e in absurd (omega (arith, a, h))

both : (a b : Bool) → a ≡ true → b ≡ true → a && b ≡ true
both true b x y = y
both false b x y = x

-- there is fuel for one more
fuel-there : (l : Limits) (past : History) (left fuel : ℕ) → fuel ≡ suc left → spent past + fuel ≤ l.most → has_fuel_for l.most past ≡ true
fuel-there l past left fuel e h = less-true (spent past) l.most (omega (arith, e, h))

-- a unit is taken, and a job runs
pub job-fits : (l : Limits) (j now left fuel : ℕ) (past : History) → fuel ≡ suc left → FitsBy l fuel past → FitsBy l left (record { time = now; event = Run j } ∷ past)
job-fits l j now left fuel past e h = let a = h.0 in (omega (arith, a, e), (fuel-there l past left fuel e h.0, h.1))

-- a unit is taken, and a turn begins before `until`
pub turn-fits : (l : Limits) (n : ℕ) (source : Option Source) (now left fuel : ℕ) (past : History) → fuel ≡ suc left → now < l.until → FitsBy l fuel past → FitsBy l left (record { time = now; event = Turn n source } ∷ past)
turn-fits l n source now left fuel past e t h =
    let a = h.0 in
    (omega (arith, a, e), (both (nat_lt now l.until) (has_fuel_for l.most past) (less-true now l.until t) (fuel-there l past left fuel e h.0), h.1))

-- an end by the clock
pub clock-fits : (l : Limits) (now left : ℕ) (past : History) → l.until ≤ now → FitsBy l left past → FitsBy l left (record { time = now; event = EndLine Clock } ∷ past)
clock-fits l now left past t h = (h.0, (most-true l.until now t, h.1))

-- ---- all lines

abbrev pub limits_test : (until most : ℕ) → Test
limits_test until most past e = keeps_limits until most past e.time e.event

pub kept-limits : (l : Limits) (past : History) → fits l past → Kept (limits_test l.until l.most) past
kept-limits l [] h = tt
kept-limits l (e ∷ past) h = by_line e.event h (kept-limits l past)
  where
    by_line : (v : Event) → fits_in l past e.time v (fits l past) → (fits l past → Kept (limits_test l.until l.most) past) → keeps_limits l.until l.most past e.time v ≡ true × Kept (limits_test l.until l.most) past
    by_line (Turn n source) h rest = (h.0, rest h.1)
    by_line (Run j) h rest = (h.0, rest h.1)
    by_line (EndLine Clock) h rest = (h.0, rest h.1)
    by_line v h rest = (refl, rest h)
