-- The numbers of the lists rise from source to source, so the source of a list is found by halves.
use Rattle.std.proofs.Common.{◌≡◌, ◌≢◌, ◌⊎◌, ℕ, zero, suc, ◌-◌, ◌≤◌, ◌<◌, Bool, true, false, leb, List, [], ◌∷◌, length, get_or, Option, Some, None, refl, sym, ◌∙◌, ap, inl, inr, arith}
use Rattle.std.specs.Prelude.{IfNone, IfSome}
use Rattle.std.specs.Option.{SomeIff}
use Rattle.std.specs.List.Sorted.{IsNonDecreasingBy, IsPartitionPoint}
use Rattle.std.proofs.lemmas.Bool.{leb-true, leb-false, cases_eq}
use Rattle.post_task.specs.declared.level.Level.{Level}
use Rattle.post_task.specs.Levels.{AreBehind, ListsRise, HasList}
use Rattle.post_task.proofs.Best.{any_level}

-- the lists of a source at its place
record Has (list place : ℕ) (levels : List Level) : Type 0 where
  within : place < length levels
  one : (d : Level) → ((get_or levels place d).plain.0 ≡ list) ⊎ ((get_or levels place d).continuations.0 ≡ list)

has_at : (list place : ℕ) (levels : List Level) → HasList list place levels → Has list place levels
has_at list place [] h = absurd h
has_at list zero (l ∷ ls) h = record { within = omega arith; one = λ d. h }
has_at list (suc place) (l ∷ ls) h = let r = has_at list place ls h in let w = r.within in record { within = omega (arith, w); one = r.one }

behind_at : (n : ℕ) (levels : List Level) (i : ℕ) (d : Level) → AreBehind n levels → i < length levels → n < (get_or levels i d).plain.0
behind_at n [] i d a h = absurd (omega arith)
behind_at n (l ∷ ls) zero d a h = a.0
behind_at n (l ∷ ls) (suc i) d a h = behind_at n ls i d a.2 (omega (arith, h))

both_at : (levels : List Level) (i : ℕ) (d : Level) → ListsRise levels → i < length levels → (get_or levels i d).plain.0 < (get_or levels i d).continuations.0
both_at [] i d a h = absurd (omega arith)
both_at (l ∷ ls) zero d a h = a.0
both_at (l ∷ ls) (suc i) d a h = both_at ls i d a.2 (omega (arith, h))

pair_at : (levels : List Level) (i j : ℕ) (d : Level) → ListsRise levels → i < j → j < length levels → (get_or levels i d).continuations.0 < (get_or levels j d).plain.0
pair_at [] i j d a h within = absurd (omega arith)
pair_at (l ∷ ls) i zero d a h within = absurd (omega (arith, h))
pair_at (l ∷ ls) zero (suc j) d a h within = behind_at l.continuations.0 ls j d a.1 (omega (arith, within))
pair_at (l ∷ ls) (suc i) (suc j) d a h within = pair_at ls i j d a.2 (omega (arith, h)) (omega (arith, within))

pub plain_rises : (levels : List Level) → ListsRise levels → IsNonDecreasingBy (λ (l : Level). l.plain.0) levels
plain_rises levels a i j d h within =
    elim (cases_eq i j) [
      | inl same ↦ let e = ap (λ (n : ℕ). (get_or levels n d).plain.0) same in omega (arith, e)
      | inr differs ↦
          let lower : i < j = omega (arith, h, differs) in
          let x = both_at levels i d a (omega (arith, lower, within)) in
          let y = pair_at levels i j d a lower within in
          omega (arith, x, y)
    ]

abbrev pub Point : List Level → ℕ → ℕ → Type 0
Point levels list i = IsPartitionPoint (λ (l : Level). leb l.plain.0 list ≡ true) (λ (l : Level). leb l.plain.0 list ≡ false) levels i

-- a source from the point on has greater lists
later_lacks : (levels : List Level) (list i place : ℕ) → ListsRise levels → Point levels list i → i ≤ place → HasList list place levels → ⊥
later_lacks levels list i place a p h has =
    let r = has_at list place levels has in
    let w = r.within in
    let above = leb-false (get_or levels place any_level).plain.0 list (p.1 place any_level h w) in
    let both = both_at levels place any_level a w in
    elim (r.one any_level) [ inl e ↦ absurd (omega (arith, e, above)) | inr e ↦ absurd (omega (arith, e, above, both)) ]

-- a source before the last one below the point has lesser lists
earlier_lacks : (levels : List Level) (list last place : ℕ) → ListsRise levels → Point levels list (suc last) → last < length levels → place < last → HasList list place levels → ⊥
earlier_lacks levels list last place a p within h has =
    let r = has_at list place levels has in
    let below = leb-true (get_or levels last any_level).plain.0 list (p.0 last any_level (omega arith) (omega arith)) in
    let both = both_at levels place any_level a r.within in
    let pair = pair_at levels place last any_level a h within in
    elim (r.one any_level) [ inl e ↦ absurd (omega (arith, e, below, both, pair)) | inr e ↦ absurd (omega (arith, e, below, pair)) ]

pub none_has : (levels : List Level) (list i : ℕ) (o : Option ℕ) → ListsRise levels → Point levels list i → SomeIff o (1 ≤ i) (i - 1) → IfNone o ((place : ℕ) → HasList list place levels → ⊥)
none_has levels list i (Some n) a p is = tt
none_has levels list i None a p is = λ place has. later_lacks levels list i place a p (elim (cases_eq i 0) [ inl e ↦ omega (arith, e) | inr e ↦ absurd (is (omega (arith, e))) ]) has

pub others_lack : (levels : List Level) (list i : ℕ) (o : Option ℕ) → ListsRise levels → Point levels list i → i ≤ length levels → SomeIff o (1 ≤ i) (i - 1) → IfSome o (λ found. (place : ℕ) → place ≢ found → HasList list place levels → ⊥)
others_lack levels list i None a p within is = tt
others_lack levels list zero (Some n) a p within is = absurd (omega (arith, is.0))
others_lack levels list (suc last) (Some n) a p within is = λ place differs has.
    let found : n ≡ last = omega (arith, is.1) in
    elim (cases_eq place last) [
      | inl same ↦ differs (same ∙ sym found)
      | inr other ↦
          let by : (b : Bool) → leb (suc place) last ≡ b → ⊥ = λ b. elim b as (λ b. leb (suc place) last ≡ b → ⊥) [
            | true ↦ λ e. earlier_lacks levels list last place a p (omega (arith, within)) (let l = leb-true (suc place) last e in omega (arith, l)) has
            | false ↦ λ e. later_lacks levels list (suc last) place a p (let l = leb-false (suc place) last e in omega (arith, l, other)) has
          ] in
          by (leb (suc place) last) refl
    ]
