-- The outcomes by place, and the reports that they stand for.
use Rattle.std.proofs.Common.{◌≡◌, ◌≢◌, ℕ, zero, suc, ◌<◌, ◌≤◌, arith, List, [], ◌∷◌, ◌++◌, length, map, take, drop, get_or, ◌+◌, add-one, true, false, cond, ◌||◌, Result, refl, ap, sym, ◌∙◌, inl, inr, ◌⊎◌, get_or-set_same, get_or-set_other}
use Rattle.std.specs.Prelude.{Option, Some, ◌==◌, slice_get, slice_set, unwrap_or, find}
use Rattle.std.specs.Option.{option_map}
use Rattle.std.proofs.lemmas.Bool.Decides.{eqb_tells}
use Rattle.std.proofs.lemmas.List.{map-append, map-set, length-map, take_all}
use Rattle.std.proofs.lemmas.Option.{unwrap_or-slice_get, slice_get-map, slice_get_read}
use Rattle.std.proofs.Math.Seq.{take-suc}
use Rattle.page_types.specs.Values as Model
use Rattle.page_types.specs.Values.{UnitValue}
use Rattle.page_values.specs.declared.Value.{Value}
use Rattle.page_parts.specs.Words.{and_last, has_number}
use Rattle.page_parts.specs.Promises.{Settled, Fulfilled}
use Rattle.page_parts.specs.Combinators.{Report, places, outcome_at}
use Rattle.promise_core.specs.Seen.{settled_seen}
use Rattle.promise_combine.specs.Seen.{outcome_of, reports_of, report_of, outcomes_with}
use Rattle.promise_combine.proofs.Places.{neither, has_number-last}

abbrev silent : Settled
silent = Fulfilled UnitValue

abbrev reported : ℕ → Settled → Report
reported k o = record { place = k; outcome = o }

abbrev chosen : Option Report → Settled
chosen found = unwrap_or (option_map (λ r. r.outcome) found) (Fulfilled UnitValue)

-- ---- One outcome is written

pub outcome_of-set_same : (os : List (Result Value Value)) (p : ℕ) (x : Result Value Value) → p < length os → outcome_of (slice_set os p x) p ≡ settled_seen x
outcome_of-set_same os p x h =
    let within : p < length (map settled_seen os) = omega (arith, h, length-map os settled_seen) in
    ap (λ l. unwrap_or (slice_get l p) silent) (map-set settled_seen os p x)
    ∙ (unwrap_or-slice_get (slice_set (map settled_seen os) p (settled_seen x)) p silent ∙ get_or-set_same (map settled_seen os) p (settled_seen x) silent within)

pub outcome_of-set_other : (os : List (Result Value Value)) (p k : ℕ) (x : Result Value Value) → k ≢ p → outcome_of (slice_set os p x) k ≡ outcome_of os k
outcome_of-set_other os p k x other =
    ap (λ l. unwrap_or (slice_get l k) silent) (map-set settled_seen os p x)
    ∙ (unwrap_or-slice_get (slice_set (map settled_seen os) p (settled_seen x)) k silent
    ∙ (get_or-set_other (map settled_seen os) p k (settled_seen x) silent other ∙ sym (unwrap_or-slice_get (map settled_seen os) k silent)))

-- the reports of other places stay
reports_of-set : (os : List (Result Value Value)) (ks : List ℕ) (p : ℕ) (x : Result Value Value) → has_number ks p ≡ false → reports_of (slice_set os p x) ks ≡ reports_of os ks
reports_of-set os [] p x h = refl
reports_of-set os (k ∷ ks) p x h =
    let split = neither (k == p) (has_number ks p) h in
    elim (eqb_tells k p) [
      | inl e ↦ let clash : true ≡ false = sym e.0 ∙ split.0 in cc
      | inr e ↦ ap (λ o. reported k o ∷ reports_of (slice_set os p x) ks) (outcome_of-set_other os p k x e.1)
          ∙ ap (λ rs. reported k (outcome_of os k) ∷ rs) (reports_of-set os ks p x split.1)
    ]

-- one more report, at its end
pub reports_of-last : (os : List (Result Value Value)) (ks : List ℕ) (p : ℕ) (x : Result Value Value) → has_number ks p ≡ false → p < length os
    → reports_of (slice_set os p x) (and_last ks p) ≡ and_last (reports_of os ks) (report_of p x)
reports_of-last os ks p x fresh within =
    map-append (λ k. reported k (outcome_of (slice_set os p x) k)) ks (p ∷ [])
    ∙ (ap (λ rs. rs ++ reported p (outcome_of (slice_set os p x) p) ∷ []) (reports_of-set os ks p x fresh)
    ∙ ap (λ o. reports_of os ks ++ reported p o ∷ []) (outcome_of-set_same os p x within))

-- the places of the reports
pub places-reports_of : (os : List (Result Value Value)) (ks : List ℕ) → map (λ r. r.place) (reports_of os ks) ≡ ks
places-reports_of os [] = refl
places-reports_of os (k ∷ ks) = ap (λ l. k ∷ l) (places-reports_of os ks)

-- where nothing was reported the outcome stays unit
pub silent-last : (os : List (Result Value Value)) (ks : List ℕ) (p : ℕ) (x : Result Value Value) → ((k : ℕ) → has_number ks k ≡ false → outcome_of os k ≡ Fulfilled UnitValue)
    → (k : ℕ) → has_number (and_last ks p) k ≡ false → outcome_of (slice_set os p x) k ≡ Fulfilled UnitValue
silent-last os ks p x kept k h =
    let split = has_number-last ks p k h in
    elim (eqb_tells k p) [
      | inl e ↦ absurd (differs e.1 split.1)
      | inr e ↦ outcome_of-set_other os p k x e.1 ∙ kept k split.0
    ]
  where
    differs : k ≡ p → (p == k) ≡ false → ⊥
    differs e g = elim (eqb_tells p k) [ inl t ↦ let clash : true ≡ false = sym t.0 ∙ g in cc | inr t ↦ t.1 (sym e) ]

-- ---- The outcomes in the order of their places

outcome_at-reports_of : (os : List (Result Value Value)) (ks : List ℕ) (k : ℕ) → (has_number ks k ≡ false → outcome_of os k ≡ Fulfilled UnitValue) → outcome_at (reports_of os ks) k ≡ outcome_of os k
outcome_at-reports_of os [] k kept = sym (kept refl)
outcome_at-reports_of os (m ∷ ks) k kept =
    elim (eqb_tells m k) [
      | inl e ↦ ap (λ b. chosen (cond b (Some (record { place = m; outcome = outcome_of os m })) (find (λ r. r.place == k) (reports_of os ks)))) e.0 ∙ ap (outcome_of os) e.1
      | inr e ↦ ap (λ b. chosen (cond b (Some (record { place = m; outcome = outcome_of os m })) (find (λ r. r.place == k) (reports_of os ks)))) e.0
          ∙ outcome_at-reports_of os ks k (λ h. kept (ap (λ b. b || has_number ks k) e.0 ∙ h))
    ]

-- what each place has, for the places below n
map-places : (f : ℕ → Settled) (l : List Settled) (d : Settled) → ((k : ℕ) → f k ≡ get_or l k d) → (n : ℕ) → n ≤ length l → map f (places n) ≡ take n l
map-places f l d each zero h = refl
map-places f l d each (suc n) h =
    let within : n < length l = omega (arith, h) in
    map-append f (places n) (n ∷ [])
    ∙ (ap (λ xs. xs ++ f n ∷ []) (map-places f l d each n (omega (arith, h)))
    ∙ (ap (λ y. take n l ++ y ∷ []) (each n) ∙ sym (take-suc l n d within)))

-- the outcomes by place are those that are kept
pub by_place-reports_of : (os : List (Result Value Value)) (ks : List ℕ) → ((k : ℕ) → has_number ks k ≡ false → outcome_of os k ≡ Fulfilled UnitValue)
    → map (outcome_at (reports_of os ks)) (places (length os)) ≡ map settled_seen os
by_place-reports_of os ks kept =
    let long : length os ≤ length (map settled_seen os) = omega (arith, length-map os settled_seen) in
    let all : length (map settled_seen os) ≤ length os = omega (arith, length-map os settled_seen) in
    map-places (outcome_at (reports_of os ks)) (map settled_seen os) silent each (length os) long ∙ take_all (length os) (map settled_seen os) all
  where
    each : (k : ℕ) → outcome_at (reports_of os ks) k ≡ get_or (map settled_seen os) k silent
    each k = outcome_at-reports_of os ks k (kept k) ∙ unwrap_or-slice_get (map settled_seen os) k silent

-- ---- The outcomes of places that have not reported

pub outcome_of-silent : (os : List (Result Value Value)) (x : Result Value Value) → settled_seen x ≡ Fulfilled UnitValue → ((k : ℕ) → outcome_of os k ≡ Fulfilled UnitValue)
    → (k : ℕ) → outcome_of (os ++ x ∷ []) k ≡ Fulfilled UnitValue
outcome_of-silent [] x same kept zero = same
outcome_of-silent [] x same kept (suc k) = refl
outcome_of-silent (o ∷ os) x same kept zero = kept zero
outcome_of-silent (o ∷ os) x same kept (suc k) = outcome_of-silent os x same (λ i. kept (suc i)) k

-- ---- What a list holds at a place

-- the outcome at a place, where another one stands at one place
pub outcomes_with-at : (os : List (Result Value Value)) (p : ℕ) (x : Result Value Value) (i : ℕ) (y : Result Value Value) → i < length os → (i ≡ p → y ≡ x) → (i ≢ p → slice_get os i ≡ Some y)
    → slice_get (outcomes_with os p x) i ≡ Some (settled_seen y)
outcomes_with-at [] p x i y within same other = absurd (omega (arith, within))
outcomes_with-at (o ∷ os) zero x zero y within same other = ap (λ z. Some (settled_seen z)) (sym (same refl))
outcomes_with-at (o ∷ os) zero x (suc i) y within same other =
    let apart : suc i ≢ zero = omega arith in
    slice_get-map settled_seen os i ∙ ap (option_map settled_seen) (other apart)
outcomes_with-at (o ∷ os) (suc p) x zero y within same other =
    let apart : zero ≢ suc p = omega arith in
    ap (option_map settled_seen) (other apart)
outcomes_with-at (o ∷ os) (suc p) x (suc i) y within same other =
    outcomes_with-at os p x i y (omega (arith, within)) (λ e. same (ap suc e)) (λ e. other (λ s. e (omega (arith, s))))

-- a list of items is what stands before an item, that item, and the rest
pub items-at : (f : Settled → Model.Value) (l : List Settled) (i : ℕ) (y : Settled) → slice_get l i ≡ Some y → map f l ≡ take i (map f l) ++ f y ∷ drop (suc i) (map f l)
items-at f [] i y found = cc
items-at f (z ∷ l) zero y found = let same : z ≡ y = cc in ap (λ v. f v ∷ map f l) same
items-at f (z ∷ l) (suc i) y found = ap (λ t. f z ∷ t) (items-at f l i y found)

-- and up to that item
pub items-up_to : (f : Settled → Model.Value) (l : List Settled) (i : ℕ) (y : Settled) → slice_get l i ≡ Some y → take (i + 1) (map f l) ≡ take i (map f l) ++ f y ∷ []
items-up_to f l i y found = ap (λ n. take n (map f l)) (add-one i) ∙ up_to l i found
  where
    up_to : (l : List Settled) (i : ℕ) → slice_get l i ≡ Some y → take (suc i) (map f l) ≡ take i (map f l) ++ f y ∷ []
    up_to [] i found = cc
    up_to (z ∷ l) zero found = let same : z ≡ y = cc in ap (λ v. f v ∷ []) same
    up_to (z ∷ l) (suc i) found = ap (λ t. f z ∷ t) (up_to l i found)

-- the outcome that is taken at a place: another one at one place, and else the one that is kept
pub outcome-taken : (os : List (Result Value Value)) (p : ℕ) (x : Result Value Value) (i : ℕ) (kept taken : Result Value Value) → i < length os → kept ≡ get_or os i kept
    → ((i ≡ p) × (taken ≡ x)) ⊎ ((i ≢ p) × (taken ≡ kept)) → slice_get (outcomes_with os p x) i ≡ Some (settled_seen taken)
outcome-taken os p x i kept taken within read (inl h) = outcomes_with-at os p x i taken within (λ e. h.1) (λ e. absurd (e h.0))
outcome-taken os p x i kept taken within read (inr h) =
    outcomes_with-at os p x i taken within (λ e. absurd (h.0 e)) (λ e. slice_get_read os (length os) i kept refl within read ∙ ap Some (sym h.1))
