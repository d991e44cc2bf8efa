-- Combinators: what settles the promise of `all`, `any`, `allSettled` and `finally`, by what the elements have reported.
use Rattle.std.specs.Prelude.{ℕ, zero, suc, true, false, if◌then◌else◌, not, List, [], ◌∷◌, length, map, Option, Some, None, is_some, ◌==◌, find, option_map, slice_get, unwrap_or}
use Rattle.page_types.specs.Values.{Value, UnitValue, BoolValue, ListValue, values_of}
use Rattle.page_types.specs.declared.FaultName.TheVariants.{RangeError}
use Rattle.page_parts.specs.Words.{and_last}
use Rattle.page_parts.specs.Kinds.{within_limits, a_fault}
use Rattle.page_parts.specs.Promises.{Settled, Fulfilled, Failed, has_failed, settled_value}

-- ---- ECMA-262, "Promise.all", "Promise.any", "Promise.allSettled" and "Promise.prototype.finally"

-- which combinator it is; that of `finally` passes an outcome on
pub data CombinatorKind : Type 0 where
  All : CombinatorKind
  AnyOf : CombinatorKind
  AllSettled : CombinatorKind
  Pass : Settled → CombinatorKind

-- what an element reported: its place, from 0, and its outcome
pub record Report : Type 0 where
  pub place : ℕ
  pub outcome : Settled

-- a combinator: its kind, how many elements it has, and the reports so far, in the order in which they came
pub record Combine : Type 0 where
  pub kind : CombinatorKind
  pub count : ℕ
  pub reports : List Report

-- a combinator of which no element has reported
abbrev pub combine : CombinatorKind → ℕ → Combine
combine kind count = record { kind = kind; count = count; reports = [] }

-- one more report
abbrev pub with_report : Report → Combine → Combine
with_report r c = record c { reports = and_last c.reports r }

-- the places below n
abbrev pub places : ℕ → List ℕ
places zero = []
places (suc n) = and_last (places n) n

-- what was reported at a place; once all have reported, each place has its report
abbrev pub outcome_at : List Report → ℕ → Settled
outcome_at rs k = unwrap_or (option_map (λ r. r.outcome) (find (λ r. r.place == k) rs)) (Fulfilled UnitValue)

-- the outcomes in the order of their places
abbrev pub by_place : Combine → List Settled
by_place c = map (outcome_at c.reports) (places c.count)

-- a list of values as an outcome. Ours: RangeError where it is too heavy or nests too deep
abbrev pub list_outcome : (Value → Settled) → List Value → Settled
list_outcome how vs = elim (within_limits (ListValue (values_of vs))) [ None ↦ Failed (a_fault RangeError) | Some v ↦ how v ]

-- the outcome once all elements have reported
abbrev pub once_all : Combine → Settled → Option Settled
once_all c how = if length c.reports == c.count then Some how else None

-- the first that is there of an outcome and another answer
abbrev pub or_answer : (first later : Option Settled) → Option Settled
or_answer None later = later
or_answer (Some how) later = Some how

-- the first rejection among the reports
abbrev pub first_failed : List Report → Option Settled
first_failed rs = option_map (λ r. r.outcome) (find (λ r. has_failed r.outcome) rs)

-- the first fulfilment among the reports
abbrev pub first_fulfilled : List Report → Option Settled
first_fulfilled rs = option_map (λ r. r.outcome) (find (λ r. not (has_failed r.outcome)) rs)

-- an outcome as a value: true with the value, or false with the reason
abbrev pub outcome_value : Settled → Value
outcome_value (Fulfilled v) = ListValue (values_of (BoolValue true ∷ v ∷ []))
outcome_value (Failed v) = ListValue (values_of (BoolValue false ∷ v ∷ []))

-- a rejection stays one, and for a value comes the outcome that is passed on
abbrev pub passed_on : (how after : Settled) → Settled
passed_on how (Fulfilled v) = how
passed_on how (Failed v) = Failed v

-- The answer of a combinator, by the reports so far, none while there is none.
-- `all`: the first rejection, or else, once all have reported, the values by place. `any`: the first value, or else the reasons by place
-- (ours: a list of them, since a fault holds no list). `allSettled`: the outcomes by place. `finally`: the outcome that is passed on, or a
-- rejection of the one element.
abbrev pub answer_by : CombinatorKind → Combine → Option Settled
answer_by All c = or_answer (first_failed c.reports) (once_all c (list_outcome Fulfilled (map settled_value (by_place c))))
answer_by AnyOf c = or_answer (first_fulfilled c.reports) (once_all c (list_outcome Failed (map settled_value (by_place c))))
answer_by AllSettled c = once_all c (list_outcome Fulfilled (map outcome_value (by_place c)))
answer_by (Pass how) c = option_map (λ r. passed_on how r.outcome) (slice_get c.reports 0)

-- the answer of a combinator
abbrev pub answer_of : Combine → Option Settled
answer_of c = answer_by c.kind c

-- the answer that a report brings: none where one came before
abbrev pub report_answer : Report → Combine → Option Settled
report_answer r c = if is_some (answer_of c) then None else answer_of (with_report r c)
