-- The codes that the model of a combinator asks for.
use Rattle.std.specs.Prelude.{ℕ, List, ◌≡◌, refl}
use Rattle.std.specs.Coded.{Coded, code_by, coded_list, coded×, coded⊎, coded_ℕ, coded_bool, coded_option}
use Rattle.std.specs.Prelude.{Bool, true, false, Option, Some, None}
use Rattle.page_parts.specs.Promises.{Settled}
use Rattle.page_parts.specs.Combinators.{CombinatorKind, All, AnyOf, AllSettled, Pass, Report, Combine}
use Rattle.promise_core.specs.Held.{coded_settled}
use mathlib.Core.Logic.{◌⊎◌, inl, inr}

-- a kind as one of three numbers, or else the outcome that is passed on
abbrev split_kind : CombinatorKind → Option Bool ⊎ Settled
split_kind All = inl None
split_kind AnyOf = inl (Some false)
split_kind AllSettled = inl (Some true)
split_kind (Pass how) = inr how

abbrev joined_kind : Option Bool ⊎ Settled → CombinatorKind
joined_kind (inl None) = All
joined_kind (inl (Some false)) = AnyOf
joined_kind (inl (Some true)) = AllSettled
joined_kind (inr how) = Pass how

pub joined-split : (kind : CombinatorKind) → joined_kind (split_kind kind) ≡ kind
joined-split All = refl
joined-split AnyOf = refl
joined-split AllSettled = refl
joined-split (Pass how) = refl

abbrev pub coded_kind : Coded CombinatorKind
coded_kind =
    code_by (Option Bool ⊎ Settled) (coded⊎ (coded_option coded_bool) coded_settled) split_kind joined_kind joined-split

abbrev pub coded_report : Coded Report
coded_report =
    code_by (ℕ × Settled) (coded× coded_ℕ coded_settled)
    (λ r. (r.place, r.outcome)) (λ t. record { place = t.0; outcome = t.1 }) (λ _. refl)

abbrev pub coded_combine : Coded Combine
coded_combine =
    code_by (CombinatorKind × (ℕ × List Report)) (coded× coded_kind (coded× coded_ℕ (coded_list coded_report)))
    (λ c. (c.kind, (c.count, c.reports))) (λ t. record { kind = t.0; count = t.1.0; reports = t.1.1 }) (λ _. refl)
