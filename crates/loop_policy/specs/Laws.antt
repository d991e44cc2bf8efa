-- The sources of the two choosers beside those of the definition of a run.
use Rattle.std.specs.Prelude.{◌≡◌, ℕ, List, [], ◌∷◌, Some, None, option_map, Result, ℤ}
use Rattle.page_types.specs.declared.Source.{Source}
use Rattle.page_parts.specs.Setup.{Setup}
use Rattle.page_parts.specs.WrittenChoices.{Runnable, Choices, Recorded, PickedSource, next_source, written}
use Rattle.loop_policy.specs.Policies.{PolicyState}
use Rattle.loop_policy.specs.Rules.{first_state, policy_choice, kept_choice}

-- a source beside choices of which only the sources change
abbrev pub with_source : (List Source → Choices) → Source × List Source → PickedSource
with_source choices answer = record { source = answer.0; left = choices answer.1 }

-- A recorded list gives the source that the run takes, and leaves what the run leaves.
abbrev pub RecordedSources : Type 0
RecordedSources = (readings : List ℕ) (answers : List (Result ℤ ℤ)) (sources : List Source) (rs : List Runnable) →
    next_source rs (Recorded sources readings answers)
    ≡ option_map (with_source (λ left. Recorded left readings answers)) (kept_choice sources rs)

-- the sources that a policy gives, one after another
abbrev pub sources_by_policy : PolicyState → List (List Runnable) → List Source
sources_by_policy held [] = []
sources_by_policy held (rs ∷ views) = elim (policy_choice held rs) [ None ↦ [] | Some answer ↦ answer.0 ∷ sources_by_policy answer.1 views ]

-- the sources that a run takes, one after another
abbrev pub sources_by_choices : Choices → List (List Runnable) → List Source
sources_by_choices choices [] = []
sources_by_choices choices (rs ∷ views) =
    elim (next_source rs choices) [ None ↦ [] | Some picked ↦ picked.source ∷ sources_by_choices picked.left views ]

-- Whatever is runnable at one choice after another, the policy gives the sources that the written choices of the setup give.
abbrev pub WrittenSources : Type 0
WrittenSources = (setup : Setup) (answers : List (Result ℤ ℤ)) (views : List (List Runnable)) →
    sources_by_choices (written setup answers) views ≡ sources_by_policy (first_state setup.policy) views
