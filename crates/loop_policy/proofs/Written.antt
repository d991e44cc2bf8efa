-- A chooser by a policy gives the sources of the written choices.
use Rattle.std.proofs.Common.{◌≡◌, ℕ, List, [], ◌∷◌, refl, ap, ℤ}
use Rattle.std.specs.Prelude.{Result}
use Rattle.page_types.specs.declared.Source.{Source}
use Rattle.page_parts.specs.Setup.{Policy, Fifo, Rank, Fair}
use Rattle.page_parts.specs.WrittenChoices.{Runnable, Written, by_fifo, by_rank, by_fair, counts_now, counts_after}
use Rattle.loop_policy.specs.Laws.{sources_by_policy, sources_by_choices}

fifo_same : (counts others late : List ℕ) (answers : List (Result ℤ ℤ)) (views : List (List Runnable))
    → sources_by_choices (Written Fifo counts late answers) views ≡ sources_by_policy (record { policy = Fifo; counts = others }) views
fifo_same counts others late answers [] = refl
fifo_same counts others late answers (rs ∷ views) =
    ap (λ more. by_fifo rs ∷ more) (fifo_same (counts_after rs (by_fifo rs) (counts_now rs counts)) others late answers views)

rank_same : (sources : List Source) (counts others late : List ℕ) (answers : List (Result ℤ ℤ)) (views : List (List Runnable))
    → sources_by_choices (Written (Rank sources) counts late answers) views ≡ sources_by_policy (record { policy = Rank sources; counts = others }) views
rank_same sources counts others late answers [] = refl
rank_same sources counts others late answers (rs ∷ views) =
    ap (λ more. by_rank sources rs ∷ more) (rank_same sources (counts_after rs (by_rank sources rs) (counts_now rs counts)) others late answers views)

fair_same : (k : ℕ) (counts late : List ℕ) (answers : List (Result ℤ ℤ)) (views : List (List Runnable))
    → sources_by_choices (Written (Fair k) counts late answers) views ≡ sources_by_policy (record { policy = Fair k; counts = counts }) views
fair_same k counts late answers [] = refl
fair_same k counts late answers (rs ∷ views) =
    let chosen = by_fair k (counts_now rs counts) rs in
    ap (λ more. chosen ∷ more) (fair_same k (counts_after rs chosen (counts_now rs counts)) late answers views)

pub written_same : (policy : Policy) (counts late : List ℕ) (answers : List (Result ℤ ℤ)) (views : List (List Runnable))
    → sources_by_choices (Written policy counts late answers) views ≡ sources_by_policy (record { policy = policy; counts = counts }) views
written_same Fifo counts late answers views = fifo_same counts counts late answers views
written_same (Rank sources) counts late answers views = rank_same sources counts counts late answers views
written_same (Fair k) counts late answers views = fair_same k counts late answers views
