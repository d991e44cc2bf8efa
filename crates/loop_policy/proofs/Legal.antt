-- A policy gives a source that has a runnable task.
use Rattle.std.proofs.Common.{◌≡◌, ℕ, Bool, true, false, ◌&&◌, ◌||◌, cond, List, [], ◌∷◌, Some, refl, sym, ◌∙◌, subst, arith, nat_lt, nat_le, filter, find}
use Rattle.std.specs.List.{list_any, list_all}
use Rattle.std.specs.Option.{unwrap_or}
use Rattle.page_types.specs.declared.Source.{Source}
use Rattle.page_types.specs.declared.Source.TheVariants.{User, Net, Dom, Timer, Render, Sched, Idle}
use Rattle.page_parts.specs.Words.{is_empty}
use Rattle.page_parts.specs.Sources.{default_list, same_source}
use Rattle.page_parts.specs.WrittenChoices.{Runnable, is_runnable, least_first, by_fifo, by_rank, count_of, greatest_from, greatest, by_fair}
use Rattle.loop_policy.specs.Policies.{lists_each}
use Rattle.loop_policy.proofs.Runnables.{same_is, same_itself}
use Rattle.std.proofs.lemmas.Bool.Decides.{nat_tests}

-- ---- the oldest

pub runnable_first : (r : Runnable) (rs : List Runnable) (s : Source) (b : Bool) → same_source r.source s ≡ b → is_runnable (r ∷ rs) s ≡ (b || is_runnable rs s)
runnable_first r rs s true t = grind (arith, t)
runnable_first r rs s false t = grind (arith, t)

runnable_also : (r : Runnable) (rs : List Runnable) (s : Source) (b : Bool) → same_source r.source s ≡ b → is_runnable rs s ≡ true → is_runnable (r ∷ rs) s ≡ true
runnable_also r rs s true t h = runnable_first r rs s true t
runnable_also r rs s false t h = runnable_first r rs s false t ∙ h

runnable_third : (b r : Runnable) (rs : List Runnable) (s : Source) (v : Bool) → same_source b.source s ≡ v → is_runnable (b ∷ rs) s ≡ true → is_runnable (b ∷ r ∷ rs) s ≡ true
runnable_third b r rs s true t h = runnable_first b (r ∷ rs) s true t
runnable_third b r rs s false t h = runnable_first b (r ∷ rs) s false t ∙ runnable_also r rs s (same_source r.source s) refl (sym (runnable_first b rs s false t) ∙ h)

least_runnable : (best : Source) (n : ℕ) (rs : List Runnable) → is_runnable (record { source = best; first = n } ∷ rs) (least_first best n rs) ≡ true
least_runnable best n [] = runnable_first (record { source = best; first = n }) [] best true (same_itself best)
least_runnable best n (r ∷ rs) =
    let b : Runnable = record { source = best; first = n } in
    elim (nat_lt r.first n) as (λ v. is_runnable (b ∷ r ∷ rs) (cond v (least_first r.source r.first rs) (least_first best n rs)) ≡ true) [
      | true ↦ runnable_also b (r ∷ rs) (least_first r.source r.first rs) (same_source best (least_first r.source r.first rs)) refl (least_runnable r.source r.first rs)
      | false ↦ runnable_third b r rs (least_first best n rs) (same_source best (least_first best n rs)) refl (least_runnable best n rs)
    ]

pub fifo_legal : (rs : List Runnable) → is_empty rs ≡ false → is_runnable rs (by_fifo rs) ≡ true
fifo_legal [] some = cc
fifo_legal (r ∷ rs) some = least_runnable r.source r.first rs

-- ---- the first of a list

rank_step : (rs : List Runnable) (x : Source) (xs : List Source) (s : Source) (b t : Bool) → is_runnable rs x ≡ b → same_source s x ≡ t → is_runnable rs s ≡ true
    → (t || list_any (same_source s) xs) ≡ true
    → (list_any (same_source s) xs ≡ true → is_runnable rs (by_rank xs rs) ≡ true)
    → is_runnable rs (unwrap_or (cond b (Some x) (find (is_runnable rs) xs)) User) ≡ true
rank_step rs x xs s true t e same h any more = e
rank_step rs x xs s false true e same h any more = let is = same_is s x same in let h' = subst (λ y. is_runnable rs y ≡ true) is h in cc
rank_step rs x xs s false false e same h any more = more any

rank_found : (rs : List Runnable) (sources : List Source) (s : Source) → is_runnable rs s ≡ true → list_any (same_source s) sources ≡ true
    → is_runnable rs (by_rank sources rs) ≡ true
rank_found rs [] s h any = cc
rank_found rs (x ∷ xs) s h any = rank_step rs x xs s (is_runnable rs x) (same_source s x) refl refl h any (rank_found rs xs s h)

pub listed_in : (sources : List Source) → lists_each sources ≡ true → (s : Source) → list_any (same_source s) sources ≡ true
listed_in sources each User = grind (arith, nat_tests)
listed_in sources each Render = grind (arith, nat_tests)
listed_in sources each Sched = grind (arith, nat_tests)
listed_in sources each Timer = grind (arith, nat_tests)
listed_in sources each Net = grind (arith, nat_tests)
listed_in sources each Dom = grind (arith, nat_tests)
listed_in sources each Idle = grind (arith, nat_tests)

pub rank_legal : (sources : List Source) (rs : List Runnable) → lists_each sources ≡ true → is_empty rs ≡ false → is_runnable rs (by_rank sources rs) ≡ true
rank_legal sources [] each some = cc
rank_legal sources (r ∷ rs) each some =
    rank_found (r ∷ rs) sources r.source (runnable_first r rs r.source true (same_itself r.source)) (listed_in sources each r.source)

-- ---- the one that was most often passed over

pub all_passed : (p q : Source → Bool) (xs : List Source) → list_all p (filter (λ s. p s && q s) xs) ≡ true
all_passed p q [] = refl
all_passed p q (x ∷ xs) = grind (arith, all_passed p q xs)

greatest_passes : (p : Source → Bool) (counts : List ℕ) (best : Source) (xs : List Source) → p best ≡ true → list_all p xs ≡ true → p (greatest_from counts best xs) ≡ true
greatest_passes p counts best [] h all = h
greatest_passes p counts best (x ∷ xs) h all =
    elim (nat_lt (count_of counts best) (count_of counts x)) as (λ v. p (greatest_from counts (cond v x best) xs) ≡ true) [
      | true ↦ greatest_passes p counts x xs (grind (arith, all)) (grind (arith, all))
      | false ↦ greatest_passes p counts best xs h (grind (arith, all))
    ]

chosen_passes : (p : Source → Bool) (counts : List ℕ) (xs : List Source) (other : Source) → list_all p xs ≡ true → p other ≡ true → p (unwrap_or (greatest counts xs) other) ≡ true
chosen_passes p counts [] other all h = h
chosen_passes p counts (x ∷ xs) other all h = greatest_passes p counts x xs (grind (arith, all)) (grind (arith, all))

pub fair_legal : (k : ℕ) (counts : List ℕ) (rs : List Runnable) → is_empty rs ≡ false → is_runnable rs (by_fair k counts rs) ≡ true
fair_legal k counts rs some =
    chosen_passes (is_runnable rs) counts (filter (λ s. is_runnable rs s && nat_le k (count_of counts s)) default_list) (by_rank default_list rs)
    (all_passed (is_runnable rs) (λ s. nat_le k (count_of counts s)) default_list) (rank_legal default_list rs refl some)
