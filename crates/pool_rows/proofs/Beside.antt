-- The scheduler's queues were made after those of the sources, so they have no list in common.
use Rattle.std.proofs.Common.{◌≡◌, ◌≢◌, ℕ, ◌<◌, List, [], ◌∷◌, ◌++◌, length, Option, Some, None, refl, sym, ◌∙◌, ap, subst, inl, inr, arith}
use Rattle.std.specs.Prelude.{MatchOption}
use Rattle.page_types.specs.declared.Source.{Source}
use Rattle.page_types.specs.declared.Source.TheVariants.{User, Net, Dom, Timer, Render, Sched, Idle}
use Rattle.task_pool.specs.Lists.{Lists, list_of}
use Rattle.task_queues.specs.declared.queues.Queues.{Queues}
use Rattle.task_queues.specs.BySource.{list_number, StandIn, IsApart}
use Rattle.post_task.specs.declared.level.Level.{Level}
use Rattle.post_task.specs.Waiting.{Waiting, Among, Inserted, ordered}
use Rattle.post_task.specs.Levels.{Queue, all_queues, Lone, waiting, TakesFirst}
use Rattle.post_task.proofs.Best.{InQueues}
use Rattle.post_task.proofs.Tasks.{lone_in}
use Rattle.post_task.proofs.Sharing.{apart-waiting}
use Rattle.post_task.proofs.Waits.{among_inserted}

module _ {T : Type 0} where
  pub list_within : (queues : Queues T) (pool : Lists T) (s : Source) → StandIn queues pool → s ≢ Sched → list_number queues s < length pool.lists
  list_within queues pool User h other = omega (arith, h, queues.rising.0, queues.rising.1, queues.rising.2, queues.rising.3, queues.rising.4)
  list_within queues pool Net h other = omega (arith, h, queues.rising.1, queues.rising.2, queues.rising.3, queues.rising.4)
  list_within queues pool Dom h other = omega (arith, h, queues.rising.2, queues.rising.3, queues.rising.4)
  list_within queues pool Timer h other = omega (arith, h, queues.rising.3, queues.rising.4)
  list_within queues pool Render h other = omega (arith, h, queues.rising.4)
  list_within queues pool Idle h other = h
  list_within queues pool Sched h other = absurd (other refl)

  pub beside : (queues : Queues T) (levels : List Level) (pool : Lists T) → StandIn queues pool → ((l : ℕ) → l < length pool.lists → Lone l (all_queues levels)) → (q : Queue) → InQueues q (all_queues levels) → IsApart queues q.list
  beside queues levels pool h made q i = λ s other. lone_in (list_number queues s) (all_queues levels) q (made (list_number queues s) (list_within queues pool s h other)) i

  only : (t u : Waiting T) (more : List (Waiting T)) → Inserted t [] more → Among u more → t ≡ u
  only t u more i a = elim (among_inserted t u [] more i a) [ inl e ↦ e | inr none ↦ absurd none ]

  none_inserted : (t : Waiting T) (front back : List (Waiting T)) → [] ≡ front ++ t ∷ back → ⊥
  none_inserted t [] back h = cc
  none_inserted t (x ∷ xs) back h = cc

  taken_only : (t : Waiting T) (more now : List (Waiting T)) (result : Option (ℕ × T)) → Inserted t [] more → MatchOption result (more ≡ []) (TakesFirst more now) → result ≡ Some (ordered t)
  taken_only t more now None i h = absurd (none_inserted t i.front i.back (sym h ∙ i.after))
  taken_only t more now (Some given) i h = ap (λ (g : ℕ × T). Some g) (h.is ∙ ap ordered (sym (only t h.task more i h.first.waits)))

  -- the one task that waits is taken, though tasks of the sources were put in and taken out meanwhile
  pub scheduled : (queues queues2 : Queues T) (levels levels2 : List Level) (p1 p2 p3 p4 p5 : Lists T) (t : Waiting T) (now : List (Waiting T)) (result : Option (ℕ × T))
      → StandIn queues p1 → ((l : ℕ) → l < length p1.lists → Lone l (all_queues levels)) → waiting levels p2 ≡ [] → ((l : ℕ) → IsApart queues l → list_of p3 l ≡ list_of p2 l)
      → Inserted t (waiting levels p3) (waiting levels2 p4) → levels2 ≡ levels → queues2 ≡ queues → ((l : ℕ) → IsApart queues2 l → list_of p5 l ≡ list_of p4 l)
      → MatchOption result (waiting levels2 p5 ≡ []) (TakesFirst (waiting levels2 p5) now) → result ≡ Some (ordered t)
  scheduled queues queues2 levels levels2 p1 p2 p3 p4 p5 t now result stand made empty put i same_levels same_queues taken h =
      let made2 = λ (l : ℕ) (x : l < length p1.lists). subst (λ (ls : List Level). Lone l (all_queues ls)) (sym same_levels) (made l x) in
      let none : waiting levels p3 ≡ [] = apart-waiting levels p2 p3 (λ q j. put q.list (beside queues levels p1 stand made q j)) ∙ empty in
      let still : waiting levels2 p5 ≡ waiting levels2 p4 =
      apart-waiting levels2 p4 p5 (λ q j. taken q.list (subst (λ (x : Queues T). IsApart x q.list) (sym same_queues) (beside queues levels2 p1 stand made2 q j))) in
      let P : List (Waiting T) → Type 0 = λ w. MatchOption result (w ≡ []) (TakesFirst w now) in
      let Q : List (Waiting T) → Type 0 = λ w. Inserted t w (waiting levels2 p4) in
      taken_only t (waiting levels2 p4) now result (subst Q none i) (subst P still h)
