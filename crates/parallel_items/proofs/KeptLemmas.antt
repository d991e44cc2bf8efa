-- What the part keeps of its timers, from call to call.
use Rattle.std.proofs.Common.{◌≡◌, ℕ, ◌+◌, true, false, cond, not, ◌&&◌, ◌||◌, List, [], ◌∷◌, ◌++◌, map, find, Option, Some, None, nat_eq, eqb, refl, sym, subst, ◌∙◌, ap}
use Rattle.std.proofs.lemmas.List.{map-append}
use Rattle.std.specs.List.{list_any}
use Rattle.std.specs.List.Sorted.{IsPermutation}
use Rattle.std.specs.Map.{lookup, remove_entry}
use Rattle.std.specs.Option.{option_map}
use Rattle.page_parts.specs.Timers.{Timers, TimerId, ActiveTimer, has_id, with_id, clear, completed, first_timer, next_due}
use Rattle.page_parts.specs.Words.{is_there, without}
use Rattle.page_model.specs.State.{Completing}
use Rattle.page_model.specs.PageSignals.{is_delay_of}
use Rattle.page_model.specs.PageTime.{completion_of}
use Rattle.page_model.specs.Parallel.{Item, first_item_of}
use Rattle.timer_map.specs.InOrder.{in_order}
use Rattle.timer_map.specs.Kept.{AreNumbered}
use Rattle.timer_map.proofs.OrderLemmas.{order_permuted, numbered_permuted}
use Rattle.parallel_items.specs.declared.completion.Completion.{Completion}
use Rattle.parallel_items.specs.InParallel.{Waiting, TimerOwner}
use Rattle.parallel_items.specs.Items.{timer_item, timer_items, TakenCompletion, due_of, taken_of, left_of}
use Rattle.parallel_items.specs.Kept.{HaveSteps, AreDelays, HaveOwners, AreKept}
use Rattle.parallel_items.specs.Seen.{completion_seen, completing_seen, completings_of, owner_seen, owners_of}
use Rattle.parallel_items.proofs.ClassLemmas.{map_without}
use Rattle.parallel_items.proofs.MapLemmas.{key, put_numbered, put_order, removed_numbered, removed_order}
use Rattle.parallel_items.proofs.TimerLemmas.{completion_found, starts_rise, steps_pushed, steps_left, delays_pushed, delays_left, owners_pushed, owners_again, owners_left, timer_is_first, Completes}
use Rattle.parallel_items.proofs.IdleLemmas.{Rise}

-- ---- the entries of the maps, seen

pub owners_reordered : (last : ℕ) (old new : List (ℕ × ℕ)) → AreNumbered key last old → IsPermutation old new → owners_of last new ≡ owners_of last old
owners_reordered last old new kept p = ap (map owner_seen) (order_permuted key last old new p kept.distinct)

pub completings_put : (last next : ℕ) (v : Completion) (old new : List (ℕ × Completion)) → next ≡ last + 1 → AreNumbered key last old
    → IsPermutation ((next, v) ∷ remove_entry (nat_eq next) old) new → completings_of next new ≡ completings_of last old ++ record { start = next; completion = completion_seen v } ∷ []
completings_put last next v old new is kept p =
    ap (map completing_seen) (put_order last next v old new is kept p) ∙ map-append completing_seen (in_order key last old) ((next, v) ∷ [])

pub owners_put : (last next r : ℕ) (old new : List (ℕ × ℕ)) → next ≡ last + 1 → AreNumbered key last old
    → IsPermutation ((next, r) ∷ remove_entry (nat_eq next) old) new → owners_of next new ≡ owners_of last old ++ record { id = next; registration = r } ∷ []
owners_put last next r old new is kept p =
    ap (map owner_seen) (put_order last next r old new is kept p) ∙ map-append owner_seen (in_order key last old) ((next, r) ∷ [])

pub completings_removed : (k last : ℕ) (old new : List (ℕ × Completion)) → AreNumbered key last old → IsPermutation (remove_entry (nat_eq k) old) new
    → completings_of last new ≡ without (λ (c : Completing). eqb c.start k) (completings_of last old)
completings_removed k last old new kept p =
    ap (map completing_seen) (removed_order k last old new kept p) ∙ map_without completing_seen (λ (c : Completing). eqb c.start k) (in_order key last old)

pub owners_removed : (k last : ℕ) (old new : List (ℕ × ℕ)) → AreNumbered key last old → IsPermutation (remove_entry (nat_eq k) old) new
    → owners_of last new ≡ without (λ (o : TimerOwner). eqb o.id k) (owners_of last old)
owners_removed k last old new kept p =
    ap (map owner_seen) (removed_order k last old new kept p) ∙ map_without owner_seen (λ (o : TimerOwner). eqb o.id k) (in_order key last old)

-- ---- tables grow

module _ (t : Timers) (comps : List (ℕ × Completion)) (set : List ℕ) (held : List (ℕ × ℕ)) (kept : AreKept t comps set held) where
  pub kept_owners : (new : List (ℕ × ℕ)) → IsPermutation held new → AreKept t comps set new
  kept_owners new p =
      let same = owners_reordered t.ids_made held new kept.owners_numbered p in
      record {
        numbered = kept.numbered;
        steps = kept.steps;
        delays = kept.delays;
        owners_numbered = numbered_permuted key t.ids_made held new p kept.owners_numbered;
        owners = subst (HaveOwners t) (sym same) kept.owners;
      }

  pub kept_delays : (new : List ℕ) → ((r : ℕ) → list_any (nat_eq r) new ≡ list_any (nat_eq r) set) → AreKept t comps new held
  kept_delays new same =
      record {
        numbered = kept.numbered;
        steps = kept.steps;
        delays = λ r. kept.delays r ∙ ap (λ b. cond b 1 0) (sym (same r));
        owners_numbered = kept.owners_numbered;
        owners = kept.owners;
      }

  -- ---- an id leaves

  pub kept_cleared : (id : ℕ) (new : List (ℕ × ℕ)) → IsPermutation (remove_entry (nat_eq id) held) new → AreKept (clear id t) comps set new
  kept_cleared id new p =
      record {
        numbered = kept.numbered;
        steps = kept.steps;
        delays = kept.delays;
        owners_numbered = removed_numbered id t.ids_made held new kept.owners_numbered p;
        owners = subst (HaveOwners (clear id t)) (sym (owners_removed id t.ids_made held new kept.owners_numbered p))
            (owners_left t (clear id t) id (owners_of t.ids_made held) refl kept.owners);
      }

  -- ---- an active timer completes

  module _ (start : ℕ) (v : Completion) (comps' : List (ℕ × Completion)) (set' : List ℕ) (there : lookup (nat_eq start) comps ≡ Some v)
      (p : IsPermutation (remove_entry (nat_eq start) comps) comps')
      (is : (r : ℕ) → list_any (nat_eq r) set' ≡ (list_any (nat_eq r) set && not (is_delay_of r (completion_seen v)))) where
    cs : List Completing
    cs = completings_of t.starts_made comps

    removed : completings_of t.starts_made comps' ≡ without (λ (c : Completing). eqb c.start start) (completings_of t.starts_made comps)
    removed = completings_removed start t.starts_made comps comps' kept.numbered p

    delays_after : AreDelays set' (completings_of t.starts_made comps')
    delays_after =
        subst (AreDelays set') (sym removed)
        (by (find (λ (c : Completing). eqb c.start start) (completings_of t.starts_made comps)) refl
        (completion_found start t.starts_made comps kept.numbered ∙ ap (option_map completion_seen) there))
      where
        by : (o : Option Completing) → find (λ (c : Completing). eqb c.start start) (completings_of t.starts_made comps) ≡ o
            → option_map (λ (c : Completing). c.completion) o ≡ Some (completion_seen v)
            → AreDelays set' (without (λ (c : Completing). eqb c.start start) (completings_of t.starts_made comps))
        by None e f = let never : ⊥ = cc in absurd never
        by (Some x) e f =
            let same : x.completion ≡ completion_seen v = cc in
            delays_left set set' start t.starts_made x (completings_of t.starts_made comps) (starts_rise t.starts_made comps) e kept.delays
            (λ r. is r ∙ sym (ap (λ k. list_any (nat_eq r) set && not (is_delay_of r k)) same))

    pub kept_completed : AreKept (completed start t) comps' set' held
    kept_completed =
        record {
          numbered = removed_numbered start t.starts_made comps comps' kept.numbered p;
          steps = subst (HaveSteps (without (λ (a : ActiveTimer). eqb a.start start) t.active)) (sym removed) (steps_left start t.active (completings_of t.starts_made comps) kept.steps);
          delays = delays_after;
          owners_numbered = kept.owners_numbered;
          owners = kept.owners;
        }

  -- ---- an active timer is set

  module _ (s : Timers) (v : Completion) (due : ℕ) (comps' : List (ℕ × Completion)) (set' : List ℕ)
      (made : s.starts_made ≡ t.starts_made + 1) (active : s.active ≡ t.active ++ record { start = s.starts_made; due = due } ∷ [])
      (p : IsPermutation ((s.starts_made, v) ∷ remove_entry (nat_eq s.starts_made) comps) comps')
      (is : (r : ℕ) → list_any (nat_eq r) set' ≡ (list_any (nat_eq r) set || is_delay_of r (completion_seen v)))
      (once : (r : ℕ) → is_delay_of r (completion_seen v) ≡ true
      → is_there (find (λ (d : Completing). is_delay_of r d.completion) (completings_of t.starts_made comps)) ≡ false) where
    put : completings_of s.starts_made comps' ≡ completings_of t.starts_made comps ++ record { start = s.starts_made; completion = completion_seen v } ∷ []
    put = completings_put t.starts_made s.starts_made v comps comps' made kept.numbered p

    numbered_after : AreNumbered key s.starts_made comps'
    numbered_after = put_numbered t.starts_made s.starts_made v comps comps' made kept.numbered p

    steps_after : HaveSteps s.active (completings_of s.starts_made comps')
    steps_after =
        subst (HaveSteps s.active) (sym put)
        (subst (λ (ts : List ActiveTimer). HaveSteps ts (completings_of t.starts_made comps ++ record { start = s.starts_made; completion = completion_seen v } ∷ [])) (sym active)
        (steps_pushed t.active (completings_of t.starts_made comps) (record { start = s.starts_made; due = due }) (record { start = s.starts_made; completion = completion_seen v }) refl kept.steps))

    delays_pushed_after : AreDelays set' (completings_of s.starts_made comps')
    delays_pushed_after =
        subst (AreDelays set') (sym put)
        (delays_pushed set set' (completings_of t.starts_made comps) (record { start = s.starts_made; completion = completion_seen v }) kept.delays is once)

    pub kept_delayed : s.ids ≡ t.ids → s.ids_made ≡ t.ids_made → AreKept s comps' set' held
    kept_delayed ids ids_made =
        record {
          numbered = numbered_after;
          steps = steps_after;
          delays = delays_pushed_after;
          owners_numbered = subst (λ n. AreNumbered key n held) (sym ids_made) kept.owners_numbered;
          owners = subst (λ n. HaveOwners s (owners_of n held)) (sym ids_made)
              (λ id. ap (λ (es : List TimerId). is_there (find (λ (e : TimerId). eqb e.id id) es)) ids ∙ kept.owners id);
        }

    pub kept_again : (n handle : ℕ) → s.ids ≡ with_id n handle t.ids → has_id n t ≡ true → s.ids_made ≡ t.ids_made → AreKept s comps' set' held
    kept_again n handle ids there ids_made =
        record {
          numbered = numbered_after;
          steps = steps_after;
          delays = delays_pushed_after;
          owners_numbered = subst (λ n. AreNumbered key n held) (sym ids_made) kept.owners_numbered;
          owners = subst (λ n. HaveOwners s (owners_of n held)) (sym ids_made) (owners_again t s n handle (owners_of t.ids_made held) ids there kept.owners);
        }

    pub kept_first : (handle r : ℕ) (held' : List (ℕ × ℕ)) → s.ids ≡ with_id s.ids_made handle t.ids → s.ids_made ≡ t.ids_made + 1
        → IsPermutation ((s.ids_made, r) ∷ remove_entry (nat_eq s.ids_made) held) held' → AreKept s comps' set' held'
    kept_first handle r held' ids ids_made q =
        record {
          numbered = numbered_after;
          steps = steps_after;
          delays = delays_pushed_after;
          owners_numbered = put_numbered t.ids_made s.ids_made r held held' ids_made kept.owners_numbered q;
          owners = subst (HaveOwners s) (sym (owners_put t.ids_made s.ids_made r held held' ids_made kept.owners_numbered q))
              (owners_pushed t s s.ids_made handle r (owners_of t.ids_made held) ids kept.owners);
        }

-- ---- the first active timer, with its completion steps

module _ (t : Timers) (comps : List (ℕ × Completion)) (set : List ℕ) (held : List (ℕ × ℕ)) (due start : ℕ) (kept : AreKept t comps set held) (done : Completes t due start) where
  starts : Rise 0 (map (λ (a : ActiveTimer). a.start) t.active) t.starts_made
  starts = subst (λ ns. Rise 0 ns t.starts_made) (sym kept.steps) (starts_rise t.starts_made comps)

  -- it is the first item
  pub first_timer_item : first_item_of (timer_items t.active) ≡ Some (timer_item done.timer)
  first_timer_item = timer_is_first t.starts_made t.active starts ∙ ap (option_map timer_item) done.first

  found : completion_of (completings_of t.starts_made comps) done.timer.start ≡ option_map completion_seen (lookup (nat_eq start) comps)
  found = ap (completion_of (completings_of t.starts_made comps)) done.is_start ∙ completion_found start t.starts_made comps kept.numbered

  -- its completion steps are what is taken
  pub timer_taken : (v : Completion) → lookup (nat_eq start) comps ≡ Some v
      → Some (TakenCompletion (completion_seen v)) ≡ taken_of (first_item_of (timer_items t.active)) (completings_of t.starts_made comps)
  timer_taken v there =
      sym (ap (option_map TakenCompletion) (found ∙ ap (option_map completion_seen) there))
      ∙ sym (ap (λ (o : Option Item). taken_of o (completings_of t.starts_made comps)) first_timer_item)

  -- what is left
  pub timer_left : (w : Waiting) → w.timers ≡ t → w.completions ≡ completings_of t.starts_made comps → (new : List (ℕ × Completion))
      → IsPermutation (remove_entry (nat_eq start) comps) new
      → record w { timers = completed start t; completions = completings_of t.starts_made new } ≡ left_of (first_item_of (timer_items t.active)) w
  timer_left w is cs_are new p =
      ap (λ (cs : List Completing). record w { timers = completed start t; completions = cs }) (completings_removed start t.starts_made comps new kept.numbered p)
      ∙ ap (λ (cs : List Completing). record w { timers = completed start t; completions = without (λ (c : Completing). eqb c.start start) cs }) (sym cs_are)
      ∙ ap (λ (u : Timers). record w { timers = completed start u; completions = without (λ (c : Completing). eqb c.start start) w.completions }) (sym is)
      ∙ ap (λ n. record w { timers = completed n w.timers; completions = without (λ (c : Completing). eqb c.start n) w.completions }) (sym done.is_start)
      ∙ sym (ap (λ (o : Option Item). left_of o w) first_timer_item)

-- the first active timer is the first item, whenever it is due
pub timer_due : (t : Timers) (comps : List (ℕ × Completion)) (set : List ℕ) (held : List (ℕ × ℕ)) → AreKept t comps set held
    → next_due t ≡ due_of (first_item_of (timer_items t.active))
timer_due t comps set held kept =
    sym (by (first_timer t))
    ∙ sym (ap due_of (timer_is_first t.starts_made t.active (subst (λ ns. Rise 0 ns t.starts_made) (sym kept.steps) (starts_rise t.starts_made comps))))
  where
    by : (o : Option ActiveTimer) → due_of (option_map timer_item o) ≡ option_map (λ (a : ActiveTimer). a.due) o
    by None = refl
    by (Some a) = refl
