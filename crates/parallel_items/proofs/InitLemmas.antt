-- A timer is initialised: what the part keeps then, and what it is seen as.
use Rattle.std.proofs.Common.{◌≡◌, ℕ, suc, ◌+◌, Bool, true, false, ◌||◌, List, [], ◌∷◌, ◌++◌, find, Some, None, ℤ, nat_eq, add-one, refl, sym, ◌∙◌, ap}
use Rattle.std.specs.List.{list_any}
use Rattle.std.specs.List.Sorted.{IsPermutation}
use Rattle.std.specs.Map.{remove_entry}
use Rattle.page_parts.specs.Timers.{Timers, Armed, with_armed, with_id, has_id}
use Rattle.page_parts.specs.Words.{is_there}
use Rattle.page_model.specs.State.{Completing}
use Rattle.page_model.specs.PageSignals.{is_delay_of}
use Rattle.timer_map.specs.Rows.{with_due}
use Rattle.parallel_items.specs.declared.completion.Completion.{Completion}
use Rattle.parallel_items.specs.declared.completion.Completion.TheVariants as completion
use Rattle.parallel_items.specs.InParallel.{TimerOwner}
use Rattle.parallel_items.specs.Kept.{AreKept, AreKeptInRows}
use Rattle.parallel_items.specs.Seen.{completion_seen, steps_of, completings_of, owners_of}
use Rattle.parallel_items.specs.Steps.{timer_steps}
use Rattle.parallel_items.proofs.KeptLemmas.{kept_owners, kept_first, kept_again, completings_put, owners_reordered, owners_put}
use Rattle.parallel_items.proofs.StartedLemmas.{Row, steps_added, started_added}

or_false : (b : Bool) → b ≡ (b || false)
or_false true = refl
or_false false = refl

-- the completion steps of a timer in the code
abbrev pub queue_timer : Armed → ℕ → Bool → ℤ → Completion
queue_timer b r repeats timeout =
    completion.QueueTimer (record {
      registration = r;
      id = b.id;
      handle = b.handle;
      level = b.level;
      repeats = repeats;
      timeout = timeout;
    })

module _ (t : Timers) (rows : List Row) (set : List ℕ) (held more : List (ℕ × ℕ)) (kept : AreKeptInRows t rows set held)
    (q : IsPermutation held more) (b : Armed) (r : ℕ) (repeats : Bool) (timeout : ℤ) (start : b.start ≡ suc t.starts_made) where
  -- with its completion steps
  abbrev pub grown : List Row
  grown = with_due b.due (b.start, queue_timer b r repeats timeout) rows

  room : AreKept t (steps_of rows) set more
  room = kept_owners t (steps_of rows) set held kept.parts more q

  made : b.start ≡ t.starts_made + 1
  made = start ∙ sym (add-one t.starts_made)

  put : IsPermutation ((b.start, queue_timer b r repeats timeout) ∷ remove_entry (nat_eq b.start) (steps_of rows)) (steps_of grown)
  put = steps_added b.due t.starts_made b.start (queue_timer b r repeats timeout) rows made kept.parts.numbered

  no_delay : (n : ℕ) → list_any (nat_eq n) set ≡ (list_any (nat_eq n) set || is_delay_of n (completion_seen (queue_timer b r repeats timeout)))
  no_delay n = or_false (list_any (nat_eq n) set)

  never_two : (n : ℕ) → is_delay_of n (completion_seen (queue_timer b r repeats timeout)) ≡ true
      → is_there (find (λ (d : Completing). is_delay_of n d.completion) (completings_of t.starts_made (steps_of rows))) ≡ false
  never_two n e = let never : ⊥ = cc in absurd never

  -- the completion steps go last
  pub steps_started : completings_of b.start (steps_of grown) ≡ completings_of t.starts_made (steps_of rows) ++ timer_steps b r repeats timeout ∷ []
  steps_started = completings_put t.starts_made b.start (queue_timer b r repeats timeout) (steps_of rows) (steps_of grown) made room.numbered put

  -- under the next id
  module _ (id : b.id ≡ suc t.ids_made) (held' : List (ℕ × ℕ)) (owned : IsPermutation ((b.id, r) ∷ remove_entry (nat_eq b.id) more) held') where
    ids_made : b.id ≡ t.ids_made + 1
    ids_made = id ∙ sym (add-one t.ids_made)

    pub first_kept : AreKeptInRows (with_armed None b t) grown set held'
    first_kept =
        record {
          in_rows = started_added t (with_armed None b t) b.due (queue_timer b r repeats timeout) rows kept.in_rows made refl;
          parts = kept_first t (steps_of rows) set more room (with_armed None b t) (queue_timer b r repeats timeout) b.due (steps_of grown) set made refl put no_delay never_two
              b.handle r held' refl ids_made owned;
        }

    pub first_owners : owners_of b.id held' ≡ owners_of t.ids_made held ++ record { id = b.id; registration = r } ∷ []
    first_owners =
        owners_put t.ids_made b.id r more held' ids_made room.owners_numbered owned
        ∙ ap (λ (os : List TimerOwner). os ++ record { id = b.id; registration = r } ∷ []) (owners_reordered t.ids_made held more kept.parts.owners_numbered q)

  -- again under its id
  module _ (n : ℕ) (id : b.id ≡ n) (there : has_id n t ≡ true) where
    pub again_kept : AreKeptInRows (with_armed (Some n) b t) grown set more
    again_kept =
        record {
          in_rows = started_added t (with_armed (Some n) b t) b.due (queue_timer b r repeats timeout) rows kept.in_rows made refl;
          parts = kept_again t (steps_of rows) set more room (with_armed (Some n) b t) (queue_timer b r repeats timeout) b.due (steps_of grown) set made refl put no_delay never_two
              n b.handle (ap (λ m. with_id m b.handle t.ids) id) there refl;
        }

  pub same_owners : owners_of t.ids_made more ≡ owners_of t.ids_made held
  same_owners = owners_reordered t.ids_made held more kept.parts.owners_numbered q
