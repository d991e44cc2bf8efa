-- What the calls on the queues leave.
use Rattle.std.proofs.Common.{◌≡◌, ◌≢◌, ℕ, ◌<◌, Bool, true, false, cond, List, [], ◌∷◌, ◌++◌, map, length, get_or, set, drop, Option, Some, None, refl, sym, ◌∙◌, ap, subst, inl, inr, arith}
use Rattle.std.specs.Prelude.{MatchOption, unwrap_or, Result, Ok, Err, IfOk, OnErr}
use Rattle.std.specs.List.{find, filter}
use Rattle.std.specs.Option.{option_map}
use Rattle.std.proofs.lemmas.List.{append-nil, length-map}
use Rattle.std.proofs.Math.ListN.{get_or-map}
use Rattle.std.proofs.lemmas.Bool.{cases_eq}
use Rattle.page_types.specs.declared.Priority.{Priority}
use Rattle.page_types.specs.declared.Priority.TheVariants.{UserVisible}
use Rattle.cell_room.specs.declared.room.Cell.{Cell}
use Rattle.task_pool.specs.Lists.{Entry, Lists, list_of, without, numbered, first_entry}
use Rattle.task_pool.specs.Taken.{Leaves}
use Rattle.task_pool.specs.declared.pool.Ticket.{Ticket}
use Rattle.task_pool.proofs.Changes.{set_here, set_elsewhere, set_length}
use Rattle.post_task.specs.declared.level.Level.{Level}
use Rattle.post_task.specs.declared.level.PrioSource.{PrioSource}
use Rattle.post_task.specs.declared.level.PrioSource.TheVariants.{Fixed}
use Rattle.post_task.specs.declared.tournament.Head.{Head}
use Rattle.post_task.specs.declared.tournament.Winner.{Winner}
use Rattle.post_task.specs.Waiting.{Waiting, Among, Inserted, same_source, lacks_cell}
use Rattle.post_task.specs.Levels.{Sched, Queue, queue_in, all_queues, has_source, place_of, priority_in, HasList, in_queue, waiting_in, waiting, new_task, TakesFirst, Rises, Lone, Elsewhere, AreKept, Kept}
use Rattle.post_task.specs.Heads.{first_of, firsts}
use Rattle.post_task.specs.Tournament.{Wins, is_odd}
use Rattle.post_task.proofs.Best.{InQueues, queued_at, standing, Best, best}
use Rattle.post_task.proofs.Firsts.{has_only, firsts_set, firsts_none}
use Rattle.post_task.proofs.Places.{same_source-true, at_place}
use Rattle.post_task.proofs.Tasks.{lone_in, rises_without, rises_drop, rises_push, queue_below, kept_each, inside, rising, inserted, waiting_without}

level_is : (a b : Level) → Some a ≡ Some b → a ≡ b
level_is a b h = cc

no_level : (b : Level) → None ≡ Some b → ⊥
no_level b h = cc

-- what stands at the place of a source
record FoundLevel (levels : List Level) (source : PrioSource) (level : Level) : Type 0 where
  source_is : level.source ≡ source
  queued : (b : Bool) → InQueues (queue_in level b) (all_queues levels)

source_found : (levels : List Level) (source : PrioSource) (level : Level) → find (has_source source) levels ≡ Some level → level.source ≡ source
source_found [] source level h = absurd (no_level level h)
source_found (l ∷ ls) source level h = source_step l ls source level (same_source l.source source) refl h (λ x. source_found ls source level x)
  where
    source_step : (l : Level) (ls : List Level) (source : PrioSource) (level : Level) (t : Bool) → same_source l.source source ≡ t → cond t (Some l) (find (has_source source) ls) ≡ Some level → (find (has_source source) ls ≡ Some level → level.source ≡ source) → level.source ≡ source
    source_step l ls source level true is h more = ap (λ (x : Level). x.source) (sym (level_is l level h)) ∙ same_source-true l.source source is
    source_step l ls source level false is h more = more h

found_level : (levels : List Level) (source : PrioSource) (place : ℕ) (level : Level) → place_of levels source ≡ Some place → level ≡ get_or levels place level → FoundLevel levels source level
found_level levels source place level h is =
    let a = at_place levels source place h in
    let found : find (has_source source) levels ≡ Some level = a.found level ∙ ap (λ (l : Level). Some l) (sym is) in
    record {
      source_is = source_found levels source level found;
      queued = λ b. subst (λ (l : Level). InQueues (queue_in l b) (all_queues levels)) (sym is) (queued_at levels place level b a.within);
    }

module _ {T : Type 0} where
  set_kept : (old new : Lists T) (qs : List Queue) (l : ℕ) (es : List (Entry T)) → AreKept old qs → l < length old.lists → new.lists ≡ set old.lists l es → Rises es → AreKept new qs
  set_kept old new qs l es k h is r =
      kept_each old new qs (omega (arith, set_length old new l es is))
      (λ n rises. elim (cases_eq n l) [
        | inl same ↦ let R : List (Entry T) → Type 0 = λ xs. Rises xs in subst R (sym (ap (λ (m : ℕ). list_of new m) same ∙ set_here old new l es h is)) r
        | inr differs ↦ let R : List (Entry T) → Type 0 = λ xs. Rises xs in subst R (sym (set_elsewhere old new l es is n differs)) rises
      ])
      k

  pub kept_as : (levels : List Level) (sched : Sched) (pool : Lists T) → sched.levels ≡ levels → AreKept pool (all_queues levels) → ((f : Priority) → priority_in levels (Fixed f) ≡ Some f) → sched.heads ≡ firsts levels pool → Kept sched pool
  kept_as levels sched pool same lists fixed heads =
      record {
        lists = subst (λ (ls : List Level). AreKept pool (all_queues ls)) (sym same) lists;
        fixed = λ f. ap (λ (ls : List Level). priority_in ls (Fixed f)) same ∙ fixed f;
        heads = heads ∙ sym (ap (λ (ls : List Level). firsts ls pool) same);
      }

  -- what one list becomes changes the first task of its source alone
  firsts_here : (old new : Lists T) (levels : List Level) (place : ℕ) (level : Level) (b : Bool) (l : ℕ) → AreKept old (all_queues levels) → place < length levels → level ≡ get_or levels place level → l ≡ (queue_in level b).list
      → ((k : ℕ) → k ≢ l → list_of new k ≡ list_of old k) → set (firsts levels old) place (first_of new level) ≡ firsts levels new
  firsts_here old new levels place level b l k within is at same =
      let list : l ≡ (queue_in (get_or levels place level) b).list = at ∙ ap (λ (x : Level). (queue_in x b).list) is in
      ap (λ (x : Level). set (firsts levels old) place (first_of new x)) is
      ∙ firsts_set old new levels l place level same (λ other differs has. has_only old levels place level b k within other differs (subst (λ (n : ℕ). HasList n other levels) list has)) within

  pub level_within : (pool : Lists T) (levels : List Level) (place : ℕ) (level : Level) (b : Bool) → AreKept pool (all_queues levels) → place < length levels → level ≡ get_or levels place level → (queue_in level b).list < length pool.lists
  level_within pool levels place level b k h is =
      subst (λ (x : Level). (queue_in x b).list < length pool.lists) (sym is) (inside pool (all_queues levels) (queue_in (get_or levels place level) b) k (queued_at levels place level b h))

  -- ---- the first task is taken

  module _ (old : Lists T) (levels : List Level) (w : Winner) (level : Level) (l : ℕ) (k : AreKept old (all_queues levels)) (wins : Wins (firsts levels old) w)
      (is : level ≡ get_or levels w.place level) (at : l ≡ (queue_in level (is_odd w.head.effective)).list) where
    winner_best : Best old levels level w.head
    winner_best = subst (λ (x : Level). Best old levels x w.head) (sym is) (best old levels w level k wins)

    winner_list : (b : Best old levels level w.head) → l ≡ (queue_in level b.from.continuation).list
    winner_list b = at ∙ ap (λ (c : Bool). (queue_in level c).list) b.from.odd

    pub winner_inside : w.place < length levels
    winner_inside = (standing old levels w.place w.head wins.stands).0

    pub taken_inside : l < length old.lists
    taken_inside = let b = winner_best in subst (λ (n : ℕ). n < length old.lists) (sym (winner_list b)) (inside old (all_queues levels) (queue_in level b.from.continuation) k b.queued)

    module _ (new : Lists T) (after : new.lists ≡ set old.lists l (drop 1 (list_of old l))) where
      pub taken_kept : AreKept new (all_queues levels)
      taken_kept =
          let b = winner_best in
          let rises : Rises (list_of old l) = subst (λ (n : ℕ). Rises (list_of old n)) (sym (winner_list b)) (rising old (all_queues levels) (queue_in level b.from.continuation) k b.queued) in
          set_kept old new (all_queues levels) l (drop 1 (list_of old l)) k taken_inside after (rises_drop (list_of old l) rises)

      pub taken_firsts : set (firsts levels old) w.place (first_of new level) ≡ firsts levels new
      taken_firsts = firsts_here old new levels w.place level (is_odd w.head.effective) l k winner_inside is at (set_elsewhere old new l (drop 1 (list_of old l)) after)

      pub taken_others : (n : ℕ) → Lone n (all_queues levels) → list_of new n ≡ list_of old n
      taken_others n lone =
          let b = winner_best in
          set_elsewhere old new l (drop 1 (list_of old l)) after n (λ same. lone_in n (all_queues levels) (queue_in level b.from.continuation) lone b.queued (sym (same ∙ winner_list b)))

      pub taken : (result : Option (ℕ × T)) → result ≡ option_map numbered (first_entry (list_of old l)) → MatchOption result (waiting levels old ≡ []) (TakesFirst (waiting levels old) (waiting levels new))
      taken result given =
          let b = winner_best in
          let f = b.from in
          let q = queue_in level f.continuation in
          let qs = all_queues levels in
          let list = winner_list b in
          let there : list_of old l ≡ f.entry ∷ f.rest = ap (λ (n : ℕ). list_of old n) list ∙ f.is in
          let some : result ≡ Some (numbered f.entry) = given ∙ ap (λ (es : List (Entry T)). option_map numbered (first_entry es)) there in
          let after_q : new.lists ≡ set old.lists q.list f.rest =
          after ∙ ap (λ (n : ℕ). set old.lists n (drop 1 (list_of old l))) list ∙ ap (λ (es : List (Entry T)). set old.lists q.list (drop 1 es)) there in
          let within = inside old qs q k b.queued in
          let P : Option (ℕ × T) → Type 0 = λ r. MatchOption r (waiting_in old qs ≡ []) (TakesFirst (waiting_in old qs) (waiting_in new qs)) in
          subst P (sym some)
          (record {
            task = in_queue q f.entry;
            first = b.first;
            rest = inserted old new old qs q [] f.rest f.entry k b.queued (λ n differs. sym (set_elsewhere old new q.list f.rest after_q n differs)) (set_here old new q.list f.rest within after_q) f.is;
            is = refl;
          })

  -- ---- a task is enqueued

  module _ (old : Lists T) (sched : Sched) (source : PrioSource) (place : ℕ) (level : Level) (continuation : Bool) (l : ℕ) (k : Kept sched old) (placed : place_of sched.levels source ≡ Some place)
      (is : level ≡ get_or sched.levels place level) (at : l ≡ (queue_in level continuation).list) where
    enqueued_list : InQueues (queue_in level continuation) (all_queues sched.levels)
    enqueued_list = (found_level sched.levels source place level placed is).queued continuation

    pub level_inside : l < length old.lists
    level_inside = subst (λ (n : ℕ). n < length old.lists) (sym at) (inside old (all_queues sched.levels) (queue_in level continuation) k.lists enqueued_list)

    module _ (new : Lists T) (order : ℕ) (item : T) (later : (task : Waiting T) → Among task (waiting sched.levels old) → task.order < order) where
      enqueued : (e : Entry T) → e.number ≡ order → new.lists ≡ set old.lists l (list_of old l ++ e ∷ [])
          → AreKept new (all_queues sched.levels) × Inserted (new_task sched.levels e.cell source continuation e.number e.item) (waiting sched.levels old) (waiting sched.levels new)
      enqueued e number put =
          let levels = sched.levels in
          let q = queue_in level continuation in
          let qs = all_queues levels in
          let f = found_level levels source place level placed is in
          let queued = f.queued continuation in
          let within = inside old qs q k.lists queued in
          let es = list_of old q.list in
          let after : new.lists ≡ set old.lists q.list (es ++ e ∷ []) = put ∙ ap (λ (n : ℕ). set old.lists n (list_of old n ++ e ∷ [])) at in
          let below = λ (task : Waiting T) (a : Among task (waiting levels old)). subst (λ (n : ℕ). task.order < n) (sym number) (later task a) in
          let rises : Rises (es ++ e ∷ []) = rises_push es e (rising old qs q k.lists queued) (queue_below old qs q e.number queued below) in
          let found : find (has_source source) levels ≡ Some level = (at_place levels source place placed).found level ∙ ap (λ (x : Level). Some x) (sym is) in
          let task_is : in_queue q e ≡ new_task levels e.cell source continuation e.number e.item =
          ap (λ (s : PrioSource). record { cell = e.cell; source = s; priority = level.priority; continuation = continuation; order = e.number; item = e.item }) f.source_is
          ∙ ap (λ (o : Option Level). record { cell = e.cell; source = source; priority = unwrap_or (option_map (λ (x : Level). x.priority) o) UserVisible; continuation = continuation; order = e.number; item = e.item }) (sym found) in
          let one : Inserted (in_queue q e) (waiting levels old) (waiting levels new) =
          inserted old old new qs q es [] e k.lists queued (set_elsewhere old new q.list (es ++ e ∷ []) after) (sym (append-nil es)) (set_here old new q.list (es ++ e ∷ []) within after) in (
            set_kept old new qs q.list (es ++ e ∷ []) k.lists within after rises,
            subst (λ (x : Waiting T). Inserted x (waiting levels old) (waiting levels new)) task_is one,
          )

      module _ (result : Result Ticket T) (put : IfOk result (λ ticket. new.lists ≡ set old.lists l (list_of old l ++ record { cell = ticket.0; number = order; item = item } ∷ []))) where
        pub enqueued_waits : IfOk result (λ ticket. Inserted (new_task sched.levels ticket.0 source continuation order item) (waiting sched.levels old) (waiting sched.levels new))
        enqueued_waits = by result put
          where
            by : (r : Result Ticket T) → IfOk r (λ ticket. new.lists ≡ set old.lists l (list_of old l ++ record { cell = ticket.0; number = order; item = item } ∷ []))
                → IfOk r (λ ticket. Inserted (new_task sched.levels ticket.0 source continuation order item) (waiting sched.levels old) (waiting sched.levels new))
            by (Ok ticket) put = (enqueued (record { cell = ticket.0; number = order; item = item }) refl put).1
            by (Err x) put = tt

        module _ (err : OnErr result (new ≡ old)) where
          enqueued_apart : (n : ℕ) → n ≢ l → list_of new n ≡ list_of old n
          enqueued_apart = by result put err
            where
              by : (r : Result Ticket T) → IfOk r (λ ticket. new.lists ≡ set old.lists l (list_of old l ++ record { cell = ticket.0; number = order; item = item } ∷ [])) → OnErr r (new ≡ old) → (n : ℕ) → n ≢ l → list_of new n ≡ list_of old n
              by (Ok ticket) put err n differs = set_elsewhere old new l (list_of old l ++ record { cell = ticket.0; number = order; item = item } ∷ []) put n differs
              by (Err x) put err n differs = ap (λ (p : Lists T). list_of p n) err

          pub enqueued_lists : AreKept new (all_queues sched.levels)
          enqueued_lists = by result put err
            where
              by : (r : Result Ticket T) → IfOk r (λ ticket. new.lists ≡ set old.lists l (list_of old l ++ record { cell = ticket.0; number = order; item = item } ∷ [])) → OnErr r (new ≡ old) → AreKept new (all_queues sched.levels)
              by (Ok ticket) put err = (enqueued (record { cell = ticket.0; number = order; item = item }) refl put).0
              by (Err x) put err = subst (λ (p : Lists T). AreKept p (all_queues sched.levels)) (sym err) k.lists

          pub enqueued_others : (n : ℕ) → Lone n (all_queues sched.levels) → list_of new n ≡ list_of old n
          enqueued_others n lone = enqueued_apart n (λ same. lone_in n (all_queues sched.levels) (queue_in level continuation) lone enqueued_list (sym (same ∙ at)))

          pub enqueued_kept : (after : Sched) → after.levels ≡ sched.levels → after.heads ≡ set sched.heads place (first_of new level) → Kept after new
          enqueued_kept after levels heads =
              let within = (at_place sched.levels source place placed).within in
              let same : after.heads ≡ firsts sched.levels new =
              heads
              ∙ ap (λ (hs : List (Option Head)). set hs place (first_of new level)) k.heads
              ∙ firsts_here old new sched.levels place level continuation l k.lists within is at enqueued_apart in
              kept_as sched.levels after new levels enqueued_lists k.fixed same

  -- ---- a task is taken out by its ticket

  without_list : (c : Cell) (old new : Lists T) → new.lists ≡ map (without c) old.lists → (l : ℕ) → list_of new l ≡ without c (list_of old l)
  without_list c old new is l = ap (λ (ls : List (List (Entry T))). get_or ls l []) is ∙ get_or-map (without {T = T} c) old.lists l []

  pub gone_lists : (c : Cell) (old new : Lists T) (levels : List Level) → new.lists ≡ map (without c) old.lists → AreKept old (all_queues levels) → AreKept new (all_queues levels)
  gone_lists c old new levels is k =
      let sizes : length new.lists ≡ length old.lists = ap length is ∙ length-map old.lists (without c) in
      kept_each old new (all_queues levels) (omega (arith, sizes)) (λ l r. let R : List (Entry T) → Type 0 = λ xs. Rises xs in subst R (sym (without_list c old new is l)) (rises_without c (list_of old l) r)) k

  pub gone_elsewhere : (c : Cell) (l : ℕ) (old new : Lists T) → Leaves c l old new → Elsewhere l old new
  gone_elsewhere c l old new leaves = set_elsewhere old new l (without c (list_of old l)) leaves.lists

  -- ---- the first task of a source is read again

  -- that of the source of a list
  pub again_set : (before pool : Lists T) (levels : List Level) (list place : ℕ) (level : Level) (old new : List (Option Head)) (first : Option Head) → old ≡ firsts levels before → Elsewhere list before pool → place < length levels
      → level ≡ get_or levels place level → ((other : ℕ) → other ≢ place → HasList list other levels → ⊥) → new ≡ set old place first → first ≡ first_of pool level → new ≡ firsts levels pool
  again_set before pool levels list place level old new first heads same within is others put read =
      put
      ∙ ap (λ (hs : List (Option Head)). set hs place first) heads
      ∙ ap (set (firsts levels before) place) read
      ∙ ap (λ (x : Level). set (firsts levels before) place (first_of pool x)) is
      ∙ firsts_set before pool levels list place level same others within

  -- where no source has that list
  pub again_none : (before pool : Lists T) (levels : List Level) (list : ℕ) (heads : List (Option Head)) → heads ≡ firsts levels before → Elsewhere list before pool → ((other : ℕ) → HasList list other levels → ⊥) → heads ≡ firsts levels pool
  again_none before pool levels list heads is same none = is ∙ sym (firsts_none before pool levels list same none)

  pub gone_waiting : (c : Cell) (old new : Lists T) (levels : List Level) → new.lists ≡ map (without c) old.lists → waiting levels new ≡ filter (lacks_cell c) (waiting levels old)
  gone_waiting c old new levels is = waiting_without c old new (all_queues levels) (without_list c old new is)
