-- A signal's priority changes, or room is made for its tasks.
use Rattle.std.proofs.Common.{◌≡◌, ◌≢◌, ℕ, Bool, true, false, cond, List, [], ◌∷◌, map, Option, None, Some, eqb, refl, sym, ◌∙◌, ap, subst, inl, inr, arith}
use Rattle.std.specs.Prelude.{option_map, IsSome}
use Rattle.std.specs.List.{AllByRecursion, find}
use Rattle.std.proofs.lemmas.Bool.{eqb-true}
use Rattle.page_types.specs.declared.Priority.{Priority}
use Rattle.page_model.specs.State as Model
use Rattle.task_pool.specs.Lists.{Lists, list_of}
use Rattle.task_pool.specs.declared.pool.Ticket.{Ticket}
use Rattle.task_queues.specs.declared.queues.Queues.{Queues}
use Rattle.task_queues.specs.BySource.{tasks_of}
use Rattle.task_queues.specs.OneList.{SourcedTask, BySource, merged}
use Rattle.post_task.specs.declared.level.Level.{Level}
use Rattle.post_task.specs.declared.level.PrioSource.TheVariants.{Signal}
use Rattle.post_task.specs.Waiting.{Among, moved, same_source}
use Rattle.post_task.specs.Levels.{Sched as SchedLevels, waiting, has_source, priority_in, moved_level, SameBut}
use Rattle.post_task.specs.InOrder.{in_order, AreLater, OrdersRise}
use Rattle.post_task.proofs.InOrder.{moved_in_place}
use Rattle.post_task.proofs.Moves.{room_moved, other_moved}
use Rattle.post_task.proofs.Places.{none_moved, same_source-true}
use Rattle.page_tasks.specs.declared.asked.Asked.{Asked}
use Rattle.page_tasks.specs.declared.page_task.PageTask.{PageTask}
use Rattle.page_tasks.specs.Seen.{registration_in}
use Rattle.page_tasks.specs.Queued.{Queued, priority_for, IsMoved, HasRoomFor}
use Rattle.page_tasks.specs.Standing.{seen_in, tasks_in, sched_task_in, sched_tasks_in, priorities_in, IsKnown, AreApart, AreScheduled, AreOnce, AreTasks, IsStanding}
use Rattle.page_tasks.proofs.Beside.{same_tasks}
use Rattle.page_tasks.proofs.Priorities.{priority_is}
use Rattle.page_tasks.proofs.Scheduled.{Waits, turned}

module _ (s : ℕ) (p : Priority) where
  -- what stays of a task
  abbrev Stays : Waits → Waits → Type 0
  Stays w v = (v.cell ≡ w.cell) × (v.item ≡ w.item) × (v.source ≡ w.source) × (v.continuation ≡ w.continuation) × (v.order ≡ w.order)

  stays : (w : Waits) → Stays w (moved s p w)
  stays w = elim (same_source w.source (Signal s)) as (λ b. Stays w (cond b (record w { priority = p }) w)) [ true ↦ (refl, refl, refl, refl, refl) | false ↦ (refl, refl, refl, refl, refl) ]

  among_moved : (v : Waits) (ws : List Waits) → Among v (map (moved s p) ws) → (w : Waits) × Among w ws × (moved s p w ≡ v)
  among_moved v [] i = absurd i
  among_moved v (x ∷ xs) i = elim i [
    | inl e ↦ (x, inl refl, e)
    | inr j ↦ let r = among_moved v xs j in (r.0, inr r.1, r.2)
  ]

  moved_among : (w : Waits) (ws : List Waits) → Among w ws → Among (moved s p w) (map (moved s p) ws)
  moved_among w [] i = absurd i
  moved_among w (x ∷ xs) i = elim i [ inl e ↦ inl (ap (moved s p) e) | inr j ↦ inr (moved_among w xs j) ]

  moved_later : (n : ℕ) (ws : List Waits) → AreLater n ws → AreLater n (map (moved s p) ws)
  moved_later n [] l = tt
  moved_later n (x ∷ xs) l = (let o = (stays x).4 in omega (arith, o, l.0), moved_later n xs l.1)

  moved_rise : (ws : List Waits) → OrdersRise ws → OrdersRise (map (moved s p) ws)
  moved_rise [] r = tt
  moved_rise (x ∷ xs) r = (subst (λ (n : ℕ). AreLater n (map (moved s p) xs)) (sym (stays x).4) (moved_later x.order xs r.0), moved_rise xs r.1)

  seen_same : (w : Waits) → sched_task_in (moved s p w) ≡ sched_task_in w
  seen_same w = elim (same_source w.source (Signal s)) as (λ b. sched_task_in (cond b (record w { priority = p }) w) ≡ sched_task_in w) [ true ↦ refl | false ↦ refl ]

  seen_all : (ws : List Waits) → map sched_task_in (map (moved s p) ws) ≡ map sched_task_in ws
  seen_all [] = refl
  seen_all (x ∷ xs) = ap (λ (t : Model.SchedTask). t ∷ map sched_task_in (map (moved s p) xs)) (seen_same x) ∙ ap (λ (ts : List Model.SchedTask). sched_task_in x ∷ ts) (seen_all xs)

  pub moved_seen : (ws : List Waits) → sched_tasks_in (map (moved s p) ws) ≡ sched_tasks_in ws
  moved_seen ws = ap (map sched_task_in) (moved_in_place s p ws) ∙ seen_all (in_order ws)

  -- the priorities of the sources afterwards
  pub record Prioritised (old new : List Level) : Type 0 where
    pub own : (x : Priority) → priority_in old (Signal s) ≡ Some x → priority_in new (Signal s) ≡ Some p
    pub others : SameBut (Signal s) old new

  module _ (old new : List Level) (ws : List Waits) (tickets : ℕ → Option Ticket) (inserts made : ℕ) (a : AreScheduled old ws tickets inserts made) (now : Prioritised old new) where
    new_priority : (w : Waits) → priority_in old w.source ≡ Some w.priority → (b : Bool) → same_source w.source (Signal s) ≡ b → priority_in new w.source ≡ Some (cond b (record w { priority = p }) w).priority
    new_priority w was true is =
        let e = same_source-true w.source (Signal s) is in
        ap (priority_in new) e ∙ now.own w.priority (sym (ap (priority_in old) e) ∙ was)
    new_priority w was false is = now.others w.source is ∙ was

    known_moved : (w : Waits) → Among w ws → IsKnown new tickets inserts made (moved s p w)
    known_moved w i =
        let k = a.each w i in
        let st = stays w in
        let priority = new_priority w k.priority (same_source w.source (Signal s)) refl in
        record {
          posted = rw (st.1, st.2, st.3) k.posted;
          priority = ap (priority_in new) st.2 ∙ priority;
          ticket = ap (λ x. tickets (registration_in x)) st.1 ∙ k.ticket ∙ ap (λ c. Some (record { 0 = c })) (sym st.0);
          below = omega (arith, st.4, k.below);
          older = let g = ap (λ c. c.generation) st.0 in omega (arith, g, k.older);
        }

    pub moved_scheduled : AreScheduled new (map (moved s p) ws) tickets inserts made
    moved_scheduled =
        record {
          rise = subst (λ (xs : List Waits). OrdersRise xs) (sym (moved_in_place s p ws)) (moved_rise (in_order ws) a.rise);
          each = λ v i. let r = among_moved v ws i in subst (λ (x : Waits). IsKnown new tickets inserts made x) r.2 (known_moved r.0 r.1);
          cells = λ u v i j e.
              let x = among_moved u ws i in
              let y = among_moved v ws j in
              let same : x.0.cell ≡ y.0.cell = sym (stays x.0).0 ∙ ap (λ (w : Waits). w.cell) x.2 ∙ e ∙ sym (ap (λ (w : Waits). w.cell) y.2) ∙ (stays y.0).0 in
              sym x.2 ∙ ap (moved s p) (a.cells x.0 y.0 x.1 y.1 same) ∙ y.2;
          known = λ r t e.
              let k = a.known r t e in
              let st = stays k.task in
              record { task = moved s p k.task; waits = moved_among k.task ws k.waits; cell_is = st.0 ∙ k.cell_is; registration = ap registration_in st.1 ∙ k.registration };
        }

    pub moved_once : (ts : List (SourcedTask PageTask)) → AreOnce ts ws → AreOnce ts (map (moved s p) ws)
    moved_once ts once v i =
        let r = among_moved v ws i in
        let o : r.0.order ≡ v.order = sym (stays r.0).4 ∙ ap (λ (w : Waits). w.order) r.2 in
        subst (λ (n : ℕ). AllByRecursion (λ (t : SourcedTask PageTask). t.number ≢ n) ts) o (once r.0 r.1)

-- ---- on the whole

module _ (old new : Lists PageTask) (queues : Queues PageTask) (sched after : SchedLevels) (tickets : ℕ → Option Ticket) (asked : List Asked) (made : ℕ) (st : IsStanding old queues sched tickets asked made)
    (lists : (l : ℕ) → list_of new l ≡ list_of old l) (apart : AreApart new queues after) (inserts : new.inserts ≡ old.inserts) where
  still_tasks : tasks_of queues new ≡ tasks_of queues old
  still_tasks = same_tasks queues old new sched st.lists (λ l lone. lists l)

  with_scheduled : AreScheduled after.levels (waiting after.levels new) tickets old.inserts made → AreOnce (merged (tasks_of queues old)) (waiting after.levels new) → IsStanding new queues after tickets asked made
  with_scheduled scheduled once =
      record {
        lists = apart;
        tasks = subst (λ (ls : BySource PageTask). AreTasks ls asked made) (sym still_tasks) st.tasks;
        scheduled = subst (λ (k : ℕ). AreScheduled after.levels (waiting after.levels new) tickets k made) (sym inserts) scheduled;
        once = subst (λ (ls : BySource PageTask). AreOnce (merged ls) (waiting after.levels new)) (sym still_tasks) once;
        inserts = omega (arith, inserts, st.inserts);
      }

  module _ (s : ℕ) (p : Priority) (waits : waiting after.levels new ≡ map (moved s p) (waiting sched.levels old)) (now : Prioritised s p sched.levels after.levels) where
    pub moved_standing : IsStanding new queues after tickets asked made
    moved_standing =
        with_scheduled
        (subst (λ (ws : List Waits). AreScheduled after.levels ws tickets old.inserts made) (sym waits) (moved_scheduled s p sched.levels after.levels (waiting sched.levels old) tickets old.inserts made st.scheduled now))
        (subst (λ (ws : List Waits). AreOnce (merged (tasks_of queues old)) ws) (sym waits) (moved_once s p sched.levels after.levels (waiting sched.levels old) tickets old.inserts made st.scheduled now (merged (tasks_of queues old)) st.once))

    pub moved_as : new.spare ≡ old.spare → seen_in new queues after made ≡ record (seen_in old queues sched made) { priorities = priorities_in after.levels }
    moved_as spare =
        ap (λ (ls : BySource PageTask). record (seen_in new queues after made) { tasks = tasks_in ls }) still_tasks
        ∙ ap (λ (ts : List Model.SchedTask). record (seen_in old queues after made) { sched_tasks = ts; spare = new.spare }) (ap sched_tasks_in waits ∙ moved_seen s p (waiting sched.levels old))
        ∙ ap (λ (n : ℕ). record (seen_in old queues sched made) { priorities = priorities_in after.levels; spare = n }) spare

  module _ (levels : after.levels ≡ sched.levels) (waits : waiting after.levels new ≡ waiting sched.levels old) where
    pub unmoved_standing : IsStanding new queues after tickets asked made
    unmoved_standing =
        with_scheduled
        (subst (λ (ls : List Level). AreScheduled ls (waiting after.levels new) tickets old.inserts made) (sym levels) (subst (λ (ws : List Waits). AreScheduled sched.levels ws tickets old.inserts made) (sym waits) st.scheduled))
        (subst (λ (ws : List Waits). AreOnce (merged (tasks_of queues old)) ws) (sym waits) st.once)

    pub unmoved_as : new.spare ≡ old.spare → seen_in new queues after made ≡ seen_in old queues sched made
    unmoved_as spare =
        ap (λ (ls : BySource PageTask). record (seen_in new queues after made) { tasks = tasks_in ls }) still_tasks
        ∙ ap (λ (ts : List Model.SchedTask). record (seen_in old queues after made) { sched_tasks = ts; spare = new.spare }) (ap sched_tasks_in waits)
        ∙ ap (λ (ls : List Level). record (seen_in old queues sched made) { priorities = priorities_in ls; spare = new.spare }) levels
        ∙ ap (λ (n : ℕ). record (seen_in old queues sched made) { spare = n }) spare

-- ---- a change in place

module _ (s : ℕ) (p : Priority) (levels : List Level) where
  in_place : (o : Option Level) → find (has_source (Signal s)) levels ≡ o → priority_in (map (moved_level s p) levels) (Signal s) ≡ option_map (λ (x : Priority). p) (priority_in levels (Signal s))
  in_place None is = ap (λ (ls : List Level). priority_in ls (Signal s)) (none_moved s p levels is) ∙ ap (λ o. option_map (λ (l : Level). l.priority) o) is ∙ sym (ap (λ o. option_map (λ (x : Priority). p) (option_map (λ (l : Level). l.priority) o)) is)
  in_place (Some level) is =
      room_moved s p levels (subst (λ (o : Option Level). IsSome o) (sym is) refl)
      ∙ sym (ap (λ o. option_map (λ (x : Priority). p) (option_map (λ (l : Level). l.priority) o)) is)

  pub changed : Prioritised s p levels (map (moved_level s p) levels)
  changed =
      record {
        own = λ x e. in_place (find (has_source (Signal s)) levels) refl ∙ ap (option_map (λ (y : Priority). p)) e;
        others = other_moved s p levels;
      }

  changed_at : (other : ℕ) (b : Bool) → eqb s other ≡ b → priority_in (map (moved_level s p) levels) (Signal other) ≡ cond b (option_map (λ (x : Priority). p) (priority_in levels (Signal other))) (priority_in levels (Signal other))
  changed_at other true e = subst (λ (n : ℕ). priority_in (map (moved_level s p) levels) (Signal n) ≡ option_map (λ (x : Priority). p) (priority_in levels (Signal n))) (eqb-true s other e) (in_place (find (has_source (Signal s)) levels) refl)
  changed_at other false e = other_moved s p levels (Signal other) (turned other s ∙ e)

  pub changed_is : (old new : Queued) → old.priorities ≡ priorities_in levels → new.priorities ≡ priorities_in (map (moved_level s p) levels) → IsMoved s p old new
  changed_is old new was now other =
      let at_old : priority_for old.priorities other ≡ priority_in levels (Signal other) = ap (λ ps. priority_for ps other) was ∙ priority_is levels other in
      ap (λ ps. priority_for ps other) now
      ∙ priority_is (map (moved_level s p) levels) other
      ∙ changed_at other (eqb s other) refl
      ∙ sym (ap (λ o. cond (eqb s other) (option_map (λ (x : Priority). p) o) o) at_old)

-- ---- room is made

module _ (s : ℕ) (p : Priority) (old new : List Level) (own : priority_in new (Signal s) ≡ Some p) (others : SameBut (Signal s) old new) where
  pub made_room : Prioritised s p old new
  made_room = record { own = λ x e. own; others = others }

  room_at : (other : ℕ) (b : Bool) → eqb s other ≡ b → priority_in new (Signal other) ≡ cond b (Some p) (priority_in old (Signal other))
  room_at other true e = subst (λ (n : ℕ). priority_in new (Signal n) ≡ Some p) (eqb-true s other e) own
  room_at other false e = others (Signal other) (turned other s ∙ e)

  pub room_is : (q now : Queued) → q.priorities ≡ priorities_in old → now.priorities ≡ priorities_in new → HasRoomFor s p q now
  room_is q now was is other =
      let at_old : priority_for q.priorities other ≡ priority_in old (Signal other) = ap (λ ps. priority_for ps other) was ∙ priority_is old other in
      ap (λ ps. priority_for ps other) is ∙ priority_is new other ∙ room_at other (eqb s other) refl ∙ sym (ap (λ o. cond (eqb s other) (Some p) o) at_old)
