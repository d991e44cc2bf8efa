-- The calls on the scheduler's queues, on the whole.
use Rattle.std.proofs.Common.{◌≡◌, ◌≢◌, ℕ, suc, ◌<◌, ◌≤◌, Bool, true, false, cond, List, [], ◌∷◌, length, Option, None, Some, Result, Ok, Err, OnErr, IsErr, eqb, filter, refl, sym, ◌∙◌, ap, subst, inl, inr, arith}
use mathlib.Core.Path.{fun_ext}
use Rattle.std.specs.Prelude.{OnSome, IsOk, is_some, option_map}
use Rattle.std.specs.List.{AllByRecursion, find}
use Rattle.std.proofs.lemmas.Bool.{eqb-true}
use Rattle.page_parts.specs.Words.{and_last}
use Rattle.page_model.specs.State as Model
use Rattle.cell_room.specs.declared.room.Cell.{Cell}
use Rattle.task_pool.specs.Lists.{Lists, list_of, same_cell}
use Rattle.task_pool.proofs.CellTests.{same_cell-refl}
use Rattle.task_pool.specs.declared.pool.Ticket.{Ticket}
use Rattle.task_queues.specs.declared.queues.Queues.{Queues}
use Rattle.task_queues.specs.BySource.{tasks_of}
use Rattle.task_queues.specs.OneList.{SourcedTask, BySource, merged}
use Rattle.post_task.specs.declared.level.Level.{Level}
use Rattle.post_task.specs.declared.level.PrioSource.{PrioSource}
use Rattle.post_task.specs.Waiting.{Waiting, Among, has_cell, lacks_cell}
use Rattle.post_task.specs.Levels.{Sched as SchedLevels, all_queues, Lone, waiting, Kept}
use Rattle.post_task.proofs.Waits.{among_inserted}
use Rattle.page_tasks.specs.declared.asked.Asked.{Asked}
use Rattle.page_tasks.specs.declared.page_task.PageTask.{PageTask}
use Rattle.page_tasks.specs.Seen.{prio_source}
use Rattle.page_tasks.specs.Queued.{enqueued, with_spare, without_registration}
use Rattle.page_tasks.specs.Standing.{seen_in, tasks_in, sched_tasks_in, priorities_in, AreApart, AreTasks, AreScheduled, AreOnce, IsStanding}
use Rattle.page_tasks.proofs.Beside.{same_tasks, sched_changed}
use Rattle.page_tasks.proofs.Sources.{all_more}
use Rattle.page_tasks.proofs.Scheduled.{new_one, IsPut, put_scheduled, put_seen, left_scheduled, left_seen, among_filter}

-- more numbers were given out
pub tasks_later : (lists : BySource PageTask) (asked : List Asked) (m n : ℕ) → m ≤ n → AreTasks lists asked m → AreTasks lists asked n
tasks_later lists asked m n after a =
    record { one = a.one; below = all_more (λ (t : SourcedTask PageTask). t.number < suc m) (λ (t : SourcedTask PageTask). t.number < suc n) (merged lists) (λ t h. omega (arith, h, after)) a.below; steps = a.steps; noted = a.noted }

-- what a call on the scheduler's lists says: every other list is as it was
pub record IsSchedCall (old new : Lists PageTask) (sched after : SchedLevels) : Type 0 where
  pub same : after.levels ≡ sched.levels
  pub kept : Kept after new
  pub others : (l : ℕ) → Lone l (all_queues sched.levels) → list_of new l ≡ list_of old l
  pub count : length new.lists ≡ length old.lists

module _ (old new : Lists PageTask) (queues : Queues PageTask) (sched after : SchedLevels) (tickets now : ℕ → Option Ticket) (asked : List Asked) (made : ℕ) (st : IsStanding old queues sched tickets asked made) (call : IsSchedCall old new sched after) where
  lists_apart : AreApart new queues after
  lists_apart =
      let L : ℕ → List Level → Type 0 = λ l ls. Lone l (all_queues ls) in
      sched_changed queues old new sched after st.lists call.others call.kept (λ l h lone. subst (L l) (sym call.same) lone) (λ l lone. subst (L l) call.same lone) (omega (arith, call.count))

  tasks_still : tasks_of queues new ≡ tasks_of queues old
  tasks_still = same_tasks queues old new sched st.lists call.others

  -- whatever now waits, and whatever numbers were given out, the rest stands as before
  pub sched_standing : (n : ℕ) → made ≤ n → new.inserts ≤ n → AreScheduled sched.levels (waiting after.levels new) now new.inserts n
      → AreOnce (merged (tasks_of queues old)) (waiting after.levels new) → IsStanding new queues after now asked n
  sched_standing n more inserts scheduled once =
      record {
        lists = lists_apart;
        tasks = subst (λ (ls : BySource PageTask). AreTasks ls asked n) (sym tasks_still) (tasks_later (tasks_of queues old) asked made n more st.tasks);
        scheduled = subst (λ (ls : List Level). AreScheduled ls (waiting after.levels new) now new.inserts n) (sym call.same) scheduled;
        once = subst (λ (ls : BySource PageTask). AreOnce (merged ls) (waiting after.levels new)) (sym tasks_still) once;
        inserts = inserts;
      }

  pub sched_seen : (n : ℕ) (ts : List Model.SchedTask) → sched_tasks_in (waiting after.levels new) ≡ ts
      → seen_in new queues after n ≡ record { tasks = tasks_in (tasks_of queues old); sched_tasks = ts; tasks_made = n; priorities = priorities_in sched.levels; spare = new.spare }
  sched_seen n ts is =
      ap (λ (ls : BySource PageTask). record (seen_in new queues after n) { tasks = tasks_in ls }) tasks_still
      ∙ ap (λ (us : List Model.SchedTask). record (seen_in old queues after n) { sched_tasks = us; spare = new.spare }) is
      ∙ ap (λ (ls : List Level). record (seen_in old queues sched n) { sched_tasks = ts; priorities = priorities_in ls; spare = new.spare }) call.same

  -- ---- nothing was done

  pub still_standing : new ≡ old → ((q : ℕ) → now q ≡ tickets q) → IsStanding new queues after now asked made
  still_standing e same =
      let ws : waiting after.levels new ≡ waiting sched.levels old = ap (λ (ls : List Level). waiting ls new) call.same ∙ ap (λ (p : Lists PageTask). waiting sched.levels p) e in
      let scheduled : AreScheduled sched.levels (waiting sched.levels old) now new.inserts made =
      subst (λ (k : ℕ). AreScheduled sched.levels (waiting sched.levels old) now k made) (sym (ap (λ (p : Lists PageTask). p.inserts) e))
      (subst (λ (f : ℕ → Option Ticket). AreScheduled sched.levels (waiting sched.levels old) f old.inserts made) (sym (fun_ext same)) st.scheduled) in
      sched_standing made (omega arith) (omega (arith, ap (λ (p : Lists PageTask). p.inserts) e, st.inserts))
      (subst (λ (us : List (Waiting PageTask)). AreScheduled sched.levels us now new.inserts made) (sym ws) scheduled)
      (subst (λ (us : List (Waiting PageTask)). AreOnce (merged (tasks_of queues old)) us) (sym ws) st.once)

  pub still_seen : new ≡ old → seen_in new queues after made ≡ seen_in old queues sched made
  still_seen e =
      let ws : waiting after.levels new ≡ waiting sched.levels old = ap (λ (ls : List Level). waiting ls new) call.same ∙ ap (λ (p : Lists PageTask). waiting sched.levels p) e in
      sched_seen made (sched_tasks_in (waiting sched.levels old)) (ap sched_tasks_in ws) ∙ ap (λ (p : Lists PageTask). record (seen_in old queues sched made) { spare = p.spare }) e

  -- ---- a task is enqueued

  module _ (n r : ℕ) (source : PrioSource) (continuation : Bool) (cell : Cell) (put : IsPut sched.levels (waiting sched.levels old) (waiting after.levels new) tickets now old.inserts new.inserts made n r source continuation cell) where
    abbrev the_new : Waiting PageTask
    the_new = new_one sched.levels (waiting sched.levels old) (waiting after.levels new) tickets now old.inserts new.inserts made n r source continuation cell

    once_put : AreOnce (merged (tasks_of queues old)) (waiting after.levels new)
    once_put w i = elim (among_inserted the_new w (waiting sched.levels old) (waiting after.levels new) put.inserted i) [
      | inl e ↦ subst (λ (u : Waiting PageTask). AllByRecursion (λ (t : SourcedTask PageTask). t.number ≢ u.order) (merged (tasks_of queues old))) e
          (all_more (λ (t : SourcedTask PageTask). t.number < suc made) (λ (t : SourcedTask PageTask). t.number ≢ n) (merged (tasks_of queues old)) (λ t h same. absurd (omega (arith, h, put.next, same))) st.tasks.below)
      | inr j ↦ st.once w j
    ]

    pub put_standing : IsStanding new queues after now asked n
    put_standing =
        sched_standing n (omega (arith, put.next)) (omega (arith, put.next, put.inserts, st.inserts))
        (put_scheduled sched.levels (waiting sched.levels old) (waiting after.levels new) tickets now old.inserts new.inserts made n r source continuation cell st.scheduled put) once_put

    pub put_as : seen_in new queues after n ≡ with_spare new.spare (enqueued r (prio_source source) continuation (seen_in old queues sched made))
    put_as =
        sched_seen n _ (put_seen sched.levels (waiting sched.levels old) (waiting after.levels new) tickets now old.inserts new.inserts made n r source continuation cell st.scheduled put)
        ∙ ap (λ (m : ℕ). record {
          tasks = tasks_in (tasks_of queues old);
          sched_tasks = and_last (sched_tasks_in (waiting sched.levels old)) (record { registration = r; source = prio_source source; continuation = continuation; order = m });
          tasks_made = m;
          priorities = priorities_in sched.levels;
          spare = new.spare;
        }) put.next

  -- ---- a registration's task leaves

  module _ (r : ℕ) (ticket : Ticket) (there : tickets r ≡ Some ticket) (left : waiting after.levels new ≡ filter (lacks_cell ticket.0) (waiting sched.levels old)) (gone : (q : ℕ) → now q ≡ cond (eqb r q) None (tickets q)) (inserts : new.inserts ≡ old.inserts) where
    pub left_standing : IsStanding new queues after now asked made
    left_standing =
        let scheduled = left_scheduled sched.levels (waiting sched.levels old) tickets old.inserts made st.scheduled r ticket there now gone in
        let once : AreOnce (merged (tasks_of queues old)) (filter (lacks_cell ticket.0) (waiting sched.levels old)) = λ w i. st.once w (among_filter (lacks_cell ticket.0) w (waiting sched.levels old) i).0 in
        sched_standing made (omega arith) (omega (arith, inserts, st.inserts))
        (subst (λ (ws : List (Waiting PageTask)). AreScheduled sched.levels ws now new.inserts made) (sym left) (subst (λ (k : ℕ). AreScheduled sched.levels (filter (lacks_cell ticket.0) (waiting sched.levels old)) now k made) (sym inserts) scheduled))
        (subst (λ (ws : List (Waiting PageTask)). AreOnce (merged (tasks_of queues old)) ws) (sym left) once)

    pub left_as : seen_in new queues after made ≡ with_spare new.spare (without_registration r (seen_in old queues sched made))
    left_as = sched_seen made _ (ap sched_tasks_in left ∙ left_seen sched.levels (waiting sched.levels old) tickets old.inserts made st.scheduled r ticket there)

-- ---- only the tickets are told otherwise

pub same_tickets : (pool : Lists PageTask) (queues : Queues PageTask) (sched : SchedLevels) (tickets now : ℕ → Option Ticket) (asked : List Asked) (made : ℕ) → ((q : ℕ) → now q ≡ tickets q) → IsStanding pool queues sched tickets asked made → IsStanding pool queues sched now asked made
same_tickets pool queues sched tickets now asked made same st = subst (λ (f : ℕ → Option Ticket). IsStanding pool queues sched f asked made) (sym (fun_ext same)) st

-- ---- a ticket is taken

pub gone_same : (tickets now : ℕ → Option Ticket) (r : ℕ) → tickets r ≡ None → ((q : ℕ) → now q ≡ cond (eqb r q) None (tickets q)) → (q : ℕ) → now q ≡ tickets q
gone_same tickets now r none gone q = gone q ∙ by (eqb r q) refl
  where
    by : (b : Bool) → eqb r q ≡ b → cond b None (tickets q) ≡ tickets q
    by true is = sym (sym (ap tickets (eqb-true r q is)) ∙ none)
    by false is = refl

cell_there : (c : Cell) (w : Waiting PageTask) (ws : List (Waiting PageTask)) → Among w ws → w.cell ≡ c → is_some (find (has_cell c) ws) ≡ true
cell_there c w [] i e = absurd i
cell_there c w (x ∷ xs) i e = by (has_cell c x) refl i (λ j. cell_there c w xs j e)
  where
    by : (b : Bool) → has_cell c x ≡ b → Among w (x ∷ xs) → (Among w xs → is_some (find (has_cell c) xs) ≡ true) → is_some (cond b (Some x) (find (has_cell c) xs)) ≡ true
    by true is i rest = refl
    by false is i rest = elim i [
      | inl s ↦ absurd (let h : has_cell c x ≡ true = ap (has_cell c) s ∙ ap (λ (d : Cell). same_cell d c) e ∙ same_cell-refl c in cc)
      | inr j ↦ rest j
    ]

-- what a ticket names waits in its cell
pub named_waits : (levels : List Level) (ws : List (Waiting PageTask)) (tickets : ℕ → Option Ticket) (inserts made r : ℕ) (t : Ticket) → AreScheduled levels ws tickets inserts made → tickets r ≡ Some t → is_some (find (has_cell t.0) ws) ≡ true
named_waits levels ws tickets inserts made r t a there = let k = a.known r t there in cell_there t.0 k.task ws k.waits k.cell_is

pub not_none : {X : Type 0} (o : Option X) → is_some o ≡ true → o ≢ None
not_none o e none = let h = ap is_some none in cc

pub on_some : {X Y P : Type 0} (f : X → Y) (o : Option X) (r : Option Y) → is_some o ≡ true → r ≡ option_map f o → OnSome r P → P
on_some f None r e is h = absurd (cc)
on_some {P = P} f (Some x) r e is h = subst (λ u. OnSome u P) is h

-- ---- what an error tells

pub is_error : {A E P : Type 0} (r : Result A E) → IsErr r → OnErr r P → P
is_error (Ok x) h f = absurd (cc)
is_error (Err e) h f = f

pub on_err : {A E P : Type 0} (r : Result A E) → P → OnErr r P
on_err (Ok x) p = tt
on_err (Err e) p = p

pub not_both : {A E : Type 0} (r : Result A E) → IsOk r → IsErr r → ⊥
not_both (Ok x) ok err = absurd (cc)
not_both (Err e) ok err = absurd (cc)
