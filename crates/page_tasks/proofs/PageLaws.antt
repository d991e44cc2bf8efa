-- Changes of the queued tasks as changes of a page of the model.
use Rattle.std.proofs.Common.{◌≡◌, ℕ, suc, Bool, true, false, cond, List, [], ◌∷◌, map, Option, Some, None, eqb, refl, sym, ◌∙◌, ap, subst}
use Rattle.std.specs.Prelude.{option_map}
use Rattle.std.specs.List.{find}
use Rattle.std.proofs.lemmas.Bool.{eqb-true}
use Rattle.page_types.specs.declared.Priority.{Priority}
use Rattle.page_parts.specs.Words.{and_last, without}
use Rattle.page_parts.specs.TaskSignals.{PrioRecord, Prios, priority_of, begun}
use Rattle.page_model.specs.State.{Task, SchedTask, Page}
use Rattle.page_tasks.specs.Queued.{Queued, SignalPriority, priority_for, IsOf}
use Rattle.page_tasks.specs.PageLaws.{QueuedIs, TakenIs, EnqueuedIs, LeftIs, BegunIs, RoomIs, SomePageIs, record_with}
use Rattle.page_tasks.proofs.Scheduled.{not_there}

pub queued_is : (q : Queued) (p : Page) → QueuedIs q p
queued_is q p source steps spare is =
    record {
      tasks = ap (λ (ts : List Task). and_last ts (record { number = suc p.tasks_made; source = source; steps = steps })) is.tasks
          ∙ ap (λ (n : ℕ). and_last q.tasks (record { number = suc n; source = source; steps = steps })) is.tasks_made;
      sched_tasks = is.sched_tasks;
      tasks_made = ap (λ (n : ℕ). suc n) is.tasks_made;
      priorities = is.priorities;
    }

pub taken_is : (q : Queued) (p : Page) → TakenIs q p
taken_is q p n spare is = record { tasks = ap (without (λ t. eqb t.number n)) is.tasks; sched_tasks = is.sched_tasks; tasks_made = is.tasks_made; priorities = is.priorities }

pub enqueued_is : (q : Queued) (p : Page) → EnqueuedIs q p
enqueued_is q p r source continuation spare is =
    record {
      tasks = is.tasks;
      sched_tasks = ap (λ (ts : List SchedTask). and_last ts (record { registration = r; source = source; continuation = continuation; order = suc p.tasks_made })) is.sched_tasks
          ∙ ap (λ (n : ℕ). and_last q.sched_tasks (record { registration = r; source = source; continuation = continuation; order = suc n })) is.tasks_made;
      tasks_made = ap (λ (n : ℕ). suc n) is.tasks_made;
      priorities = is.priorities;
    }

pub left_is : (q : Queued) (p : Page) → LeftIs q p
left_is q p r spare is = record { tasks = is.tasks; sched_tasks = ap (without (λ t. eqb t.registration r)) is.sched_tasks; tasks_made = is.tasks_made; priorities = is.priorities }

-- ---- priorities

begun_other : (s t : ℕ) (priority : Priority) (ps : Prios) → eqb s t ≡ false → priority_of (begun s priority ps) t ≡ priority_of ps t
begun_other s t priority [] e = refl
begun_other s t priority (r ∷ rs) e = by (eqb r.signal s) refl (begun_other s t priority rs e)
  where
    changed : PrioRecord
    changed = record r { priority = priority; changing = true }

    at : (b : Bool) → priority_of (begun s priority rs) t ≡ priority_of rs t
        → option_map (λ (x : PrioRecord). x.priority) (cond b (Some r) (find (λ (x : PrioRecord). eqb x.signal t) (begun s priority rs))) ≡ option_map (λ (x : PrioRecord). x.priority) (cond b (Some r) (find (λ (x : PrioRecord). eqb x.signal t) rs))
    at true rest = refl
    at false rest = rest

    by : (b : Bool) → eqb r.signal s ≡ b → priority_of (begun s priority rs) t ≡ priority_of rs t
        → priority_of (cond b (record r { priority = priority; changing = true }) r ∷ begun s priority rs) t ≡ priority_of (r ∷ rs) t
    by true is rest =
        let other : eqb r.signal t ≡ false = ap (λ (n : ℕ). eqb n t) (eqb-true r.signal s is) ∙ e in
        ap (λ (b : Bool). option_map (λ (x : PrioRecord). x.priority) (cond b (Some (record r { priority = priority; changing = true })) (find (λ (x : PrioRecord). eqb x.signal t) (begun s priority rs)))) other
        ∙ rest
        ∙ sym (ap (λ (b : Bool). option_map (λ (x : PrioRecord). x.priority) (cond b (Some r) (find (λ (x : PrioRecord). eqb x.signal t) rs))) other)
    by false is rest = at (eqb r.signal t) rest

begun_own : (s : ℕ) (x priority : Priority) (ps : Prios) → priority_of ps s ≡ Some x → priority_of (begun s priority ps) s ≡ Some priority
begun_own s x priority [] e = absurd (not_there x e)
begun_own s x priority (r ∷ rs) e = by (eqb r.signal s) refl (λ h. begun_own s x priority rs h) e
  where
    by : (b : Bool) → eqb r.signal s ≡ b → (priority_of rs s ≡ Some x → priority_of (begun s priority rs) s ≡ Some priority)
        → option_map (λ (y : PrioRecord). y.priority) (cond b (Some r) (find (λ (y : PrioRecord). eqb y.signal s) rs)) ≡ Some x
        → priority_of (cond b (record r { priority = priority; changing = true }) r ∷ begun s priority rs) s ≡ Some priority
    by true is rest h = ap (λ (b : Bool). option_map (λ (y : PrioRecord). y.priority) (cond b (Some (record r { priority = priority; changing = true })) (find (λ (y : PrioRecord). eqb y.signal s) (begun s priority rs)))) is
    by false is rest h = ap (λ (b : Bool). option_map (λ (y : PrioRecord). y.priority) (cond b (Some r) (find (λ (y : PrioRecord). eqb y.signal s) (begun s priority rs)))) is ∙ rest h

module _ (s : ℕ) (priority : Priority) (q new : Queued) (p : Page) (is : IsOf q p) where
  moved_at : (t : ℕ) (x : Priority) (b : Bool) → eqb s t ≡ b → (o : Option Priority) → priority_for q.priorities t ≡ o → cond b (option_map (λ (y : Priority). priority) o) o ≡ Some x → priority_of (begun s priority p.prios) t ≡ Some x
  moved_at t x true e None h k = absurd (not_there x k)
  moved_at t x true e (Some y) h k =
      let same = eqb-true s t e in
      subst (λ (n : ℕ). priority_of (begun s priority p.prios) n ≡ Some priority) same
      (begun_own s y priority p.prios (subst (λ (n : ℕ). priority_of p.prios n ≡ Some y) (sym same) (is.priorities t y h)))
      ∙ k
  moved_at t x false e o h k = begun_other s t priority p.prios e ∙ is.priorities t x (h ∙ k)

  room_at : priority_of p.prios s ≡ Some priority → (t : ℕ) (x : Priority) (b : Bool) → eqb s t ≡ b → cond b (Some priority) (priority_for q.priorities t) ≡ Some x → priority_of p.prios t ≡ Some x
  room_at own t x true e k = sym (ap (priority_of p.prios) (eqb-true s t e)) ∙ own ∙ k
  room_at own t x false e k = is.priorities t x k

pub begun_is : (q new : Queued) (p : Page) → BegunIs q new p
begun_is q new p s priority same change is =
    record {
      tasks = is.tasks ∙ sym (ap (λ (x : Queued). x.tasks) same);
      sched_tasks = is.sched_tasks ∙ sym (ap (λ (x : Queued). x.sched_tasks) same);
      tasks_made = is.tasks_made ∙ sym (ap (λ (x : Queued). x.tasks_made) same);
      priorities = λ t x e. moved_at s priority q new p is t x (eqb s t) refl (priority_for q.priorities t) refl (sym (change t) ∙ e);
    }

pub room_is : (q new : Queued) (p : Page) → RoomIs q new p
room_is q new p s priority same room own is =
    record {
      tasks = is.tasks ∙ sym (ap (λ (x : Queued). x.tasks) same);
      sched_tasks = is.sched_tasks ∙ sym (ap (λ (x : Queued). x.sched_tasks) same);
      tasks_made = is.tasks_made ∙ sym (ap (λ (x : Queued). x.tasks_made) same);
      priorities = λ t x e. room_at s priority q new p is own t x (eqb s t) refl (sym (room t) ∙ e);
    }

-- ---- there is such a page

same_priorities : (ps : List SignalPriority) (s : ℕ) → priority_of (map record_with ps) s ≡ priority_for ps s
same_priorities [] s = refl
same_priorities (x ∷ xs) s = by (eqb x.signal s) (same_priorities xs s)
  where
    by : (b : Bool) → priority_of (map record_with xs) s ≡ priority_for xs s
        → option_map (λ (y : PrioRecord). y.priority) (cond b (Some (record_with x)) (find (λ (y : PrioRecord). eqb y.signal s) (map record_with xs)))
        ≡ option_map (λ (y : SignalPriority). y.priority) (cond b (Some x) (find (λ (y : SignalPriority). eqb y.signal s) xs))
    by true rest = refl
    by false rest = rest

pub some_page : (q : Queued) (p : Page) → SomePageIs q p
some_page q p = record { tasks = refl; sched_tasks = refl; tasks_made = refl; priorities = λ s x e. same_priorities q.priorities s ∙ e }
