-- The tasks of the task sources, as calls change them.
use Rattle.std.proofs.Common.{Box, Global, ◌≡◌, ◌≢◌, ◌⊎◌, ℕ, suc, ◌<◌, Bool, true, false, cond, not, List, [], ◌∷◌, ◌++◌, map, drop, Option, None, Some, eqb, eq-eqb, filter, IsTrue, refl, sym, ◌∙◌, ap, subst, inl, inr, arith}
use Rattle.std.specs.Prelude.{option_map, filter_map}
use Rattle.std.specs.List.{AllByRecursion}
use Rattle.std.specs.Option.{option_to_list}
use Rattle.std.proofs.lemmas.Bool.{eqb-true}
use Rattle.std.proofs.lemmas.List.{map-append}
use Rattle.std.proofs.lemmas.List.Elements.{filter_map-append}
use Rattle.page_types.specs.declared.Source.{Source}
use Rattle.page_parts.specs.Sources.{source_number, same_source}
use Rattle.page_parts.specs.Words.{and_last, without}
use Rattle.page_model.specs.State as Model
use Rattle.page_model.specs.PageSignals.{host_task_of}
use Rattle.page_model.specs.PageTime.{first_task}
use Rattle.cell_room.specs.declared.room.Cell.{Cell}
use Rattle.task_pool.specs.Lists.{Entry, first_entry}
use Rattle.task_queues.specs.OneList.{SourcedTask, BySource, sourced, merged, IsOneList, AreBelow, ListIs}
use Rattle.task_queues.proofs.OneListLemmas as one_list
use Rattle.page_fields.specs.Fields as Fields
use Rattle.page_fields.proofs.FieldLemmas as field
use Rattle.page_tasks.specs.declared.asked.Asked.{Asked}
use Rattle.page_tasks.specs.declared.page_task.TaskSteps.{TaskSteps}
use Rattle.page_tasks.specs.declared.page_task.TaskSteps.TheVariants as V
use Rattle.page_tasks.specs.declared.page_task.PageTask.{PageTask}
use Rattle.page_tasks.specs.declared.page_task.PageTask.TheVariants.{OfSource}
use Rattle.page_tasks.specs.Coded.{source_at, source_at-number}
use Rattle.page_tasks.specs.Seen.{steps_of, host_task, has_steps, steps_in}
use Rattle.page_tasks.specs.Asking.{host_task_in, asked_by}
use Rattle.page_tasks.specs.Standing.{NotedHost, noted_of, noted, tasks_in, AreTasks}

-- ---- sources

pub source_cases : (a b : Source) → (a ≡ b) ⊎ (a ≢ b)
source_cases a b = by (same_source a b) refl
  where
    by : (t : Bool) → same_source a b ≡ t → (a ≡ b) ⊎ (a ≢ b)
    by true e = inl (sym (source_at-number a) ∙ ap source_at (eqb-true (source_number a) (source_number b) e) ∙ source_at-number b)
    by false e = inr (λ h. let same : same_source a b ≡ true = subst (λ (x : Source). same_source a x ≡ true) h (eq-eqb (source_number a) (source_number a) refl) in cc)

-- ---- what holds of each

module _ {X : Type 0} (P : X → Type 0) where
  pub all_last : (xs : List X) (x : X) → AllByRecursion P xs → P x → AllByRecursion P (xs ++ x ∷ [])
  all_last [] x all here = (here, tt)
  all_last (y ∷ ys) x all here = (all.0, all_last ys x all.1 here)

  pub all_without : (test : X → Bool) (xs : List X) → AllByRecursion P xs → AllByRecursion P (without test xs)
  all_without test [] all = tt
  all_without test (y ∷ ys) all = by (test y) (all_without test ys all.1)
    where
      by : (b : Bool) → AllByRecursion P (without test ys) → AllByRecursion P (cond b (without test ys) (y ∷ without test ys))
      by true rest = rest
      by false rest = (all.0, rest)

  pub all_drop : (xs : List X) → AllByRecursion P xs → AllByRecursion P (drop 1 xs)
  all_drop [] all = tt
  all_drop (y ∷ ys) all = all.1

pub all_more : {X : Type 0} (P Q : X → Type 0) (xs : List X) → ((x : X) → P x → Q x) → AllByRecursion P xs → AllByRecursion Q xs
all_more P Q [] more all = tt
all_more P Q (x ∷ xs) more all = (more x all.0, all_more P Q xs more all.1)

-- ---- what is noted of tasks

pub host_is : (steps : TaskSteps) → host_task_of (steps_of steps) ≡ option_map host_task (host_task_in steps)
host_is V.RunScript = refl
host_is (V.RunTimer t) = refl
host_is (V.TimeOutSignal s) = refl
host_is (V.FireAtWindow event) = refl
host_is (V.AnswerHost t) = refl
host_is (V.RunFrame t) = refl
host_is V.InvokeIdle = refl
host_is (V.IdleTimeout handle) = refl
host_is (V.NotifyRejected ps) = refl
host_is (V.NotifyHandled n) = refl

noted_one : (n : ℕ) (s : Source) (steps : TaskSteps) → map noted (option_to_list (asked_by n steps)) ≡ filter_map noted_of (record { number = n; source = s; steps = steps_of steps } ∷ [])
noted_one n s V.RunScript = refl
noted_one n s (V.RunTimer t) = refl
noted_one n s (V.TimeOutSignal t) = refl
noted_one n s (V.FireAtWindow event) = refl
noted_one n s (V.AnswerHost t) = refl
noted_one n s (V.RunFrame t) = refl
noted_one n s V.InvokeIdle = refl
noted_one n s (V.IdleTimeout handle) = refl
noted_one n s (V.NotifyRejected ps) = refl
noted_one n s (V.NotifyHandled m) = refl

abbrev pub noted_list : Option NotedHost → List NotedHost → List NotedHost
noted_list None more = more
noted_list (Some x) more = x ∷ more

pub noted_cons : (t : Model.Task) (ts : List Model.Task) → filter_map noted_of (t ∷ ts) ≡ noted_list (noted_of t) (filter_map noted_of ts)
noted_cons t ts = by (noted_of t) refl
  where
    by : (o : Option NotedHost) → noted_of t ≡ o → filter_map noted_of (t ∷ ts) ≡ noted_list o (filter_map noted_of ts)
    by None is = rw is
    by (Some x) is = rw is

module _ (n : ℕ) where
  abbrev has_number : NotedHost → Bool
  has_number x = eqb x.number n

  noted_number : (t : Model.Task) (h : Option Model.HostTask) (more : List NotedHost) → let o : Option NotedHost = option_map (λ x. record { number = t.number; task = x }) h in
      cond (eqb t.number n) (without has_number more) (noted_list o (without has_number more)) ≡ without has_number (noted_list o more)
  noted_number t None more = elim (eqb t.number n) as (λ b. cond b (without has_number more) (without has_number more) ≡ without has_number more) [ true ↦ refl | false ↦ refl ]
  noted_number t (Some x) more = refl

  noted_without : (ts : List Model.Task) → filter_map noted_of (without (λ t. eqb t.number n) ts) ≡ without has_number (filter_map noted_of ts)
  noted_without [] = refl
  noted_without (t ∷ ts) = by (eqb t.number n) (noted_without ts) ∙ noted_number t (host_task_of t.steps) (filter_map noted_of ts) ∙ ap (without has_number) (sym (noted_cons t ts))
    where
      by : (b : Bool) → filter_map noted_of (without (λ u. eqb u.number n) ts) ≡ without has_number (filter_map noted_of ts)
          → filter_map noted_of (cond b (without (λ u. eqb u.number n) ts) (t ∷ without (λ u. eqb u.number n) ts))
          ≡ cond b (without has_number (filter_map noted_of ts)) (noted_list (noted_of t) (without has_number (filter_map noted_of ts)))
      by true rest = rest
      by false rest = noted_cons t (without (λ u. eqb u.number n) ts) ∙ ap (noted_list (noted_of t)) rest

  noted_filter : (asked : List Asked) → map noted (filter (λ a. not (eqb a.number n)) asked) ≡ without has_number (map noted asked)
  noted_filter [] = refl
  noted_filter (a ∷ more) = by (eqb a.number n) (noted_filter more)
    where
      by : (b : Bool) → map noted (filter (λ a. not (eqb a.number n)) more) ≡ without has_number (map noted more)
          → map noted (cond (not b) (a ∷ filter (λ a. not (eqb a.number n)) more) (filter (λ a. not (eqb a.number n)) more)) ≡ cond b (without has_number (map noted more)) (noted a ∷ without has_number (map noted more))
      by true rest = rest
      by false rest = ap (λ (xs : List NotedHost). noted a ∷ xs) rest

  tasks_without : (ts : List (SourcedTask PageTask)) → Fields.tasks_of steps_in (without (λ t. eqb t.number n) ts) ≡ without (λ t. eqb t.number n) (Fields.tasks_of steps_in ts)
  tasks_without [] = refl
  tasks_without (t ∷ ts) = by (eqb t.number n) (tasks_without ts)
    where
      by : (b : Bool) → Fields.tasks_of steps_in (without (λ u. eqb u.number n) ts) ≡ without (λ u. eqb u.number n) (Fields.tasks_of steps_in ts)
          → Fields.tasks_of steps_in (cond b (without (λ u. eqb u.number n) ts) (t ∷ without (λ u. eqb u.number n) ts))
          ≡ cond b (without (λ u. eqb u.number n) (Fields.tasks_of steps_in ts)) (Fields.task_of steps_in t ∷ without (λ u. eqb u.number n) (Fields.tasks_of steps_in ts))
      by true rest = rest
      by false rest = ap (λ (us : List Model.Task). Fields.task_of steps_in t ∷ us) rest

-- ---- a task is queued

abbrev HasSteps : Entry PageTask → Type 0
HasSteps entry = IsTrue (has_steps entry.item)

module _ (old new : BySource PageTask) (asked : List Asked) (made n : ℕ) (s : Source) (cell : Cell) (steps : Box TaskSteps Global) where
  abbrev entry : Entry PageTask
  entry = record { cell = cell; number = n; item = OfSource steps }

  module _ (a : AreTasks old asked made) (next : n ≡ suc made) (is : ListIs s (and_last (old s) entry) old new) where
    all_below : AreBelow n (merged old)
    all_below = subst (λ (m : ℕ). AreBelow m (merged old)) (sym next) a.below

    one : IsOneList new (and_last (merged old) (sourced s entry))
    one = one_list.queued_is_last old new (merged old) s entry a.one all_below is

    pub queued_merged : merged new ≡ and_last (merged old) (sourced s entry)
    queued_merged = one_list.merged_is new (and_last (merged old) (sourced s entry)) one

    pub queued_seen : tasks_in new ≡ and_last (tasks_in old) (record { number = n; source = s; steps = steps_of steps.value })
    queued_seen = ap (Fields.tasks_of steps_in) queued_merged ∙ map-append (Fields.task_of steps_in) (merged old) (sourced s entry ∷ [])

    each_has : (o : Source) → AllByRecursion HasSteps (new o)
    each_has o = elim (source_cases o s) [
      | inl e ↦ subst (λ (x : Source). AllByRecursion HasSteps (new x)) (sym e) (subst (λ (es : List (Entry PageTask)). AllByRecursion HasSteps es) (sym is.own) (all_last HasSteps (old s) entry (a.steps s) refl))
      | inr h ↦ subst (λ (es : List (Entry PageTask)). AllByRecursion HasSteps es) (sym (is.others o h)) (a.steps o)
    ]

    pub queued_tasks : AreTasks new (asked ++ option_to_list (asked_by n steps.value)) n
    queued_tasks =
        record {
          one = subst (λ (ts : List (SourcedTask PageTask)). IsOneList new ts) (sym queued_merged) one;
          below = subst (λ (ts : List (SourcedTask PageTask)). AreBelow (suc n) ts) (sym queued_merged)
              (all_last (λ (t : SourcedTask PageTask). t.number < suc n) (merged old) (sourced s entry) (all_more (λ (t : SourcedTask PageTask). t.number < n) (λ (t : SourcedTask PageTask). t.number < suc n) (merged old) (λ t h. omega (arith, h)) all_below) (omega arith));
          steps = each_has;
          noted = map-append noted asked (option_to_list (asked_by n steps.value))
              ∙ ap (λ (xs : List NotedHost). xs ++ map noted (option_to_list (asked_by n steps.value))) a.noted
              ∙ ap (λ (xs : List NotedHost). filter_map noted_of (tasks_in old) ++ xs) (noted_one n s steps.value)
              ∙ sym (filter_map-append noted_of (tasks_in old) (record { number = n; source = s; steps = steps_of steps.value } ∷ []))
              ∙ sym (ap (filter_map noted_of) queued_seen);
        }

-- ---- the first task of a source is taken

module _ (old new : BySource PageTask) (asked : List Asked) (made : ℕ) (s : Source) (entry : Entry PageTask) where
  module _ (a : AreTasks old asked made) (first : first_entry (old s) ≡ Some entry) (is : ListIs s (drop 1 (old s)) old new) where
    left_one : IsOneList new (without (λ t. eqb t.number entry.number) (merged old))
    left_one = one_list.taken_is_first old new (merged old) s entry a.one first is

    pub taken_merged : merged new ≡ without (λ t. eqb t.number entry.number) (merged old)
    taken_merged = one_list.merged_is new (without (λ t. eqb t.number entry.number) (merged old)) left_one

    pub taken_seen : tasks_in new ≡ without (λ t. eqb t.number entry.number) (tasks_in old)
    taken_seen = ap (Fields.tasks_of steps_in) taken_merged ∙ tasks_without entry.number (merged old)

    each_left : (o : Source) → AllByRecursion HasSteps (new o)
    each_left o = elim (source_cases o s) [
      | inl e ↦ subst (λ (x : Source). AllByRecursion HasSteps (new x)) (sym e) (subst (λ (es : List (Entry PageTask)). AllByRecursion HasSteps es) (sym is.own) (all_drop HasSteps (old s) (a.steps s)))
      | inr h ↦ subst (λ (es : List (Entry PageTask)). AllByRecursion HasSteps es) (sym (is.others o h)) (a.steps o)
    ]

    pub taken_tasks : AreTasks new (filter (λ a. not (eqb a.number entry.number)) asked) made
    taken_tasks =
        record {
          one = subst (λ (ts : List (SourcedTask PageTask)). IsOneList new ts) (sym taken_merged) left_one;
          below = subst (λ (ts : List (SourcedTask PageTask)). AreBelow (suc made) ts) (sym taken_merged) (all_without (λ (t : SourcedTask PageTask). t.number < suc made) (λ t. eqb t.number entry.number) (merged old) a.below);
          steps = each_left;
          noted = noted_filter entry.number asked
              ∙ ap (without (has_number entry.number)) a.noted
              ∙ sym (noted_without entry.number (tasks_in old))
              ∙ sym (ap (filter_map noted_of) taken_seen);
        }

-- ---- the first task of a source

first_has : (es : List (Entry PageTask)) (entry : Entry PageTask) → first_entry es ≡ Some entry → AllByRecursion HasSteps es → HasSteps entry
first_has [] entry e all = absurd (cc)
first_has (x ∷ xs) entry e all = let same : x ≡ entry = cc in subst HasSteps same all.0

-- the first task of a source, by its list
pub first_by_list : (lists : BySource PageTask) (asked : List Asked) (made : ℕ) (s : Source) → AreTasks lists asked made → first_task s (tasks_in lists) ≡ option_map (Fields.task_of steps_in) (option_map (sourced s) (first_entry (lists s)))
first_by_list lists asked made s a = field.first_is steps_in (merged lists) s ∙ ap (option_map (Fields.task_of steps_in)) (one_list.first_is lists (merged lists) s a.one)

pub first_steps : (lists : BySource PageTask) (asked : List Asked) (made : ℕ) (s : Source) (entry : Entry PageTask) → AreTasks lists asked made → first_entry (lists s) ≡ Some entry → HasSteps entry
first_steps lists asked made s entry a first = first_has (lists s) entry first (a.steps s)
