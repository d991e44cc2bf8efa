-- The views of parts as fields of the model's page.
use Rattle.std.proofs.Common.{◌≡◌, ◌≢◌, ℕ, suc, false, Bool, true, cond, List, [], ◌∷◌, Option, Some, None, eqb, refl, sym, ap, ◌∙◌}
use Rattle.std.specs.Prelude.{slice_get, slice_set, option_map}
use Rattle.std.specs.Option.{option_map_or}
use Rattle.std.specs.List.{find}
use Rattle.std.proofs.lemmas.List.{map-append}
use Rattle.page_types.specs.declared.Source.{Source}
use Rattle.page_types.specs.declared.Source.TheVariants.{User, Net, Dom, Timer, Render, Sched, Idle}
use Rattle.task_pool.specs.Lists.{Entry, first_entry}
use Rattle.task_queues.proofs.OneListLemmas as one_list
use Rattle.page_model.specs.View.{first_number}
use Rattle.page_parts.specs.Words.{and_last, without}
use Rattle.page_parts.specs.Sources.{same_source}
use Rattle.page_parts.specs.Frames.{Callback, callback_in}
use Rattle.page_parts.specs.HostClosures.{HostClosure, fired}
use Rattle.raf_frames.specs.FrameInProgress.{FrameInProgress, next_callback}
use Rattle.raf_frames.specs.InTurn.{Visits, AreInTurn, called}
use Rattle.raf_frames.specs.InTurn as in_turn
use Rattle.raf_frames.proofs.TurnLemmas.{visits_by_next}
use Rattle.task_queues.specs.OneList.{SourcedTask, BySource, sourced, is_of, IsOneList}
use Rattle.host_jobs.specs.Closures.{dropped, changed_at, fired_at}
use Rattle.host_jobs.specs.Overlay.{queued_at}
use Rattle.lang_meaning.specs.Machine.{Done, afterwards, finish}
use Rattle.page_model.specs.State.{Steps, Page, State, queue_task}
use Rattle.page_model.specs.Invoke.{Ways}
use Rattle.page_model.specs.PageSignals.{drop_at}
use Rattle.page_model.specs.PageTime.{first_task}
use Rattle.page_model.specs.Operations.{queued_mark}
use Rattle.page_model.specs.Tasks.{frame_callback, fire_closure}
use Rattle.page_model.specs.Turns.{without_task}
use Rattle.page_fields.specs.Fields.{visits, frame_called, from_next, task_of, tasks_of}

-- ---- frames

module _ (w : Ways) (t : ℕ) where
  -- how the model visits keys
  abbrev model_visits : Visits State (Done Page)
  model_visits = record {
    frames = λ m. m.host.frames;
    finish = λ m. finish m;
    afterwards = λ done next. afterwards done next;
    call = frame_called w t;
    in_turn = visits w t;
  }

  called_is : (o : Option Callback) (m : State) → frame_callback w t o m ≡ called model_visits o m
  called_is None m = refl
  called_is (Some c) m = refl

  are_in_turn : AreInTurn model_visits
  are_in_turn = record {
    none = λ m. refl;
    next = λ key keys m. ap (λ (done : Done Page). afterwards done (visits w t keys)) (called_is (callback_in m.host.frames.callbacks key) m);
    goes_on = λ m rest. refl;
  }

  next_is : (f : FrameInProgress) (o : Option Callback) (m : State) → in_turn.from_next model_visits f o m ≡ from_next w t f o m
  next_is f None m = refl
  next_is f (Some c) m = refl

  pub goes_by_next : (f : FrameInProgress) (m : State) → m.host.frames ≡ f.map → visits w t f.left m ≡ from_next w t f (next_callback f) m
  goes_by_next f m is = visits_by_next model_visits are_in_turn f m is ∙ next_is f (next_callback f) m

-- ---- tasks

module _ {T : Type 0} (steps : T → Steps) where
  pub first_is : (tasks : List (SourcedTask T)) (s : Source) → first_task s (tasks_of steps tasks) ≡ option_map (task_of steps) (find (is_of s) tasks)
  first_is [] s = refl
  first_is (t ∷ ts) s = by (same_source t.source s) (first_is ts s)
    where
      by : (b : Bool) → first_task s (tasks_of steps ts) ≡ option_map (task_of steps) (find (is_of s) ts)
          → cond b (Some (task_of steps t)) (first_task s (tasks_of steps ts)) ≡ option_map (task_of steps) (cond b (Some t) (find (is_of s) ts))
      by true rest = refl
      by false rest = rest

  pub queued_is : (tasks : List (SourcedTask T)) (s : Source) (x : T) (p : Page) → p.tasks ≡ tasks_of steps tasks
      → (queue_task s (steps x) p).tasks ≡ tasks_of steps (and_last tasks (record { number = suc p.tasks_made; source = s; item = x }))
  queued_is tasks s x p is =
      ap (λ ts. and_last ts (record { number = suc p.tasks_made; source = s; steps = steps x })) is
      ∙ sym (map-append (task_of steps) tasks (record { number = suc p.tasks_made; source = s; item = x } ∷ []))

  without_is : (n : ℕ) (tasks : List (SourcedTask T)) → without (λ t. eqb t.number n) (tasks_of steps tasks) ≡ tasks_of steps (without (λ t. eqb t.number n) tasks)
  without_is n [] = refl
  without_is n (t ∷ ts) = by (eqb t.number n) (without_is n ts)
    where
      by : (b : Bool) → without (λ u. eqb u.number n) (tasks_of steps ts) ≡ tasks_of steps (without (λ u. eqb u.number n) ts)
          → cond b (without (λ u. eqb u.number n) (tasks_of steps ts)) (task_of steps t ∷ without (λ u. eqb u.number n) (tasks_of steps ts))
          ≡ tasks_of steps (cond b (without (λ u. eqb u.number n) ts) (t ∷ without (λ u. eqb u.number n) ts))
      by true rest = rest
      by false rest = ap (λ us. task_of steps t ∷ us) rest

  pub taken_is : (tasks : List (SourcedTask T)) (n : ℕ) (p : Page) → p.tasks ≡ tasks_of steps tasks → (without_task n p).tasks ≡ tasks_of steps (without (λ t. eqb t.number n) tasks)
  taken_is tasks n p is = ap (without (λ t. eqb t.number n)) is ∙ without_is n tasks

  entry_number : (s : Source) (o : Option (Entry T)) → option_map (λ t. t.number) (option_map (task_of steps) (option_map (sourced s) o)) ≡ option_map (λ (entry : Entry T). entry.number) o
  entry_number s None = refl
  entry_number s (Some entry) = refl

  number_is : (lists : BySource T) (tasks : List (SourcedTask T)) (p : Page) (s : Source) → IsOneList lists tasks → p.tasks ≡ tasks_of steps tasks
      → option_map (λ t. t.number) (first_task s p.tasks) ≡ option_map (λ (entry : Entry T). entry.number) (first_entry (lists s))
  number_is lists tasks p s one is =
      ap (λ ts. option_map (λ t. t.number) (first_task s ts)) is
      ∙ ap (option_map (λ t. t.number)) (first_is tasks s)
      ∙ ap (λ (o : Option (SourcedTask T)). option_map (λ t. t.number) (option_map (task_of steps) o)) (one_list.first_is lists tasks s one)
      ∙ entry_number s (first_entry (lists s))

  pub first_number_is : (lists : BySource T) (tasks : List (SourcedTask T)) (p : Page) (s : Source) → s ≢ Sched → IsOneList lists tasks → p.tasks ≡ tasks_of steps tasks
      → first_number p s ≡ option_map (λ (entry : Entry T). entry.number) (first_entry (lists s))
  first_number_is lists tasks p User other one is = number_is lists tasks p User one is
  first_number_is lists tasks p Net other one is = number_is lists tasks p Net one is
  first_number_is lists tasks p Dom other one is = number_is lists tasks p Dom one is
  first_number_is lists tasks p Timer other one is = number_is lists tasks p Timer one is
  first_number_is lists tasks p Render other one is = number_is lists tasks p Render one is
  first_number_is lists tasks p Idle other one is = number_is lists tasks p Idle one is
  first_number_is lists tasks p Sched other one is = absurd (other refl)

-- ---- closures

pub asked_is : (hosts : List HostClosure) (k : ℕ) (c : HostClosure) → slice_get hosts k ≡ Some c → slice_set hosts k (queued_mark c) ≡ queued_at hosts k
asked_is hosts k c there = sym (ap (λ o. option_map_or (λ (d : HostClosure). slice_set hosts k (queued_mark d)) o hosts) there)

pub fired_is : (k : ℕ) (p : Page) → (fire_closure k (slice_get p.hosts k) p).hosts ≡ fired_at p.hosts k
fired_is k p = by (slice_get p.hosts k)
  where
    by : (o : Option HostClosure) → (fire_closure k o p).hosts ≡ option_map_or (λ c. slice_set p.hosts k (fired c)) o p.hosts
    by None = refl
    by (Some c) = refl

pub dropped_is : (k : ℕ) (hosts : List HostClosure) → drop_at k (slice_get hosts k) hosts ≡ changed_at dropped hosts k
dropped_is k hosts = by (slice_get hosts k)
  where
    by : (o : Option HostClosure) → drop_at k o hosts ≡ option_map_or (λ c. slice_set hosts k (dropped c)) o hosts
    by None = refl
    by (Some c) = refl
