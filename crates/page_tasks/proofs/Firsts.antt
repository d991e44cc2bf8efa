-- The scheduler task that is next, and the numbers of first tasks, as a page of the model has them.
use Rattle.std.proofs.Common.{◌≡◌, ◌≢◌, ℕ, ◌+◌, ◌*◌, Bool, true, false, cond, ◌&&◌, ◌||◌, nat_lt, ◌==◌, List, [], ◌∷◌, map, Option, None, Some, refl, sym, ◌∙◌, ap, inl, inr}
use Rattle.std.specs.Prelude.{option_map, unwrap_or, is_some, not}
use Rattle.std.specs.List.{list_all}
use Rattle.page_parts.specs.Words.{is_empty, is_there}
use Rattle.page_model.specs.PageTime.{first_task}
use Rattle.page_fields.specs.Fields.{task_of}
use Rattle.page_tasks.proofs.Sources.{first_by_list}
use Rattle.page_types.specs.declared.Priority.{Priority}
use Rattle.page_types.specs.declared.Priority.TheVariants.{UserVisible}
use Rattle.page_types.specs.declared.Source.{Source}
use Rattle.page_types.specs.declared.Source.TheVariants.{User, Net, Dom, Timer, Render, Sched, Idle}
use Rattle.page_parts.specs.Sources.{default_list}
use Rattle.page_parts.specs.TaskSignals.{rank}
use Rattle.page_model.specs.State as Model
use Rattle.page_model.specs.State.{Page}
use Rattle.page_model.specs.SchedulerTasks as model
use Rattle.page_model.specs.View.{first_number, view}
use Rattle.task_pool.specs.Lists.{Entry, Lists, first_entry}
use Rattle.task_pool.specs.declared.pool.Ticket.{Ticket}
use Rattle.task_queues.specs.declared.queues.Queues.{Queues}
use Rattle.task_queues.specs.BySource.{tasks_of, head}
use Rattle.task_queues.specs.OneList.{BySource, merged, sourced}
use Rattle.post_task.specs.declared.level.Level.{Level}
use Rattle.post_task.specs.declared.level.PrioSource.{PrioSource}
use Rattle.post_task.specs.declared.level.PrioSource.TheVariants.{Fixed, Signal}
use Rattle.post_task.specs.Waiting.{Waiting, Among, IsFirst, IsSelected, effective}
use Rattle.post_task.specs.Levels.{priority_in}
use Rattle.post_task.specs.InOrder.{first_from, first_by, precedes, in_order}
use Rattle.post_task.proofs.InOrder.{first_of_list, from_order}
use Rattle.page_fields.proofs.FieldLemmas.{first_number_is}
use Rattle.page_tasks.specs.declared.asked.Asked.{Asked}
use Rattle.page_tasks.specs.declared.page_task.PageTask.{PageTask}
use Rattle.page_tasks.specs.Seen.{steps_in, prio_source}
use Rattle.page_tasks.specs.Queued.{Queued, IsOf, priority_for, runnables}
use Rattle.page_tasks.specs.Standing.{sched_task_in, sched_tasks_in, tasks_in, priorities_in, AreScheduled, AreTasks}
use Rattle.page_tasks.proofs.Priorities.{priority_is}
use Rattle.page_tasks.proofs.Scheduled.{inside}

abbrev Waits : Type 0
Waits = Waiting PageTask

-- ---- the first by effective priority

module _ (p : Page) where
  abbrev Agrees : Waits → Type 0
  Agrees w = effective w ≡ model.effective p (sched_task_in w)

  before_is : (a b : Waits) → Agrees a → Agrees b → model.goes_before p (sched_task_in a) (sched_task_in b) ≡ precedes a b
  before_is a b ea eb =
      sym (ap (λ (n : ℕ). nat_lt (effective b) n || ((n == effective b) && nat_lt a.order b.order)) ea
      ∙ ap (λ (n : ℕ). nat_lt n (model.effective p (sched_task_in a)) || ((model.effective p (sched_task_in a) == n) && nat_lt a.order b.order)) eb)

  pick_is : (b : Bool) (x best : Waits) → cond b (sched_task_in x) (sched_task_in best) ≡ sched_task_in (cond b x best)
  pick_is true x best = refl
  pick_is false x best = refl

  picked : (b : Bool) (x best : Waits) → Agrees x → Agrees best → Agrees (cond b x best)
  picked true x best ex eb = ex
  picked false x best ex eb = eb

  from_is : (best : Waits) (rest : List Waits) → Agrees best → ((w : Waits) → Among w rest → Agrees w) → model.first_sched_from p (sched_task_in best) (map sched_task_in rest) ≡ sched_task_in (first_from precedes best rest)
  from_is best [] eb all = refl
  from_is best (x ∷ xs) eb all =
      let ex = all x (inl refl) in
      ap (λ (b : Bool). model.first_sched_from p (cond b (sched_task_in x) (sched_task_in best)) (map sched_task_in xs)) (before_is x best ex eb)
      ∙ ap (λ (t : Model.SchedTask). model.first_sched_from p t (map sched_task_in xs)) (pick_is (precedes x best) x best)
      ∙ from_is (cond (precedes x best) x best) xs (picked (precedes x best) x best ex eb) (λ w i. all w (inr i))

  first_is : (ws : List Waits) → ((w : Waits) → Among w ws → Agrees w) → model.first_of p (map sched_task_in ws) ≡ option_map sched_task_in (first_by precedes ws)
  first_is [] all = refl
  first_is (x ∷ xs) all = ap (λ t. Some t) (from_is x xs (all x (inl refl)) (λ w i. all w (inr i)))

-- ---- with the priorities that are known

module _ (levels : List Level) (ws : List Waits) (tickets : ℕ → Option Ticket) (inserts made : ℕ) (a : AreScheduled levels ws tickets inserts made) (fixed : (f : Priority) → priority_in levels (Fixed f) ≡ Some f)
    (q : Queued) (sched : q.sched_tasks ≡ sched_tasks_in ws) (known : q.priorities ≡ priorities_in levels) (p : Page) (is : IsOf q p) where
  now_is : (w : Waits) → Among w ws → (source : PrioSource) → w.source ≡ source → w.priority ≡ model.priority_now p (prio_source source)
  now_is w i (Fixed f) e = inside w.priority f (sym (a.each w i).priority ∙ ap (priority_in levels) e ∙ fixed f)
  now_is w i (Signal s) e =
      let there : priority_for q.priorities s ≡ Some w.priority = ap (λ ps. priority_for ps s) known ∙ priority_is levels s ∙ sym (ap (priority_in levels) e) ∙ (a.each w i).priority in
      sym (ap (λ o. unwrap_or o UserVisible) (is.priorities s w.priority there))

  agrees : (w : Waits) → Among w ws → Agrees p w
  agrees w i = ap (λ (x : Priority). 2 * rank x + cond w.continuation 1 0) (now_is w i w.source refl)

  by_order : model.first_sched p ≡ option_map sched_task_in (first_by precedes (in_order ws))
  by_order = ap (model.first_of p) (is.sched_tasks ∙ sched) ∙ first_is p (in_order ws) (λ w i. agrees w (from_order w ws i))

  pub first_sched_is : (t : Waits) → IsFirst t ws → Some (sched_task_in t) ≡ model.first_sched p
  first_sched_is t first = sym (by_order ∙ ap (option_map sched_task_in) (first_of_list t ws a.rise first))

  pub none_first : ws ≡ [] → None ≡ model.first_sched p
  none_first none = sym (by_order ∙ ap (λ (xs : List Waits). option_map sched_task_in (first_by precedes (in_order xs))) none)

  pub selected_is : (o : Option ℕ) → IsSelected o ws → o ≡ first_number p Sched
  selected_is None none = ap (option_map (λ t. t.order)) (none_first none)
  selected_is (Some n) s = ap (λ (m : ℕ). Some m) s.2 ∙ ap (option_map (λ t. t.order)) (first_sched_is s.0 s.1)

-- ---- the numbers of the first tasks

module _ (pool : Lists PageTask) (queues : Queues PageTask) (asked : List Asked) (made : ℕ) (a : AreTasks (tasks_of queues pool) asked made) (q : Queued) (tasks : q.tasks ≡ tasks_in (tasks_of queues pool)) (p : Page) (is : IsOf q p) where
  pub head_is : (s : Source) → s ≢ Sched → head queues pool s ≡ first_number p s
  head_is s other = sym (first_number_is steps_in (tasks_of queues pool) (merged (tasks_of queues pool)) p s other a.one (is.tasks ∙ tasks))

  pub numbers_are : (o : Option ℕ) → o ≡ first_number p Sched
      → head queues pool User ∷ head queues pool Render ∷ o ∷ head queues pool Timer ∷ head queues pool Net ∷ head queues pool Dom ∷ head queues pool Idle ∷ [] ≡ map (first_number p) default_list
  numbers_are o sched =
      let user = head_is User (λ e. cc) in
      let render = head_is Render (λ e. cc) in
      let timer = head_is Timer (λ e. cc) in
      let net = head_is Net (λ e. cc) in
      let dom = head_is Dom (λ e. cc) in
      let idle = head_is Idle (λ e. cc) in
      cc

pub view_is : (p : Page) → runnables (map (first_number p) default_list) ≡ view p
view_is p = refl

-- no source has a number exactly where none is runnable
pub none_runnable : (a b c d e f g : Option ℕ) → list_all (λ (o : Option ℕ). not (is_some o)) (a ∷ b ∷ c ∷ d ∷ e ∷ f ∷ g ∷ []) ≡ is_empty (runnables (a ∷ b ∷ c ∷ d ∷ e ∷ f ∷ g ∷ []))
none_runnable (Some x) b c d e f g = refl
none_runnable None (Some x) c d e f g = refl
none_runnable None None (Some x) d e f g = refl
none_runnable None None None (Some x) e f g = refl
none_runnable None None None None (Some x) f g = refl
none_runnable None None None None None (Some x) g = refl
none_runnable None None None None None None (Some x) = refl
none_runnable None None None None None None None = refl

pub none_in : (p : Page) → list_all (λ (o : Option ℕ). not (is_some o)) (map (first_number p) default_list) ≡ is_empty (view p)
none_in p = none_runnable (first_number p User) (first_number p Render) (first_number p Sched) (first_number p Timer) (first_number p Net) (first_number p Dom) (first_number p Idle)

-- ---- the rendering source

there_by : (o : Option (Entry PageTask)) → is_some (option_map (λ (e : Entry PageTask). e.number) o) ≡ is_there (option_map (task_of steps_in) (option_map (sourced Render) o))
there_by None = refl
there_by (Some e) = refl

pub render_is : (lists : BySource PageTask) (asked : List Asked) (made : ℕ) → AreTasks lists asked made → is_some (option_map (λ (e : Entry PageTask). e.number) (first_entry (lists Render))) ≡ is_there (first_task Render (tasks_in lists))
render_is lists asked made a = there_by (first_entry (lists Render)) ∙ sym (ap is_there (first_by_list lists asked made Render a))
