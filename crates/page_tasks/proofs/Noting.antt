-- Which host closure was asked for a registration.
use Rattle.std.proofs.Common.{◌≡◌, ℕ, Bool, true, false, cond, List, [], ◌∷◌, map, Option, None, Some, eqb, refl, sym, ◌∙◌, ap}
use Rattle.std.specs.Prelude.{option_map, filter_map}
use Rattle.std.specs.List.{find}
use Rattle.page_model.specs.State as Model
use Rattle.page_model.specs.PageSignals.{host_task_of, is_for, task_in_net}
use Rattle.page_tasks.specs.declared.asked.Asked.{Asked}
use Rattle.page_tasks.specs.Seen.{host_task}
use Rattle.page_tasks.specs.Asking.{asked_for}
use Rattle.page_tasks.specs.Standing.{NotedHost, noted, noted_of}
use Rattle.page_tasks.proofs.Sources.{noted_cons, noted_list}

module _ (r : ℕ) where
  -- the first that was noted
  abbrev noted_for : List NotedHost → Option Model.HostTask
  noted_for xs = option_map (λ (x : NotedHost). x.task) (find (λ (x : NotedHost). eqb x.task.registration r) xs)

  asked_is : (asked : List Asked) → option_map host_task (asked_for r asked) ≡ noted_for (map noted asked)
  asked_is [] = refl
  asked_is (a ∷ more) = by (eqb a.task.registration r) (asked_is more)
    where
      by : (b : Bool) → option_map host_task (asked_for r more) ≡ noted_for (map noted more)
          → option_map host_task (option_map (λ (x : Asked). x.task) (cond b (Some a) (find (λ (x : Asked). eqb x.task.registration r) more)))
          ≡ option_map (λ (x : NotedHost). x.task) (cond b (Some (noted a)) (find (λ (x : NotedHost). eqb x.task.registration r) (map noted more)))
      by true rest = refl
      by false rest = rest

  abbrev pub asks : Model.Task → Bool
  asks t = is_for r (host_task_of t.steps)

  first_noted : (t : Model.Task) (h : Option Model.HostTask) (ts : List Model.Task) → host_task_of t.steps ≡ h → noted_for (filter_map noted_of ts) ≡ task_in_net (find asks ts)
      → noted_for (noted_list (option_map (λ x. record { number = t.number; task = x }) h) (filter_map noted_of ts)) ≡ task_in_net (cond (is_for r h) (Some t) (find asks ts))
  first_noted t None ts is rest = rest
  first_noted t (Some h) ts is rest = by (eqb h.registration r)
    where
      by : (b : Bool) → option_map (λ (x : NotedHost). x.task) (cond b (Some (record { number = t.number; task = h })) (find (λ (x : NotedHost). eqb x.task.registration r) (filter_map noted_of ts))) ≡ task_in_net (cond b (Some t) (find asks ts))
      by true = sym is
      by false = rest

  found_is : (ts : List Model.Task) → noted_for (filter_map noted_of ts) ≡ task_in_net (find asks ts)
  found_is [] = refl
  found_is (t ∷ ts) = ap noted_for (noted_cons t ts) ∙ first_noted t (host_task_of t.steps) ts refl (found_is ts)

  pub asked_task : (asked : List Asked) (ts : List Model.Task) → map noted asked ≡ filter_map noted_of ts → option_map host_task (asked_for r asked) ≡ task_in_net (find asks ts)
  asked_task asked ts is = asked_is asked ∙ ap noted_for is ∙ found_is ts
