-- The calls on the task sources, on the whole.
use Rattle.std.proofs.Common.{Box, Global, ◌≡◌, ◌≢◌, ℕ, suc, ◌+◌, ◌≤◌, not, List, [], ◌∷◌, ◌++◌, drop, length, Option, None, Some, eqb, filter, IsTrue, refl, sym, ◌∙◌, ap, subst, arith}
use Rattle.std.specs.Prelude.{unwrap_or}
use Rattle.std.specs.List.{AllByRecursion}
use Rattle.std.specs.Option.{option_to_list, option_map}
use Rattle.page_types.specs.declared.Source.{Source}
use Rattle.page_parts.specs.Words.{and_last}
use Rattle.page_model.specs.State as Model
use Rattle.page_model.specs.PageSignals.{host_task_of}
use Rattle.page_model.specs.PageTime.{first_task}
use Rattle.page_fields.specs.Fields as Fields
use Rattle.cell_room.specs.declared.room.Cell.{Cell}
use Rattle.task_pool.specs.Lists.{Entry, Lists, list_of, first_entry, numbered}
use Rattle.task_pool.specs.declared.pool.Ticket.{Ticket}
use Rattle.task_queues.specs.declared.queues.Queues.{Queues}
use Rattle.task_queues.specs.BySource.{tasks_of, StandIn, IsApart, Queued as IsQueued}
use Rattle.task_queues.specs.OneList.{SourcedTask, BySource, sourced, merged, ListIs}
use Rattle.post_task.specs.declared.level.Level.{Level}
use Rattle.post_task.specs.Waiting.{Waiting}
use Rattle.post_task.specs.Levels.{Sched as SchedLevels, waiting}
use Rattle.page_tasks.specs.declared.asked.Asked.{Asked}
use Rattle.page_tasks.specs.declared.tasks.HostTask.{HostTask}
use Rattle.page_tasks.specs.declared.page_task.TaskSteps.{TaskSteps}
use Rattle.page_tasks.specs.declared.page_task.PageTask.{PageTask}
use Rattle.page_tasks.specs.declared.page_task.PageTask.TheVariants.{OfSource}
use Rattle.page_tasks.specs.Seen.{steps_of, host_task, has_steps, steps_in}
use Rattle.page_tasks.specs.Asking.{host_task_in, asked_by}
use Rattle.page_tasks.specs.Queued.{queued, with_spare, without_number}
use Rattle.page_tasks.specs.Standing.{seen_in, tasks_in, sched_tasks_in, AreTasks, AreScheduled, AreOnce, IsStanding}
use Rattle.page_tasks.proofs.Beside.{same_waiting, source_changed}
use Rattle.page_tasks.proofs.Sources.{all_last, all_without, queued_merged, queued_seen, queued_tasks, taken_merged, taken_seen, taken_tasks, first_by_list, first_steps, host_is}

-- more was put in, and more numbers were given out
pub later : (levels : List Level) (ws : List (Waiting PageTask)) (tickets : ℕ → Option Ticket) (i j m n : ℕ) → i ≤ j → m ≤ n → AreScheduled levels ws tickets i m → AreScheduled levels ws tickets j n
later levels ws tickets i j m n more after a =
    record {
      rise = a.rise;
      each = λ w in'. let k = a.each w in' in record { posted = k.posted; priority = k.priority; ticket = k.ticket; below = omega (arith, k.below, after); older = omega (arith, k.older, more) };
      cells = a.cells;
      known = a.known;
    }

-- what a call on a source's list says: every other list is as it was
pub record IsSourceCall (old new : Lists PageTask) (queues : Queues PageTask) (s : Source) (entries : List (Entry PageTask)) : Type 0 where
  pub queued : IsQueued queues old new s entries
  pub others : (l : ℕ) → IsApart queues l → list_of new l ≡ list_of old l
  pub stand : StandIn queues new
  pub count : length new.lists ≡ length old.lists

-- a task as it stands in its list
abbrev pub the_entry : ℕ → Cell → Box TaskSteps Global → Entry PageTask
the_entry n cell steps = record { cell = cell; number = n; item = OfSource steps }

abbrev list_is : (old new : Lists PageTask) (queues : Queues PageTask) (s : Source) (entries : List (Entry PageTask)) → IsSourceCall old new queues s entries → ListIs s entries (tasks_of queues old) (tasks_of queues new)
list_is old new queues s entries call = record { own = call.queued.tasks_are; others = call.queued.others }

module _ (old new : Lists PageTask) (queues : Queues PageTask) (sched : SchedLevels) (tickets : ℕ → Option Ticket) (asked : List Asked) (made : ℕ) (st : IsStanding old queues sched tickets asked made) where
  module _ (s : Source) (n : ℕ) (cell : Cell) (steps : Box TaskSteps Global) where
    module _ (next : n ≡ suc made) (call : IsSourceCall old new queues s (and_last (tasks_of queues old s) (the_entry n cell steps))) (inserts : new.inserts ≡ old.inserts + 1) where
      still : waiting sched.levels new ≡ waiting sched.levels old
      still = same_waiting queues old new sched st.lists call.others

      change : ListIs s (and_last (tasks_of queues old s) (the_entry n cell steps)) (tasks_of queues old) (tasks_of queues new)
      change = list_is old new queues s (and_last (tasks_of queues old s) (the_entry n cell steps)) call

      once_for : AreOnce (merged (tasks_of queues new)) (waiting sched.levels old)
      once_for w i =
          let lists = queued_merged (tasks_of queues old) (tasks_of queues new) asked made n s cell steps st.tasks next change in
          let P : SourcedTask PageTask → Type 0 = λ t. t.number ≢ w.order in
          let apart : P (sourced s (the_entry n cell steps)) = λ e. absurd (omega (arith, (st.scheduled.each w i).below, next, e)) in
          subst (λ (ts : List (SourcedTask PageTask)). AllByRecursion P ts) (sym lists) (all_last P (merged (tasks_of queues old)) (sourced s (the_entry n cell steps)) (st.once w i) apart)

      pub queued_standing : IsStanding new queues sched tickets (asked ++ option_to_list (asked_by n steps.value)) n
      queued_standing =
          record {
            lists = source_changed queues old new sched st.lists call.others call.stand call.count;
            tasks = queued_tasks (tasks_of queues old) (tasks_of queues new) asked made n s cell steps st.tasks next change;
            scheduled = subst (λ (ws : List (Waiting PageTask)). AreScheduled sched.levels ws tickets new.inserts n) (sym still)
                (later sched.levels (waiting sched.levels old) tickets old.inserts new.inserts made n (omega (arith, inserts)) (omega (arith, next)) st.scheduled);
            once = subst (λ (ws : List (Waiting PageTask)). AreOnce (merged (tasks_of queues new)) ws) (sym still) once_for;
            inserts = omega (arith, inserts, next, st.inserts);
          }

      pub queued_as : seen_in new queues sched n ≡ with_spare new.spare (queued s (steps_of steps.value) (seen_in old queues sched made))
      queued_as =
          ap (λ (ws : List (Waiting PageTask)). record (seen_in new queues sched n) { sched_tasks = sched_tasks_in ws }) still
          ∙ ap (λ (ts : List Model.Task). record (seen_in old queues sched n) { tasks = ts; spare = new.spare }) (queued_seen (tasks_of queues old) (tasks_of queues new) asked made n s cell steps st.tasks next change)
          ∙ ap (λ (m : ℕ). record (seen_in old queues sched m) { tasks = and_last (tasks_in (tasks_of queues old)) (record { number = m; source = s; steps = steps_of steps.value }); spare = new.spare }) next

  module _ (s : Source) (entry : Entry PageTask) (first : first_entry (tasks_of queues old s) ≡ Some entry) (call : IsSourceCall old new queues s (drop 1 (tasks_of queues old s))) (inserts : new.inserts ≡ old.inserts) where
    still_waits : waiting sched.levels new ≡ waiting sched.levels old
    still_waits = same_waiting queues old new sched st.lists call.others

    taking : ListIs s (drop 1 (tasks_of queues old s)) (tasks_of queues old) (tasks_of queues new)
    taking = list_is old new queues s (drop 1 (tasks_of queues old s)) call

    once_left : AreOnce (merged (tasks_of queues new)) (waiting sched.levels old)
    once_left w i =
        let lists = taken_merged (tasks_of queues old) (tasks_of queues new) asked made s entry st.tasks first taking in
        let P : SourcedTask PageTask → Type 0 = λ t. t.number ≢ w.order in
        subst (λ (ts : List (SourcedTask PageTask)). AllByRecursion P ts) (sym lists) (all_without P (λ t. eqb t.number entry.number) (merged (tasks_of queues old)) (st.once w i))

    pub taken_standing : IsStanding new queues sched tickets (filter (λ a. not (eqb a.number entry.number)) asked) made
    taken_standing =
        record {
          lists = source_changed queues old new sched st.lists call.others call.stand call.count;
          tasks = taken_tasks (tasks_of queues old) (tasks_of queues new) asked made s entry st.tasks first taking;
          scheduled = subst (λ (ws : List (Waiting PageTask)). AreScheduled sched.levels ws tickets new.inserts made) (sym still_waits)
              (later sched.levels (waiting sched.levels old) tickets old.inserts new.inserts made made (omega (arith, inserts)) (omega arith) st.scheduled);
          once = subst (λ (ws : List (Waiting PageTask)). AreOnce (merged (tasks_of queues new)) ws) (sym still_waits) once_left;
          inserts = omega (arith, inserts, st.inserts);
        }

    pub taken_as : seen_in new queues sched made ≡ with_spare new.spare (without_number entry.number (seen_in old queues sched made))
    taken_as =
        ap (λ (ws : List (Waiting PageTask)). record (seen_in new queues sched made) { sched_tasks = sched_tasks_in ws }) still_waits
        ∙ ap (λ (ts : List Model.Task). record (seen_in old queues sched made) { tasks = ts; spare = new.spare }) (taken_seen (tasks_of queues old) (tasks_of queues new) asked made s entry st.tasks first taking)

-- ---- what is given

-- the first entry, by what is handed out of it
pub record Gives (es : List (Entry PageTask)) (number : ℕ) (task : PageTask) : Type 0 where
  pub entry : Entry PageTask
  pub first : first_entry es ≡ Some entry
  pub number_is : entry.number ≡ number
  pub item_is : entry.item ≡ task

pub gives : (es : List (Entry PageTask)) (number : ℕ) (task : PageTask) → option_map numbered (first_entry es) ≡ Some (number, task) → Gives es number task
gives [] number task e = absurd (cc)
gives (x ∷ xs) number task e =
    let p : (x.number, x.item) ≡ (number, task) = ap (λ (o : Option (ℕ × PageTask)). unwrap_or o (number, task)) e in
    record { entry = x; first = refl; number_is = ap (λ (q : ℕ × PageTask). q.0) p; item_is = ap (λ (q : ℕ × PageTask). q.1) p }

none_given : (es : List (Entry PageTask)) → option_map numbered (first_entry es) ≡ None → first_entry es ≡ None
none_given [] e = refl
none_given (x ∷ xs) e = absurd (cc)

module _ (lists : BySource PageTask) (asked : List Asked) (made : ℕ) (s : Source) (a : AreTasks lists asked made) where
  pub no_first : option_map numbered (first_entry (lists s)) ≡ None → None ≡ first_task s (tasks_in lists)
  no_first none = sym (first_by_list lists asked made s a ∙ ap (λ o. option_map (Fields.task_of steps_in) (option_map (sourced s) o)) (none_given (lists s) none))

  -- a task of this source
  abbrev pub numbered_task : ℕ → Model.Steps → Model.Task
  numbered_task number steps = record { number = number; source = s; steps = steps }

  pub the_first : (number : ℕ) (task : PageTask) → option_map numbered (first_entry (lists s)) ≡ Some (number, task) → Some (numbered_task number (steps_in task)) ≡ first_task s (tasks_in lists)
  the_first number task e =
      let g = gives (lists s) number task e in
      ap (λ (n : ℕ). Some (numbered_task n (steps_in task))) (sym g.number_is)
      ∙ ap (λ (t : PageTask). Some (numbered_task g.entry.number (steps_in t))) (sym g.item_is)
      ∙ sym (first_by_list lists asked made s a ∙ ap (λ o. option_map (Fields.task_of steps_in) (option_map (sourced s) o)) g.first)

  -- what is handed out has steps
  pub the_steps : (number : ℕ) (task : PageTask) → option_map numbered (first_entry (lists s)) ≡ Some (number, task) → IsTrue (has_steps task)
  the_steps number task e =
      let g = gives (lists s) number task e in
      subst (λ (t : PageTask). IsTrue (has_steps t)) g.item_is (first_steps lists asked made s g.entry a g.first)

-- ---- what is noted

-- a task of a host closure, noted with its number
abbrev noted_with : ℕ → HostTask → Asked
noted_with number task = record { number = number; task = task }

not_host : (o : Option HostTask) → option_map host_task o ≡ None → o ≡ None
not_host None e = refl
not_host (Some t) e = absurd (cc)

pub not_asked : (number : ℕ) (steps : TaskSteps) → host_task_of (steps_of steps) ≡ None → asked_by number steps ≡ None
not_asked number steps none = ap (λ (o : Option HostTask). option_map (noted_with number) o) (not_host (host_task_in steps) (sym (host_is steps) ∙ none))
