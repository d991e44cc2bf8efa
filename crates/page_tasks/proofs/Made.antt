-- Nothing is queued at first.
use Rattle.std.proofs.Common.{◌≡◌, ℕ, ◌<◌, ◌≤◌, Bool, true, false, cond, List, [], ◌∷◌, length, Option, None, Some, eq-eqb, refl, sym, ◌∙◌, ap, subst, arith}
use Rattle.std.specs.Prelude.{option_map, slice_index_or}
use Rattle.std.specs.List.{find}
use mathlib.Core.Path.{fun_ext}
use Rattle.page_types.specs.declared.Source.{Source}
use Rattle.page_types.specs.declared.Source.TheVariants.{User, Net, Dom, Timer, Render, Sched, Idle}
use Rattle.task_pool.specs.Lists.{Entry, Lists, list_of}
use Rattle.task_pool.specs.declared.pool.Ticket.{Ticket}
use Rattle.task_queues.specs.declared.queues.Queues.{Queues}
use Rattle.task_queues.specs.BySource.{list_number, tasks_of, StandIn}
use Rattle.task_queues.specs.OneList.{BySource, merged}
use Rattle.task_queues.proofs.OneListLemmas.{none_is_one_list}
use Rattle.post_task.specs.declared.level.Level.{Level}
use Rattle.post_task.specs.declared.level.PrioSource.{PrioSource}
use Rattle.post_task.specs.declared.level.PrioSource.TheVariants.{Fixed, Signal}
use Rattle.post_task.specs.Waiting.{Waiting, same_source}
use Rattle.post_task.specs.Levels.{Sched as SchedLevels, all_queues, has_source, Lone, waiting, priority_in, Kept}
use Rattle.page_tasks.specs.declared.page_task.PageTask.{PageTask}
use Rattle.page_tasks.specs.Queued.{SignalPriority, none_queued}
use Rattle.page_tasks.specs.Standing.{seen_in, priorities_in, priority_by, tasks_in, sched_tasks_in, AreTasks, AreScheduled, AreOnce, IsStanding}
use Rattle.page_tasks.proofs.Beside.{list_within}

abbrev no_lists : BySource PageTask
no_lists = λ s. []

none_tasks : (made : ℕ) → AreTasks no_lists [] made
none_tasks made = record { one = none_is_one_list no_lists (λ s. refl); below = tt; steps = λ s. tt; noted = refl }

none_scheduled : (levels : List Level) (tickets : ℕ → Option Ticket) (inserts made : ℕ) → ((r : ℕ) → tickets r ≡ None) → AreScheduled levels [] tickets inserts made
none_scheduled levels tickets inserts made none =
    record {
      rise = tt;
      each = λ w i. absurd i;
      cells = λ a b i j e. absurd i;
      known = λ r t e. absurd (let h = none r in let e2 : Some t ≡ None = sym e ∙ h in cc);
    }

-- a signal that has lists has a priority
module _ (rest : List Level) (level : Level) where
  at_source : (source : PrioSource) → level.source ≡ source → ((s : ℕ) → priority_in (level ∷ rest) (Signal s) ≡ None) → (priority_by level ≡ None) × ((s : ℕ) → priority_in rest (Signal s) ≡ None)
  at_source (Fixed f) is none =
      let by : priority_by level ≡ None = rw is in (
        by,
        λ s. let h = none s in let e : has_source (Signal s) level ≡ false = ap (λ (x : PrioSource). same_source x (Signal s)) is in
            sym (ap (λ (b : Bool). option_map (λ (l : Level). l.priority) (cond b (Some level) (find (has_source (Signal s)) rest))) e) ∙ h,
      )
  at_source (Signal a) is none =
      let e : has_source (Signal a) level ≡ true = ap (λ (x : PrioSource). same_source x (Signal a)) is ∙ eq-eqb a a refl in
      let h : Some level.priority ≡ None = sym (ap (λ (b : Bool). option_map (λ (l : Level). l.priority) (cond b (Some level) (find (has_source (Signal a)) rest))) e) ∙ none a in
      absurd (cc)

pub no_priorities : (levels : List Level) → ((s : ℕ) → priority_in levels (Signal s) ≡ None) → priorities_in levels ≡ []
no_priorities [] none = refl
no_priorities (level ∷ rest) none =
    let h = at_source rest level level.source refl none in
    rw h.0 (no_priorities rest h.1)

-- what making the queues and the pool says
pub record IsMade (p0 p1 p2 : Lists PageTask) (queues : Queues PageTask) (sched : SchedLevels) (tickets : ℕ → Option Ticket) : Type 0 where
  pub begun : p0.lists ≡ []
  pub stand : StandIn queues p1
  pub empty : (s : Source) → tasks_of queues p1 s ≡ []
  pub first : (l : ℕ) → list_of p1 l ≡ list_of p0 l
  pub kept : Kept sched p2
  pub none : waiting sched.levels p2 ≡ []
  pub apart : (l : ℕ) → l < length p1.lists → Lone l (all_queues sched.levels)
  pub more : length p1.lists ≤ length p2.lists
  pub second : (l : ℕ) → list_of p2 l ≡ list_of p1 l
  pub inserts : p2.inserts ≡ 0
  pub no_ticket : (r : ℕ) → tickets r ≡ None
  pub signals : (s : ℕ) → priority_in sched.levels (Signal s) ≡ None

module _ (p0 p1 p2 : Lists PageTask) (queues : Queues PageTask) (sched : SchedLevels) (tickets : ℕ → Option Ticket) (m : IsMade p0 p1 p2 queues sched tickets) where
  list_is : (l : ℕ) → list_of p2 l ≡ list_of p1 l
  list_is l = m.second l

  tasks_by : (s : Source) → tasks_of queues p2 s ≡ []
  tasks_by User = list_is (list_number queues User) ∙ m.empty User
  tasks_by Net = list_is (list_number queues Net) ∙ m.empty Net
  tasks_by Dom = list_is (list_number queues Dom) ∙ m.empty Dom
  tasks_by Timer = list_is (list_number queues Timer) ∙ m.empty Timer
  tasks_by Render = list_is (list_number queues Render) ∙ m.empty Render
  tasks_by Idle = list_is (list_number queues Idle) ∙ m.empty Idle
  tasks_by Sched = refl

  tasks_are : tasks_of queues p2 ≡ no_lists
  tasks_are = fun_ext tasks_by

  waiting_are : waiting sched.levels p2 ≡ []
  waiting_are = m.none

  no_list : (l : ℕ) → list_of p0 l ≡ []
  no_list l = ap (λ (ls : List (List (Entry PageTask))). slice_index_or ls l []) m.begun

  within : length p1.lists ≤ length p2.lists
  within = m.more

  pub made_standing : IsStanding p2 queues sched tickets [] 0
  made_standing =
      let tasks : AreTasks (tasks_of queues p2) [] 0 = subst (λ (ls : BySource PageTask). AreTasks ls [] 0) (sym tasks_are) (none_tasks 0) in
      let scheduled : AreScheduled sched.levels (waiting sched.levels p2) tickets p2.inserts 0 = subst (λ (ws : List (Waiting PageTask)). AreScheduled sched.levels ws tickets p2.inserts 0) (sym waiting_are) (none_scheduled sched.levels tickets p2.inserts 0 m.no_ticket) in
      record {
        lists = record {
          stand = omega (arith, m.stand, within);
          kept = m.kept;
          apart = λ s other. m.apart (list_number queues s) (list_within queues p1 s m.stand other);
          others = λ l apart lone. list_is l ∙ m.first l ∙ no_list l;
        };
        tasks = tasks;
        scheduled = scheduled;
        once = subst (λ (ws : List (Waiting PageTask)). AreOnce (merged (tasks_of queues p2)) ws) (sym waiting_are) (λ w i. absurd i);
        inserts = omega (arith, m.inserts);
      }

  pub made_seen : seen_in p2 queues sched 0 ≡ none_queued p2.spare
  made_seen =
      ap (λ (ls : BySource PageTask). record (seen_in p2 queues sched 0) { tasks = tasks_in ls }) tasks_are
      ∙ ap (λ (ws : List (Waiting PageTask)). record (none_queued p2.spare) { sched_tasks = sched_tasks_in ws; priorities = priorities_in sched.levels }) waiting_are
      ∙ ap (λ (ps : List SignalPriority). record (none_queued p2.spare) { priorities = ps }) (no_priorities sched.levels m.signals)
