-- What the steps of a turn besides its task leave of a page: all that is counted of it, and the names of its script.
use Rattle.std.proofs.Common.{◌≡◌, ℕ, zero, suc, Bool, true, false, cond, ◌&&◌, List, Option, Some, None, refl, sym, ◌∙◌, ap, subst, map, length, nat_lt, nat_le}
use Rattle.page_types.specs.Events.{Due}
use Rattle.page_parts.specs.IdleCallbacks.{waits}
use Rattle.page_model.specs.State.{Page, Completion, QueueTimer, EnqueuePost, QueueSignal, emit, the_registration}
use Rattle.page_model.specs.SchedulerTasks.{enqueue}
use Rattle.page_model.specs.PageSignals.{is_aborted_source}
use Rattle.page_model.specs.PageTime.{deadline, period_begun, start_period, idle_step, completion_of, without_timer}
use Rattle.page_model.specs.Parallel.{ItemKind, ArrivalItem, HostItem, TimerItem, IdleItem, FrameItem, complete, complete_at, take_item, due_item, first_item, take_due, item_count, parallel}
use Rattle.page_model.specs.FoldBounds.{Counted, counted, AreBounded, FoldsAreBounded, HostIsBounded}
use Rattle.page_signals.specs.Laws.{as_fold}
use Rattle.page_state.specs.Standing.{Standing, page_of}
use Rattle.page_state.specs.PageActs.{changed_by}
use Rattle.page_state.specs.FoldActs.{hosting_of}
use Rattle.page_operations.specs.Asked.{functions_of}

-- what is counted of a page, and the names of its script
pub record Held : Type 0 where
  pub bounds : Counted
  pub names : List (List ℕ)

abbrev pub held : Page → Held
held p = record { bounds = counted p; names = p.names }

-- a change leaves them
abbrev pub Leaves : (Page → Page) → Type 0
Leaves f = (p : Page) → held (f p) ≡ held p

-- ---- parallel items

complete-leaves : (c : Completion) → Leaves (complete c)
complete-leaves (QueueTimer t) p = refl
complete-leaves (EnqueuePost r source) p = by (is_aborted_source p (the_registration p r).signal)
  where
    by : (b : Bool) → held (cond b (λ q. q) (enqueue r source false) (emit (Due r) p)) ≡ held p
    by true = refl
    by false = refl
complete-leaves (QueueSignal r s) p = refl

complete_at-leaves : (c : Option Completion) → Leaves (complete_at c)
complete_at-leaves None p = refl
complete_at-leaves (Some c) p = complete-leaves c p

take_item-leaves : (what : ItemKind) → Leaves (take_item what)
take_item-leaves (ArrivalItem n a) p = refl
take_item-leaves (HostItem a) p = refl
take_item-leaves (TimerItem t) p = complete_at-leaves (completion_of p.completions t.start) (without_timer t.start p)
take_item-leaves (IdleItem t) p = refl
take_item-leaves FrameItem p = refl

elim-leaves : {X : Type 0} (o : Option X) (p : Page) (f : X → Page) → ((x : X) → held (f x) ≡ held p) → held (elim o [ None ↦ p | Some x ↦ f x ]) ≡ held p
elim-leaves None p f k = refl
elim-leaves (Some x) p f k = k x

take_due-leaves : (n : ℕ) → Leaves (take_due n)
take_due-leaves zero p = refl
take_due-leaves (suc n) p =
    elim-leaves (due_item p.now (first_item p)) p (λ a. take_due n (take_item a.what p)) (λ a. take_due-leaves n (take_item a.what p) ∙ take_item-leaves a.what p)

pub parallel-leaves : Leaves parallel
parallel-leaves p = take_due-leaves (item_count p) p

-- ---- the idle step

cond-leaves : (b : Bool) (p q r : Page) → held q ≡ held p → held r ≡ held p → held (cond b q r) ≡ held p
cond-leaves true p q r h k = h
cond-leaves false p q r h k = k

start_period-leaves : Leaves start_period
start_period-leaves p = cond-leaves (waits p.idle && nat_lt p.now (deadline p.last_idle_start p) && nat_le p.idle_period_end p.now) p (period_begun (deadline p.last_idle_start p) p) p refl refl

pub idle_step-leaves : Leaves idle_step
idle_step-leaves p = start_period-leaves (record p { last_idle_start = p.now })

-- ---- so the page stays whole

module _ (f : Page → Page) (leaves : Leaves f) (s : Standing) where
  pub changed-bounded : HostIsBounded (hosting_of s) → HostIsBounded (hosting_of (changed_by f s))
  changed-bounded b =
      let e : counted (f (page_of s)) ≡ counted (page_of s) = ap (λ (h : Held). h.bounds) (leaves (page_of s)) in (
        subst AreBounded (sym e) b.0,
        subst (λ (c : Counted). FoldsAreBounded c.prios (map as_fold s.folds)) (sym e) b.1,
      )

  pub changed-functions : functions_of (changed_by f s) ≡ functions_of s
  changed-functions = ap (λ (h : Held). length h.names) (leaves (page_of s))
