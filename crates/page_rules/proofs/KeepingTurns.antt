-- What a page does between its scripts leaves its time, and what stays within a turn.
use Rattle.std.proofs.Common.{◌≡◌, ℕ, zero, suc, Bool, true, false, cond, List, [], Option, Some, None, refl, ◌∙◌, ◌&&◌, nat_lt, nat_le}
use Rattle.page_types.specs.Values.{Value}
use Rattle.page_types.specs.declared.Source.TheVariants.{Dom}
use Rattle.page_types.specs.Events.{Event, Due}
use Rattle.page_parts.specs.Words.{is_empty}
use Rattle.page_parts.specs.IdleCallbacks.{waits}
use Rattle.page_parts.specs.Notices.{WaitingJob}
use Rattle.page_parts.specs.Promises.{Settled, Reaction}
use Rattle.page_model.specs.State.{Completion, QueueTimer, EnqueuePost, QueueSignal, NotifyRejected, Registration, Page, no_registration, emit, queue_task, the_registration}
use Rattle.page_model.specs.PagePromises as promises
use Rattle.page_model.specs.PageCombinators.{lead_into, pass_on}
use Rattle.page_model.specs.PageSignals.{is_aborted_source}
use Rattle.page_model.specs.PageTime.{deadline, period_begun, start_period, idle_step}
use Rattle.page_model.specs.SchedulerTasks.{enqueue, without_sched}
use Rattle.page_model.specs.Invoke.{WhenReported, call_begun, call_ended, thrown, report_before, report_after, job_begun, checkpoint_begun, checkpoint_ended, resolve_derived}
use Rattle.page_model.specs.Parallel.{ItemKind, ArrivalItem, HostItem, TimerItem, IdleItem, FrameItem, Item, complete, complete_at, take_item, due_item, first_item, take_due, item_count, parallel}
use Rattle.page_model.specs.Turns.{without_task}
use Rattle.page_model.specs.PageTime.{without_timer, completion_of}
use Rattle.page_model.proofs.Adding.Combining.{lead_into-related, resolve_derived-related}
use Rattle.page_rules.specs.Steady.{Steady, SteadyInScript}
use Rattle.page_rules.proofs.KeepingPages.{staying, staying-steady, lasting, lasting-steady, Has, Keeps, settle-keeps, follow-keeps, subscribe-keeps, relates-keeps, report_before-keeps, report_after-keeps}

-- ---- Within a script

steadily : (f : Page → Page) → ((p : Page) → Keeps (lasting p) f) → (p : Page) → SteadyInScript p (f p)
steadily f k p = lasting-steady p (f p) (k p p refl)

pub call_begun-steady : (r : ℕ) (p : Page) → SteadyInScript p (call_begun r p)
call_begun-steady r p = lasting-steady p (call_begun r p) refl

pub call_ended-steady : (line : Event) (p : Page) → SteadyInScript p (call_ended line p)
call_ended-steady line p = lasting-steady p (call_ended line p) refl

pub thrown-steady : (v : Value) (p : Page) → SteadyInScript p (thrown v p)
thrown-steady v p = lasting-steady p (thrown v p) refl

pub report_before-steady : (when : WhenReported) (v : Value) (p : Page) → SteadyInScript p (report_before when v p)
report_before-steady when v = steadily (report_before when v) (λ p. report_before-keeps (lasting p) when v)

pub report_after-steady : (when : WhenReported) (v : Value) (p : Page) → SteadyInScript p (report_after when v p)
report_after-steady when v = steadily (report_after when v) (λ p. report_after-keeps (lasting p) when v)

pub settle-steady : (n : ℕ) (how : Settled) (p : Page) → SteadyInScript p (promises.settle n how p)
settle-steady n how = steadily (promises.settle n how) (λ p. settle-keeps (lasting p) n how)

pub follow-steady : (n : ℕ) (how : Settled) (p : Page) → SteadyInScript p (promises.follow n how p)
follow-steady n how = steadily (promises.follow n how) (λ p. follow-keeps (lasting p) n how)

pub subscribe-steady : (n : ℕ) (r : Reaction) (p : Page) → SteadyInScript p (promises.subscribe n r p)
subscribe-steady n r = steadily (promises.subscribe n r) (λ p. subscribe-keeps (lasting p) n r)

pub lead_into-steady : (into : ℕ) (how : Settled) (p : Page) → SteadyInScript p (lead_into into how p)
lead_into-steady into how = steadily (lead_into into how) (λ p. lead_into-related (λ q r. Has (lasting p) q → Has (lasting p) r) (relates-keeps (lasting p)) into how)

pub resolve_derived-steady : (x : Registration) (into : ℕ) (how : Settled) (v : Value) (p : Page) → SteadyInScript p (resolve_derived x into how v p)
resolve_derived-steady x into how v =
    steadily (resolve_derived x into how v) (λ p. resolve_derived-related (λ q r. Has (lasting p) q → Has (lasting p) r) (relates-keeps (lasting p)) x into how v)

-- an outcome is passed on behind a handler of `finally`
pub pass_on-steady : (into : ℕ) (how : Settled) (v : Value) (p : Page) → SteadyInScript p (pass_on into how v p)
pass_on-steady into how v p = resolve_derived-steady (record no_registration { finally = true }) into how v p

pub without_task-steady : (n : ℕ) (p : Page) → SteadyInScript p (without_task n p)
without_task-steady n p = lasting-steady p (without_task n p) refl

pub without_sched-steady : (r : ℕ) (p : Page) → SteadyInScript p (without_sched r p)
without_sched-steady r p = lasting-steady p (without_sched r p) refl

-- ---- Jobs and checkpoints

pub job_begun-steady : (job : WaitingJob) (others : List WaitingJob) (p : Page) → Steady p (job_begun job others p)
job_begun-steady job others p = staying-steady p (job_begun job others p) refl

pub checkpoint_begun-steady : (p : Page) → Steady p (checkpoint_begun p)
checkpoint_begun-steady p = staying-steady p (checkpoint_begun p) refl

pub checkpoint_ended-steady : (before p : Page) → Steady p (checkpoint_ended before p)
checkpoint_ended-steady before p = staying-steady p (checkpoint_ended before p) (by (is_empty p.notices.rejected))
  where
    by : (b : Bool) → staying (cond b p (queue_task Dom (NotifyRejected p.notices.rejected) (record p { notices = record p.notices { rejected = [] } }))) ≡ staying p
    by true = refl
    by false = refl

-- ---- Parallel items

complete-stays : (c : Completion) (p : Page) → staying (complete c p) ≡ staying p
complete-stays (QueueTimer t) p = refl
complete-stays (EnqueuePost r source) p = by (is_aborted_source p (the_registration p r).signal)
  where
    by : (b : Bool) → staying (cond b (λ q. q) (enqueue r source false) (emit (Due r) p)) ≡ staying p
    by true = refl
    by false = refl
complete-stays (QueueSignal r s) p = refl

complete_at-stays : (o : Option Completion) (p : Page) → staying (complete_at o p) ≡ staying p
complete_at-stays None p = refl
complete_at-stays (Some c) p = complete-stays c p

take_item-stays : (a : ItemKind) (p : Page) → staying (take_item a p) ≡ staying p
take_item-stays (ArrivalItem n a) p = refl
take_item-stays (HostItem a) p = refl
take_item-stays (TimerItem t) p = complete_at-stays (completion_of p.completions t.start) (without_timer t.start p)
take_item-stays (IdleItem t) p = refl
take_item-stays FrameItem p = refl

due-stays : (n : ℕ) → ((p : Page) → staying (take_due n p) ≡ staying p) → (p : Page) (o : Option Item) → staying (elim o [ None ↦ p | Some a ↦ take_due n (take_item a.what p) ]) ≡ staying p
due-stays n k p None = refl
due-stays n k p (Some a) = k (take_item a.what p) ∙ take_item-stays a.what p

take_due-stays : (n : ℕ) (p : Page) → staying (take_due n p) ≡ staying p
take_due-stays zero p = refl
take_due-stays (suc n) p = due-stays n (take_due-stays n) p (due_item p.now (first_item p))

pub parallel-steady : (p : Page) → Steady p (parallel p)
parallel-steady p = staying-steady p (parallel p) (take_due-stays (item_count p) p)

-- ---- The idle step

start_period-stays : (p : Page) → staying (start_period p) ≡ staying p
start_period-stays p = by (waits p.idle && nat_lt p.now (deadline p.last_idle_start p) && nat_le p.idle_period_end p.now)
  where
    by : (b : Bool) → staying (cond b (period_begun (deadline p.last_idle_start p) p) p) ≡ staying p
    by true = refl
    by false = refl

pub idle_step-steady : (p : Page) → Steady p (idle_step p)
idle_step-steady p = staying-steady p (idle_step p) (start_period-stays (record p { last_idle_start = p.now }))
