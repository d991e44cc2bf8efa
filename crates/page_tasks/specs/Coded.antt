-- The codes that the model of a page's queued tasks asks for. Ours
use Rattle.std.specs.Prelude.{◌≡◌, ℕ, zero, suc, Bool, ℤ, List, refl}
use Rattle.std.specs.Coded.{Coded, code_by, coded×, coded⊎, coded_ℕ, coded_bool, coded_ℤ, coded_list}
use mathlib.Core.Logic.{◌⊎◌, inl, inr}
use Rattle.page_types.specs.Values.{Value}
use Rattle.page_types.specs.ValueCode.{coded_value}
use Rattle.page_types.specs.declared.Source.{Source}
use Rattle.page_types.specs.declared.Source.TheVariants.{User, Net, Dom, Timer, Render, Sched, Idle}
use Rattle.page_types.specs.declared.Priority.{Priority}
use Rattle.page_types.specs.declared.Priority.TheVariants.{Background, UserVisible, UserBlocking}
use Rattle.page_parts.specs.Sources.{source_number}
use Rattle.page_parts.specs.TaskSignals.{rank}
use Rattle.page_model.specs.State.{TimerTask, HostTask, Steps, Task, PrioSource, Fixed, OfSignal, SchedTask}
use Rattle.page_model.specs.State.{RunScript, RunTimer, TimeOutSignal, FireAtWindow, AnswerHost}
use Rattle.page_model.specs.State.{RunFrame, InvokeIdle, IdleTimeout, NotifyRejected, NotifyHandled}

-- a source by its place in the default list
abbrev pub source_at : ℕ → Source
source_at zero = User
source_at (suc zero) = Render
source_at (suc (suc zero)) = Sched
source_at (suc (suc (suc zero))) = Timer
source_at (suc (suc (suc (suc zero)))) = Net
source_at (suc (suc (suc (suc (suc zero))))) = Dom
source_at (suc (suc (suc (suc (suc (suc n)))))) = Idle

pub source_at-number : (s : Source) → source_at (source_number s) ≡ s
source_at-number User = refl
source_at-number Net = refl
source_at-number Dom = refl
source_at-number Timer = refl
source_at-number Render = refl
source_at-number Sched = refl
source_at-number Idle = refl

abbrev coded_source : Coded Source
coded_source = code_by ℕ coded_ℕ source_number source_at source_at-number

-- a priority by its rank
abbrev priority_at : ℕ → Priority
priority_at zero = Background
priority_at (suc zero) = UserVisible
priority_at (suc (suc n)) = UserBlocking

pub priority_at-rank : (p : Priority) → priority_at (rank p) ≡ p
priority_at-rank Background = refl
priority_at-rank UserVisible = refl
priority_at-rank UserBlocking = refl

abbrev pub coded_priority : Coded Priority
coded_priority = code_by ℕ coded_ℕ rank priority_at priority_at-rank

abbrev pub coded_timer_task : Coded TimerTask
coded_timer_task =
    code_by (ℕ × (ℕ × (ℕ × (ℕ × (Bool × ℤ)))))
    (coded× coded_ℕ (coded× coded_ℕ (coded× coded_ℕ (coded× coded_ℕ (coded× coded_bool coded_ℤ)))))
    (λ t. (t.registration, (t.id, (t.handle, (t.level, (t.repeats, t.timeout))))))
    (λ p. record {
      registration = p.0;
      id = p.1.0;
      handle = p.1.1.0;
      level = p.1.1.1.0;
      repeats = p.1.1.1.1.0;
      timeout = p.1.1.1.1.1;
    })
    (λ _. refl)

abbrev pub coded_host_task : Coded HostTask
coded_host_task =
    code_by (ℕ × (ℕ × ℤ)) (coded× coded_ℕ (coded× coded_ℕ coded_ℤ))
    (λ t. (t.registration, (t.closure, t.number)))
    (λ p. record { registration = p.0; closure = p.1.0; number = p.1.1 })
    (λ _. refl)

-- steps that have no number or one: which these are, and the number
abbrev OneNumber : Type 0
OneNumber = ℕ × ℕ

-- steps as those that have one number at most, or what the others have
abbrev Parts : Type 0
Parts = OneNumber ⊎ (TimerTask ⊎ ((List ℕ × Value) ⊎ (HostTask ⊎ List ℕ)))

abbrev split_steps : Steps → Parts
split_steps RunScript = inl (0, 0)
split_steps (TimeOutSignal s) = inl (1, s)
split_steps (RunFrame t) = inl (2, t)
split_steps InvokeIdle = inl (3, 0)
split_steps (IdleTimeout handle) = inl (4, handle)
split_steps (NotifyHandled n) = inl (5, n)
split_steps (RunTimer t) = inr (inl t)
split_steps (FireAtWindow name v) = inr (inr (inl (name, v)))
split_steps (AnswerHost t) = inr (inr (inr (inl t)))
split_steps (NotifyRejected ps) = inr (inr (inr (inr ps)))

-- the steps that have one number at most
abbrev numbered_steps : (zero n : ℕ) → Steps
numbered_steps zero n = RunScript
numbered_steps (suc zero) n = TimeOutSignal n
numbered_steps (suc (suc zero)) n = RunFrame n
numbered_steps (suc (suc (suc zero))) n = InvokeIdle
numbered_steps (suc (suc (suc (suc zero)))) n = IdleTimeout n
numbered_steps (suc (suc (suc (suc (suc which))))) n = NotifyHandled n

abbrev joined_steps : Parts → Steps
joined_steps (inl p) = numbered_steps p.0 p.1
joined_steps (inr (inl t)) = RunTimer t
joined_steps (inr (inr (inl p))) = FireAtWindow p.0 p.1
joined_steps (inr (inr (inr (inl t)))) = AnswerHost t
joined_steps (inr (inr (inr (inr ps)))) = NotifyRejected ps

pub joined_steps-split : (steps : Steps) → joined_steps (split_steps steps) ≡ steps
joined_steps-split RunScript = refl
joined_steps-split (TimeOutSignal s) = refl
joined_steps-split (RunFrame t) = refl
joined_steps-split InvokeIdle = refl
joined_steps-split (IdleTimeout handle) = refl
joined_steps-split (NotifyHandled n) = refl
joined_steps-split (RunTimer t) = refl
joined_steps-split (FireAtWindow name v) = refl
joined_steps-split (AnswerHost t) = refl
joined_steps-split (NotifyRejected ps) = refl

abbrev coded_steps : Coded Steps
coded_steps =
    code_by Parts
    (coded⊎ (coded× coded_ℕ coded_ℕ) (coded⊎ coded_timer_task
    (coded⊎ (coded× (coded_list coded_ℕ) coded_value) (coded⊎ coded_host_task (coded_list coded_ℕ)))))
    split_steps joined_steps joined_steps-split

abbrev pub coded_task : Coded Task
coded_task =
    code_by (ℕ × (Source × Steps)) (coded× coded_ℕ (coded× coded_source coded_steps))
    (λ t. (t.number, (t.source, t.steps)))
    (λ p. record { number = p.0; source = p.1.0; steps = p.1.1 })
    (λ _. refl)

abbrev split_prio_source : PrioSource → Priority ⊎ ℕ
split_prio_source (Fixed priority) = inl priority
split_prio_source (OfSignal s) = inr s

abbrev joined_prio_source : Priority ⊎ ℕ → PrioSource
joined_prio_source (inl priority) = Fixed priority
joined_prio_source (inr s) = OfSignal s

pub joined_prio_source-split : (source : PrioSource) → joined_prio_source (split_prio_source source) ≡ source
joined_prio_source-split (Fixed priority) = refl
joined_prio_source-split (OfSignal s) = refl

abbrev pub coded_prio_source : Coded PrioSource
coded_prio_source =
    code_by (Priority ⊎ ℕ) (coded⊎ coded_priority coded_ℕ) split_prio_source joined_prio_source joined_prio_source-split

abbrev pub coded_sched_task : Coded SchedTask
coded_sched_task =
    code_by (ℕ × (PrioSource × (Bool × ℕ))) (coded× coded_ℕ (coded× coded_prio_source (coded× coded_bool coded_ℕ)))
    (λ t. (t.registration, (t.source, (t.continuation, t.order))))
    (λ p. record { registration = p.0; source = p.1.0; continuation = p.1.1.0; order = p.1.1.1 })
    (λ _. refl)
