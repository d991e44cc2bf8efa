-- The codes that the models of the structs ask for.
use Rattle.std.specs.Prelude.{ℕ, List, ◌⊎◌, ◌≡◌, refl}
use Rattle.std.specs.Coded.{Coded, code_by, coded_list, coded×, coded⊎, coded_ℕ}
use Rattle.page_types.specs.ValueCode.{coded_value}
use Rattle.page_types.specs.contracts.Source as source_code
use Rattle.page_parts.specs.Setup.{Arrival}
use Rattle.page_parts.specs.Timers.{TimerId, ActiveTimer, Timers}
use Rattle.page_model.specs.State.{TimerTask, HostTask, PrioSource, Completion, QueueTimer, EnqueuePost, QueueSignal, Completing, IdleTimer, HostAnswer}
use Rattle.page_tasks.specs.Coded.{coded_timer_task, coded_host_task, coded_prio_source}
use Rattle.parallel_items.specs.InParallel.{Waiting, TimerOwner, InParallel}
use Rattle.parallel_items.specs.Views.{ArrivalList}
use mathlib.Core.Logic.{inl, inr}

-- ---- timers

abbrev coded_pair : Coded (ℕ × ℕ)
coded_pair = coded× coded_ℕ coded_ℕ

abbrev coded_timers : Coded Timers
coded_timers =
    code_by (List TimerId × (List ActiveTimer × (ℕ × (ℕ × ℕ))))
    (coded× (coded_list (code_by (ℕ × ℕ) coded_pair (λ e. (e.id, e.handle)) (λ p. record { id = p.0; handle = p.1 }) (λ _. refl)))
    (coded× (coded_list (code_by (ℕ × ℕ) coded_pair (λ t. (t.start, t.due)) (λ p. record { start = p.0; due = p.1 }) (λ _. refl)))
    (coded× coded_ℕ coded_pair)))
    (λ t. (t.ids, (t.active, (t.ids_made, (t.handles_made, t.starts_made)))))
    (λ p. record { ids = p.0; active = p.1.0; ids_made = p.1.1.0; handles_made = p.1.1.1.0; starts_made = p.1.1.1.1 })
    (λ _. refl)

-- completion steps as those of one kind or of another
abbrev split_completion : Completion → TimerTask ⊎ ((ℕ × PrioSource) ⊎ (ℕ × ℕ))
split_completion (QueueTimer t) = inl t
split_completion (EnqueuePost r source) = inr (inl (r, source))
split_completion (QueueSignal r s) = inr (inr (r, s))

abbrev joined_completion : TimerTask ⊎ ((ℕ × PrioSource) ⊎ (ℕ × ℕ)) → Completion
joined_completion (inl t) = QueueTimer t
joined_completion (inr (inl p)) = EnqueuePost p.0 p.1
joined_completion (inr (inr p)) = QueueSignal p.0 p.1

pub joined_split_completion : (completion : Completion) → joined_completion (split_completion completion) ≡ completion
joined_split_completion (QueueTimer t) = refl
joined_split_completion (EnqueuePost r source) = refl
joined_split_completion (QueueSignal r s) = refl

abbrev coded_completion : Coded Completion
coded_completion =
    code_by (TimerTask ⊎ ((ℕ × PrioSource) ⊎ (ℕ × ℕ))) (coded⊎ coded_timer_task (coded⊎ (coded× coded_ℕ coded_prio_source) coded_pair))
    split_completion joined_completion joined_split_completion

abbrev coded_completing : Coded Completing
coded_completing =
    code_by (ℕ × Completion) (coded× coded_ℕ coded_completion)
    (λ c. (c.start, c.completion)) (λ p. record { start = p.0; completion = p.1 }) (λ _. refl)

-- ---- idle timeouts, host answers, arrivals

abbrev coded_idle_timer : Coded IdleTimer
coded_idle_timer =
    code_by (ℕ × (ℕ × ℕ)) (coded× coded_ℕ coded_pair)
    (λ t. (t.due, (t.handle, t.registration))) (λ p. record { due = p.0; handle = p.1.0; registration = p.1.1 }) (λ _. refl)

abbrev coded_host_answer : Coded HostAnswer
coded_host_answer =
    code_by (ℕ × HostTask) (coded× coded_ℕ coded_host_task)
    (λ a. (a.due, a.task)) (λ p. record { due = p.0; task = p.1 }) (λ _. refl)

abbrev coded_arrival : Coded Arrival
coded_arrival =
    code_by _ (coded× coded_ℕ (coded× source_code.the_row.coded (coded× (coded_list coded_ℕ) coded_value)))
    (λ a. (a.at, (a.source, (a.name, a.value))))
    (λ p. record { at = p.0; source = p.1.0; name = p.1.1.0; value = p.1.1.1 })
    (λ _. refl)

abbrev pub coded_arrivals : Coded ArrivalList
coded_arrivals =
    code_by (List Arrival × ℕ) (coded× (coded_list coded_arrival) coded_ℕ)
    (λ a. (a.arrivals, a.made)) (λ p. record { arrivals = p.0; made = p.1 }) (λ _. refl)

-- ---- all

abbrev coded_waiting : Coded Waiting
coded_waiting =
    code_by (Timers × (List Completing × (List IdleTimer × (List HostAnswer × List Arrival))))
    (coded× coded_timers
    (coded× (coded_list coded_completing)
    (coded× (coded_list coded_idle_timer) (coded× (coded_list coded_host_answer) (coded_list coded_arrival)))))
    (λ w. (w.timers, (w.completions, (w.idle_timers, (w.host_answers, w.arrivals)))))
    (λ p. record {
      timers = p.0;
      completions = p.1.0;
      idle_timers = p.1.1.0;
      host_answers = p.1.1.1.0;
      arrivals = p.1.1.1.1;
    })
    (λ _. refl)

abbrev coded_owner : Coded TimerOwner
coded_owner = code_by (ℕ × ℕ) coded_pair (λ o. (o.id, o.registration)) (λ p. record { id = p.0; registration = p.1 }) (λ _. refl)

abbrev pub coded_in_parallel : Coded InParallel
coded_in_parallel =
    code_by (Waiting × (List TimerOwner × (ℕ × ℕ))) (coded× coded_waiting (coded× (coded_list coded_owner) coded_pair))
    (λ s. (s.waiting, (s.owners, (s.last_idle, s.arrivals_made))))
    (λ p. record { waiting = p.0; owners = p.1.0; last_idle = p.1.1.0; arrivals_made = p.1.1.1 })
    (λ _. refl)
