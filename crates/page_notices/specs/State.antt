-- What the notices of the code are seen as.
use Rattle.std.specs.Prelude.{◌≡◌, ℕ, ◌<◌, ◌≤◌, ◌^◌, List, length, Option, IsTrue, refl}
use Rattle.std.specs.Coded.{Coded, code_by, coded_list, coded_option, coded×, coded⊎, coded_ℕ}
use mathlib.Core.Logic.{◌⊎◌, inl, inr}
use Rattle.page_parts.specs.Promises.{PromiseRecord, PromiseJob, React, Adopt, Reaction}
use Rattle.page_parts.specs.Notices.{Todo, Micro, OfPromise, WaitingJob, Notices}
use Rattle.promise_core.specs.Held.{Held, unhandled, all_within, coded_record, coded_reaction}
use Rattle.page_notices.specs.declared.jobs.NextJob.{NextJob}
use Rattle.page_notices.specs.Seen.{all_waiting}

-- these promises, these jobs that wait, of so many, and these numbers noted as outstanding: one that was handled since is passed over
abbrev pub state_of : Held → List NextJob → (made : ℕ) → (noted : List ℕ) → Notices
state_of h jobs made noted =
    record {
      promises = h.promises;
      jobs = all_waiting jobs;
      jobs_made = made;
      rejected = h.rejected;
      outstanding = unhandled h.promises noted;
    }

-- the promises are fewer than 2 ^ 32, there is room to note each, and none but these was noted
pub record IsKept (promises : List PromiseRecord) (room_for : ℕ) (noted : List ℕ) : Type 0 where
  pub few : length promises < 2 ^ 32
  pub room : length promises ≤ room_for
  pub within : IsTrue (all_within (length promises) noted)

-- ---- The codes that a model of these asks for

abbrev split_job : PromiseJob → (ℕ × Reaction) ⊎ (ℕ × ℕ)
split_job (React of r) = inl (of, r)
split_job (Adopt into from) = inr (into, from)

abbrev joined_job : (ℕ × Reaction) ⊎ (ℕ × ℕ) → PromiseJob
joined_job (inl t) = React t.0 t.1
joined_job (inr t) = Adopt t.0 t.1

pub joined_job-split : (job : PromiseJob) → joined_job (split_job job) ≡ job
joined_job-split (React of r) = refl
joined_job-split (Adopt into from) = refl

abbrev pub coded_job : Coded PromiseJob
coded_job =
    code_by ((ℕ × Reaction) ⊎ (ℕ × ℕ)) (coded⊎ (coded× coded_ℕ coded_reaction)
    (coded× coded_ℕ coded_ℕ)) split_job joined_job joined_job-split

abbrev split_todo : Todo → ℕ ⊎ PromiseJob
split_todo (Micro r) = inl r
split_todo (OfPromise job) = inr job

abbrev joined_todo : ℕ ⊎ PromiseJob → Todo
joined_todo (inl r) = Micro r
joined_todo (inr job) = OfPromise job

pub joined_todo-split : (what : Todo) → joined_todo (split_todo what) ≡ what
joined_todo-split (Micro r) = refl
joined_todo-split (OfPromise job) = refl

abbrev pub coded_todo : Coded Todo
coded_todo = code_by (ℕ ⊎ PromiseJob) (coded⊎ coded_ℕ coded_job) split_todo joined_todo joined_todo-split

abbrev pub coded_waiting : Coded WaitingJob
coded_waiting =
    code_by (ℕ × (Todo × (ℕ × Option ℕ))) (coded× coded_ℕ (coded× coded_todo (coded× coded_ℕ (coded_option coded_ℕ))))
    (λ j. (j.number, (j.what, (j.context.level, j.context.state))))
    (λ t. record { number = t.0; what = t.1.0; context = record { level = t.1.1.0; state = t.1.1.1 } })
    (λ _. refl)

abbrev pub coded_notices : Coded Notices
coded_notices =
    code_by (List PromiseRecord × (List WaitingJob × (ℕ × (List ℕ × List ℕ))))
    (coded× (coded_list coded_record) (coded× (coded_list coded_waiting)
    (coded× coded_ℕ (coded× (coded_list coded_ℕ) (coded_list coded_ℕ)))))
    (λ s. (s.promises, (s.jobs, (s.jobs_made, (s.rejected, s.outstanding)))))
    (λ t. record { promises = t.0; jobs = t.1.0; jobs_made = t.1.1.0; rejected = t.1.1.1.0; outstanding = t.1.1.1.1 })
    (λ _. refl)
