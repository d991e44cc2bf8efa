-- What is done with host closures, in pieces. Ours
use Rattle.std.specs.Prelude.{ℕ, ◌+◌, ◌==◌, ℤ, slice_get, Bool, find, ◌||◌}
use Rattle.page_types.specs.Events.{Arm}
use Rattle.page_parts.specs.Words.{and_last, without, is_there}
use Rattle.page_model.specs.State.{Page, emit}
use Rattle.page_model.specs.Operations.{latency_of}
use Rattle.page_model.specs.PageSignals.{waiting_answer, waiting_net_task, task_in_answer, task_in_net, drop_closure, is_delay_of}
use Rattle.page_hosts.specs.Hosts.{ask_at}

-- closure k is asked on a number for a registration, and its answer is pending until the latency has passed, without the line
abbrev pub answer_set : (closure : ℕ) → ℤ → (registration : ℕ) → Page → Page
answer_set k x r p =
    record p {
      hosts = ask_at k (slice_get p.hosts k) p.hosts;
      host_answers = and_last p.host_answers (record {
        due = p.now + latency_of p.latencies k;
        task = record { registration = r; closure = k; number = x };
      });
    }

-- the same with the line: what `host_queued` does once its registration is made
abbrev pub answer_awaited : (closure : ℕ) → ℤ → (registration : ℕ) → Page → Page
answer_awaited k x r p = emit (Arm r (p.now + latency_of p.latencies k) 0) (answer_set k x r p)

-- the closure that a registration's net task asks is dropped
abbrev pub net_task_dropped : (registration : ℕ) → Page → Page
net_task_dropped r p = record p { hosts = drop_closure (task_in_net (waiting_net_task r p)) p.hosts }

-- a registration's host answer is no longer pending, and its closure is dropped
abbrev pub answer_dropped : (registration : ℕ) → Page → Page
answer_dropped r p =
    record p {
      hosts = drop_closure (task_in_answer (waiting_answer r p)) p.hosts;
      host_answers = without (λ a. a.task.registration == r) p.host_answers;
    }

-- a scheduler task of a registration waits, or its delay
abbrev pub enqueued_for : (registration : ℕ) → Page → Bool
enqueued_for r p =
    is_there (find (λ t. t.registration == r) p.sched_tasks) || is_there (find (λ c. is_delay_of r c.completion) p.completions)

-- a host answer of a registration is pending, or its task waits
abbrev pub host_task_for : (registration : ℕ) → Page → Bool
host_task_for r p = is_there (waiting_answer r p) || is_there (waiting_net_task r p)
