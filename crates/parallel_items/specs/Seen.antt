-- The types of the code as those of the model.
use Rattle.std.specs.Prelude.{ℕ, List, map, Option}
use Rattle.std.specs.Option.{option_map}
use Rattle.std.specs.declared.cmp.Reverse.{Reverse}
use Rattle.page_base.specs.declared.moment.Micros.{Micros}
use Rattle.page_parts.specs.Setup.{Arrival}
use Rattle.page_model.specs.State as model
use Rattle.page_model.specs.Parallel.{Item}
use Rattle.arrivals_text.specs.SeenParts.{arrival_of}
use Rattle.arrivals_text.specs.declared.arrival.Arrival as read
use Rattle.timer_map.specs.InOrder.{in_order}
use Rattle.parallel_items.specs.declared.completion.Completion.{Completion}
use Rattle.parallel_items.specs.declared.completion.Completion.TheVariants as completion
use Rattle.parallel_items.specs.declared.idle.IdleTimeout.{IdleTimeout}
use Rattle.parallel_items.specs.declared.taken.HostAnswer.{HostAnswer}
use Rattle.parallel_items.specs.declared.taken.Taken as code
use Rattle.parallel_items.specs.declared.taken.Taken.TheVariants as taken
use Rattle.page_tasks.specs.declared.tasks.HostTask.{HostTask}
use Rattle.page_tasks.specs.Seen.{timer_task, host_task, prio_source}
use Rattle.parallel_items.specs.InParallel.{TimerOwner}
use Rattle.parallel_items.specs.Items.{answer_item, Taken, TakenArrival, TakenAnswer, TakenCompletion, TakenIdleTimeout}

-- ---- completion steps

abbrev pub completion_seen : Completion → model.Completion
completion_seen (completion.QueueTimer t) = model.QueueTimer (timer_task t)
completion_seen (completion.EnqueuePost r source) = model.EnqueuePost r (prio_source source)
completion_seen (completion.QueueSignal r s) = model.QueueSignal r s

-- the completion steps of the active timer with a start number
abbrev pub completing_seen : ℕ × Completion → model.Completing
completing_seen entry = record { start = entry.0; completion = completion_seen entry.1 }

-- the completion steps of what comes due, each with the start number of its active timer
abbrev pub steps_of : List (ℕ × (ℕ × Completion)) → List (ℕ × Completion)
steps_of rows = map (λ (e : ℕ × (ℕ × Completion)). e.1) rows

-- those of a list, in the order of start
abbrev pub completings_of : (last : ℕ) → List (ℕ × Completion) → List model.Completing
completings_of last entries = map completing_seen (in_order (λ (entry : ℕ × Completion). entry.0) last entries)

abbrev pub owner_seen : ℕ × ℕ → TimerOwner
owner_seen entry = record { id = entry.0; registration = entry.1 }

-- the owners of a map, in the order of the ids
abbrev pub owners_of : (last : ℕ) → List (ℕ × ℕ) → List TimerOwner
owners_of last entries = map owner_seen (in_order (λ (entry : ℕ × ℕ). entry.0) last entries)

-- ---- host answers

abbrev pub answer_seen : HostAnswer → model.HostAnswer
answer_seen a = record { due = a.due.0; task = host_task a.task }

abbrev pub answers_of : List HostAnswer → List model.HostAnswer
answers_of answers = map answer_seen answers

-- the item of an answer
abbrev pub item_of_answer : HostAnswer → Item
item_of_answer a = answer_item (answer_seen a)

-- the item of an answer that may not be there
abbrev pub item_if_any : Option HostAnswer → Option Item
item_if_any answer = option_map (λ a. answer_item (answer_seen a)) answer

-- ---- idle timeouts

abbrev pub idle_seen : Reverse IdleTimeout → model.IdleTimer
idle_seen t = record { due = t.0.due.0; handle = t.0.handle; registration = t.0.registration }

abbrev pub idle_timers_of : List (Reverse IdleTimeout) → List model.IdleTimer
idle_timers_of timeouts = map idle_seen timeouts

-- those of a heap, in the order of their handles
abbrev pub idle_in_order : (last : ℕ) → List (Reverse IdleTimeout) → List model.IdleTimer
idle_in_order last timeouts = in_order (λ (t : model.IdleTimer). t.handle) last (idle_timers_of timeouts)

-- ---- arrivals

-- those of a map, in the order of its keys
abbrev pub arrivals_of : List ((Micros × ℕ) × read.Arrival) → List Arrival
arrivals_of entries = map (λ (entry : (Micros × ℕ) × read.Arrival). arrival_of entry.1) entries

-- ---- what is taken

abbrev pub taken_seen : code.Taken → Taken
taken_seen (taken.Arrival a) = TakenArrival (arrival_of a)
taken_seen (taken.HostAnswer t) = TakenAnswer (host_task t)
taken_seen (taken.Completion c) = TakenCompletion (completion_seen c)
taken_seen (taken.IdleTimeout handle r) = TakenIdleTimeout handle r

-- an arrival, where one is taken
abbrev pub arrival_taken : Option read.Arrival → Option Taken
arrival_taken arrival = option_map (λ a. TakenArrival (arrival_of a)) arrival

-- what a host is asked, where an answer is taken
abbrev pub answer_taken : Option HostTask → Option Taken
answer_taken task = option_map (λ t. TakenAnswer (host_task t)) task

-- completion steps, where some are taken
abbrev pub completion_taken : Option Completion → Option Taken
completion_taken steps = option_map (λ c. TakenCompletion (completion_seen c)) steps

-- an idle timeout, where one is taken
abbrev pub timeout_taken : Option IdleTimeout → Option Taken
timeout_taken timeout = option_map (λ (t : IdleTimeout). TakenIdleTimeout t.handle t.registration) timeout
