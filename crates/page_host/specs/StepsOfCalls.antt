-- The steps of the script machine that callbacks, jobs and checkpoints are, by what the code hands to their calls.
use Rattle.std.specs.Prelude.{ℕ, suc, Bool, false, List, map, Option, Result, Vec}
use Rattle.std.specs.Option.{option_map}
use Rattle.std.specs.declared.alloc.Global.{Global}
use Rattle.page_parts.specs.Kinds as kinds
use Rattle.page_parts.specs.Promises.{has_failed}
use Rattle.page_values.specs.declared.Value.{Value}
use Rattle.page_values.specs.declared.Func.{Func}
use Rattle.page_values.specs.Seen.{seen, seen_func}
use Rattle.promise_core.specs.declared.record.Reaction.{Reaction}
use Rattle.promise_core.specs.Seen.{settled_seen, reaction_seen}
use Rattle.page_notices.specs.declared.jobs.Todo.{Todo}
use Rattle.page_notices.specs.Seen.{current, todo_seen}
use Rattle.lang_meaning.specs.Machine.{Done, Caller}
use Rattle.page_interp.specs.Machines.{bound_args}
use Rattle.page_model.specs.State.{Page, State, the_registration}
use Rattle.page_model.specs.PagePromises.{promise_at}
use Rattle.page_model.specs.Invoke.{call_back, callback_of, checkpoint_ended, in_checkpoint, in_task, invoke, under}
use Rattle.page_model.specs.Invoke.{react, react_then, run_job, run_jobs}
use Rattle.page_script.specs.declared.parts.WhenReported.{WhenReported}
use Rattle.page_script.specs.Reports.{when_seen}
use Rattle.page_state.specs.Standing.{Standing}
use Rattle.page_state.specs.PageActs.{read_by}
use Rattle.page_host.specs.Pieces.{derived, threw}
use Rattle.page_host.specs.Doing.{called, handled, run_next, threw_in_task}
use Rattle.page_host.specs.Tasking.{regardless}

-- ---- HTML, "Calling scripts"

-- the callback of a registration, its second one or its first, is invoked in a task
abbrev pub invoked : (r : ℕ) → (second : Bool) → List Value → Caller Page → State → Done Page
invoked r second args = λ call. invoke (in_task call) r second (map seen args)

-- the first one, whatever it gives or throws
abbrev pub callback_run : (r : ℕ) → List Value → Caller Page → State → Done Page
callback_run r args = λ call. regardless (invoke (in_task call) r false (map seen args))

-- a callback is invoked by a job, inside a checkpoint
abbrev pub job_invoked : (r : ℕ) → (second : Bool) → List Value → Caller Page → State → Done Page
job_invoked r second args = λ call. invoke (in_checkpoint call) r second (map seen args)

-- a callback is called, with its line; its end is not yet told
abbrev pub called_with : (r : ℕ) → (second : Bool) → List Value → Caller Page → State → Done Page
called_with r second args = called r second (map seen args)

-- the line of a callback's throw, and the report that comes before a checkpoint
abbrev pub throw_told : WhenReported → Value → Page → Page
throw_told when value = threw (when_seen when) (seen value)

-- in a task, behind a callback that threw this value
abbrev pub thrown_in_task : WhenReported → Value → Caller Page → State → Done Page
thrown_in_task when value = threw_in_task (when_seen when) (seen value)

-- a function is called, where there is one
abbrev pub function_called : Option Func → List Value → Caller Page → State → Done Page
function_called fun args = λ call. call_back call (option_map seen_func fun) (map seen args)

-- a function is called with arguments behind its bound ones
abbrev pub bound_called : Func → Vec Value Global → Caller Page → State → Done Page
bound_called fun args = λ call. call fun.function (bound_args fun args)

-- the function that a registration calls, as a page keeps it
abbrev pub callback_read : (r : ℕ) → (second : Bool) → Standing → Option kinds.Func
callback_read r second s = read_by (λ p. callback_of second (the_registration p r)) s

-- ---- HTML, "Event loops: processing model": perform a microtask checkpoint

-- the oldest job runs, until there is none
abbrev pub jobs_run : Caller Page → State → Done Page
jobs_run = λ call m. run_jobs call (suc m.fuel) m

-- the oldest job takes a unit of fuel, leaves the queue and runs, whatever it gives or throws
abbrev pub oldest_run : Caller Page → State → Done Page
oldest_run = λ call. regardless (run_next call)

-- the checkpoint ends, and this nesting level and this scheduling state are the current ones again
abbrev pub checkpoint_over : (level : ℕ) → (state : Option ℕ) → Page → Page
checkpoint_over level state = λ p. checkpoint_ended (under (current level state) p) p

-- ---- ECMA-262, "NewPromiseReactionJob" and "NewPromiseResolveThenableJob"

-- a job runs
abbrev pub job_run : Todo → Caller Page → State → Done Page
job_run todo = λ call. run_job call (todo_seen todo)

-- the reaction to a promise that is settled by then
abbrev pub reacted : (of : ℕ) → Reaction → Caller Page → State → Done Page
reacted of reaction = λ call m. react call (reaction_seen reaction) (promise_at m.host of).outcome m

-- the reaction of a registration's handlers to an outcome
abbrev pub reacted_then : (r : ℕ) → Reaction → Result Value Value → Caller Page → State → Done Page
reacted_then r reaction how = λ call m.
    react_then call r (callback_of (has_failed (settled_seen how)) (the_registration m.host r)) (reaction_seen reaction)
    (settled_seen how) m

-- the handler of a reaction is called, and settles the derived promise
abbrev pub handler_called : (r : ℕ) → Reaction → Result Value Value → Caller Page → State → Done Page
handler_called r reaction how = handled r (reaction_seen reaction) (settled_seen how)

-- the value of a handler, or of a handler of `finally`, settles the derived promise
abbrev pub derived_from : (finally : Bool) → (into : ℕ) → Result Value Value → Value → Page → Page
derived_from finally into how value = derived finally into (settled_seen how) (seen value)
