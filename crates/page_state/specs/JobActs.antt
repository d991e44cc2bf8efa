-- Turns, jobs, checkpoints, outcomes and listeners of a page, in the pieces that contracts name.
use Rattle.std.specs.Prelude.{ℕ, suc, List, Option}
use Rattle.page_types.specs.declared.Source.{Source}
use Rattle.page_types.specs.Events.{Turn, Wait}
use Rattle.page_values.specs.declared.Func.{Func}
use Rattle.page_parts.specs.Listeners.{snapshot}
use Rattle.page_parts.specs.Notices.{queue_micro}
use Rattle.page_parts.specs.Promises as parts
use Rattle.page_notices.specs.Seen.{current}
use Rattle.page_events.specs.declared.target.Target.{Target}
use Rattle.page_events.specs.Seen.{seen_target}
use Rattle.page_model.specs.State.{Page, context, emit, on_notices}
use Rattle.page_model.specs.Invoke.{checkpoint_ended, under}
use Rattle.page_model.specs.PagePromises.{promise_at}
use Rattle.page_model.specs.Operations as operations
use Rattle.page_model.specs.Turns.{at_time}
use Rattle.page_values.specs.Seen.{seen_func}
use Rattle.page_script.specs.ScriptActs as script_acts
use Rattle.page_state.specs.Standing.{Standing}

-- ---- HTML, "Event loops: processing model"

-- one more turn, with its line: it begins with a task of this source, or with none
abbrev pub turn_counted : Option Source → Page → Page
turn_counted source p = emit (Turn (suc p.turns) source) (record p { turns = suc p.turns })

-- a wait for a moment is over, and this is the time, with its line
abbrev pub wait_over : (target time : ℕ) → Page → Page
wait_over target time p = emit (Wait target) (at_time time p)

-- the checkpoint ends, and the nesting level and the scheduling state are these again
abbrev pub checkpoint_left : (level : ℕ) → (state : Option ℕ) → Page → Page
checkpoint_left level state p = checkpoint_ended (under (current level state) p) p

-- what f makes of the script's part, and nothing else
abbrev pub script_changed : (Page → Page) → Standing → Standing
script_changed f s = record s { script = script_acts.changed_by f s.script }

-- ---- HTML, "Microtask queuing"

-- a microtask callback of the code is registered and queued
abbrev pub micro_made : Func → Page → Page
micro_made callback = operations.micro_registered (seen_func callback)

-- the job of a microtask registration is queued behind all others
abbrev pub micro_queued : (registration : ℕ) → Page → Page
micro_queued r p = on_notices (queue_micro (context p) r) p

-- ---- ECMA-262, "Properties of Promise Instances"

-- how promise number n was settled, none while it is pending
abbrev pub outcome_now : (n : ℕ) → Page → Option parts.Settled
outcome_now n p = (promise_at p n).outcome

-- ---- DOM, "Interface EventTarget"; "Dispatching events"

-- a listener of the code is registered and added
abbrev pub hears_at : Target → (name : List ℕ) → Func → Page → Page
hears_at target name callback = operations.listener_added (seen_target target) name (seen_func callback)

-- the listeners of a target and a name as they are now
abbrev pub listeners_at : Target → (name : List ℕ) → Page → List ℕ
listeners_at target name p = snapshot (seen_target target) name p.listeners
