-- What a machine is seen as, and how its calls end.
use Rattle.std.specs.Prelude.{◌≡◌, ℕ, List, [], ◌++◌, map, Result, Ok, Err, Vec}
use Rattle.std.specs.declared.alloc.Global.{Global}
use Rattle.page_types.specs.Values as Model
use Rattle.page_types.specs.Values.{items_of}
use Rattle.page_values.specs.declared.Value.{Value}
use Rattle.page_values.specs.declared.Func.{Func}
use Rattle.page_types.specs.Tree as Tree
use Rattle.page_values.specs.Seen.{seen}
use Rattle.lang_ast.specs.Hosts.{HostNow}
use Rattle.lang_meaning.specs.Machine as M
use Rattle.lang_meaning.specs.Machine.{Done}
use Rattle.lang_meaning.specs.Evaluation.{call_from_outside}
use Rattle.lang_meaning.specs.HostSteps.{HostRules, Ask, host_operations}
use Rattle.lang_meaning.specs.Asks.{limited_operations}
use Rattle.page_interp.specs.MachineNow.{MachineNow, program_in}
use Rattle.page_interp.specs.declared.machine.Ran.{Ran}
use Rattle.page_interp.specs.declared.machine.Ran.TheVariants as ran
use Rattle.page_interp.specs.declared.machine.Stopped.{Stopped}
use Rattle.page_interp.specs.declared.machine.Stopped.TheVariants as stopped
use Rattle.page_interp.specs.Runs as runs
use Rattle.page_interp.specs.Runs.{Part, Left, ends, refused, no_memory, gives, throws, no_fuel, Is, WhereSettled, count_of_functions}

-- the number of its functions
abbrev pub functions_in : MachineNow → ℕ
functions_in m = count_of_functions (program_in m)

-- the state of the script machine with these global variables, where no call is open
abbrev pub machine_with : {T : Type 0} → List M.Variable → ℕ → T → M.Machine T
machine_with globals fuel host =
    record { globals = globals; open_calls = []; fuel = fuel; host = host }

-- the arguments that are bound to a function, and then the given ones
abbrev pub bound_args : Func → Vec Value Global → List Model.Value
bound_args fun args = items_of fun.bound ++ map seen args.items

-- how a call is left
abbrev pub ran_left : {S : Type 0} → Result Ran (Stopped S) → Left S
ran_left (Ok (ran.Value v)) = ends (gives (seen v))
ran_left (Ok (ran.Throw v)) = ends (throws (seen v))
ran_left (Ok ran.Fuel) = ends no_fuel
ran_left (Err (stopped.Host stop)) = refused stop
ran_left (Err stopped.OutOfMemory) = no_memory

-- what a call does around a host with these rules, by the meaning of the script
abbrev pub call_does : {T : Type 0} → HostRules T → Tree.Program → Func → Vec Value Global
    → M.Machine T → Done T
call_does rules program fun args =
    call_from_outside program (host_operations rules) fun.function (bound_args fun args)

-- the same around a host that is asked only so often
abbrev pub call_asks : {T : Type 0} → HostRules T → Tree.Program → Func → Vec Value Global → Part T
call_asks rules program fun args =
    call_from_outside program (limited_operations rules) fun.function (bound_args fun args)

-- the state of a machine, with so much fuel and around this host
abbrev pub state_of : {T S : Type 0} → MachineNow → ℕ → HostNow T S → M.Machine T
state_of m fuel host = machine_with m.globals fuel host.told

-- From the machine, the fuel and the host before, the call of the function with these arguments
-- ends with this result and leaves the machine, the fuel and the host after.
abbrev pub Means : {T S : Type 0} → HostRules T
    → (before : MachineNow) (fuel : ℕ) (host : HostNow T S)
    → Func → Vec Value Global → Result Ran (Stopped S)
    → (after : MachineNow) (left : ℕ) (host_after : HostNow T S) → Type 0
Means rules before fuel host fun args result after left host_after =
    Is (call_does rules (program_in before) fun args (state_of before fuel host)) (ran_left result)
    (state_of after left host_after)

-- the same of hosts, of which this is told
abbrev pub CallMeans : {Self T S : Type 0} → HostRules T → (now : Self → HostNow T S)
    → (before : MachineNow) (fuel : ℕ) (host : Self)
    → Func → Vec Value Global → Result Ran (Stopped S)
    → (after : MachineNow) (left : ℕ) (host_after : Self) → Type 0
CallMeans rules now before fuel host fun args result after left host_after =
    Means rules before fuel (now host) fun args result after left (now host_after)

-- where the call stood when it was left with this result
abbrev pub Stands : {T S : Type 0} → HostRules T → (Ask → T → T → Type 0)
    → (before : MachineNow) (fuel : ℕ) (host : HostNow T S)
    → Func → Vec Value Global → Result Ran (Stopped S) → (host_after : HostNow T S) → Type 0
Stands rules leaves before fuel host fun args result host_after =
    runs.Stands rules leaves (ran_left result) (call_asks rules (program_in before) fun args)
    (state_of before fuel host) host_after.told

-- a stop is the host's own: it refused, with that stop; with any other result it did not refuse
abbrev pub Refuses : {T S : Type 0} → Result Ran (Stopped S) → (before after : HostNow T S) → Type 0
Refuses result before after =
    runs.Refuses (ran_left result) before.refusals after.refusals after.last_stop

-- where the call ends, each ticket that it opened was used up
abbrev pub UsesTickets : {T S : Type 0} → Result Ran (Stopped S)
    → (before after : HostNow T S) → Type 0
UsesTickets result before after = WhereSettled (ran_left result) (after.tickets ≡ before.tickets)
