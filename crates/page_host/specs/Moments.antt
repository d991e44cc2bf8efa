-- A script's machine and a page as one state of the model, and how calls of the page end.
use Rattle.std.specs.Prelude.{◌≡◌, ◌≤◌, [], None, Result, Ok, Err, ⊤}
use Rattle.page_values.specs.Seen.{seen as value_seen}
use Rattle.page_interp.specs.MachineNow.{MachineNow, program_in}
use Rattle.page_interp.specs.Machines.{functions_in}
use Rattle.page_interp.specs.declared.machine.Ran.{Ran}
use Rattle.page_interp.specs.declared.machine.Ran.TheVariants as ran
use Rattle.lang_meaning.specs.Machine.{Caller}
use Rattle.lang_meaning.specs.Evaluation.{call_from_outside}
use Rattle.page_model.specs.Operations.{page_operations}
use Rattle.page_model.specs.State.{Page, State}
use Rattle.trace_text.specs.Given.{Seen}
use Rattle.trace_text.specs.Acts.{At}
use Rattle.page_state.specs.Standing.{page_of, port_of}
use Rattle.page_host.specs.PageNow.{PageNow, room_at}
use Rattle.page_host.specs.StateActs.{How, Gave, Threw, RanOut}
use Rattle.page_host.specs.declared.stop.PageStop.{PageStop}

-- the state of the model: the script's global variables, no open call, the fuel that is left, and the page
abbrev pub state_of : {L : Type 0} → MachineNow → PageNow L → State
state_of m p = record { globals = m.globals; open_calls = []; fuel = p.fuel; host = page_of p.state }

-- the same with what is seen of the lines
abbrev pub moment : {L T : Type 0} → (lines_seen : L → Seen T) → MachineNow → PageNow L → At State T
moment lines_seen m p = record { state = state_of m p; seen = lines_seen p.lines }

-- how functions of the script are called where no call is open
abbrev pub calling : MachineNow → Caller Page
calling m = call_from_outside (program_in m) page_operations

-- how a callback ended
abbrev pub how_of : {E : Type 0} → Result Ran E → How
how_of (Ok (ran.Value v)) = Gave (value_seen v)
how_of (Ok (ran.Throw v)) = Threw (value_seen v)
how_of (Ok ran.Fuel) = RanOut
how_of (Err why) = RanOut

-- P, where a callback ended and the script goes on
abbrev pub IfEnded : Result Ran PageStop → Type 0 → Type 0
IfEnded (Ok (ran.Value v)) P = P
IfEnded (Ok (ran.Throw v)) P = P
IfEnded (Ok ran.Fuel) P = ⊤
IfEnded (Err why) P = ⊤

-- a function of the script can be called: the page has not stopped, no fold is open, the machine has the page's functions, and there is
-- room for as many calls of `busy` as there are units of fuel
pub record CanCall {L : Type 0} (m : MachineNow) (p : PageNow L) : Type 0 where
  pub running : p.stopped ≡ None
  pub at_rest : p.state.folds ≡ []
  pub functions : functions_in m ≡ p.functions
  pub room : p.fuel ≤ room_at p.state.script.now

-- what no callback changes: the functions, when the run ends, and the host port
pub record SamePort {L : Type 0} (before after : PageNow L) : Type 0 where
  pub functions : after.functions ≡ before.functions
  pub until : after.until ≡ before.until
  pub port : port_of after.state ≡ port_of before.state
