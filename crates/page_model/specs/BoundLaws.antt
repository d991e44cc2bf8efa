-- Laws of bounds: recursions end before them, following stays one deep, and runs end or are refused a choice.
use Rattle.std.specs.Prelude.{◌≡◌, ℕ, suc, ◌<◌, ◌≤◌, List, true, length}
use Rattle.page_types.specs.Tree.{Program, Expr, Block, WhileStmt}
use Rattle.page_types.specs.Values.{Value}
use Rattle.page_types.specs.declared.Op.{Op}
use Rattle.page_types.specs.declared.Priority.{Priority}
use Rattle.page_parts.specs.HostClosures.{HostClosure}
use Rattle.page_parts.specs.Setup.{Setup}
use Rattle.page_parts.specs.TaskSignals.{priority_of}
use Rattle.page_parts.specs.Words.{is_there}
use Rattle.lang_meaning.specs.Evaluation.{loop_turns, eval, exec_block, exec, call_from_outside, calls}
use Rattle.lang_meaning.specs.Machine.{Caller, Done}
use Rattle.page_model.specs.Bounds.{run_jobs_or, loop_turns_or, turns_or, at_depth, OneDeep, change_or, BeginsWell, from_step_one_or, row_of, turn_or, EndsOrIsRefused}
use Rattle.page_model.specs.Choosing.{Rules}
use Rattle.page_model.specs.FuelAndTime.{end_state}
use Rattle.page_model.specs.Invoke.{run_jobs, in_script}
use Rattle.page_model.specs.Operations.{page_operations}
use Rattle.page_model.specs.PageSignals.{change}
use Rattle.page_model.specs.Parallel.{item_count}
use Rattle.page_model.specs.State.{Page, State}
use Rattle.page_model.specs.Turns.{turn, turns, Turned, first_state, run_by, first_page, state_of, from_step_one}

-- ---- Ours: laws by which what stands at the bound 0 of a recursion is never met

-- whatever the jobs of a checkpoint answer at 0, they end before it
abbrev pub JobsNeverReachZero : Caller Page → Type 0
JobsNeverReachZero call =
    (other : State → Done Page) (n : ℕ) (m : State) → m.fuel < n
    → run_jobs_or other call n m ≡ run_jobs call (suc m.fuel) m

-- with a greater bound the jobs of a checkpoint do the same
abbrev pub JobsTakeGreaterBounds : Caller Page → Type 0
JobsTakeGreaterBounds call =
    (n : ℕ) (m : State) → m.fuel < n → run_jobs call n m ≡ run_jobs call (suc m.fuel) m

-- whatever a `while` answers at 0, it ends before it
abbrev pub LoopsNeverReachZero : Program → Type 0
LoopsNeverReachZero program =
    (depth : ℕ) (e : Expr) (block : Block) (other : State → Done Page) (n : ℕ) (m : State) → m.fuel < n
    → loop_turns_or other n (eval (at_depth program depth) e) (exec_block (at_depth program depth) block) m
    ≡ exec (at_depth program depth) (WhileStmt e block) m

-- with a greater bound a `while` does the same
abbrev pub LoopsTakeGreaterBounds : Program → Type 0
LoopsTakeGreaterBounds program =
    (depth : ℕ) (e : Expr) (block : Block) (n : ℕ) (m : State) → m.fuel < n
    → loop_turns n (eval (at_depth program depth) e) (exec_block (at_depth program depth) block) m
    ≡ exec (at_depth program depth) (WhileStmt e block) m

-- whatever turns answer at 0, they end before it
abbrev pub TurnsNeverReachZero : {C : Type 0} → Rules C → Program → Type 0
TurnsNeverReachZero {C} rules program =
    (other : State → C → Turned C) (until n : ℕ) (m : State) (c : C) → m.fuel < n
    → turns_or other rules (call_from_outside program page_operations) until n m c
    ≡ turns rules (call_from_outside program page_operations) until (suc m.fuel) m c

-- with a greater bound turns do the same
abbrev pub TurnsTakeGreaterBounds : {C : Type 0} → Rules C → Program → Type 0
TurnsTakeGreaterBounds {C} rules program =
    (until n : ℕ) (m : State) (c : C) → m.fuel < n
    → turns rules (call_from_outside program page_operations) until n m c
    ≡ turns rules (call_from_outside program page_operations) until (suc m.fuel) m c

-- whatever the turns of a whole run answer at 0, it ends before it
abbrev pub RunsNeverReachZero : {C : Type 0} → Rules C → Program → Type 0
RunsNeverReachZero {C} rules program =
    (setup : Setup) (hosts : List HostClosure) (other : State → C → Turned C) (n : ℕ) (c : C) → setup.fuel < n
    → turns_or other rules (call_from_outside program page_operations) setup.until n
    (first_state program setup hosts) c ≡ run_by rules program setup hosts c

-- the page before the first turn is such
abbrev pub FirstPagesAre : (Page → Type 0) → Type 0
FirstPagesAre P =
    (program : Program) (setup : Setup) (hosts : List HostClosure) → P (first_page program setup hosts)

-- a signal that is followed follows none after a call, where it was so before
abbrev pub CallsKeepOneDeep : Program → Type 0
CallsKeepOneDeep program =
    (depth f : ℕ) (args : List Value) (m : State) → OneDeep m.host
    → OneDeep (end_state (calls program page_operations depth f args m)).host

-- the same after an operation
abbrev pub OperationsKeepOneDeep : Program → Type 0
OperationsKeepOneDeep program =
    (depth : ℕ) (op : Op) (args : List Value) (m : State) → OneDeep m.host
    → OneDeep (end_state (page_operations (calls program page_operations depth) op args m)).host

-- the same after turns
abbrev pub TurnsKeepOneDeep : {C : Type 0} → Rules C → Program → Type 0
TurnsKeepOneDeep {C} rules program =
    (until n : ℕ) (m : State) (c : C) → OneDeep m.host
    → OneDeep (state_of (turns rules (call_from_outside program page_operations) until n m c)).host

-- a signal that is followed follows none at the end of a run
abbrev pub RunsAreOneDeep : {C : Type 0} → Rules C → Program → Type 0
RunsAreOneDeep {C} rules program =
    (setup : Setup) (hosts : List HostClosure) (c : C)
    → OneDeep (state_of (run_by rules program setup hosts c)).host

-- whatever a priority change answers at 0, it ends before it, where following is one deep
abbrev pub ChangesNeverReachZero : Program → Type 0
ChangesNeverReachZero program =
    (depth : ℕ) (priority : Priority) (other : ℕ → State → Done Page) (n s : ℕ) (m : State) → OneDeep m.host
    → is_there (priority_of m.host.prios s) ≡ true → length m.host.prios ≤ n
    → change_or other (in_script (calls program page_operations depth)) priority n s m
    ≡ change (in_script (calls program page_operations depth)) priority (length m.host.prios) s m

-- with a greater bound a priority change does the same
abbrev pub ChangesTakeGreaterBounds : Program → Type 0
ChangesTakeGreaterBounds program =
    (depth : ℕ) (priority : Priority) (n s : ℕ) (m : State) → OneDeep m.host
    → is_there (priority_of m.host.prios s) ≡ true → length m.host.prios ≤ n
    → change (in_script (calls program page_operations depth)) priority n s m
    ≡ change (in_script (calls program page_operations depth)) priority (length m.host.prios) s m

-- whatever the waits of a turn answer at 0, they end before it
abbrev pub WaitsNeverReachZero : {C : Type 0} → Rules C → Caller Page → Type 0
WaitsNeverReachZero {C} rules call =
    (other : State → C → Turned C) (until n : ℕ) (m : State) (c : C) → BeginsWell m
    → suc (suc (item_count m.host)) ≤ n
    → from_step_one_or other rules call until n m c ≡ turn rules call until m c

-- with a greater bound the waits of a turn do the same
abbrev pub WaitsTakeGreaterBounds : {C : Type 0} → Rules C → Caller Page → Type 0
WaitsTakeGreaterBounds {C} rules call =
    (until n : ℕ) (m : State) (c : C) → BeginsWell m → suc (suc (item_count m.host)) ≤ n
    → from_step_one rules call until n m c ≡ turn rules call until m c

-- so a whole run is the same with more waits in each turn, whatever these answer at 0
abbrev pub RunsTakeMoreWaits : {C : Type 0} → Rules C → Program → Type 0
RunsTakeMoreWaits {C} rules program =
    (setup : Setup) (hosts : List HostClosure) (other : State → C → Turned C) (more : ℕ) (c : C)
    → row_of (turn_or other more rules (call_from_outside program page_operations) setup.until) (suc setup.fuel)
    (first_state program setup hosts) c ≡ run_by rules program setup hosts c

-- every run ends, which is told truly, or is stuck at a choice that is refused
abbrev pub RunsEndOrAreRefused : {C : Type 0} → Rules C → Program → Type 0
RunsEndOrAreRefused {C} rules program =
    (setup : Setup) (hosts : List HostClosure) (c : C)
    → EndsOrIsRefused rules setup.until (run_by rules program setup hosts c)
