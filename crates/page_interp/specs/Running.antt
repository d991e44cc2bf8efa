-- What the functions of the machine promise that take a run with its variables and its frames.
use Rattle.std.specs.Prelude.{◌≡◌, ◌≤◌, ◌+◌, ◌*◌, ◌^◌, ℕ, Bool, true, List, [], ◌∷◌, map, Option, Result, Vec, IfOk, IfErr, IfSome}
use Rattle.std.specs.declared.alloc.Global.{Global}
use Rattle.std.specs.Borrow.{Bor}
use Rattle.page_types.specs.declared.Op.{Op}
use Rattle.page_values.specs.declared.Value.{Value}
use Rattle.page_values.specs.Seen.{seen}
use Rattle.lang_ast.specs.declared.host.Host.{Ghosts as HostTells}
use Rattle.lang_ast.specs.declared.host.HostStep.{HostStep as HeldStep}
use Rattle.lang_ast.specs.declared.program.Program as Code
use Rattle.lang_ast.specs.declared.tree.Named.{Named}
use Rattle.lang_ast.specs.declared.tree.Expr.{Expr}
use Rattle.lang_ast.specs.declared.tree.Stmt.{Stmt}
use Rattle.lang_ast.specs.Steps.{seen_step}
use Rattle.lang_meaning.specs.HostSteps.{HostRules, HostStep, CallbackEnd, asked_by}
use Rattle.lang_meaning.specs.Asks.{ask_limited}
use Rattle.page_interp.specs.declared.exit.Exit.{Exit}
use Rattle.page_interp.specs.declared.stack.Focus.{Focus}
use Rattle.page_interp.specs.declared.stack.Focus.TheVariants as focus
use Rattle.page_interp.specs.declared.stack.Frame.TheVariants as frame
use Rattle.page_interp.specs.declared.stack.Running.{Running}
use Rattle.page_interp.specs.Asked.{BlockAsks, BlockStands, BlockStops, ExprStands, ExprStops, SetsAsked, TurnStands}
use Rattle.page_interp.specs.AtOnce.{EndsWanting, Leads, before_stmt, tested_at, turned}
use Rattle.page_interp.specs.Clauses.{script, count_in}
use Rattle.page_interp.specs.Frames.{Place, Holds, Opens, Stood, Steps, MayCome, Leaves, Finishes, stacked, place, waiting_at, does, steps_on, resumes, AreSeenNumbered}
use Rattle.page_interp.specs.StackClauses.{HasAnswered, IsStanding, WaitsUnder}

-- where a run stands, with this next
abbrev pub at : Running → Focus → Place
at run f = place run.store run.current (stacked run.stack.items) f

-- where it stands and needs nothing more of what is next
abbrev pub resting : Running → Place
resting run = waiting_at run.store run.current (stacked run.stack.items)

-- where a run begins, with this next: nothing waits
abbrev pub outermost : Running → Focus → Place
outermost run f = place run.store run.current [] f

-- ---- A step that does not ask the host

module _ {T : Type 0} (rules : HostRules T) (code : Code.Program) where
  -- it leads on from here to there
  abbrev pub LeadsTo : Focus → (old new : Running) → Focus → Type 0
  LeadsTo f old new = λ f'. Leads rules (script code) (at old f) (at new f')

  -- the same where these statements wait for its end
  abbrev pub LeadsBefore : Bor (List Stmt) → Focus → (old new : Running) → Focus → Type 0
  LeadsBefore rest f old new = λ f'.
      Leads rules (script code)
      (place old.store old.current (before_stmt rest (stacked old.stack.items)) f) (at new f')

  -- it leads on from the value of a loop's condition
  abbrev pub TestLeads : Bor Expr → Bor (List Stmt) → Value → (old new : Running) → Focus → Type 0
  TestLeads test block v old new = λ f'.
      Leads rules (script code)
      (tested_at old.store old.current test block (stacked old.stack.items) v) (at new f')

  -- it leads on from the rest of a turn's block
  abbrev pub TurnGoesOn : Bor Expr → Bor (List Stmt) → (rest : Bor (List Stmt))
      → (old new : Running) → Focus → Type 0
  TurnGoesOn test block rest old new = λ f'.
      Leads rules (script code)
      (place old.store old.current (frame.Turn test block ∷ stacked old.stack.items)
      (focus.Block rest)) (at new f')

  -- a call opens, whatever was next before it
  abbrev pub OpensOn : ℕ → (args : Vec Value Global) → (old new : Running) → Focus → Type 0
  OpensOn function args old new = λ f'.
      (f : Focus) → Holds (script code) (at old f) → AreSeenNumbered (count_in code) args →
      Opens rules (script code) function (map seen args.items) (at old f) (at new f')

-- where there is no result at the value of a loop's condition, a unit is wanting there, or memory
abbrev pub TestWants : {X S : Type 0} → Result X (Exit S) → Code.Program
    → Bor Expr → Bor (List Stmt) → Value → (old new : Running) → Type 0
TestWants result code test block v old new =
    IfErr result (EndsWanting (script code)
    (tested_at old.store old.current test block (stacked old.stack.items) v) new.store)

-- ---- A step that may ask the host

module _ {H S : Type 0} (host : HostTells H S) (code : Code.Program) where
  -- a run stands there, with some tickets that were open before it
  abbrev pub RunsAt : H → Running → Focus → Type 0
  RunsAt h run f = IsStanding host.rules host.leaves code (host.now h) (at run f)

  -- a step leads from the host and the run before to those after
  abbrev pub StepsOn : Focus → Result Focus (Exit S) → H → Running → H → Running → Type 0
  StepsOn f result h run h' run' =
      Steps host.rules host.leaves (script code) (host.now h) (at run f) result
      (host.now h') run'.store run'.current (stacked run'.stack.items)

  -- the same where a run begins
  abbrev pub RunBegins : H → Running → Focus → Type 0
  RunBegins h run f = IsStanding host.rules host.leaves code (host.now h) (outermost run f)

  -- a run that begins there ends so, whatever tickets were open before it
  abbrev pub RunEnds : Focus → H → Running → Exit S → H → Running → Type 0
  RunEnds f h run x h' run' =
      (ts : List ℕ) →
      Stood host.rules host.leaves (script code) ts (host.now h) (outermost run f) →
      Finishes host.rules host.leaves (script code) ts (λ d. does d f)
      (host.now h) (outermost run f) x (host.now h') run'.store

  -- ---- Asks of the host

  -- what is known where the host has answered with this step and nothing more is needed of what is next
  abbrev pub StandsAnswered : H → Running → HeldStep → Type 0
  StandsAnswered h run step =
      (ts : List ℕ) × HasAnswered host.rules host.leaves host.left code ts
      (host.now h) (resting run) (seen_step step)

  -- what comes of an answer of the host
  abbrev pub AnswerLeaves : HostStep → Result Focus (Exit S) → H → Running → H → Running
      → Type 0
  AnswerLeaves step result h run h' run' =
      (ts : List ℕ) (n : ℕ) →
      HasAnswered host.rules host.leaves host.left code ts (host.now h) (resting run) step →
      MayCome run.store.fuel (host.left (host.now h).told) step n →
      Leaves host.rules host.leaves (script code) ts (steps_on host.rules n step) 2
      (host.now h) (resting run) result
      (host.now h') run'.store run'.current (stacked run'.stack.items)

  -- what comes of the host's going on after a callback that ended so
  abbrev pub Resumes : (ticket : ℕ) → CallbackEnd → Result Focus (Exit S)
      → H → Running → H → Running → Type 0
  Resumes ticket end result h run h' run' =
      (ts : List ℕ) (n : ℕ) → WaitsUnder ticket (host.now h) run.stack ts →
      (run.store.fuel + 1) * (2 ^ 64) ≤ n →
      Leaves host.rules host.leaves (script code) ts (resumes host.rules n ticket end) 2
      (host.now h) (resting run) result
      (host.now h') run'.store run'.current (stacked run'.stack.items)

  -- what comes of an operation that the host is asked for
  abbrev pub AskLeaves : Op → (args : Vec Value Global) → Result Focus (Exit S)
      → H → Running → H → Running → Type 0
  AskLeaves op args result h run h' run' =
      (ts : List ℕ) → Stood host.rules host.leaves (script code) ts (host.now h) (resting run) →
      Leaves host.rules host.leaves (script code) ts
      (λ d. asked_by (ask_limited host.rules) d.call op (map seen args.items)) 2
      (host.now h) (resting run) result
      (host.now h') run'.store run'.current (stacked run'.stack.items)

  -- ---- Statements that are done with no frame

  -- a run stands at this expression
  abbrev pub AtExpr : H → Running → Expr → Type 0
  AtExpr h run e = ExprStands host.rules host.leaves code (host.now h) run.store run.current e

  -- where it is done, the variable of this name has the value of this expression
  abbrev pub SetsByAsk : Named → Expr → Result Bool (Exit S) → H → Running → H → Running
      → Type 0
  SetsByAsk name e result h run h' run' =
      IfOk result (λ done. done ≡ true →
      SetsAsked host.rules host.leaves code name e (host.now h) run.store run.current
      (host.now h') run'.store run'.current)

  -- where there is no result, the run ends at the expression
  abbrev pub StopsAtExpr : {X : Type 0} → Expr → Result X (Exit S)
      → H → Running → H → Running → Type 0
  StopsAtExpr e result h run h' run' =
      IfErr result (ExprStops host.rules host.leaves code e run.store run.current
      (host.now h) (host.now h') run'.store)

  -- a run stands at these statements
  abbrev pub AtBlock : H → Running → List Stmt → Type 0
  AtBlock h run ss = BlockStands host.rules host.leaves code (host.now h) run.store run.current ss

  -- where there is a result, the first of these statements are done, and the others are left
  abbrev pub AllAsk : List Stmt → Result (Bor (List Stmt)) (Exit S)
      → H → Running → H → Running → Type 0
  AllAsk ss result h run h' run' =
      IfOk result (λ rest.
      BlockAsks host.rules host.leaves code (host.now h) run.store run.current ss
      (host.now h') run'.store run'.current rest.now)

  -- the same where the first one may not be such a statement
  abbrev pub FirstAsks : List Stmt → Result (Option (Bor (List Stmt))) (Exit S)
      → H → Running → H → Running → Type 0
  FirstAsks ss result h run h' run' =
      IfOk result (λ o. IfSome o (λ rest.
      BlockAsks host.rules host.leaves code (host.now h) run.store run.current ss
      (host.now h') run'.store run'.current rest.now))

  -- where there is no result, the run ends among these statements
  abbrev pub StopsInBlock : {X : Type 0} → List Stmt → Result X (Exit S)
      → H → Running → H → Running → Type 0
  StopsInBlock ss result h run h' run' =
      IfErr result (BlockStops host.rules host.leaves code (host.now h) run.store run.current ss
      (host.now h') run'.store)

  -- ---- A loop

  -- a run stands at the end of a turn
  abbrev pub AtTurn : H → Running → Expr → List Stmt → Type 0
  AtTurn h run e ss = TurnStands host.rules host.leaves code (host.now h) run.store run.current e ss

  -- a step leads on from the end of a turn, whatever value it ended with
  abbrev pub TurnSteps : Bor Expr → Bor (List Stmt) → Result Focus (Exit S)
      → H → Running → H → Running → Type 0
  TurnSteps test block result h run h' run' =
      (v : Value) → Steps host.rules host.leaves (script code) (host.now h)
      (turned run.store run.current test block (stacked run.stack.items) v) result
      (host.now h') run'.store run'.current (stacked run'.stack.items)
