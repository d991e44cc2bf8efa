-- What a run comes to where the host is asked with no frame for what asks.
use Rattle.std.specs.Prelude.{◌≡◌, ℕ, ◌≤◌, Bool, true, false, List, [], ◌∷◌, ◌++◌, Option, Some, Result, Vec, Ok, IfOk, IfErr, IfSome, IsTrue}
use Rattle.std.specs.declared.alloc.Global.{Global}
use Rattle.std.specs.Borrow.{Bor}
use Rattle.page_types.specs.Counts.{Rose}
use Rattle.page_types.specs.Values as Model
use Rattle.page_types.specs.Tree.{Program}
use Rattle.page_types.specs.declared.Op.{Op}
use Rattle.page_values.specs.declared.Value.{Value}
use Rattle.page_values.specs.Seen.{seen}
use Rattle.page_values.specs.Written.{IsNumbered}
use Rattle.lang_ast.specs.Hosts.{HostNow, GivesValue}
use Rattle.lang_ast.specs.declared.program.Program as Code
use Rattle.lang_ast.specs.declared.tree.Named.{Named}
use Rattle.lang_ast.specs.declared.tree.Expr.{Expr}
use Rattle.lang_ast.specs.declared.tree.Expr as tree
use Rattle.lang_ast.specs.declared.tree.Stmt.{Stmt}
use Rattle.lang_meaning.specs.HostSteps.{HostRules, StepValue, Ask, AskOp, on_ask, is_busy}
use Rattle.lang_meaning.specs.OpNames.{op_named}
use Rattle.page_interp.specs.declared.exit.Exit.{Exit}
use Rattle.page_interp.specs.declared.exit.Store.{Store}
use Rattle.page_interp.specs.declared.stack.Current.{Current}
use Rattle.page_interp.specs.declared.stack.Focus.TheVariants as focus
use Rattle.page_interp.specs.declared.stack.Frame.{Frame}
use Rattle.page_interp.specs.AtOnce.{Assigns, turned}
use Rattle.page_interp.specs.Clauses.{script}
use Rattle.page_interp.specs.Frames.{Place, HaveTurns, Gets, Stood, Finishes, Steps, does, place, steps_left}
use Rattle.page_interp.specs.Direct.{NameHolds, direct_there}
use Rattle.page_interp.specs.Runs.{IsUnsettled}
use Rattle.page_interp.specs.StackClauses.{AreFound, IsStanding}

-- ---- An ask

-- the host answers an operation with this value, and tells of it
pub record IsAnswered {T S : Type 0} (rules : HostRules T) (op : Op) (args : List Model.Value)
    (h h' : HostNow T S) (v : Value) : Type 0 where
  pub rule : on_ask rules (AskOp op args) h.told ≡ record { step = StepValue (seen v); host = h'.told }
  pub tickets : h'.tickets ≡ h.tickets
  pub room : h.room ≤ h'.room
  pub functions : h'.functions ≡ h.functions
  pub refusals : h'.refusals ≡ h.refusals
  pub numbered : IsNumbered h.functions (seen v)

-- the host refuses an operation
pub record RefusesAsk {T S : Type 0} (leaves : Ask → T → T → Type 0) (op : Op)
    (args : List Model.Value) (h h' : HostNow T S) (stop : S) : Type 0 where
  pub rises : Rose h.refusals h'.refusals
  pub last : h'.last_stop ≡ Some stop
  pub left : leaves (AskOp op args) h.told h'.told
  pub room : h.room ≤ h'.room
  pub functions : h'.functions ≡ h.functions

-- ---- Arguments

-- a call by this name is an operation that takes no unit, and its arguments are these values
pub record CallsPlainly {T : Type 0} (rules : HostRules T) (code : Code.Program) (store : Store)
    (current : Current) (name : Named) (args : List Expr) (op : Op) (vs : Vec Value Global)
    : Type 0 where
  pub named : Some op ≡ op_named name.name
  pub plain : is_busy op ≡ false
  pub found : AreFound rules code store current args vs

-- the same of an operation and its values together
abbrev pub IsPlainCall : {T : Type 0} → HostRules T → Code.Program → Store → Current → Named
    → (args : List Expr) → Op × Vec Value Global → Type 0
IsPlainCall rules code store current name args = λ found.
    CallsPlainly rules code store current name args found.0 found.1

-- the same of two arguments: the first is a variable of the name of the target, the second has this value
pub record HasOwnFirst (code : Code.Program) (store : Store) (current : Current)
    (target name : Named) (args : List Expr) (op : Op) (v : Value) : Type 0 where
  pub named : Some op ≡ op_named name.name
  pub plain : is_busy op ≡ false
  pub own : Named
  pub same : own.name ≡ target.name
  pub second : Bor Expr
  pub both : args ≡ tree.Name own ∷ second.now ∷ []
  pub value : direct_there code store current second.now ≡ Some (seen v)

-- the same of an operation and the second value together
abbrev pub IsBesideOwn : Code.Program → Store → Current → (target name : Named)
    → (args : List Expr) → Op × Value → Type 0
IsBesideOwn code store current target name args = λ found.
    HasOwnFirst code store current target name args found.0 found.1

-- the same of one argument, which is lent
pub record LooksAt (code : Code.Program) (store : Store) (current : Current)
    (name : Named) (args : List Expr) (op : Op) (v : Value) : Type 0 where
  pub named : Some op ≡ op_named name.name
  pub plain : is_busy op ≡ false
  pub only : Bor Expr
  pub one : args ≡ only.now ∷ []
  pub value : direct_there code store current only.now ≡ Some (seen v)

-- the same of an operation and the value together
abbrev pub IsPlainLook : Code.Program → Store → Current → Named → (args : List Expr)
    → Op × Bor Value → Type 0
IsPlainLook code store current name args = λ found.
    LooksAt code store current name args found.0 found.1.now

-- two values in a row
pub record ArePair (a b : Value) (vs : Vec Value Global) : Type 0 where
  pub none : Vec Value Global
  pub empty : none.items ≡ []
  pub first : Vec Value Global
  pub one : first.items ≡ none.items ++ a ∷ []
  pub both : vs.items ≡ first.items ++ b ∷ []

-- where this is true, the host is sure to answer the operation on what the variable holds and this
-- value
abbrev pub IsSureOfOwn : {T S : Type 0} → Bool → HostRules T → Code.Program → Store → Current
    → Named → Op → (second : Value) → HostNow T S → Type 0
IsSureOfOwn result rules code store current own op second h =
    IsTrue result → (v : Value) → NameHolds code store current own.name (seen v) →
    GivesValue rules op (seen v ∷ seen second ∷ []) h

-- ---- Places

-- Any number of steps lead from one place to another, also none, with asks of the host among them.
pub record Proceeds {T S : Type 0} (rules : HostRules T) (leaves : Ask → T → T → Type 0)
    (p : Program) (ts : List ℕ) (h : HostNow T S) (a : Place) (h' : HostNow T S) (b : Place)
    : Type 0 where
  pub means : (ns : List ℕ) → HaveTurns a.store.fuel a.frames ns →
      Gets rules leaves p ns (λ d. does d a.focus) h a h' b
  pub stood : Stood rules leaves p ts h' b
  pub fewer : steps_left p b ≤ steps_left p a

-- the same, where a run stands at the first place
abbrev pub ProceedsTo : {T S : Type 0} → HostRules T → (Ask → T → T → Type 0) → Program
    → HostNow T S → Place → HostNow T S → Place → Type 0
ProceedsTo rules leaves p h a h' b =
    (ts : List ℕ) → Stood rules leaves p ts h a → Proceeds rules leaves p ts h a h' b

-- a run that stands there ends so, since the host refuses or memory is wanting
abbrev pub StopsFrom : {T S : Type 0} → HostRules T → (Ask → T → T → Type 0) → Program
    → HostNow T S → Place → Exit S → HostNow T S → Store → Type 0
StopsFrom rules leaves p h a x h' store' =
    IsUnsettled x × ((ts : List ℕ) → Stood rules leaves p ts h a →
    Finishes rules leaves p ts (λ d. does d a.focus) h a x h' store')

-- ---- An expression

-- a run stands at this expression
abbrev pub ExprStands : {T S : Type 0} → HostRules T → (Ask → T → T → Type 0) → Code.Program
    → HostNow T S → Store → Current → Expr → Type 0
ExprStands rules leaves code h store current e =
    (fs : List Frame) × (expr : Bor Expr) × (expr.now ≡ e)
    × IsStanding rules leaves code h (place store current fs (focus.Expr expr))

-- the expression comes to this value, and the host alone changes
abbrev pub ExprAsks : {T S : Type 0} → HostRules T → (Ask → T → T → Type 0) → Code.Program
    → Expr → Store → Current → HostNow T S → Value → HostNow T S → Type 0
ExprAsks rules leaves code e store current h v h' =
    (fs : List Frame) (expr : Bor Expr) → expr.now ≡ e →
    ProceedsTo rules leaves (script code) h (place store current fs (focus.Expr expr))
    h' (place store current fs (focus.Value v))

-- the same in one step, and nothing changes
abbrev pub IsKnown : {T S : Type 0} → HostRules T → (Ask → T → T → Type 0) → Code.Program
    → Expr → Store → Current → HostNow T S → Value → Type 0
IsKnown rules leaves code e store current h v =
    (fs : List Frame) (expr : Bor Expr) → expr.now ≡ e →
    Steps rules leaves (script code) h (place store current fs (focus.Expr expr)) (Ok (focus.Value v))
    h store current fs

-- the run ends at the expression
abbrev pub ExprStops : {T S : Type 0} → HostRules T → (Ask → T → T → Type 0) → Code.Program
    → Expr → Store → Current → HostNow T S → HostNow T S → Store → Exit S → Type 0
ExprStops rules leaves code e store current h h' store' = λ x.
    (fs : List Frame) (expr : Bor Expr) → expr.now ≡ e →
    StopsFrom rules leaves (script code) h (place store current fs (focus.Expr expr)) x h' store'

-- where a value is found, the expression comes to it
abbrev pub FindsByAsk : {Self T S : Type 0} → HostRules T → (Ask → T → T → Type 0)
    → (now : Self → HostNow T S) → Code.Program → Expr → Store → Current
    → Self → Result (Option Value) (Exit S) → Self → Type 0
FindsByAsk rules leaves now code e store current host result host' =
    IfOk result (λ o. IfSome o (λ v.
    ExprAsks rules leaves code e store current (now host) v (now host')))

-- where it is done, the expression comes to some value
abbrev pub DoneByAsk : {Self T S : Type 0} → HostRules T → (Ask → T → T → Type 0)
    → (now : Self → HostNow T S) → Code.Program → Expr → Store → Current
    → Self → Result Bool (Exit S) → Self → Type 0
DoneByAsk rules leaves now code e store current host result host' =
    IfOk result (λ done. done ≡ true →
    (v : Value) × ExprAsks rules leaves code e store current (now host) v (now host'))

-- where there is no result, the run ends at the expression, and the store is as before
abbrev pub StopsInExpr : {X Self T S : Type 0} → Result X (Exit S) → HostRules T
    → (Ask → T → T → Type 0) → (now : Self → HostNow T S) → Code.Program → Expr
    → Store → Current → (old new : Self) → Type 0
StopsInExpr result rules leaves now code e store current old new =
    IfErr result (ExprStops rules leaves code e store current (now old) (now new) store)

-- ---- The statements of a block

-- a run stands at these statements
abbrev pub BlockStands : {T S : Type 0} → HostRules T → (Ask → T → T → Type 0) → Code.Program
    → HostNow T S → Store → Current → List Stmt → Type 0
BlockStands rules leaves code h store current ss =
    (fs : List Frame) × (block : Bor (List Stmt)) × (block.now ≡ ss)
    × IsStanding rules leaves code h (place store current fs (focus.Block block))

-- the first of these statements are done, and the others are left
abbrev pub BlockAsks : {T S : Type 0} → HostRules T → (Ask → T → T → Type 0) → Code.Program
    → HostNow T S → Store → Current → List Stmt → HostNow T S → Store → Current → List Stmt → Type 0
BlockAsks rules leaves code h store current ss h' store' current' ss' =
    (fs : List Frame) (block rest : Bor (List Stmt)) → block.now ≡ ss → rest.now ≡ ss' →
    ProceedsTo rules leaves (script code) h (place store current fs (focus.Block block))
    h' (place store' current' fs (focus.Block rest))

-- the run ends among these statements
abbrev pub BlockStops : {T S : Type 0} → HostRules T → (Ask → T → T → Type 0) → Code.Program
    → HostNow T S → Store → Current → List Stmt → HostNow T S → Store → Exit S → Type 0
BlockStops rules leaves code h store current ss h' store' = λ x.
    (fs : List Frame) (block : Bor (List Stmt)) → block.now ≡ ss →
    StopsFrom rules leaves (script code) h (place store current fs (focus.Block block)) x h' store'

-- a statement that gives the variable of this name the value of this expression is done
abbrev pub SetsAsked : {T S : Type 0} → HostRules T → (Ask → T → T → Type 0) → Code.Program
    → Named → Expr → HostNow T S → Store → Current → HostNow T S → Store → Current → Type 0
SetsAsked rules leaves code name e h store current h' store' current' =
    (s : Stmt) (rest : List Stmt) → Assigns s name e →
    BlockAsks rules leaves code h store current (s ∷ rest) h' store' current' rest

-- the run ends at such a statement
abbrev pub SetStops : {T S : Type 0} → HostRules T → (Ask → T → T → Type 0) → Code.Program
    → Named → Expr → HostNow T S → Store → Current → HostNow T S → Store → Exit S → Type 0
SetStops rules leaves code name e h store current h' store' = λ x.
    (s : Stmt) (rest : List Stmt) → Assigns s name e →
    BlockStops rules leaves code h store current (s ∷ rest) h' store' x

-- ---- A loop

-- a run stands at the end of a turn
abbrev pub TurnStands : {T S : Type 0} → HostRules T → (Ask → T → T → Type 0) → Code.Program
    → HostNow T S → Store → Current → Expr → List Stmt → Type 0
TurnStands rules leaves code h store current e ss =
    (fs : List Frame) × (v : Value) × (test : Bor Expr) × (block : Bor (List Stmt))
    × (test.now ≡ e) × (block.now ≡ ss)
    × IsStanding rules leaves code h (turned store current test block fs v)
