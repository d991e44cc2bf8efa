-- What is done in one step where an expression calls nothing.
use Rattle.std.specs.Prelude.{◌≡◌, ◌≤◌, Bool, List, ◌∷◌, Option, Some, Vec}
use Rattle.std.specs.declared.alloc.Global.{Global}
use Rattle.std.specs.Borrow.{Bor}
use Rattle.page_types.specs.Tree.{Program}
use Rattle.page_types.specs.Values.{BoolValue}
use Rattle.page_values.specs.declared.Value.{Value}
use Rattle.page_values.specs.Seen.{seen}
use Rattle.lang_ast.specs.declared.program.Program as Code
use Rattle.lang_ast.specs.declared.tree.Named.{Named}
use Rattle.lang_ast.specs.declared.tree.Expr.{Expr}
use Rattle.lang_ast.specs.declared.tree.Stmt.{Stmt}
use Rattle.lang_ast.specs.declared.tree.Stmt as S
use Rattle.lang_meaning.specs.HostSteps.{HostRules}
use Rattle.page_interp.specs.declared.exit.Exit.{Exit}
use Rattle.page_interp.specs.declared.exit.Exit.TheVariants as exit
use Rattle.page_interp.specs.declared.exit.Store.{Store}
use Rattle.page_interp.specs.declared.stack.Current.{Current}
use Rattle.page_interp.specs.declared.stack.Focus.TheVariants as focus
use Rattle.page_interp.specs.declared.stack.Frame.{Frame}
use Rattle.page_interp.specs.declared.stack.Frame.TheVariants as frame
use Rattle.page_interp.specs.declared.stack.Waiting.{Waiting}
use Rattle.page_interp.specs.declared.stack.Waiting.TheVariants as waiting
use Rattle.page_interp.specs.Direct.{direct_there}
use Rattle.page_interp.specs.Runs.{AreNumberedIn, count_of_functions, globals_in}
use Rattle.page_interp.specs.Frames.{Place, Holds, Goes, Arrives, place}

-- a statement gives the variable of this name the value of this expression
abbrev pub Assigns : Stmt → Named → Expr → Type 0
Assigns (S.Var x e) name expr = (x ≡ name) × (e ≡ expr)
Assigns (S.Assign x e) name expr = (x ≡ name) × (e ≡ expr)
Assigns s name expr = ⊥

-- an expression has this Bool as its value there
abbrev pub IsBoolThere : Code.Program → Store → Current → Expr → Bool → Type 0
IsBoolThere p store current expr b = direct_there p store current expr ≡ Some (BoolValue b)

-- the first of some expressions has this value, and these come after it
pub record HasFirst (p : Code.Program) (store : Store) (current : Current)
    (es : List Expr) (v : Value) (rest : List Expr) : Type 0 where
  pub expr : Bor Expr
  pub first : es ≡ expr.now ∷ rest
  pub value : direct_there p store current expr.now ≡ Some (seen v)

-- a step that does not ask the host leads from one place to another, where what holds everywhere
-- holds at the first
abbrev pub Leads : {T : Type 0} → HostRules T → Program → (a b : Place) → Type 0
Leads rules p a b = Holds p a → Goes rules p a b

-- any number of such steps lead there, also none
abbrev pub Brings : {T : Type 0} → HostRules T → Program → (a b : Place) → Type 0
Brings rules p a b = Holds p a → Arrives rules p a b

-- a store after such steps: global variables name functions that are there, and no unit has come
abbrev pub IsKept : Program → Place → Store → Type 0
IsKept p a store =
    Holds p a →
    AreNumberedIn (count_of_functions p) (globals_in p store) × (store.fuel ≤ a.store.fuel)

-- no unit of fuel is left and nothing has changed, or no memory
abbrev pub EndsWanting : {S : Type 0} → Program → Place → Store → Exit S → Type 0
EndsWanting p a store exit.Fuel = (a.store.fuel ≡ 0) × (store ≡ a.store)
EndsWanting p a store exit.OutOfMemory = IsKept p a store
EndsWanting p a store x = ⊥

-- where a loop stands at the end of a turn
abbrev pub turned : Store → Current → Bor Expr → Bor (List Stmt) → List Frame → Value → Place
turned store current test block fs v =
    place store current (frame.Turn test block ∷ fs) (focus.Value v)

-- where a loop stands with the value of its condition
abbrev pub tested_at : Store → Current → Bor Expr → Bor (List Stmt) → List Frame → Value → Place
tested_at store current test block fs v =
    place store current (frame.Test test block ∷ fs) (focus.Value v)

-- where something waits for a value, which is there
abbrev pub waited_at : Store → Current → Waiting → List Frame → Value → Place
waited_at store current waiting fs v =
    place store current (frame.Wait waiting ∷ fs) (focus.Value v)

-- the frames where these statements wait for the end of the one before them
abbrev pub before_stmt : Bor (List Stmt) → List Frame → List Frame
before_stmt rest fs = frame.Wait (waiting.Stmts rest) ∷ fs

-- the frames where a condition's sides wait for its value, and these statements for the end of the
-- side that comes
abbrev pub branches : Bor (List Stmt) → Bor (List (Expr × Vec Stmt Global))
    → Bor (Option (Vec Stmt Global)) → Bor (List Stmt) → List Frame → List Frame
branches block others last rest fs =
    frame.Wait (waiting.If block others last) ∷ frame.Wait (waiting.Stmts rest) ∷ fs
