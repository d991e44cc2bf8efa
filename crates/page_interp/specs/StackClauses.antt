-- What the functions of the machine promise of a step, with the stack that they work on.
use Rattle.std.specs.Prelude.{◌≡◌, ◌+◌, ℕ, List, [], ◌∷◌, map, Option, Some, None, Result, Vec, IfOk, IfSome, IfNone}
use Rattle.std.specs.Option.{option_map}
use Rattle.std.specs.declared.alloc.Global.{Global}
use Rattle.std.specs.Borrow.{Bor}
use Rattle.page_types.specs.Tree.{Block, with_stmt}
use Rattle.page_types.specs.Values.{FunValue, no_values}
use Rattle.page_types.specs.declared.ProductSign.{ProductSign}
use Rattle.page_types.specs.declared.SumSign.{SumSign}
use Rattle.page_parts.specs.Kinds.{bool_in}
use Rattle.page_values.specs.declared.Value.{Value}
use Rattle.page_values.specs.Seen.{seen}
use Rattle.lang_ast.specs.declared.program.Program as Code
use Rattle.lang_ast.specs.declared.tree.Named.{Named}
use Rattle.lang_ast.specs.declared.tree.Expr.{Expr}
use Rattle.lang_ast.specs.declared.tree.Expr as E
use Rattle.lang_ast.specs.declared.tree.Stmt.{Stmt}
use Rattle.lang_ast.specs.declared.tree.Stmt.TheVariants as statement
use Rattle.lang_ast.specs.declared.tree.Item.{Item}
use Rattle.lang_ast.specs.Seen.{seen_stmt, seen_items}
use Rattle.lang_ast.specs.Hosts.{HostNow}
use Rattle.lang_meaning.specs.Evaluation.{Function, own_body}
use Rattle.lang_meaning.specs.HostSteps.{HostRules, HostStep, Ask}
use Rattle.lang_meaning.specs.OpNames.{op_named}
use Rattle.page_interp.specs.declared.exit.Exit.{Exit}
use Rattle.page_interp.specs.declared.exit.Store.{Store}
use Rattle.page_interp.specs.declared.stack.Current.{Current}
use Rattle.page_interp.specs.declared.stack.Focus.{Focus}
use Rattle.page_interp.specs.declared.stack.Focus.TheVariants as focus
use Rattle.page_interp.specs.declared.stack.Frame.{Frame}
use Rattle.page_interp.specs.declared.stack.Frame.TheVariants as frame
use Rattle.page_interp.specs.declared.stack.Purpose.{Purpose}
use Rattle.page_interp.specs.declared.stack.Waiting.{Waiting}
use Rattle.page_interp.specs.declared.stack.Waiting.TheVariants as waiting
use Rattle.page_interp.specs.Direct.{NameHolds, names_there}
use Rattle.page_interp.specs.AtOnce.{Assigns, Leads, Brings, before_stmt, branches, turned, waited_at}
use Rattle.page_interp.specs.Clauses.{CallRuns, script}
use Rattle.page_interp.specs.CodeNames.{function_at}
use Rattle.page_interp.specs.Frames.{Place, IsCalled, IsPicked, Moves, Stood, Answering, stacked, place, moment_at, tickets_in, call_names, call_variables, call_body}
use Rattle.page_interp.specs.Runs.{IsReady, outside, value_left, variables_of}

-- ---- The stack

-- where the machine stands, with this stack
abbrev pub stand : Store → Current → Vec Frame Global → Focus → Place
stand store current stack f = place store current (stacked stack.items) f

-- ---- A step that does not ask the host

-- it leads on with no eye on the variables
abbrev pub MovesOn : {T : Type 0} → HostRules T → Focus → (old new : Vec Frame Global)
    → Focus → Type 0
MovesOn rules f old new = Moves rules (stacked old.items) f (stacked new.items)

-- the same of a value that comes back to what waits for it
abbrev pub Takes : {T : Type 0} → HostRules T → Value → Waiting → (old new : Vec Frame Global)
    → Focus → Type 0
Takes rules v waiting old new =
    Moves rules (frame.Wait waiting ∷ stacked old.items) (focus.Value v) (stacked new.items)

-- the same where these statements wait for its end
abbrev pub MovesBefore : {T : Type 0} → HostRules T → Bor (List Stmt) → Focus
    → (old new : Vec Frame Global) → Focus → Type 0
MovesBefore rules rest f old new =
    Moves rules (before_stmt rest (stacked old.items)) f (stacked new.items)

-- the same from the `else` side of a condition
abbrev pub ElseMoves : {T : Type 0} → HostRules T → Bor (List Stmt)
    → Bor (List (Expr × Vec Stmt Global)) → Bor (Option (Vec Stmt Global))
    → (old new : Vec Frame Global) → Focus → Type 0
ElseMoves rules rest others last old new =
    MovesBefore rules rest (focus.Others others last) old new

-- the same of a condition's value, where its sides wait for it, and these statements for their end
abbrev pub Branches : {T : Type 0} → HostRules T → Bor (List Stmt)
    → Bor (List (Expr × Vec Stmt Global)) → Bor (Option (Vec Stmt Global)) → Bor (List Stmt)
    → Value → (old new : Vec Frame Global) → Focus → Type 0
Branches rules block others last rest v old new =
    Moves rules (branches block others last rest (stacked old.items)) (focus.Value v)
    (stacked new.items)

-- where there is a result, it leads there
abbrev pub TakesBranch : {T X : Type 0} → Result Focus X → HostRules T → Bor (List Stmt)
    → Bor (List (Expr × Vec Stmt Global)) → Bor (Option (Vec Stmt Global)) → Bor (List Stmt)
    → Value → (old new : Vec Frame Global) → Type 0
TakesBranch result rules block others last rest v old new =
    IfOk result (Branches rules block others last rest v old new)

-- of a condition's value, one side or the other is next
abbrev pub IsSide : Value → Bor (List Stmt) → Bor (List (Expr × Vec Stmt Global))
    → Bor (Option (Vec Stmt Global)) → Focus → Type 0
IsSide v block others last f =
    IsPicked (bool_in (seen v)) (focus.Block block) (focus.Others others last) f

-- a value comes back to the row that waits for it, before these expressions
abbrev pub RowTakes : {T : Type 0} → HostRules T → Purpose → Vec Value Global → Bor (List Expr)
    → Value → Focus → Type 0
RowTakes rules purpose vs rest v = λ f. (fs : List Frame) →
    Moves rules (frame.Wait (waiting.Row purpose vs rest) ∷ fs)
    (focus.Value v) fs f

-- it leads from the store, the variables and the stack before to those after
abbrev pub LeadsOn : {T : Type 0} → HostRules T → Code.Program → Focus
    → Store → Current → Vec Frame Global → Store → Current → Vec Frame Global → Focus → Type 0
LeadsOn rules code f store current stack store' current' stack' = λ f'.
    Leads rules (script code) (stand store current stack f) (stand store' current' stack' f')

-- where there is a result, it leads to it from expressions in a row, and the stack alone changes
abbrev pub RowGoes : {T X : Type 0} → Result Focus X → HostRules T → Code.Program → Purpose
    → Vec Value Global → Bor (List Expr) → Store → Current → (old new : Vec Frame Global) → Type 0
RowGoes result rules code purpose vs rest store current old new =
    IfOk result (LeadsOn rules code (focus.Row purpose vs rest) store current old store current new)

-- where there is a result, it leads to it from an expression, and no variable of a call changes
abbrev pub ExprLeads : {T X : Type 0} → Result Focus X → HostRules T → Code.Program → Bor Expr
    → Store → Current → Vec Frame Global → Store → Vec Frame Global → Type 0
ExprLeads result rules code expr store current stack store' stack' =
    IfOk result (LeadsOn rules code (focus.Expr expr) store current stack store' current stack')

-- the first statement among some items, and the items after it
abbrev pub IsFirstAmong : List Item → Bor Stmt × Bor (List Item) → Type 0
IsFirstAmong items = λ p.
    own_body (seen_items items) ≡ with_stmt (seen_stmt p.0.now) (own_body (seen_items p.1.now))

-- the arguments of a call by this name are for this
abbrev pub IsCallBy : Code.Program → Store → Current → Named → Purpose → Type 0
IsCallBy code store current name =
    IsCalled (op_named name.name) (names_there code store current name.name)

-- it leads on from a call of this name with these arguments
abbrev pub CallLeads : {T : Type 0} → HostRules T → Code.Program → Named → (args : List Expr)
    → Store → Current → (old new : Vec Frame Global) → Focus → Type 0
CallLeads rules code name args store current old new = λ f'.
    (call : Bor Expr) (es : Vec Expr Global) → call.now ≡ E.Call name es → args ≡ es.items →
    Leads rules (script code) (stand store current old (focus.Expr call))
    (stand store current new f')

-- the first expressions of a row have become values, and the others are left
abbrev pub RowBrings : {T : Type 0} → HostRules T → Code.Program → Store → Current
    → Vec Value Global → List Expr → Vec Value Global → List Expr → Type 0
RowBrings rules code store current vs es vs' es' =
    (fs : List Frame) (purpose : Purpose) (row rest : Bor (List Expr)) →
    row.now ≡ es → rest.now ≡ es' →
    Brings rules (script code) (place store current fs (focus.Row purpose vs row))
    (place store current fs (focus.Row purpose vs' rest))

-- the same, where these expressions are left
abbrev pub RowLeaves : {T : Type 0} → HostRules T → Code.Program → Store → Current
    → Vec Value Global → List Expr → Vec Value Global → Bor (List Expr) → Type 0
RowLeaves rules code store current vs es vs' = λ rest.
    RowBrings rules code store current vs es vs' rest.now

-- the first statements of a block are done, and the others are left
abbrev pub BlockBrings : {T : Type 0} → HostRules T → Code.Program
    → Store → Current → List Stmt → Store → Current → List Stmt → Type 0
BlockBrings rules code store current ss store' current' ss' =
    (fs : List Frame) (block rest : Bor (List Stmt)) → block.now ≡ ss → rest.now ≡ ss' →
    Brings rules (script code) (place store current fs (focus.Block block))
    (place store' current' fs (focus.Block rest))

-- the same, where these statements are left
abbrev pub BlockLeaves : {T : Type 0} → HostRules T → Code.Program
    → Store → Current → List Stmt → Store → Current → Bor (List Stmt) → Type 0
BlockLeaves rules code store current ss store' current' = λ rest.
    BlockBrings rules code store current ss store' current' rest.now

-- a statement that gives the variable of this name the value of this expression is done
abbrev pub Sets : {T : Type 0} → HostRules T → Code.Program → Named → Expr
    → Store → Current → Store → Current → Type 0
Sets rules code name e store current store' current' =
    (s : Stmt) (rest : List Stmt) → Assigns s name e →
    BlockBrings rules code store current (s ∷ rest) store' current' rest

-- the statements return this value, and the store alone changes
abbrev pub ReturnsValue : {T : Type 0} → HostRules T → Code.Program
    → Store → Current → List Stmt → Value → Store → Type 0
ReturnsValue rules code store current ss v store' =
    (fs : List Frame) (block : Bor (List Stmt)) → block.now ≡ ss →
    Leads rules (script code) (place store current fs (focus.Block block))
    (place store' current fs (focus.Return v))

-- the expression comes to this value, and the store alone changes
abbrev pub ValueComes : {T : Type 0} → HostRules T → Code.Program → Expr
    → Store → Current → Value → Store → Type 0
ValueComes rules code e store current v store' =
    (fs : List Frame) (expr : Bor Expr) → expr.now ≡ e →
    Leads rules (script code) (place store current fs (focus.Expr expr))
    (place store' current fs (focus.Value v))

-- the expressions of a row have become these values
pub record AreFound {T : Type 0} (rules : HostRules T) (code : Code.Program)
    (store : Store) (current : Current) (es : List Expr) (vs : Vec Value Global) : Type 0 where
  pub none : Vec Value Global
  pub empty : none.items ≡ []
  pub brings : RowBrings rules code store current none es vs []

-- the further terms bring a sum so far to this value
abbrev pub TermsCome : {T : Type 0} → HostRules T → Code.Program → List (SumSign × Expr)
    → Store → Current → (first v : Value) → Store → Type 0
TermsCome rules code ts store current first v store' =
    (fs : List Frame) (terms : Bor (List (SumSign × Expr))) → terms.now ≡ ts →
    Leads rules (script code) (waited_at store current (waiting.Terms terms) fs first)
    (place store' current fs (focus.Value v))

-- the further factors bring a product so far to this value
abbrev pub FactorsCome : {T : Type 0} → HostRules T → Code.Program → List (ProductSign × Expr)
    → Store → Current → (first v : Value) → Store → Type 0
FactorsCome rules code ts store current first v store' =
    (fs : List Frame) (factors : Bor (List (ProductSign × Expr))) → factors.now ≡ ts →
    Leads rules (script code) (waited_at store current (waiting.Factors factors) fs first)
    (place store' current fs (focus.Value v))

-- the same, where this value comes of them
abbrev pub FactorsBring : {T : Type 0} → HostRules T → Code.Program → List (ProductSign × Expr)
    → Store → Current → (first : Value) → Store → (v : Value) → Type 0
FactorsBring rules code ts store current first store' = λ v.
    FactorsCome rules code ts store current first v store'

-- the name stands for this function, whatever the global variables hold
abbrev pub NamesFunction : Code.Program → Current → Named → (function : ℕ) → Type 0
NamesFunction code current name = λ n. (store : Store) →
    NameHolds code store current name.name (FunValue n no_values)

-- a call of this function with these arguments, which takes a unit, comes to this value
abbrev pub CallReturns : {T : Type 0} → HostRules T → Code.Program
    → (function : ℕ) → (args : Vec Value Global) → (less : Store) → Current → Value → Store → Type 0
CallReturns rules code function args less current v store' =
    (fs : List Frame) (callee : Option Value) →
    option_map seen callee ≡ Some (FunValue function no_values) →
    Leads rules (script code)
    (place (record less { fuel = less.fuel + 1 }) current fs (focus.Call callee args))
    (place store' current fs (focus.Value v))

-- a call by the name of this function with these expressions comes to this value
abbrev pub CallComes : {T : Type 0} → HostRules T → Code.Program
    → (function : ℕ) → (args : List Expr) → Store → Current → Value → Store → Type 0
CallComes rules code function args store current v store' =
    (e : Expr) (name : Named) (es : Vec Expr Global) → e ≡ E.Call name es → args ≡ es.items →
    op_named name.name ≡ None → NameHolds code store current name.name (FunValue function no_values) →
    ValueComes rules code e store current v store'

-- it leads on from a statement that returns the value of this expression, where these statements wait
-- for its end, and the stack alone changes
abbrev pub ReturnLeads : {T : Type 0} → HostRules T → Code.Program → Expr
    → Store → Current → (old new : Vec Frame Global) → Focus → Type 0
ReturnLeads rules code e store current old new = λ f.
    (stmt : Bor Stmt) (rest : Bor (List Stmt)) → stmt.now ≡ statement.Return (Some e) →
    Leads rules (script code)
    (place store current (before_stmt rest (stacked old.items)) (focus.Stmt stmt))
    (stand store current new f)

-- it leads on from the end of a loop's turn to where the condition is next
abbrev pub TurnComes : {T : Type 0} → HostRules T → Code.Program → Expr → List Stmt
    → Store → Current → Store → Current → Type 0
TurnComes rules code e ss store current store' current' =
    (fs : List Frame) (v : Value) (test : Bor Expr) (block : Bor (List Stmt)) →
    test.now ≡ e → block.now ≡ ss →
    Leads rules (script code) (turned store current test block fs v)
    (place store' current' (frame.Test test block ∷ fs) (focus.Expr test))

-- or into a turn whose block is done but for these statements
abbrev pub TurnBegins : {T : Type 0} → HostRules T → Code.Program → Expr → List Stmt
    → Store → Current → Store → Current → (left : List Stmt) → Type 0
TurnBegins rules code e ss store current store' current' left =
    (fs : List Frame) (v : Value) (test : Bor Expr) (block rest : Bor (List Stmt)) →
    test.now ≡ e → block.now ≡ ss → rest.now ≡ left →
    Leads rules (script code) (turned store current test block fs v)
    (place store' current' (frame.Turn test block ∷ fs) (focus.Block rest))

-- where nothing is left of a block, the condition is next
abbrev pub ComesToTest : {T X : Type 0} → Option X → HostRules T → Code.Program → Expr → List Stmt
    → Store → Current → Store → Current → Type 0
ComesToTest result rules code e ss store current store' current' =
    IfNone result (TurnComes rules code e ss store current store' current')

-- where these statements are left of a block, its turn has begun
abbrev pub BeginsTurn : {T : Type 0} → Option (Bor (List Stmt)) → HostRules T → Code.Program
    → Expr → List Stmt → Store → Current → Store → Current → Type 0
BeginsTurn result rules code e ss store current store' current' =
    IfSome result (λ rest. TurnBegins rules code e ss store current store' current' rest.now)

-- ---- A call

-- what is called by a number has this body
abbrev pub body_at : Code.Program → ℕ → Block
body_at code function = call_body (script code) (function_at code function)

-- the variables of what is called with these arguments have these values
abbrev pub AreCallLocals : Option Function → (args locals : Vec Value Global) → Type 0
AreCallLocals called args locals =
    variables_of (call_names called) locals.items ≡ call_variables called (map seen args.items)

-- ---- A step that may ask the host

-- a run stands there, with some tickets that were open before it
abbrev pub IsStanding : {T S : Type 0} → HostRules T → (Ask → T → T → Type 0) → Code.Program
    → HostNow T S → Place → Type 0
IsStanding rules leaves code h a = (ts : List ℕ) × Stood rules leaves (script code) ts h a

-- a call of this function with these arguments has this result, where no call is open
abbrev pub RunsCall : {Self T S : Type 0} → HostRules T → (Ask → T → T → Type 0)
    → (now : Self → HostNow T S) → Code.Program → (function : ℕ) → (args : Vec Value Global)
    → Self → Store → Result Value (Exit S) → Self → Store → Type 0
RunsCall rules leaves now code function args host store result host' store' =
    CallRuns rules leaves code function (map seen args.items)
    (now host) store (value_left result) (now host') store'

-- ---- Asks of the host

-- what is known where the host has answered with this step
abbrev pub HasAnswered : {T S : Type 0} → HostRules T → (Ask → T → T → Type 0)
    → (left : T → ℕ → ℕ) → Code.Program → List ℕ → HostNow T S → Place → HostStep → Type 0
HasAnswered rules leaves left code ts h a step =
    Answering rules leaves (script code) ts (left h.told) h a step

-- the host waits for a callback under this ticket, above those of its frames
abbrev pub WaitsUnder : {T S : Type 0} → (ticket : ℕ) → HostNow T S → Vec Frame Global
    → List ℕ → Type 0
WaitsUnder ticket h stack ts = h.tickets ≡ ticket ∷ tickets_in (stacked stack.items) ts

-- the host may rely there on what it relies on
abbrev pub IsReadyAt : {T S : Type 0} → HostRules T → (Ask → T → T → Type 0) → Code.Program
    → HostNow T S → Place → Type 0
IsReadyAt rules leaves code h a =
    IsReady (outside rules leaves (script code)) (moment_at (script code) h a)
