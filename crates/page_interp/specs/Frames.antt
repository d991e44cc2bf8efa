-- What stands on the machine's stack, and what it means by the meaning of the script.
use Rattle.std.specs.Prelude.{◌≡◌, ℕ, ◌+◌, ◌*◌, ◌^◌, ◌<◌, ◌≤◌, Bool, true, false, List, [], ◌∷◌, ◌++◌, map, reverse, length, Option, Some, None, Result, Ok, Err, ⊤, Vec}
use Rattle.std.specs.declared.alloc.Global.{Global}
use Rattle.std.specs.Option.{option_map}
use Rattle.page_types.specs.Values as Model
use Rattle.page_types.specs.Values.{BoolValue, ListValue, FaultValue, values_of}
use Rattle.page_types.specs.Tree.{Program, Expr, Block}
use Rattle.page_types.specs.declared.Op.{Op}
use Rattle.page_types.specs.declared.FaultName.{FaultName}
use Rattle.page_types.specs.declared.FaultName.TheVariants.{TypeError, RangeError}
use Rattle.page_parts.specs.Kinds.{Func}
use Rattle.page_values.specs.declared.Value.{Value}
use Rattle.page_values.specs.declared.Value.TheVariants as value
use Rattle.page_values.specs.Seen.{seen}
use Rattle.page_values.specs.Written.{IsNumbered}
use Rattle.lang_ast.specs.Seen.{seen_expr, seen_exprs, seen_terms, seen_factors, seen_stmt, seen_block, seen_others, seen_else, seen_items}
use Rattle.lang_ast.specs.Names.{in_expr, in_exprs, in_terms, in_factors, in_stmt, in_block, in_others, in_else, count_exprs}
use Rattle.lang_ast.specs.Calls.{CallsFit}
use Rattle.lang_ast.specs.Operations.{count_of}
use Rattle.lang_ast.specs.Sizes.{expr_size, exprs_size, terms_size, factors_size, stmt_size, block_size, others_size, else_size}
use Rattle.lang_ast.specs.Steps.{AllNumbered, AreFew, StepIsNumbered, tickets_after}
use Rattle.lang_ast.specs.Hosts.{HostNow}
use Rattle.lang_meaning.specs.Machine as M
use Rattle.lang_meaning.specs.Machine.{Machine, Done, Gives, Throws, Returns, and_then, or_catch, finish, take_unit, assigned}
use Rattle.lang_meaning.specs.Evaluation.{Answer, Around, eval, eval_or, eval_and, eval_all, eval_sum, eval_product, eval_places, exec, exec_block, exec_others, exec_else, own_body, tested, compared, sum_of, product_of, unary_of, item_at, limited, loop_turns, end_of_call, without_first, Function, parameters_with, unit_variables, names_in}
use Rattle.lang_meaning.specs.HostSteps.{HostRules, HostStep, StepValue, StepThrow, StepInvoke, Ask, AskResume, CallbackEnd, steps_by, after_callback}
use Rattle.lang_meaning.specs.Asks.{Limited, ask_limited}
use Rattle.page_interp.specs.declared.exit.Exit.{Exit}
use Rattle.page_interp.specs.declared.exit.Exit.TheVariants as exit
use Rattle.page_interp.specs.declared.exit.Store.{Store}
use Rattle.page_interp.specs.declared.stack.Focus.{Focus}
use Rattle.page_interp.specs.declared.stack.Focus.TheVariants as focus
use Rattle.page_interp.specs.declared.stack.Frame.{Frame}
use Rattle.page_interp.specs.declared.stack.Frame.TheVariants as frame
use Rattle.page_interp.specs.declared.stack.Waiting.{Waiting}
use Rattle.page_interp.specs.declared.stack.Waiting.TheVariants as waiting
use Rattle.page_interp.specs.declared.stack.Purpose.{Purpose}
use Rattle.page_interp.specs.declared.stack.Purpose.TheVariants as purpose
use Rattle.page_interp.specs.declared.stack.Current.{Current}
use Rattle.page_interp.specs.Runs.{Part, variables_of, globals_in, machine_of, count_of_functions, SomeIsNumbered, AreNumberedIn, Left, ends, refused, no_memory, exit_left, call_left, Is, IsDry, WhereSettled, LeftIsNumbered, caller_of, around_of, call_given, func_of, frame_names, Moment, moment_of, outside, IsReady, Asks, Runs}
use Rattle.page_interp.specs.Sizes.{program_size}
use Rattle.page_interp.specs.Variables.{SetsLocal, SetsGlobal}
use Rattle.std.specs.Borrow.{Bor}
use Rattle.lang_ast.specs.declared.program.Program as Code
use Rattle.lang_ast.specs.declared.tree.Named.{Named}
use Rattle.lang_ast.specs.declared.tree.Expr as Syntax
use Rattle.lang_ast.specs.declared.tree.Stmt.{Stmt}

-- the frames, the innermost first
unfoldable pub stacked : List Frame → List Frame
stacked frames = reverse frames

-- this frame is on top of a stack, and the others are below it
abbrev pub HasOnTop : (stack : Vec Frame Global) → Frame → (others : Vec Frame Global) → Type 0
HasOnTop stack frame others = stacked stack.items ≡ frame ∷ stacked others.items

-- how many calls are open inside these frames
abbrev pub depth_of : List Frame → ℕ
depth_of [] = 1
depth_of (frame.Open names locals ∷ fs) = depth_of fs + 1
depth_of (f ∷ fs) = depth_of fs

-- the variables of the open calls that wait for another one
abbrev pub saved : List Frame → List (List M.Variable)
saved [] = []
saved (frame.Open names locals ∷ fs) = variables_of names.now locals.items ∷ saved fs
saved (f ∷ fs) = saved fs

-- the tickets of the host's frames, before those that were open already
abbrev pub tickets_in : List Frame → List ℕ → List ℕ
tickets_in [] ts = ts
tickets_in (frame.Host ticket ∷ fs) ts = ticket ∷ tickets_in fs ts
tickets_in (f ∷ fs) ts = tickets_in fs ts

-- A loop and a host are cut off in the meaning after a number of turns: each frame has a number in
-- the definition.
abbrev pub first : List ℕ → ℕ
first [] = 0
first (n ∷ ns) = n

-- what is done with values in a row
abbrev pub used_for : {H : Type 0} → Around H → Purpose → List Model.Value → Machine H → Done H
used_for w purpose.List vs m = limited (ListValue (values_of vs)) m
used_for w (purpose.Ask op) vs m = w.operate op vs m
used_for w (purpose.Call o) vs m = call_given w.call (option_map seen o) vs m

-- what is done on the `else` sides of a condition
abbrev pub sides : {H : Type 0} → Around H → Bor (List (Syntax.Expr × Vec Stmt Global))
    → Bor (Option (Vec Stmt Global)) → Machine H → Done H
sides w others last = exec_others w (seen_others others.now) (exec_else w (seen_else last.now))

-- what is done for the expressions of a row, after these values
abbrev pub in_row : {H : Type 0} → Around H → Purpose → List Model.Value → Bor (List Syntax.Expr)
    → Machine H → Done H
in_row w purpose vs es = eval_all w (seen_exprs es.now) vs (used_for w purpose)

-- what is to be done next
abbrev pub does : {H : Type 0} → Around H → Focus → Machine H → Done H
does w (focus.Expr e) m = eval w (seen_expr e.now) m
does w (focus.Row purpose vs es) m = in_row w purpose (map seen vs.items) es m
does w (focus.Stmt s) m = exec w (seen_stmt s.now) m
does w (focus.Block ss) m = exec_block w (seen_block ss.now) m
does w (focus.Items items) m = exec_block w (own_body (seen_items items.now)) m
does w (focus.Others others last) m = sides w others last m
does w (focus.Ask op vs) m = w.operate op (map seen vs.items) m
does w (focus.Call o vs) m = call_given w.call (option_map seen o) (map seen vs.items) m
does w (focus.Value v) m = Gives (seen v) m
does w (focus.Throw v) m = Throws (seen v) m
does w (focus.Return v) m = Returns (seen v) m

-- the further turns of a loop, at most so many
abbrev pub turns : {H : Type 0} → Around H → ℕ → Expr → Block → Machine H → Done H
turns w n e block m = loop_turns n (eval w e) (exec_block w block) m

-- the block of a loop, and then its further turns
abbrev pub block_turns : {H : Type 0} → Around H → ℕ → Expr → Block → Machine H → Done H
block_turns w n e block m = and_then (exec_block w block m) (λ u m. turns w n e block m)

-- what is done in a turn of a loop after its condition, and with so many turns behind it
abbrev pub turn : {H : Type 0} → Around H → ℕ → Expr → Block → Model.Value → Machine H → Done H
turn w n e block v m = tested v m (λ m. take_unit m (λ m. block_turns w n e block m)) finish

-- the host is resumed after a callback that ended so
abbrev pub resumes : {T : Type 0} → HostRules T → (n ticket : ℕ) → CallbackEnd
    → Around (Limited T) → Part T
resumes rules n ticket end d m =
    ask_limited rules (AskResume ticket end) m (steps_by (ask_limited rules) d.call n)

-- the host goes on after a callback, with at most so many callbacks more
abbrev pub goes_on : {T : Type 0} → HostRules T → Around (Limited T) → ℕ → ℕ
    → Done (Limited T) → Done (Limited T)
goes_on rules w n ticket d =
    after_callback (λ ticket end m. resumes rules n ticket end w m) ticket d

-- what comes after a value that something waits for
abbrev pub continues : {H : Type 0} → Around H → Waiting → Model.Value → Machine H → Done H
continues w (waiting.Or es) v m =
    tested v m (Gives (BoolValue true)) (eval_or w (seen_exprs es.now))
continues w (waiting.And es) v m =
    tested v m (eval_and w (seen_exprs es.now)) (Gives (BoolValue false))
continues w (waiting.Left sign e) v m =
    and_then (eval w (seen_expr e.now) m) (λ y m. compared sign v y m)
continues w (waiting.Right sign x) v m = compared sign (seen x) v m
continues w (waiting.Terms ts) v m = eval_sum w (seen_terms ts.now) v m
continues w (waiting.Term x sign ts) v m =
    and_then (sum_of sign (seen x) v m) (eval_sum w (seen_terms ts.now))
continues w (waiting.Factors ts) v m = eval_product w (seen_factors ts.now) v m
continues w (waiting.Factor x sign ts) v m =
    and_then (product_of sign (seen x) v m) (eval_product w (seen_factors ts.now))
continues w (waiting.Unary sign) v m = unary_of sign v m
continues w (waiting.Places es) v m = eval_places w (seen_exprs es.now) v m
continues w (waiting.Place x es) v m =
    and_then (item_at (seen x) v m) (eval_places w (seen_exprs es.now))
continues w (waiting.Row purpose vs es) v m = in_row w purpose (map seen vs.items ++ v ∷ []) es m
continues w waiting.Ignore v m = finish m
continues w (waiting.If block others last) v m =
    tested v m (exec_block w (seen_block block.now)) (sides w others last)
continues w waiting.Return v m = Returns v m
continues w waiting.Throw v m = Throws v m
continues w (waiting.Stmts ss) v m = exec_block w (seen_block ss.now) m
continues w (waiting.Items items) v m = exec_block w (own_body (seen_items items.now)) m

-- what a `catch` does with what was thrown
abbrev pub caught : {H : Type 0} → Around H → Named → Block → Model.Value → Machine H → Done H
caught w x block v m = exec_block w block (assigned m x.name v)

-- what a frame makes of the end of what it waits for
abbrev pub then_frame : {T : Type 0} → HostRules T → Around (Limited T) → ℕ → Frame
    → Done (Limited T) → Done (Limited T)
then_frame rules w n (frame.Wait waiting) d = and_then d (continues w waiting)
then_frame rules w n (frame.Assign x) d = and_then d (λ v m. finish (assigned m x.now.name v))
then_frame rules w n (frame.Test e block) d =
    and_then d (turn w n (seen_expr e.now) (seen_block block.now))
then_frame rules w n (frame.Turn e block) d =
    and_then d (λ u m. turns w n (seen_expr e.now) (seen_block block.now) m)
then_frame rules w n (frame.Try x handler) d =
    or_catch d (λ v m. caught w x.now (seen_block handler.now) v m)
then_frame rules w n (frame.Open names locals) d = end_of_call d
then_frame rules w n (frame.Host ticket) d = goes_on rules w n ticket d

-- what is around an expression inside these frames
abbrev pub around_in : {T : Type 0} → HostRules T → Program → List Frame → Around (Limited T)
around_in rules p fs = around_of rules p (depth_of fs)

-- what all frames make of it, and then the end of the outermost call
abbrev pub after_all : {T : Type 0} → HostRules T → Program → List Frame → List ℕ
    → Done (Limited T) → Done (Limited T)
after_all rules p [] ns d = end_of_call d
after_all rules p (f ∷ fs) ns d =
    after_all rules p fs (without_first ns) (then_frame rules (around_in rules p fs) (first ns) f d)

-- where the machine stands between two steps
pub record Place : Type 0 where
  pub store : Store
  pub current : Current
  pub frames : List Frame
  pub focus : Focus

abbrev pub place : Store → Current → List Frame → Focus → Place
place store current frames focus =
    record { store = store; current = current; frames = frames; focus = focus }

-- the variables of the innermost call
abbrev pub held_by : Current → List M.Variable
held_by current = variables_of current.names.now current.locals.items

-- the variables of the open calls there, the innermost first
abbrev pub open_at : Place → List (List M.Variable)
open_at a = held_by a.current ∷ saved a.frames

-- the state of the machine there
abbrev pub state_at : {T : Type 0} → Program → T → Place → Machine T
state_at p host a = machine_of p host a.store (open_at a)

-- what is left to do there
abbrev pub left_to_do : {T : Type 0} → HostRules T → Program → List ℕ → Place → Part T
left_to_do rules p ns a m =
    after_all rules p a.frames ns (does (around_in rules p a.frames) a.focus m)

unfoldable pub meaning_at : {T : Type 0} → HostRules T → Program → List ℕ → Place
    → Limited T → Done (Limited T)
meaning_at rules p ns a host = left_to_do rules p ns a (state_at p host a)

-- The number of a frame is great enough: no loop makes more turns than there are units, and between
-- two callbacks that take a unit fewer than 2 ^ 64 come.
abbrev pub HasTurns : (fuel : ℕ) → Frame → (n : ℕ) → Type 0
HasTurns fuel (frame.Test e block) n = fuel ≤ n
HasTurns fuel (frame.Turn e block) n = fuel + 1 ≤ n
HasTurns fuel (frame.Host ticket) n = (fuel + 1) * (2 ^ 64) ≤ n
HasTurns fuel f n = ⊤

abbrev pub HaveTurns : ℕ → List Frame → List ℕ → Type 0
HaveTurns fuel [] ns = ⊤
HaveTurns fuel (f ∷ fs) ns = HasTurns fuel f (first ns) × HaveTurns fuel fs (without_first ns)

-- how much of the script is in the `else` sides of a condition
abbrev pub sides_size : Bor (List (Syntax.Expr × Vec Stmt Global))
    → Bor (Option (Vec Stmt Global)) → ℕ
sides_size others last = others_size (seen_others others.now) + else_size (seen_else last.now)

-- how much of the script is in what is to be done next, and in what waits
abbrev pub focus_size : Focus → ℕ
focus_size (focus.Expr e) = expr_size (seen_expr e.now)
focus_size (focus.Row purpose vs es) = exprs_size (seen_exprs es.now)
focus_size (focus.Stmt s) = stmt_size (seen_stmt s.now)
focus_size (focus.Block ss) = block_size (seen_block ss.now)
focus_size (focus.Items items) = block_size (own_body (seen_items items.now))
focus_size (focus.Others others last) = sides_size others last
focus_size (focus.Ask op vs) = 0
focus_size (focus.Call o vs) = 0
focus_size (focus.Value v) = 0
focus_size (focus.Throw v) = 0
focus_size (focus.Return v) = 0

abbrev pub waiting_size : Waiting → ℕ
waiting_size (waiting.Or es) = exprs_size (seen_exprs es.now)
waiting_size (waiting.And es) = exprs_size (seen_exprs es.now)
waiting_size (waiting.Left sign e) = expr_size (seen_expr e.now)
waiting_size (waiting.Right sign v) = 0
waiting_size (waiting.Terms ts) = terms_size (seen_terms ts.now)
waiting_size (waiting.Term v sign ts) = terms_size (seen_terms ts.now)
waiting_size (waiting.Factors ts) = factors_size (seen_factors ts.now)
waiting_size (waiting.Factor v sign ts) = factors_size (seen_factors ts.now)
waiting_size (waiting.Unary sign) = 0
waiting_size (waiting.Places es) = exprs_size (seen_exprs es.now)
waiting_size (waiting.Place v es) = exprs_size (seen_exprs es.now)
waiting_size (waiting.Row purpose vs es) = exprs_size (seen_exprs es.now)
waiting_size waiting.Ignore = 0
waiting_size (waiting.If block others last) =
    block_size (seen_block block.now)
    + others_size (seen_others others.now) + else_size (seen_else last.now)
waiting_size waiting.Return = 0
waiting_size waiting.Throw = 0
waiting_size (waiting.Stmts ss) = block_size (seen_block ss.now)
waiting_size (waiting.Items items) = block_size (own_body (seen_items items.now))

abbrev pub frame_size : Frame → ℕ
frame_size (frame.Wait waiting) = waiting_size waiting
frame_size (frame.Assign x) = 0
frame_size (frame.Test e block) = expr_size (seen_expr e.now) + block_size (seen_block block.now)
frame_size (frame.Turn e block) = expr_size (seen_expr e.now) + block_size (seen_block block.now)
frame_size (frame.Try x handler) = block_size (seen_block handler.now)
frame_size (frame.Open names locals) = 0
frame_size (frame.Host ticket) = 0

-- how many steps may come at most before a unit is taken: for each part of the script two, and for
-- a value one
abbrev pub focus_weight : Focus → ℕ
focus_weight (focus.Expr e) = 2 * expr_size (seen_expr e.now)
focus_weight (focus.Row purpose vs es) = 2 * exprs_size (seen_exprs es.now) + 1
focus_weight (focus.Stmt s) = 2 * stmt_size (seen_stmt s.now)
focus_weight (focus.Block ss) = 2 * block_size (seen_block ss.now)
focus_weight (focus.Items items) = 2 * block_size (own_body (seen_items items.now))
focus_weight (focus.Others others last) = 2 * sides_size others last + 1
focus_weight (focus.Ask op vs) = 2
focus_weight (focus.Call o vs) = 2
focus_weight (focus.Value v) = 1
focus_weight (focus.Throw v) = 1
focus_weight (focus.Return v) = 1

abbrev pub waiting_weight : Waiting → ℕ
waiting_weight (waiting.Terms ts) = 2 * terms_size (seen_terms ts.now)
waiting_weight (waiting.Factors ts) = 2 * factors_size (seen_factors ts.now)
waiting_weight (waiting.Places es) = 2 * exprs_size (seen_exprs es.now)
waiting_weight waiting = 2 * waiting_size waiting + 1

abbrev pub frame_weight : Frame → ℕ
frame_weight (frame.Wait waiting) = waiting_weight waiting
frame_weight (frame.Assign x) = 1
frame_weight (frame.Test e block) = 1
frame_weight (frame.Turn e block) = 2 * expr_size (seen_expr e.now) + 1
frame_weight (frame.Try x handler) = 2 * block_size (seen_block handler.now) + 1
frame_weight (frame.Open names locals) = 1
frame_weight (frame.Host ticket) = 1

abbrev pub frames_weight : List Frame → ℕ
frames_weight [] = 0
frames_weight (f ∷ fs) = frame_weight f + frames_weight fs

-- how many steps may come at most, with this weight of what is to be done next
abbrev pub steps_with : Program → Place → (weight : ℕ) → ℕ
steps_with p a weight = a.store.fuel * (2 * program_size p + 8) + (weight + frames_weight a.frames)

unfoldable pub steps_left : Program → Place → ℕ
steps_left p a = steps_with p a (focus_weight a.focus)

-- operations have as many arguments as they take: so many values are there, and so many come
abbrev pub HasArguments : (count : ℕ) → Purpose → (n : ℕ) → Type 0
HasArguments count (purpose.Ask op) n = n ≡ count_of op
HasArguments count (purpose.Call o) n = SomeIsNumbered count (option_map seen o)
HasArguments count purpose.List n = ⊤

-- the operations in a part of the script have as many arguments as they take
abbrev pub ExprFits : Bor Syntax.Expr → Type 0
ExprFits e = CallsFit (in_expr (seen_expr e.now))

abbrev pub ExprsFit : Bor (List Syntax.Expr) → Type 0
ExprsFit es = CallsFit (in_exprs (seen_exprs es.now))

abbrev pub BlockFits : Bor (List Stmt) → Type 0
BlockFits ss = CallsFit (in_block (seen_block ss.now))

abbrev pub OthersFit : Bor (List (Syntax.Expr × Vec Stmt Global)) → Type 0
OthersFit others = CallsFit (in_others (seen_others others.now))

abbrev pub ElseFits : Bor (Option (Vec Stmt Global)) → Type 0
ElseFits last = CallsFit (in_else (seen_else last.now))

-- the values name functions that are there
abbrev pub AreSeenNumbered : ℕ → Vec Value Global → Type 0
AreSeenNumbered count vs = AllNumbered count (map seen vs.items)

-- operations have as many arguments as they take, and values name functions that are there
abbrev pub FocusIsSound : ℕ → Focus → Type 0
FocusIsSound count (focus.Expr e) = ExprFits e
FocusIsSound count (focus.Row purpose vs es) =
    HasArguments count purpose (length vs.items + count_exprs (seen_exprs es.now))
    × AreSeenNumbered count vs × ExprsFit es
FocusIsSound count (focus.Stmt s) = CallsFit (in_stmt (seen_stmt s.now))
FocusIsSound count (focus.Block ss) = BlockFits ss
FocusIsSound count (focus.Items items) = CallsFit (in_block (own_body (seen_items items.now)))
FocusIsSound count (focus.Others others last) =
    OthersFit others × ElseFits last
FocusIsSound count (focus.Ask op vs) = (length vs.items ≡ count_of op) × AreSeenNumbered count vs
FocusIsSound count (focus.Call o vs) =
    SomeIsNumbered count (option_map seen o) × AreSeenNumbered count vs
FocusIsSound count (focus.Value v) = IsNumbered count (seen v)
FocusIsSound count (focus.Throw v) = IsNumbered count (seen v)
FocusIsSound count (focus.Return v) = IsNumbered count (seen v)

abbrev pub WaitingIsSound : ℕ → Waiting → Type 0
WaitingIsSound count (waiting.Or es) = ExprsFit es
WaitingIsSound count (waiting.And es) = ExprsFit es
WaitingIsSound count (waiting.Left sign e) = ExprFits e
WaitingIsSound count (waiting.Right sign v) = ⊤
WaitingIsSound count (waiting.Terms ts) = CallsFit (in_terms (seen_terms ts.now))
WaitingIsSound count (waiting.Term v sign ts) = CallsFit (in_terms (seen_terms ts.now))
WaitingIsSound count (waiting.Factors ts) = CallsFit (in_factors (seen_factors ts.now))
WaitingIsSound count (waiting.Factor v sign ts) = CallsFit (in_factors (seen_factors ts.now))
WaitingIsSound count (waiting.Unary sign) = ⊤
WaitingIsSound count (waiting.Places es) = ExprsFit es
WaitingIsSound count (waiting.Place v es) = IsNumbered count (seen v) × ExprsFit es
WaitingIsSound count (waiting.Row purpose vs es) =
    HasArguments count purpose (length vs.items + 1 + count_exprs (seen_exprs es.now))
    × AreSeenNumbered count vs × ExprsFit es
WaitingIsSound count waiting.Ignore = ⊤
WaitingIsSound count (waiting.If block others last) =
    BlockFits block × OthersFit others × ElseFits last
WaitingIsSound count waiting.Return = ⊤
WaitingIsSound count waiting.Throw = ⊤
WaitingIsSound count (waiting.Stmts ss) = BlockFits ss
WaitingIsSound count (waiting.Items items) = CallsFit (in_block (own_body (seen_items items.now)))

abbrev pub FrameIsSound : ℕ → Frame → Type 0
FrameIsSound count (frame.Wait waiting) = WaitingIsSound count waiting
FrameIsSound count (frame.Assign x) = ⊤
FrameIsSound count (frame.Test e block) = ExprFits e × BlockFits block
FrameIsSound count (frame.Turn e block) = ExprFits e × BlockFits block
FrameIsSound count (frame.Try x handler) = BlockFits handler
FrameIsSound count (frame.Open names locals) =
    AreNumberedIn count (variables_of names.now locals.items)
FrameIsSound count (frame.Host ticket) = ⊤

abbrev pub AreSound : (count size : ℕ) → List Frame → Type 0
AreSound count size [] = ⊤
AreSound count size (f ∷ fs) = FrameIsSound count f × (frame_size f ≤ size) × AreSound count size fs

-- what holds wherever the machine stands
pub record Holds (p : Program) (a : Place) : Type 0 where
  pub depth : a.current.depth ≡ depth_of a.frames
  pub few : a.current.depth ≤ 256
  pub globals : AreNumberedIn (count_of_functions p) (globals_in p a.store)
  pub held : AreNumberedIn (count_of_functions p) (held_by a.current)
  pub frames : AreSound (count_of_functions p) (program_size p) a.frames
  pub focus : FocusIsSound (count_of_functions p) a.focus
  pub size : focus_size a.focus ≤ program_size p

-- the same is left to do, around any host
pub record Same {T : Type 0} (rules : HostRules T) (p : Program)
    (a : Place) (ns : List ℕ) (b : Place) : Type 0 where
  pub numbers : List ℕ
  pub enough : HaveTurns b.store.fuel b.frames numbers
  pub same : (host : Limited T) → meaning_at rules p ns a host ≡ meaning_at rules p numbers b host

-- a step that does not ask the host leads from one place to another
pub record Goes {T : Type 0} (rules : HostRules T) (p : Program) (a b : Place) : Type 0 where
  pub means : (ns : List ℕ) → HaveTurns a.store.fuel a.frames ns → Same rules p a ns b
  pub holds : Holds p b
  pub fuel : b.store.fuel ≤ a.store.fuel
  pub tickets : (ts : List ℕ) → tickets_in b.frames ts ≡ tickets_in a.frames ts
  pub fewer : steps_left p b < steps_left p a

-- The same of any number of steps, also of none.
pub record Arrives {T : Type 0} (rules : HostRules T) (p : Program) (a b : Place) : Type 0 where
  pub means : (ns : List ℕ) → HaveTurns a.store.fuel a.frames ns → Same rules p a ns b
  pub holds : Holds p b
  pub fuel : b.store.fuel ≤ a.store.fuel
  pub tickets : (ts : List ℕ) → tickets_in b.frames ts ≡ tickets_in a.frames ts
  pub fewer : steps_left p b ≤ steps_left p a

-- what an operator answers is next
abbrev pub IsAnswer : Focus → Answer → Type 0
IsAnswer (focus.Value v) (Ok w) = seen v ≡ w
IsAnswer (focus.Throw v) (Err name) = seen v ≡ FaultValue name []
IsAnswer f r = ⊥

-- a condition's value picks what is next: TypeError where it is no Bool
abbrev pub IsPicked : Option Bool → (then else f : Focus) → Type 0
IsPicked (Some true) then else f = f ≡ then
IsPicked (Some false) then else f = f ≡ else
IsPicked None then else f = IsAnswer f (Err TypeError)

-- A call by name is next: of an operation, or of what the name stands for before the arguments.
abbrev pub IsCalled : Option Op → Option Model.Value → Purpose → Type 0
IsCalled (Some op) o (purpose.Ask op') = op' ≡ op
IsCalled None o (purpose.Call o') = option_map seen o' ≡ o
IsCalled op o purpose = ⊥

-- the same with no eye on the variables
pub record Moves {T : Type 0} (rules : HostRules T)
    (fs : List Frame) (f : Focus) (fs' : List Frame) (f' : Focus) : Type 0 where
  pub goes : (p : Program) (store : Store) (current : Current) →
      Holds p (place store current fs f) →
      Goes rules p (place store current fs f) (place store current fs' f')

-- this is left without a refusal of the host
abbrev pub IsOwn : {S : Type 0} → Left S → Type 0
IsOwn (ends e) = ⊤
IsOwn (refused stop) = ⊥
IsOwn no_memory = ⊤

-- a step that does not ask the host is the last one of a run, which ends as the outermost call does
pub record Halts {T S : Type 0} (rules : HostRules T) (p : Program)
    (a : Place) (x : Exit S) (store : Store) : Type 0 where
  pub means : (ns : List ℕ) → HaveTurns a.store.fuel a.frames ns → (host : Limited T) →
      Is (meaning_at rules p ns a host) (call_left (exit_left x)) (machine_of p host store [])
  pub own : IsOwn (exit_left x)
  pub fuel : store.fuel ≤ a.store.fuel
  pub dry : IsDry (exit_left x) store.fuel
  pub globals : AreNumberedIn (count_of_functions p) (globals_in p store)
  pub numbered : LeftIsNumbered (count_of_functions p) (exit_left x)
  pub outermost : WhereSettled (exit_left x) (a.frames ≡ [])

-- what is called by a number: a function of the script, or its own body; the names of its
-- variables, the variables with these arguments, and its body
abbrev pub call_names : Option Function → List (List ℕ)
call_names None = []
call_names (Some f) = frame_names f

abbrev pub call_variables : Option Function → List Model.Value → List M.Variable
call_variables None args = []
call_variables (Some f) args = parameters_with f.parameters args ++ unit_variables (names_in f.body)

abbrev pub call_body : Program → Option Function → Block
call_body p None = own_body p.items
call_body p (Some f) = f.body

-- a body is next
abbrev pub IsBody : Block → Focus → Type 0
IsBody body (focus.Block ss) = seen_block ss.now ≡ body
IsBody body (focus.Items items) = own_body (seen_items items.now) ≡ body
IsBody body f = ⊥

-- a value cannot be called where so many calls are open
abbrev pub IsUncalled : (depth : ℕ) → Option Func → FaultName → Type 0
IsUncalled depth None name = name ≡ TypeError
IsUncalled depth (Some f) name = (name ≡ RangeError) × (256 ≤ depth)

-- no unit of fuel is left, or no memory
abbrev pub IsWant : {S : Type 0} → ℕ → Exit S → Type 0
IsWant fuel (exit.Throw v) = ⊥
IsWant fuel (exit.Return v) = ⊥
IsWant fuel exit.Fuel = fuel ≡ 0
IsWant fuel (exit.Host stop) = ⊥
IsWant fuel exit.OutOfMemory = ⊤

-- a function is called with these arguments: its body is next, with a unit less
pub record Opens {T : Type 0} (rules : HostRules T) (p : Program)
    (function : ℕ) (args : List Model.Value) (a b : Place) : Type 0 where
  pub means : (ns : List ℕ) (host : Limited T) →
      after_all rules p a.frames ns
      (caller_of rules p (depth_of a.frames) function args (state_at p host a)) ≡
      meaning_at rules p (0 ∷ ns) b host
  pub frames : b.frames ≡ frame.Open a.current.names a.current.locals ∷ a.frames
  pub fuel : a.store.fuel ≡ b.store.fuel + 1
  pub holds : Holds p b
  pub light : focus_weight b.focus ≤ 2 * program_size p

-- what is known of the machine and the host there
abbrev pub moment_at : {T S : Type 0} → Program → HostNow T S → Place → Moment T S
moment_at p h a = moment_of p h a.store (open_at a)

-- What is known between two steps of a run, with the tickets that were open before it: what the
-- host may rely on, too.
pub record Stood {T S : Type 0} (rules : HostRules T) (leaves : Ask → T → T → Type 0)
    (p : Program) (ts : List ℕ) (h : HostNow T S) (a : Place) : Type 0 where
  pub holds : Holds p a
  pub ready : IsReady (outside rules leaves p) (moment_at p h a)
  pub tickets : h.tickets ≡ tickets_in a.frames ts

-- what is left to do where f begins
abbrev pub begun : {T : Type 0} → HostRules T → Program → List ℕ → List Frame
    → (Around (Limited T) → Part T) → Part T
begun rules p ns fs f m = after_all rules p fs ns (f (around_in rules p fs) m)

-- what f begins is left to do, after some asks of the host
pub record Gets {T S : Type 0} (rules : HostRules T) (leaves : Ask → T → T → Type 0)
    (p : Program) (ns : List ℕ) (f : Around (Limited T) → Part T)
    (h : HostNow T S) (a : Place) (h' : HostNow T S) (b : Place) : Type 0 where
  pub numbers : List ℕ
  pub enough : HaveTurns b.store.fuel b.frames numbers
  pub asks : Asks (outside rules leaves p)
      (begun rules p ns a.frames f) (left_to_do rules p numbers b)
      (moment_at p h a) (moment_at p h' b)

-- A run goes on from where f begins, which counts for so many steps.
pub record Advances {T S : Type 0} (rules : HostRules T) (leaves : Ask → T → T → Type 0)
    (p : Program) (ts : List ℕ) (f : Around (Limited T) → Part T) (weight : ℕ)
    (h : HostNow T S) (a : Place) (h' : HostNow T S) (b : Place) : Type 0 where
  pub means : (ns : List ℕ) → HaveTurns a.store.fuel a.frames ns → Gets rules leaves p ns f h a h' b
  pub stood : Stood rules leaves p ts h' b
  pub fewer : steps_left p b < steps_with p a weight

-- A run ends from where f begins, as the outermost call does.
pub record Finishes {T S : Type 0} (rules : HostRules T) (leaves : Ask → T → T → Type 0)
    (p : Program) (ts : List ℕ) (f : Around (Limited T) → Part T)
    (h : HostNow T S) (a : Place) (x : Exit S) (h' : HostNow T S) (store : Store) : Type 0 where
  pub runs : (ns : List ℕ) → HaveTurns a.store.fuel a.frames ns →
      Runs (outside rules leaves p) (begun rules p ns a.frames f)
      (moment_at p h a) (call_left (exit_left x)) (moment_of p h' store [])
  pub tickets : WhereSettled (call_left (exit_left x)) (h.tickets ≡ ts)

-- what comes of a part of a run that begins with f: what is next, or how the run ends
abbrev pub Leaves : {T S : Type 0} → HostRules T → (Ask → T → T → Type 0) → Program → List ℕ
    → (Around (Limited T) → Part T) → ℕ → HostNow T S → Place → Result Focus (Exit S)
    → HostNow T S → Store → Current → List Frame → Type 0
Leaves rules leaves p ts f weight h a (Ok g) h' store current fs =
    Advances rules leaves p ts f weight h a h' (place store current fs g)
Leaves rules leaves p ts f weight h a (Err x) h' store current fs =
    Finishes rules leaves p ts f h a x h' store

-- the same of a step from what is next
abbrev pub Steps : {T S : Type 0} → HostRules T → (Ask → T → T → Type 0) → Program
    → HostNow T S → Place → Result Focus (Exit S)
    → HostNow T S → Store → Current → List Frame → Type 0
Steps rules leaves p h a result h' store current fs =
    (ts : List ℕ) → Stood rules leaves p ts h a →
    Leaves rules leaves p ts (λ d. does d a.focus) (focus_weight a.focus)
    h a result h' store current fs

-- how many callbacks may still come under the ticket of a step of the host
abbrev pub calls_left : (ℕ → ℕ) → HostStep → ℕ
calls_left left (StepValue v) = 0
calls_left left (StepThrow v) = 0
calls_left left (StepInvoke f args ticket) = left ticket + 1

-- where a run stands that needs nothing more of what is next
abbrev pub waiting_at : Store → Current → List Frame → Place
waiting_at store current fs = place store current fs (focus.Value value.Unit)

-- what is known where a host has answered with this step
pub record Answering {T S : Type 0} (rules : HostRules T) (leaves : Ask → T → T → Type 0)
    (p : Program) (ts : List ℕ) (left : ℕ → ℕ)
    (h : HostNow T S) (a : Place) (step : HostStep) : Type 0 where
  pub holds : Holds p a
  pub ready : IsReady (outside rules leaves p) (moment_at p h a)
  pub tickets : h.tickets ≡ tickets_after step (tickets_in a.frames ts)
  pub few : AreFew left step
  pub numbered : StepIsNumbered (count_of_functions p) step

-- so many steps of the host are enough
abbrev pub MayCome : (fuel : ℕ) → (ℕ → ℕ) → HostStep → (n : ℕ) → Type 0
MayCome fuel left step n = fuel * (2 ^ 64) + calls_left left step ≤ n

-- the steps of a host from one on, with at most so many callbacks
abbrev pub steps_on : {T : Type 0} → HostRules T → ℕ → HostStep → Around (Limited T) → Part T
steps_on rules n step d m = steps_by (ask_limited rules) d.call n step m

-- a variable has taken a value: a local one, or else a global one
pub record IsSet (script : Code.Program) (store : Store) (current : Current)
    (name : List ℕ) (v : Value) (store' : Store) (current' : Current) : Type 0 where
  pub names : current'.names ≡ current.names
  pub depth : current'.depth ≡ current.depth
  pub locals : SetsLocal current.names.now current.locals name v current'.locals
  pub globals : SetsGlobal script current.names.now current.locals store name v store'
  pub fuel : store'.fuel ≡ store.fuel

-- a value that can be called where so many calls are open
abbrev pub IsCallable : ℕ → Option Model.Value → Type 0
IsCallable depth o = (depth < 256) × ((f : Func) × (func_of o ≡ Some f))
