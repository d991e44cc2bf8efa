-- What a segment of an async function means, in the words of its source. Its statements run with the locals of the function.
-- What it returns resolves the promise of the call, what it throws rejects that promise, and at an await it waits.
use Rattle.std.specs.Prelude.{ℕ, ◌+◌, List, [], ◌∷◌, ◌++◌, map, Option, Some, None, unwrap_or, codes}
use Rattle.page_types.specs.declared.FaultName.TheVariants.{RangeError}
use Rattle.page_types.specs.declared.Op.TheVariants.{MakePromise, ResolveOp, RejectOp, Resolved, Then}
use Rattle.page_types.specs.Values.{Value, UnitValue, ListValue, FunValue, PromiseValue, values_of}
use Rattle.page_types.specs.Tree.{Named, Expr, Block, Program}
use Rattle.page_parts.specs.Words.{without}
use Rattle.page_parts.specs.Kinds.{within_limits}
use Rattle.lang_meaning.specs.Machine.{Machine, Done, Gives, Throws, Returns, OutOfFuel, and_then, given, finish, value_in, locals}
use Rattle.lang_meaning.specs.Machine.{assigned}
use Rattle.lang_meaning.specs.Evaluation.{Around, functions_of, number_of, eval, exec_block}
use Rattle.lang_place.specs.NameSets.{has_name}
use Rattle.async_segments.specs.Marked.{AwaitForm, Alone, Declared, Stored, Returned, Segment, MarkedItem, AsyncFn, Plain}
use Rattle.async_segments.specs.Names.{spellings, segment_name, rejecting_name}
use Rattle.async_segments.specs.Expanded.{locals_in}

-- ---- the segments of a function

-- an async function of a script
pub record AsyncFunction : Type 0 where
  pub name : List ℕ
  pub parameters : List Named
  pub first : Block
  pub others : List Segment

-- the async functions among the items
abbrev pub async_functions : List MarkedItem → List AsyncFunction
async_functions [] = []
async_functions (AsyncFn at f xs first others ∷ items) =
    record { name = f.name; parameters = xs; first = first; others = others } ∷ async_functions items
async_functions (Plain item ∷ items) = async_functions items

-- the names of its locals
abbrev pub names_of_locals : AsyncFunction → List (List ℕ)
names_of_locals f = locals_in f.parameters f.first f.others

-- a segment: how the value of the await before it is stored, where there is one, its statements, and the operand of the await
-- at its end, where there is one
pub record Part : Type 0 where
  pub stored : Option AwaitForm
  pub statements : Block
  pub awaits : Option Expr

-- the operand of the await before these segments
abbrev pub operand_before : List Segment → Option Expr
operand_before [] = None
operand_before (s ∷ ss) = Some s.operand

abbrev pub later_parts : List Segment → List Part
later_parts [] = []
later_parts (s ∷ ss) = record { stored = Some s.form; statements = s.statements; awaits = operand_before ss } ∷ later_parts ss

-- the segments of a function, in the order of their numbers
abbrev pub parts : AsyncFunction → List Part
parts f = record { stored = None; statements = f.first; awaits = operand_before f.others } ∷ later_parts f.others

-- ---- what a segment does

-- the awaited value is stored where the await says; with `return await` it is returned
abbrev pub stored_first : {H : Type 0} → Option AwaitForm → Value → Machine H → Done H
stored_first None v m = finish m
stored_first (Some Alone) v m = finish m
stored_first (Some (Declared x)) v m = finish (assigned m x.name v)
stored_first (Some (Stored x)) v m = finish (assigned m x.name v)
stored_first (Some Returned) v m = Returns v m

-- the end of the last segment counts as `return;`, and at an await comes the promise for its operand
abbrev pub until_wait : {H : Type 0} → Around H → Option Expr → Machine H → Done H
until_wait w None m = Returns UnitValue m
until_wait w (Some e) m = and_then (eval w e m) (λ v m. w.operate Resolved (v ∷ []) m)

-- the segment up to its end, which gives the promise that it waits for
abbrev pub reached : {H : Type 0} → Around H → Part → Value → Machine H → Done H
reached w part awaited m =
    and_then (stored_first part.stored awaited m) (λ u m.
    and_then (exec_block w part.statements m) (λ u m. until_wait w part.awaits m))

-- the value of a local variable now
abbrev pub value_now : {H : Type 0} → Machine H → List ℕ → Value
value_now m x = unwrap_or (value_in (locals m.open_calls) x) UnitValue

-- the promise of the call and the locals as they are now
abbrev pub kept_values : {H : Type 0} → AsyncFunction → ℕ → Machine H → List Value
kept_values f promise m = PromiseValue promise ∷ map (value_now m) (names_of_locals f)

-- the number of the function with this name
abbrev pub function_number : Program → List ℕ → ℕ
function_number program x = unwrap_or (number_of (functions_of program.items) x) 0

-- the function with this name, with these values bound
abbrev pub function_with : Program → List ℕ → List Value → Value
function_with program x vs = FunValue (function_number program x) (values_of vs)

-- The next segment waits for a promise, under the locals as they are now: RangeError where these and the promise of the call
-- are too heavy as a list or nest too deep.
abbrev pub waits_for : {H : Type 0} → Around H → AsyncFunction → (k promise : ℕ) → Value → Machine H → Done H
waits_for w f k promise q m =
    let now = kept_values f promise m in
    let next = function_with w.program (segment_name f.name (k + 1)) now in
    let rejecting = function_with w.program (rejecting_name f.name) (PromiseValue promise ∷ []) in
    given (within_limits (ListValue (values_of now))) RangeError m (λ list m. w.operate Then (q ∷ next ∷ rejecting ∷ []) m)

-- the segment, before its promise is settled
abbrev pub segment_run : {H : Type 0} → Around H → AsyncFunction → (k : ℕ) → Part → (promise : ℕ) → Value → Machine H
    → Done H
segment_run w f k part promise awaited m = and_then (reached w part awaited m) (waits_for w f k promise)

-- what is returned resolves the promise, and what is thrown rejects it
abbrev pub settled : {H : Type 0} → Around H → ℕ → Done H → Done H
settled w promise (Gives v m) = Gives v m
settled w promise (Throws v m) = w.operate RejectOp (PromiseValue promise ∷ v ∷ []) m
settled w promise (Returns v m) = w.operate ResolveOp (PromiseValue promise ∷ v ∷ []) m
settled w promise (OutOfFuel m) = OutOfFuel m

-- the segment with number k of a function, for the call with this promise
abbrev pub segment : {H : Type 0} → Around H → AsyncFunction → (k : ℕ) → Part → (promise : ℕ) → Value → Machine H
    → Done H
segment w f k part promise awaited m = settled w promise (segment_run w f k part promise awaited m)

-- ---- what an async function does

-- its parameters as they are now, and unit for each other local
abbrev pub first_values_now : {H : Type 0} → AsyncFunction → Machine H → List Value
first_values_now f m =
    map (value_now m) (spellings f.parameters) ++ map (λ x. UnitValue) (without (has_name (spellings f.parameters)) (names_of_locals f))

-- A promise is made, and with it and these values comes a call of the first segment. Then the promise is returned.
abbrev pub starts : {H : Type 0} → Around H → AsyncFunction → Machine H → Done H
starts w f m =
    and_then (w.operate MakePromise [] m) (λ q m.
    let made = assigned m (codes "p__") q in
    and_then (w.call (function_number w.program (segment_name f.name 0)) (q ∷ first_values_now f made) made) (λ u m. Returns q m))
