-- What the functions of an expansion mean, around a host of promises.
use Rattle.std.specs.Prelude.{◌≡◌, ℕ, true, List, [], ◌∷◌, ◌++◌, map, length, Option, Some, None, slice_get}
use Rattle.page_types.specs.declared.Op.{Op}
use Rattle.page_types.specs.declared.Op.TheVariants.{Bind, ResolveOp, RejectOp}
use Rattle.page_types.specs.Values.{Value, ListValue, FunValue, PromiseValue, no_values, values_of}
use Rattle.page_types.specs.Tree.{Program}
use Rattle.page_parts.specs.Words.{is_there}
use Rattle.page_parts.specs.Kinds.{within_limits}
use Rattle.lang_meaning.specs.Machine.{Machine, Done, Gives, Throws, Returns, OutOfFuel}
use Rattle.lang_meaning.specs.Evaluation.{Around, Function, functions_of, number_of, names_in, own_body, opened, parameters_with}
use Rattle.lang_meaning.specs.Evaluation.{unit_variables, end_of_call, body_of_call, around, calls}
use Rattle.lang_meaning.specs.HostSteps.{HostRules, StepValue, Ask, on_ask, host_operations}
use Rattle.lang_ast.specs.NameFaults.{IsResolved}
use Rattle.async_segments.specs.Marked.{AwaitForm}
use Rattle.async_segments.specs.Names.{segment_name}
use Rattle.async_segments.specs.Expanded.{expanded}
use Rattle.async_segments.specs.Script.{IsExpansion}
use Rattle.async_segments.specs.Meaning.{AsyncFunction, async_functions, names_of_locals, Part, parts, reached, kept_values, segment_run, segment, starts}

-- ---- a host of promises

-- it answers an operation at once, with a value
abbrev pub AnswersAtOnce : {H : Type 0} → HostRules H → Op → List Value → H → Type 0
AnswersAtOnce rules op args h = (v : Value) × ((rules.op op args h).step ≡ StepValue v)

-- `bind` puts values behind a function that has none
abbrev pub Binds : {H : Type 0} → HostRules H → ℕ → List Value → H → Type 0
Binds rules f vs h =
    rules.op Bind (FunValue f no_values ∷ ListValue (values_of vs) ∷ []) h ≡
    record { step = StepValue (FunValue f (values_of vs)); host = h }

-- Some promises are those that `promise` made, and stay so, and some values are those that the host takes. Such a promise is
-- settled at once by `resolve` and `reject`, and `bind` binds where the values are not too heavy and do not nest too deep.
pub record KeepsPromises {H : Type 0} (rules : HostRules H) (made : H → ℕ → Type 0) (takes : H → List Value → Type 0)
    : Type 0 where
  pub stays : (ask : Ask) (h : H) (p : ℕ) → made h p → made (on_ask rules ask h).host p
  pub resolves : (h : H) (p : ℕ) (v : Value) → made h p → takes h (PromiseValue p ∷ v ∷ []) →
      AnswersAtOnce rules ResolveOp (PromiseValue p ∷ v ∷ []) h
  pub rejects : (h : H) (p : ℕ) (v : Value) → made h p → takes h (PromiseValue p ∷ v ∷ []) →
      AnswersAtOnce rules RejectOp (PromiseValue p ∷ v ∷ []) h
  pub binds : (h : H) (f : ℕ) (vs : List Value) → takes h vs → is_there (within_limits (ListValue (values_of vs))) ≡ true →
      Binds rules f vs h
  pub alone : (h : H) (v : Value) (vs : List Value) → takes h (v ∷ vs) → takes h (v ∷ [])

-- ---- a segment whose values the host takes

-- what it returns or throws
abbrev pub EndIsTaken : {H : Type 0} → (H → List Value → Type 0) → ℕ → Done H → Type 0
EndIsTaken takes promise (Gives v m) = Unit {0}
EndIsTaken takes promise (Throws v m) = takes m.host (PromiseValue promise ∷ v ∷ [])
EndIsTaken takes promise (Returns v m) = takes m.host (PromiseValue promise ∷ v ∷ [])
EndIsTaken takes promise (OutOfFuel m) = Unit {0}

-- what it keeps where it waits
abbrev pub KeptIsTaken : {H : Type 0} → (H → List Value → Type 0) → AsyncFunction → ℕ → Done H → Type 0
KeptIsTaken takes f promise (Gives q m) = takes m.host (kept_values f promise m)
KeptIsTaken takes f promise (Throws v m) = Unit {0}
KeptIsTaken takes f promise (Returns v m) = Unit {0}
KeptIsTaken takes f promise (OutOfFuel m) = Unit {0}

-- both
pub record IsTaken {H : Type 0} (takes : H → List Value → Type 0) (w : Around H) (f : AsyncFunction) (k : ℕ) (part : Part)
    (promise : ℕ) (awaited : Value) (m : Machine H) : Type 0 where
  pub end : EndIsTaken takes promise (segment_run w f k part promise awaited m)
  pub kept : KeptIsTaken takes f promise (reached w part awaited m)

-- ---- a call of a segment

-- a state of a program: its global variables are those that the program names outside functions
abbrev pub IsStateOf : {H : Type 0} → Program → Machine H → Type 0
IsStateOf program m = map (λ a. a.name) m.globals ≡ names_in (own_body program.items)

-- the values that a segment is called with: the promise of the call, the locals, and what was awaited, where something was
abbrev pub called_with : Option AwaitForm → ℕ → List Value → Value → List Value
called_with None promise vs awaited = PromiseValue promise ∷ vs
called_with (Some form) promise vs awaited = PromiseValue promise ∷ vs ++ awaited ∷ []

-- a call of a function with values has begun
abbrev pub begun : {H : Type 0} → Function → List Value → Machine H → Machine H
begun g args m = opened (parameters_with g.parameters args ++ unit_variables (names_in g.body)) m

-- what stands around the body of a call, where so many more may be open
abbrev pub around_body : {H : Type 0} → HostRules H → Program → ℕ → Around H
around_body rules program depth = around program (host_operations rules) (calls program (host_operations rules) depth)

-- The function that a segment became does what the segment does, from any state of the program in which a call of it has begun
-- for a promise that `promise` made: both give the same value and the same state, with the same host and fuel left.
abbrev pub MeansItsSegment : {H : Type 0} → HostRules H → (H → ℕ → Type 0) → (H → List Value → Type 0) → Program →
    AsyncFunction → ℕ → Part → Type 0
MeansItsSegment {H} rules made takes program f k part =
    (depth number : ℕ) (g : Function) (promise : ℕ) (vs : List Value) (awaited : Value) (m : Machine H) →
    number_of (functions_of program.items) (segment_name f.name k) ≡ Some number →
    slice_get (functions_of program.items) number ≡ Some g → length vs ≡ length (names_of_locals f) → IsStateOf program m →
    made m.host promise →
    (let w = around_body rules program depth in
    let args = called_with part.stored promise vs awaited in
    IsTaken takes w f k part promise awaited (begun g args m) →
    body_of_call w (Some g) args m ≡ end_of_call (segment w f k part promise awaited (begun g args m)))

-- so do all functions that the segments of a script became, where the names of the expansion are resolved
abbrev pub MeansItsSegments : {H : Type 0} → HostRules H → (H → ℕ → Type 0) → (H → List Value → Type 0) → Type 0
MeansItsSegments rules made takes =
    (bytes written : List ℕ) (e : IsExpansion bytes written) (names : List (List ℕ)) → IsResolved (expanded e.items) →
    (i k : ℕ) (f : AsyncFunction) (part : Part) → slice_get (async_functions e.items) i ≡ Some f →
    slice_get (parts f) k ≡ Some part →
    MeansItsSegment rules made takes (record { items = expanded e.items; names = names }) f k part

-- what an async function became does what it does, from any state of the program in which a call of it has begun
abbrev pub MeansItsStart : {H : Type 0} → HostRules H → Program → AsyncFunction → Type 0
MeansItsStart {H} rules program f =
    (depth number : ℕ) (g : Function) (args : List Value) (m : Machine H) →
    number_of (functions_of program.items) f.name ≡ Some number →
    slice_get (functions_of program.items) number ≡ Some g → IsStateOf program m →
    (let w = around_body rules program depth in body_of_call w (Some g) args m ≡ end_of_call (starts w f (begun g args m)))

-- What an async function became makes a promise, calls its first segment and returns the promise. So its call takes a unit and
-- an open call, and that of the segment one more of each.
abbrev pub MeansItsStarts : {H : Type 0} → HostRules H → Type 0
MeansItsStarts {H} rules =
    (bytes written : List ℕ) (e : IsExpansion bytes written) (names : List (List ℕ)) → IsResolved (expanded e.items) →
    (i : ℕ) (f : AsyncFunction) → slice_get (async_functions e.items) i ≡ Some f →
    MeansItsStart rules (record { items = expanded e.items; names = names }) f
