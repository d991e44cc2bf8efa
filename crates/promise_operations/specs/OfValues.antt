-- What the operations of promises do with arguments as the code has them.
use Rattle.std.specs.Prelude.{Result}
use Rattle.page_types.specs.Values.{UnitValue}
use Rattle.page_values.specs.declared.Value.{Value}
use Rattle.page_values.specs.Seen.{seen}
use Rattle.lang_meaning.specs.Machine.{Done}
use Rattle.promise_core.specs.Seen.{settled_seen}
use Rattle.promise_combine.specs.declared.kind.Kind.{Kind}
use Rattle.promise_combine.specs.Seen.{kind_seen}
use Rattle.page_model.specs.State.{Page, State}
use Rattle.page_model.specs.PagePromises as promises
use Rattle.page_model.specs.Operations as model

-- ---- ECMA-262, "Promise Objects"

-- `promise`
abbrev pub promise_told : State → Done Page
promise_told = λ m. model.where_left (model.promise_left m.host) m (model.answers model.last_promise_value model.script_promise)

-- `resolve`
abbrev pub resolve_of : (promise value : Value) → State → Done Page
resolve_of promise value = model.settle_own promises.resolve (seen promise) (seen value)

-- `reject`
abbrev pub reject_of : (promise reason : Value) → State → Done Page
reject_of promise reason = model.settle_own promises.reject (seen promise) (seen reason)

-- either of them, by an outcome: `Ok` resolves, `Err` rejects
abbrev pub settle_of : (promise : Value) → Result Value Value → State → Done Page
settle_of promise how = model.settle_own (λ n _. promises.settle n (settled_seen how)) (seen promise) UnitValue

-- `rejected`
abbrev pub rejected_of : Value → State → Done Page
rejected_of reason = model.settled_promise promises.reject (seen reason)

-- `then`
abbrev pub then_of : (promise fulfilled rejected : Value) → State → Done Page
then_of promise fulfilled rejected = model.then_value (seen promise) (seen fulfilled) (seen rejected)

-- `finally`
abbrev pub finally_of : (promise handler : Value) → State → Done Page
finally_of promise handler = model.finally_value (seen promise) (seen handler)

-- `all`, `any` and `allSettled`
abbrev pub combined_of : Kind → Value → State → Done Page
combined_of kind argument = model.combined (kind_seen kind) (seen argument)
