-- What is done to the model's page with values as the code has them, under the names that it has with the model's values.
use Rattle.std.specs.Prelude.{◌≡◌, ℕ, Bool, List, map, Option, Some, None, Result}
use Rattle.std.specs.Option.{option_map}
use Rattle.page_types.specs.declared.RegKind.{RegKind}
use Rattle.page_types.specs.declared.RegKind.TheVariants.{Then}
use Rattle.page_parts.specs.Frames.{callback_in}
use Rattle.page_values.specs.declared.Value.{Value}
use Rattle.page_values.specs.declared.Func.{Func}
use Rattle.page_values.specs.Seen.{seen, seen_func}
use Rattle.promise_core.specs.Seen.{settled_seen}
use Rattle.promise_combine.specs.declared.kind.Kind.{Kind}
use Rattle.promise_combine.specs.Seen.{kind_seen}
use Rattle.page_model.specs.State as model
use Rattle.page_model.specs.State.{Page, the_registration}
use Rattle.page_model.specs.Invoke as invoke
use Rattle.page_model.specs.Operations as operations
use Rattle.page_model.specs.PagePromises.{reject, subscribe}
use Rattle.page_model.specs.PageSignals as signals
use Rattle.page_model.specs.PageCombinators as combinators
use Rattle.page_script.specs.declared.parts.Combined.{Combined}
use Rattle.page_script.specs.declared.parts.Registration.{Registration}
use Rattle.page_script.specs.Seen.{registration_seen}
use Rattle.page_state.specs.Standing.{Standing}
use Rattle.page_state.specs.PageActs.{read_by}
use Rattle.page_state.specs.Handling as handling
use Rattle.page_state.specs.Handling.{item_taken, last_reaction}

-- ---- Registrations

-- the promise and the registration of a task, a delay or a host answer are made, with its abort steps
abbrev pub promised : RegKind → (callback : Option Func) → (signal : Option ℕ) → Page → Page
promised kind callback signal = operations.promised kind (option_map seen_func callback) signal

-- the abort steps of a registration
abbrev pub abort_registration : (reason : Value) → (registration : ℕ) → Page → Page
abort_registration reason r = signals.abort_registration (seen reason) r

-- the promise of a registration is rejected
abbrev pub promise_rejected : (reason : Value) → (registration : ℕ) → Page → Page
promise_rejected reason r = λ p. reject (the_registration p r).promise (seen reason) p

-- the callback of a registration, its second one or the first, is this one
abbrev pub HasCallback : Standing → (registration : ℕ) → (second : Bool) → Func → Type 0
HasCallback s r second f = read_by (λ p. invoke.callback_of second (the_registration p r)) s ≡ Some (seen_func f)

-- there is no such callback
abbrev pub HasNoCallback : Standing → (registration : ℕ) → (second : Bool) → Type 0
HasNoCallback s r second = read_by (λ p. invoke.callback_of second (the_registration p r)) s ≡ None

-- the registration of the frame callback with a handle
abbrev pub frame_registration : (handle : ℕ) → Page → Option ℕ
frame_registration handle = λ p. option_map (λ c. c.registration) (callback_in p.frames.callbacks handle)

-- ---- Handlers. ECMA-262, "Promise.prototype.then"

-- `then`, with what it is given as handlers
abbrev pub then_made : ℕ → (fulfilled rejected : Value) → Page → Page
then_made n fulfilled rejected = operations.then_made n (seen fulfilled) (seen rejected)

-- a derived promise and a registration of handlers are made, and promise number n gets the reaction
abbrev pub handlers_made : ℕ → Registration → Page → Page
handlers_made n registration = handling.handlers_made n (registration_seen registration)

-- the same into the last promise
abbrev pub handled : ℕ → Registration → Page → Page
handled n registration =
    λ q. let made = invoke.register_as Then (registration_seen registration) q in subscribe n (last_reaction made) made

-- a registration of these handlers
abbrev pub then_with : (first second : Option Func) → (finally : Bool) → model.Registration
then_with first second finally = handling.then_with (option_map seen_func first) (option_map seen_func second) finally

-- ---- Combinators. ECMA-262, "Promise.all" and its like

-- `all`, `any` and `allSettled`
abbrev pub all_made : Kind → List Value → Page → Page
all_made kind items = combinators.all_made (kind_seen kind) (map seen items)

-- `race`
abbrev pub race_made : List Value → Page → Page
race_made items = combinators.race_made (map seen items)

-- an element is made of each item, at its place
abbrev pub elements_of : (combinator : ℕ) → List Value → Page → Page
elements_of combinator items = combinators.each_item (combinators.element_made combinator) 0 (map seen items)

-- an element is made of an item, and added at a place
abbrev pub added : (combinator place : ℕ) → (item : Value) → Page → Page
added combinator place item = item_taken (combinators.element_made combinator) place (seen item)

-- each item is subscribed into a result
abbrev pub all_subscribed : (into : ℕ) → List Value → Page → Page
all_subscribed into items = combinators.each_item (combinators.subscribe_into into) 0 (map seen items)

-- an item is subscribed into a result
abbrev pub item_subscribed : (into : ℕ) → (item : Value) → Page → Page
item_subscribed into item = item_taken (combinators.subscribe_into into) 0 (seen item)

-- ---- ECMA-262, "Promise.prototype.finally"

-- the value that a handler returned is waited for, and then the outcome is passed on; where too few promises are left for it, the
-- promise is rejected
abbrev pub pass_on : (into : ℕ) → (how : Result Value Value) → (value : Value) → Page → Page
pass_on into how value = combinators.pass_on into (settled_seen how) (seen value)

-- the same where they are left
abbrev pub passed_on : (into : ℕ) → (how : Result Value Value) → (value : Value) → Page → Page
passed_on into how value = combinators.passed_on into (settled_seen how) (seen value)

-- a combinator is made that passes an outcome on behind promise number n
abbrev pub passed_item : (into : ℕ) → (how : Result Value Value) → (n : ℕ) → Page → Page
passed_item into how n = handling.passed_item into (settled_seen how) n

-- its one element is made of promise number n, and a promise is resolved with its result
abbrev pub passed_through : (into n : ℕ) → Combined → Page → Page
passed_through into n made = handling.passed_through into n made.combinator made.result
