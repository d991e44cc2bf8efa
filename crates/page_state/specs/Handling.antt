-- What gives a promise a handler, apart from the task that tells of it, and what is made of an item of a combinator.
use Rattle.std.specs.Prelude.{ℕ, Bool, if◌then◌else◌, Option, Some, None}
use Rattle.page_types.specs.Values.{Value, PromiseValue}
use Rattle.page_types.specs.declared.Source.TheVariants.{Dom}
use Rattle.page_types.specs.declared.RegKind.TheVariants.{Then as ThenKind}
use Rattle.page_parts.specs.Kinds.{Func}
use Rattle.page_parts.specs.Promises.{Settled, Reaction}
use Rattle.page_parts.specs.Combinators.{Pass}
use Rattle.page_parts.specs.Notices.{subscribe_promise}
use Rattle.page_model.specs.State.{NotifyHandled, OfKind, Registration, Page, context, last_registration, on_notices, queue_task}
use Rattle.page_model.specs.Invoke.{register_as}
use Rattle.page_model.specs.PagePromises.{new_promise, last_promise, inner_subscription, resolve, subscribe}
use Rattle.page_model.specs.PageCombinators.{last_combinator, combinator_made, with_element, item_made, item_number, element_made}

-- HTML, "Unhandled promise rejections": where promise number n was outstanding, a task is queued which fires `rejectionhandled`
abbrev pub told_if : (was : Bool) → (n : ℕ) → Page → Page
told_if was n p = (if was then queue_task Dom (NotifyHandled n) else (λ q. q)) p

-- ECMA-262, "PerformPromiseThen": promise number n gets a reaction, of which no task tells yet
abbrev pub reacted : ℕ → Reaction → Page → Page
reacted n r p = on_notices (subscribe_promise (context p) n r) p

-- ECMA-262, "Promise.all" and its like: an element of a combinator at a place, into which promise number n is subscribed, of which no
-- task tells yet
abbrev pub element_reacted : (combinator place n : ℕ) → Page → Page
element_reacted combinator place n p =
    let made = new_promise p in
    reacted n (inner_subscription (last_promise made)) (with_element combinator place made)

-- a registration of handlers
abbrev pub then_with : (first second : Option Func) → (finally : Bool) → Registration
then_with first second finally =
    record {
      role = OfKind ThenKind;
      callback = first;
      second_callback = second;
      timer_id = 0;
      promise = 0;
      signal = None;
      finally = finally;
    }

-- ECMA-262, "Promise.prototype.then": the reaction of a page's last registration, into its last promise
abbrev pub last_reaction : Page → Reaction
last_reaction p = record { registration = Some (last_registration p); into = last_promise p; state = p.scheduling }

-- a derived promise and a registration of handlers are made, and promise number n gets the reaction
abbrev pub handlers_made : ℕ → Registration → Page → Page
handlers_made n x p = let made = register_as ThenKind x (new_promise p) in subscribe n (last_reaction made) made

-- ECMA-262, "Promise.all" and its like: a promise is made of an item, and then taken at a place
abbrev pub item_taken : (take : (place n : ℕ) → Page → Page) → (place : ℕ) → Value → Page → Page
item_taken take place v p = let made = item_made v p in take place (item_number v made) made

-- ECMA-262, "Promise.prototype.finally": an element of a combinator is made of promise number n, and a promise is resolved with the
-- combinator's result
abbrev pub passed_through : (into n combinator result : ℕ) → Page → Page
passed_through into n combinator result p = resolve into (PromiseValue result) (element_made combinator 0 n p)

-- a combinator is made that passes an outcome on behind promise number n
abbrev pub passed_item : (into : ℕ) → Settled → (n : ℕ) → Page → Page
passed_item into how n p =
    let made = combinator_made (Pass how) 1 p in
    passed_through into n (last_combinator made) (last_promise made) made
