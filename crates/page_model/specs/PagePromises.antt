-- Calls on the promises of a page.
use Rattle.std.specs.Prelude.{ℕ, if◌then◌else◌, length, None}
use Rattle.page_types.specs.Values.{Value}
use Rattle.page_types.specs.declared.Source.TheVariants.{Dom}
use Rattle.page_parts.specs.Promises.{Settled, Fulfilled, Failed, Reaction, PromiseRecord}
use Rattle.page_parts.specs.Notices.{make, settle_promise, follow_promise, subscribe_promise, is_outstanding}
use Rattle.page_parts.specs.Promises.{the_promise}
use Rattle.page_model.specs.State.{NotifyHandled, Page, context, on_notices, queue_task}

-- ---- ECMA-262, "Promise Objects": on the page, with the lines

-- promise number n is resolved with a value or rejected with a reason
abbrev pub settle : ℕ → Settled → Page → Page
settle n how p = on_notices (settle_promise (context p) p.names n how) p

-- it is resolved with a value
abbrev pub resolve : ℕ → Value → Page → Page
resolve n v p = settle n (Fulfilled v) p

-- it is rejected with a reason
abbrev pub reject : ℕ → Value → Page → Page
reject n v p = settle n (Failed v) p

-- it follows the outcome of the promise that it was resolved with
abbrev pub follow : ℕ → Settled → Page → Page
follow n how p = on_notices (follow_promise (context p) p.names n how) p

-- ECMA-262, "PerformPromiseThen"; HTML, "Unhandled promise rejections": a promise gets a handler; where it was outstanding, a task is
-- queued which fires `rejectionhandled`
abbrev pub subscribe : ℕ → Reaction → Page → Page
subscribe n r p =
    (if is_outstanding n p.notices then queue_task Dom (NotifyHandled n) else (λ q. q)) (on_notices (subscribe_promise (context p) n r) p)

-- a new pending promise; its number is the length of the list afterwards
abbrev pub new_promise : Page → Page
new_promise p = record p { notices = make p.notices }

-- the number of the last promise
abbrev pub last_promise : Page → ℕ
last_promise p = length p.notices.promises

-- promise number n
abbrev pub promise_at : Page → ℕ → PromiseRecord
promise_at p n = the_promise p.notices.promises n

-- the reaction by which a promise follows another one
abbrev pub inner_subscription : ℕ → Reaction
inner_subscription into = record { registration = None; into = into; state = None }

-- a new promise which is resolved or rejected at once
abbrev pub new_settled : (ℕ → Value → Page → Page) → Value → Page → Page
new_settled settle v p = let made = new_promise p in settle (last_promise made) v made
