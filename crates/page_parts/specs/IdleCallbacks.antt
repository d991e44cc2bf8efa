-- Idle callbacks: the pending and the runnable list, and the deadline of an idle period.
use Rattle.std.specs.Prelude.{ℕ, suc, ◌+◌, min, Bool, not, ◌&&◌, List, [], ◌++◌, Option, Some, None}
use Rattle.page_parts.specs.Words.{and_last, is_empty}
use Rattle.page_parts.specs.Frames.{Callback, callback_in, without_handle}

-- ---- requestIdleCallback, "The requestIdleCallback() method". Ours where a present draft differs, here and below

-- the list of idle request callbacks (pending), the list of runnable idle callbacks, and how many handles were ever given
pub record Idle : Type 0 where
  pub pending : List Callback
  pub runnable : List Callback
  pub made : ℕ

-- before the script runs there is no idle callback
abbrev pub no_idle : Idle
no_idle = record { pending = []; runnable = []; made = 0 }

-- a callback is appended to the pending list, under the next handle
abbrev pub request : ℕ → Idle → Idle
request r i = record i { made = suc i.made; pending = and_last i.pending (record { handle = suc i.made; registration = r }) }

-- the callback with this handle in either list
abbrev pub waiting_callback : ℕ → Idle → Option Callback
waiting_callback handle i = callback_in (i.runnable ++ i.pending) handle

-- it is taken out of both lists
abbrev pub cancel : ℕ → Idle → Idle
cancel handle i = record i { pending = without_handle handle i.pending; runnable = without_handle handle i.runnable }

-- ---- requestIdleCallback, "Start an idle period algorithm"

-- the pending callbacks are appended to the runnable list
abbrev pub started : Idle → Idle
started i = record i { runnable = i.runnable ++ i.pending; pending = [] }

-- whether an idle callback waits in either list
abbrev pub waits : Idle → Bool
waits i = not (is_empty i.pending && is_empty i.runnable)

-- ---- HTML, "Event loops: processing model": the deadline of an idle period (compute deadline)

-- a number, lowered to another where there is one
abbrev pub at_most : ℕ → Option ℕ → ℕ
at_most n None = n
at_most n (Some m) = min n m

-- the deadline of an idle period with this start: 50 milliseconds on, lowered to the next due time of a timer, and to the next rendering
-- where one is awaited
abbrev pub deadline : ℕ → (timer render : Option ℕ) → ℕ
deadline start timer render = at_most (at_most (start + 50000) timer) render
