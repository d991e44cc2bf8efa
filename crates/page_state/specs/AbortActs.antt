-- Pieces of aborts. DOM, "Interface AbortSignal"
use Rattle.std.specs.Prelude.{ℕ, []}
use Rattle.page_types.specs.Values.{Value}
use Rattle.page_parts.specs.AbortGraph.{marked, with_reason, with_algorithms}
use Rattle.page_model.specs.State.{Page}
use Rattle.page_model.specs.PageSignals.{reason_set}

-- the reason is set on a signal and on those that depend on it, with an `abort` line for each
abbrev pub reason_marked : (signal : ℕ) → (reason : Value) → Page → Page
reason_marked s reason p = reason_set reason (marked s p.signals) p

-- the same without the lines
abbrev pub reason_silent : (signal : ℕ) → (reason : Value) → Page → Page
reason_silent s reason p = record p { signals = with_reason reason (marked s p.signals) p.signals }

-- the algorithms of a signal are taken
abbrev pub algorithms_taken : (signal : ℕ) → Page → Page
algorithms_taken s p = record p { signals = with_algorithms s [] p.signals }
