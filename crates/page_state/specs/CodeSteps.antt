-- The steps of open folds with values as the code has them. DOM, "Interface AbortSignal" and "Dispatching events"; Prioritized Task
-- Scheduling, "The TaskSignal Interface"
use Rattle.std.specs.Prelude.{ℕ, Bool, map, Vec}
use Rattle.std.specs.declared.alloc.Global.{Global}
use Rattle.page_types.specs.declared.Priority.{Priority}
use Rattle.page_values.specs.declared.Value.{Value}
use Rattle.page_values.specs.Seen.{seen}
use Rattle.lang_meaning.specs.HostSteps.{HostStep, StepInvoke, Stepped}
use Rattle.lang_ast.specs.declared.host.Outcome.{Outcome}
use Rattle.lang_ast.specs.Steps.{seen_outcome}
use Rattle.page_model.specs.State.{Page}
use Rattle.page_model.specs.PageSignals.{has_priority}
use Rattle.page_model.specs.Folds as folds
use Rattle.page_model.specs.PageHost.{Hosting}
use Rattle.page_script.specs.declared.parts.WhenReported.{WhenReported}
use Rattle.page_script.specs.Reports.{when_seen}
use Rattle.page_state.specs.declared.state.folds.NextCallback.{NextCallback}
use Rattle.page_state.specs.Standing.{Standing}
use Rattle.page_state.specs.FoldActs.{hosting_of, abort_step, change_step, resume_step, thrown_and_reported}

-- ---- Steps of the page as a host

-- a signal is aborted
abbrev pub abort_begun : (signal : ℕ) → (reason : Value) → Standing → Stepped Hosting
abort_begun s reason old = abort_step s (seen reason) (hosting_of old)

-- a signal's priority is changed
abbrev pub change_begun : (signal : ℕ) → Priority → Standing → Stepped Hosting
change_begun s priority old = change_step s priority (hosting_of old)

-- the innermost fold goes on where its callback has ended
abbrev pub resumed : Outcome → Standing → Stepped Hosting
resumed end old = resume_step (seen_outcome end) (hosting_of old)

-- a callback is called with these arguments
abbrev pub invoking : NextCallback → Vec Value Global → (ticket : ℕ) → HostStep
invoking calling arguments ticket = StepInvoke (seen calling.callback) (map seen arguments.items) ticket

-- ---- Pieces

-- the line of a callback's end, and the report of a throw
abbrev pub callback_ended : WhenReported → Outcome → Page → Page
callback_ended when end = folds.callback_ended (when_seen when) (seen_outcome end)

-- the line of a callback's throw, and its report
abbrev pub reported : WhenReported → Value → Page → Page
reported when v = thrown_and_reported (when_seen when) (seen v)

-- a signal has this priority
abbrev pub is_priority : (signal : ℕ) → Priority → Page → Bool
is_priority s priority = λ p. has_priority p.prios s priority
