-- A page's open folds as those of the model's page, and what a call does that begins a fold or goes on with one. DOM, "Interface
-- AbortSignal" and "Dispatching events"; Prioritized Task Scheduling, "The TaskSignal Interface"
use Rattle.std.specs.Prelude.{◌≡◌, ℕ, List, [], ◌∷◌, length, map, Option, None, Some, Result, IfOk}
use Rattle.std.specs.Result.{result_err}
use Rattle.page_types.specs.Values.{Value, FunValue}
use Rattle.page_types.specs.declared.Priority.{Priority}
use Rattle.page_types.specs.Events.{Ret}
use Rattle.page_parts.specs.Kinds.{Func}
use Rattle.page_parts.specs.TaskSignals.{Prios, priority_of}
use Rattle.lang_meaning.specs.HostSteps.{CallbackEnd, Stepped}
use Rattle.lang_ast.specs.declared.host.HostStep.{HostStep}
use Rattle.lang_ast.specs.Steps.{seen_step}
use Rattle.page_model.specs.State.{Page, the_registration}
use Rattle.page_model.specs.Invoke.{WhenReported, when_reported, call_begun, call_ended, thrown, report_before, report_after}
use Rattle.page_model.specs.Folds.{begin_abort, begin_change}
use Rattle.page_model.specs.PageHost.{Hosting, with_folds, reached_step, resume_innermost}
use Rattle.trace_text.specs.declared.lines.NoLine.{NoLine}
use Rattle.trace_text.specs.Given.{Keeping}
use Rattle.trace_text.specs.Acts.{Act, At, Does as HostDoes}
use Rattle.page_script.specs.PageActs.{bare, lines_of}
use Rattle.page_folds.specs.AtRest.{ChangedAlone}
use Rattle.page_signals.specs.Signalling.{Open, Signalling}
use Rattle.page_signals.specs.Steps.{Visit, Algorithm, Listener, Changed, Finished}
use Rattle.page_signals.specs.Laws.{as_fold, innermost_meaning}
use Rattle.page_state.specs.Standing.{Standing, page_of, port_of}

-- ---- signals, priorities, listeners and open folds

-- those of a page
abbrev pub signalling_in : Standing → Signalling
signalling_in s = record { signals = s.signals.signals; prios = s.signals.prios; listeners = s.signals.listeners; folds = s.folds }

-- a page with these
abbrev pub having : Signalling → Standing → Standing
having st s = record s { signals = record { signals = st.signals; prios = st.prios; listeners = st.listeners }; folds = st.folds }

-- the folds around the innermost one
abbrev pub around : List Open → List Open
around [] = []
around (o ∷ os) = os

-- the signal that a step changes
abbrev pub changed_in : Visit → Option ℕ
changed_in (Algorithm r reason) = None
changed_in (Listener r args) = None
changed_in (Changed s before priority) = Some s
changed_in Finished = None

-- every signal but this one has the priority that it had
abbrev pub AllBut : Option ℕ → (before after : Prios) → Type 0
AllBut None before after = (t : ℕ) → priority_of after t ≡ priority_of before t
AllBut (Some s) before after = ChangedAlone s before after

-- ---- the page as a host

-- the page with its open folds, as those of the model
abbrev pub hosting_of : Standing → Hosting
hosting_of s = with_folds (map as_fold s.folds) (page_of s)

abbrev pub host_at : {T : Type 0} → At Standing T → At Hosting T
host_at old = record { state = hosting_of old.state; seen = old.seen }

-- the page and the folds after a step, without the events, whose lines are given
unfoldable pub stepping : Stepped Hosting → Act Hosting
stepping step h = record { state = with_folds step.host.folds (bare step.host.page); lines = lines_of step.host.page.events }

-- The call does this step of the page as a host and answers what it answers, or it stopped among the lines of its events. The host port is
-- left alone.
pub record Reaches {T : Type 0} (k : Keeping T) (old : At Standing T) (step : Stepped Hosting) (result : Result HostStep NoLine)
    (new : At Standing T) : Type 0 where
  pub does : HostDoes k (host_at old) (stepping step) (result_err result) (host_at new)
  pub port : port_of new.state ≡ port_of old.state
  pub answer : IfOk result (λ next. seen_step next ≡ step.step)

-- a signal is aborted
abbrev pub abort_step : (signal : ℕ) → (reason : Value) → Hosting → Stepped Hosting
abort_step s reason h = reached_step h.folds (begin_abort s reason h.page)

-- a signal's priority is changed
abbrev pub change_step : (signal : ℕ) → Priority → Hosting → Stepped Hosting
change_step s priority h = reached_step h.folds (begin_change priority (length h.page.prios) s h.page)

-- the innermost fold goes on where its callback has ended
abbrev pub resume_step : CallbackEnd → Hosting → Stepped Hosting
resume_step end h = resume_innermost h.folds end h.page

-- what is left of the innermost fold comes to its next callback, or to its end
abbrev pub rest_step : Standing → Stepped Hosting
rest_step s = reached_step (map as_fold (around s.folds)) (innermost_meaning s.folds (page_of s))

-- ---- pieces

-- the line of a callback's throw, and its report
abbrev pub thrown_and_reported : WhenReported → Value → Page → Page
thrown_and_reported when v p = report_after when v (report_before when v (thrown v p))

-- a registration's callback as it is called, and when a throw of it is reported
pub record Called : Type 0 where
  pub callback : Value
  pub when : WhenReported

-- that of a registration, none where it has no callback
abbrev pub called_with : Option Func → WhenReported → Option Called
called_with None when = None
called_with (Some f) when = Some (record { callback = FunValue f.function f.bound; when = when })

abbrev pub called_by : Page → (registration : ℕ) → Option Called
called_by p r = called_with (the_registration p r).callback (when_reported (the_registration p r).role)

-- the line of a listener's call, and where it has no callback its end too
abbrev pub called_or_ended : Option Func → (registration : ℕ) → Page → Page
called_or_ended None r p = call_ended Ret (call_begun r p)
called_or_ended (Some f) r p = call_begun r p

abbrev pub listener_called : (registration : ℕ) → Page → Page
listener_called r p = called_or_ended (the_registration p r).callback r p
