-- Signals, their priorities, listeners and open folds, as a part of the page that a page owns.
use Rattle.std.specs.Prelude.{List, []}
use Rattle.page_types.specs.Values.{Value}
use Rattle.page_parts.specs.AbortGraph.{Signals}
use Rattle.page_parts.specs.TaskSignals.{Prios}
use Rattle.page_parts.specs.Listeners.{Listener}
use Rattle.page_model.specs.State.{Page}
use Rattle.page_model.specs.Invoke.{WhenReported}
use Rattle.page_folds.specs.Steps.{Parts, OpenFold}
use Rattle.page_folds.specs.OfModel.{Kind, page_with}

-- ---- DOM, "Interface AbortSignal" and "Dispatching events"; Prioritized Task Scheduling, "The TaskSignal Interface"

-- an open fold: which one it is, when a throw of the callback that runs under it is reported, and what is left of it
pub record Open : Type 0 where
  pub kind : Kind
  pub when : WhenReported
  pub fold : OpenFold

-- the signals, their priorities and the listeners: these fields of the model's page; and the open folds, the innermost first
pub record Signalling : Type 0 where
  pub signals : Signals Value
  pub prios : Prios
  pub listeners : List Listener
  pub folds : List Open

-- nothing at all
abbrev pub nothing : Signalling
nothing = record { signals = []; prios = []; listeners = []; folds = [] }

-- what folds read and change
abbrev pub parts_of : Signalling → Parts Value
parts_of st = record { listeners = st.listeners; signals = st.signals; prios = st.prios }

-- these parts, with these open folds
abbrev pub with_parts : Parts Value → List Open → Signalling
with_parts ps folds = record { signals = ps.signals; prios = ps.prios; listeners = ps.listeners; folds = folds }

-- a page with these fields
abbrev pub with_signalling : Signalling → Page → Page
with_signalling st p = page_with (parts_of st) p

-- these fields of a page, with these open folds
abbrev pub signalling_of : Page → List Open → Signalling
signalling_of p folds = record { signals = p.signals; prios = p.prios; listeners = p.listeners; folds = folds }

-- a change of the signals, of the priorities, of the listeners
abbrev pub on_signals : (Signals Value → Signals Value) → Signalling → Signalling
on_signals f st = record st { signals = f st.signals }

abbrev pub on_prios : (Prios → Prios) → Signalling → Signalling
on_prios f st = record st { prios = f st.prios }

abbrev pub on_listeners : (List Listener → List Listener) → Signalling → Signalling
on_listeners f st = record st { listeners = f st.listeners }
