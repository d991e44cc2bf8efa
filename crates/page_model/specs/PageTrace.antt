-- The trace that a script and arrivals give, and legal traces.
use Rattle.std.specs.Prelude.{◌≡◌, ℤ, List, ℕ, Result, reverse}
use Rattle.page_types.specs.Tree.{Program}
use Rattle.page_types.specs.Events.{Stamped}
use Rattle.page_parts.specs.Setup.{Setup}
use Rattle.page_parts.specs.HostClosures.{HostClosure}
use Rattle.page_parts.specs.WrittenChoices.{written}
use Rattle.page_parts.specs.TraceText.{text_of, choices_in, all_without_by}
use Rattle.page_model.specs.Turns.{Turned, GoesOn, Ended, Stuck, run, events_of_run}

-- ---- Ours: the trace of a run

-- the page's trace: the text of the run under the written choices
unfoldable pub page_trace : Program → Setup → List HostClosure → List (Result ℤ ℤ) → List ℕ
page_trace program setup hosts answers = text_of setup.trace (events_of_run (run program setup hosts (written setup answers)))

-- a run that has ended with exactly these events
abbrev pub EndsWith : {C : Type 0} → List Stamped → Turned C → Type 0
EndsWith es (GoesOn m c) = ⊥
EndsWith es (Ended end m c) = reverse m.host.events ≡ es
EndsWith es (Stuck at m c) = ⊥

-- events are legal where the run under their own choices ends with exactly them
abbrev pub IsLegal : Program → Setup → List HostClosure → List Stamped → Type 0
IsLegal program setup hosts es = EndsWith es (run program setup hosts (choices_in es))

-- bytes are a legal trace where they are the text of legal events, in the setup's form of a trace
abbrev pub IsLegalTrace : Program → Setup → List HostClosure → List ℕ → Type 0
IsLegalTrace program setup hosts bytes = (es : List Stamped) × (bytes ≡ text_of setup.trace es) × IsLegal program setup hosts es

-- ---- Ours: a trace in its second form tells more, and nothing else is changed

-- the setup with the second form of a trace
abbrev pub told_more : Setup → Setup
told_more setup = record setup { trace = 2 }

-- the events of the run under the choices of these events, told in the second form
unfoldable pub migrated : Program → Setup → List HostClosure → List Stamped → List Stamped
migrated program setup hosts es = events_of_run (run program (told_more setup) hosts (choices_in es))

-- what migrating legal events gives is legal in the second form; without what the first form leaves out they are the events themselves,
-- where those are of the first form
pub record Migrates (program : Program) (setup : Setup) (hosts : List HostClosure) (es : List Stamped) : Type 0 where
  pub legal : IsLegal program (told_more setup) hosts (migrated program setup hosts es)
  pub same : setup.trace ≡ 1 → all_without_by (migrated program setup hosts es) ≡ es
