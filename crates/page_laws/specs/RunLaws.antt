-- Laws of runs: what is told of the lines and the pages of every run, and of every run in pieces.
use Rattle.std.specs.Prelude.{◌≡◌, ◌⊎◌, ℕ, List, [], true}
use Rattle.page_types.specs.Events.{Stamped}
use Rattle.page_types.specs.Tree.{Program}
use Rattle.page_types.specs.declared.HostMark.TheVariants.{Fired}
use Rattle.page_parts.specs.HostClosures.{HostClosure}
use Rattle.page_parts.specs.Setup.{Setup}
use Rattle.lang_meaning.specs.Evaluation.{call_from_outside}
use Rattle.page_model.specs.Choosing.{Rules}
use Rattle.page_model.specs.Gaps.{Act, run_gaps_by}
use Rattle.page_model.specs.Numbers.{HoldsNoNumbers}
use Rattle.page_model.specs.Operations.{page_operations}
use Rattle.page_model.specs.PageTrace.{IsLegal, Migrates}
use Rattle.page_model.specs.State.{Page}
use Rattle.page_model.specs.Turns.{turns, run_by, state_of, first_state, first_page, events_of_run}
use Rattle.page_laws.specs.CallLaws.{is_answer_of}
use Rattle.page_laws.specs.ClosureMarks.{ClosuresFollow, Exactly, HasMark}
use Rattle.page_laws.specs.History.{open_registrations, some_line}
use Rattle.page_laws.specs.Moves.{ComesTo}
use Rattle.page_laws.specs.SchedulerLaws.{EndsTruly, LimitsAreKept}

-- ---- Ours: laws on the lines of a run. The values that arrive hold no numbers, but where limits are kept

-- the lines of a run keep this law, whatever the hosts and the choices
abbrev pub RunsKeep : {C : Type 0} → Rules C → Program → Setup → (List Stamped → Type 0) → Type 0
RunsKeep {C} rules program setup Law =
    (hosts : List HostClosure) (c : C) → HoldsNoNumbers setup
    → Law (events_of_run (run_by rules program setup hosts c))

-- so do the lines of a run in pieces, whatever the acts and the choices
abbrev pub ActsKeep : {C : Type 0} → Rules C → Program → Setup → (List Stamped → Type 0) → Type 0
ActsKeep {C} rules program setup Law =
    (c : C) (list : List Act) → HoldsNoNumbers setup
    → Law (events_of_run (run_gaps_by rules program setup list c))

-- turns and jobs of a run are no more than its fuel, no turn begins when the time is up, and it ends by the clock only then
abbrev pub RunsKeepLimits : {C : Type 0} → Rules C → Program → Setup → Type 0
RunsKeepLimits {C} rules program setup =
    (hosts : List HostClosure) (c : C)
    → LimitsAreKept setup.until setup.fuel (events_of_run (run_by rules program setup hosts c))

-- so it is of a run in pieces
abbrev pub ActsKeepLimits : {C : Type 0} → Rules C → Program → Setup → Type 0
ActsKeepLimits {C} rules program setup =
    (c : C) (list : List Act)
    → LimitsAreKept setup.until setup.fuel (events_of_run (run_gaps_by rules program setup list c))

-- how a run ends is true, by its time and its fuel
abbrev pub RunsEndTruly : {C : Type 0} → Rules C → Program → Setup → Type 0
RunsEndTruly {C} rules program setup =
    (hosts : List HostClosure) (c : C) → HoldsNoNumbers setup
    → EndsTruly setup.until setup.fuel (events_of_run (run_by rules program setup hosts c))

-- so is how a run in pieces ends
abbrev pub ActsEndTruly : {C : Type 0} → Rules C → Program → Setup → Type 0
ActsEndTruly {C} rules program setup =
    (c : C) (list : List Act) → HoldsNoNumbers setup
    → EndsTruly setup.until setup.fuel (events_of_run (run_gaps_by rules program setup list c))

-- ---- Ours: laws on the page of a run

-- after any number of turns, a page is what moves made of the first one
abbrev pub TurnsAreMoves : {C : Type 0} → Rules C → Program → Setup → Type 0
TurnsAreMoves {C} rules program setup =
    (hosts : List HostClosure) (c : C) (until most : ℕ) → HoldsNoNumbers setup
    → ComesTo (first_page program setup hosts) (state_of
    (turns rules (call_from_outside program page_operations) until most (first_state program setup hosts) c)).host

-- so it is at the end of a run
abbrev pub RunsAreMoves : {C : Type 0} → Rules C → Program → Setup → Type 0
RunsAreMoves {C} rules program setup =
    (hosts : List HostClosure) (c : C) → HoldsNoNumbers setup
    → ComesTo (first_page program setup hosts) (state_of (run_by rules program setup hosts c)).host

-- and at the end of a run in pieces
abbrev pub ActsAreMoves : {C : Type 0} → Rules C → Program → Setup → Type 0
ActsAreMoves {C} rules program setup =
    (c : C) (list : List Act) → HoldsNoNumbers setup
    → ComesTo (first_page program setup []) (state_of (run_gaps_by rules program setup list c)).host

-- the open calls that a page keeps are those that its lines tell
abbrev pub TellsOpenCalls : Page → Type 0
TellsOpenCalls page = page.calls ≡ open_registrations page.events

-- so it is at the end of a run
abbrev pub RunsTellOpenCalls : {C : Type 0} → Rules C → Program → Setup → Type 0
RunsTellOpenCalls {C} rules program setup =
    (hosts : List HostClosure) (c : C) → HoldsNoNumbers setup
    → TellsOpenCalls (state_of (run_by rules program setup hosts c)).host

-- and at the end of a run in pieces
abbrev pub ActsTellOpenCalls : {C : Type 0} → Rules C → Program → Setup → Type 0
ActsTellOpenCalls {C} rules program setup =
    (c : C) (list : List Act) → HoldsNoNumbers setup
    → TellsOpenCalls (state_of (run_gaps_by rules program setup list c)).host

-- ---- Ours: laws on the closures of the host

-- the closures at the end of a run are those of the first page, with the marks that the lines tell
abbrev pub ClosuresFollowRuns : {C : Type 0} → Rules C → Program → Setup → Type 0
ClosuresFollowRuns {C} rules program setup =
    (hosts : List HostClosure) (c : C) → HoldsNoNumbers setup
    → ClosuresFollow (first_page program setup hosts) (state_of (run_by rules program setup hosts c)).host

-- closure number k is fired then exactly where it was so before or a line tells its answer
abbrev pub ClosuresFireAsTold : {C : Type 0} → Rules C → Program → Setup → Type 0
ClosuresFireAsTold {C} rules program setup =
    (hosts : List HostClosure) (c : C) → HoldsNoNumbers setup → (k : ℕ)
    → (let run = run_by rules program setup hosts c in
    Exactly (HasMark Fired (state_of run).host.hosts k)
    (HasMark Fired hosts k ⊎ some_line (is_answer_of k) (events_of_run run) ≡ true))

-- ---- Ours: laws on legal events

-- legal events told in the second form of a trace are those of the same run
abbrev pub LegalEventsMigrate : Program → Setup → Type 0
LegalEventsMigrate program setup =
    (hosts : List HostClosure) (es : List Stamped) → IsLegal program setup hosts es
    → Migrates program setup hosts es
