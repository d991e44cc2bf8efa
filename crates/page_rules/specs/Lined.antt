-- The page as a host that hands its lines on: it keeps no events, and tells what the object tells that takes its lines.
use Rattle.std.specs.Prelude.{◌≡◌, List, [], Option, Some}
use Rattle.page_types.specs.Events.{Stamped}
use Rattle.lang_meaning.specs.HostSteps.{Stepped, HostRules, Ask, AskOp, AskResume, on_ask}
use Rattle.page_model.specs.Additions.{after}
use Rattle.page_model.specs.PageHost.{Hosting, page_rules}
use Rattle.trace_text.specs.Line.{Line}
use Rattle.trace_text.specs.declared.lines.NoLine.{NoLine}
use Rattle.trace_text.specs.Given.{Keeping, after_all, StopsAmong}
use Rattle.page_script.specs.PageActs.{lines_of}

-- ---- Ours: how a host that hands its lines on stands to one that keeps its events

-- the page with its open folds, which keeps no event; what is told of the lines that it handed on; and for what a line was not taken, or
-- memory was wanting, where that came
pub record Lined (T : Type 0) : Type 0 where
  pub hosting : Hosting
  pub told : Option T
  pub stopped : Option NoLine

-- the page with its folds, without its events
abbrev pub bare_hosting : Hosting → Hosting
bare_hosting h = record h { page = record h.page { events = [] } }

-- the lines of a step
abbrev pub lines_in : Stepped Hosting → List Line
lines_in s = lines_of s.host.page.events

-- a step of the page, whose lines are handed on
abbrev pub handed_on : {T : Type 0} → Keeping T → Lined T → Stepped Hosting → Stepped (Lined T)
handed_on k before s =
    record {
      step = s.step;
      host = record before { hosting = bare_hosting s.host; told = after_all k before.told (lines_in s) };
    }

-- what a page that keeps no event does when it is asked
abbrev pub asked_bare : {T : Type 0} → Ask → Lined T → Stepped Hosting
asked_bare ask h = on_ask page_rules ask (bare_hosting h.hosting)

-- the page's rules as a host that hands its lines on
abbrev pub lined_rules : {T : Type 0} → Keeping T → HostRules (Lined T)
lined_rules k = record {
  op = λ op args h. handed_on k h (asked_bare (AskOp op args) h);
  resume = λ ticket end h. handed_on k h (asked_bare (AskResume ticket end) h);
}

-- a refused ask may leave: some of its lines were taken, and the next was not, for this reason
pub record LeavesLines {T : Type 0} (k : Keeping T) (ask : Ask) (before after : Lined T) : Type 0 where
  pub why : NoLine
  pub stopped : after.stopped ≡ Some why
  pub among : StopsAmong k why before.told (lines_in (asked_bare ask before)) after.told

-- a page that keeps its events, as one that handed them on to an object that told this before, and was stopped so before
abbrev pub lined : {T : Type 0} → Keeping T → Option T → Option NoLine → Hosting → Lined T
lined k told stopped h = record { hosting = bare_hosting h; told = after_all k told (lines_of h.page.events); stopped = stopped }

-- the page and its folds with other events before its own
abbrev pub hosting_after : List Stamped → Hosting → Hosting
hosting_after es h = record h { page = after es h.page }

-- a step around another host
abbrev pub stepped_by : {H K : Type 0} → (H → K) → Stepped H → Stepped K
stepped_by φ s = record { step = s.step; host = φ s.host }

-- the rules of one host are those of another, seen so
abbrev pub RulesFollow : {H K : Type 0} → (H → K) → HostRules H → HostRules K → Type 0
RulesFollow {H} φ rules rules' = (ask : Ask) (h : H) → on_ask rules' ask (φ h) ≡ stepped_by φ (on_ask rules ask h)
