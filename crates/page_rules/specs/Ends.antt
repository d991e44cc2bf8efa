-- How a script's call ends around the page that hands its lines on, by how it ends around the page of the model.
use Rattle.std.specs.Prelude.{◌≡◌, ℕ, List, Option, Some}
use Rattle.page_types.specs.Values.{Value}
use Rattle.page_types.specs.Tree.{Program}
use Rattle.lang_meaning.specs.Machine.{Machine, Done, Gives, Throws, Returns, OutOfFuel, hosted}
use Rattle.lang_meaning.specs.Evaluation.{call_from_outside}
use Rattle.lang_meaning.specs.HostSteps.{host_operations}
use Rattle.lang_meaning.specs.Asks.{host_after}
use Rattle.page_model.specs.State.{Page}
use Rattle.page_model.specs.Folds.{Fold}
use Rattle.page_model.specs.PageHost.{Hosting, with_folds, page_rules}
use Rattle.trace_text.specs.declared.lines.NoLine.{NoLine}
use Rattle.trace_text.specs.Line.{Line}
use Rattle.trace_text.specs.Given.{Keeping, StopsAmong}
use Rattle.page_script.specs.PageActs.{lines_of}
use Rattle.page_rules.specs.Lined.{Lined, lined}

-- the machine around a page that handed its events on, with these folds open
abbrev pub with_lines : {T : Type 0} → Keeping T → Option T → Option NoLine → List Fold → Machine Page → Machine (Lined T)
with_lines k told stopped folds m = hosted (λ p. lined k told stopped (with_folds folds p)) m

-- the same end, with the same folds open as before. Where fuel ends within callbacks their folds are left open.
abbrev pub EndsLined : {T : Type 0} → Keeping T → Option T → Option NoLine → List Fold → Done Page → Done (Lined T) → Type 0
EndsLined k told stopped folds (Gives v m) d = d ≡ Gives v (with_lines k told stopped folds m)
EndsLined k told stopped folds (Throws v m) d = d ≡ Throws v (with_lines k told stopped folds m)
EndsLined k told stopped folds (Returns v m) d = d ≡ Returns v (with_lines k told stopped folds m)
EndsLined k told stopped folds (OutOfFuel m) d = (left_open : List Fold) × (d ≡ OutOfFuel (with_lines k told stopped left_open m))

-- a call that was stopped has handed on a start of the whole call's lines: the next one was not taken, for this reason
pub record LeavesWhole {T : Type 0} (k : Keeping T) (told : Option T) (whole : List Line) (after : Lined T) : Type 0 where
  pub why : NoLine
  pub stopped : after.stopped ≡ Some why
  pub among : StopsAmong k why told whole after.told

-- the lines of a whole call around the page as a host that keeps its events
abbrev pub whole_lines : Program → (f : ℕ) → (args : List Value) → Machine Hosting → List Line
whole_lines program f args m = lines_of (host_after (call_from_outside program (host_operations page_rules) f args m)).page.events
