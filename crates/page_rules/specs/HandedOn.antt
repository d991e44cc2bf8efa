-- What the laws say of a page that hands its lines on, and of the calls around it.
use Rattle.std.specs.Prelude.{◌≡◌, ℕ, List, [], Option}
use Rattle.page_types.specs.Values.{Value}
use Rattle.page_types.specs.Tree.{Program}
use Rattle.lang_meaning.specs.Machine.{Machine, hosted}
use Rattle.lang_meaning.specs.Evaluation.{call_from_outside}
use Rattle.lang_meaning.specs.HostSteps.{host_operations}
use Rattle.lang_meaning.specs.Asks.{limited_operations, IsPassed, IsRefused}
use Rattle.page_model.specs.State.{State}
use Rattle.page_model.specs.Operations.{page_operations}
use Rattle.page_model.specs.Folds.{Fold}
use Rattle.page_model.specs.FoldBounds.{IsBounded}
use Rattle.page_model.specs.PageHost.{Hosting, page_rules}
use Rattle.trace_text.specs.declared.lines.NoLine.{NoLine}
use Rattle.trace_text.specs.declared.lines.NoLine.TheVariants.{OutOfMemory}
use Rattle.trace_text.specs.Given.{Keeping, StopsAmong}
use Rattle.page_rules.specs.Lined.{Lined, lined, lined_rules, RulesFollow, LeavesLines}
use Rattle.page_rules.specs.Ends.{with_lines, EndsLined, LeavesWhole, whole_lines}

-- Each of them begins at a page that handed its lines on to an object that told this before, and was stopped so before.
module _ {T : Type 0} (k : Keeping T) (told : Option T) (stopped : Option NoLine) where
  -- it answers as the page that keeps its events
  abbrev pub HandsItsLinesOn : Type 0
  HandsItsLinesOn = RulesFollow (lined k told stopped) page_rules (lined_rules k)

  -- calls around it, within bounds, end as those of the model
  abbrev pub CallsEndLined : Type 0
  CallsEndLined =
      (program : Program) (folds : List Fold) (f : ℕ) (args : List Value) (m : State) → IsBounded m.host
      → EndsLined k told stopped folds (call_from_outside program page_operations f args m)
      (call_from_outside program (host_operations (lined_rules k)) f args (with_lines k told stopped folds m))

  -- calls around it that a refused ask has stopped have handed on a start of their lines
  abbrev pub RefusedCallsLeaveAStart : Type 0
  RefusedCallsLeaveAStart =
      (program : Program) (f : ℕ) (args : List Value) (m : Machine Hosting) (after : Lined T)
      → IsRefused (LeavesLines k) (call_from_outside program (limited_operations (lined_rules k)) f args)
      (hosted (lined k told stopped) m) after
      → LeavesWhole k told (whole_lines program f args m) after

  -- so have those for which memory was wanting
  abbrev pub PassedCallsLeaveAStart : Type 0
  PassedCallsLeaveAStart =
      (program : Program) (f : ℕ) (args : List Value) (m : Machine Hosting) (after : Lined T)
      → IsPassed (lined_rules k) (call_from_outside program (limited_operations (lined_rules k)) f args)
      (hosted (lined k told stopped) m) after → m.host.page.events ≡ []
      → StopsAmong k OutOfMemory told (whole_lines program f args m) after.told
