-- The call of a function, where there is one, and what is asked of its values.
use Rattle.std.proofs.Common.{◌≡◌, ℕ, List, [], ◌∷◌, map, Vec, Option, Some, None, sym, ap, ◌∙◌, subst}
use Rattle.std.specs.declared.alloc.Global.{Global}
use Rattle.std.specs.Option.{option_map}
use Rattle.page_types.specs.Values.{Value, UnitValue, values_of}
use Rattle.page_values.specs.declared.Value as held
use Rattle.page_values.specs.declared.Func.{Func}
use Rattle.page_values.specs.Seen.{seen as value_seen, seen_func}
use Rattle.page_values.specs.Written.{AreNumbered}
use Rattle.lang_ast.specs.Steps.{AllNumbered}
use Rattle.page_interp.specs.MachineNow.{MachineNow}
use Rattle.page_interp.specs.Machines.{functions_in, bound_args}
use Rattle.lang_meaning.specs.Machine.{Caller, Done}
use Rattle.page_model.specs.State.{Page, State}
use Rattle.page_model.specs.Invoke.{call_back}
use Rattle.trace_text.specs.declared.lines.NoLine.{NoLine}
use Rattle.trace_text.specs.Given.{Keeping, Seen}
use Rattle.page_operations.specs.Asked.{functions_of}
use Rattle.page_host.specs.PageNow.{PageNow, IsWhole}
use Rattle.page_host.specs.StateActs.{How, Gave}
use Rattle.page_host.specs.Moments.{CanCall}
use Rattle.page_host.specs.Doing.{Runs}
use Rattle.page_host.proofs.Composing.{runs-none}

-- numbered values are numbered as the items of a value
pub all-numbered : (count : ℕ) (vs : List Value) → AllNumbered count vs → AreNumbered count (values_of vs)
all-numbered count [] h = tt
all-numbered count (v ∷ vs) h = (h.0, all-numbered count vs h.1)

-- the script's functions are those of the machine
pub functions-of : {L T : Type 0} {seen : L → Seen T} {m : MachineNow} {p0 p : PageNow L} → p0 ≡ p → IsWhole seen p0 → CanCall m p → functions_of p0.state ≡ functions_in m
functions-of {L = L} view whole ready = whole.functions (ap (λ (x : PageNow L). x.stopped) view ∙ ready.running) ∙ (ap (λ (x : PageNow L). x.functions) view ∙ sym ready.functions)

module _ {L T : Type 0} {k : Keeping T} {seen : L → Seen T} where
  -- an absent function does nothing
  pub back-absent : (o : Option Func) (args : List Value) (m : MachineNow) (p : PageNow L) → o ≡ None → CanCall m p
      → Runs k seen (λ call. call_back call (option_map seen_func o) args) None (Gave UnitValue) m p m p
  back-absent o args m p none ready =
      subst (λ (x : Option Func). Runs k seen (λ call. call_back call (option_map seen_func x) args) None (Gave UnitValue) m p m p) (sym none)
      (runs-none (Gave UnitValue) m p ready.running (λ on. ready) (λ e. absurd (cc)))

  -- the mark of the lines is none of the model's
  runs-marked : {step : Caller Page → State → Done Page} {why : Option NoLine} {how : How} {m m' : MachineNow} {p p' : PageNow L} (since : L) → Runs k seen step why how m (record p { since = since }) m' p' → Runs k seen step why how m p m' p'
  runs-marked since r = record {
    steps = r.steps;
    ready = r.ready;
    port = λ w. let s = r.port w in record { functions = s.functions; until = s.until; port = s.port };
    left = r.left;
    stopped = r.stopped;
    program = r.program;
    fuel = r.fuel;
    dry = r.dry;
  }

  -- a function that is there is called
  pub back-there : (o : Option Func) (f : Func) (args : Vec held.Value Global) (since : L) {why : Option NoLine} {how : How} {m m' : MachineNow} {p0 p p' : PageNow L} → o ≡ Some f → p0 ≡ p
      → Runs k seen (λ call. call f.function (bound_args f args)) why how m (record p0 { since = since }) m' p'
      → Runs k seen (λ call. call_back call (option_map seen_func o) (map value_seen args.items)) why how m p m' p'
  back-there o f args since {why = why} {how = how} {m = m} {m' = m'} {p = p} {p' = p'} some view r =
      subst (λ (x : Option Func). Runs k seen (λ call. call_back call (option_map seen_func x) (map value_seen args.items)) why how m p m' p') (sym some)
      (subst (λ (x : PageNow L). Runs k seen (λ call. call f.function (bound_args f args)) why how m x m' p') view (runs-marked since r))
