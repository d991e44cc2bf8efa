-- What the calls of a page leave, so that a further step can be taken.
use Rattle.std.specs.Prelude.{IfOk, List}
use Rattle.std.proofs.Common.{◌≡◌, ◌≤◌, ℕ, refl, sym, ◌∙◌, ap, subst, arith, None, Result, Ok, Err, length}
use Rattle.std.proofs.lemmas.List.{length-map}
use Rattle.lang_ast.specs.declared.program.Program.{Program}
use Rattle.lang_ast.specs.Seen.{seen_items}
use Rattle.lang_ast.specs.SeenProgram.{seen_program}
use Rattle.lang_meaning.specs.Evaluation.{functions_of}
use Rattle.page_parts.specs.Setup.{Setup}
use Rattle.page_parts.specs.HostClosures.{HostClosure}
use Rattle.page_model.specs.State.{Page}
use Rattle.page_interp.specs.MachineNow.{MachineNow}
use Rattle.page_interp.specs.Runs.{count_of_functions}
use Rattle.trace_text.specs.Given.{Keeping, Seen}
use Rattle.page_state.specs.Standing.{Standing, page_of, holding}
use Rattle.page_state.specs.PageActs.{at, on_page, changed_by, Does}
use Rattle.page_host.specs.PageNow.{PageNow, room_at}
use Rattle.page_host.specs.Moments.{CanCall}
use Rattle.page_host.specs.Doing.{IfFinished}
use Rattle.page_host.specs.Starts.{Starts}
use Rattle.page_host.specs.Performing.{CanPerform, stopped_by}
use Rattle.page_host.specs.Stops.{Stops, KeepsSetting, fault_of}
use Rattle.page_host.specs.declared.did.Did.{Did}
use Rattle.page_host.specs.declared.did.Did.TheVariants as did
use Rattle.page_host.specs.declared.stop.PageStop.{PageStop}
use Rattle.turn_rows.specs.Ready.{IsReady, StaysReady}

-- ---- the page's own work

module _ {T : Type 0} {k : Keeping T} {s s' : Standing} {old new : Seen T} (f : Page → Page) where
  state-is : Does k (at s old) (on_page f) None (at s' new) → s' ≡ holding (f (page_of s)) s
  unfolding on_page
  state-is h = h.acts.state refl

-- work that takes fuel, or none
pub work-stays : {L T X : Type 0} {k : Keeping T} {seen : L → Seen T} {old new : PageNow L} (f : Page → Page) → Does k (at old.state (seen old.lines)) (on_page f) None (at new.state (seen new.lines))
    → (x : X) → Stops seen old (Ok x) new → KeepsSetting old new → new.fuel ≤ old.fuel → StaysReady old new
work-stays f does x stops setting fuel = record {
  running = stops.told.0;
  folds = ap (λ (s : Standing). s.folds) (state-is f does);
  functions = setting.functions;
  fuel = fuel;
}

pub free-stays : {L T X : Type 0} {k : Keeping T} {seen : L → Seen T} {old new : PageNow L} (f : Page → Page) → Does k (at old.state (seen old.lines)) (on_page f) None (at new.state (seen new.lines))
    → (x : X) → Stops seen old (Ok x) new → KeepsSetting old new → new.fuel ≡ old.fuel → StaysReady old new
free-stays f does x stops setting same = work-stays f does x stops setting (omega (arith, same))

-- nothing is done
pub stays-same : {L : Type 0} (p : PageNow L) → StaysReady p p
stays-same p = record { running = refl; folds = refl; functions = refl; fuel = omega arith }

-- the page is changed alone
pub change-stays : {L : Type 0} (f : Page → Page) (old : PageNow L) {new : PageNow L} → new ≡ record old { state = changed_by f old.state } → StaysReady old new
change-stays {L = L} f old same =
    subst (λ (p : PageNow L). StaysReady old p) (sym same) (record { running = refl; folds = refl; functions = refl; fuel = omega arith })

-- one piece of work behind another
pub stays-then : {L : Type 0} {p q r : PageNow L} → StaysReady p q → StaysReady q r → StaysReady p r
stays-then a b = record {
  running = b.running ∙ a.running;
  folds = b.folds ∙ a.folds;
  functions = b.functions ∙ a.functions;
  fuel = let first = a.fuel in let second = b.fuel in omega (arith, first, second);
}

-- ---- a step can be taken

pub ready-then : {L : Type 0} {m : MachineNow} {p q : PageNow L} → IsReady m p → StaysReady p q → IsReady m q
ready-then ready stays = record {
  running = stays.running ∙ ready.running;
  at_rest = stays.folds ∙ ready.at_rest;
  functions = ready.functions ∙ sym stays.functions;
  few = let few = ready.few in let less = stays.fuel in omega (arith, few, less);
}

-- a task can be performed
pub can-perform : {L : Type 0} {m : MachineNow} {p : PageNow L} → IsReady m p → p.state.script.now ≤ 1000000000000 → CanPerform m p
can-perform ready in_time = record { running = ready.running; at_rest = ready.at_rest; functions = ready.functions; in_time = in_time }

-- a callback can be called: there is room for as many calls of `busy` as there are units of fuel
pub can-call : {L : Type 0} {m : MachineNow} {p : PageNow L} → IsReady m p → p.state.script.now ≤ 1000000000000 → CanCall m p
can-call {p = p} ready in_time = record {
  running = ready.running;
  at_rest = ready.at_rest;
  functions = ready.functions;
  room = let few = ready.few in let room = enough p.state.script.now in_time in omega (arith, few, room);
}
  where
    enough : (now : ℕ) → now ≤ 1000000000000 → 10000000 ≤ room_at now
    enough now h = omega (arith, h)

-- behind a callback
pub called-ready : {L : Type 0} {m : MachineNow} {p : PageNow L} → CanCall m p → p.fuel ≤ 10000000 → IsReady m p
called-ready can few = record { running = can.running; at_rest = can.at_rest; functions = can.functions; few = few }

-- ---- by how work ended that may want fuel

pub finished-ready : {L : Type 0} (m : MachineNow) (p : PageNow L) (r : Result Did PageStop) → IfFinished r (CanCall m p) → p.fuel ≤ 10000000 → IfFinished r (IsReady m p)
finished-ready m p (Ok did.Finished) can few = called-ready can few
finished-ready m p (Ok did.Fuel) can few = tt
finished-ready m p (Err why) can few = tt

pub performed-runs : {L : Type 0} (p : PageNow L) (r : Result Did PageStop) → p.stopped ≡ stopped_by r → IfOk r (λ _. p.stopped ≡ None)
performed-runs p (Ok x) stop = stop
performed-runs p (Err why) stop = tt

pub checked-runs : {L : Type 0} (p : PageNow L) (r : Result Did PageStop) → p.stopped ≡ fault_of r → IfOk r (λ _. p.stopped ≡ None)
checked-runs p (Ok x) stop = stop
checked-runs p (Err why) stop = tt

-- ---- a page before its first turn, with the machine of its program

pub starts-ready : {L : Type 0} (program : Program) {setup : Setup} {hosts : List HostClosure} {m : MachineNow} {p : PageNow L} → m.script ≡ program → Starts (seen_program program) setup hosts p → setup.fuel ≤ 10000000 → IsReady m p
unfolding seen_program
starts-ready program script starts few = record {
  running = starts.stopped;
  at_rest = starts.folds;
  functions =
      ap (λ (p : Program). count_of_functions (seen_program p)) script
      ∙ (sym (ap length program.named ∙ length-map (functions_of (seen_items program.items.items)) (λ f. f.name)) ∙ sym starts.functions);
  few = let fuel = starts.fuel in omega (arith, fuel, few);
}
