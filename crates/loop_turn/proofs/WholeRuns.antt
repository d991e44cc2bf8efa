-- Whole runs, from their turns: the lines with their head, and what is known of the end.
use Rattle.std.proofs.Common.{◌≡◌, true, is_some, ℕ, suc, List, [], ◌∷◌, map, refl, sym, ◌∙◌, ap, subst, Option, Some, None, Result, Err}
use Rattle.page_types.specs.declared.End.{End}
use Rattle.page_types.specs.Tree.{Program}
use Rattle.page_parts.specs.HostClosures.{HostClosure}
use Rattle.page_parts.specs.Setup.{Setup}
use Rattle.page_hosts.specs.Hosts.{unasked}
use Rattle.lang_meaning.specs.Machine.{Variable}
use Rattle.lang_meaning.specs.Evaluation.{call_from_outside, first_globals}
use Rattle.page_model.specs.State.{Page, State}
use Rattle.page_model.specs.Operations.{page_operations}
use Rattle.page_model.specs.Choosing.{Rules}
use Rattle.page_model.specs.Bounds.{turn_or, row_of}
use Rattle.page_model.specs.Turns.{Turned, Stuck, AtBound, first_page, first_state, run_by}
use Rattle.page_model.proofs.Bounding.CountedTurns.{row-agree}
use Rattle.trace_text.specs.declared.lines.NoLine.{NoLine}
use Rattle.trace_text.specs.declared.lines.NoLine.TheVariants.{Failed, Differs, OutOfMemory}
use Rattle.trace_text.specs.Line.{Head}
use Rattle.trace_text.specs.Given.{Keeping, Seen, Gives as TakesLines}
use Rattle.trace_text.proofs.Giving.{Gives-then, Gives-stop}
use Rattle.lang_ast.specs.declared.program.Program as code
use Rattle.lang_ast.specs.SeenProgram.{seen_program}
use Rattle.arrivals_text.specs.declared.setup.PageSetup.{PageSetup}
use Rattle.arrivals_text.specs.Seen.{settings_of}
use Rattle.page_interp.specs.MachineNow.{MachineNow, program_in}
use Rattle.page_host.specs.Moments.{calling, state_of as host_state}
use Rattle.page_host.specs.Starts.{Starts}
use Rattle.page_host.specs.PageNow.{PageNow}
use Rattle.loop_turn.specs.Firing.{FiresAmong}
use Rattle.loop_turn.specs.Outcomes.{Shown, Outcome, Reached, held_in, Turns}
use Rattle.loop_turn.specs.LivePages.{IsLoaded, state_in}
use Rattle.loop_turn.specs.declared.live_page.LivePage.{LivePage}
use Rattle.loop_turn.proofs.TurnSteps.{Turns-same}
use Rattle.loop_turn.proofs.Fired.{fires-none}
use Rattle.loop_turn.specs.RunRules.{Held}
use Rattle.loop_turn.specs.RunStops.{run_stop_at, stop_fault, line_fault, run_outcome, readings_at, choices_at}
use Rattle.loop_turn.specs.Answers.{AreKept, AreLeft}
use Rattle.loop_turn.specs.Runs.{event_lines, run_lines, PortThen, DoesRun}
use Rattle.loop_turn.specs.TurnActs.{reached, PortAt}
use Rattle.loop_turn.specs.declared.run_stop.RunStop.{RunStop}
use Rattle.loop_turn.specs.declared.run_stop.RunStop.TheVariants as stop
use Rattle.loop_turn.proofs.RunSteps.{Gives-memory, are-kept}

-- ---- the model's run, by turns with further waits

pub run-is : {C : Type 0} (rules : Rules C) (program : Program) (setup : Setup) (hosts : List HostClosure) (c : C)
    → run_by rules program setup hosts c
    ≡ row_of (turn_or (Stuck AtBound) setup.until rules (call_from_outside program page_operations) setup.until) (suc setup.fuel) (first_state program setup hosts) c
unfolding run_by
run-is rules program setup hosts c = sym (row-agree rules program setup.until (Stuck AtBound) setup.until (suc setup.fuel) (first_state program setup hosts) c (λ z. refl))

-- of a page before its first turn
pub run-starts : {C L : Type 0} (rules : Rules C) (program : Program) (setup : Setup) (hosts : List HostClosure) (c : C) (m : MachineNow) (p : PageNow L)
    → program_in m ≡ program → m.globals ≡ first_globals program → Starts program setup hosts p
    → run_by rules program setup hosts c ≡ row_of (turn_or (Stuck AtBound) setup.until rules (calling m) setup.until) (suc p.fuel) (host_state m p) c
run-starts rules program setup hosts c m p same globals starts =
    let first = first_state program setup hosts in
    let with_parts : List Variable → ℕ → Page → State = λ g f h. record { globals = g; open_calls = []; fuel = f; host = h } in
    let state : first ≡ host_state m p =
    ap (λ g. with_parts g setup.fuel (first_page program setup hosts)) (sym globals)
    ∙ (ap (λ f. with_parts m.globals f (first_page program setup hosts)) (sym starts.fuel) ∙ ap (with_parts m.globals p.fuel) (sym starts.page)) in
    run-is rules program setup hosts c
    ∙ (ap (λ q. row_of (turn_or (Stuck AtBound) setup.until rules (call_from_outside q page_operations) setup.until) (suc setup.fuel) first c) (sym same)
    ∙ (ap (λ n. row_of (turn_or (Stuck AtBound) setup.until rules (calling m) setup.until) (suc n) first c) (sym starts.fuel)
    ∙ ap (λ s. row_of (turn_or (Stuck AtBound) setup.until rules (calling m) setup.until) (suc p.fuel) s c) state))

-- the turns of a page that is loaded are the model's run of its program under its setup
pub loaded-run : {C P L M T : Type 0} {k : Keeping T} (rules : Rules C) (program : code.Program) (setup : PageSetup) (hosts : List HostClosure) (c : C)
    (live : LivePage P L M) → IsLoaded program setup hosts live → {before : Shown T} {why : Option NoLine} {how : Outcome} {there : Reached C T}
    → Turns k before
    (row_of (turn_or (Stuck AtBound) live.page.until rules (calling live.machine) live.page.until) (suc live.page.fuel) (state_in live) c) why how there
    → Turns k before (run_by rules (seen_program program) (settings_of setup).setup hosts c) why how there
loaded-run {k = k} rules program setup hosts c live loaded {before = before} {why = why} {how = how} {there = there} h =
    let P : ℕ → Type 0 = λ until.
    Turns k before (row_of (turn_or (Stuck AtBound) until rules (calling live.machine) until) (suc live.page.fuel) (state_in live) c) why how there in
    Turns-same
    (run-starts rules (seen_program program) (settings_of setup).setup hosts c live.machine live.page (ap seen_program loaded.script) loaded.globals loaded.page)
    (subst P loaded.page.until h)

-- ---- a run behind its head

module _ {C K T L : Type 0} {k : Keeping T} (seen : L → Seen T) (run : Turned (Held C K)) (outcome : Result End RunStop) {before : Shown T} (m : MachineNow) (p : PageNow L) (held : Held C K) (port : PortThen) where
  pub turns-run : Turns k before run (line_fault outcome) (run_outcome outcome) (reached seen m p held) → AreLeft outcome p.state.kept held.answers
      → port.before ≡ before.closures → (line_fault outcome ≡ None → port.closures ≡ map unasked p.state.hosts) → (is_some (line_fault outcome) ≡ true → port.closures ≡ p.state.at_port)
      → port.kept ≡ p.state.kept → DoesRun k before.seen (event_lines run) run outcome held.clock held.chooser port (seen p.lines)
  turns-run h left first closures so_far kept = record {
    lines = h.lines;
    ends = λ w. let e = h.ends w in record {
      outcome = e.outcome;
      clock = ap (λ (x : Held C K). x.clock) e.held;
      chooser = ap (λ (x : Held C K). x.chooser) e.held;
      closures = closures w ∙ ap (map unasked) e.hosts;
      answers =
          subst (λ o. AreKept o (held_in run).answers) (sym kept)
          (subst (λ (x : Held C K). AreKept p.state.kept x.answers) e.held (are-kept outcome p.state.kept held.answers left));
    };
    stops = λ stopped.
        subst (λ cs. FiresAmong (event_lines run) cs port.closures) (sym first)
        (subst (FiresAmong (event_lines run) before.closures) (sym (so_far stopped)) h.fires);
  }

-- ---- the head

fault-at : (why : NoLine) → stop_fault (run_stop_at why) ≡ Some why
fault-at Failed = refl
fault-at Differs = refl
fault-at OutOfMemory = refl

no-end : (why : NoLine) → stop_fault (run_stop_at why) ≡ None → ⊥
no-end Failed e = cc
no-end Differs e = cc
no-end OutOfMemory e = cc

module _ {C K T : Type 0} {k : Keeping T} (run : Turned (Held C K)) (form : ℕ) {before mid : Seen T} {clock : C} {chooser : K} {port : PortThen} where
  pub head-run : {outcome : Result End RunStop} {after : Seen T} → TakesLines k before (Head form ∷ []) None mid → DoesRun k mid (event_lines run) run outcome clock chooser port after
      → DoesRun k before (run_lines form run) run outcome clock chooser port after
  head-run head h = record { lines = Gives-then (event_lines run) head h.lines; ends = h.ends; stops = h.stops }

  -- it was not taken
  pub head-stop : (why : NoLine) → port.closures ≡ port.before → TakesLines k before (Head form ∷ []) (Some why) mid → DoesRun k before (run_lines form run) run (Err (run_stop_at why)) clock chooser port mid
  head-stop why same h = record {
    lines = subst (λ w. TakesLines k before (run_lines form run) w mid) (sym (fault-at why)) (Gives-stop (event_lines run) h);
    ends = λ w. absurd (no-end why w);
    stops = λ w. fires-none (event_lines run) same;
  }

  -- it was taken, and memory was wanting then
  pub head-memory : port.closures ≡ port.before → TakesLines k before (Head form ∷ []) None mid → DoesRun k before (run_lines form run) run (Err stop.OutOfMemory) clock chooser port mid
  head-memory same head = record { lines = Gives-then (event_lines run) head (Gives-memory k mid (event_lines run)); ends = λ w. absurd (cc); stops = λ w. fires-none (event_lines run) same }

-- a line that was not taken is no refusal of clock, chooser or port
pub line-reads : (why : NoLine) (n : ℕ) → n ≡ readings_at n (run_stop_at why)
line-reads Failed n = refl
line-reads Differs n = refl
line-reads OutOfMemory n = refl

pub line-chooses : (why : NoLine) (n : ℕ) → n ≡ choices_at n (run_stop_at why)
line-chooses Failed n = refl
line-chooses Differs n = refl
line-chooses OutOfMemory n = refl

pub line-port : (why : NoLine) (n m : ℕ) → PortAt (run_stop_at why) n m
line-port Failed n m = tt
line-port Differs n m = tt
line-port OutOfMemory n m = tt
