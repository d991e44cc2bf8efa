-- How a call of the script machine around a page ended, as a step of the model's page.
use Rattle.std.proofs.Common.{◌≡◌, ℕ, ◌≤◌, List, [], ◌∷◌, map, Vec, Option, Some, None, unwrap_or, Ok, refl, sym, ap, ◌∙◌, subst, arith}
use Rattle.std.specs.declared.alloc.Global.{Global}
use Rattle.page_types.specs.Values.{Value}
use Rattle.page_values.specs.declared.Value as held
use Rattle.page_values.specs.declared.Func.{Func}
use Rattle.page_values.specs.Seen.{seen as value_seen}
use Rattle.lang_meaning.specs.Machine.{Machine, Done, Gives, Throws, Returns, OutOfFuel, hosted, done_hosted}
use Rattle.lang_meaning.specs.Evaluation.{call_from_outside}
use Rattle.lang_meaning.specs.HostSteps.{Ask, AskOp, AskResume, on_ask, host_operations}
use Rattle.lang_meaning.specs.Asks.{IsPassed, unasked, after_ask, IsRefused, host_after}
use Rattle.page_interp.specs.MachineNow.{MachineNow, program_in}
use Rattle.page_interp.specs.Machines as machines
use Rattle.page_interp.specs.Runs.{Is, IsDry, count_of_functions}
use Rattle.lang_ast.specs.SeenProgram.{seen_program}
use Rattle.page_interp.specs.Machines.{machine_with, bound_args, ran_left, call_does, call_asks}
use Rattle.page_interp.specs.declared.machine.Ran.{Ran}
use Rattle.page_interp.specs.declared.machine.Ran.TheVariants as ran
use Rattle.page_model.specs.State.{Page, State}
use Rattle.page_model.specs.Folds.{Fold}
use Rattle.page_model.specs.FoldBounds.{IsBounded}
use Rattle.page_model.specs.PageHost.{Hosting, with_folds, page_rules}
use Rattle.page_model.proofs.Stepping.Hosting.{calls-follow-by-steps}
use Rattle.page_signals.specs.Signalling.{Open}
use Rattle.page_signals.specs.Laws.{as_fold}
use Rattle.trace_text.specs.declared.lines.NoLine.{NoLine}
use Rattle.trace_text.specs.declared.lines.NoLine.TheVariants.{Failed, Differs, OutOfMemory}
use Rattle.trace_text.specs.Line.{Line}
use Rattle.trace_text.specs.Given.{Keeping, Seen}
use Rattle.page_script.specs.PageActs.{lines_of}
use Rattle.page_rules.specs.Lined.{Lined, lined, lined_rules}
use Rattle.page_rules.specs.Ends.{EndsLined}
use Rattle.page_rules.proofs.Ending.{call-lined}
use Rattle.page_rules.proofs.Stopping.{refused-among, passed-among}
use Rattle.page_state.specs.Standing.{page_of, port_of}
use Rattle.page_host.specs.Marked.{Mark, Marked, marked_rules, LeavesMarked, IsSince}
use Rattle.page_host.specs.PageNow.{PageNow, told_at, mark_of, host_now, room_of, stop_of}
use Rattle.page_host.specs.Pieces.{WantsMemory}
use Rattle.page_host.specs.StateActs.{How, Gave, Threw, RanOut, events_after, Steps, Unharmed, Harmed}
use Rattle.page_host.specs.Moments.{state_of, moment, calling, how_of, CanCall}
use Rattle.page_host.specs.Stops.{line_fault}
use Rattle.page_host.specs.Doing.{IsOn, Runs}
use Rattle.page_host.proofs.Composing.{Steps-fault}
use Rattle.page_host.proofs.Called.{Ended, ended-gives, ended-throws, ended-out, whole-is, Steps-ended, Steps-stopped}
use Rattle.page_host.proofs.Marked.{with_mark, calls-marked, lined-end, marked-end, refused-too, passed-too, unstopped, lined_asks}

-- ---- what an end tells of the page

module _ {T : Type 0} (k : Keeping T) (told : Option T) (stopped : Option NoLine) (folds : List Fold) where
  ends-stopped : (d : Done Page) (x : Done (Lined T)) → EndsLined k told stopped folds d x → (host_after x).stopped ≡ stopped
  ends-stopped (Gives v m) x e = ap (λ (y : Done (Lined T)). (host_after y).stopped) e
  ends-stopped (Throws v m) x e = ap (λ (y : Done (Lined T)). (host_after y).stopped) e
  ends-stopped (Returns v m) x e = ap (λ (y : Done (Lined T)). (host_after y).stopped) e
  ends-stopped (OutOfFuel m) x e = ap (λ (y : Done (Lined T)). (host_after y).stopped) e.1

  folds-given : (v : Value) (m : Machine (Lined T)) (d : Done Page) → EndsLined k told stopped folds d (Gives v m) → m.host.hosting.folds ≡ folds
  folds-given v m (Gives w n) e = ap (λ (y : Done (Lined T)). (host_after y).hosting.folds) e
  folds-given v m (Throws w n) e = ap (λ (y : Done (Lined T)). (host_after y).hosting.folds) e
  folds-given v m (Returns w n) e = ap (λ (y : Done (Lined T)). (host_after y).hosting.folds) e
  folds-given v m (OutOfFuel n) e = absurd (let h = e.1 in cc)

  folds-thrown : (v : Value) (m : Machine (Lined T)) (d : Done Page) → EndsLined k told stopped folds d (Throws v m) → m.host.hosting.folds ≡ folds
  folds-thrown v m (Gives w n) e = ap (λ (y : Done (Lined T)). (host_after y).hosting.folds) e
  folds-thrown v m (Throws w n) e = ap (λ (y : Done (Lined T)). (host_after y).hosting.folds) e
  folds-thrown v m (Returns w n) e = ap (λ (y : Done (Lined T)). (host_after y).hosting.folds) e
  folds-thrown v m (OutOfFuel n) e = absurd (let h = e.1 in cc)

no-folds : (os : List Open) → map as_fold os ≡ [] → os ≡ []
no-folds [] e = refl
no-folds (o ∷ os) e = absurd (cc)

-- ---- the counts of the lines

unharmed : {T : Type 0} (before : Seen T) (stopped : Option NoLine) (now : Seen T) → IsSince before stopped now → stopped ≡ None → Unharmed before now
unharmed before None now h e = record { is_told = h.is_told refl; later = h.later; refusals = h.refusals }
unharmed before (Some why) now h e = absurd (cc)

harmed : {T : Type 0} (before : Seen T) (stopped : Option NoLine) (now : Seen T) (why : NoLine) → IsSince before stopped now → stopped ≡ Some why → Harmed why before now
harmed before stopped now why h e =
    let s = subst (λ o. IsSince before o now) e h in
    record { later = s.later; failed = s.failed; refusals = s.refusals }

wanting : {T : Type 0} (before now : Seen T) → Unharmed before now → Harmed OutOfMemory before now
wanting before now u = record { later = u.later; failed = λ e. absurd (cc); refusals = u.refusals }

-- ---- why a page stopped

pub fault-of : (why : NoLine) → line_fault (stop_of why) ≡ Some why
fault-of Failed = refl
fault-of Differs = refl
fault-of OutOfMemory = refl

-- ---- a call

module _ {L T : Type 0} (k : Keeping T) (seen : L → Seen T) (m : MachineNow) (p : PageNow L) (fun : Func) (args : Vec held.Value Global)
    (ready : CanCall m p) (since : seen p.since ≡ seen p.lines) (bounded : IsBounded (page_of p.state)) where
  abbrev told : Option T
  told = (seen p.lines).told

  abbrev now : Lined T
  now = told_at p.state told p.stopped

  -- the page with no open fold
  abbrev at_rest : Hosting
  at_rest = with_folds [] (page_of p.state)

  start : now ≡ lined k told None at_rest
  start =
      ap {A = List Open} {B = Lined T} (λ os. record { hosting = with_folds (map as_fold os) (page_of p.state); told = told; stopped = p.stopped }) ready.at_rest
      ∙ ap {A = Option NoLine} {B = Lined T} (λ s. record { hosting = at_rest; told = told; stopped = s }) ready.running

  -- what the model does, and what is done around the page that hands its lines on
  abbrev model : State → Done Page
  model = calling m fun.function (bound_args fun args)

  abbrev handed_from : Lined T → Done (Lined T)
  handed_from l = call_from_outside (program_in m) (host_operations (lined_rules k)) fun.function (bound_args fun args) (machine_with m.globals p.fuel l)

  ends : EndsLined k told None [] (model (state_of m p)) (handed_from now)
  ends =
      subst (λ (l : Lined T). EndsLined k told None [] (model (state_of m p)) (handed_from l)) (sym start)
      (call-lined k told None (program_in m) [] fun.function (bound_args fun args) (state_of m p) bounded)

  abbrev mark : Mark T
  mark = mark_of seen p

  abbrev does : Done (Marked T)
  does = call_does (marked_rules k) (program_in m) fun args (machines.state_of m p.fuel (host_now seen p))

  around : does ≡ done_hosted (with_mark k mark (port_of p.state)) (handed_from now)
  around = calls-marked k mark (port_of p.state) (program_in m) fun.function (bound_args fun args) (machine_with m.globals p.fuel now)

  -- ---- an end

  -- what is known where the call ended so
  pub record IsLeft (how : How) (m' : MachineNow) (fuel : ℕ) (p' : PageNow L) : Type 0 where
    pub steps : Steps k (moment seen m p) model None how (moment seen m' (record p' { fuel = fuel }))
    pub running : p'.stopped ≡ None
    pub until : p'.until ≡ p.until
    pub port : port_of p'.state ≡ port_of p.state

  module _ (m' : MachineNow) (fuel : ℕ) (p' : PageNow L) (counts : IsSince (seen p'.since) p'.stopped (seen p'.lines)) where
    abbrev left : Machine (Marked T)
    left = machines.state_of m' fuel (host_now seen p')

    abbrev left_lined : Machine (Lined T)
    left_lined = machine_with m'.globals fuel (told_at p'.state (seen p'.lines).told p'.stopped)

    counts-of : mark_of seen p' ≡ mark → IsSince (seen p.lines) p'.stopped (seen p'.lines)
    counts-of e = subst (λ (s : Seen T). IsSince s p'.stopped (seen p'.lines)) (ap (λ (x : Mark T). x.since) e ∙ since) counts

    left-so : (how : How) (x : Done (Marked T)) → does ≡ x → host_after x ≡ left.host
        → Ended k told None [] (model (state_of m p)) how left_lined → IsLeft how m' fuel p'
    left-so how x e at ended =
        let same = sym at ∙ marked-end k mark (port_of p.state) (handed_from now) x (sym e ∙ around) in
        let running : p'.stopped ≡ None = ap (λ (y : Marked T). y.lined.stopped) same ∙ ends-stopped k told None [] (model (state_of m p)) (handed_from now) ends in
        record {
          steps = Steps-ended None [] model (moment seen m p) how left_lined (seen p'.lines) ended refl
              (unharmed (seen p.lines) p'.stopped (seen p'.lines) (counts-of (ap (λ (y : Marked T). y.mark) same)) running);
          running = running;
          until = ap (λ (y : Marked T). y.mark.until) same;
          port = ap (λ (y : Marked T). y.port) same;
        }

    lined-so : (x : Done (Marked T)) → does ≡ x → EndsLined k told None [] (model (state_of m p)) (done_hosted (λ (y : Marked T). y.lined) x)
    lined-so x e =
        subst (λ (d : Done (Lined T)). EndsLined k told None [] (model (state_of m p)) d)
        (lined-end k mark (port_of p.state) (handed_from now) x (sym e ∙ around)) ends

    pub given-left : (v : Value) → does ≡ Gives v left → IsLeft (Gave v) m' fuel p'
    given-left v e = left-so (Gave v) (Gives v left) e refl (ended-gives k told None [] v left_lined (model (state_of m p)) (lined-so (Gives v left) e))

    pub thrown-left : (v : Value) → does ≡ Throws v left → IsLeft (Threw v) m' fuel p'
    thrown-left v e = left-so (Threw v) (Throws v left) e refl (ended-throws k told None [] v left_lined (model (state_of m p)) (lined-so (Throws v left) e))

    pub ran-out-left : does ≡ OutOfFuel left → IsLeft RanOut m' fuel p'
    ran-out-left e = left-so RanOut (OutOfFuel left) e refl (ended-out k told None [] left_lined (model (state_of m p)) (lined-so (OutOfFuel left) e))

    pub given-rests : (v : Value) → does ≡ Gives v left → p'.state.folds ≡ []
    given-rests v e = no-folds p'.state.folds (folds-given k told None [] v left_lined (model (state_of m p)) (lined-so (Gives v left) e))

    pub thrown-rests : (v : Value) → does ≡ Throws v left → p'.state.folds ≡ []
    thrown-rests v e = no-folds p'.state.folds (folds-thrown k told None [] v left_lined (model (state_of m p)) (lined-so (Throws v left) e))

    -- ---- a stop

    abbrev hosting : Machine Hosting
    hosting = machine_with m.globals p.fuel at_rest

    abbrev asks_from : Lined T → Machine (Marked T)
    asks_from l = machine_with m.globals p.fuel (with_mark k mark (port_of p.state) l)

    abbrev whole : List Line
    whole = lines_of (host_after (call_from_outside (program_in m) (host_operations page_rules) fun.function (bound_args fun args) hosting)).page.events

    whole-of : whole ≡ lines_of (events_after (model (state_of m p)))
    whole-of =
        ap lines_of
        (whole-is [] (model (state_of m p)) (call_from_outside (program_in m) (host_operations page_rules) fun.function (bound_args fun args) hosting)
        (calls-follow-by-steps (program_in m) 256 [] fun.function (bound_args fun args) (state_of m p) bounded).0.1)

    -- the host refused
    pub record IsHalted : Type 0 where
      pub why : NoLine
      pub stopped : p'.stopped ≡ Some why
      pub port : port_of p'.state ≡ port_of p.state
      pub steps : Steps k (moment seen m p) model (Some why) RanOut (moment seen m' (record p' { fuel = fuel }))

    pub refused-left : IsRefused (LeavesMarked k) (call_asks (marked_rules k) (program_in m) fun args) (asks_from now) left.host → IsHalted
    refused-left r =
        let r' = subst (λ (l : Lined T). IsRefused (LeavesMarked k) (call_asks (marked_rules k) (program_in m) fun args) (asks_from l) left.host) start r in
        let h = refused-too k told mark (port_of p.state) (program_in m) fun.function (bound_args fun args) hosting left.host r' in
        let w = refused-among k told None (program_in m) fun.function (bound_args fun args) hosting left.host.lined h.lined in
        let counted = harmed (seen p.lines) p'.stopped (seen p'.lines) w.why (counts-of h.mark_is) w.stopped in
        record {
          why = w.why;
          stopped = w.stopped;
          port = h.port_is;
          steps = Steps-stopped model (moment seen m p) w.why RanOut (moment seen m' (record p' { fuel = fuel })) whole whole-of w.among counted;
        }

    stays : (ask : Ask) (l : Lined T) → (on_ask (lined_rules k) ask l).host.stopped ≡ l.stopped
    stays (AskOp op args) l = refl
    stays (AskResume ticket end) l = refl

    passed-running : (l : Lined T) → IsPassed (lined_rules k) (lined_asks k mark (port_of p.state) (program_in m) fun.function (bound_args fun args) (hosted (lined k told None) hosting)) (hosted (lined k told None) hosting) l → l.stopped ≡ None
    passed-running l (unasked e) = ap (λ (x : Lined T). x.stopped) e
    passed-running l (after_ask n ask before r e) =
        ap (λ (x : Lined T). x.stopped) e
        ∙ (stays ask before ∙ unstopped k told mark (port_of p.state) (program_in m) fun.function (bound_args fun args) hosting n ask before r)

    -- memory was wanting
    pub record IsWanting : Type 0 where
      pub steps : Steps k (moment seen m p) model (Some OutOfMemory) RanOut (moment seen m' (record p' { fuel = fuel }))
      pub running : p'.stopped ≡ None
      pub port : port_of p'.state ≡ port_of p.state

    pub wanting-left : IsPassed (marked_rules k) (call_asks (marked_rules k) (program_in m) fun args) (asks_from now) left.host → IsWanting
    wanting-left r =
        let r' = subst (λ (l : Lined T). IsPassed (marked_rules k) (call_asks (marked_rules k) (program_in m) fun args) (asks_from l) left.host) start r in
        let h = passed-too k mark (port_of p.state) (program_in m) fun.function (bound_args fun args) (hosted (lined k told None) hosting) left.host r' in
        let among = passed-among k told None (program_in m) fun.function (bound_args fun args) hosting left.host.lined h.lined refl in
        let running = passed-running left.host.lined h.lined in
        let counted = wanting (seen p.lines) (seen p'.lines) (unharmed (seen p.lines) p'.stopped (seen p'.lines) (counts-of h.mark_is) running) in
        record {
          steps = Steps-stopped model (moment seen m p) OutOfMemory RanOut (moment seen m' (record p' { fuel = fuel })) whole whole-of among counted;
          running = running;
          port = h.port_is;
        }

    -- ---- as runs of the page

    module _ (script : m'.script ≡ m.script) (less : fuel ≤ p.fuel) where
      pub left-runs : (how : How) → IsLeft how m' fuel p' → (IsOn how → p'.state.folds ≡ []) → p'.functions ≡ p.functions → fuel ≤ room_of p'.stopped p'.state.script.now → (how ≡ RanOut → fuel ≡ 0)
          → Runs k seen (λ call. call fun.function (bound_args fun args)) None how m p m' (record p' { fuel = fuel })
      left-runs how l rests functions room dry = record {
        steps = l.steps;
        ready = λ w on. record {
          running = l.running;
          at_rest = rests on;
          functions = ap (λ s. count_of_functions (seen_program s)) script ∙ (ready.functions ∙ sym functions);
          room = subst (λ (o : Option NoLine). fuel ≤ room_of o p'.state.script.now) l.running room;
        };
        port = λ w. record { functions = functions; until = l.until; port = l.port };
        left = l.port;
        stopped = l.running;
        program = script;
        fuel = less;
        dry = λ w e. dry e;
      }

      pub halted-runs : (why : NoLine) (how : How) → why ≡ unwrap_or p'.stopped OutOfMemory → IsHalted
          → Runs k seen (λ call. call fun.function (bound_args fun args)) (Some why) how m p m' (record p' { fuel = fuel })
      halted-runs why how is h =
          let same : h.why ≡ why = sym (is ∙ ap (λ (o : Option NoLine). unwrap_or o OutOfMemory) h.stopped) in
          record {
            steps = Steps-fault how (state_of m' (record p' { fuel = fuel })) (subst (λ (w : NoLine). Steps k (moment seen m p) model (Some w) RanOut (moment seen m' (record p' { fuel = fuel }))) same h.steps);
            ready = λ w o. absurd (cc);
            port = λ w. absurd (cc);
            left = h.port;
            stopped = h.stopped ∙ ap {A = NoLine} Some same;
            program = script;
            fuel = less;
            dry = λ w e. absurd (cc);
          }

      pub wanting-runs : (why : NoLine) (how : How) {p3 : PageNow L} → why ≡ OutOfMemory → IsWanting → WantsMemory (record p' { fuel = fuel }) p3
          → Runs k seen (λ call. call fun.function (bound_args fun args)) (Some why) how m p m' p3
      wanting-runs why how {p3 = p3} is h w =
          let lines : p'.lines ≡ p3.lines = sym (ap (λ (x : PageNow L). x.lines) w.rest) in
          let steps = Steps-fault how (state_of m' p3) h.steps in
          record {
            steps = subst (λ (w : NoLine). Steps k (moment seen m p) model (Some w) how (moment seen m' p3)) (sym is)
                (subst (λ (l : L). Steps k (moment seen m p) model (Some OutOfMemory) how (record { state = state_of m' p3; seen = seen l })) lines steps);
            ready = λ w o. absurd (cc);
            port = λ w. absurd (cc);
            left = ap (λ (x : PageNow L). port_of x.state) w.rest ∙ h.port;
            stopped = w.stopped ∙ ap {A = NoLine} Some (sym is);
            program = script;
            fuel = let e = ap (λ (x : PageNow L). x.fuel) w.rest in omega (arith, e, less);
            dry = λ w e. absurd (cc);
          }

      pub ran-runs : (S : Type 0) (r : Ran) → Is does (ran_left {S = S} (Ok r)) left → IsDry (ran_left {S = S} (Ok r)) fuel → p'.functions ≡ p.functions → fuel ≤ room_of p'.stopped p'.state.script.now
          → Runs k seen (λ call. call fun.function (bound_args fun args)) None (how_of {E = NoLine} (Ok r)) m p m' (record p' { fuel = fuel })
      ran-runs S (ran.Value v) e dry functions room = left-runs (Gave (value_seen v)) (given-left (value_seen v) e) (λ on. given-rests (value_seen v) e) functions room (λ h. absurd (cc))
      ran-runs S (ran.Throw v) e dry functions room = left-runs (Threw (value_seen v)) (thrown-left (value_seen v) e) (λ on. thrown-rests (value_seen v) e) functions room (λ h. absurd (cc))
      ran-runs S ran.Fuel e dry functions room = left-runs RanOut (ran-out-left e) (λ on. absurd on) functions room (λ h. dry)
