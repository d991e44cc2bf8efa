-- How each part of a turn in code is that part of the model's turn.
use Rattle.std.proofs.Common.{◌≡◌, ℕ, suc, ◌≤◌, ◌+◌, max, true, false, List, [], ◌∷◌, refl, sym, ◌∙◌, ap, subst, Option, Some, None, le-leb, arith}
use Rattle.std.proofs.lemmas.Bool.{lt-leb}
use Rattle.page_types.specs.Events.{Stamped, Wait, EndLine}
use Rattle.page_types.specs.declared.End.TheVariants.{Fuel as FuelEnd, Clock as ClockEnd}
use Rattle.page_types.specs.declared.Source.{Source}
use Rattle.page_parts.specs.Words.{is_empty}
use Rattle.page_parts.specs.WrittenChoices.{Runnable}
use Rattle.lang_meaning.specs.Machine.{Variable, Caller}
use Rattle.lang_meaning.specs.Following.{CallsFollow}
use Rattle.page_model.specs.State.{Page, State, emit}
use Rattle.page_model.specs.State as model
use Rattle.page_model.specs.Additions.{after, TurnAdds}
use Rattle.page_model.specs.Choosing.{Rules, Chosen, chosen_source, chosen_reading}
use Rattle.page_model.specs.View.{view}
use Rattle.page_model.specs.Bounds.{from_step_one_or}
use Rattle.page_model.specs.Turns.{Turned, GoesOn, Ended, Stuck, AtBound, NoReading, NoSource, next_turn, ends, choose_turned, at_time, waited, after_step_one, perform, perform_picked, counted_turn, step_four, with_turn_fuel, step_five, from_step_three}
use Rattle.page_model.proofs.Adding.Turns.{step_five-adds}
use Rattle.trace_text.specs.declared.lines.NoLine.{NoLine}
use Rattle.trace_text.specs.Given.{Keeping, Seen}
use Rattle.page_state.specs.Standing.{Standing, page_of}
use Rattle.page_state.specs.PageActs.{at, on_page, changed_by, Does}
use Rattle.page_host.specs.Turning.{run_ended}
use Rattle.page_state.specs.JobActs.{turn_counted}
use Rattle.loop_turn.specs.Outcomes.{Shown, Outcome, WentOn, Finished, AtReading, AtSource, Reached, Turns}
use Rattle.loop_turn.specs.Waiting.{items_taken, idled, WaitFor, next_in}
use Rattle.loop_turn.specs.RunStops.{stop_fault, stop_outcome}
use Rattle.loop_turn.specs.declared.run_stop.RunStop.{RunStop}
use Rattle.loop_turn.proofs.RunSteps.{Turns-stopped}
use Rattle.loop_turn.proofs.TurnSteps.{Turns-same, Turns-then, Turns-stop, Turns-over, Turns-goes, Turns-stuck}
use Rattle.loop_turn.proofs.PageTurns.{around, port_at, Turns-page, Turns-page_stop, Turns-finish}
use Rattle.loop_turn.proofs.TaskAdds.{perform-adds}
use Rattle.loop_turn.proofs.WaitSteps.{step_one-is, step_five-is, go_next, next-is, after_step_one-adds, from_or-adds}

module _ {C : Type 0} (rules : Rules C) (call : Caller Page) (calls_add : (es : List Stamped) → CallsFollow (after es) call call) (until : ℕ) (globals : List Variable) (fuel : ℕ) where
  -- ---- steps 1 and 2, with so many more waits

  abbrev pub again : ℕ → State → C → Turned C
  again left = from_step_one_or (Stuck AtBound) rules call until left

  again-adds : (left : ℕ) (c : C) (es : List Stamped) → TurnAdds es (λ m. again left m c)
  again-adds left c es = from_or-adds rules call until es (calls_add es) left c

  after-adds : (left : ℕ) (c : C) (es : List Stamped) → TurnAdds es (after_step_one rules call until (again left) c)
  after-adds left c es = after_step_one-adds rules call until es (calls_add es) (again left) (from_or-adds rules call until es (calls_add es) left) c

  module _ (left : ℕ) (s : Standing) (c : C) {T : Type 0} {k : Keeping T} {s' : Standing} {old new : Seen T} where
    -- where taking the items stopped
    pub items-stop : {why : NoLine} (how : Outcome) (state : State) (held : C) → Does k (at s old) (on_page items_taken) (Some why) (at s' new)
        → Turns k (port_at s old) (again (suc left) (around globals fuel s) c) (Some why) how (record { state = state; held = held; shown = port_at s' new })
    items-stop how state held h =
        Turns-same (ap (after_step_one rules call until (again left) c) (step_one-is (around globals fuel s)))
        (Turns-page_stop globals fuel items_taken (after_step_one rules call until (again left) c) (after-adds left c) how state held h)

    -- where they are taken, what comes next
    pub items-then : {why : Option NoLine} {how : Outcome} {reached : Reached C T} → Does k (at s old) (on_page items_taken) None (at s' new)
        → Turns k (port_at s' new) (go_next rules call until (again left) c (next_in until (page_of s')) (around globals fuel s')) why how reached
        → Turns k (port_at s old) (again (suc left) (around globals fuel s) c) why how reached
    items-then h rest =
        Turns-same (ap (after_step_one rules call until (again left) c) (step_one-is (around globals fuel s)))
        (Turns-page globals fuel items_taken (after_step_one rules call until (again left) c) (after-adds left c) h
        (Turns-same (next-is rules call until (again left) c (around globals fuel s')) rest))

    -- where the clock gives a reading
    module _ (t r : ℕ) (d : C) (e : chosen_reading rules t c ≡ Some (record { choice = r; left = d })) where
      pub wait-stop : {why : NoLine} (how : Outcome) (state : State) (held : C) → Does k (at (changed_by (at_time r) s) old) (on_page (emit (Wait t))) (Some why) (at s' new)
          → Turns k (port_at s old) (go_next rules call until (again left) c (WaitFor t) (around globals fuel s)) (Some why) how (record { state = state; held = held; shown = port_at s' new })
      wait-stop how state held h =
          Turns-same (ap (λ r. waited t r (again left) c (around globals fuel s)) e)
          (Turns-page_stop globals fuel (emit (Wait t)) (λ m. again left m d) (again-adds left d) how state held h)

      pub wait-then : {why : Option NoLine} {how : Outcome} {reached : Reached C T} → Does k (at (changed_by (at_time r) s) old) (on_page (emit (Wait t))) None (at s' new)
          → Turns k (port_at s' new) (again left (around globals fuel s') d) why how reached
          → Turns k (port_at s old) (go_next rules call until (again left) c (WaitFor t) (around globals fuel s)) why how reached
      wait-then h rest =
          Turns-same (ap (λ r. waited t r (again left) c (around globals fuel s)) e)
          (Turns-page globals fuel (emit (Wait t)) (λ m. again left m d) (again-adds left d) h rest)

  -- where it refuses
  pub wait-refused : (left : ℕ) (s : Standing) (c : C) {T : Type 0} {k : Keeping T} (t : ℕ) (shown : Shown T) → chosen_reading rules t c ≡ None
      → Turns k shown (go_next rules call until (again left) c (WaitFor t) (around globals fuel s)) None AtReading (record { state = around globals fuel s; held = c; shown = shown })
  wait-refused left s c t shown e = Turns-same (ap (λ r. waited t r (again left) c (around globals fuel s)) e) (Turns-stuck (NoReading t) (around globals fuel s) c shown)

  -- ---- steps 3 and 5

  module _ (s : Standing) (c : C) where
    at-clock : until ≤ (page_of s).now → model.on_page (run_ended until ClockEnd) (around globals fuel s) ≡ model.on_page (emit (EndLine ClockEnd)) (around globals fuel s)
    at-clock le =
        let same : max (page_of s).now until ≡ (page_of s).now = omega arith in
        ap (λ n. model.on_page (λ p. emit (EndLine ClockEnd) (at_time n p)) (around globals fuel s)) same

    three-clock : until ≤ (page_of s).now → from_step_three rules call until c (around globals fuel s) ≡ Ended ClockEnd (model.on_page (run_ended until ClockEnd) (around globals fuel s)) c
    three-clock le =
        let m = around globals fuel s in
        ap (λ b. next_turn (choose_turned b (ends ClockEnd c) (λ m. with_turn_fuel rules call m.fuel m c) m) (λ m c. GoesOn (step_five m) c)) (le-leb until (page_of s).now le)
        ∙ ap (λ n. Ended ClockEnd n c) (sym (at-clock le))

    in-time : suc (page_of s).now ≤ until → from_step_three rules call until c (around globals fuel s) ≡ next_turn (with_turn_fuel rules call fuel (around globals fuel s) c) (λ m c. GoesOn (step_five m) c)
    in-time less =
        let m = around globals fuel s in
        ap (λ b. next_turn (choose_turned b (ends ClockEnd c) (λ m. with_turn_fuel rules call m.fuel m c) m) (λ m c. GoesOn (step_five m) c)) (lt-leb until (page_of s).now less)

  five-adds : (es : List Stamped) (d : C) → TurnAdds es (λ m. GoesOn (step_five m) d)
  five-adds es d m = ap (λ m. GoesOn m d) (step_five-adds es m)

  module _ (s : Standing) (c : C) {T : Type 0} {k : Keeping T} {s' : Standing} {old new : Seen T} where
    -- the time is up
    pub clock-ends : until ≤ (page_of s).now → Does k (at s old) (on_page (run_ended until ClockEnd)) None (at s' new)
        → Turns k (port_at s old) (from_step_three rules call until c (around globals fuel s)) None (Finished ClockEnd) (record { state = around globals fuel s'; held = c; shown = port_at s' new })
    clock-ends le h = Turns-same (three-clock s c le) (Turns-finish globals fuel (run_ended until ClockEnd) ClockEnd c h)

    pub clock-stop : {why : NoLine} (how : Outcome) (state : State) (held : C) → until ≤ (page_of s).now → Does k (at s old) (on_page (run_ended until ClockEnd)) (Some why) (at s' new)
        → Turns k (port_at s old) (from_step_three rules call until c (around globals fuel s)) (Some why) how (record { state = state; held = held; shown = port_at s' new })
    clock-stop how state held le h = Turns-same (three-clock s c le) (Turns-page_stop globals fuel (run_ended until ClockEnd) (λ m. Ended ClockEnd m c) (λ es m. refl) how state held h)

    -- the idle step
    pub idle-done : Does k (at s old) (on_page idled) None (at s' new)
        → Turns k (port_at s old) (GoesOn (step_five (around globals fuel s)) c) None WentOn (record { state = around globals fuel s'; held = c; shown = port_at s' new })
    idle-done h =
        Turns-same (ap (λ m. GoesOn m c) (step_five-is (around globals fuel s)))
        (Turns-page globals fuel idled (λ m. GoesOn m c) (λ es m. refl) h (Turns-goes (around globals fuel s') c (port_at s' new)))

    pub idle-stop : {why : NoLine} (how : Outcome) (state : State) (held : C) → Does k (at s old) (on_page idled) (Some why) (at s' new)
        → Turns k (port_at s old) (GoesOn (step_five (around globals fuel s)) c) (Some why) how (record { state = state; held = held; shown = port_at s' new })
    idle-stop how state held h =
        Turns-same (ap (λ m. GoesOn m c) (step_five-is (around globals fuel s)))
        (Turns-page_stop globals fuel idled (λ m. GoesOn m c) (λ es m. refl) how state held h)

  -- what is left after the task
  module _ (s : Standing) (c : C) (less : suc (page_of s).now ≤ until) {T : Type 0} {k : Keeping T} {old : Shown T} where
    pub task-stop : {why : NoLine} {how : Outcome} (how' : Outcome) {reached : Reached C T} → Turns k old (with_turn_fuel rules call fuel (around globals fuel s) c) (Some why) how reached
        → Turns k old (from_step_three rules call until c (around globals fuel s)) (Some why) how' reached
    task-stop how' h = Turns-same (in-time s c less) (Turns-stop (with_turn_fuel rules call fuel (around globals fuel s) c) (λ m c. GoesOn (step_five m) c) how' five-adds h)

    -- at whatever stop of the run
    pub task-stopped : (e : RunStop) {reached : Reached C T} → Turns k old (with_turn_fuel rules call fuel (around globals fuel s) c) (stop_fault e) (stop_outcome e) reached
        → Turns k old (from_step_three rules call until c (around globals fuel s)) (stop_fault e) (stop_outcome e) reached
    task-stopped e h = Turns-same (in-time s c less) (Turns-stopped e (with_turn_fuel rules call fuel (around globals fuel s) c) (λ m c. GoesOn (step_five m) c) five-adds h)

    pub task-over : {how : Outcome} {reached : Reached C T} → (WentOn ≡ how → ⊥) → Turns k old (with_turn_fuel rules call fuel (around globals fuel s) c) None how reached
        → Turns k old (from_step_three rules call until c (around globals fuel s)) None how reached
    task-over over h = Turns-same (in-time s c less) (Turns-over (with_turn_fuel rules call fuel (around globals fuel s) c) (λ m c. GoesOn (step_five m) c) over h)

    pub task-then : {why : Option NoLine} {how : Outcome} {mid reached : Reached C T} → Turns k old (with_turn_fuel rules call fuel (around globals fuel s) c) None WentOn mid
        → Turns k mid.shown (GoesOn (step_five mid.state) mid.held) why how reached
        → Turns k old (from_step_three rules call until c (around globals fuel s)) why how reached
    task-then h rest = Turns-same (in-time s c less) (Turns-then (with_turn_fuel rules call fuel (around globals fuel s) c) (λ m c. GoesOn (step_five m) c) five-adds h rest)

-- ---- step 4

no-view : (rs : List Runnable) → is_empty rs ≡ true → rs ≡ []
no-view [] e = refl
no-view (r ∷ rs) e = absurd (cc)

module _ {C : Type 0} (rules : Rules C) (call : Caller Page) (calls_add : (es : List Stamped) → CallsFollow (after es) call call) (globals : List Variable) (left : ℕ) (s : Standing) (c : C) where
  -- so much fuel is left then
  abbrev pub fueled : State
  fueled = around globals (suc left) s

  picked-is : (rs : List Runnable) (m : State) → is_empty rs ≡ false → step_four rules call rs m c ≡ perform_picked rules call (chosen_source rules rs c) m c
  picked-is [] m e = absurd (cc)
  picked-is (r ∷ rs) m e = refl

  four-is : (rs : List Runnable) → view (page_of s) ≡ rs → with_turn_fuel rules call (suc left) fueled c ≡ step_four rules call rs (counted_turn left fueled) c
  four-is rs e = ap (λ rs. step_four rules call rs (counted_turn left fueled) c) e

  picked : (o : Option (Chosen Source C)) → is_empty (view (page_of s)) ≡ false → chosen_source rules (view (page_of s)) c ≡ o
      → with_turn_fuel rules call (suc left) fueled c ≡ perform_picked rules call o (counted_turn left fueled) c
  picked o e is = picked-is (view (page_of s)) (counted_turn left fueled) e ∙ ap (λ o. perform_picked rules call o (counted_turn left fueled) c) is

  performing-adds : (source : Source) (d : C) (es : List Stamped) → TurnAdds es (λ m. perform rules call source m d)
  performing-adds source d es = perform-adds es rules call (calls_add es) source d

  -- nothing is runnable
  module _ (e : is_empty (view (page_of s)) ≡ true) {T : Type 0} {k : Keeping T} {s' : Standing} {old new : Seen T} where
    pub none-begins : Does k (at s old) (on_page (turn_counted None)) None (at s' new)
        → Turns k (port_at s old) (with_turn_fuel rules call (suc left) fueled c) None WentOn (record { state = around globals left s'; held = c; shown = port_at s' new })
    none-begins h =
        Turns-same (four-is [] (no-view (view (page_of s)) e))
        (Turns-page globals left (turn_counted None) (λ m. GoesOn m c) (λ es m. refl) h (Turns-goes (around globals left s') c (port_at s' new)))

    pub none-stop : {why : NoLine} (how : Outcome) (state : State) (held : C) → Does k (at s old) (on_page (turn_counted None)) (Some why) (at s' new)
        → Turns k (port_at s old) (with_turn_fuel rules call (suc left) fueled c) (Some why) how (record { state = state; held = held; shown = port_at s' new })
    none-stop how state held h =
        Turns-same (four-is [] (no-view (view (page_of s)) e))
        (Turns-page_stop globals left (turn_counted None) (λ m. GoesOn m c) (λ es m. refl) how state held h)

  -- something is, and the chooser refuses
  pub pick-refused : {T : Type 0} {k : Keeping T} (e : is_empty (view (page_of s)) ≡ false) (shown : Shown T) → chosen_source rules (view (page_of s)) c ≡ None
      → Turns k shown (with_turn_fuel rules call (suc left) fueled c) None AtSource (record { state = fueled; held = c; shown = shown })
  pick-refused {k = k} e shown is =
      let stuck = Turns-stuck {k = k} NoSource (counted_turn left fueled) c shown in
      Turns-same (picked None e is)
      (record { lines = stuck.lines; ends = λ w. record { outcome = refl; state = λ un. absurd un; hosts = refl; held = refl }; fires = stuck.fires })

  -- or it chooses a source
  module _ (e : is_empty (view (page_of s)) ≡ false) (source : Source) (d : C) (is : chosen_source rules (view (page_of s)) c ≡ Some (record { choice = source; left = d }))
      {T : Type 0} {k : Keeping T} {s' : Standing} {old new : Seen T} where
    pub pick-stop : {why : NoLine} (how : Outcome) (state : State) (held : C) → Does k (at s old) (on_page (turn_counted (Some source))) (Some why) (at s' new)
        → Turns k (port_at s old) (with_turn_fuel rules call (suc left) fueled c) (Some why) how (record { state = state; held = held; shown = port_at s' new })
    pick-stop how state held h =
        Turns-same (picked (Some (record { choice = source; left = d })) e is)
        (Turns-page_stop globals left (turn_counted (Some source)) (λ m. perform rules call source m d) (performing-adds source d) how state held h)

    pub pick-then : {why : Option NoLine} {how : Outcome} {reached : Reached C T} → Does k (at s old) (on_page (turn_counted (Some source))) None (at s' new)
        → Turns k (port_at s' new) (perform rules call source (around globals left s') d) why how reached
        → Turns k (port_at s old) (with_turn_fuel rules call (suc left) fueled c) why how reached
    pick-then h rest =
        Turns-same (picked (Some (record { choice = source; left = d })) e is)
        (Turns-page globals left (turn_counted (Some source)) (λ m. perform rules call source m d) (performing-adds source d) h rest)

-- so much fuel, in other words
pub with-fuel : {C T : Type 0} {k : Keeping T} (rules : Rules C) (call : Caller Page) (globals : List Variable) (s : Standing) (c : C) {old : Shown T} {why : Option NoLine} {how : Outcome} {reached : Reached C T}
    (n left : ℕ) → left + 1 ≡ n → Turns k old (with_turn_fuel rules call (suc left) (around globals (suc left) s) c) why how reached
    → Turns k old (with_turn_fuel rules call n (around globals n s) c) why how reached
with-fuel {k = k} rules call globals s c {old = old} {why = why} {how = how} {reached = reached} n left e h =
    let P : ℕ → Type 0 = λ n. Turns k old (with_turn_fuel rules call n (around globals n s) c) why how reached in
    let same : suc left ≡ n = omega (arith, e) in
    subst P same h

-- no fuel is left
dry-is : {C : Type 0} (rules : Rules C) (call : Caller Page) (globals : List Variable) (s : Standing) (c : C) (n until : ℕ) → n ≡ 0 → with_turn_fuel rules call n (around globals n s) c ≡ Ended FuelEnd (model.on_page (run_ended until FuelEnd) (around globals n s)) c
dry-is rules call globals s c n until e =
    let P : ℕ → Type 0 = λ n. with_turn_fuel rules call n (around globals n s) c ≡ Ended FuelEnd (model.on_page (run_ended until FuelEnd) (around globals n s)) c in
    subst P (sym e) refl

module _ {C : Type 0} (rules : Rules C) (call : Caller Page) (globals : List Variable) (s : Standing) (c : C) {T : Type 0} {k : Keeping T} {s' : Standing} {old new : Seen T} where
  pub dry-ends : (n until : ℕ) → n ≡ 0 → Does k (at s old) (on_page (run_ended until FuelEnd)) None (at s' new)
      → Turns k (port_at s old) (with_turn_fuel rules call n (around globals n s) c) None (Finished FuelEnd) (record { state = around globals n s'; held = c; shown = port_at s' new })
  dry-ends n until e h = Turns-same (dry-is rules call globals s c n until e) (Turns-finish globals n (run_ended until FuelEnd) FuelEnd c h)

  pub dry-stop : {why : NoLine} (n until : ℕ) (how : Outcome) (state : State) (held : C) → n ≡ 0 → Does k (at s old) (on_page (run_ended until FuelEnd)) (Some why) (at s' new)
      → Turns k (port_at s old) (with_turn_fuel rules call n (around globals n s) c) (Some why) how (record { state = state; held = held; shown = port_at s' new })
  dry-stop n until how state held e h = Turns-same (dry-is rules call globals s c n until e) (Turns-page_stop globals n (run_ended until FuelEnd) (λ m. Ended FuelEnd m c) (λ es m. refl) how state held h)
