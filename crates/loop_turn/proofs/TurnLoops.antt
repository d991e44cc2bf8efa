-- How the loops of a run go on and are left.
use Rattle.std.specs.Prelude.{ℤ, Result, Ok, Err}
use Rattle.std.specs.Result.{IsErrAnd}
use Rattle.std.proofs.Common.{◌≡◌, ◌≤◌, ◌<◌, ◌+◌, ◌-◌, ℕ, suc, List, Option, Some, None, refl, sym, ap, subst, arith}
use Rattle.page_types.specs.declared.End.{End}
use Rattle.page_types.specs.Events.{Stamped, Wait}
use Rattle.lang_meaning.specs.Machine.{Variable, Caller}
use Rattle.lang_meaning.specs.Following.{CallsFollow}
use Rattle.page_model.specs.State.{Page, State, emit}
use Rattle.page_model.specs.Additions.{after}
use Rattle.page_model.specs.Choosing.{Rules, chosen_reading}
use Rattle.page_model.specs.Parallel.{item_count}
use Rattle.page_model.specs.Bounds.{from_step_one_or, turn_or, row_of}
use Rattle.page_model.specs.Turns.{Turned, Ended, Stuck, AtBound, at_time, with_turn_fuel, from_step_three}
use Rattle.trace_text.specs.declared.lines.NoLine.{NoLine}
use Rattle.trace_text.specs.declared.lines.NoLine.TheVariants.{OutOfMemory}
use Rattle.trace_text.specs.Given.{Keeping, Seen}
use Rattle.page_state.specs.Standing.{Standing, page_of}
use Rattle.page_state.specs.PageActs.{at, on_page, changed_by, Does}
use Rattle.page_host.specs.Turning.{run_ended}
use Rattle.loop_turn.specs.Outcomes.{Shown, Outcome, WentOn, Finished, AtReading, Reached, Turns}
use Rattle.loop_turn.specs.Waiting.{items_taken, Next, Serve, EndRun, WaitFor, next_in}
use Rattle.loop_turn.specs.RunStops.{stop_fault, stop_outcome, line_fault, turn_outcome, run_outcome}
use Rattle.loop_turn.specs.Answers.{AreKept, ByAnswers}
use Rattle.loop_turn.specs.declared.run_stop.RunStop.{RunStop}
use Rattle.loop_turn.proofs.TurnSteps.{Turns-same}
use Rattle.loop_turn.proofs.PageTurns.{around, port_at, Turns-page_stop, Turns-finish}
use Rattle.loop_turn.proofs.WaitSteps.{go_next}
use Rattle.loop_turn.proofs.RunSteps.{some-kept, are-kept, Turns-memory, row-then, row-ended, row-stopped}
use Rattle.loop_turn.proofs.LoopSteps.{task-stopped, again, items-stop, items-then, wait-refused, wait-stop, wait-then}
use Rattle.loop_turn.proofs.NextSteps.{wait-ahead}
use Rattle.loop_turn.proofs.Loops.{WaitsOn, TurnsOn}

-- ---- a turn that stopped

module _ {C T : Type 0} {k : Keeping T} {start : Shown T} (told told' : Option (List (Result ℤ ℤ))) (all : List (Result ℤ ℤ) → Turned C) (reach : List (Result ℤ ℤ) → Reached C T) where
  -- for its lines, or for want of memory: nothing is said of the answers
  pub turn-fault : (r : Result (Option End) RunStop) (why : RunStop) → IsErrAnd r (λ e. e ≡ why)
      → ((first left : List (Result ℤ ℤ)) → Turns k start (all first) (stop_fault why) (stop_outcome why) (reach left))
      → ByAnswers told r told' (λ first left. Turns k start (all first) (line_fault r) (turn_outcome r) (reach left))
  turn-fault (Ok x) why is h = absurd is
  turn-fault (Err e) why is h = λ left may.
      let some = some-kept told in
      let P : RunStop → Type 0 = λ w. Turns k start (all some.0) (stop_fault w) (stop_outcome w) (reach left) in
      (some.0, some.1, subst P (sym is) (h some.0 left))

  -- with no closure fired
  pub turn-kept : (r : Result (Option End) RunStop) (why : RunStop) → IsErrAnd r (λ e. e ≡ why) → told' ≡ told
      → ((answers : List (Result ℤ ℤ)) → Turns k start (all answers) (stop_fault why) (stop_outcome why) (reach answers))
      → ByAnswers told r told' (λ first left. Turns k start (all first) (line_fault r) (turn_outcome r) (reach left))
  turn-kept (Ok x) why is same h = absurd is
  turn-kept (Err e) why is same h = λ left may.
      let P : RunStop → Type 0 = λ w. Turns k start (all left) (stop_fault w) (stop_outcome w) (reach left) in
      (left, subst (λ o. AreKept o left) same (are-kept {X = Option End} (Err e) told' left may), subst P (sym is) (h left))

-- ---- the rest of a turn, where performing its task stopped

pub serve-exit : {C T : Type 0} {k : Keeping T} (rules : Rules C) (call : Caller Page) (adds : (es : List Stamped) → CallsFollow (after es) call call) (until : ℕ) (globals : List Variable) (fuel : ℕ) (s : Standing)
    → suc (page_of s).now ≤ until → (told told' : Option (List (Result ℤ ℤ))) (hold : List (Result ℤ ℤ) → C) (reach : List (Result ℤ ℤ) → Reached C T) {old : Shown T}
    (r : Result (Option End) RunStop) (why : RunStop) → IsErrAnd r (λ e. e ≡ why)
    → ByAnswers {X = Option End} told (Err why) told' (λ first left. Turns k old (with_turn_fuel rules call fuel (around globals fuel s) (hold first)) (stop_fault why) (stop_outcome why) (reach left))
    → ByAnswers told r told' (λ first left. Turns k old (from_step_three rules call until (hold first) (around globals fuel s)) (line_fault r) (turn_outcome r) (reach left))
serve-exit rules call adds until globals fuel s less told told' hold reach (Ok x) why is does = absurd is
serve-exit {k = k} rules call adds until globals fuel s less told told' hold reach {old = old} (Err e) why is does =
    let P : RunStop → Type 0 = λ w. ByAnswers {X = Option End} told (Err w) told' (λ first left. Turns k old (with_turn_fuel rules call fuel (around globals fuel s) (hold first)) (stop_fault w) (stop_outcome w) (reach left)) in
    λ left h. let x = subst P (sym is) does left h in
    (x.0, x.1, task-stopped rules call adds until globals fuel s (hold x.0) less e x.2)

-- ---- the waits of a turn

module _ {C A T : Type 0} {k : Keeping T} (rules : Rules C) (call : Caller Page) (adds : (es : List Stamped) → CallsFollow (after es) call call) (until : ℕ)
    {hold hold' : A → C} {start : Shown T} {first : State} {here : Seen T} (globals : List Variable) (fuel : ℕ) (s : Standing)
    (on : WaitsOn k rules call until hold hold' start first (port_at s here) s.script.now (around globals fuel s)) where
  -- the whole turn
  abbrev pub all : A → Turned C
  all answers = turn_or (Stuck AtBound) until rules call until first (hold answers)

  pub stop-items : (answers : A) {s' : Standing} {new : Seen T} {why : NoLine} (how : Outcome) (state : State) (held : C) → Does k (at s here) (on_page items_taken) (Some why) (at s' new)
      → Turns k start (all answers) (Some why) how (record { state = state; held = held; shown = port_at s' new })
  stop-items answers how state held h = on.leads answers _ _ _ (items-stop rules call adds until globals fuel on.left s (hold' answers) how state held h)

  -- the items are taken
  module _ (t : Standing) (mid : Seen T) (taken : Does k (at s here) (on_page items_taken) None (at t mid)) where
    goes : (answers : A) (next : Next) {why : Option NoLine} {how : Outcome} {reached : Reached C T} → next ≡ next_in until (page_of t)
        → Turns k (port_at t mid) (go_next rules call until (again rules call adds until globals fuel on.left) (hold' answers) next (around globals fuel t)) why how reached
        → Turns k start (all answers) why how reached
    goes answers next e h =
        on.leads answers _ _ _ (items-then rules call adds until globals fuel on.left s (hold' answers) taken
        (Turns-same (ap (λ x. go_next rules call until (again rules call adds until globals fuel on.left) (hold' answers) x (around globals fuel t)) (sym e)) h))

    pub stop-memory : (answers : A) (how : Outcome) (state : State) (held : C) → Turns k start (all answers) (Some OutOfMemory) how (record { state = state; held = held; shown = port_at t mid })
    stop-memory answers how state held =
        on.leads answers _ _ _ (items-then rules call adds until globals fuel on.left s (hold' answers) taken (Turns-memory k _ how (record { state = state; held = held; shown = port_at t mid })))

    pub goes-serve : (answers : A) {why : Option NoLine} {how : Outcome} {reached : Reached C T} → Serve ≡ next_in until (page_of t)
        → Turns k (port_at t mid) (from_step_three rules call until (hold' answers) (around globals fuel t)) why how reached → Turns k start (all answers) why how reached
    goes-serve answers e h = goes answers Serve e h

    module _ (answers : A) (end : End) (e : EndRun end ≡ next_in until (page_of t)) {u : Standing} {new : Seen T} where
      pub goes-end : Does k (at t mid) (on_page (run_ended until end)) None (at u new)
          → Turns k start (all answers) None (Finished end) (record { state = around globals fuel u; held = hold' answers; shown = port_at u new })
      goes-end h = goes answers (EndRun end) e (Turns-finish globals fuel (run_ended until end) end (hold' answers) h)

      pub stop-end : {why : NoLine} (how : Outcome) (state : State) (held : C) → Does k (at t mid) (on_page (run_ended until end)) (Some why) (at u new)
          → Turns k start (all answers) (Some why) how (record { state = state; held = held; shown = port_at u new })
      stop-end how state held h = goes answers (EndRun end) e (Turns-page_stop globals fuel (run_ended until end) (λ m. Ended end m (hold' answers)) (λ es m. refl) how state held h)

    module _ (aim : ℕ) (e : WaitFor aim ≡ next_in until (page_of t)) where
      pub stop-reading : (answers : A) → chosen_reading rules aim (hold' answers) ≡ None
          → Turns k start (all answers) None AtReading (record { state = around globals fuel t; held = hold' answers; shown = port_at t mid })
      stop-reading answers r = goes answers (WaitFor aim) e (wait-refused rules call adds until globals fuel on.left t (hold' answers) aim (port_at t mid) r)

      module _ (r : ℕ) (hold'' : A → C) (given : (answers : A) → chosen_reading rules aim (hold' answers) ≡ Some (record { choice = r; left = hold'' answers })) {u : Standing} {new : Seen T} where
        pub stop-wait : (answers : A) {why : NoLine} (how : Outcome) (state : State) (held : C) → Does k (at (changed_by (at_time r) t) mid) (on_page (emit (Wait aim))) (Some why) (at u new)
            → Turns k start (all answers) (Some why) how (record { state = state; held = held; shown = port_at u new })
        stop-wait answers how state held h =
            goes answers (WaitFor aim) e (wait-stop rules call adds until globals fuel on.left t (hold' answers) aim r (hold'' answers) (given answers) how state held h)

        -- the turn begins again, with one wait less
        pub goes-wait : t.script.now ≡ s.script.now → aim ≤ r → u.script.now ≡ r → Does k (at (changed_by (at_time r) t) mid) (on_page (emit (Wait aim))) None (at u new)
            → WaitsOn k rules call until hold hold'' start first (port_at u new) u.script.now (around globals fuel u)
        goes-wait same le now h =
            let ahead = wait-ahead until (page_of t) aim e in
            let more : suc (on.left - 1) ≡ on.left = let enough = on.enough in let later = ahead.later in let soon = ahead.soon in omega (arith, enough, later, soon, same) in
            record {
              left = on.left - 1;
              enough = let enough = on.enough in let later = ahead.later in let soon = ahead.soon in omega (arith, enough, later, soon, same, le, now, more);
              leads = λ answers why how reached rest. goes answers (WaitFor aim) e
                  (wait-then rules call adds until globals fuel on.left t (hold' answers) aim r (hold'' answers) (given answers) h
                  (let P : ℕ → Type 0 = λ n. Turns k (port_at u new) (from_step_one_or (Stuck AtBound) rules call until n (around globals fuel u) (hold'' answers)) why how reached in subst P more rest));
            }

-- before the first wait
pub starts-waits : {C A T : Type 0} (k : Keeping T) (rules : Rules C) (call : Caller Page) (until : ℕ) (hold : A → C) (start : Shown T) (m : State) → WaitsOn k rules call until hold hold start m start m.host.now m
starts-waits k rules call until hold start m = record {
  left = until + suc (item_count m.host);
  enough = omega arith;
  leads = λ answers why how reached h.
      let P : ℕ → Type 0 = λ n. Turns k start (from_step_one_or (Stuck AtBound) rules call until n m (hold answers)) why how reached in
      let more : suc (until + suc (item_count m.host)) ≡ until + suc (suc (item_count m.host)) = omega arith in
      subst P more h;
}

-- ---- the turns of a run

module _ {C T : Type 0} {k : Keeping T} (rules : Rules C) (call : Caller Page) (adds : (es : List Stamped) → CallsFollow (after es) call call) (until : ℕ)
    {hold hold' : List (Result ℤ ℤ) → C} {told told' : Option (List (Result ℤ ℤ))} {start : Shown T} {first : State} {here : Shown T} {m : State}
    (on : TurnsOn k rules call until hold hold' told told' start first here m) (told'' : Option (List (Result ℤ ℤ))) where
  abbrev pub one : List (Result ℤ ℤ) → Turned C
  one answers = turn_or (Stuck AtBound) until rules call until m (hold' answers)

  abbrev pub whole : (until : ℕ) → List (Result ℤ ℤ) → Turned C
  whole until answers = row_of (turn_or (Stuck AtBound) until rules call until) (suc first.fuel) first (hold answers)

  module _ (reach : List (Result ℤ ℤ) → Reached C T) where
    pub run-stops : (why : RunStop)
        → ByAnswers {X = Option End} told' (Err why) told'' (λ before left. Turns k here (one before) (stop_fault why) (stop_outcome why) (reach left))
        → ByAnswers {X = End} told (Err why) told'' (λ before left. Turns k start (whole until before) (stop_fault why) (stop_outcome why) (reach left))
    run-stops why does = λ left h.
        let x = does left h in
        let y = on.leads x.0 x.1 in
        (y.0, y.1, y.2 _ _ _ (row-stopped rules call adds until until on.left m (hold' x.0) why x.2))

    -- what is done by the turns until one moment is done until the same moment
    run-as : (r : Result End RunStop) (ends : ℕ) → ends ≡ until
        → ByAnswers {X = End} told r told'' (λ before left. Turns k start (whole until before) (line_fault r) (run_outcome r) (reach left))
        → ByAnswers {X = End} told r told'' (λ before left. Turns k start (whole ends before) (line_fault r) (run_outcome r) (reach left))
    run-as r ends same does =
        let P : ℕ → Type 0 = λ n. ByAnswers {X = End} told r told'' (λ before left. Turns k start (whole n before) (line_fault r) (run_outcome r) (reach left)) in
        subst P (sym same) does

    -- the exit of a `?`
    pub run-exit : (ends : ℕ) → ends ≡ until → (r : Result End RunStop) (why : RunStop) → IsErrAnd r (λ e. e ≡ why)
        → ByAnswers {X = Option End} told' (Err why) told'' (λ before left. Turns k here (one before) (stop_fault why) (stop_outcome why) (reach left))
        → ByAnswers {X = End} told r told'' (λ before left. Turns k start (whole ends before) (line_fault r) (run_outcome r) (reach left))
    run-exit ends same (Ok x) why is does = absurd is
    run-exit ends same (Err e) why is does =
        let P : RunStop → Type 0 = λ w. ByAnswers {X = Option End} told' (Err w) told'' (λ before left. Turns k here (one before) (stop_fault w) (stop_outcome w) (reach left)) in
        run-as (Err e) ends same (run-stops e (subst P (sym is) does))

    pub run-ends : (ends : ℕ) → ends ≡ until → (end : End)
        → ByAnswers {X = Option End} told' (Ok (Some end)) told'' (λ before left. Turns k here (one before) None (Finished end) (reach left))
        → ByAnswers {X = End} told (Ok end) told'' (λ before left. Turns k start (whole ends before) None (Finished end) (reach left))
    run-ends ends same end does = run-as (Ok end) ends same (λ left h.
        let x = does left h in
        let y = on.leads x.0 x.1 in
        (y.0, y.1, y.2 _ _ _ (row-ended rules call adds until until on.left m (hold' x.0) x.2)))

  -- the run goes on from this state
  pub run-goes : (there : Shown T) (n : State) (hold'' : List (Result ℤ ℤ) → C) → n.fuel < m.fuel
      → ByAnswers {X = Option End} told' (Ok None) told'' (λ before left. Turns k here (one before) None WentOn (record { state = n; held = hold'' left; shown = there }))
      → TurnsOn k rules call until hold hold'' told told'' start first there n
  run-goes there n hold'' less does =
      let more : suc (on.left - 1) ≡ on.left = let enough = on.enough in omega (arith, enough, less) in
      record {
        left = on.left - 1;
        enough = let enough = on.enough in omega (arith, enough, less, more);
        leads = λ answers h.
            let x = does answers h in
            let y = on.leads x.0 x.1 in (
              y.0,
              y.1,
              λ why how reached rest. y.2 why how reached
                  (row-then rules call adds until until on.left m (hold' x.0) x.2
                  (let P : ℕ → Type 0 = λ j. Turns k there (row_of (turn_or (Stuck AtBound) until rules call until) j n (hold'' answers)) why how reached in subst P more rest)),
            );
      }
