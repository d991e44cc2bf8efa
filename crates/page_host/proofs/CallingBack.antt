-- A callback of a page, from what its parts do: the line of the call, the call, the line of its end, and what comes behind it.
use Rattle.std.proofs.Common.{◌≡◌, ℕ, Bool, List, Option, Some, None, Ok, refl, ap, subst}
use Rattle.page_types.specs.Values.{Value, UnitValue}
use Rattle.page_types.specs.Events.{Stamped, Ret}
use Rattle.page_parts.specs.Kinds.{Func}
use Rattle.lang_meaning.specs.Machine.{Done, Gives, Throws, Caller, finish, and_then}
use Rattle.page_interp.specs.MachineNow.{MachineNow, program_in}
use Rattle.page_interp.specs.declared.machine.Ran.{Ran}
use Rattle.page_model.specs.State.{Page, State, on_page as on_state, the_registration}
use Rattle.page_model.specs.Invoke.{WhenReported, when_reported, call_begun, call_ended, call_back, callback_of, end_of_callback, invoke, in_checkpoint, in_task, checkpoint, report_after}
use Rattle.page_model.specs.Additions.{AddsAll}
use Rattle.page_model.proofs.Adding.Lines.{report_after-adds}
use Rattle.page_model.proofs.Adding.Runs.{call_back-adds, checkpoint-adds, end_of_callback-adds}
use Rattle.page_model.proofs.Adding.Operations.{outside-adds}
use Rattle.trace_text.specs.declared.lines.NoLine.{NoLine}
use Rattle.trace_text.specs.Given.{Keeping, Seen}
use Rattle.page_state.specs.Standing.{page_of}
use Rattle.page_host.specs.PageNow.{PageNow}
use Rattle.page_host.specs.Pieces.{threw}
use Rattle.page_host.specs.StateActs.{How, Gave, Threw, RanOut}
use Rattle.page_host.specs.Moments.{calling, how_of, CanCall}
use Rattle.page_host.specs.Doing.{Acts, Runs, called, checkpoint_after, ended_in_task, threw_in_task}
use Rattle.page_host.proofs.DoingState.{ThroughAdds}
use Rattle.page_host.proofs.Invoking.{through-and_then}
use Rattle.page_host.proofs.Quiet.{call_ended-quiet, threw-quiet, report_after-quiet}
use Rattle.page_host.proofs.Composing.{acted-ready, runs-act, runs-act_then, runs-act_stops, runs-none, runs-then, runs-then_stops, runs-asked}

-- ---- what only adds lines

checkpoint-adds_here : (m : MachineNow) (es : List Stamped) → AddsAll es (checkpoint (calling m))
checkpoint-adds_here m es = checkpoint-adds es (calling m) (outside-adds es (program_in m))

back-adds : (m : MachineNow) (f : Option Func) (args : List Value) (es : List Stamped) → AddsAll es (call_back (calling m) f args)
back-adds m f args es = call_back-adds es (calling m) (outside-adds es (program_in m)) f args

thrown-adds : (when : WhenReported) (v : Value) (es : List Stamped) → AddsAll es (λ s. Throws v (on_state (report_after when v) s))
thrown-adds when v es m = ap (λ p. Throws v (record m { host = p })) (report_after-adds es when v m.host)

through-end_in_task : (m : MachineNow) (when : WhenReported) → ThroughAdds (end_of_callback (checkpoint (calling m)) when)
through-end_in_task m when es d = end_of_callback-adds es (checkpoint (calling m)) (checkpoint-adds_here m es) when d

through-end_in_checkpoint : (when : WhenReported) → ThroughAdds (end_of_callback finish when)
through-end_in_checkpoint when es d = end_of_callback-adds es finish (λ m. refl) when d

through-value : (v : Value) → ThroughAdds (λ d. and_then d (λ u m. Gives v m))
through-value v = through-and_then (λ u m. Gives v m) (λ es u m. refl)

through-thrown : (when : WhenReported) (v : Value) → ThroughAdds (λ d. and_then d (λ u m. Throws v (on_state (report_after when v) m)))
through-thrown when v = through-and_then (λ u m. Throws v (on_state (report_after when v) m)) (λ es u. thrown-adds when v es)

-- what the state at the entry chooses
abbrev call_chosen : ℕ → Bool → List Value → Caller Page → State → State → Done Page
call_chosen r second args call entry s = call_back call (callback_of second (the_registration entry.host r)) args (on_state (call_begun r) s)

abbrev end_chosen : (State → Done Page) → ℕ → Done Page → State → Done Page
end_chosen next r d entry = end_of_callback next (when_reported (the_registration entry.host r).role) d

abbrev reported : WhenReported → Value → Done Page → Done Page
reported when v d = and_then d (λ u m. Throws v (on_state (report_after when v) m))

module _ {L T : Type 0} {k : Keeping T} {seen : L → Seen T} where
  -- by how the callback ended
  pub ran-is : {r x : Ran} {step : Caller Page → State → Done Page} {p p' : PageNow L} {m m' : MachineNow} → r ≡ x → Runs k seen step None (how_of {E = NoLine} (Ok r)) m p m' p'
      → Runs k seen step None (how_of {E = NoLine} (Ok x)) m p m' p'
  ran-is {step = step} {p = p} {p' = p'} {m = m} {m' = m'} is a = subst (λ (y : Ran). Runs k seen step None (how_of {E = NoLine} (Ok y)) m p m' p') is a

  -- ---- the call with its line

  module _ (r : ℕ) (second : Bool) (args : List Value) {p : PageNow L} {m : MachineNow} where
    pub called-does : (f : Option Func) {why : Option NoLine} {how : How} {p1 p2 : PageNow L} {m2 : MachineNow} → f ≡ callback_of second (the_registration (page_of p.state) r) → Acts k seen (call_begun r) None p p1
        → Runs k seen (λ call. call_back call f args) why how m p1 m2 p2 → Runs k seen (called r second args) why how m p m2 p2
    called-does f {why = why} {how = how} {p1 = p1} {p2 = p2} {m2 = m2} is begun back =
        let fun = callback_of second (the_registration (page_of p.state) r) in
        runs-asked (call_chosen r second args)
        (runs-act_then (call_begun r) (λ call. call_back call fun args) (back-adds m fun args) begun
        (subst (λ (o : Option Func). Runs k seen (λ call. call_back call o args) why how m p1 m2 p2) is back))

    pub called-stops : {why : NoLine} (how : How) {p1 : PageNow L} → Acts k seen (call_begun r) (Some why) p p1 → Runs k seen (called r second args) (Some why) how m p m p1
    called-stops how begun =
        let fun = callback_of second (the_registration (page_of p.state) r) in
        runs-asked (call_chosen r second args) (runs-act_stops (call_begun r) (λ call. call_back call fun args) how (back-adds m fun args) begun)

  -- ---- its end inside a checkpoint

  module _ (r : ℕ) (second : Bool) (args : List Value) (when : WhenReported) {p : PageNow L} {m : MachineNow}
      (told : when ≡ when_reported (the_registration (page_of p.state) r).role) where
    inside-is : {why : Option NoLine} {how : How} {p2 : PageNow L} {m2 : MachineNow} → Runs k seen (λ call s. end_of_callback finish when (called r second args call s)) why how m p m2 p2 → Runs k seen (λ call. invoke (in_checkpoint call) r second args) why how m p m2 p2
    inside-is {why = why} {how = how} {p2 = p2} {m2 = m2} h =
        runs-asked (λ call entry s. end_chosen finish r (called r second args call s) entry)
        (subst (λ (w : WhenReported). Runs k seen (λ call s. end_of_callback finish w (called r second args call s)) why how m p m2 p2) told h)

    pub inside-returned : {p1 : PageNow L} {m1 : MachineNow} (v : Value) {why : Option NoLine} {p2 : PageNow L} → Runs k seen (called r second args) None (Gave v) m p m1 p1 → CanCall m1 p1
        → Acts k seen (call_ended Ret) why p1 p2 → Runs k seen (λ call. invoke (in_checkpoint call) r second args) why (Gave v) m p m1 p2
    inside-returned {p1 = p1} {m1 = m1} v a ready end =
        inside-is (runs-then (called r second args) (λ call. end_of_callback finish when) (through-end_in_checkpoint when) a
        (runs-act (Gave v) (call_ended Ret) m1 tt (call_ended-quiet Ret) ready end))

    pub inside-threw : {p1 : PageNow L} {m1 : MachineNow} (v : Value) {why : Option NoLine} {p2 p3 : PageNow L} → Runs k seen (called r second args) None (Threw v) m p m1 p1 → CanCall m1 p1
        → Acts k seen (threw when v) None p1 p2 → Acts k seen (report_after when v) why p2 p3 → Runs k seen (λ call. invoke (in_checkpoint call) r second args) why (Threw v) m p m1 p3
    inside-threw {p1 = p1} {m1 = m1} v a ready threw_it end =
        inside-is (runs-then (called r second args) (λ call. end_of_callback finish when) (through-end_in_checkpoint when) a
        (runs-act_then (threw when v) (λ call s. Throws v (on_state (report_after when v) s)) (thrown-adds when v) threw_it
        (runs-act (Threw v) (report_after when v) m1 tt (report_after-quiet when v) (acted-ready m1 (threw-quiet when v) threw_it ready) end)))

    pub inside-not_thrown : {p1 : PageNow L} {m1 : MachineNow} (v : Value) {why : NoLine} (how : How) {p2 : PageNow L} → Runs k seen (called r second args) None (Threw v) m p m1 p1
        → Acts k seen (threw when v) (Some why) p1 p2 → Runs k seen (λ call. invoke (in_checkpoint call) r second args) (Some why) how m p m1 p2
    inside-not_thrown {p1 = p1} {m1 = m1} v how a threw_it =
        inside-is (runs-then (called r second args) (λ call. end_of_callback finish when) (through-end_in_checkpoint when) a
        (runs-act_stops (threw when v) (λ call s. Throws v (on_state (report_after when v) s)) how (thrown-adds when v) threw_it))

    pub inside-ran_out : {p1 : PageNow L} {m1 : MachineNow} → p1.stopped ≡ None → p1.fuel ≡ 0 → Runs k seen (called r second args) None RanOut m p m1 p1 → Runs k seen (λ call. invoke (in_checkpoint call) r second args) None RanOut m p m1 p1
    inside-ran_out {p1 = p1} {m1 = m1} running dry a =
        inside-is (runs-then (called r second args) (λ call. end_of_callback finish when) (through-end_in_checkpoint when) a
        (runs-none RanOut m1 p1 running (λ o. absurd o) (λ e. dry)))

    pub inside-stops : {p1 : PageNow L} {m1 : MachineNow} {why : NoLine} {how : How} (how' : How) → Runs k seen (called r second args) (Some why) how m p m1 p1 → Runs k seen (λ call. invoke (in_checkpoint call) r second args) (Some why) how' m p m1 p1
    inside-stops {p1 = p1} {m1 = m1} how' a = inside-is (runs-then_stops (called r second args) (λ call. end_of_callback finish when) how' (through-end_in_checkpoint when) a)

    -- ---- its end in a task

    task-is : {why : Option NoLine} {how : How} {p2 : PageNow L} {m2 : MachineNow} → Runs k seen (λ call s. end_of_callback (checkpoint call) when (called r second args call s)) why how m p m2 p2 → Runs k seen (λ call. invoke (in_task call) r second args) why how m p m2 p2
    task-is {why = why} {how = how} {p2 = p2} {m2 = m2} h =
        runs-asked (λ call entry s. end_chosen (checkpoint call) r (called r second args call s) entry)
        (subst (λ (w : WhenReported). Runs k seen (λ call s. end_of_callback (checkpoint call) w (called r second args call s)) why how m p m2 p2) told h)

    pub task-returned : {p1 : PageNow L} {m1 : MachineNow} (v : Value) {why : Option NoLine} {how : How} {p2 : PageNow L} {m2 : MachineNow} → Runs k seen (called r second args) None (Gave v) m p m1 p1
        → Runs k seen (ended_in_task v) why how m1 p1 m2 p2 → Runs k seen (λ call. invoke (in_task call) r second args) why how m p m2 p2
    task-returned {p1 = p1} {m1 = m1} v a end = task-is (runs-then (called r second args) (λ call. end_of_callback (checkpoint call) when) (through-end_in_task m when) a end)

    pub task-threw : {p1 : PageNow L} {m1 : MachineNow} (v : Value) {why : Option NoLine} {how : How} {p2 : PageNow L} {m2 : MachineNow} → Runs k seen (called r second args) None (Threw v) m p m1 p1
        → Runs k seen (threw_in_task when v) why how m1 p1 m2 p2 → Runs k seen (λ call. invoke (in_task call) r second args) why how m p m2 p2
    task-threw {p1 = p1} {m1 = m1} v a end = task-is (runs-then (called r second args) (λ call. end_of_callback (checkpoint call) when) (through-end_in_task m when) a end)

    pub task-ran_out : {p1 : PageNow L} {m1 : MachineNow} → p1.stopped ≡ None → p1.fuel ≡ 0 → Runs k seen (called r second args) None RanOut m p m1 p1 → Runs k seen (λ call. invoke (in_task call) r second args) None RanOut m p m1 p1
    task-ran_out {p1 = p1} {m1 = m1} running dry a =
        task-is (runs-then (called r second args) (λ call. end_of_callback (checkpoint call) when) (through-end_in_task m when) a
        (runs-none RanOut m1 p1 running (λ o. absurd o) (λ e. dry)))

    pub task-stops : {p1 : PageNow L} {m1 : MachineNow} {why : NoLine} {how : How} (how' : How) → Runs k seen (called r second args) (Some why) how m p m1 p1 → Runs k seen (λ call. invoke (in_task call) r second args) (Some why) how' m p m1 p1
    task-stops {p1 = p1} {m1 = m1} how' a = task-is (runs-then_stops (called r second args) (λ call. end_of_callback (checkpoint call) when) how' (through-end_in_task m when) a)

  -- ---- a checkpoint behind a piece

  module _ (f : Page → Page) {p p1 : PageNow L} {m : MachineNow} where
    pub after-does : {why : Option NoLine} {how : How} {p2 : PageNow L} {m2 : MachineNow} → Acts k seen f None p p1 → Runs k seen checkpoint why how m p1 m2 p2 → Runs k seen (checkpoint_after f) why how m p m2 p2
    after-does a r = runs-act_then f checkpoint (checkpoint-adds_here m) a r

    pub after-stops : {why : NoLine} (how : How) → Acts k seen f (Some why) p p1 → Runs k seen (checkpoint_after f) (Some why) how m p m p1
    after-stops how a = runs-act_stops f checkpoint how (checkpoint-adds_here m) a

  module _ (v : Value) {p p2 : PageNow L} {m m2 : MachineNow} where
    pub ended-does : Runs k seen (checkpoint_after (call_ended Ret)) None (Gave UnitValue) m p m2 p2 → CanCall m2 p2 → Runs k seen (ended_in_task v) None (Gave v) m p m2 p2
    ended-does a ready = runs-then (checkpoint_after (call_ended Ret)) (λ call d. and_then d (λ u m. Gives v m)) (through-value v) a (runs-none (Gave v) m2 p2 ready.running (λ o. ready) (λ e. absurd (cc)))

    pub ended-ran_out : p2.stopped ≡ None → p2.fuel ≡ 0 → Runs k seen (checkpoint_after (call_ended Ret)) None RanOut m p m2 p2 → Runs k seen (ended_in_task v) None RanOut m p m2 p2
    ended-ran_out running dry a = runs-then (checkpoint_after (call_ended Ret)) (λ call d. and_then d (λ u m. Gives v m)) (through-value v) a (runs-none RanOut m2 p2 running (λ o. absurd o) (λ e. dry))

    pub ended-stops : {why : NoLine} {how : How} (how' : How) → Runs k seen (checkpoint_after (call_ended Ret)) (Some why) how m p m2 p2 → Runs k seen (ended_in_task v) (Some why) how' m p m2 p2
    ended-stops how' a = runs-then_stops (checkpoint_after (call_ended Ret)) (λ call d. and_then d (λ u m. Gives v m)) how' (through-value v) a

    module _ (when : WhenReported) where
      pub threw-does : {why : Option NoLine} {p3 : PageNow L} → Runs k seen (checkpoint_after (threw when v)) None (Gave UnitValue) m p m2 p2 → CanCall m2 p2 → Acts k seen (report_after when v) why p2 p3
          → Runs k seen (threw_in_task when v) why (Threw v) m p m2 p3
      threw-does a ready end = runs-then (checkpoint_after (threw when v)) (λ call. reported when v) (through-thrown when v) a (runs-act (Threw v) (report_after when v) m2 tt (report_after-quiet when v) ready end)

      pub threw-ran_out : p2.stopped ≡ None → p2.fuel ≡ 0 → Runs k seen (checkpoint_after (threw when v)) None RanOut m p m2 p2 → Runs k seen (threw_in_task when v) None RanOut m p m2 p2
      threw-ran_out running dry a = runs-then (checkpoint_after (threw when v)) (λ call. reported when v) (through-thrown when v) a (runs-none RanOut m2 p2 running (λ o. absurd o) (λ e. dry))

      pub threw-stops : {why : NoLine} {how : How} (how' : How) → Runs k seen (checkpoint_after (threw when v)) (Some why) how m p m2 p2 → Runs k seen (threw_in_task when v) (Some why) how' m p m2 p2
      threw-stops how' a = runs-then_stops (checkpoint_after (threw when v)) (λ call. reported when v) how' (through-thrown when v) a
