-- Turns of the model one after another, as calls do them.
use Rattle.std.proofs.Common.{◌≡◌, List, [], ◌++◌, refl, sym, ◌∙◌, ap, subst, Option, Some, None}
use Rattle.page_types.specs.Events.{Stamped}
use Rattle.page_types.specs.declared.End.{End}
use Rattle.lang_meaning.specs.Machine.{hosted, done_hosted, Done, Gives, Throws, Returns, OutOfFuel}
use Rattle.page_model.specs.State.{Page, State}
use Rattle.page_model.specs.Additions.{after, turned_after, TurnAdds}
use Rattle.page_model.specs.Turns.{Refusal, NoSource, NoReading, NoAnswer, NoAct, AtBound, Turned, GoesOn, Ended, Stuck, next_turn, goes_on, state_of}
use Rattle.page_model.proofs.Adding.Turns.{next_turn-adds}
use Rattle.trace_text.specs.declared.lines.NoLine.{NoLine}
use Rattle.trace_text.specs.Line.{Line}
use Rattle.trace_text.specs.Given.{Keeping, Gives as TakesLines}
use Rattle.trace_text.specs.Acts.{At}
use Rattle.trace_text.proofs.Giving.{Gives-none, Gives-then, Gives-stop}
use Rattle.page_script.specs.PageActs.{bare, lines_of}
use Rattle.page_script.proofs.Lifting.{lines_of-append}
use Rattle.page_host.specs.StateActs.{How, ended, events_after, Steps}
use Rattle.page_parts.specs.HostClosures.{HostClosure}
use Rattle.loop_turn.specs.Firing.{FiresAmong}
use Rattle.loop_turn.proofs.Fired.{fires-none, fires-start, fires-then}
use Rattle.loop_turn.specs.Outcomes.{Shown, Outcome, WentOn, Finished, stuck_at, outcome_in, held_in, events_in, Reached, EndsIn, Turns}

-- ---- a turn with events before its own

-- a turn with no events
abbrev bare_turn : {C : Type 0} → Turned C → Turned C
bare_turn (GoesOn m c) = GoesOn (hosted bare m) c
bare_turn (Ended end m c) = Ended end (hosted bare m) c
bare_turn (Stuck at m c) = Stuck at (hosted bare m) c

turn-split : {C : Type 0} (t : Turned C) → t ≡ turned_after (events_in t) (bare_turn t)
turn-split (GoesOn m c) = refl
turn-split (Ended end m c) = refl
turn-split (Stuck at m c) = refl

module _ {C : Type 0} (es : List Stamped) where
  events-behind : (t : Turned C) → events_in (turned_after es t) ≡ events_in t ++ es
  events-behind (GoesOn m c) = refl
  events-behind (Ended end m c) = refl
  events-behind (Stuck at m c) = refl

  outcome-behind : (t : Turned C) → outcome_in (turned_after es t) ≡ outcome_in t
  outcome-behind (GoesOn m c) = refl
  outcome-behind (Ended end m c) = refl
  outcome-behind (Stuck at m c) = refl

  state-behind : (t : Turned C) → hosted bare (state_of (turned_after es t)) ≡ hosted bare (state_of t)
  state-behind (GoesOn m c) = refl
  state-behind (Ended end m c) = refl
  state-behind (Stuck at m c) = refl

  hosts-behind : (t : Turned C) → (state_of (turned_after es t)).host.hosts ≡ (state_of t).host.hosts
  hosts-behind (GoesOn m c) = refl
  hosts-behind (Ended end m c) = refl
  hosts-behind (Stuck at m c) = refl

  held-behind : (t : Turned C) → held_in (turned_after es t) ≡ held_in t
  held-behind (GoesOn m c) = refl
  held-behind (Ended end m c) = refl
  held-behind (Stuck at m c) = refl

  lines-behind : (t u : Turned C) → t ≡ turned_after es u → lines_of (events_in t) ≡ lines_of es ++ lines_of (events_in u)
  lines-behind t u e = ap (λ x. lines_of (events_in x)) e ∙ (ap lines_of (events-behind u) ∙ lines_of-append (events_in u) es)

-- ---- turns that go on, and those that do not

stuck-is : (at : Refusal) → WentOn ≡ stuck_at at → ⊥
stuck-is NoSource e = cc
stuck-is (NoReading t) e = cc
stuck-is (NoAnswer t) e = cc
stuck-is NoAct e = cc
stuck-is AtBound e = cc

module _ {C : Type 0} where
  goes-on : (t : Turned C) → WentOn ≡ outcome_in t → t ≡ GoesOn (state_of t) (held_in t)
  goes-on (GoesOn m c) e = refl
  goes-on (Ended end m c) e = absurd (cc)
  goes-on (Stuck at m c) e = absurd (stuck-is at e)

  is-over : (t : Turned C) (next : State → C → Turned C) → (WentOn ≡ outcome_in t → ⊥) → next_turn t next ≡ t
  is-over (GoesOn m c) next over = absurd (over refl)
  is-over (Ended end m c) next over = refl
  is-over (Stuck at m c) next over = refl

  goes_on-behind : (es : List Stamped) (c : C) (d : Done Page) → goes_on c (done_hosted (after es) d) ≡ turned_after es (goes_on c d)
  goes_on-behind es c (Gives v m) = refl
  goes_on-behind es c (Throws v m) = refl
  goes_on-behind es c (Returns v m) = refl
  goes_on-behind es c (OutOfFuel m) = refl

done-split : (d : Done Page) → d ≡ done_hosted (after (events_after d)) (done_hosted bare d)
done-split (Gives v m) = refl
done-split (Throws v m) = refl
done-split (Returns v m) = refl
done-split (OutOfFuel m) = refl

reach : {C T : Type 0} (t : Turned C) (mid : Reached C T) → EndsIn t WentOn mid → t ≡ turned_after (events_in t) (GoesOn mid.state mid.held)
reach t mid e =
    let es = events_in t in
    goes-on t e.outcome
    ∙ (ap (λ m. GoesOn (hosted (after es) m) (held_in t)) (sym (e.state tt)) ∙ ap (GoesOn (hosted (after es) mid.state)) (sym e.held))

-- ---- lines that were given, and then the turn

module _ {C T : Type 0} {k : Keeping T} where
  pub Turns-behind : {before mid : Shown T} (es : List Stamped) (t u : Turned C) {why : Option NoLine} {how : Outcome} {reached : Reached C T}
      → t ≡ turned_after es u → TakesLines k before.seen (lines_of es) None mid.seen → FiresAmong (lines_of es) before.closures mid.closures
      → Turns k mid u why how reached → Turns k before t why how reached
  Turns-behind {before = before} {mid = mid} es t u {why = why} {how = how} {reached = reached} e h fires rest =
      let P : List Line → Type 0 = λ ls. TakesLines k before.seen ls why reached.shown.seen in
      let Q : List Line → Type 0 = λ ls. FiresAmong ls before.closures reached.shown.closures in
      record {
        lines = subst P (sym (lines-behind es t u e)) (Gives-then (lines_of (events_in u)) h rest.lines);
        ends = λ w. record {
          outcome = (rest.ends w).outcome ∙ (sym (outcome-behind es u) ∙ ap outcome_in (sym e));
          state = λ un. (rest.ends w).state un ∙ (sym (state-behind es u) ∙ ap (λ (x : Turned C). hosted bare (state_of x)) (sym e));
          hosts = (rest.ends w).hosts ∙ (sym (hosts-behind es u) ∙ ap (λ (x : Turned C). (state_of x).host.hosts) (sym e));
          held = (rest.ends w).held ∙ (sym (held-behind es u) ∙ ap held_in (sym e));
        };
        fires = subst Q (sym (lines-behind es t u e)) (fires-then (lines_of es) (lines_of (events_in u)) fires rest.fires);
      }

  pub Turns-behind_stop : {before : Shown T} (es : List Stamped) (t u : Turned C) {why : NoLine} (how : Outcome) (reached : Reached C T)
      → t ≡ turned_after es u → TakesLines k before.seen (lines_of es) (Some why) reached.shown.seen → FiresAmong (lines_of es) before.closures reached.shown.closures
      → Turns k before t (Some why) how reached
  Turns-behind_stop {before = before} es t u {why = why} how reached e h fires =
      let P : List Line → Type 0 = λ ls. TakesLines k before.seen ls (Some why) reached.shown.seen in
      let Q : List Line → Type 0 = λ ls. FiresAmong ls before.closures reached.shown.closures in
      record {
        lines = subst P (sym (lines-behind es t u e)) (Gives-stop (lines_of (events_in u)) h);
        ends = λ w. absurd (cc);
        fires = subst Q (sym (lines-behind es t u e)) (fires-start (lines_of es) (lines_of (events_in u)) fires);
      }

  -- the same turn in other words
  pub Turns-same : {before : Shown T} {t u : Turned C} {why : Option NoLine} {how : Outcome} {reached : Reached C T} → t ≡ u → Turns k before u why how reached → Turns k before t why how reached
  Turns-same {before = before} {why = why} {how = how} {reached = reached} e h =
      let P : Turned C → Type 0 = λ t. Turns k before t why how reached in
      subst P (sym e) h

  -- ---- one turn and then more

  -- a turn that goes on, and then what comes next
  pub Turns-then : (t : Turned C) (next : State → C → Turned C) {before : Shown T} {mid new : Reached C T} {why : Option NoLine} {how : Outcome}
      → ((es : List Stamped) (c : C) → TurnAdds es (λ m. next m c)) → Turns k before t None WentOn mid
      → Turns k mid.shown (next mid.state mid.held) why how new → Turns k before (next_turn t next) why how new
  Turns-then t next {mid = mid} only h rest =
      let es = events_in t in
      Turns-behind es (next_turn t next) (next mid.state mid.held) (ap (λ x. next_turn x next) (reach t mid (h.ends refl)) ∙ only es mid.held mid.state) h.lines h.fires rest

  -- a turn that stopped for its lines, where more would have come
  pub Turns-stop : (t : Turned C) (next : State → C → Turned C) {before : Shown T} {new : Reached C T} {why : NoLine} {how : Outcome} (how' : Outcome)
      → ((es : List Stamped) (c : C) → TurnAdds es (λ m. next m c)) → Turns k before t (Some why) how new → Turns k before (next_turn t next) (Some why) how' new
  Turns-stop t next {new = new} how' only h =
      let es = events_in t in
      Turns-behind_stop es (next_turn t next) (next_turn (bare_turn t) next) how' new (ap (λ x. next_turn x next) (turn-split t) ∙ next_turn-adds es next (only es) (bare_turn t)) h.lines h.fires

  -- a turn that ended or is stuck
  pub Turns-over : (t : Turned C) (next : State → C → Turned C) {before : Shown T} {new : Reached C T} {how : Outcome}
      → (WentOn ≡ how → ⊥) → Turns k before t None how new → Turns k before (next_turn t next) None how new
  Turns-over t next over h = Turns-same (is-over t next (λ e. over (e ∙ sym (h.ends refl).outcome))) h

  -- ---- where nothing more is done

  pub Turns-goes : (m : State) (c : C) (shown : Shown T) → Turns k shown (GoesOn (hosted bare m) c) None WentOn (record { state = hosted bare m; held = c; shown = shown })
  Turns-goes m c shown = record { lines = Gives-none k shown.seen; ends = λ w. record { outcome = refl; state = λ un. refl; hosts = refl; held = refl }; fires = fires-none [] refl }

  pub Turns-ended : (end : End) (m : State) (c : C) (shown : Shown T) → Turns k shown (Ended end (hosted bare m) c) None (Finished end) (record { state = hosted bare m; held = c; shown = shown })
  Turns-ended end m c shown = record { lines = Gives-none k shown.seen; ends = λ w. record { outcome = refl; state = λ un. refl; hosts = refl; held = refl }; fires = fires-none [] refl }

  pub Turns-stuck : (at : Refusal) (m : State) (c : C) (shown : Shown T) → Turns k shown (Stuck at (hosted bare m) c) None (stuck_at at) (record { state = hosted bare m; held = c; shown = shown })
  Turns-stuck at m c shown = record { lines = Gives-none k shown.seen; ends = λ w. record { outcome = refl; state = λ un. refl; hosts = refl; held = refl }; fires = fires-none [] refl }

  -- ---- a step of the script machine, and then the turn goes on

  pub Turns-steps : (step : State → Done Page) (c : C) {old mid : At State T} {before after : List HostClosure} {new : Reached C T} {how : How} {why : Option NoLine} {outcome : Outcome}
      → Steps k old step None how mid → FiresAmong (lines_of (events_after (step (hosted bare old.state)))) before after
      → Turns k (record { seen = mid.seen; closures = after }) (goes_on c (ended how mid.state)) why outcome new
      → Turns k (record { seen = old.seen; closures = before }) (goes_on c (step (hosted bare old.state))) why outcome new
  Turns-steps step c {old = old} {mid = mid} {how = how} h fires rest =
      let d = step (hosted bare old.state) in
      let es = events_after d in
      Turns-behind es (goes_on c d) (goes_on c (ended how mid.state))
      (ap (goes_on c) (done-split d ∙ ap (done_hosted (after es)) (sym (h.state refl))) ∙ goes_on-behind es c (ended how mid.state)) h.lines fires rest

  pub Turns-steps_stop : (step : State → Done Page) (c : C) {old new : At State T} {before after : List HostClosure} {how : How} {why : NoLine} (outcome : Outcome) (held : C)
      → Steps k old step (Some why) how new → FiresAmong (lines_of (events_after (step (hosted bare old.state)))) before after
      → Turns k (record { seen = old.seen; closures = before }) (goes_on c (step (hosted bare old.state))) (Some why) outcome
      (record { state = new.state; held = held; shown = record { seen = new.seen; closures = after } })
  Turns-steps_stop step c {old = old} {new = new} {after = after} outcome held h fires =
      let d = step (hosted bare old.state) in
      Turns-behind_stop (events_after d) (goes_on c d) (goes_on c (done_hosted bare d)) outcome (record { state = new.state; held = held; shown = record { seen = new.seen; closures = after } })
      (ap (goes_on c) (done-split d) ∙ goes_on-behind (events_after d) c (done_hosted bare d)) h.lines fires
