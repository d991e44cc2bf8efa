-- What a run over a comparison of lines tells of the trace.
use Rattle.std.proofs.Common.{true, ◌≡◌, ℕ, suc, ◌+◌, List, length, Some, None, Result, Ok, Err, refl, ap, subst, ◌∙◌, arith}
use Rattle.std.specs.Prelude.{IfOk}
use Rattle.page_types.specs.declared.End.{End}
use Rattle.page_types.specs.Tree.{Program}
use Rattle.page_parts.specs.HostClosures.{HostClosure}
use Rattle.page_parts.specs.Setup.{Setup}
use Rattle.page_model.specs.Turns.{Refusal, NoSource, NoReading, NoAnswer, NoAct, AtBound, Turned, GoesOn, Ended, Stuck}
use Rattle.page_model.specs.ChoicesAreData.{HasEnded}
use Rattle.trace_text.specs.Trace.{is_whole}
use Rattle.trace_text.specs.Line.{Line}
use Rattle.trace_text.specs.Given.{Seen}
use Rattle.trace_text.specs.Checks.{Kept, check_keeping, seen_kept}
use Rattle.trace_text.specs.EventSeen.{TraceSeen}
use Rattle.loop_turn.specs.Outcomes.{WentOn, Finished, outcome_in, stuck_at}
use Rattle.loop_turn.specs.RunStops.{stop_fault, stop_outcome}
use Rattle.loop_turn.specs.declared.run_stop.RunStop.{RunStop}
use Rattle.loop_turn.specs.declared.run_stop.RunStop.TheVariants as stop
use Rattle.trace_check.specs.declared.verdict.Verdict.{Verdict}
use Rattle.trace_check.specs.Outcomes.{found_by}
use Rattle.trace_check.specs.declared.verdict.Verdict.TheVariants.{Yes, Differs, Illegal}
use Rattle.trace_check.specs.Verdicts.{agreeing, events_of, trace_lines, own_run, lines_of_run, IsStuck, IsVerdict}
use Rattle.trace_check.specs.Replays.{Replays}
use Rattle.trace_check.proofs.Comparisons.{all-met, one-differed, none-failed}
use Rattle.trace_check.proofs.Judging.{ended-verdict, stuck-verdict, other-verdict}

-- what holds of a value holds of it by another name
pub if-ok : {X E : Type 0} {P Q : X → Type 0} (r : Result X E) → ((x : X) → P x → Q x) → IfOk r P → IfOk r Q
if-ok (Ok x) h p = h x p
if-ok (Err e) h p = tt

-- a choice was refused
abbrev pub IsRefusal : RunStop → Type 0
IsRefusal stop.WriteFault = ⊥
IsRefusal stop.Differs = ⊥
IsRefusal stop.NoReading = Unit {0}
IsRefusal stop.NoChoice = Unit {0}
IsRefusal stop.NoHost = Unit {0}
IsRefusal stop.OutOfMemory = ⊥

no-fault : (why : RunStop) → IsRefusal why → stop_fault why ≡ None
no-fault stop.NoReading h = refl
no-fault stop.NoChoice h = refl
no-fault stop.NoHost h = refl
no-fault stop.WriteFault h = absurd h
no-fault stop.Differs h = absurd h
no-fault stop.OutOfMemory h = absurd h

never-went : (why : RunStop) → stop_outcome why ≡ WentOn → ⊥
never-went stop.NoReading h = cc
never-went stop.NoChoice h = cc
never-went stop.NoHost h = cc
never-went stop.WriteFault h = cc
never-went stop.Differs h = cc
never-went stop.OutOfMemory h = cc

never-ended : (why : RunStop) (end : End) → stop_outcome why ≡ Finished end → ⊥
never-ended stop.NoReading end h = cc
never-ended stop.NoChoice end h = cc
never-ended stop.NoHost end h = cc
never-ended stop.WriteFault end h = cc
never-ended stop.Differs end h = cc
never-ended stop.OutOfMemory end h = cc

same-kept : (a b : Kept) → Some a ≡ Some b → a.matched ≡ b.matched
same-kept a b is = cc

some-is : (a b : Verdict) → Some a ≡ Some b → a ≡ b
some-is a b is = cc

-- a comparison before its first line
abbrev pub first_seen : TraceSeen → Seen Kept
first_seen trace = seen_kept (record { left = trace_lines trace; matched = 0 }) 0

-- a call has run the program under the trace's own choices, and compared its lines
abbrev pub Compares : Program → Setup → List HostClosure → TraceSeen → Kept → ℕ → Result End RunStop → Type 0
Compares program setup hosts trace now refusals answer =
    Replays check_keeping (first_seen trace) setup.trace (own_run program setup hosts (events_of trace)) answer (seen_kept now refusals)

never-stuck : (at : Refusal) (end : End) → Finished end ≡ stuck_at at → ⊥
never-stuck NoSource end is = cc
never-stuck (NoReading t) end is = cc
never-stuck (NoAnswer t) end is = cc
never-stuck NoAct end is = cc
never-stuck AtBound end is = cc

never-on : (end : End) → Finished end ≡ WentOn → ⊥
never-on end is = cc

has-ended : {C : Type 0} (r : Turned C) (end : End) → Finished end ≡ outcome_in r → HasEnded r
has-ended (GoesOn m c) end is = absurd (never-on end is)
has-ended (Ended other m c) end is = tt
has-ended (Stuck at m c) end is = absurd (never-stuck at end is)

is-stuck : {C : Type 0} (r : Turned C) (why : RunStop) → stop_outcome why ≡ outcome_in r → IsStuck r
is-stuck (GoesOn m c) why is = absurd (never-went why is)
is-stuck (Ended end m c) why is = absurd (never-ended why end is)
is-stuck (Stuck at m c) why is = tt

module _ (program : Program) (setup : Setup) (hosts : List HostClosure) (trace : TraceSeen) where
  abbrev all_lines : List Line
  all_lines = lines_of_run setup.trace (own_run program setup hosts (events_of trace))

  found-yes : (now : Kept) (refusals : ℕ) (end : End) → Compares program setup hosts trace now refusals (Ok end) → is_whole (events_of trace) ≡ true → IsVerdict program setup hosts trace Yes
  found-yes now refusals end h whole =
      let m = all-met all_lines (trace_lines trace) 0 (Some now) h.lines.told.0 refl in
      ended-verdict program setup hosts trace m.rest m.whole whole (has-ended (own_run program setup hosts (events_of trace)) end (h.ends refl))

  found-illegal : (now : Kept) (refusals : ℕ) (why : RunStop) (line : ℕ) → IsRefusal why
      → Compares program setup hosts trace now refusals (Err why) → line ≡ suc now.matched → IsVerdict program setup hosts trace (Illegal line)
  found-illegal now refusals why line refused h counted =
      let none = no-fault why refused in
      let told = rw none at h.lines.told in
      let m = all-met all_lines (trace_lines trace) 0 (Some now) told.0 refl in
      let start : 0 + length all_lines ≡ length all_lines = omega arith in
      let met : now.matched ≡ length all_lines = same-kept now (record { left = m.rest; matched = 0 + length all_lines }) m.now ∙ start in
      stuck-verdict program setup hosts trace m.rest line m.whole (is-stuck (own_run program setup hosts (events_of trace)) why (h.ends none)) (counted ∙ ap suc met)

  found-differs : (now : Kept) (refusals : ℕ) (line : ℕ) → Compares program setup hosts trace now refusals (Err stop.Differs) → line ≡ suc now.matched
      → IsVerdict program setup hosts trace (Differs line)
  found-differs now refusals line h counted =
      let d = one-differed all_lines (trace_lines trace) 0 now h.lines.told in
      let start : 0 + agreeing all_lines (trace_lines trace) ≡ agreeing all_lines (trace_lines trace) = omega arith in
      other-verdict program setup hosts trace line d.differs (counted ∙ ap suc (d.counted ∙ start))

  verdict-is : (a b : Verdict) → Some a ≡ Some b → IsVerdict program setup hosts trace a → IsVerdict program setup hosts trace b
  verdict-is a b is h = subst (IsVerdict program setup hosts trace) (some-is a b is) h

  -- the verdict that the outcome tells
  pub found : (now : Kept) (refusals : ℕ) (answer : Result End RunStop) (line : ℕ) (verdict : Verdict)
      → Compares program setup hosts trace now refusals answer → is_whole (events_of trace) ≡ true → line ≡ suc now.matched
      → found_by answer line ≡ Some verdict → IsVerdict program setup hosts trace verdict
  found now refusals (Ok end) line verdict h whole counted is = verdict-is Yes verdict is (found-yes now refusals end h whole)
  found now refusals (Err stop.WriteFault) line verdict h whole counted is = absurd (cc)
  found now refusals (Err stop.Differs) line verdict h whole counted is = verdict-is (Differs line) verdict is (found-differs now refusals line h counted)
  found now refusals (Err stop.NoReading) line verdict h whole counted is = verdict-is (Illegal line) verdict is (found-illegal now refusals stop.NoReading line tt h counted)
  found now refusals (Err stop.NoChoice) line verdict h whole counted is = verdict-is (Illegal line) verdict is (found-illegal now refusals stop.NoChoice line tt h counted)
  found now refusals (Err stop.NoHost) line verdict h whole counted is = verdict-is (Illegal line) verdict is (found-illegal now refusals stop.NoHost line tt h counted)
  found now refusals (Err stop.OutOfMemory) line verdict h whole counted is = absurd (cc)

  no-write-fault : (now : Kept) (refusals : ℕ) → Compares program setup hosts trace now refusals (Err stop.WriteFault) → ⊥
  no-write-fault now refusals h = none-failed all_lines (Some (record { left = trace_lines trace; matched = 0 })) now h.lines.told

  -- no line of a comparison fails
  pub never-failed : (now : Kept) (refusals : ℕ) (answer : Result End RunStop) → Compares program setup hosts trace now refusals answer → answer ≡ Err stop.WriteFault → ⊥
  never-failed now refusals answer h is = no-write-fault now refusals (subst (Compares program setup hosts trace now refusals) is h)
