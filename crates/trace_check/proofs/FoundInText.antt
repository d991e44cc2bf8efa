-- What a run over a comparison with the bytes of a trace tells of it.
use Rattle.std.proofs.Common.{◌≡◌, ℕ, suc, ◌+◌, List, ◌++◌, Some, Result, Err, subst, arith}
use Rattle.page_types.specs.declared.End.{End}
use Rattle.page_types.specs.Events.{Stamped}
use Rattle.page_types.specs.Tree.{Program}
use Rattle.page_parts.specs.HostClosures.{HostClosure}
use Rattle.page_parts.specs.Setup.{Setup}
use Rattle.page_parts.specs.TraceText.{head_text, lines_text}
use Rattle.trace_text.specs.EventSeen.{TraceSeen}
use Rattle.trace_text.proofs.TracesRead.{head_same}
use Rattle.loop_turn.specs.declared.run_stop.RunStop.{RunStop}
use Rattle.loop_turn.specs.declared.run_stop.RunStop.TheVariants as stop
use Rattle.trace_check.specs.declared.collecting.TraceChoices.{TraceChoices}
use Rattle.trace_check.specs.declared.verdict.Verdict.{Verdict}
use Rattle.trace_check.specs.Collected.{AreChoicesOf}
use Rattle.trace_check.specs.Outcomes.{found_by}
use Rattle.trace_check.specs.Replays.{Replays}
use Rattle.trace_check.specs.Scanned.{AreChoicesIn, HasVerdictOn}
use Rattle.trace_check.specs.TextKept.{TextKept, text_keeping, seen_in_text}
use Rattle.trace_check.specs.Verdicts.{events_of, own_run, trace_lines}
use Rattle.trace_check.proofs.Found.{found, never-failed}
use Rattle.trace_check.proofs.TextLines.{Compared, compared, the_text, the_kept}

module _ (program : Program) (setup : Setup) (hosts : List HostClosure) (form : ℕ) (text : List ℕ) (choices : TraceChoices) where
  -- the run under these choices was compared with the text
  abbrev pub ComparesText : TextKept → ℕ → Result End RunStop → Type 0
  ComparesText t refusals answer =
      (es : List Stamped) → AreChoicesOf es choices → Replays text_keeping (seen_in_text (the_text form text 0) 0) setup.trace (own_run program setup hosts es) answer (seen_in_text t refusals)

  module _ (h : AreChoicesIn form (head_text form ++ text) choices) where
    -- the trace that the text spells
    abbrev the_seen : TraceSeen
    the_seen = record { form = form; events = h.events }

    text-is : text ≡ lines_text (events_of the_seen)
    text-is = (head_same form form text (lines_text (events_of the_seen)) h.is_trace.known h.is_trace.known h.is_trace.spelled).1

    module _ (t : TextKept) (refusals : ℕ) (answer : Result End RunStop) (k : ComparesText t refusals answer) where
      its-lines : Compared (the_kept (trace_lines the_seen) 0) setup.trace (own_run program setup hosts (events_of the_seen)) answer t refusals
      its-lines =
          let run = own_run program setup hosts (events_of the_seen) in
          compared form setup.trace (events_of the_seen) run answer t refusals h.is_trace.fit
          (subst (λ bytes. Replays text_keeping (seen_in_text (the_text form bytes 0) 0) setup.trace run answer (seen_in_text t refusals)) text-is (k (events_of the_seen) h.choices_are))

      -- no line of it fails
      pub text-never-failed : answer ≡ Err stop.WriteFault → ⊥
      text-never-failed = never-failed program setup hosts the_seen its-lines.now refusals answer its-lines.compares

      -- the verdict that the outcome tells
      pub text-found : (line : ℕ) (verdict : Verdict) → line ≡ t.matched + 1 → found_by answer line ≡ Some verdict → HasVerdictOn program setup hosts (head_text form ++ text) verdict
      text-found line verdict behind is =
          let met = its-lines.counted in
          let counted : line ≡ suc its-lines.now.matched = omega (arith, met, behind) in
          record { seen = the_seen; is_trace = h.is_trace; is_verdict = found program setup hosts the_seen its-lines.now refusals answer line verdict its-lines.compares h.is_trace.whole counted is }
