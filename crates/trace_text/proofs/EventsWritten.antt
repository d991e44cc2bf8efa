-- The text of an event is read as that event, and holds no line feed.
use Rattle.std.proofs.Common.{◌≡◌, ℕ, Bool, true, false, List, ◌∷◌, ◌++◌, Option, Some, None, Ok, Err, refl, ap, sym, ◌∙◌, arith, IsTrue}
use Rattle.std.specs.Prelude.{codes, option_map, ℤ, FitsSigned, ◌==◌}
use Rattle.std.specs.Option.{option_or}
use Rattle.std.specs.Int.{w64}
use Rattle.std.proofs.lemmas.Bool.Decides.{nat_tests}
use Rattle.page_types.specs.declared.Source.{Source}
use Rattle.page_types.specs.declared.End.{End}
use Rattle.page_types.specs.declared.RegKind.{RegKind}
use Rattle.page_types.specs.declared.Priority.{Priority}
use Rattle.page_types.specs.Events.{Queued, QueueName, Event, Turn, Call, Ret, Throw, Report, Log, Reg, Arm, Due, Drop, Job, Run, Settle, Period, IdleLine, Frame, Enq, Prio, Abort, Wait, Host, Unhandled, Handled, Send, EndLine}
use Rattle.page_parts.specs.Words.{decimal_of, int_decimal}
use Rattle.page_parts.specs.Spelling.{priority_text}
use Rattle.page_parts.specs.TraceText.{source_text, end_text, kind_text, event_text}
use Rattle.trace_text.specs.Trace.{IsCount, EventFits, is_of_form}
use Rattle.page_base.specs.Fields.{behind, is_word}
use Rattle.trace_text.specs.LineReading.{count_at, int_at, source_at, kind_at, priority_at, end_at, how_at, form_at, queue_at, queued_at, count_behind, one, three_at, four_at, turn_at, reg_at, reg_by_at, prio_at, arm_at, job_at, enq_at, host_at, settle_at, send_at, answer_of, registered_at, timed_at, identified_at, numbered_at, running_at, arranged_at, worded_at, valued_at}
use Rattle.trace_text.proofs.Cutting.{lacks, lacks-append, cut_front}
use Rattle.trace_text.proofs.Counts.{count_complete, int_complete, lacks-decimal, lacks-int}
use Rattle.trace_text.proofs.FieldWords.{source_complete, source_free, kind_complete, kind_free, kind_spaceless, priority_complete, priority_free, end_complete, end_free, how_word, how_complete, how_free, form_word, form_complete, form_free, queue_word, queue_complete, queue_free, queue_spaceless, queued_word, queued_complete, queued_free}
use Rattle.trace_text.proofs.EventsRead.{first_of, event_at, reg_read, reg_is, reg_by_is, job_is, arm_is, enq_is, host_is, settle_is}
use Rattle.trace_text.proofs.SpelledLines.{printed_free}

-- ---- which fields a word leads to

call_step : (form : ℕ) (w : List ℕ) (e : Event) → option_map Call (count_at w) ≡ Some e → event_at form (codes "call " ++ w) ≡ Some e
unfolding event_at numbered_at registered_at timed_at identified_at one count_behind worded_at running_at arranged_at valued_at behind is_word
call_step form w e is = ap (λ o. first_of (option_or (option_or o None) None) None) is

due_step : (form : ℕ) (w : List ℕ) (e : Event) → option_map Due (count_at w) ≡ Some e → event_at form (codes "due " ++ w) ≡ Some e
unfolding event_at numbered_at registered_at timed_at identified_at one count_behind worded_at running_at arranged_at valued_at behind is_word
due_step form w e is = ap (λ o. first_of (option_or (option_or o None) None) None) is

drop_step : (form : ℕ) (w : List ℕ) (e : Event) → option_map Drop (count_at w) ≡ Some e → event_at form (codes "drop " ++ w) ≡ Some e
unfolding event_at numbered_at registered_at timed_at identified_at one count_behind worded_at running_at arranged_at valued_at behind is_word
drop_step form w e is = ap (λ o. first_of (option_or o None) None) is

run_step : (form : ℕ) (w : List ℕ) (e : Event) → option_map Run (count_at w) ≡ Some e → event_at form (codes "run " ++ w) ≡ Some e
unfolding event_at numbered_at registered_at timed_at identified_at one count_behind worded_at running_at arranged_at valued_at behind is_word
run_step form w e is = ap (λ o. first_of (option_or o None) None) is

period_step : (form : ℕ) (w : List ℕ) (e : Event) → option_map Period (count_at w) ≡ Some e → event_at form (codes "period " ++ w) ≡ Some e
unfolding event_at numbered_at registered_at timed_at identified_at one count_behind worded_at running_at arranged_at valued_at behind is_word
period_step form w e is = ap (λ o. first_of (option_or (option_or o None) None) None) is

idle_step : (form : ℕ) (w : List ℕ) (e : Event) → option_map IdleLine (count_at w) ≡ Some e → event_at form (codes "idle " ++ w) ≡ Some e
unfolding event_at numbered_at registered_at timed_at identified_at one count_behind worded_at running_at arranged_at valued_at behind is_word
idle_step form w e is = ap (λ o. first_of (option_or (option_or o None) None) None) is

frame_step : (form : ℕ) (w : List ℕ) (e : Event) → option_map Frame (count_at w) ≡ Some e → event_at form (codes "frame " ++ w) ≡ Some e
unfolding event_at numbered_at registered_at timed_at identified_at one count_behind worded_at running_at arranged_at valued_at behind is_word
frame_step form w e is = ap (λ o. first_of (option_or (option_or o None) None) None) is

abort_step : (form : ℕ) (w : List ℕ) (e : Event) → option_map Abort (count_at w) ≡ Some e → event_at form (codes "abort " ++ w) ≡ Some e
unfolding event_at numbered_at registered_at timed_at identified_at one count_behind worded_at running_at arranged_at valued_at behind is_word
abort_step form w e is = ap (λ o. first_of (option_or o None) None) is

wait_step : (form : ℕ) (w : List ℕ) (e : Event) → option_map Wait (count_at w) ≡ Some e → event_at form (codes "wait " ++ w) ≡ Some e
unfolding event_at numbered_at registered_at timed_at identified_at one count_behind worded_at running_at arranged_at valued_at behind is_word
wait_step form w e is = ap (λ o. first_of (option_or o None) None) is

unhandled_step : (form : ℕ) (w : List ℕ) (e : Event) → option_map Unhandled (count_at w) ≡ Some e → event_at form (codes "unhandled " ++ w) ≡ Some e
unfolding event_at numbered_at registered_at timed_at identified_at one count_behind worded_at running_at arranged_at valued_at behind is_word
unhandled_step form w e is = ap (λ o. first_of (option_or o None) None) is

handled_step : (form : ℕ) (w : List ℕ) (e : Event) → option_map Handled (count_at w) ≡ Some e → event_at form (codes "handled " ++ w) ≡ Some e
unfolding event_at numbered_at registered_at timed_at identified_at one count_behind worded_at running_at arranged_at valued_at behind is_word
handled_step form w e is = ap (λ o. first_of o None) is

turn_step : (form : ℕ) (w : List ℕ) (e : Event) → turn_at w ≡ Some e → event_at form (codes "turn " ++ w) ≡ Some e
unfolding event_at numbered_at registered_at timed_at identified_at one count_behind worded_at running_at arranged_at valued_at behind is_word
turn_step form w e is = ap (λ o. first_of (option_or o None) None) is

reg_step : (form : ℕ) (w : List ℕ) (e : Event) → reg_read (form == 1) w ≡ Some e → event_at form (codes "reg " ++ w) ≡ Some e
unfolding event_at numbered_at registered_at timed_at identified_at one count_behind worded_at running_at arranged_at valued_at behind is_word
reg_step form w e is = ap (λ o. first_of o None) is

arm_step : (form : ℕ) (w : List ℕ) (e : Event) → arm_at w ≡ Some e → event_at form (codes "arm " ++ w) ≡ Some e
unfolding event_at numbered_at registered_at timed_at identified_at one count_behind worded_at running_at arranged_at valued_at behind is_word
arm_step form w e is = ap (λ o. first_of o None) is

job_step : (form : ℕ) (w : List ℕ) (e : Event) → job_at w ≡ Some e → event_at form (codes "job " ++ w) ≡ Some e
unfolding event_at numbered_at registered_at timed_at identified_at one count_behind worded_at running_at arranged_at valued_at behind is_word
job_step form w e is = ap (λ o. first_of (option_or o None) None) is

enq_step : (form : ℕ) (w : List ℕ) (e : Event) → enq_at w ≡ Some e → event_at form (codes "enq " ++ w) ≡ Some e
unfolding event_at numbered_at registered_at timed_at identified_at one count_behind worded_at running_at arranged_at valued_at behind is_word
enq_step form w e is = ap (λ o. first_of o None) is

prio_step : (form : ℕ) (w : List ℕ) (e : Event) → prio_at w ≡ Some e → event_at form (codes "prio " ++ w) ≡ Some e
unfolding event_at numbered_at registered_at timed_at identified_at one count_behind worded_at running_at arranged_at valued_at behind is_word
prio_step form w e is = ap (λ o. first_of o None) is

host_step : (form : ℕ) (w : List ℕ) (e : Event) → host_at w ≡ Some e → event_at form (codes "host " ++ w) ≡ Some e
unfolding event_at numbered_at registered_at timed_at identified_at one count_behind worded_at running_at arranged_at valued_at behind is_word
host_step form w e is = ap (λ o. first_of o None) is

end_step : (form : ℕ) (x : End) (w : List ℕ) → end_at w ≡ Some x → event_at form (codes "end " ++ w) ≡ Some (EndLine x)
unfolding event_at numbered_at registered_at timed_at identified_at one count_behind worded_at running_at arranged_at valued_at behind is_word
end_step form x w is = ap (λ o. first_of (option_or (option_map EndLine o) None) None) is

ret_step : (form : ℕ) → event_at form (codes "ret") ≡ Some Ret
unfolding event_at numbered_at registered_at timed_at identified_at one count_behind worded_at running_at arranged_at valued_at behind is_word
ret_step form = refl

settle_step : (form : ℕ) (w : List ℕ) (e : Event) → settle_at w ≡ Some e → event_at form (codes "settle " ++ w) ≡ Some e
unfolding event_at numbered_at registered_at timed_at identified_at one count_behind worded_at running_at arranged_at valued_at behind is_word
settle_step form w e is = is

send_step : (form : ℕ) (w : List ℕ) (e : Event) → send_at w ≡ Some e → event_at form (codes "send " ++ w) ≡ Some e
unfolding event_at numbered_at registered_at timed_at identified_at one count_behind worded_at running_at arranged_at valued_at behind is_word
send_step form w e is = is

throw_step : (form : ℕ) (v : List ℕ) → event_at form (codes "throw " ++ v) ≡ Some (Throw v)
unfolding event_at numbered_at registered_at timed_at identified_at one count_behind worded_at running_at arranged_at valued_at behind is_word
throw_step form v = refl

report_step : (form : ℕ) (v : List ℕ) → event_at form (codes "report " ++ v) ≡ Some (Report v)
unfolding event_at numbered_at registered_at timed_at identified_at one count_behind worded_at running_at arranged_at valued_at behind is_word
report_step form v = refl

log_step : (form : ℕ) (v : List ℕ) → event_at form (codes "log " ++ v) ≡ Some (Log v)
unfolding event_at numbered_at registered_at timed_at identified_at one count_behind worded_at running_at arranged_at valued_at behind is_word
log_step form v = refl

-- ---- fields that are read

one_reads : (event : ℕ → Event) (n : ℕ) → IsCount n → option_map event (count_at (decimal_of n)) ≡ Some (event n)
one_reads event n fits = ap (option_map event) (count_complete n fits)

turn_reads : (a0 a1 : List ℕ) (n0 : ℕ) (n1 : Option Source) → lacks 32 a0 ≡ true → count_at a0 ≡ Some n0 → source_at a1 ≡ Some n1 → turn_at (a0 ++ 32 ∷ a1) ≡ Some (Turn n0 n1)
unfolding turn_at
turn_reads a0 a1 n0 n1 h0 g0 g1 = rw (cut_front 32 a0 (a1) h0, g0, g1) refl

reg_reads : (a0 a1 : List ℕ) (n0 : ℕ) (n1 : RegKind) → lacks 32 a0 ≡ true → count_at a0 ≡ Some n0 → kind_at a1 ≡ Some n1 → reg_at (a0 ++ 32 ∷ a1) ≡ Some (Reg n0 n1 None)
unfolding reg_at
reg_reads a0 a1 n0 n1 h0 g0 g1 = rw (cut_front 32 a0 (a1) h0, g0, g1) refl

reg_by_reads : (a0 a1 a2 : List ℕ) (n0 : ℕ) (n1 : RegKind) (n2 : ℕ) → lacks 32 a0 ≡ true → lacks 32 a1 ≡ true → count_at a0 ≡ Some n0 → kind_at a1 ≡ Some n1 → count_at a2 ≡ Some n2 → reg_by_at (a0 ++ 32 ∷ (a1 ++ 32 ∷ a2)) ≡ Some (Reg n0 n1 (Some n2))
unfolding reg_by_at three_at
reg_by_reads a0 a1 a2 n0 n1 n2 h0 h1 g0 g1 g2 = rw (cut_front 32 a0 (a1 ++ 32 ∷ a2) h0, cut_front 32 a1 (a2) h1, g0, g1, g2) refl

prio_reads : (a0 a1 : List ℕ) (n0 : ℕ) (n1 : Priority) → lacks 32 a0 ≡ true → count_at a0 ≡ Some n0 → priority_at a1 ≡ Some n1 → prio_at (a0 ++ 32 ∷ a1) ≡ Some (Prio n0 n1)
unfolding prio_at
prio_reads a0 a1 n0 n1 h0 g0 g1 = rw (cut_front 32 a0 (a1) h0, g0, g1) refl

arm_reads : (a0 a1 a2 : List ℕ) (n0 : ℕ) (n1 : ℕ) (n2 : ℕ) → lacks 32 a0 ≡ true → lacks 32 a1 ≡ true → count_at a0 ≡ Some n0 → count_at a1 ≡ Some n1 → count_at a2 ≡ Some n2 → arm_at (a0 ++ 32 ∷ (a1 ++ 32 ∷ a2)) ≡ Some (Arm n0 n1 n2)
unfolding arm_at three_at
arm_reads a0 a1 a2 n0 n1 n2 h0 h1 g0 g1 g2 = rw (cut_front 32 a0 (a1 ++ 32 ∷ a2) h0, cut_front 32 a1 (a2) h1, g0, g1, g2) refl

job_reads : (a0 a1 : List ℕ) (n0 : ℕ) (n1 : Queued) → lacks 32 a0 ≡ true → count_at a0 ≡ Some n0 → queued_at a1 ≡ Some n1 → job_at (a0 ++ 32 ∷ a1) ≡ Some (Job n0 n1)
unfolding job_at
job_reads a0 a1 n0 n1 h0 g0 g1 = rw (cut_front 32 a0 (a1) h0, g0, g1) refl

enq_reads : (a0 a1 a2 a3 : List ℕ) (n0 : ℕ) (n1 : QueueName) (n2 : Bool) (n3 : ℕ) → lacks 32 a0 ≡ true → lacks 32 a1 ≡ true → lacks 32 a2 ≡ true → count_at a0 ≡ Some n0 → queue_at a1 ≡ Some n1 → form_at a2 ≡ Some n2 → count_at a3 ≡ Some n3 → enq_at (a0 ++ 32 ∷ (a1 ++ 32 ∷ (a2 ++ 32 ∷ a3))) ≡ Some (Enq n0 n1 n2 n3)
unfolding enq_at four_at three_at
enq_reads a0 a1 a2 a3 n0 n1 n2 n3 h0 h1 h2 g0 g1 g2 g3 = rw (cut_front 32 a0 (a1 ++ 32 ∷ (a2 ++ 32 ∷ a3)) h0, cut_front 32 a1 (a2 ++ 32 ∷ a3) h1, cut_front 32 a2 (a3) h2, g0, g1, g2, g3) refl

host_reads : (a0 a1 a2 a3 : List ℕ) (n0 : ℕ) (n1 : ℤ) (n2 : Bool) (n3 : ℤ) → lacks 32 a0 ≡ true → lacks 32 a1 ≡ true → lacks 32 a2 ≡ true → count_at a0 ≡ Some n0 → int_at a1 ≡ Some n1 → how_at a2 ≡ Some n2 → int_at a3 ≡ Some n3 → host_at (a0 ++ 32 ∷ (a1 ++ 32 ∷ (a2 ++ 32 ∷ a3))) ≡ Some (Host n0 n1 (answer_of n2 n3))
unfolding host_at four_at three_at
host_reads a0 a1 a2 a3 n0 n1 n2 n3 h0 h1 h2 g0 g1 g2 g3 = rw (cut_front 32 a0 (a1 ++ 32 ∷ (a2 ++ 32 ∷ a3)) h0, cut_front 32 a1 (a2 ++ 32 ∷ a3) h1, cut_front 32 a2 (a3) h2, g0, g1, g2, g3) refl

send_reads : (a0 v : List ℕ) (n : ℕ) → lacks 32 a0 ≡ true → count_at a0 ≡ Some n → send_at (a0 ++ 32 ∷ v) ≡ Some (Send n v)
unfolding send_at
send_reads a0 v n h0 g0 = rw (cut_front 32 a0 v h0, g0) refl

settle_reads : (a0 a1 v : List ℕ) (n : ℕ) (ok : Bool) → lacks 32 a0 ≡ true → lacks 32 a1 ≡ true → count_at a0 ≡ Some n → how_at a1 ≡ Some ok → settle_at (a0 ++ 32 ∷ (a1 ++ 32 ∷ v)) ≡ Some (Settle n ok v)
unfolding settle_at
settle_reads a0 a1 v n ok h0 h1 g0 g1 = rw (cut_front 32 a0 (a1 ++ 32 ∷ v) h0, cut_front 32 a1 v h1, g0, g1) refl

-- ---- all events

spaceless : (n : ℕ) → IsCount n → lacks 32 (decimal_of n) ≡ true
spaceless n h = lacks-decimal 32 n (omega arith) h

not_first : (form : ℕ) → (form == 2) ≡ true → (form == 1) ≡ false
not_first form second = grind (arith, nat_tests)

host_read : (form k : ℕ) (x : ℤ) (ok : Bool) (v : ℤ) → IsCount k → FitsSigned w64 x → FitsSigned w64 v → event_at form (event_text (Host k x (answer_of ok v))) ≡ Some (Host k x (answer_of ok v))
host_read form k x ok v hk hx hv =
    ap (event_at form) (sym (host_is k x ok v))
    ∙ host_step form _ _ (host_reads (decimal_of k) (int_decimal x) (how_word ok) (int_decimal v) k x ok v (spaceless k hk) (lacks-int 32 x (omega arith) hx) (how_free false ok) (count_complete k hk) (int_complete x hx) (how_complete ok) (int_complete v hv))

-- each event is read back from its text
pub event_read : (form : ℕ) (e : Event) → EventFits e → IsTrue (is_of_form form e) → event_at form (event_text e) ≡ Some e
event_read form (Turn n s) h of = turn_step form _ _ (turn_reads (decimal_of n) (source_text s) n s (spaceless n h) (count_complete n h) (source_complete s))
event_read form (Call n) h of = call_step form _ _ (one_reads Call n h)
event_read form Ret h of = ret_step form
event_read form (Throw v) h of = throw_step form v
event_read form (Report v) h of = report_step form v
event_read form (Log v) h of = log_step form v
event_read form (Reg r kind None) h of =
    ap (event_at form) (sym (reg_is r kind))
    ∙ reg_step form _ _ (ap (λ first. reg_read first (decimal_of r ++ 32 ∷ kind_text kind)) of ∙ reg_reads (decimal_of r) (kind_text kind) r kind (spaceless r h.0) (count_complete r h.0) (kind_complete kind))
event_read form (Reg r kind (Some by)) h of =
    ap (event_at form) (sym (reg_by_is r kind by))
    ∙ reg_step form _ _
    (ap (λ first. reg_read first (decimal_of r ++ 32 ∷ (kind_text kind ++ 32 ∷ decimal_of by))) (not_first form of)
    ∙ reg_by_reads (decimal_of r) (kind_text kind) (decimal_of by) r kind by (spaceless r h.0) (kind_spaceless kind) (count_complete r h.0) (kind_complete kind) (count_complete by h.1))
event_read form (Arm r due level) h of = ap (event_at form) (sym (arm_is r due level)) ∙ arm_step form _ _ (arm_reads (decimal_of r) (decimal_of due) (decimal_of level) r due level (spaceless r h.0) (spaceless due h.1) (count_complete r h.0) (count_complete due h.1) (count_complete level h.2))
event_read form (Due n) h of = due_step form _ _ (one_reads Due n h)
event_read form (Drop n) h of = drop_step form _ _ (one_reads Drop n h)
event_read form (Job j q) h of = ap (event_at form) (sym (job_is j q)) ∙ job_step form _ _ (job_reads (decimal_of j) (queued_word q) j q (spaceless j h.0) (count_complete j h.0) (queued_complete q h.1))
event_read form (Run n) h of = run_step form _ _ (one_reads Run n h)
event_read form (Settle n ok v) h of = ap (event_at form) (sym (settle_is n ok v)) ∙ settle_step form _ _ (settle_reads (decimal_of n) (how_word ok) v n ok (spaceless n h.0) (how_free false ok) (count_complete n h.0) (how_complete ok))
event_read form (Period n) h of = period_step form _ _ (one_reads Period n h)
event_read form (IdleLine n) h of = idle_step form _ _ (one_reads IdleLine n h)
event_read form (Frame n) h of = frame_step form _ _ (one_reads Frame n h)
event_read form (Enq r q c n) h of =
    ap (event_at form) (sym (enq_is r q c n))
    ∙ enq_step form _ _ (enq_reads (decimal_of r) (queue_word q) (form_word c) (decimal_of n) r q c n (spaceless r h.0) (queue_spaceless q h.1) (form_free false c) (count_complete r h.0) (queue_complete q h.1) (form_complete c) (count_complete n h.2))
event_read form (Prio s priority) h of = prio_step form _ _ (prio_reads (decimal_of s) (priority_text priority) s priority (spaceless s h) (count_complete s h) (priority_complete priority))
event_read form (Abort n) h of = abort_step form _ _ (one_reads Abort n h)
event_read form (Wait n) h of = wait_step form _ _ (one_reads Wait n h)
event_read form (Host k x (Ok v)) h of = host_read form k x true v h.0 h.1 h.2
event_read form (Host k x (Err v)) h of = host_read form k x false v h.0 h.1 h.2
event_read form (Unhandled n) h of = unhandled_step form _ _ (one_reads Unhandled n h)
event_read form (Handled n) h of = handled_step form _ _ (one_reads Handled n h)
event_read form (Send n v) h of = send_step form _ _ (send_reads (decimal_of n) v n (spaceless n h.0) (count_complete n h.0))
event_read form (EndLine x) h of = end_step form x (end_text x) (end_complete x)

-- ---- no line feed

number_free : (n : ℕ) → IsCount n → lacks 10 (decimal_of n) ≡ true
number_free n h = lacks-decimal 10 n (omega arith) h

int_free : (z : ℤ) → FitsSigned w64 z → lacks 10 (int_decimal z) ≡ true
int_free z h = lacks-int 10 z (omega arith) h

two_free : (a b : List ℕ) → lacks 10 a ≡ true → lacks 10 b ≡ true → lacks 10 (a ++ 32 ∷ b) ≡ true
two_free a b p q = lacks-append 10 a (32 ∷ b) p q

host_free : (k : ℕ) (x : ℤ) (ok : Bool) (v : ℤ) → IsCount k → FitsSigned w64 x → FitsSigned w64 v → lacks 10 (event_text (Host k x (answer_of ok v))) ≡ true
host_free k x ok v hk hx hv = ap (lacks 10) (sym (host_is k x ok v)) ∙ two_free (decimal_of k) _ (number_free k hk) (two_free (int_decimal x) _ (int_free x hx) (two_free (how_word ok) (int_decimal v) (how_free true ok) (int_free v hv)))

pub event_free : (e : Event) → EventFits e → lacks 10 (event_text e) ≡ true
event_free (Turn n s) h = two_free (decimal_of n) (source_text s) (number_free n h) (source_free s)
event_free (Call n) h = number_free n h
event_free Ret h = refl
event_free (Throw v) h = printed_free v h
event_free (Report v) h = printed_free v h
event_free (Log v) h = printed_free v h
event_free (Reg r kind None) h = ap (lacks 10) (sym (reg_is r kind)) ∙ two_free (decimal_of r) (kind_text kind) (number_free r h.0) (kind_free kind)
event_free (Reg r kind (Some by)) h = ap (lacks 10) (sym (reg_by_is r kind by)) ∙ two_free (decimal_of r) _ (number_free r h.0) (two_free (kind_text kind) (decimal_of by) (kind_free kind) (number_free by h.1))
event_free (Arm r due level) h = ap (lacks 10) (sym (arm_is r due level)) ∙ two_free (decimal_of r) _ (number_free r h.0) (two_free (decimal_of due) (decimal_of level) (number_free due h.1) (number_free level h.2))
event_free (Due n) h = number_free n h
event_free (Drop n) h = number_free n h
event_free (Job j q) h = ap (lacks 10) (sym (job_is j q)) ∙ two_free (decimal_of j) (queued_word q) (number_free j h.0) (queued_free q h.1)
event_free (Run n) h = number_free n h
event_free (Settle n ok v) h = ap (lacks 10) (sym (settle_is n ok v)) ∙ two_free (decimal_of n) _ (number_free n h.0) (two_free (how_word ok) v (how_free true ok) (printed_free v h.1))
event_free (Period n) h = number_free n h
event_free (IdleLine n) h = number_free n h
event_free (Frame n) h = number_free n h
event_free (Enq r q c n) h =
    ap (lacks 10) (sym (enq_is r q c n)) ∙ two_free (decimal_of r) _ (number_free r h.0) (two_free (queue_word q) _ (queue_free q h.1) (two_free (form_word c) (decimal_of n) (form_free true c) (number_free n h.2)))
event_free (Prio s priority) h = two_free (decimal_of s) (priority_text priority) (number_free s h) (priority_free priority)
event_free (Abort n) h = number_free n h
event_free (Wait n) h = number_free n h
event_free (Host k x (Ok v)) h = host_free k x true v h.0 h.1 h.2
event_free (Host k x (Err v)) h = host_free k x false v h.0 h.1 h.2
event_free (Unhandled n) h = number_free n h
event_free (Handled n) h = number_free n h
event_free (Send n v) h = two_free (decimal_of n) v (number_free n h.0) (printed_free v h.1)
event_free (EndLine x) h = end_free x
