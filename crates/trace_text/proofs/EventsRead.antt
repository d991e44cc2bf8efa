-- What the reading of an event gives has these bytes as its text.
use Rattle.std.proofs.Common.{◌≡◌, ℕ, Bool, true, false, List, ◌∷◌, ◌++◌, Option, Some, None, refl, ap, sym, subst, ◌∙◌, append_assoc, append-nil, arith, IsTrue}
use Rattle.std.specs.Prelude.{codes, option_map, ℤ, FitsSigned, ◌==◌, if◌then◌else◌}
use Rattle.std.specs.Int.{w64}
use Rattle.std.proofs.lemmas.Bool.Decides.{nat_tests}
use Rattle.page_types.specs.declared.RegKind.{RegKind}
use Rattle.page_types.specs.Events.{Queued, MicroJob, ReactJob, AdoptJob, QueueName, FixedQueue, SignalQueue, Event, Turn, Call, Ret, Throw, Report, Log, Reg, Arm, Due, Drop, Job, Run, Settle, Period, IdleLine, Frame, Enq, Prio, Abort, Wait, Host, Unhandled, Handled, Send, EndLine}
use Rattle.page_parts.specs.Words.{decimal_of, int_decimal}
use Rattle.page_parts.specs.Spelling.{priority_text}
use Rattle.page_parts.specs.TraceText.{source_text, kind_text, event_text}
use Rattle.page_base.specs.Fields.{◌>>=◌}
use Rattle.trace_text.specs.Trace.{IsCount, AnswerFits, EventFits, IsForm, is_of_form}
use Rattle.trace_text.specs.LineReading.{count_at, int_at, source_at, kind_at, priority_at, end_at, how_at, form_at, queue_at, queued_at, count_behind, one, three_at, four_at, turn_at, reg_at, reg_by_at, prio_at, arm_at, job_at, enq_at, host_at, settle_at, send_at, answer_of, registered_at, timed_at, identified_at, numbered_at, running_at, arranged_at, worded_at, valued_at}
use Rattle.trace_text.proofs.Cutting.{cut_then, some_then, map_then, or_then, either_then, word_then}
use Rattle.trace_text.proofs.Counts.{count_sound, int_sound}
use Rattle.trace_text.proofs.FieldWords.{source_sound, kind_sound, priority_sound, end_sound, how_word, how_sound, form_word, form_sound, queue_word, queue_sound, queued_word, queued_sound}

-- the first answer, or the other one
abbrev pub first_of : {X : Type 0} → Option X → Option X → Option X
first_of None other = other
first_of (Some x) other = Some x

-- the event that the bytes spell, if its value is spelled as a value is
unfoldable pub event_at : ℕ → List ℕ → Option Event
event_at form bytes = first_of (numbered_at bytes) (first_of (worded_at form bytes) (valued_at bytes))

abbrev pub Spelled : ℕ → Event → List ℕ → Type 0
Spelled form e t = EventFits e × IsTrue (is_of_form form e) × (t ≡ event_text e)

-- ---- the text of an event, by its fields

pub job_is : (j : ℕ) (q : Queued) → codes "job " ++ (decimal_of j ++ 32 ∷ queued_word q) ≡ event_text (Job j q)
job_is j (MicroJob r) = refl
job_is j (ReactJob n) = refl
job_is j (AdoptJob n) = refl

assoc_three : (a b c : List ℕ) → a ++ 32 ∷ (b ++ 32 ∷ c) ≡ (a ++ 32 ∷ b) ++ 32 ∷ c
assoc_three a b c = sym (append_assoc a (32 ∷ b) (32 ∷ c))

assoc_four : (a b c d : List ℕ) → a ++ 32 ∷ (b ++ 32 ∷ (c ++ 32 ∷ d)) ≡ ((a ++ 32 ∷ b) ++ 32 ∷ c) ++ 32 ∷ d
assoc_four a b c d = sym (append_assoc (a ++ 32 ∷ b) (32 ∷ c) (32 ∷ d) ∙ append_assoc a (32 ∷ b) ((32 ∷ c) ++ 32 ∷ d))

pub reg_is : (r : ℕ) (kind : RegKind) → codes "reg " ++ (decimal_of r ++ 32 ∷ kind_text kind) ≡ event_text (Reg r kind None)
reg_is r kind = sym (append-nil (codes "reg " ++ (decimal_of r ++ 32 ∷ kind_text kind)))

pub reg_by_is : (r : ℕ) (kind : RegKind) (by : ℕ) → codes "reg " ++ (decimal_of r ++ 32 ∷ (kind_text kind ++ 32 ∷ decimal_of by)) ≡ event_text (Reg r kind (Some by))
reg_by_is r kind by = ap (λ x. codes "reg " ++ x) (assoc_three (decimal_of r) (kind_text kind) (decimal_of by))

pub arm_is : (r due level : ℕ) → codes "arm " ++ (decimal_of r ++ 32 ∷ (decimal_of due ++ 32 ∷ decimal_of level)) ≡ event_text (Arm r due level)
arm_is r due level = ap (λ x. codes "arm " ++ x) (assoc_three (decimal_of r) (decimal_of due) (decimal_of level))

enq_by : (r : ℕ) (q : QueueName) (c : Bool) (n : ℕ) → codes "enq " ++ (((decimal_of r ++ 32 ∷ queue_word q) ++ 32 ∷ form_word c) ++ 32 ∷ decimal_of n) ≡ event_text (Enq r q c n)
enq_by r (FixedQueue priority) true n = refl
enq_by r (FixedQueue priority) false n = refl
enq_by r (SignalQueue s) true n = refl
enq_by r (SignalQueue s) false n = refl

pub enq_is : (r : ℕ) (q : QueueName) (c : Bool) (n : ℕ) → codes "enq " ++ (decimal_of r ++ 32 ∷ (queue_word q ++ 32 ∷ (form_word c ++ 32 ∷ decimal_of n))) ≡ event_text (Enq r q c n)
enq_is r q c n = ap (λ x. codes "enq " ++ x) (assoc_four (decimal_of r) (queue_word q) (form_word c) (decimal_of n)) ∙ enq_by r q c n

host_by : (k : ℕ) (x : ℤ) (ok : Bool) (v : ℤ) → codes "host " ++ ((decimal_of k ++ 32 ∷ int_decimal x) ++ 32 ∷ (how_word ok ++ 32 ∷ int_decimal v)) ≡ event_text (Host k x (answer_of ok v))
host_by k x true v = refl
host_by k x false v = refl

pub host_is : (k : ℕ) (x : ℤ) (ok : Bool) (v : ℤ) → codes "host " ++ (decimal_of k ++ 32 ∷ (int_decimal x ++ 32 ∷ (how_word ok ++ 32 ∷ int_decimal v))) ≡ event_text (Host k x (answer_of ok v))
host_is k x ok v = ap (λ y. codes "host " ++ y) (assoc_three (decimal_of k) (int_decimal x) (how_word ok ++ 32 ∷ int_decimal v)) ∙ host_by k x ok v

settle_by : (n : ℕ) (ok : Bool) (v : List ℕ) → codes "settle " ++ ((decimal_of n ++ 32 ∷ how_word ok) ++ 32 ∷ v) ≡ event_text (Settle n ok v)
settle_by n true v = refl
settle_by n false v = refl

pub settle_is : (n : ℕ) (ok : Bool) (v : List ℕ) → codes "settle " ++ (decimal_of n ++ 32 ∷ (how_word ok ++ 32 ∷ v)) ≡ event_text (Settle n ok v)
settle_is n ok v = ap (λ x. codes "settle " ++ x) (assoc_three (decimal_of n) (how_word ok) v) ∙ settle_by n ok v

-- ---- fields in a row

two : (start a b x y : List ℕ) → a ≡ x → b ≡ y → start ++ (a ++ 32 ∷ b) ≡ start ++ (x ++ 32 ∷ y)
two start a b x y h k = cc

three : (start a b c x y z : List ℕ) → a ≡ x → b ≡ y → c ≡ z → start ++ (a ++ 32 ∷ (b ++ 32 ∷ c)) ≡ start ++ (x ++ 32 ∷ (y ++ 32 ∷ z))
three start a b c x y z h k l = cc

four : (start a b c d x y z u : List ℕ) → a ≡ x → b ≡ y → c ≡ z → d ≡ u → start ++ (a ++ 32 ∷ (b ++ 32 ∷ (c ++ 32 ∷ d))) ≡ start ++ (x ++ 32 ∷ (y ++ 32 ∷ (z ++ 32 ∷ u)))
four start a b c d x y z u h k l m = cc

same : (a b : Event) → Some a ≡ Some b → a ≡ b
same a b h = cc

-- ---- events with one number

one_sound : (form : ℕ) (start : List ℕ) (event : ℕ → Event) → ((n : ℕ) → IsCount n → EventFits (event n)) → ((n : ℕ) → IsTrue (is_of_form form (event n))) → ((n : ℕ) → start ++ decimal_of n ≡ event_text (event n)) → (e : Event) (t : List ℕ) → one start event t ≡ Some e → Spelled form e t
unfolding one count_behind
one_sound form start event fits formed text e t is =
    map_then (Spelled form e t) (count_behind start t) event e is
    (λ n o is. or_then (Spelled form e) start t count_at None n o
    (λ rest q. let read = count_sound n rest q in subst (λ e. Spelled form e (start ++ rest)) is (fits n read.0, formed n, ap (λ xs. start ++ xs) read.1 ∙ text n))
    (λ h. absurd (cc)))

registered_sound : (form : ℕ) (e : Event) (t : List ℕ) → registered_at t ≡ Some e → Spelled form e t
unfolding registered_at
registered_sound form e t is =
    either_then (Spelled form e t) (one (codes "call ") Call t) _ e is (one_sound form (codes "call ") Call (λ n h. h) (λ n. refl) (λ n. refl) e t)
    (λ e1. either_then (Spelled form e t) (one (codes "due ") Due t) _ e e1 (one_sound form (codes "due ") Due (λ n h. h) (λ n. refl) (λ n. refl) e t)
    (one_sound form (codes "drop ") Drop (λ n h. h) (λ n. refl) (λ n. refl) e t))

timed_sound : (form : ℕ) (e : Event) (t : List ℕ) → timed_at t ≡ Some e → Spelled form e t
unfolding timed_at
timed_sound form e t is =
    either_then (Spelled form e t) (one (codes "period ") Period t) _ e is (one_sound form (codes "period ") Period (λ n h. h) (λ n. refl) (λ n. refl) e t)
    (λ e1. either_then (Spelled form e t) (one (codes "idle ") IdleLine t) _ e e1 (one_sound form (codes "idle ") IdleLine (λ n h. h) (λ n. refl) (λ n. refl) e t)
    (λ e2. either_then (Spelled form e t) (one (codes "frame ") Frame t) _ e e2 (one_sound form (codes "frame ") Frame (λ n h. h) (λ n. refl) (λ n. refl) e t)
    (one_sound form (codes "wait ") Wait (λ n h. h) (λ n. refl) (λ n. refl) e t)))

identified_sound : (form : ℕ) (e : Event) (t : List ℕ) → identified_at t ≡ Some e → Spelled form e t
unfolding identified_at
identified_sound form e t is =
    either_then (Spelled form e t) (one (codes "run ") Run t) _ e is (one_sound form (codes "run ") Run (λ n h. h) (λ n. refl) (λ n. refl) e t)
    (λ e1. either_then (Spelled form e t) (one (codes "abort ") Abort t) _ e e1 (one_sound form (codes "abort ") Abort (λ n h. h) (λ n. refl) (λ n. refl) e t)
    (λ e2. either_then (Spelled form e t) (one (codes "unhandled ") Unhandled t) _ e e2 (one_sound form (codes "unhandled ") Unhandled (λ n h. h) (λ n. refl) (λ n. refl) e t)
    (one_sound form (codes "handled ") Handled (λ n h. h) (λ n. refl) (λ n. refl) e t)))

pub numbered_sound : (form : ℕ) (e : Event) (t : List ℕ) → numbered_at t ≡ Some e → Spelled form e t
unfolding numbered_at
numbered_sound form e t is =
    either_then (Spelled form e t) (registered_at t) _ e is (registered_sound form e t)
    (λ e1. either_then (Spelled form e t) (timed_at t) _ e e1 (timed_sound form e t) (identified_sound form e t))

-- ---- events with other fields

abbrev the_three : (a b c : List ℕ) → List ℕ × List ℕ × List ℕ
the_three a b c = (a, b, c)

three_then : {X : Type 0} (P : List ℕ → Type 0) (w : List ℕ) (next : List ℕ × List ℕ × List ℕ → Option X) (x : X) → (three_at w >>= next) ≡ Some x
    → ((a b c : List ℕ) → next (a, b, c) ≡ Some x → P (a ++ 32 ∷ (b ++ 32 ∷ c))) → P w
unfolding three_at
three_then P w next x is found =
    some_then (P w) (three_at w) next x is
    (λ fields o more. cut_then P w _ fields o
    (λ a r c0. cut_then (λ w. P (a ++ 32 ∷ w)) r _ fields c0
    (λ b c c1. let these : the_three a b c ≡ fields = cc in found a b c (subst (λ f. next f ≡ Some x) (sym these) more))))

abbrev the_four : (a b c d : List ℕ) → List ℕ × List ℕ × List ℕ × List ℕ
the_four a b c d = (a, b, c, d)

four_then : {X : Type 0} (P : List ℕ → Type 0) (w : List ℕ) (next : List ℕ × List ℕ × List ℕ × List ℕ → Option X) (x : X) → (four_at w >>= next) ≡ Some x
    → ((a b c d : List ℕ) → next (a, b, c, d) ≡ Some x → P (a ++ 32 ∷ (b ++ 32 ∷ (c ++ 32 ∷ d)))) → P w
unfolding four_at
four_then P w next x is found =
    some_then (P w) (four_at w) next x is
    (λ fields o more. cut_then P w _ fields o
    (λ a r c0. three_then (λ w. P (a ++ 32 ∷ w)) r _ fields c0
    (λ b c d c1. let these : the_four a b c d ≡ fields = cc in found a b c d (subst (λ f. next f ≡ Some x) (sym these) more))))

answered : (ok : Bool) (v : ℤ) → FitsSigned w64 v → AnswerFits (answer_of ok v)
answered true v h = h
answered false v h = h

turn_sound : (form : ℕ) (e : Event) (w : List ℕ) → turn_at w ≡ Some e → Spelled form e (codes "turn " ++ w)
unfolding turn_at
turn_sound form e w is =
    cut_then (λ w. Spelled form e (codes "turn " ++ (w))) w _ e is
    (λ a0 r0 c0. some_then (Spelled form e (codes "turn " ++ (a0 ++ 32 ∷ r0))) (count_at a0) _ e c0
    (λ n0 o0 d0. some_then (Spelled form e (codes "turn " ++ (a0 ++ 32 ∷ r0))) (source_at r0) _ e d0
    (λ n1 o1 d1.
    let f0 = count_sound n0 a0 o0 in
    let f1 = source_sound n1 r0 o1 in
    subst (λ e. Spelled form e (codes "turn " ++ (a0 ++ 32 ∷ r0))) (same (Turn n0 n1) e d1) ((f0.0), refl, two (codes "turn ") a0 r0 (decimal_of n0) (source_text n1) f0.1 f1))))

reg_sound : (form : ℕ) (e : Event) (w : List ℕ) → (form == 1) ≡ true → reg_at w ≡ Some e → Spelled form e (codes "reg " ++ w)
unfolding reg_at
reg_sound form e w formed is =
    cut_then (λ w. Spelled form e (codes "reg " ++ (w))) w _ e is
    (λ a0 r0 c0. some_then (Spelled form e (codes "reg " ++ (a0 ++ 32 ∷ r0))) (count_at a0) _ e c0
    (λ n0 o0 d0. some_then (Spelled form e (codes "reg " ++ (a0 ++ 32 ∷ r0))) (kind_at r0) _ e d0
    (λ n1 o1 d1.
    let f0 = count_sound n0 a0 o0 in
    let f1 = kind_sound n1 r0 o1 in
    subst (λ e. Spelled form e (codes "reg " ++ (a0 ++ 32 ∷ r0))) (same (Reg n0 n1 None) e d1) ((f0.0, tt), formed, two (codes "reg ") a0 r0 (decimal_of n0) (kind_text n1) f0.1 f1 ∙ reg_is n0 n1))))

reg_by_sound : (form : ℕ) (e : Event) (w : List ℕ) → (form == 2) ≡ true → reg_by_at w ≡ Some e → Spelled form e (codes "reg " ++ w)
unfolding reg_by_at
reg_by_sound form e w formed is =
    three_then (λ w. Spelled form e (codes "reg " ++ (w))) w _ e is
    (λ a0 a1 r1 c1. some_then (Spelled form e (codes "reg " ++ (a0 ++ 32 ∷ (a1 ++ 32 ∷ r1)))) (count_at a0) _ e c1
    (λ n0 o0 d0. some_then (Spelled form e (codes "reg " ++ (a0 ++ 32 ∷ (a1 ++ 32 ∷ r1)))) (kind_at a1) _ e d0
    (λ n1 o1 d1. some_then (Spelled form e (codes "reg " ++ (a0 ++ 32 ∷ (a1 ++ 32 ∷ r1)))) (count_at r1) _ e d1
    (λ n2 o2 d2.
    let f0 = count_sound n0 a0 o0 in
    let f1 = kind_sound n1 a1 o1 in
    let f2 = count_sound n2 r1 o2 in
    subst (λ e. Spelled form e (codes "reg " ++ (a0 ++ 32 ∷ (a1 ++ 32 ∷ r1)))) (same (Reg n0 n1 (Some n2)) e d2) ((f0.0, f2.0), formed, three (codes "reg ") a0 a1 r1 (decimal_of n0) (kind_text n1) (decimal_of n2) f0.1 f1 f2.1 ∙ reg_by_is n0 n1 n2)))))

-- a form that is not 1 is 2
pub second_form : (form : ℕ) → IsForm form → (form == 1) ≡ false → (form == 2) ≡ true
second_form form known other = grind (arith, nat_tests)

-- how a registration is read, by whether the form is 1
abbrev pub reg_read : Bool → List ℕ → Option Event
reg_read first = if first then reg_at else reg_by_at

reg_sound_by : (form : ℕ) (e : Event) (w : List ℕ) (first : Bool) → IsForm form → (form == 1) ≡ first → reg_read first w ≡ Some e → Spelled form e (codes "reg " ++ w)
reg_sound_by form e w true known formed is = reg_sound form e w formed is
reg_sound_by form e w false known formed is = reg_by_sound form e w (second_form form known formed) is

prio_sound : (form : ℕ) (e : Event) (w : List ℕ) → prio_at w ≡ Some e → Spelled form e (codes "prio " ++ w)
unfolding prio_at
prio_sound form e w is =
    cut_then (λ w. Spelled form e (codes "prio " ++ (w))) w _ e is
    (λ a0 r0 c0. some_then (Spelled form e (codes "prio " ++ (a0 ++ 32 ∷ r0))) (count_at a0) _ e c0
    (λ n0 o0 d0. some_then (Spelled form e (codes "prio " ++ (a0 ++ 32 ∷ r0))) (priority_at r0) _ e d0
    (λ n1 o1 d1.
    let f0 = count_sound n0 a0 o0 in
    let f1 = priority_sound n1 r0 o1 in
    subst (λ e. Spelled form e (codes "prio " ++ (a0 ++ 32 ∷ r0))) (same (Prio n0 n1) e d1) ((f0.0), refl, two (codes "prio ") a0 r0 (decimal_of n0) (priority_text n1) f0.1 f1))))

arm_sound : (form : ℕ) (e : Event) (w : List ℕ) → arm_at w ≡ Some e → Spelled form e (codes "arm " ++ w)
unfolding arm_at
arm_sound form e w is =
    three_then (λ w. Spelled form e (codes "arm " ++ (w))) w _ e is
    (λ a0 a1 r1 c1. some_then (Spelled form e (codes "arm " ++ (a0 ++ 32 ∷ (a1 ++ 32 ∷ r1)))) (count_at a0) _ e c1
    (λ n0 o0 d0. some_then (Spelled form e (codes "arm " ++ (a0 ++ 32 ∷ (a1 ++ 32 ∷ r1)))) (count_at a1) _ e d0
    (λ n1 o1 d1. some_then (Spelled form e (codes "arm " ++ (a0 ++ 32 ∷ (a1 ++ 32 ∷ r1)))) (count_at r1) _ e d1
    (λ n2 o2 d2.
    let f0 = count_sound n0 a0 o0 in
    let f1 = count_sound n1 a1 o1 in
    let f2 = count_sound n2 r1 o2 in
    subst (λ e. Spelled form e (codes "arm " ++ (a0 ++ 32 ∷ (a1 ++ 32 ∷ r1)))) (same (Arm n0 n1 n2) e d2) ((f0.0, f1.0, f2.0), refl, three (codes "arm ") a0 a1 r1 (decimal_of n0) (decimal_of n1) (decimal_of n2) f0.1 f1.1 f2.1 ∙ arm_is n0 n1 n2)))))

job_sound : (form : ℕ) (e : Event) (w : List ℕ) → job_at w ≡ Some e → Spelled form e (codes "job " ++ w)
unfolding job_at
job_sound form e w is =
    cut_then (λ w. Spelled form e (codes "job " ++ (w))) w _ e is
    (λ a0 r0 c0. some_then (Spelled form e (codes "job " ++ (a0 ++ 32 ∷ r0))) (count_at a0) _ e c0
    (λ n0 o0 d0. some_then (Spelled form e (codes "job " ++ (a0 ++ 32 ∷ r0))) (queued_at r0) _ e d0
    (λ n1 o1 d1.
    let f0 = count_sound n0 a0 o0 in
    let f1 = queued_sound n1 r0 o1 in
    subst (λ e. Spelled form e (codes "job " ++ (a0 ++ 32 ∷ r0))) (same (Job n0 n1) e d1) ((f0.0, f1.0), refl, two (codes "job ") a0 r0 (decimal_of n0) (queued_word n1) f0.1 f1.1 ∙ job_is n0 n1))))

enq_sound : (form : ℕ) (e : Event) (w : List ℕ) → enq_at w ≡ Some e → Spelled form e (codes "enq " ++ w)
unfolding enq_at
enq_sound form e w is =
    four_then (λ w. Spelled form e (codes "enq " ++ (w))) w _ e is
    (λ a0 a1 a2 r2 c2. some_then (Spelled form e (codes "enq " ++ (a0 ++ 32 ∷ (a1 ++ 32 ∷ (a2 ++ 32 ∷ r2))))) (count_at a0) _ e c2
    (λ n0 o0 d0. some_then (Spelled form e (codes "enq " ++ (a0 ++ 32 ∷ (a1 ++ 32 ∷ (a2 ++ 32 ∷ r2))))) (queue_at a1) _ e d0
    (λ n1 o1 d1. some_then (Spelled form e (codes "enq " ++ (a0 ++ 32 ∷ (a1 ++ 32 ∷ (a2 ++ 32 ∷ r2))))) (form_at a2) _ e d1
    (λ n2 o2 d2. some_then (Spelled form e (codes "enq " ++ (a0 ++ 32 ∷ (a1 ++ 32 ∷ (a2 ++ 32 ∷ r2))))) (count_at r2) _ e d2
    (λ n3 o3 d3.
    let f0 = count_sound n0 a0 o0 in
    let f1 = queue_sound n1 a1 o1 in
    let f2 = form_sound n2 a2 o2 in
    let f3 = count_sound n3 r2 o3 in
    subst (λ e. Spelled form e (codes "enq " ++ (a0 ++ 32 ∷ (a1 ++ 32 ∷ (a2 ++ 32 ∷ r2))))) (same (Enq n0 n1 n2 n3) e d3) ((f0.0, f1.0, f3.0), refl, four (codes "enq ") a0 a1 a2 r2 (decimal_of n0) (queue_word n1) (form_word n2) (decimal_of n3) f0.1 f1.1 f2 f3.1 ∙ enq_is n0 n1 n2 n3))))))

host_sound : (form : ℕ) (e : Event) (w : List ℕ) → host_at w ≡ Some e → Spelled form e (codes "host " ++ w)
unfolding host_at
host_sound form e w is =
    four_then (λ w. Spelled form e (codes "host " ++ (w))) w _ e is
    (λ a0 a1 a2 r2 c2. some_then (Spelled form e (codes "host " ++ (a0 ++ 32 ∷ (a1 ++ 32 ∷ (a2 ++ 32 ∷ r2))))) (count_at a0) _ e c2
    (λ n0 o0 d0. some_then (Spelled form e (codes "host " ++ (a0 ++ 32 ∷ (a1 ++ 32 ∷ (a2 ++ 32 ∷ r2))))) (int_at a1) _ e d0
    (λ n1 o1 d1. some_then (Spelled form e (codes "host " ++ (a0 ++ 32 ∷ (a1 ++ 32 ∷ (a2 ++ 32 ∷ r2))))) (how_at a2) _ e d1
    (λ n2 o2 d2. some_then (Spelled form e (codes "host " ++ (a0 ++ 32 ∷ (a1 ++ 32 ∷ (a2 ++ 32 ∷ r2))))) (int_at r2) _ e d2
    (λ n3 o3 d3.
    let f0 = count_sound n0 a0 o0 in
    let f1 = int_sound n1 a1 o1 in
    let f2 = how_sound n2 a2 o2 in
    let f3 = int_sound n3 r2 o3 in
    subst (λ e. Spelled form e (codes "host " ++ (a0 ++ 32 ∷ (a1 ++ 32 ∷ (a2 ++ 32 ∷ r2))))) (same (Host n0 n1 (answer_of n2 n3)) e d3) ((f0.0, f1.0, answered n2 n3 f3.0), refl, four (codes "host ") a0 a1 a2 r2 (decimal_of n0) (int_decimal n1) (how_word n2) (int_decimal n3) f0.1 f1.1 f2 f3.1 ∙ host_is n0 n1 n2 n3))))))

end_line_sound : (form : ℕ) (e : Event) (w : List ℕ) → option_map EndLine (end_at w) ≡ Some e → Spelled form e (codes "end " ++ w)
end_line_sound form e w is =
    map_then (Spelled form e (codes "end " ++ w)) (end_at w) EndLine e is
    (λ x o is. subst (λ e. Spelled form e (codes "end " ++ w)) is (tt, refl, ap (λ xs. codes "end " ++ xs) (end_sound x w o)))

running_sound : (form : ℕ) (e : Event) (t : List ℕ) → running_at t ≡ Some e → Spelled form e t
unfolding running_at
running_sound form e t is =
    word_then (Spelled form e) (codes "ret") t Ret _ e is (λ h. subst (λ e. Spelled form e (codes "ret")) h (tt, refl, refl))
    (λ e0. or_then (Spelled form e) (codes "turn ") t turn_at _ e e0 (turn_sound form e)
    (λ e1. or_then (Spelled form e) (codes "job ") t job_at _ e e1 (job_sound form e)
    (λ e2. or_then (Spelled form e) (codes "end ") t (λ word. option_map EndLine (end_at word)) None e e2 (end_line_sound form e)
    (λ h. absurd (cc)))))

arranged_sound : (form : ℕ) (e : Event) (t : List ℕ) → IsForm form → arranged_at form t ≡ Some e → Spelled form e t
unfolding arranged_at
arranged_sound form e t known is =
    or_then (Spelled form e) (codes "reg ") t (reg_read (form == 1)) _ e is (λ rest. reg_sound_by form e rest (form == 1) known refl)
    (λ e1. or_then (Spelled form e) (codes "arm ") t arm_at _ e e1 (arm_sound form e)
    (λ e2. or_then (Spelled form e) (codes "enq ") t enq_at _ e e2 (enq_sound form e)
    (λ e3. or_then (Spelled form e) (codes "prio ") t prio_at _ e e3 (prio_sound form e)
    (λ e4. or_then (Spelled form e) (codes "host ") t host_at None e e4 (host_sound form e)
    (λ h. absurd (cc))))))

pub worded_sound : (form : ℕ) (e : Event) (t : List ℕ) → IsForm form → worded_at form t ≡ Some e → Spelled form e t
unfolding worded_at
worded_sound form e t known is = either_then (Spelled form e t) (running_at t) _ e is (running_sound form e t) (arranged_sound form e t known)

-- ---- events with a value

settle_sound : (form : ℕ) (e : Event) (w : List ℕ) → settle_at w ≡ Some e → IsTrue (is_of_form form e) × (codes "settle " ++ w ≡ event_text e)
unfolding settle_at
settle_sound form e w is =
    cut_then (λ w. IsTrue (is_of_form form e) × (codes "settle " ++ w ≡ event_text e)) w _ e is
    (λ a0 r0 c0. cut_then (λ w. IsTrue (is_of_form form e) × (codes "settle " ++ (a0 ++ 32 ∷ w) ≡ event_text e)) r0 _ e c0
    (λ a1 v c1. some_then (IsTrue (is_of_form form e) × (codes "settle " ++ (a0 ++ 32 ∷ (a1 ++ 32 ∷ v)) ≡ event_text e)) (count_at a0) _ e c1
    (λ n o d0. some_then (IsTrue (is_of_form form e) × (codes "settle " ++ (a0 ++ 32 ∷ (a1 ++ 32 ∷ v)) ≡ event_text e)) (how_at a1) _ e d0
    (λ ok o1 d1.
    let f0 = count_sound n a0 o in
    let f1 = how_sound ok a1 o1 in
    subst (λ e. IsTrue (is_of_form form e) × (codes "settle " ++ (a0 ++ 32 ∷ (a1 ++ 32 ∷ v)) ≡ event_text e)) (same (Settle n ok v) e d1) (refl, three (codes "settle ") a0 a1 v (decimal_of n) (how_word ok) v f0.1 f1 refl ∙ settle_is n ok v)))))

send_sound : (form : ℕ) (e : Event) (w : List ℕ) → send_at w ≡ Some e → IsTrue (is_of_form form e) × (codes "send " ++ w ≡ event_text e)
unfolding send_at
send_sound form e w is =
    cut_then (λ w. IsTrue (is_of_form form e) × (codes "send " ++ w ≡ event_text e)) w _ e is
    (λ a0 v c0. some_then (IsTrue (is_of_form form e) × (codes "send " ++ (a0 ++ 32 ∷ v) ≡ event_text e)) (count_at a0) _ e c0
    (λ n o d0.
    let f0 = count_sound n a0 o in
    subst (λ e. IsTrue (is_of_form form e) × (codes "send " ++ (a0 ++ 32 ∷ v) ≡ event_text e)) (same (Send n v) e d0) (refl, two (codes "send ") a0 v (decimal_of n) v f0.1 refl)))

value_sound : (form : ℕ) (make : List ℕ → Event) → ((v : List ℕ) → IsTrue (is_of_form form (make v))) → (e : Event) (v : List ℕ) → Some (make v) ≡ Some e → IsTrue (is_of_form form e) × (event_text (make v) ≡ event_text e)
value_sound form make formed e v h = let is = same (make v) e h in (subst (λ e. IsTrue (is_of_form form e)) is (formed v), ap event_text is)

pub valued_sound : (form : ℕ) (e : Event) (t : List ℕ) → valued_at t ≡ Some e → IsTrue (is_of_form form e) × (t ≡ event_text e)
unfolding valued_at
valued_sound form e t is =
    or_then (λ t. IsTrue (is_of_form form e) × (t ≡ event_text e)) (codes "throw ") t (λ v. Some (Throw v)) _ e is (value_sound form Throw (λ v. refl) e)
    (λ e1. or_then (λ t. IsTrue (is_of_form form e) × (t ≡ event_text e)) (codes "report ") t (λ v. Some (Report v)) _ e e1 (value_sound form Report (λ v. refl) e)
    (λ e2. or_then (λ t. IsTrue (is_of_form form e) × (t ≡ event_text e)) (codes "log ") t (λ v. Some (Log v)) _ e e2 (value_sound form Log (λ v. refl) e)
    (λ e3. or_then (λ t. IsTrue (is_of_form form e) × (t ≡ event_text e)) (codes "settle ") t settle_at _ e e3 (settle_sound form e)
    (λ e4. or_then (λ t. IsTrue (is_of_form form e) × (t ≡ event_text e)) (codes "send ") t send_at None e e4 (send_sound form e)
    (λ h. absurd (cc))))))
