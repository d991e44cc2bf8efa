-- The line of an event tells the event, whatever its numbers and values are.
use Rattle.std.proofs.Common.{◌≡◌, ℕ, zero, suc, ◌+◌, ◌*◌, ◌/◌, ◌%◌, ◌-◌, ◌<◌, Bool, true, false, cond, not, List, [], ◌∷◌, ◌++◌, Option, Some, None, refl, ap, sym, ◌∙◌, arith, eqb, nat_lt, append_assoc, append-nil}
use Rattle.std.specs.Prelude.{codes, ℤ, pos, negsuc, Result, Ok, Err, unwrap_or}
use Rattle.std.proofs.lemmas.Bool.Decides.{nat_tests}
use Rattle.std.proofs.lemmas.List.{append_cancel_right}
use Rattle.page_types.specs.declared.Source.{Source}
use Rattle.page_types.specs.declared.Source.TheVariants.{User, Net, Dom, Timer, Render, Sched, Idle}
use Rattle.page_types.specs.declared.End.{End}
use Rattle.page_types.specs.declared.End.TheVariants.{Done as DoneEnd, Fuel as FuelEnd, Clock as ClockEnd}
use Rattle.page_types.specs.declared.RegKind.{RegKind}
use Rattle.page_types.specs.declared.RegKind.TheVariants.{Timeout as TimeoutKind, Interval as IntervalKind, Frame as FrameKind, Idle as IdleKind, Post as PostKind, Yield as YieldKind, Host as HostKind, Listener as ListenerKind, Then as ThenKind, Micro as MicroKind, Signal as SignalKind}
use Rattle.page_types.specs.declared.Priority.{Priority}
use Rattle.page_types.specs.declared.Priority.TheVariants.{Background, UserVisible, UserBlocking}
use Rattle.page_types.specs.Events.{Queued, MicroJob, ReactJob, AdoptJob, QueueName, FixedQueue, SignalQueue, Event, Turn, Call, Ret, Throw, Report, Log, Reg, Arm, Due, Drop, Job, Run, Settle, Period, IdleLine, Frame, Enq, Prio, Abort, Wait, Host, Unhandled, Handled, Send, EndLine, Stamped}
use Rattle.page_parts.specs.Words.{digits, decimal_of, int_decimal, same_bytes}
use Rattle.page_parts.specs.Spelling.{priority_text}
use Rattle.page_parts.specs.TraceText.{source_text, end_text, kind_text, event_text, line_text}
use Rattle.page_base.specs.Fields.{behind, is_word, cut_at}
use Rattle.trace_text.specs.LineReading.{source_at, kind_at, priority_at, end_at, body_of}
use Rattle.trace_text.proofs.Cutting.{lacks, lacks-append, cut_front, word_whole}

-- ---- numbers

abbrev value_from : ℕ → List ℕ → ℕ
value_from n [] = n
value_from n (d ∷ ds) = value_from (10 * n + (d - 48)) ds

abbrev value : List ℕ → ℕ
value ds = value_from 0 ds

value-append : (n : ℕ) (xs ys : List ℕ) → value_from n (xs ++ ys) ≡ value_from (value_from n xs) ys
value-append n [] ys = refl
value-append n (x ∷ xs) ys = value-append (10 * n + (x - 48)) xs ys

digits-value : (most n : ℕ) → value_from 0 (digits most n) ≡ n
digits-value zero n = omega arith
digits-value (suc most) n = by_size (nat_lt n 10) refl (digits-value most (n / 10))
  where
    by_size : (small : Bool) → nat_lt n 10 ≡ small → value_from 0 (digits most (n / 10)) ≡ n / 10 → value_from 0 (digits (suc most) n) ≡ n
    by_size true e before = rw e (omega arith)
    by_size false e before =
        rw e (value-append 0 (digits most (n / 10)) ((48 + n % 10) ∷ []) ∙ (ap (λ v. 10 * v + (48 + n % 10 - 48)) before ∙ omega arith))

value-again : (n : ℕ) → value (decimal_of n) ≡ n
value-again n = digits-value n n

no_digit : (byte n : ℕ) → byte < 48 → not (eqb (48 + n) byte) ≡ true
no_digit byte n small = grind (arith, nat_tests)

digits-lack : (byte : ℕ) → byte < 48 → (most n : ℕ) → lacks byte (digits most n) ≡ true
digits-lack byte small zero n = rw (no_digit byte n small) refl
digits-lack byte small (suc most) n = by_size (nat_lt n 10) refl (digits-lack byte small most (n / 10))
  where
    by_size : (size : Bool) → nat_lt n 10 ≡ size → lacks byte (digits most (n / 10)) ≡ true → lacks byte (digits (suc most) n) ≡ true
    by_size true e before = rw (e, no_digit byte n small) refl
    by_size false e before =
        let last : lacks byte ((48 + n % 10) ∷ []) ≡ true = rw (no_digit byte (n % 10) small) refl in
        rw e (lacks-append byte (digits most (n / 10)) ((48 + n % 10) ∷ []) before last)

number-spaceless : (n : ℕ) → lacks 32 (decimal_of n) ≡ true
number-spaceless n = digits-lack 32 (omega arith) n n

-- ---- integers

abbrev negated : ℕ → ℤ
negated zero = pos 0
negated (suc n) = negsuc n

abbrev int_value : List ℕ → ℤ
int_value [] = pos 0
int_value (d ∷ ds) = cond (eqb d 45) (negated (value ds)) (pos (value (d ∷ ds)))

plain-int : (ds : List ℕ) → lacks 45 ds ≡ true → int_value ds ≡ pos (value ds)
plain-int [] free = refl
plain-int (d ∷ ds) free = let other : eqb d 45 ≡ false = grind (arith, nat_tests) in rw other refl

int-again : (z : ℤ) → int_value (int_decimal z) ≡ z
int-again (pos n) = plain-int (decimal_of n) (digits-lack 45 (omega arith) n n) ∙ ap pos (value-again n)
int-again (negsuc n) = ap negated (value-again (suc n))

int-spaceless : (z : ℤ) → lacks 32 (int_decimal z) ≡ true
int-spaceless (pos n) = number-spaceless n
int-spaceless (negsuc n) = number-spaceless (suc n)

-- ---- words

abbrev source_of : List ℕ → Option Source
source_of word = unwrap_or (source_at word) None

source-again : (x : Option Source) → source_of (source_text x) ≡ x
unfolding source_at is_word
source-again None = refl
source-again (Some User) = refl
source-again (Some Net) = refl
source-again (Some Dom) = refl
source-again (Some Timer) = refl
source-again (Some Render) = refl
source-again (Some Sched) = refl
source-again (Some Idle) = refl

abbrev kind_of : List ℕ → RegKind
kind_of word = unwrap_or (kind_at word) TimeoutKind

kind-again : (x : RegKind) → kind_of (kind_text x) ≡ x
unfolding kind_at is_word
kind-again TimeoutKind = refl
kind-again IntervalKind = refl
kind-again FrameKind = refl
kind-again IdleKind = refl
kind-again PostKind = refl
kind-again YieldKind = refl
kind-again HostKind = refl
kind-again ListenerKind = refl
kind-again ThenKind = refl
kind-again MicroKind = refl
kind-again SignalKind = refl

kind-spaceless : (x : RegKind) → lacks 32 (kind_text x) ≡ true
kind-spaceless TimeoutKind = refl
kind-spaceless IntervalKind = refl
kind-spaceless FrameKind = refl
kind-spaceless IdleKind = refl
kind-spaceless PostKind = refl
kind-spaceless YieldKind = refl
kind-spaceless HostKind = refl
kind-spaceless ListenerKind = refl
kind-spaceless ThenKind = refl
kind-spaceless MicroKind = refl
kind-spaceless SignalKind = refl

kind-whole : (x : RegKind) → cut_at 32 (kind_text x) ≡ None
kind-whole TimeoutKind = refl
kind-whole IntervalKind = refl
kind-whole FrameKind = refl
kind-whole IdleKind = refl
kind-whole PostKind = refl
kind-whole YieldKind = refl
kind-whole HostKind = refl
kind-whole ListenerKind = refl
kind-whole ThenKind = refl
kind-whole MicroKind = refl
kind-whole SignalKind = refl

abbrev priority_of : List ℕ → Priority
priority_of word = unwrap_or (priority_at word) Background

priority-again : (x : Priority) → priority_of (priority_text x) ≡ x
unfolding priority_at is_word
priority-again Background = refl
priority-again UserVisible = refl
priority-again UserBlocking = refl

abbrev end_of : List ℕ → End
end_of word = unwrap_or (end_at word) DoneEnd

end-again : (x : End) → end_of (end_text x) ≡ x
unfolding end_at is_word
end-again DoneEnd = refl
end-again FuelEnd = refl
end-again ClockEnd = refl

abbrev how_word : Bool → List ℕ
how_word true = codes "ok"
how_word false = codes "err"

abbrev how_of : List ℕ → Bool
how_of word = is_word (codes "ok") word

how-again : (x : Bool) → how_of (how_word x) ≡ x
unfolding is_word
how-again true = refl
how-again false = refl

how-spaceless : (x : Bool) → lacks 32 (how_word x) ≡ true
how-spaceless true = refl
how-spaceless false = refl

abbrev task_word : Bool → List ℕ
task_word true = codes "cont"
task_word false = codes "task"

abbrev task_of : List ℕ → Bool
task_of word = is_word (codes "cont") word

task-again : (x : Bool) → task_of (task_word x) ≡ x
unfolding is_word
task-again true = refl
task-again false = refl

task-spaceless : (x : Bool) → lacks 32 (task_word x) ≡ true
task-spaceless true = refl
task-spaceless false = refl

-- what follows a start, or else the other answer
abbrev behind_or : {X : Type 0} → Option (List ℕ) → (List ℕ → X) → X → X
behind_or None read other = other
behind_or (Some rest) read other = read rest

abbrev queue_word : QueueName → List ℕ
queue_word (FixedQueue priority) = priority_text priority
queue_word (SignalQueue s) = codes "s" ++ decimal_of s

abbrev queue_of : List ℕ → QueueName
queue_of word = behind_or (behind (codes "s") word) (λ ds. SignalQueue (value ds)) (FixedQueue (priority_of word))

queue-again : (x : QueueName) → queue_of (queue_word x) ≡ x
unfolding behind priority_at is_word
queue-again (FixedQueue Background) = refl
queue-again (FixedQueue UserVisible) = refl
queue-again (FixedQueue UserBlocking) = refl
queue-again (SignalQueue s) = ap SignalQueue (value-again s)

queue-spaceless : (x : QueueName) → lacks 32 (queue_word x) ≡ true
queue-spaceless (FixedQueue Background) = refl
queue-spaceless (FixedQueue UserVisible) = refl
queue-spaceless (FixedQueue UserBlocking) = refl
queue-spaceless (SignalQueue s) = number-spaceless s

abbrev queued_word : Queued → List ℕ
queued_word (MicroJob r) = codes "micro " ++ decimal_of r
queued_word (ReactJob n) = codes "react " ++ decimal_of n
queued_word (AdoptJob n) = codes "adopt " ++ decimal_of n

abbrev queued_of : List ℕ → Queued
queued_of bytes =
    behind_or (behind (codes "micro ") bytes) (λ ds. MicroJob (value ds))
    (behind_or (behind (codes "react ") bytes) (λ ds. ReactJob (value ds))
    (behind_or (behind (codes "adopt ") bytes) (λ ds. AdoptJob (value ds)) (MicroJob 0)))

queued-again : (x : Queued) → queued_of (queued_word x) ≡ x
unfolding behind
queued-again (MicroJob r) = ap MicroJob (value-again r)
queued-again (ReactJob n) = ap ReactJob (value-again n)
queued-again (AdoptJob n) = ap AdoptJob (value-again n)

-- ---- fields

abbrev Cut : Type 0
Cut = Option (List ℕ × List ℕ)

-- two fields, the second as it stands
abbrev two_of : (List ℕ → List ℕ → Event) → Cut → Event
two_of make None = Ret
two_of make (Some c) = make c.0 c.1

two-again : (make : List ℕ → List ℕ → Event) (a b : List ℕ) → lacks 32 a ≡ true → two_of make (cut_at 32 (a ++ 32 ∷ b)) ≡ make a b
two-again make a b free = ap (two_of make) (cut_front 32 a b free)

-- three fields
abbrev three_of : (List ℕ → List ℕ → List ℕ → Event) → Cut → Event
three_of make c = two_of (λ a rest. two_of (make a) (cut_at 32 rest)) c

three-again : (make : List ℕ → List ℕ → List ℕ → Event) (a b c : List ℕ) → lacks 32 a ≡ true → lacks 32 b ≡ true
    → three_of make (cut_at 32 ((a ++ 32 ∷ b) ++ 32 ∷ c)) ≡ make a b c
three-again make a b c free other =
    ap (λ bs. three_of make (cut_at 32 bs)) (append_assoc a (32 ∷ b) (32 ∷ c))
    ∙ (two-again (λ a rest. two_of (make a) (cut_at 32 rest)) a (b ++ 32 ∷ c) free ∙ two-again (make a) b c other)

-- four fields
abbrev four_of : (List ℕ → List ℕ → List ℕ → List ℕ → Event) → Cut → Event
four_of make c = two_of (λ a rest. three_of (make a) (cut_at 32 rest)) c

four-again : (make : List ℕ → List ℕ → List ℕ → List ℕ → Event) (a b c d : List ℕ) → lacks 32 a ≡ true → lacks 32 b ≡ true → lacks 32 c ≡ true
    → four_of make (cut_at 32 (((a ++ 32 ∷ b) ++ 32 ∷ c) ++ 32 ∷ d)) ≡ make a b c d
four-again make a b c d free other more =
    ap (λ bs. four_of make (cut_at 32 bs)) (append_assoc (a ++ 32 ∷ b) (32 ∷ c) (32 ∷ d) ∙ append_assoc a (32 ∷ b) ((32 ∷ c) ++ 32 ∷ d))
    ∙ (two-again (λ a rest. three_of (make a) (cut_at 32 rest)) a (b ++ 32 ∷ (c ++ 32 ∷ d)) free
    ∙ (two-again (λ b rest. two_of (make a b) (cut_at 32 rest)) b (c ++ 32 ∷ d) other ∙ two-again (make a b) c d more))

-- ---- events

abbrev answer_of : Bool → ℤ → Result ℤ ℤ
answer_of true v = Ok v
answer_of false v = Err v

-- the kind of a registration, and the one by which it was made
abbrev reg_of : ℕ → List ℕ → Cut → Event
reg_of r word None = Reg r (kind_of word) None
reg_of r word (Some c) = Reg r (kind_of c.0) (Some (value c.1))

abbrev turn_of : List ℕ → List ℕ → Event
turn_of n source = Turn (value n) (source_of source)

abbrev arm_of : List ℕ → List ℕ → List ℕ → Event
arm_of r due level = Arm (value r) (value due) (value level)

abbrev enq_of : List ℕ → List ℕ → List ℕ → List ℕ → Event
enq_of r queue task n = Enq (value r) (queue_of queue) (task_of task) (value n)

abbrev host_of : List ℕ → List ℕ → List ℕ → List ℕ → Event
host_of k x how v = Host (value k) (int_value x) (answer_of (how_of how) (int_value v))

-- the event that a text is of, where it is one
abbrev event_of : List ℕ → Event
event_of bs =
    behind_or (behind (codes "call ") bs) (λ ds. Call (value ds))
    (behind_or (behind (codes "due ") bs) (λ ds. Due (value ds))
    (behind_or (behind (codes "drop ") bs) (λ ds. Drop (value ds))
    (behind_or (behind (codes "run ") bs) (λ ds. Run (value ds))
    (behind_or (behind (codes "period ") bs) (λ ds. Period (value ds))
    (behind_or (behind (codes "idle ") bs) (λ ds. IdleLine (value ds))
    (behind_or (behind (codes "frame ") bs) (λ ds. Frame (value ds))
    (behind_or (behind (codes "abort ") bs) (λ ds. Abort (value ds))
    (behind_or (behind (codes "wait ") bs) (λ ds. Wait (value ds))
    (behind_or (behind (codes "unhandled ") bs) (λ ds. Unhandled (value ds))
    (behind_or (behind (codes "handled ") bs) (λ ds. Handled (value ds))
    (behind_or (behind (codes "throw ") bs) Throw
    (behind_or (behind (codes "report ") bs) Report
    (behind_or (behind (codes "log ") bs) Log
    (behind_or (behind (codes "end ") bs) (λ word. EndLine (end_of word))
    (behind_or (behind (codes "turn ") bs) (λ rest. two_of turn_of (cut_at 32 rest))
    (behind_or (behind (codes "reg ") bs) (λ rest. two_of (λ r kind. reg_of (value r) kind (cut_at 32 kind)) (cut_at 32 rest))
    (behind_or (behind (codes "arm ") bs) (λ rest. three_of arm_of (cut_at 32 rest))
    (behind_or (behind (codes "job ") bs) (λ rest. two_of (λ j what. Job (value j) (queued_of what)) (cut_at 32 rest))
    (behind_or (behind (codes "enq ") bs) (λ rest. four_of enq_of (cut_at 32 rest))
    (behind_or (behind (codes "prio ") bs) (λ rest. two_of (λ s p. Prio (value s) (priority_of p)) (cut_at 32 rest))
    (behind_or (behind (codes "host ") bs) (λ rest. four_of host_of (cut_at 32 rest))
    (behind_or (behind (codes "settle ") bs) (λ rest. three_of (λ n how v. Settle (value n) (how_of how) v) (cut_at 32 rest))
    (behind_or (behind (codes "send ") bs) (λ rest. two_of (λ n v. Send (value n) v) (cut_at 32 rest))
    Ret)))))))))))))))))))))))

turn-again : (n : ℕ) (s : Option Source) → two_of turn_of (cut_at 32 (decimal_of n ++ 32 ∷ source_text s)) ≡ Turn n s
turn-again n s =
    two-again turn_of (decimal_of n) (source_text s) (number-spaceless n)
    ∙ (ap (λ n. Turn n (source_of (source_text s))) (value-again n) ∙ ap (Turn n) (source-again s))

prio-again : (s : ℕ) (p : Priority) → two_of (λ s p. Prio (value s) (priority_of p)) (cut_at 32 (decimal_of s ++ 32 ∷ priority_text p)) ≡ Prio s p
prio-again s p =
    two-again (λ s p. Prio (value s) (priority_of p)) (decimal_of s) (priority_text p) (number-spaceless s)
    ∙ (ap (λ s. Prio s (priority_of (priority_text p))) (value-again s) ∙ ap (Prio s) (priority-again p))

job-again : (j : ℕ) (what : Queued) → two_of (λ j what. Job (value j) (queued_of what)) (cut_at 32 (decimal_of j ++ 32 ∷ queued_word what)) ≡ Job j what
job-again j what =
    two-again (λ j what. Job (value j) (queued_of what)) (decimal_of j) (queued_word what) (number-spaceless j)
    ∙ (ap (λ j. Job j (queued_of (queued_word what))) (value-again j) ∙ ap (Job j) (queued-again what))

send-again : (n : ℕ) (v : List ℕ) → two_of (λ n v. Send (value n) v) (cut_at 32 (decimal_of n ++ 32 ∷ v)) ≡ Send n v
send-again n v = two-again (λ n v. Send (value n) v) (decimal_of n) v (number-spaceless n) ∙ ap (λ n. Send n v) (value-again n)

abbrev the_reg : List ℕ → List ℕ → Event
the_reg r kind = reg_of (value r) kind (cut_at 32 kind)

reg-again : (r : ℕ) (kind : RegKind) → two_of the_reg (cut_at 32 (decimal_of r ++ 32 ∷ kind_text kind)) ≡ Reg r kind None
reg-again r kind =
    two-again the_reg (decimal_of r) (kind_text kind) (number-spaceless r)
    ∙ (ap (reg_of (value (decimal_of r)) (kind_text kind)) (kind-whole kind)
    ∙ (ap (λ r. Reg r (kind_of (kind_text kind)) None) (value-again r) ∙ ap (λ k. Reg r k None) (kind-again kind)))

reg-by-again : (r : ℕ) (kind : RegKind) (by : ℕ) → two_of the_reg (cut_at 32 ((decimal_of r ++ 32 ∷ kind_text kind) ++ 32 ∷ decimal_of by)) ≡ Reg r kind (Some by)
reg-by-again r kind by =
    ap (λ bs. two_of the_reg (cut_at 32 bs)) (append_assoc (decimal_of r) (32 ∷ kind_text kind) (32 ∷ decimal_of by))
    ∙ (two-again the_reg (decimal_of r) (kind_text kind ++ 32 ∷ decimal_of by) (number-spaceless r)
    ∙ (ap (reg_of (value (decimal_of r)) (kind_text kind ++ 32 ∷ decimal_of by)) (cut_front 32 (kind_text kind) (decimal_of by) (kind-spaceless kind))
    ∙ (ap (λ r. Reg r (kind_of (kind_text kind)) (Some (value (decimal_of by)))) (value-again r)
    ∙ (ap (λ k. Reg r k (Some (value (decimal_of by)))) (kind-again kind) ∙ ap (λ b. Reg r kind (Some b)) (value-again by)))))

arm-again : (r due level : ℕ) → three_of arm_of (cut_at 32 ((decimal_of r ++ 32 ∷ decimal_of due) ++ 32 ∷ decimal_of level)) ≡ Arm r due level
arm-again r due level =
    three-again arm_of (decimal_of r) (decimal_of due) (decimal_of level) (number-spaceless r) (number-spaceless due)
    ∙ (ap (λ r. Arm r (value (decimal_of due)) (value (decimal_of level))) (value-again r)
    ∙ (ap (λ d. Arm r d (value (decimal_of level))) (value-again due) ∙ ap (Arm r due) (value-again level)))

enq-again : (r : ℕ) (q : QueueName) (task : Bool) (n : ℕ)
    → four_of enq_of (cut_at 32 (((decimal_of r ++ 32 ∷ queue_word q) ++ 32 ∷ task_word task) ++ 32 ∷ decimal_of n)) ≡ Enq r q task n
enq-again r q task n =
    four-again enq_of (decimal_of r) (queue_word q) (task_word task) (decimal_of n) (number-spaceless r) (queue-spaceless q) (task-spaceless task)
    ∙ (ap (λ r. Enq r (queue_of (queue_word q)) (task_of (task_word task)) (value (decimal_of n))) (value-again r)
    ∙ (ap (λ q. Enq r q (task_of (task_word task)) (value (decimal_of n))) (queue-again q)
    ∙ (ap (λ t. Enq r q t (value (decimal_of n))) (task-again task) ∙ ap (Enq r q task) (value-again n))))

host-again : (k : ℕ) (x : ℤ) (how : Bool) (v : ℤ)
    → four_of host_of (cut_at 32 ((decimal_of k ++ 32 ∷ int_decimal x) ++ 32 ∷ (how_word how ++ 32 ∷ int_decimal v))) ≡ Host k x (answer_of how v)
host-again k x how v =
    ap (λ bs. four_of host_of (cut_at 32 bs)) (sym (append_assoc (decimal_of k ++ 32 ∷ int_decimal x) (32 ∷ how_word how) (32 ∷ int_decimal v)))
    ∙ (four-again host_of (decimal_of k) (int_decimal x) (how_word how) (int_decimal v) (number-spaceless k) (int-spaceless x) (how-spaceless how)
    ∙ (ap (λ k. Host k (int_value (int_decimal x)) (answer_of (how_of (how_word how)) (int_value (int_decimal v)))) (value-again k)
    ∙ (ap (λ x. Host k x (answer_of (how_of (how_word how)) (int_value (int_decimal v)))) (int-again x)
    ∙ (ap (λ h. Host k x (answer_of h (int_value (int_decimal v)))) (how-again how) ∙ ap (λ v. Host k x (answer_of how v)) (int-again v)))))

abbrev settle_of : List ℕ → List ℕ → List ℕ → Event
settle_of n how v = Settle (value n) (how_of how) v

settle-again : (n : ℕ) (how : Bool) (v : List ℕ) → three_of settle_of (cut_at 32 ((decimal_of n ++ 32 ∷ how_word how) ++ 32 ∷ v)) ≡ Settle n how v
settle-again n how v =
    three-again settle_of (decimal_of n) (how_word how) v (number-spaceless n) (how-spaceless how)
    ∙ (ap (λ n. Settle n (how_of (how_word how)) v) (value-again n) ∙ ap (λ h. Settle n h v) (how-again how))

event-again : (e : Event) → event_of (event_text e) ≡ e
unfolding behind
event-again (Turn n source) = turn-again n source
event-again (Call r) = ap Call (value-again r)
event-again Ret = refl
event-again (Throw v) = refl
event-again (Report v) = refl
event-again (Log v) = refl
event-again (Reg r kind None) = ap (λ bs. two_of the_reg (cut_at 32 bs)) (append-nil (decimal_of r ++ 32 ∷ kind_text kind)) ∙ reg-again r kind
event-again (Reg r kind (Some by)) = reg-by-again r kind by
event-again (Arm r due level) = arm-again r due level
event-again (Due r) = ap Due (value-again r)
event-again (Drop r) = ap Drop (value-again r)
event-again (Job j (MicroJob r)) = job-again j (MicroJob r)
event-again (Job j (ReactJob n)) = job-again j (ReactJob n)
event-again (Job j (AdoptJob n)) = job-again j (AdoptJob n)
event-again (Run j) = ap Run (value-again j)
event-again (Settle n true v) = settle-again n true v
event-again (Settle n false v) = settle-again n false v
event-again (Period d) = ap Period (value-again d)
event-again (IdleLine d) = ap IdleLine (value-again d)
event-again (Frame t) = ap Frame (value-again t)
event-again (Enq r (FixedQueue p) true n) = enq-again r (FixedQueue p) true n
event-again (Enq r (FixedQueue p) false n) = enq-again r (FixedQueue p) false n
event-again (Enq r (SignalQueue s) true n) = enq-again r (SignalQueue s) true n
event-again (Enq r (SignalQueue s) false n) = enq-again r (SignalQueue s) false n
event-again (Prio s priority) = prio-again s priority
event-again (Abort s) = ap Abort (value-again s)
event-again (Wait t) = ap Wait (value-again t)
event-again (Host k x (Ok v)) = host-again k x true v
event-again (Host k x (Err v)) = host-again k x false v
event-again (Unhandled n) = ap Unhandled (value-again n)
event-again (Handled n) = ap Handled (value-again n)
event-again (Send n v) = send-again n v
event-again (EndLine end) = ap EndLine (end-again end)

event-same : (a b : Event) → event_text a ≡ event_text b → a ≡ b
event-same a b h = sym (event-again a) ∙ (ap event_of h ∙ event-again b)

-- ---- lines

-- the time and the event of a line without its LF
abbrev stamped_of : Cut → Stamped
stamped_of None = record { time = 0; event = Ret }
stamped_of (Some c) = record { time = value c.0; event = event_of c.1 }

body-again : (e : Stamped) → stamped_of (cut_at 32 (body_of e)) ≡ e
body-again e =
    ap stamped_of (cut_front 32 (decimal_of e.time) (event_text e.event) (number-spaceless e.time))
    ∙ (ap (λ t. record { time = t; event = event_of (event_text e.event) }) (value-again e.time)
    ∙ ap (λ x. record { time = e.time; event = x }) (event-again e.event))

-- events with the same line are the same
pub line-same : (a b : Stamped) → line_text a ≡ line_text b → a ≡ b
line-same a b h =
    let bodies : body_of a ≡ body_of b = append_cancel_right (body_of a) (body_of b) (10 ∷ []) h in
    sym (body-again a) ∙ (ap (λ bs. stamped_of (cut_at 32 bs)) bodies ∙ body-again b)

unfold_word : (xs ys : List ℕ) → same_bytes xs ys ≡ true → ys ≡ xs
unfolding is_word
unfold_word xs ys is = word_whole xs ys is

pub text-same : (a b : Stamped) → same_bytes (line_text a) (line_text b) ≡ true → a ≡ b
text-same a b is = line-same a b (sym (unfold_word (line_text a) (line_text b) is))

pub bytes-same : (xs : List ℕ) → same_bytes xs xs ≡ true
bytes-same [] = refl
bytes-same (x ∷ xs) = let more = bytes-same xs in let first : eqb x x ≡ true = grind (arith, nat_tests) in rw (first, more) refl
