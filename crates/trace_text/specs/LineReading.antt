-- How one line of a trace is read, by its fields.
use Rattle.std.specs.Prelude.{◌≡◌, ◌≢◌, ℕ, zero, suc, Bool, true, false, List, [], ◌∷◌, ◌++◌, Option, Some, None, option_map, Result, Ok, Err, ℤ, pos, negsuc, codes, find, IsTrue, ◌==◌, if◌then◌else◌}
use Rattle.std.specs.Option.{option_or}
use Rattle.page_types.specs.declared.Source.{Source}
use Rattle.page_types.specs.declared.Source.TheVariants.{User, Net, Dom, Timer, Render, Sched, Idle}
use Rattle.page_types.specs.declared.End.{End}
use Rattle.page_types.specs.declared.End.TheVariants.{Done as DoneEnd, Fuel as FuelEnd, Clock as ClockEnd}
use Rattle.page_types.specs.declared.RegKind.{RegKind}
use Rattle.page_types.specs.declared.RegKind.TheVariants.{Timeout as TimeoutKind, Interval as IntervalKind, Frame as FrameKind, Idle as IdleKind, Post as PostKind, Yield as YieldKind, Host as HostKind, Listener as ListenerKind, Then as ThenKind, Micro as MicroKind, Signal as SignalKind}
use Rattle.page_types.specs.declared.Priority.{Priority}
use Rattle.page_types.specs.declared.Priority.TheVariants.{Background, UserVisible, UserBlocking}
use Rattle.page_types.specs.Events.{Queued, MicroJob, ReactJob, AdoptJob, QueueName, FixedQueue, SignalQueue, Event, Turn, Call, Ret, Throw, Report, Log, Reg, Arm, Due, Drop, Job, Run, Settle, Period, IdleLine, Frame, Enq, Prio, Abort, Wait, Host, Unhandled, Handled, Send, EndLine, Stamped}
use Rattle.page_parts.specs.Words.{is_empty, decimal_of}
use Rattle.page_parts.specs.Spelling.{priority_text}
use Rattle.page_parts.specs.TraceText.{head_text, source_text, end_text, kind_text, event_text}
use Rattle.page_base.specs.Decimals.{number_at, after_digits}
use Rattle.page_base.specs.Fields.{behind, is_word, cut_at, ◌>>=◌, read_or, where_true}
use Rattle.trace_text.specs.Trace.{IsPrinted, EventFits, IsForm, is_of_form, Fits}

-- ---- Ours: fields

-- the number at most so great whose canonical decimal the bytes are
unfoldable pub number_in : ℕ → List ℕ → Option ℕ
number_in most bytes = number_at most bytes >>= λ n. where_true (is_empty (after_digits bytes)) n

-- a number below 2 ^ 64
unfoldable pub count_at : List ℕ → Option ℕ
count_at bytes = number_in 18446744073709551615 bytes

-- the integer with this size below 0
abbrev pub negative : ℕ → Option ℤ
negative zero = None
negative (suc n) = Some (negsuc n)

-- an integer of 64 bits; `-` stands only before a number that is not 0
unfoldable pub int_at : List ℕ → Option ℤ
int_at bytes =
    read_or (behind (codes "-") bytes) (λ digits. number_in 9223372036854775808 digits >>= negative)
    (option_map pos (number_in 9223372036854775807 bytes))

-- all words of a kind
abbrev pub all_sources : List (Option Source)
all_sources = None ∷ Some User ∷ Some Net ∷ Some Dom ∷ Some Timer ∷ Some Render ∷ Some Sched ∷ Some Idle ∷ []

abbrev pub all_kinds : List RegKind
all_kinds =
    TimeoutKind ∷ IntervalKind ∷ FrameKind ∷ IdleKind ∷ PostKind ∷ YieldKind ∷ HostKind ∷ ListenerKind ∷ ThenKind ∷ MicroKind ∷ SignalKind ∷
    []

abbrev pub all_priorities : List Priority
all_priorities = Background ∷ UserVisible ∷ UserBlocking ∷ []

abbrev pub all_ends : List End
all_ends = DoneEnd ∷ FuelEnd ∷ ClockEnd ∷ []

-- the source, the kind, the priority, the end of this word
unfoldable pub source_at : List ℕ → Option (Option Source)
source_at word = find (λ s. is_word (source_text s) word) all_sources

unfoldable pub kind_at : List ℕ → Option RegKind
kind_at word = find (λ k. is_word (kind_text k) word) all_kinds

unfoldable pub priority_at : List ℕ → Option Priority
priority_at word = find (λ p. is_word (priority_text p) word) all_priorities

unfoldable pub end_at : List ℕ → Option End
end_at word = find (λ e. is_word (end_text e) word) all_ends

-- `ok` or `err`
unfoldable pub how_at : List ℕ → Option Bool
how_at word = if is_word (codes "ok") word then Some true else if is_word (codes "err") word then Some false else None

-- `cont` or `task`
unfoldable pub form_at : List ℕ → Option Bool
form_at word = if is_word (codes "cont") word then Some true else if is_word (codes "task") word then Some false else None

-- a priority, or `s` and the number of a signal
unfoldable pub queue_at : List ℕ → Option QueueName
queue_at word =
    read_or (behind (codes "s") word) (λ digits. option_map SignalQueue (count_at digits))
    (option_map FixedQueue (priority_at word))

-- `micro`, `react` or `adopt`, and a number
unfoldable pub queued_at : List ℕ → Option Queued
queued_at bytes =
    read_or (behind (codes "micro ") bytes) (λ digits. option_map MicroJob (count_at digits))
    (read_or (behind (codes "react ") bytes) (λ digits. option_map ReactJob (count_at digits))
    (read_or (behind (codes "adopt ") bytes) (λ digits. option_map AdoptJob (count_at digits)) None))

-- ---- Ours: the fields of events

-- the number that is all that stands behind a word
unfoldable pub count_behind : (word bytes : List ℕ) → Option ℕ
count_behind word bytes = read_or (behind word bytes) count_at None

-- an event with one number, behind its word
unfoldable pub one : (word : List ℕ) → (ℕ → Event) → List ℕ → Option Event
one word event bytes = option_map event (count_behind word bytes)

-- three fields, a space between each two; more spaces belong to the last
unfoldable pub three_at : List ℕ → Option (List ℕ × List ℕ × List ℕ)
three_at bytes = do
  first ← cut_at 32 bytes
  second ← cut_at 32 first.1
  Some (first.0, second.0, second.1)

-- four fields in the same way
unfoldable pub four_at : List ℕ → Option (List ℕ × List ℕ × List ℕ × List ℕ)
four_at bytes = do
  first ← cut_at 32 bytes
  others ← three_at first.1
  Some (first.0, others.0, others.1, others.2)

unfoldable pub turn_at : List ℕ → Option Event
turn_at bytes = do
  first ← cut_at 32 bytes
  n ← count_at first.0
  source ← source_at first.1
  Some (Turn n source)

-- a registration in the first form
unfoldable pub reg_at : List ℕ → Option Event
reg_at bytes = do
  first ← cut_at 32 bytes
  r ← count_at first.0
  kind ← kind_at first.1
  Some (Reg r kind None)

-- a registration in the second form, which tells who registered
unfoldable pub reg_by_at : List ℕ → Option Event
reg_by_at bytes = do
  fields ← three_at bytes
  r ← count_at fields.0
  kind ← kind_at fields.1
  by ← count_at fields.2
  Some (Reg r kind (Some by))

unfoldable pub prio_at : List ℕ → Option Event
prio_at bytes = do
  first ← cut_at 32 bytes
  s ← count_at first.0
  priority ← priority_at first.1
  Some (Prio s priority)

unfoldable pub arm_at : List ℕ → Option Event
arm_at bytes = do
  fields ← three_at bytes
  r ← count_at fields.0
  due ← count_at fields.1
  level ← count_at fields.2
  Some (Arm r due level)

unfoldable pub job_at : List ℕ → Option Event
job_at bytes = do
  first ← cut_at 32 bytes
  j ← count_at first.0
  what ← queued_at first.1
  Some (Job j what)

unfoldable pub enq_at : List ℕ → Option Event
enq_at bytes = do
  fields ← four_at bytes
  r ← count_at fields.0
  queue ← queue_at fields.1
  continuation ← form_at fields.2
  n ← count_at fields.3
  Some (Enq r queue continuation n)

-- the answer of a host closure: its value, or its fault
abbrev pub answer_of : Bool → ℤ → Result ℤ ℤ
answer_of true value = Ok value
answer_of false value = Err value

unfoldable pub host_at : List ℕ → Option Event
host_at bytes = do
  fields ← four_at bytes
  k ← count_at fields.0
  x ← int_at fields.1
  ok ← how_at fields.2
  value ← int_at fields.3
  Some (Host k x (answer_of ok value))

-- the value is the rest of the line, as it stands
unfoldable pub settle_at : List ℕ → Option Event
settle_at bytes = do
  first ← cut_at 32 bytes
  second ← cut_at 32 first.1
  p ← count_at first.0
  ok ← how_at second.0
  Some (Settle p ok second.1)

unfoldable pub send_at : List ℕ → Option Event
send_at bytes = do
  first ← cut_at 32 bytes
  n ← count_at first.0
  Some (Send n first.1)

-- ---- Ours: events

-- the events with the number of a registration
unfoldable pub registered_at : List ℕ → Option Event
registered_at bytes =
    option_or (one (codes "call ") Call bytes)
    (option_or (one (codes "due ") Due bytes) (one (codes "drop ") Drop bytes))

-- the events with a moment
unfoldable pub timed_at : List ℕ → Option Event
timed_at bytes =
    option_or (one (codes "period ") Period bytes)
    (option_or (one (codes "idle ") IdleLine bytes)
    (option_or (one (codes "frame ") Frame bytes) (one (codes "wait ") Wait bytes)))

-- the events with the number of a job, a signal or a promise
unfoldable pub identified_at : List ℕ → Option Event
identified_at bytes =
    option_or (one (codes "run ") Run bytes)
    (option_or (one (codes "abort ") Abort bytes)
    (option_or (one (codes "unhandled ") Unhandled bytes) (one (codes "handled ") Handled bytes)))

-- the events with one number
unfoldable pub numbered_at : List ℕ → Option Event
numbered_at bytes = option_or (registered_at bytes) (option_or (timed_at bytes) (identified_at bytes))

-- the events that tell how a run goes on
unfoldable pub running_at : List ℕ → Option Event
running_at bytes =
    if is_word (codes "ret") bytes then Some Ret
    else read_or (behind (codes "turn ") bytes) turn_at
    (read_or (behind (codes "job ") bytes) job_at
    (read_or (behind (codes "end ") bytes) (λ word. option_map EndLine (end_at word)) None))

-- the events that tell what is arranged for a callback, in a form
unfoldable pub arranged_at : ℕ → List ℕ → Option Event
arranged_at form bytes =
    read_or (behind (codes "reg ") bytes) (if form == 1 then reg_at else reg_by_at)
    (read_or (behind (codes "arm ") bytes) arm_at
    (read_or (behind (codes "enq ") bytes) enq_at
    (read_or (behind (codes "prio ") bytes) prio_at
    (read_or (behind (codes "host ") bytes) host_at None))))

-- the events with other fields, but no value, in a form
unfoldable pub worded_at : ℕ → List ℕ → Option Event
worded_at form bytes = option_or (running_at bytes) (arranged_at form bytes)

-- the events with a value
unfoldable pub valued_at : List ℕ → Option Event
valued_at bytes =
    read_or (behind (codes "throw ") bytes) (λ v. Some (Throw v))
    (read_or (behind (codes "report ") bytes) (λ v. Some (Report v))
    (read_or (behind (codes "log ") bytes) (λ v. Some (Log v))
    (read_or (behind (codes "settle ") bytes) settle_at
    (read_or (behind (codes "send ") bytes) send_at None))))

-- ---- Ours: what a reading tells

-- some bytes, as a value, or as none
abbrev pub IsValueRead : List ℕ → Option (List ℕ) → Type 0
IsValueRead bytes None = IsPrinted bytes → ⊥
IsValueRead bytes (Some value) = (value ≡ bytes) × IsPrinted bytes

-- an event by its fields, of which the value is then tested
abbrev pub IsTested : (wanted read : Option Event) → Type 0
IsTested None read = read ≡ None
IsTested (Some e) None = EventFits e → ⊥
IsTested (Some e) (Some read) = (read ≡ e) × EventFits e

-- some bytes, as the text of an event of a form, or as that of none
abbrev pub IsEventRead : ℕ → List ℕ → Option Event → Type 0
IsEventRead form bytes None = (e : Event) → EventFits e → IsTrue (is_of_form form e) → bytes ≢ event_text e
IsEventRead form bytes (Some e) = EventFits e × IsTrue (is_of_form form e) × (bytes ≡ event_text e)

-- the line of an event, without its LF
abbrev pub body_of : Stamped → List ℕ
body_of e = decimal_of e.time ++ 32 ∷ event_text e.event

-- a line without its LF, as that of an event of a form, or as that of none
abbrev pub IsRead : ℕ → List ℕ → Option Stamped → Type 0
IsRead form line None = (e : Stamped) → Fits form e → line ≢ body_of e
IsRead form line (Some e) = Fits form e × (line ≡ body_of e)

-- some bytes, as a head and what stands behind it, or as none
abbrev pub IsHeadRead : List ℕ → Option (ℕ × List ℕ) → Type 0
IsHeadRead bytes None = (form : ℕ) (rest : List ℕ) → IsForm form → bytes ≢ head_text form ++ rest
IsHeadRead bytes (Some head) = IsForm head.0 × (bytes ≡ head_text head.0 ++ head.1)
