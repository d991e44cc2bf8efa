-- The text of a trace.
use Rattle.std.specs.Prelude.{ℕ, Bool, true, false, if◌then◌else◌, List, [], ◌∷◌, ◌++◌, Option, Some, None, ℤ, Result, Ok, Err, codes}
use Rattle.page_types.specs.declared.Source.{Source}
use Rattle.page_types.specs.declared.Source.TheVariants.{User, Net, Dom, Timer, Render, Sched, Idle}
use Rattle.page_types.specs.declared.End.{End}
use Rattle.page_types.specs.declared.End.TheVariants.{Done as DoneEnd, Fuel as FuelEnd, Clock as ClockEnd}
use Rattle.page_types.specs.declared.RegKind.{RegKind}
use Rattle.page_types.specs.declared.RegKind.TheVariants.{Timeout as TimeoutKind, Interval as IntervalKind, Frame as FrameKind, Idle as IdleKind, Post as PostKind, Yield as YieldKind, Host as HostKind, Listener as ListenerKind, Then as ThenKind, Micro as MicroKind, Signal as SignalKind}
use Rattle.page_types.specs.Events.{Queued, MicroJob, ReactJob, AdoptJob, QueueName, FixedQueue, SignalQueue, Event, Turn, Call, Ret, Throw, Report, Log, Reg, Arm, Due, Drop, Job, Run, Settle, Period, IdleLine, Frame, Enq, Prio, Abort, Wait, Host, Unhandled, Handled, Send, EndLine, Stamped}
use Rattle.page_parts.specs.Words.{decimal_of, int_decimal}
use Rattle.page_parts.specs.Spelling.{priority_text}
use Rattle.page_parts.specs.WrittenChoices.{Choices, Recorded}

-- ---- Ours: each event has one line

-- a source by its word; `none` for a turn without a task
abbrev pub source_text : Option Source → List ℕ
source_text None = codes "none"
source_text (Some User) = codes "user"
source_text (Some Net) = codes "net"
source_text (Some Dom) = codes "dom"
source_text (Some Timer) = codes "timer"
source_text (Some Render) = codes "render"
source_text (Some Sched) = codes "sched"
source_text (Some Idle) = codes "idle"

-- why a run ended, by its word
abbrev pub end_text : End → List ℕ
end_text DoneEnd = codes "done"
end_text FuelEnd = codes "fuel"
end_text ClockEnd = codes "clock"

-- what a registration is for, by its word
abbrev pub kind_text : RegKind → List ℕ
kind_text TimeoutKind = codes "timeout"
kind_text IntervalKind = codes "interval"
kind_text FrameKind = codes "frame"
kind_text IdleKind = codes "idle"
kind_text PostKind = codes "post"
kind_text YieldKind = codes "yield"
kind_text HostKind = codes "host"
kind_text ListenerKind = codes "listener"
kind_text ThenKind = codes "then"
kind_text MicroKind = codes "micro"
kind_text SignalKind = codes "signal"

-- a field behind a space
abbrev pub field : List ℕ → List ℕ
field bs = 32 ∷ bs

-- a number behind a space
abbrev pub number_field : ℕ → List ℕ
number_field n = field (decimal_of n)

-- an integer behind a space
abbrev pub int_field : ℤ → List ℕ
int_field n = field (int_decimal n)

-- the registration of the innermost open call, where the form has it
abbrev pub by_field : Option ℕ → List ℕ
by_field None = []
by_field (Some r) = number_field r

-- what a job was queued for
abbrev pub queued_text : Queued → List ℕ
queued_text (MicroJob r) = codes " micro" ++ number_field r
queued_text (ReactJob n) = codes " react" ++ number_field n
queued_text (AdoptJob n) = codes " adopt" ++ number_field n

-- the queue of a scheduler task: a priority, or a signal
abbrev pub queue_text : QueueName → List ℕ
queue_text (FixedQueue priority) = field (priority_text priority)
queue_text (SignalQueue s) = codes " s" ++ decimal_of s

-- whether a promise was fulfilled or a closure answered Ok
abbrev pub how_text : Bool → List ℕ
how_text true = codes " ok"
how_text false = codes " err"

-- the answer of a host closure
abbrev pub answer_text : Result ℤ ℤ → List ℕ
answer_text (Ok v) = how_text true ++ int_field v
answer_text (Err v) = how_text false ++ int_field v

-- the word of an event and its fields
abbrev pub event_text : Event → List ℕ
event_text (Turn n source) = codes "turn" ++ number_field n ++ field (source_text source)
event_text (Call r) = codes "call" ++ number_field r
event_text Ret = codes "ret"
event_text (Throw v) = codes "throw" ++ field v
event_text (Report v) = codes "report" ++ field v
event_text (Log v) = codes "log" ++ field v
event_text (Reg r kind by) = codes "reg" ++ number_field r ++ field (kind_text kind) ++ by_field by
event_text (Arm r due level) = codes "arm" ++ number_field r ++ number_field due ++ number_field level
event_text (Due r) = codes "due" ++ number_field r
event_text (Drop r) = codes "drop" ++ number_field r
event_text (Job j what) = codes "job" ++ number_field j ++ queued_text what
event_text (Run j) = codes "run" ++ number_field j
event_text (Settle n ok v) = codes "settle" ++ number_field n ++ how_text ok ++ field v
event_text (Period d) = codes "period" ++ number_field d
event_text (IdleLine d) = codes "idle" ++ number_field d
event_text (Frame t) = codes "frame" ++ number_field t
event_text (Enq r queue continuation n) =
    codes "enq" ++ number_field r ++ queue_text queue ++ (if continuation then codes " cont" else codes " task") ++ number_field n
event_text (Prio s priority) = codes "prio" ++ number_field s ++ field (priority_text priority)
event_text (Abort s) = codes "abort" ++ number_field s
event_text (Wait t) = codes "wait" ++ number_field t
event_text (Host k x answer) = codes "host" ++ number_field k ++ int_field x ++ answer_text answer
event_text (Unhandled n) = codes "unhandled" ++ number_field n
event_text (Handled n) = codes "handled" ++ number_field n
event_text (Send n v) = codes "send" ++ number_field n ++ field v
event_text (EndLine end) = codes "end" ++ field (end_text end)

-- a line: the time, the event, LF
abbrev pub line_text : Stamped → List ℕ
line_text e = decimal_of e.time ++ 32 ∷ event_text e.event ++ 10 ∷ []

-- the lines of events in a row
abbrev pub lines_text : List Stamped → List ℕ
lines_text [] = []
lines_text (e ∷ es) = line_text e ++ lines_text es

-- the first line, by the form of the trace
abbrev pub head_text : ℕ → List ℕ
head_text form = codes "trace " ++ decimal_of form ++ 10 ∷ []

-- the text of a list of events, in a form
abbrev pub text_of : ℕ → List Stamped → List ℕ
text_of form es = head_text form ++ lines_text es

-- ---- Ours: a trace of form 2 tells of each registration which callback was running; without that it is a trace of form 1

-- an event without it
abbrev pub without_by : Event → Event
without_by (Reg r kind by) = Reg r kind None
without_by e = e

-- events without it
abbrev pub all_without_by : List Stamped → List Stamped
all_without_by [] = []
all_without_by (e ∷ es) = record e { event = without_by e.event } ∷ all_without_by es

-- ---- Ours: the choices that stand in a trace

-- the source of a `turn` line, before those that follow
abbrev pub source_in : Event → List Source → List Source
source_in (Turn n (Some s)) more = s ∷ more
source_in e more = more

-- the time of a `wait` line, before those that follow
abbrev pub reading_in : Stamped → Event → List ℕ → List ℕ
reading_in at (Wait t) more = at.time ∷ more
reading_in at e more = more

-- the answer of a `host` line, before those that follow
abbrev pub answer_in : Event → List (Result ℤ ℤ) → List (Result ℤ ℤ)
answer_in (Host k x answer) more = answer ∷ more
answer_in e more = more

-- the sources that were served
abbrev pub sources_in : List Stamped → List Source
sources_in [] = []
sources_in (e ∷ es) = source_in e.event (sources_in es)

-- the readings of the clock
abbrev pub readings_in : List Stamped → List ℕ
readings_in [] = []
readings_in (e ∷ es) = reading_in e e.event (readings_in es)

-- the answers of host closures
abbrev pub answers_in : List Stamped → List (Result ℤ ℤ)
answers_in [] = []
answers_in (e ∷ es) = answer_in e.event (answers_in es)

-- the choices of a trace, each list in the order of the lines
abbrev pub choices_in : List Stamped → Choices
choices_in es = Recorded (sources_in es) (readings_in es) (answers_in es)
