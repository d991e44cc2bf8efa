-- What is a trace, and where some bytes stop being one.
use Rattle.std.specs.Prelude.{◌≡◌, ◌≢◌, ℕ, ◌+◌, ◌<◌, ◌≤◌, ◌^◌, Bool, true, false, not, ◌&&◌, nat_le, List, [], ◌∷◌, ◌++◌, length, ℤ, Result, Ok, Err, FitsSigned, IsTrue, All, Option, Some, None, ◌==◌}
use Rattle.std.specs.Int.{w64}
use Rattle.page_types.specs.Events.{Queued, MicroJob, ReactJob, AdoptJob, QueueName, FixedQueue, SignalQueue, Event, Turn, Call, Ret, Throw, Report, Log, Reg, Arm, Due, Drop, Job, Run, Settle, Period, IdleLine, Frame, Enq, Prio, Abort, Wait, Host, Unhandled, Handled, Send, EndLine, Stamped}
use Rattle.page_parts.specs.TraceText.{head_text, line_text, text_of}
use Rattle.page_values.specs.Spellings.{IsSpelling}

-- ---- Ours: which events a line can spell

-- a number of a line
abbrev pub IsCount : ℕ → Type 0
IsCount n = n < 2 ^ 64

-- a value of a line, in which lists and bound lists nest at most 64 deep; it may have any weight
-- (a record, so that no goal unfolds the nests)
pub record IsPrinted (bytes : List ℕ) : Type 0 where
  pub spelling : IsSpelling 64 bytes

abbrev pub QueuedFits : Queued → Type 0
QueuedFits (MicroJob r) = IsCount r
QueuedFits (ReactJob p) = IsCount p
QueuedFits (AdoptJob p) = IsCount p

abbrev pub QueueFits : QueueName → Type 0
QueueFits (FixedQueue priority) = Unit {0}
QueueFits (SignalQueue s) = IsCount s

abbrev pub AnswerFits : Result ℤ ℤ → Type 0
AnswerFits (Ok v) = FitsSigned w64 v
AnswerFits (Err v) = FitsSigned w64 v

abbrev pub ByFits : Option ℕ → Type 0
ByFits None = Unit {0}
ByFits (Some r) = IsCount r

-- numbers are below 2 ^ 64, integers have 64 bits, and values are spelled as values are
abbrev pub EventFits : Event → Type 0
EventFits (Turn n source) = IsCount n
EventFits (Call r) = IsCount r
EventFits Ret = Unit {0}
EventFits (Throw v) = IsPrinted v
EventFits (Report v) = IsPrinted v
EventFits (Log v) = IsPrinted v
EventFits (Reg r kind by) = IsCount r × ByFits by
EventFits (Arm r due level) = IsCount r × IsCount due × IsCount level
EventFits (Due r) = IsCount r
EventFits (Drop r) = IsCount r
EventFits (Job j what) = IsCount j × QueuedFits what
EventFits (Run j) = IsCount j
EventFits (Settle p ok v) = IsCount p × IsPrinted v
EventFits (Period d) = IsCount d
EventFits (IdleLine d) = IsCount d
EventFits (Frame t) = IsCount t
EventFits (Enq r queue continuation n) = IsCount r × QueueFits queue × IsCount n
EventFits (Prio s priority) = IsCount s
EventFits (Abort s) = IsCount s
EventFits (Wait t) = IsCount t
EventFits (Host k x answer) = IsCount k × FitsSigned w64 x × AnswerFits answer
EventFits (Unhandled p) = IsCount p
EventFits (Handled p) = IsCount p
EventFits (Send n v) = IsCount n × IsPrinted v
EventFits (EndLine end) = Unit {0}

-- ---- Ours: the two forms of a trace

-- a form is 1 or 2
abbrev pub IsForm : ℕ → Type 0
IsForm form = (1 ≤ form) × (form ≤ 2)

-- whether a registration tells which callback was running: in the second form, and not in the first
abbrev pub is_of_form : ℕ → Event → Bool
is_of_form form (Reg r kind None) = form == 1
is_of_form form (Reg r kind (Some by)) = form == 2
is_of_form form e = true

-- what the line of an event can spell, in a form
abbrev pub Fits : ℕ → Stamped → Type 0
Fits form e = IsCount e.time × EventFits e.event × IsTrue (is_of_form form e.event)

-- ---- Ours: the order of lines

abbrev pub is_end : Event → Bool
is_end (EndLine end) = true
is_end event = false

-- times never fall, and behind an `end` line comes no other
abbrev pub are_in_order : List Stamped → Bool
are_in_order [] = true
are_in_order (e ∷ []) = true
are_in_order (e ∷ next ∷ es) = (not (is_end e.event) && nat_le e.time next.time) && are_in_order (next ∷ es)

-- the last line is an `end` line
abbrev pub ends : List Stamped → Bool
ends [] = false
ends (e ∷ []) = is_end e.event
ends (e ∷ next ∷ es) = ends (next ∷ es)

-- times never fall, and the last line, and no other, is an `end` line
abbrev pub is_whole : List Stamped → Bool
is_whole es = are_in_order es && ends es

-- ---- Ours: traces, and the first line that is refused in its place

-- The bytes are the trace of these events, in this form.
pub record IsTrace (form : ℕ) (bytes : List ℕ) (es : List Stamped) : Type 0 where
  pub spelled : bytes ≡ text_of form es
  pub known : IsForm form
  pub fit : All (Fits form) es
  pub whole : IsTrue (is_whole es)

-- The bytes are no trace, and the line of this number, counted from 1, is the first that is not spelled as one in its
-- place. The lines before it are: the head, and those of events that may stand so. Where the `end` line is missing, it
-- is the line behind the last.
pub data IsBadLine (bytes : List ℕ) (number : ℕ) : Type 0 where
  no_head : number ≡ 1 → ((form : ℕ) (rest : List ℕ) → IsForm form → bytes ≢ head_text form ++ rest) → IsBadLine bytes number
  no_line : (form : ℕ) (good : List Stamped) (rest : List ℕ)
      → bytes ≡ text_of form good ++ rest
      → IsForm form
      → All (Fits form) good
      → IsTrue (are_in_order good)
      → number ≡ length good + 2
      → ((e : Stamped) (more : List ℕ) → Fits form e → IsTrue (are_in_order (good ++ e ∷ [])) → rest ≢ line_text e ++ more)
      → (rest ≡ [] → ends good ≡ false)
      → IsBadLine bytes number

-- the same, of what stands behind the head of a form
abbrev pub IsBadBehindHead : (form : ℕ) → (text : List ℕ) → (number : ℕ) → Type 0
IsBadBehindHead form text number = IsBadLine (head_text form ++ text) number

-- ---- Ours: laws of traces

-- no line of a trace is bad
abbrev pub HasNoBadLine : (form : ℕ) → (bytes : List ℕ) → List Stamped → (number : ℕ) → Type 0
HasNoBadLine form bytes es number = IsTrace form bytes es → IsBadLine bytes number → ⊥

-- bytes that are traces in two forms are so in one
abbrev pub HaveOneForm : (a b : ℕ) → (bytes : List ℕ) → (es others : List Stamped) → Type 0
HaveOneForm a b bytes es others = IsTrace a bytes es → IsTrace b bytes others → a ≡ b

-- bytes that are traces of two lists of events are so of one
abbrev pub HaveSameEvents : (a b : ℕ) → (bytes : List ℕ) → (es others : List Stamped) → Type 0
HaveSameEvents a b bytes es others = IsTrace a bytes es → IsTrace b bytes others → es ≡ others
