-- What the lines before a line tell. A history has the last line first.
use Rattle.std.specs.Prelude.{ℕ, Bool, true, false, if◌then◌else◌, ◌&&◌, List, [], ◌∷◌, filter, length, Option, Some, None, is_some, ◌==◌}
use Rattle.std.specs.List.{list_any}
use Rattle.page_types.specs.declared.Source.{Source}
use Rattle.page_types.specs.declared.Source.TheVariants.{Sched}
use Rattle.page_types.specs.declared.End.TheVariants.{Done, Clock}
use Rattle.page_types.specs.declared.RegKind.{RegKind}
use Rattle.page_types.specs.declared.RegKind.TheVariants as kind
use Rattle.page_types.specs.Events.{Event, Turn, Call, Ret, Throw, Reg, Arm, Due, Drop, Run, Job, Period, Enq, Wait, EndLine, Stamped}

-- ---- Ours: lines and the lines before them

-- the lines before a line, the last one first
abbrev pub History : Type 0
History = List Stamped

-- at each line, with the lines before it, the test holds
abbrev pub each_line : (History → Stamped → Bool) → History → List Stamped → Bool
each_line test past [] = true
each_line test past (e ∷ es) = test past e && each_line test (e ∷ past) es

-- some line is of this kind, and how many are
abbrev pub some_line : (Event → Bool) → History → Bool
some_line test past = list_any (λ e. test e.event) past

abbrev pub count_lines : (Event → Bool) → History → ℕ
count_lines test past = length (filter (λ e. test e.event) past)

-- ---- kinds of lines

abbrev pub is_turn : Event → Bool
is_turn (Turn n source) = true
is_turn e = false

-- a turn that serves the scheduler
abbrev pub is_sched : Option Source → Bool
is_sched (Some Sched) = true
is_sched source = false

abbrev pub is_sched_turn : Event → Bool
is_sched_turn (Turn n source) = is_sched source
is_sched_turn e = false

abbrev pub is_call_of : ℕ → Event → Bool
is_call_of r (Call q) = q == r
is_call_of r e = false

abbrev pub is_reg_of : ℕ → Event → Bool
is_reg_of r (Reg q kind by) = q == r
is_reg_of r e = false

abbrev pub is_arm_of : ℕ → Event → Bool
is_arm_of r (Arm q due level) = q == r
is_arm_of r e = false

abbrev pub is_due_of : ℕ → Event → Bool
is_due_of r (Due q) = q == r
is_due_of r e = false

abbrev pub is_drop_of : ℕ → Event → Bool
is_drop_of r (Drop q) = q == r
is_drop_of r e = false

abbrev pub is_enq_of : ℕ → Event → Bool
is_enq_of r (Enq q queue continuation n) = q == r
is_enq_of r e = false

abbrev pub is_job : Event → Bool
is_job (Job j what) = true
is_job e = false

abbrev pub is_run : Event → Bool
is_run (Run j) = true
is_run e = false

abbrev pub is_period : Event → Bool
is_period (Period d) = true
is_period e = false

-- between two turns nothing is left over: a turn, a wait, the start of an idle period, and an end but for fuel
abbrev pub is_rest : Event → Bool
is_rest (Turn n source) = true
is_rest (Wait t) = true
is_rest (Period d) = true
is_rest (EndLine Done) = true
is_rest (EndLine Clock) = true
is_rest e = false

-- ---- registrations

abbrev pub kind_in : ℕ → Event → Option RegKind → Option RegKind
kind_in r (Reg q kind by) earlier = if q == r then Some kind else earlier
kind_in r e earlier = earlier

-- what a registration is for
abbrev pub kind_of : History → ℕ → Option RegKind
kind_of [] r = None
kind_of (e ∷ past) r = kind_in r e.event (kind_of past r)

abbrev pub is_some_and : {X : Type 0} → (X → Bool) → Option X → Bool
is_some_and test None = false
is_some_and test (Some x) = test x

-- whether a registration is there, for something that passes the test
abbrev pub has_kind : (RegKind → Bool) → History → ℕ → Bool
has_kind test past r = is_some_and test (kind_of past r)

abbrev pub is_host : RegKind → Bool
is_host kind.Host = true
is_host k = false

abbrev pub is_frame : RegKind → Bool
is_frame kind.Frame = true
is_frame k = false

abbrev pub is_idle : RegKind → Bool
is_idle kind.Idle = true
is_idle k = false

-- a callback of `setTimeout` or `setInterval`
abbrev pub is_timer : RegKind → Bool
is_timer kind.Timeout = true
is_timer kind.Interval = true
is_timer k = false

-- a task of `postTask` or the continuation of a yield
abbrev pub is_scheduled : RegKind → Bool
is_scheduled kind.Post = true
is_scheduled kind.Yield = true
is_scheduled k = false

-- what waits for its due time by itself: timers, delays of `postTask` and timeout signals
abbrev pub is_delayed : RegKind → Bool
is_delayed kind.Timeout = true
is_delayed kind.Interval = true
is_delayed kind.Post = true
is_delayed kind.Signal = true
is_delayed k = false

abbrev pub registered_in : Event → List ℕ → List ℕ
registered_in (Reg r kind by) more = r ∷ more
registered_in e more = more

-- the registrations, the last one first
abbrev pub registered : History → List ℕ
registered [] = []
registered (e ∷ past) = registered_in e.event (registered past)

-- those that are for something that passes the test
abbrev pub registered_for : (RegKind → Bool) → History → List ℕ
registered_for test past = filter (has_kind test past) (registered past)

-- ---- what became of a registration

abbrev pub was_called : History → ℕ → Bool
was_called past r = some_line (is_call_of r) past

abbrev pub was_due : History → ℕ → Bool
was_due past r = some_line (is_due_of r) past

abbrev pub was_dropped : History → ℕ → Bool
was_dropped past r = some_line (is_drop_of r) past

abbrev pub armed_in : ℕ → Event → Option ℕ → Option ℕ
armed_in r (Arm q due level) earlier = if q == r then Some due else earlier
armed_in r (Due q) earlier = if q == r then None else earlier
armed_in r e earlier = earlier

-- the time for which a registration is armed, where it is armed and has not been due since
abbrev pub armed_for : History → ℕ → Option ℕ
armed_for [] r = None
armed_for (e ∷ past) r = armed_in r e.event (armed_for past r)

abbrev pub level_in : ℕ → Event → Option ℕ → Option ℕ
level_in r (Arm q due level) earlier = if q == r then Some level else earlier
level_in r e earlier = earlier

-- the level with which a registration was armed last
abbrev pub level_of : History → ℕ → Option ℕ
level_of [] r = None
level_of (e ∷ past) r = level_in r e.event (level_of past r)

-- the registrations that are active: armed and not due since, dropped or not
abbrev pub active : History → List ℕ
active past = filter (λ r. is_some (armed_for past r)) (registered_for is_delayed past)

-- ---- calls

abbrev pub without_first : List ℕ → List ℕ
without_first [] = []
without_first (r ∷ rs) = rs

abbrev pub open_after : Event → List ℕ → List ℕ
open_after (Call r) calls = r ∷ calls
open_after Ret calls = without_first calls
open_after (Throw v) calls = without_first calls
open_after e calls = calls

-- the registrations whose calls are open, the innermost first; a return or a throw ends the innermost
abbrev pub open_registrations : History → List ℕ
open_registrations [] = []
open_registrations (e ∷ past) = open_after e.event (open_registrations past)

-- ---- parts of the history

-- the lines before the last one that passes the test, if there is one
abbrev pub before_last : (Event → Bool) → History → Option History
before_last test [] = None
before_last test (e ∷ past) = if test e.event then Some past else before_last test past

-- the lines since the last one that passes the test, without it, the last one first
abbrev pub since_last : (Event → Bool) → History → History
since_last test [] = []
since_last test (e ∷ past) = if test e.event then [] else e ∷ since_last test past

-- the calls among these lines, the last one first
abbrev pub called_in : Event → List ℕ → List ℕ
called_in (Call r) more = r ∷ more
called_in e more = more

-- the same of lines in a row
abbrev pub calls_in : History → List ℕ
calls_in [] = []
calls_in (e ∷ es) = called_in e.event (calls_in es)

-- the lines of the turn so far
abbrev pub this_turn : History → History
this_turn past = since_last is_turn past

-- whether the last line passes the test
abbrev pub last_line : (Event → Bool) → History → Bool
last_line test [] = false
last_line test (e ∷ past) = test e.event
