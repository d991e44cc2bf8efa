-- The numbers that stand in a page were given out before.
use Rattle.std.specs.Prelude.{◌≡◌, ℕ, Bool, true, false, ◌≤◌, ◌<◌, List, [], ◌∷◌, ◌++◌, length, Option, Some, None}
use Rattle.page_types.specs.Values.{Value, UnitValue, BoolValue, IntValue, TextValue, ListValue, FunValue, PromiseValue, SignalValue, ControllerValue, DeadlineValue, FaultValue, Values, no_values, with_value}
use Rattle.page_parts.specs.Words.{numbered}
use Rattle.page_parts.specs.Combinators.{CombinatorKind, All, AnyOf, AllSettled, Pass}
use Rattle.page_parts.specs.Promises.{Settled, settled_value, Reaction, PromiseRecord, PromiseJob, React, Adopt}
use Rattle.page_parts.specs.Notices.{Todo, Micro, OfPromise, WaitingJob, Notices}
use Rattle.page_parts.specs.Timers.{Timers, TimerId}
use Rattle.page_parts.specs.Frames.{Callback}
use Rattle.page_parts.specs.IdleCallbacks.{Idle}
use Rattle.page_parts.specs.AbortGraph.{SignalRecord, Signals, the_signal}
use Rattle.page_parts.specs.TaskSignals.{PrioRecord}
use Rattle.page_parts.specs.Listeners.{Listener, Target, Window, AtSignal}
use Rattle.page_parts.specs.Setup.{Setup}
use Rattle.lang_meaning.specs.Machine.{Variable, Done, Gives, Throws, Returns, OutOfFuel, Caller}
use Rattle.page_model.specs.State.{HostTask, Task, Registration, no_registration, TimerTask, Steps, RunScript, RunTimer, TimeOutSignal, FireAtWindow, AnswerHost, RunFrame, InvokeIdle, IdleTimeout, NotifyRejected, NotifyHandled, PrioSource, Fixed, OfSignal, SchedTask, Completion, QueueTimer, EnqueuePost, QueueSignal, Completing, IdleTimer, SchedulingState, Combining, Element, Page, State, Role, ScriptRole, OfKind}
use Rattle.page_types.specs.declared.RegKind.{RegKind}
use Rattle.page_types.specs.declared.RegKind.TheVariants.{Timeout as TimeoutKind, Interval as IntervalKind, Frame as FrameKind, Idle as IdleKind, Post as PostKind, Yield as YieldKind, Host as HostKind, Listener as ListenerKind, Then as ThenKind, Micro as MicroKind, Signal as SignalKind}

-- ---- Ours: a law by which numbers may stand for things that are there

-- each item of a list is such
abbrev pub Each : {X : Type 0} → (X → Type 0) → List X → Type 0
Each P [] = Unit {0}
Each P (x ∷ xs) = P x × Each P xs

-- what is there is such
abbrev pub IfThere : {X : Type 0} → (X → Type 0) → Option X → Type 0
IfThere P None = Unit {0}
IfThere P (Some x) = P x

-- a list that goes on from another
pub record GoesOnFrom {X : Type 0} (before after : List X) : Type 0 where
  pub rest : List X
  pub whole : after ≡ before ++ rest

-- what was given out: how many promises, signals and scheduling states were made; the registrations; how many timer ids, timer handles
-- and start numbers, frame handles, idle handles, task numbers and
-- job numbers were given; how many host closures and combinators there are
pub record Made : Type 0 where
  pub promises : ℕ
  pub signals : ℕ
  pub states : ℕ
  pub registrations : List Registration
  pub ids : ℕ
  pub handles : ℕ
  pub starts : ℕ
  pub frames : ℕ
  pub idle : ℕ
  pub tasks : ℕ
  pub jobs : ℕ
  pub hosts : ℕ
  pub combinators : ℕ

-- what a page has given out
abbrev pub made_by : Page → Made
made_by p =
    record {
      promises = length p.notices.promises;
      signals = length p.signals;
      states = length p.scheduling_states;
      registrations = p.registrations;
      ids = p.timers.ids_made;
      handles = p.timers.handles_made;
      starts = p.timers.starts_made;
      frames = p.frames.made;
      idle = p.idle.made;
      tasks = p.tasks_made;
      jobs = p.notices.jobs_made;
      hosts = length p.hosts;
      combinators = length p.combinators;
    }

-- more was given out, and what was given before stays
pub record Grows (before after : Made) : Type 0 where
  pub promises : before.promises ≤ after.promises
  pub signals : before.signals ≤ after.signals
  pub states : before.states ≤ after.states
  pub registrations : GoesOnFrom before.registrations after.registrations
  pub ids : before.ids ≤ after.ids
  pub handles : before.handles ≤ after.handles
  pub starts : before.starts ≤ after.starts
  pub frames : before.frames ≤ after.frames
  pub idle : before.idle ≤ after.idle
  pub tasks : before.tasks ≤ after.tasks
  pub jobs : before.jobs ≤ after.jobs
  pub hosts : before.hosts ≤ after.hosts
  pub combinators : before.combinators ≤ after.combinators

-- a number from 1 to the last one that was given
pub record IsGiven (last number : ℕ) : Type 0 where
  pub from_one : 1 ≤ number
  pub to_last : number ≤ last

-- the number of a registration
abbrev pub IsRegistered : Made → ℕ → Type 0
IsRegistered n r = IsGiven (length n.registrations) r

-- the number of a registration that is for this
pub record IsFor (what : Role) (n : Made) (r : ℕ) : Type 0 where
  pub registration : IsRegistered n r
  pub role : (numbered n.registrations r no_registration).role ≡ what

-- what a timer's registration is for: an interval repeats
abbrev pub timer_role : Bool → Role
timer_role true = OfKind IntervalKind
timer_role false = OfKind TimeoutKind

-- what a scheduler task's registration is for
abbrev pub sched_role : Bool → Role
sched_role true = OfKind YieldKind
sched_role false = OfKind PostKind

-- whether this is the role of a timer
abbrev pub is_timer_role : Role → Bool
is_timer_role (OfKind TimeoutKind) = true
is_timer_role (OfKind IntervalKind) = true
is_timer_role role = false

-- whether a signal can abort what a registration of this role is for: a posted callback, a continuation, an answer of a host
abbrev pub is_abortable : Role → Bool
is_abortable (OfKind PostKind) = true
is_abortable (OfKind YieldKind) = true
is_abortable (OfKind HostKind) = true
is_abortable role = false

-- the number of a registration that signal s can abort
pub record IsAbortedBy (n : Made) (s r : ℕ) : Type 0 where
  pub registration : IsRegistered n r
  pub signal : (numbered n.registrations r no_registration).signal ≡ Some s
  pub role : is_abortable (numbered n.registrations r no_registration).role ≡ true

-- the number of a registration that has a promise
pub record HasPromise (n : Made) (r : ℕ) : Type 0 where
  pub registration : IsRegistered n r
  pub promise : IsGiven n.promises (numbered n.registrations r no_registration).promise

abbrev mutual
  -- a value whose promises, signals and controllers are known; a controller has the number of its signal
  pub IsKnown : Made → Value → Type 0
  IsKnown n UnitValue = Unit {0}
  IsKnown n (BoolValue b) = Unit {0}
  IsKnown n (IntValue i) = Unit {0}
  IsKnown n (TextValue bs) = Unit {0}
  IsKnown n (ListValue vs) = AreKnown n vs
  IsKnown n (FunValue f vs) = AreKnown n vs
  IsKnown n (PromiseValue k) = IsGiven n.promises k
  IsKnown n (SignalValue k) = IsGiven n.signals k
  IsKnown n (ControllerValue k) = IsGiven n.signals k
  IsKnown n (DeadlineValue t) = Unit {0}
  IsKnown n (FaultValue name bs) = Unit {0}

  -- the same of values in a row
  pub AreKnown : Made → Values → Type 0
  AreKnown n no_values = Unit {0}
  AreKnown n (with_value v vs) = IsKnown n v × AreKnown n vs

-- ---- Ours: registrations, promises and jobs

-- a registration: its callbacks' bound arguments, its timer id, which only timers have, and its promise (0 for none), its signal
pub record RegistrationIsGiven (n : Made) (x : Registration) : Type 0 where
  pub callback : IfThere (λ f. AreKnown n f.bound) x.callback
  pub second_callback : IfThere (λ f. AreKnown n f.bound) x.second_callback
  pub timer_id : x.timer_id ≤ n.ids
  pub timer : 1 ≤ x.timer_id → is_timer_role x.role ≡ true
  pub promise : x.promise ≤ n.promises
  pub signal : IfThere (IsGiven n.signals) x.signal

-- a reaction: its registration, the promise that it settles, its scheduling state
pub record ReactionIsGiven (n : Made) (x : Reaction) : Type 0 where
  pub registration : IfThere (IsFor (OfKind ThenKind) n) x.registration
  pub into : IsGiven n.promises x.into
  pub state : IfThere (IsGiven n.states) x.state

-- a promise: the value or the reason in its outcome, its reactions
pub record PromiseIsGiven (n : Made) (q : PromiseRecord) : Type 0 where
  pub outcome : IfThere (λ how. IsKnown n (settled_value how)) q.outcome
  pub reactions : Each (ReactionIsGiven n) q.reactions

-- a job of promises
abbrev pub PromiseJobIsGiven : Made → PromiseJob → Type 0
PromiseJobIsGiven n (React of x) = IsGiven n.promises of × ReactionIsGiven n x
PromiseJobIsGiven n (Adopt into from) = IsGiven n.promises into × IsGiven n.promises from

-- what a job does
abbrev pub TodoIsGiven : Made → Todo → Type 0
TodoIsGiven n (Micro r) = IsFor (OfKind MicroKind) n r
TodoIsGiven n (OfPromise job) = PromiseJobIsGiven n job

-- a job that waits: its number, what it does and the scheduling state that it keeps
pub record JobIsGiven (n : Made) (job : WaitingJob) : Type 0 where
  pub number : IsGiven n.jobs job.number
  pub what : TodoIsGiven n job.what
  pub state : IfThere (IsGiven n.states) job.context.state

-- promises, jobs and the lists of rejected promises
pub record NoticesAreGiven (n : Made) (s : Notices) : Type 0 where
  pub promises : Each (PromiseIsGiven n) s.promises
  pub jobs : Each (JobIsGiven n) s.jobs
  pub rejected : Each (IsGiven n.promises) s.rejected
  pub outstanding : Each (IsGiven n.promises) s.outstanding

-- ---- Ours: combinators

-- an outcome: its value or its reason
abbrev pub OutcomeIsKnown : Made → Settled → Type 0
OutcomeIsKnown n how = IsKnown n (settled_value how)

-- which combinator it is: that of `finally` holds an outcome
abbrev pub KindIsGiven : Made → CombinatorKind → Type 0
KindIsGiven n All = Unit {0}
KindIsGiven n AnyOf = Unit {0}
KindIsGiven n AllSettled = Unit {0}
KindIsGiven n (Pass how) = OutcomeIsKnown n how

-- a combinator: its kind, what was reported, and the promise that its answer settles
pub record CombiningIsGiven (n : Made) (c : Combining) : Type 0 where
  pub kind : KindIsGiven n c.combine.kind
  pub reports : Each (λ r. OutcomeIsKnown n r.outcome) c.combine.reports
  pub result : IsGiven n.promises c.result

-- an element: its promise and its combinator
pub record ElementIsGiven (n : Made) (e : Element) : Type 0 where
  pub promise : IsGiven n.promises e.promise
  pub combinator : IsGiven n.combinators e.combinator

-- ---- Ours: tasks

-- the task of a timer: its registration, its id, which is the registration's own, and its handle
pub record TimerTaskIsGiven (n : Made) (t : TimerTask) : Type 0 where
  pub registration : IsFor (timer_role t.repeats) n t.registration
  pub id : IsGiven n.ids t.id
  pub own : (numbered n.registrations t.registration no_registration).timer_id ≡ t.id
  pub handle : IsGiven n.handles t.handle

-- what was asked of a host closure: the registration, which has a promise, and the closure, whose number counts from 0
pub record HostTaskIsGiven (n : Made) (t : HostTask) : Type 0 where
  pub registration : HasPromise n t.registration
  pub kind : IsFor (OfKind HostKind) n t.registration
  pub closure : t.closure < n.hosts

-- the steps of a task
abbrev pub StepsAreGiven : Made → Steps → Type 0
StepsAreGiven n RunScript = IsFor ScriptRole n 1
StepsAreGiven n (RunTimer t) = TimerTaskIsGiven n t
StepsAreGiven n (TimeOutSignal s) = IsGiven n.signals s
StepsAreGiven n (FireAtWindow name v) = IsKnown n v
StepsAreGiven n (AnswerHost t) = HostTaskIsGiven n t
StepsAreGiven n (RunFrame t) = Unit {0}
StepsAreGiven n InvokeIdle = Unit {0}
StepsAreGiven n (IdleTimeout handle) = IsGiven n.idle handle
StepsAreGiven n (NotifyRejected ps) = Each (IsGiven n.promises) ps
StepsAreGiven n (NotifyHandled k) = IsGiven n.promises k

-- a task: its number and its steps
pub record TaskIsGiven (n : Made) (t : Task) : Type 0 where
  pub number : IsGiven n.tasks t.number
  pub steps : StepsAreGiven n t.steps

-- a priority source
abbrev pub PrioSourceIsGiven : Made → PrioSource → Type 0
PrioSourceIsGiven n (Fixed priority) = Unit {0}
PrioSourceIsGiven n (OfSignal s) = IsGiven n.signals s

-- a scheduler task: its registration, which has a promise, its priority source, and its order, which is a task number
pub record SchedTaskIsGiven (n : Made) (t : SchedTask) : Type 0 where
  pub registration : HasPromise n t.registration
  pub kind : IsFor (sched_role t.continuation) n t.registration
  pub source : PrioSourceIsGiven n t.source
  pub order : IsGiven n.tasks t.order

-- a scheduling state: its signals
pub record StateIsGiven (n : Made) (s : SchedulingState) : Type 0 where
  pub abort_source : IfThere (IsGiven n.signals) s.abort_source
  pub prio_source : PrioSourceIsGiven n s.prio_source

-- ---- Ours: time, frames and idle callbacks

-- what a timer does when it completes
abbrev pub CompletionIsGiven : Made → Completion → Type 0
CompletionIsGiven n (QueueTimer t) = TimerTaskIsGiven n t
CompletionIsGiven n (EnqueuePost r source) = HasPromise n r × PrioSourceIsGiven n source × IsFor (OfKind PostKind) n r
CompletionIsGiven n (QueueSignal r s) = IsFor (OfKind SignalKind) n r × IsGiven n.signals s

-- the completion steps of an active timer, by its start number
pub record CompletingIsGiven (n : Made) (c : Completing) : Type 0 where
  pub start : IsGiven n.starts c.start
  pub completion : CompletionIsGiven n c.completion

-- an entry of the map of timer ids
pub record TimerIdIsGiven (n : Made) (e : TimerId) : Type 0 where
  pub id : IsGiven n.ids e.id
  pub handle : IsGiven n.handles e.handle

-- the map of timer ids, and the start numbers of active timers
pub record TimersAreGiven (n : Made) (t : Timers) : Type 0 where
  pub ids : Each (TimerIdIsGiven n) t.ids
  pub active : Each (λ a. IsGiven n.starts a.start) t.active

-- an idle timeout: the handle of its callback and its registration
pub record IdleTimerIsGiven (n : Made) (t : IdleTimer) : Type 0 where
  pub handle : IsGiven n.idle t.handle
  pub registration : IsFor (OfKind IdleKind) n t.registration

-- a callback of this kind that waits, where `last` is the last handle of the kind
pub record CallbackIsGiven (kind : RegKind) (last : ℕ) (n : Made) (c : Callback) : Type 0 where
  pub handle : IsGiven last c.handle
  pub registration : IsFor (OfKind kind) n c.registration

-- the two lists of idle callbacks
pub record IdleIsGiven (n : Made) (i : Idle) : Type 0 where
  pub pending : Each (CallbackIsGiven IdleKind n.idle n) i.pending
  pub runnable : Each (CallbackIsGiven IdleKind n.idle n) i.runnable

-- ---- Ours: signals

-- a signal: its reason, its sources and dependent signals, and its algorithms, which are registrations with a promise
pub record SignalIsGiven (n : Made) (x : SignalRecord Value) : Type 0 where
  pub reason : IfThere (IsKnown n) x.reason
  pub sources : Each (IsGiven n.signals) x.sources
  pub dependents : Each (IsGiven n.signals) x.dependents
  pub algorithms : Each (HasPromise n) x.algorithms

-- the algorithms of each signal are for registrations that it can abort
abbrev pub AlgorithmsAreOwn : Made → Signals Value → Type 0
AlgorithmsAreOwn n ss = (s : ℕ) → Each (IsAbortedBy n s) (the_signal ss s).algorithms

-- a signal with a priority: its number, what it follows and what follows it
pub record PrioIsGiven (n : Made) (x : PrioRecord) : Type 0 where
  pub signal : IsGiven n.signals x.signal
  pub follows : IfThere (IsGiven n.signals) x.follows
  pub followers : Each (IsGiven n.signals) x.followers

-- the target of events
abbrev pub TargetIsGiven : Made → Target → Type 0
TargetIsGiven n Window = Unit {0}
TargetIsGiven n (AtSignal s) = IsGiven n.signals s

-- a listener: its registration and its target
pub record ListenerIsGiven (n : Made) (l : Listener) : Type 0 where
  pub registration : IsFor (OfKind ListenerKind) n l.registration
  pub target : TargetIsGiven n l.target

-- ---- Ours: the law

-- each number that stands in a page is one of those in n
pub record AreWithin (n : Made) (p : Page) : Type 0 where
  pub registrations : Each (RegistrationIsGiven n) p.registrations
  pub script_promises : Each (IsGiven n.promises) p.script_promises
  pub scheduling : IfThere (IsGiven n.states) p.scheduling
  pub notices : NoticesAreGiven n p.notices
  pub tasks : Each (TaskIsGiven n) p.tasks
  pub sched_tasks : Each (SchedTaskIsGiven n) p.sched_tasks
  pub timers : TimersAreGiven n p.timers
  pub completions : Each (CompletingIsGiven n) p.completions
  pub idle_timers : Each (IdleTimerIsGiven n) p.idle_timers
  pub host_answers : Each (λ a. HostTaskIsGiven n a.task) p.host_answers
  pub arrivals : Each (λ a. IsKnown n a.value) p.arrivals
  pub frames : Each (CallbackIsGiven FrameKind n.frames n) p.frames.callbacks
  pub idle : IdleIsGiven n p.idle
  pub signals : Each (SignalIsGiven n) p.signals
  pub algorithms : AlgorithmsAreOwn n p.signals
  pub prios : Each (PrioIsGiven n) p.prios
  pub listeners : Each (ListenerIsGiven n) p.listeners
  pub scheduling_states : Each (StateIsGiven n) p.scheduling_states
  pub combinators : Each (CombiningIsGiven n) p.combinators
  pub elements : Each (ElementIsGiven n) p.elements
  pub posts : Each (λ x. IsKnown n x.value) p.posts
  pub calls : Each (IsRegistered n) p.calls

-- each number that stands in a page was given out by it before
abbrev pub AreGiven : Page → Type 0
AreGiven p = AreWithin (made_by p) p

-- the values of variables are known
abbrev pub VariablesAreKnown : Made → List Variable → Type 0
VariablesAreKnown n xs = Each (λ x. IsKnown n x.value) xs

-- the same of the whole state: the page, the global variables and those of each open call
pub record AllAreGiven (m : State) : Type 0 where
  pub page : AreGiven m.host
  pub globals : VariablesAreKnown (made_by m.host) m.globals
  pub open_calls : Each (VariablesAreKnown (made_by m.host)) m.open_calls

-- a state after a step: what was given out before, in n, stays, and all numbers were given out
pub record IsAfter (n : Made) (m : State) : Type 0 where
  pub grows : Grows n (made_by m.host)
  pub given : AllAreGiven m

-- how a step ends, from a state where n was given out: the same, and the value that is given, thrown or returned is known
abbrev pub EndsGiven : Made → Done Page → Type 0
EndsGiven n (Gives v m) = IsAfter n m × IsKnown (made_by m.host) v
EndsGiven n (Throws v m) = IsAfter n m × IsKnown (made_by m.host) v
EndsGiven n (Returns v m) = IsAfter n m × IsKnown (made_by m.host) v
EndsGiven n (OutOfFuel m) = IsAfter n m

-- a step that keeps the law
abbrev pub KeepsGiven : (State → Done Page) → Type 0
KeepsGiven f = (m : State) → AllAreGiven m → EndsGiven (made_by m.host) (f m)

-- calls that keep the law, where their arguments are known
abbrev pub CallsKeepGiven : Caller Page → Type 0
CallsKeepGiven call =
    (f : ℕ) (args : List Value) (m : State) → AllAreGiven m → Each (IsKnown (made_by m.host)) args
    → EndsGiven (made_by m.host) (call f args m)

-- nothing was given out
abbrev pub nothing_made : Made
nothing_made =
    record {
      promises = 0;
      signals = 0;
      states = 0;
      registrations = [];
      ids = 0;
      handles = 0;
      starts = 0;
      frames = 0;
      idle = 0;
      tasks = 0;
      jobs = 0;
      hosts = 0;
      combinators = 0;
    }

-- the values that arrive hold no number of a promise, signal or controller
abbrev pub HoldsNoNumbers : Setup → Type 0
HoldsNoNumbers setup = Each (λ a. IsKnown nothing_made a.value) setup.arrivals
