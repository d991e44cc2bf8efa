-- What was given out once stays given out: each part of a page that holds such numbers holds such numbers where more were given.
use Rattle.std.proofs.Common.{◌≡◌, ℕ, zero, suc, ◌<◌, ◌≤◌, Bool, true, false, List, [], ◌∷◌, ◌++◌, length, map, Option, Some, None, refl, sym, ap, ◌∙◌, subst, arith, append_assoc, length-append, slice_get, cond}
use Rattle.std.specs.Prelude.{find, filter, unwrap_or, slice_set}
use Rattle.page_types.specs.Values.{Value, UnitValue, BoolValue, IntValue, TextValue, ListValue, FunValue, PromiseValue, SignalValue, ControllerValue, DeadlineValue, FaultValue, Values, no_values, with_value}
use Rattle.page_parts.specs.Words.{numbered, with_numbered, and_last, without}
use Rattle.page_parts.specs.Kinds.{Func}
use Rattle.page_parts.specs.Promises.{settled_value, Reaction, PromiseRecord, PromiseJob, React, Adopt}
use Rattle.page_parts.specs.Notices.{WaitingJob, Todo, Micro, OfPromise, Notices}
use Rattle.page_parts.specs.Timers.{Timers, TimerId}
use Rattle.page_parts.specs.Frames.{Callback}
use Rattle.page_parts.specs.IdleCallbacks.{Idle}
use Rattle.page_parts.specs.AbortGraph.{SignalRecord, the_signal}
use Rattle.page_parts.specs.TaskSignals.{PrioRecord}
use Rattle.page_parts.specs.Listeners.{Listener, Target, Window, AtSignal}
use Rattle.lang_meaning.specs.Machine.{Variable}
use Rattle.page_model.specs.State.{HostTask, Task, Registration, no_registration, TimerTask, Steps, RunScript, RunTimer, TimeOutSignal, FireAtWindow, AnswerHost, RunFrame, InvokeIdle, IdleTimeout, NotifyRejected, NotifyHandled, PrioSource, Fixed, OfSignal, SchedTask, Completion, QueueTimer, EnqueuePost, QueueSignal, Completing, IdleTimer, SchedulingState, Page, Combining, Element, Role, ScriptRole, OfKind}
use Rattle.page_model.specs.Numbers.{JobIsGiven, TaskIsGiven, HostTaskIsGiven, Each, IfThere, GoesOnFrom, Made, made_by, Grows, IsGiven, IsRegistered, HasPromise, IsKnown, AreKnown, RegistrationIsGiven, ReactionIsGiven, PromiseIsGiven, PromiseJobIsGiven, TodoIsGiven, NoticesAreGiven, TimerTaskIsGiven, StepsAreGiven, PrioSourceIsGiven, SchedTaskIsGiven, StateIsGiven, CompletionIsGiven, CompletingIsGiven, TimerIdIsGiven, TimersAreGiven, IdleTimerIsGiven, CallbackIsGiven, IdleIsGiven, SignalIsGiven, PrioIsGiven, TargetIsGiven, ListenerIsGiven, AreWithin, VariablesAreKnown, OutcomeIsKnown, KindIsGiven, CombiningIsGiven, ElementIsGiven, IsFor, timer_role, sched_role, is_abortable, IsAbortedBy, AlgorithmsAreOwn}
use Rattle.page_parts.specs.Combinators.{CombinatorKind, All, AnyOf, AllSettled, Pass, Report}
use Rattle.page_types.specs.declared.RegKind.{RegKind}
use Rattle.page_types.specs.declared.RegKind.TheVariants.{Frame as FrameKind, Idle as IdleKind, Post as PostKind, Host as HostKind, Listener as ListenerKind, Then as ThenKind, Micro as MicroKind, Signal as SignalKind}

-- ---- lists

pub Each-more : {X : Type 0} (P Q : X → Type 0) → ((x : X) → P x → Q x) → (xs : List X) → Each P xs → Each Q xs
Each-more P Q step [] h = tt
Each-more P Q step (x ∷ xs) h = (step x h.0, Each-more P Q step xs h.1)

pub Each-append : {X : Type 0} (P : X → Type 0) (xs ys : List X) → Each P xs → Each P ys → Each P (xs ++ ys)
Each-append P [] ys h k = k
Each-append P (x ∷ xs) ys h k = (h.0, Each-append P xs ys h.1 k)

pub Each-last : {X : Type 0} (P : X → Type 0) (xs : List X) (x : X) → Each P xs → P x → Each P (and_last xs x)
Each-last P xs x h k = Each-append P xs (x ∷ []) h (k, tt)

pub Each-cond : {X : Type 0} (P : X → Type 0) (b : Bool) (xs ys : List X) → Each P xs → Each P ys → Each P (cond b xs ys)
Each-cond P true xs ys h k = h
Each-cond P false xs ys h k = k

pub Each-without : {X : Type 0} (P : X → Type 0) (test : X → Bool) (xs : List X) → Each P xs → Each P (without test xs)
Each-without P test [] h = tt
Each-without P test (x ∷ xs) h = Each-cond P (test x) (without test xs) (x ∷ without test xs) (Each-without P test xs h.1) (h.0, Each-without P test xs h.1)

pub Each-filter : {X : Type 0} (P : X → Type 0) (test : X → Bool) (xs : List X) → Each P xs → Each P (filter test xs)
Each-filter P test [] h = tt
Each-filter P test (x ∷ xs) h = Each-cond P (test x) (x ∷ filter test xs) (filter test xs) (h.0, Each-filter P test xs h.1) (Each-filter P test xs h.1)

pub Each-map : {X Y : Type 0} (P : Y → Type 0) (f : X → Y) (xs : List X) → Each (λ x. P (f x)) xs → Each P (map f xs)
Each-map P f [] h = tt
Each-map P f (x ∷ xs) h = (h.0, Each-map P f xs h.1)

pub Each-get : {X : Type 0} (P : X → Type 0) (xs : List X) (k : ℕ) → Each P xs → IfThere P (slice_get xs k)
Each-get P [] k h = tt
Each-get P (x ∷ xs) zero h = h.0
Each-get P (x ∷ xs) (suc k) h = Each-get P xs k h.1

pub unwrapped : {X : Type 0} (P : X → Type 0) (o : Option X) (d : X) → IfThere P o → P d → P (unwrap_or o d)
unwrapped P None d h k = k
unwrapped P (Some x) d h k = h

pub Each-numbered : {X : Type 0} (P : X → Type 0) (xs : List X) (k : ℕ) (d : X) → Each P xs → P d → P (numbered xs k d)
Each-numbered P xs zero d h p = p
Each-numbered P xs (suc k) d h p = unwrapped P (slice_get xs k) d (Each-get P xs k h) p

pub Each-set : {X : Type 0} (P : X → Type 0) (xs : List X) (k : ℕ) (x : X) → Each P xs → P x → Each P (slice_set xs k x)
Each-set P [] k x h p = tt
Each-set P (y ∷ xs) zero x h p = (p, h.1)
Each-set P (y ∷ xs) (suc k) x h p = (h.0, Each-set P xs k x h.1 p)

pub Each-with : {X : Type 0} (P : X → Type 0) (xs : List X) (k : ℕ) (x : X) → Each P xs → P x → Each P (with_numbered xs k x)
Each-with P xs zero x h p = h
Each-with P xs (suc k) x h p = Each-set P xs k x h p

pub IfThere-cond : {X : Type 0} (P : X → Type 0) (b : Bool) (o q : Option X) → IfThere P o → IfThere P q → IfThere P (cond b o q)
IfThere-cond P true o q h k = h
IfThere-cond P false o q h k = k

pub Each-find : {X : Type 0} (P : X → Type 0) (test : X → Bool) (xs : List X) → Each P xs → IfThere P (find test xs)
Each-find P test [] h = tt
Each-find P test (x ∷ xs) h = IfThere-cond P (test x) (Some x) (find test xs) h.0 (Each-find P test xs h.1)

pub IfThere-more : {X : Type 0} (P Q : X → Type 0) → ((x : X) → P x → Q x) → (o : Option X) → IfThere P o → IfThere Q o
IfThere-more P Q step None h = tt
IfThere-more P Q step (Some x) h = step x h

-- ---- lists that go on

append_nil : {X : Type 0} (xs : List X) → xs ++ [] ≡ xs
append_nil [] = refl
append_nil (x ∷ xs) = ap (λ ys. x ∷ ys) (append_nil xs)

pub GoesOn-same : {X : Type 0} (xs : List X) → GoesOnFrom xs xs
GoesOn-same xs = record { rest = []; whole = sym (append_nil xs) }

pub GoesOn-then : {X : Type 0} (xs ys zs : List X) → GoesOnFrom xs ys → GoesOnFrom ys zs → GoesOnFrom xs zs
GoesOn-then xs ys zs g h = record { rest = g.rest ++ h.rest; whole = h.whole ∙ (ap (λ l. l ++ h.rest) g.whole ∙ append_assoc xs g.rest h.rest) }

pub length-goes_on : {X : Type 0} (xs ys : List X) → GoesOnFrom xs ys → length xs ≤ length ys
length-goes_on xs ys g = omega (arith, ap length g.whole, length-append xs g.rest)

get-before : {X : Type 0} (xs ys : List X) (k : ℕ) → k < length xs → slice_get (xs ++ ys) k ≡ slice_get xs k
get-before [] ys k h = absurd (omega arith)
get-before (x ∷ xs) ys zero h = refl
get-before (x ∷ xs) ys (suc k) h = get-before xs ys k (omega arith)

numbered-goes_on : {X : Type 0} (xs ys : List X) (r : ℕ) (d : X) → GoesOnFrom xs ys → IsGiven (length xs) r → numbered ys r d ≡ numbered xs r d
numbered-goes_on xs ys zero d g h = absurd (omega (arith, h.from_one))
numbered-goes_on xs ys (suc k) d g h = ap (λ l. unwrap_or (slice_get l k) d) g.whole ∙ ap (λ o. unwrap_or o d) (get-before xs g.rest k (omega (arith, h.to_last)))

get-last : {X : Type 0} (xs : List X) (x : X) → slice_get (and_last xs x) (length xs) ≡ Some x
get-last [] x = refl
get-last (y ∷ xs) x = get-last xs x

pub length-last : {X : Type 0} (xs : List X) (x : X) → length (and_last xs x) ≡ suc (length xs)
length-last [] x = refl
length-last (y ∷ xs) x = ap suc (length-last xs x)

pub numbered-last : {X : Type 0} (xs : List X) (x d : X) → numbered (and_last xs x) (length (and_last xs x)) d ≡ x
numbered-last xs x d = ap (λ k. numbered (and_last xs x) k d) (length-last xs x) ∙ ap (λ o. unwrap_or o d) (get-last xs x)

pub goes_on-last : {X : Type 0} (xs : List X) (x : X) → GoesOnFrom xs (and_last xs x)
goes_on-last xs x = record { rest = x ∷ []; whole = refl }

-- ---- more is given out

pub Grows-same : (n : Made) → Grows n n
Grows-same n =
    record {
      promises = omega arith;
      signals = omega arith;
      states = omega arith;
      registrations = GoesOn-same n.registrations;
      ids = omega arith;
      handles = omega arith;
      starts = omega arith;
      frames = omega arith;
      idle = omega arith;
      tasks = omega arith;
      jobs = omega arith;
      hosts = omega arith;
      combinators = omega arith;
    }

pub Grows-then : (n n' n'' : Made) → Grows n n' → Grows n' n'' → Grows n n''
Grows-then n n' n'' g h =
    record {
      promises = omega (arith, g.promises, h.promises);
      signals = omega (arith, g.signals, h.signals);
      states = omega (arith, g.states, h.states);
      registrations = GoesOn-then n.registrations n'.registrations n''.registrations g.registrations h.registrations;
      ids = omega (arith, g.ids, h.ids);
      handles = omega (arith, g.handles, h.handles);
      starts = omega (arith, g.starts, h.starts);
      frames = omega (arith, g.frames, h.frames);
      idle = omega (arith, g.idle, h.idle);
      tasks = omega (arith, g.tasks, h.tasks);
      jobs = omega (arith, g.jobs, h.jobs);
      hosts = omega (arith, g.hosts, h.hosts);
      combinators = omega (arith, g.combinators, h.combinators);
    }

pub IsGiven-more : (last last' k : ℕ) → last ≤ last' → IsGiven last k → IsGiven last' k
IsGiven-more last last' k le h = record { from_one = h.from_one; to_last = omega (arith, le, h.to_last) }

-- the last number is given, where one was added
pub IsGiven-last : (last n : ℕ) → last ≡ suc n → IsGiven last last
IsGiven-last last n e = record { from_one = omega (arith, e); to_last = omega arith }

pub last-given : {X : Type 0} (xs : List X) (x : X) → IsGiven (length (and_last xs x)) (length (and_last xs x))
last-given xs x = IsGiven-last (length (and_last xs x)) (length xs) (length-last xs x)

-- ---- what is given stays given

module _ (n n' : Made) (g : Grows n n') where
  pub promise-grows : (k : ℕ) → IsGiven n.promises k → IsGiven n'.promises k
  promise-grows k = IsGiven-more n.promises n'.promises k g.promises

  pub signal-grows : (k : ℕ) → IsGiven n.signals k → IsGiven n'.signals k
  signal-grows k = IsGiven-more n.signals n'.signals k g.signals

  pub state-grows : (k : ℕ) → IsGiven n.states k → IsGiven n'.states k
  state-grows k = IsGiven-more n.states n'.states k g.states

  pub idle-grows : (k : ℕ) → IsGiven n.idle k → IsGiven n'.idle k
  idle-grows k = IsGiven-more n.idle n'.idle k g.idle

  pub registered-grows : (r : ℕ) → IsRegistered n r → IsRegistered n' r
  registered-grows r = IsGiven-more (length n.registrations) (length n'.registrations) r (length-goes_on n.registrations n'.registrations g.registrations)

  pub IsFor-grows : (what : Role) (r : ℕ) → IsFor what n r → IsFor what n' r
  IsFor-grows what r h =
      record {
        registration = registered-grows r h.registration;
        role = ap {A = Registration} {B = Role} (λ x. x.role) (numbered-goes_on n.registrations n'.registrations r no_registration g.registrations h.registration) ∙ h.role;
      }

  pub HasPromise-grows : (r : ℕ) → HasPromise n r → HasPromise n' r
  HasPromise-grows r h =
      record {
        registration = registered-grows r h.registration;
        promise = subst (λ (x : Registration). IsGiven n'.promises x.promise) (sym (numbered-goes_on n.registrations n'.registrations r no_registration g.registrations h.registration)) (promise-grows _ h.promise);
      }

  mutual
    pub IsKnown-grows : (v : Value) → IsKnown n v → IsKnown n' v
    IsKnown-grows UnitValue h = tt
    IsKnown-grows (BoolValue b) h = tt
    IsKnown-grows (IntValue i) h = tt
    IsKnown-grows (TextValue bs) h = tt
    IsKnown-grows (ListValue vs) h = AreKnown-grows vs h
    IsKnown-grows (FunValue f vs) h = AreKnown-grows vs h
    IsKnown-grows (PromiseValue k) h = promise-grows k h
    IsKnown-grows (SignalValue k) h = signal-grows k h
    IsKnown-grows (ControllerValue k) h = signal-grows k h
    IsKnown-grows (DeadlineValue t) h = tt
    IsKnown-grows (FaultValue name bs) h = tt

    pub AreKnown-grows : (vs : Values) → AreKnown n vs → AreKnown n' vs
    AreKnown-grows no_values h = tt
    AreKnown-grows (with_value v vs) h = (IsKnown-grows v h.0, AreKnown-grows vs h.1)

  pub values-grow : (vs : List Value) → Each (IsKnown n) vs → Each (IsKnown n') vs
  values-grow = Each-more (IsKnown n) (IsKnown n') IsKnown-grows

  pub IsAbortedBy-grows : (s r : ℕ) → IsAbortedBy n s r → IsAbortedBy n' s r
  IsAbortedBy-grows s r h =
      let same = numbered-goes_on n.registrations n'.registrations r no_registration g.registrations h.registration in
      record { registration = registered-grows r h.registration; signal = ap {A = Registration} {B = Option ℕ} (λ x. x.signal) same ∙ h.signal; role = ap {A = Registration} {B = Bool} (λ x. is_abortable x.role) same ∙ h.role }

  pub promises-grow : (ks : List ℕ) → Each (IsGiven n.promises) ks → Each (IsGiven n'.promises) ks
  promises-grow = Each-more (IsGiven n.promises) (IsGiven n'.promises) promise-grows

  pub signals-grow : (ks : List ℕ) → Each (IsGiven n.signals) ks → Each (IsGiven n'.signals) ks
  signals-grow = Each-more (IsGiven n.signals) (IsGiven n'.signals) signal-grows

  pub if_signal-grows : (o : Option ℕ) → IfThere (IsGiven n.signals) o → IfThere (IsGiven n'.signals) o
  if_signal-grows = IfThere-more (IsGiven n.signals) (IsGiven n'.signals) signal-grows

  pub if_state-grows : (o : Option ℕ) → IfThere (IsGiven n.states) o → IfThere (IsGiven n'.states) o
  if_state-grows = IfThere-more (IsGiven n.states) (IsGiven n'.states) state-grows

  func-grows : (o : Option Func) → IfThere (λ f. AreKnown n f.bound) o → IfThere (λ f. AreKnown n' f.bound) o
  func-grows = IfThere-more (λ f. AreKnown n f.bound) (λ f. AreKnown n' f.bound) (λ f. AreKnown-grows f.bound)

  pub Registration-grows : (x : Registration) → RegistrationIsGiven n x → RegistrationIsGiven n' x
  Registration-grows x h =
      record {
        callback = func-grows x.callback h.callback;
        second_callback = func-grows x.second_callback h.second_callback;
        timer_id = omega (arith, g.ids, h.timer_id);
        timer = h.timer;
        promise = omega (arith, g.promises, h.promise);
        signal = if_signal-grows x.signal h.signal;
      }

  pub Reaction-grows : (x : Reaction) → ReactionIsGiven n x → ReactionIsGiven n' x
  Reaction-grows x h =
      record {
        registration = IfThere-more (IsFor (OfKind ThenKind) n) (IsFor (OfKind ThenKind) n') (IsFor-grows (OfKind ThenKind)) x.registration h.registration;
        into = promise-grows x.into h.into;
        state = if_state-grows x.state h.state;
      }

  pub Promise-grows : (q : PromiseRecord) → PromiseIsGiven n q → PromiseIsGiven n' q
  Promise-grows q h =
      record {
        outcome = IfThere-more (λ how. IsKnown n (settled_value how)) (λ how. IsKnown n' (settled_value how)) (λ how. IsKnown-grows (settled_value how)) q.outcome h.outcome;
        reactions = Each-more (ReactionIsGiven n) (ReactionIsGiven n') Reaction-grows q.reactions h.reactions;
      }

  pub PromiseJob-grows : (job : PromiseJob) → PromiseJobIsGiven n job → PromiseJobIsGiven n' job
  PromiseJob-grows (React of x) h = (promise-grows of h.0, Reaction-grows x h.1)
  PromiseJob-grows (Adopt into from) h = (promise-grows into h.0, promise-grows from h.1)

  pub Todo-grows : (what : Todo) → TodoIsGiven n what → TodoIsGiven n' what
  Todo-grows (Micro r) h = IsFor-grows (OfKind MicroKind) r h
  Todo-grows (OfPromise job) h = PromiseJob-grows job h

  pub Job-grows : (job : WaitingJob) → JobIsGiven n job → JobIsGiven n' job
  Job-grows job h = record { number = IsGiven-more n.jobs n'.jobs job.number g.jobs h.number; what = Todo-grows job.what h.what; state = if_state-grows job.context.state h.state }

  pub Notices-grow : (s : Notices) → NoticesAreGiven n s → NoticesAreGiven n' s
  Notices-grow s h =
      record {
        promises = Each-more (PromiseIsGiven n) (PromiseIsGiven n') Promise-grows s.promises h.promises;
        jobs = Each-more (JobIsGiven n) (JobIsGiven n') Job-grows s.jobs h.jobs;
        rejected = promises-grow s.rejected h.rejected;
        outstanding = promises-grow s.outstanding h.outstanding;
      }

  pub TimerTask-grows : (t : TimerTask) → TimerTaskIsGiven n t → TimerTaskIsGiven n' t
  TimerTask-grows t h =
      record {
        registration = IsFor-grows (timer_role t.repeats) t.registration h.registration;
        id = IsGiven-more n.ids n'.ids t.id g.ids h.id;
        own = ap {A = Registration} {B = ℕ} (λ x. x.timer_id) (numbered-goes_on n.registrations n'.registrations t.registration no_registration g.registrations h.registration.registration) ∙ h.own;
        handle = IsGiven-more n.handles n'.handles t.handle g.handles h.handle;
      }

  pub HostTask-grows : (t : HostTask) → HostTaskIsGiven n t → HostTaskIsGiven n' t
  HostTask-grows t h = record { registration = HasPromise-grows t.registration h.registration; kind = IsFor-grows (OfKind HostKind) t.registration h.kind; closure = omega (arith, g.hosts, h.closure) }

  pub Steps-grow : (steps : Steps) → StepsAreGiven n steps → StepsAreGiven n' steps
  Steps-grow RunScript h = IsFor-grows ScriptRole 1 h
  Steps-grow (RunTimer t) h = TimerTask-grows t h
  Steps-grow (TimeOutSignal s) h = signal-grows s h
  Steps-grow (FireAtWindow name v) h = IsKnown-grows v h
  Steps-grow (AnswerHost t) h = HostTask-grows t h
  Steps-grow (RunFrame t) h = tt
  Steps-grow InvokeIdle h = tt
  Steps-grow (IdleTimeout handle) h = idle-grows handle h
  Steps-grow (NotifyRejected ps) h = promises-grow ps h
  Steps-grow (NotifyHandled k) h = promise-grows k h

  pub Task-grows : (t : Task) → TaskIsGiven n t → TaskIsGiven n' t
  Task-grows t h = record { number = IsGiven-more n.tasks n'.tasks t.number g.tasks h.number; steps = Steps-grow t.steps h.steps }

  pub PrioSource-grows : (source : PrioSource) → PrioSourceIsGiven n source → PrioSourceIsGiven n' source
  PrioSource-grows (Fixed priority) h = tt
  PrioSource-grows (OfSignal s) h = signal-grows s h

  pub SchedTask-grows : (t : SchedTask) → SchedTaskIsGiven n t → SchedTaskIsGiven n' t
  SchedTask-grows t h = record { registration = HasPromise-grows t.registration h.registration; kind = IsFor-grows (sched_role t.continuation) t.registration h.kind; source = PrioSource-grows t.source h.source; order = IsGiven-more n.tasks n'.tasks t.order g.tasks h.order }

  pub State-grows : (s : SchedulingState) → StateIsGiven n s → StateIsGiven n' s
  State-grows s h = record { abort_source = if_signal-grows s.abort_source h.abort_source; prio_source = PrioSource-grows s.prio_source h.prio_source }

  pub Completion-grows : (c : Completion) → CompletionIsGiven n c → CompletionIsGiven n' c
  Completion-grows (QueueTimer t) h = TimerTask-grows t h
  Completion-grows (EnqueuePost r source) h = (HasPromise-grows r h.0, PrioSource-grows source h.1, IsFor-grows (OfKind PostKind) r h.2)
  Completion-grows (QueueSignal r s) h = (IsFor-grows (OfKind SignalKind) r h.0, signal-grows s h.1)

  Completing-grows : (c : Completing) → CompletingIsGiven n c → CompletingIsGiven n' c
  Completing-grows c h = record { start = IsGiven-more n.starts n'.starts c.start g.starts h.start; completion = Completion-grows c.completion h.completion }

  TimerId-grows : (e : TimerId) → TimerIdIsGiven n e → TimerIdIsGiven n' e
  TimerId-grows e h = record { id = IsGiven-more n.ids n'.ids e.id g.ids h.id; handle = IsGiven-more n.handles n'.handles e.handle g.handles h.handle }

  Timers-grow : (t : Timers) → TimersAreGiven n t → TimersAreGiven n' t
  Timers-grow t h =
      record {
        ids = Each-more (TimerIdIsGiven n) (TimerIdIsGiven n') TimerId-grows t.ids h.ids;
        active = Each-more (λ a. IsGiven n.starts a.start) (λ a. IsGiven n'.starts a.start) (λ a. IsGiven-more n.starts n'.starts a.start g.starts) t.active h.active;
      }

  IdleTimer-grows : (t : IdleTimer) → IdleTimerIsGiven n t → IdleTimerIsGiven n' t
  IdleTimer-grows t h = record { handle = idle-grows t.handle h.handle; registration = IsFor-grows (OfKind IdleKind) t.registration h.registration }

  pub Callback-grows : (kind : RegKind) (last last' : ℕ) → last ≤ last' → (c : Callback) → CallbackIsGiven kind last n c → CallbackIsGiven kind last' n' c
  Callback-grows kind last last' le c h = record { handle = IsGiven-more last last' c.handle le h.handle; registration = IsFor-grows (OfKind kind) c.registration h.registration }

  Idle-grows : (i : Idle) → IdleIsGiven n i → IdleIsGiven n' i
  Idle-grows i h =
      record {
        pending = Each-more (CallbackIsGiven IdleKind n.idle n) (CallbackIsGiven IdleKind n'.idle n') (Callback-grows IdleKind n.idle n'.idle g.idle) i.pending h.pending;
        runnable = Each-more (CallbackIsGiven IdleKind n.idle n) (CallbackIsGiven IdleKind n'.idle n') (Callback-grows IdleKind n.idle n'.idle g.idle) i.runnable h.runnable;
      }

  pub Signal-grows : (x : SignalRecord Value) → SignalIsGiven n x → SignalIsGiven n' x
  Signal-grows x h =
      record {
        reason = IfThere-more (IsKnown n) (IsKnown n') IsKnown-grows x.reason h.reason;
        sources = signals-grow x.sources h.sources;
        dependents = signals-grow x.dependents h.dependents;
        algorithms = Each-more (HasPromise n) (HasPromise n') HasPromise-grows x.algorithms h.algorithms;
      }

  pub Prio-grows : (x : PrioRecord) → PrioIsGiven n x → PrioIsGiven n' x
  Prio-grows x h = record { signal = signal-grows x.signal h.signal; follows = if_signal-grows x.follows h.follows; followers = signals-grow x.followers h.followers }

  pub Target-grows : (t : Target) → TargetIsGiven n t → TargetIsGiven n' t
  Target-grows Window h = tt
  Target-grows (AtSignal s) h = signal-grows s h

  Listener-grows : (l : Listener) → ListenerIsGiven n l → ListenerIsGiven n' l
  Listener-grows l h = record { registration = IsFor-grows (OfKind ListenerKind) l.registration h.registration; target = Target-grows l.target h.target }

  pub Kind-grows : (kind : CombinatorKind) → KindIsGiven n kind → KindIsGiven n' kind
  Kind-grows All h = tt
  Kind-grows AnyOf h = tt
  Kind-grows AllSettled h = tt
  Kind-grows (Pass how) h = IsKnown-grows (settled_value how) h

  pub Combining-grows : (c : Combining) → CombiningIsGiven n c → CombiningIsGiven n' c
  Combining-grows c h =
      record {
        kind = Kind-grows c.combine.kind h.kind;
        reports = Each-more (λ (r : Report). OutcomeIsKnown n r.outcome) (λ (r : Report). OutcomeIsKnown n' r.outcome) (λ r. IsKnown-grows (settled_value r.outcome)) c.combine.reports h.reports;
        result = promise-grows c.result h.result;
      }

  pub Element-grows : (e : Element) → ElementIsGiven n e → ElementIsGiven n' e
  Element-grows e h = record { promise = promise-grows e.promise h.promise; combinator = IsGiven-more n.combinators n'.combinators e.combinator g.combinators h.combinator }

  pub Variables-grow : (xs : List Variable) → VariablesAreKnown n xs → VariablesAreKnown n' xs
  Variables-grow = Each-more (λ x. IsKnown n x.value) (λ x. IsKnown n' x.value) (λ x. IsKnown-grows x.value)

-- the registration that was just made is for what it is for
pub last-for : (xs : List Registration) (x : Registration) (n : Made) → n.registrations ≡ and_last xs x → IsFor x.role n (length (and_last xs x))
last-for xs x n e =
    record {
      registration = subst (λ (l : List Registration). IsGiven (length l) (length (and_last xs x))) (sym e) (last-given xs x);
      role = ap {A = Registration} {B = Role} (λ y. y.role) (ap {A = List Registration} {B = Registration} (λ l. numbered l (length (and_last xs x)) no_registration) e ∙ numbered-last xs x no_registration);
    }

-- ---- the parts of a page

-- the parts of a page in which numbers stand
pub data Part : Type 0 where
  InRegistrations InScriptPromises InScheduling InNotices InTasks InSchedTasks InTimers InCompletions InIdleTimers InHostAnswers InArrivals InFrames InIdle InSignals InAlgorithms InPrios InListeners InStates InCombinators InElements InPosts InCalls : Part

-- the page without what holds no such numbers
abbrev pub relevant : Page → Page
relevant p =
    record p {
      form = 0;
      trace = 0;
      now = 0;
      turns = 0;
      events = [];
      names = [];
      level = 0;
      performing = false;
      tasks_made = 0;
      frames_since = 0;
      last_opportunity = 0;
      refresh_period = 0;
      last_idle_start = 0;
      idle_period_end = 0;
      hosts = [];
      latencies = [];
    }

-- the numbers that stand in a part are those of n
abbrev pub Holds : Made → Page → Part → Type 0
Holds n p InRegistrations = Each (RegistrationIsGiven n) p.registrations
Holds n p InScriptPromises = Each (IsGiven n.promises) p.script_promises
Holds n p InScheduling = IfThere (IsGiven n.states) p.scheduling
Holds n p InNotices = NoticesAreGiven n p.notices
Holds n p InTasks = Each (TaskIsGiven n) p.tasks
Holds n p InSchedTasks = Each (SchedTaskIsGiven n) p.sched_tasks
Holds n p InTimers = TimersAreGiven n p.timers
Holds n p InCompletions = Each (CompletingIsGiven n) p.completions
Holds n p InIdleTimers = Each (IdleTimerIsGiven n) p.idle_timers
Holds n p InHostAnswers = Each (λ a. HostTaskIsGiven n a.task) p.host_answers
Holds n p InArrivals = Each (λ a. IsKnown n a.value) p.arrivals
Holds n p InFrames = Each (CallbackIsGiven FrameKind n.frames n) p.frames.callbacks
Holds n p InIdle = IdleIsGiven n p.idle
Holds n p InSignals = Each (SignalIsGiven n) p.signals
Holds n p InAlgorithms = AlgorithmsAreOwn n p.signals
Holds n p InPrios = Each (PrioIsGiven n) p.prios
Holds n p InListeners = Each (ListenerIsGiven n) p.listeners
Holds n p InStates = Each (StateIsGiven n) p.scheduling_states
Holds n p InCombinators = Each (CombiningIsGiven n) p.combinators
Holds n p InElements = Each (ElementIsGiven n) p.elements
Holds n p InPosts = Each (λ x. IsKnown n x.value) p.posts
Holds n p InCalls = Each (IsRegistered n) p.calls

-- those of all parts
abbrev pub Held : Made → Page → Type 0
Held n p = (part : Part) → Holds n (relevant p) part

-- a page that is reached from where n was given out
abbrev pub Onward : Made → Page → Type 0
Onward n p = Grows n (made_by p) × Held (made_by p) p

pub held : (n : Made) (p : Page) → AreWithin n p → Held n p
held n p h InRegistrations = h.registrations
held n p h InScriptPromises = h.script_promises
held n p h InScheduling = h.scheduling
held n p h InNotices = h.notices
held n p h InTasks = h.tasks
held n p h InSchedTasks = h.sched_tasks
held n p h InTimers = h.timers
held n p h InCompletions = h.completions
held n p h InIdleTimers = h.idle_timers
held n p h InHostAnswers = h.host_answers
held n p h InArrivals = h.arrivals
held n p h InFrames = h.frames
held n p h InIdle = h.idle
held n p h InSignals = h.signals
held n p h InAlgorithms = h.algorithms
held n p h InPrios = h.prios
held n p h InListeners = h.listeners
held n p h InStates = h.scheduling_states
held n p h InCombinators = h.combinators
held n p h InElements = h.elements
held n p h InPosts = h.posts
held n p h InCalls = h.calls

pub within : (n : Made) (p : Page) → Held n p → AreWithin n p
within n p h =
    record {
      registrations = h InRegistrations;
      script_promises = h InScriptPromises;
      scheduling = h InScheduling;
      notices = h InNotices;
      tasks = h InTasks;
      sched_tasks = h InSchedTasks;
      timers = h InTimers;
      completions = h InCompletions;
      idle_timers = h InIdleTimers;
      host_answers = h InHostAnswers;
      arrivals = h InArrivals;
      frames = h InFrames;
      idle = h InIdle;
      signals = h InSignals;
      algorithms = h InAlgorithms;
      prios = h InPrios;
      listeners = h InListeners;
      scheduling_states = h InStates;
      combinators = h InCombinators;
      elements = h InElements;
      posts = h InPosts;
      calls = h InCalls;
    }

pub Held-grows : (n n' : Made) (p : Page) → Grows n n' → Held n p → Held n' p
Held-grows n n' p g h InRegistrations = Each-more (RegistrationIsGiven n) (RegistrationIsGiven n') (Registration-grows n n' g) p.registrations (h InRegistrations)
Held-grows n n' p g h InScriptPromises = promises-grow n n' g p.script_promises (h InScriptPromises)
Held-grows n n' p g h InScheduling = if_state-grows n n' g p.scheduling (h InScheduling)
Held-grows n n' p g h InNotices = Notices-grow n n' g p.notices (h InNotices)
Held-grows n n' p g h InTasks = Each-more (TaskIsGiven n) (TaskIsGiven n') (Task-grows n n' g) p.tasks (h InTasks)
Held-grows n n' p g h InSchedTasks = Each-more (SchedTaskIsGiven n) (SchedTaskIsGiven n') (SchedTask-grows n n' g) p.sched_tasks (h InSchedTasks)
Held-grows n n' p g h InTimers = Timers-grow n n' g p.timers (h InTimers)
Held-grows n n' p g h InCompletions = Each-more (CompletingIsGiven n) (CompletingIsGiven n') (Completing-grows n n' g) p.completions (h InCompletions)
Held-grows n n' p g h InIdleTimers = Each-more (IdleTimerIsGiven n) (IdleTimerIsGiven n') (IdleTimer-grows n n' g) p.idle_timers (h InIdleTimers)
Held-grows n n' p g h InHostAnswers = Each-more (λ a. HostTaskIsGiven n a.task) (λ a. HostTaskIsGiven n' a.task) (λ a. HostTask-grows n n' g a.task) p.host_answers (h InHostAnswers)
Held-grows n n' p g h InArrivals = Each-more (λ a. IsKnown n a.value) (λ a. IsKnown n' a.value) (λ a. IsKnown-grows n n' g a.value) p.arrivals (h InArrivals)
Held-grows n n' p g h InFrames = Each-more (CallbackIsGiven FrameKind n.frames n) (CallbackIsGiven FrameKind n'.frames n') (Callback-grows n n' g FrameKind n.frames n'.frames g.frames) p.frames.callbacks (h InFrames)
Held-grows n n' p g h InIdle = Idle-grows n n' g p.idle (h InIdle)
Held-grows n n' p g h InSignals = Each-more (SignalIsGiven n) (SignalIsGiven n') (Signal-grows n n' g) p.signals (h InSignals)
Held-grows n n' p g h InAlgorithms = λ s. Each-more (IsAbortedBy n s) (IsAbortedBy n' s) (IsAbortedBy-grows n n' g s) (the_signal p.signals s).algorithms (h InAlgorithms s)
Held-grows n n' p g h InPrios = Each-more (PrioIsGiven n) (PrioIsGiven n') (Prio-grows n n' g) p.prios (h InPrios)
Held-grows n n' p g h InListeners = Each-more (ListenerIsGiven n) (ListenerIsGiven n') (Listener-grows n n' g) p.listeners (h InListeners)
Held-grows n n' p g h InStates = Each-more (StateIsGiven n) (StateIsGiven n') (State-grows n n' g) p.scheduling_states (h InStates)
Held-grows n n' p g h InCombinators = Each-more (CombiningIsGiven n) (CombiningIsGiven n') (Combining-grows n n' g) p.combinators (h InCombinators)
Held-grows n n' p g h InElements = Each-more (ElementIsGiven n) (ElementIsGiven n') (Element-grows n n' g) p.elements (h InElements)
Held-grows n n' p g h InPosts = Each-more (λ x. IsKnown n x.value) (λ x. IsKnown n' x.value) (λ x. IsKnown-grows n n' g x.value) p.posts (h InPosts)
Held-grows n n' p g h InCalls = Each-more (IsRegistered n) (IsRegistered n') (registered-grows n n' g) p.calls (h InCalls)

-- ---- steps of a page

pub stays : (p : Page) → Held (made_by p) p → Onward (made_by p) p
stays p h = (Grows-same (made_by p), h)

pub goes_onward : (n : Made) (p q : Page) → Onward n p → Grows (made_by p) (made_by q) → (Held (made_by q) p → Held (made_by q) q) → Onward n q
goes_onward n p q o g f = (Grows-then n (made_by p) (made_by q) o.0 g, f (Held-grows (made_by p) (made_by q) p g o.1))

pub onward-then : (n : Made) (p q : Page) → Onward n p → Onward (made_by p) q → Onward n q
onward-then n p q o k = (Grows-then n (made_by p) (made_by q) o.0 k.0, k.1)

pub Grows-promises : (n : Made) (k : ℕ) → n.promises ≤ k → Grows n (record n { promises = k })
Grows-promises n k le =
    let s = Grows-same n in
    record { promises = le; signals = s.signals; states = s.states; registrations = s.registrations; ids = s.ids; handles = s.handles; starts = s.starts; frames = s.frames; idle = s.idle; tasks = s.tasks; jobs = s.jobs; hosts = s.hosts; combinators = s.combinators }

pub Grows-signals : (n : Made) (k : ℕ) → n.signals ≤ k → Grows n (record n { signals = k })
Grows-signals n k le =
    let s = Grows-same n in
    record { promises = s.promises; signals = le; states = s.states; registrations = s.registrations; ids = s.ids; handles = s.handles; starts = s.starts; frames = s.frames; idle = s.idle; tasks = s.tasks; jobs = s.jobs; hosts = s.hosts; combinators = s.combinators }

pub Grows-states : (n : Made) (k : ℕ) → n.states ≤ k → Grows n (record n { states = k })
Grows-states n k le =
    let s = Grows-same n in
    record { promises = s.promises; signals = s.signals; states = le; registrations = s.registrations; ids = s.ids; handles = s.handles; starts = s.starts; frames = s.frames; idle = s.idle; tasks = s.tasks; jobs = s.jobs; hosts = s.hosts; combinators = s.combinators }

pub Grows-registrations : (n : Made) (xs : List Registration) → GoesOnFrom n.registrations xs → Grows n (record n { registrations = xs })
Grows-registrations n xs g =
    let s = Grows-same n in
    record { promises = s.promises; signals = s.signals; states = s.states; registrations = g; ids = s.ids; handles = s.handles; starts = s.starts; frames = s.frames; idle = s.idle; tasks = s.tasks; jobs = s.jobs; hosts = s.hosts; combinators = s.combinators }

pub Grows-timers : (n : Made) (ids handles starts : ℕ) → n.ids ≤ ids → n.handles ≤ handles → n.starts ≤ starts → Grows n (record n { ids = ids; handles = handles; starts = starts })
Grows-timers n ids handles starts i h t =
    let s = Grows-same n in
    record { promises = s.promises; signals = s.signals; states = s.states; registrations = s.registrations; ids = i; handles = h; starts = t; frames = s.frames; idle = s.idle; tasks = s.tasks; jobs = s.jobs; hosts = s.hosts; combinators = s.combinators }

pub Grows-frames : (n : Made) (k : ℕ) → n.frames ≤ k → Grows n (record n { frames = k })
Grows-frames n k le =
    let s = Grows-same n in
    record { promises = s.promises; signals = s.signals; states = s.states; registrations = s.registrations; ids = s.ids; handles = s.handles; starts = s.starts; frames = le; idle = s.idle; tasks = s.tasks; jobs = s.jobs; hosts = s.hosts; combinators = s.combinators }

pub Grows-idle : (n : Made) (k : ℕ) → n.idle ≤ k → Grows n (record n { idle = k })
Grows-idle n k le =
    let s = Grows-same n in
    record { promises = s.promises; signals = s.signals; states = s.states; registrations = s.registrations; ids = s.ids; handles = s.handles; starts = s.starts; frames = s.frames; idle = le; tasks = s.tasks; jobs = s.jobs; hosts = s.hosts; combinators = s.combinators }

pub Grows-tasks : (n : Made) (k : ℕ) → n.tasks ≤ k → Grows n (record n { tasks = k })
Grows-tasks n k le =
    let s = Grows-same n in
    record { promises = s.promises; signals = s.signals; states = s.states; registrations = s.registrations; ids = s.ids; handles = s.handles; starts = s.starts; frames = s.frames; idle = s.idle; tasks = le; jobs = s.jobs; hosts = s.hosts; combinators = s.combinators }

pub Grows-notices : (n : Made) (k j : ℕ) → n.promises ≤ k → n.jobs ≤ j → Grows n (record n { promises = k; jobs = j })
Grows-notices n k j le le' =
    let s = Grows-same n in
    record { promises = le; signals = s.signals; states = s.states; registrations = s.registrations; ids = s.ids; handles = s.handles; starts = s.starts; frames = s.frames; idle = s.idle; tasks = s.tasks; jobs = le'; hosts = s.hosts; combinators = s.combinators }

pub Grows-combinators : (n : Made) (k : ℕ) → n.combinators ≤ k → Grows n (record n { combinators = k })
Grows-combinators n k le =
    let s = Grows-same n in
    record { promises = s.promises; signals = s.signals; states = s.states; registrations = s.registrations; ids = s.ids; handles = s.handles; starts = s.starts; frames = s.frames; idle = s.idle; tasks = s.tasks; jobs = s.jobs; hosts = s.hosts; combinators = le }
