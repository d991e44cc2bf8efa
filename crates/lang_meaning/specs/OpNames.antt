-- The names of the operations.
use Rattle.std.specs.Prelude.{ℕ, if◌then◌else◌, List, [], ◌∷◌, Option, Some, None, codes}
use Rattle.page_types.specs.declared.Op.{Op}
use Rattle.page_types.specs.declared.Op.TheVariants.{Log, TextOf, KindOf, Len, Push, Bind, MakeFault, FaultNameOf, FaultTextOf, NowOp, Busy, QueueMicrotask, MakePromise, ResolveOp, RejectOp, Resolved, Rejected, Then, SetTimeout, SetInterval, ClearTimeout, ClearInterval, RequestFrame, CancelFrame, RequestIdle, CancelIdle, DidTimeout, TimeRemaining, PostTask, YieldTask, MakeController, MakeTaskController, SignalOf, AbortOp, SetPriority, AbortedSignal, AnySignal, TaskAny, TimeoutSignal, Aborted, ReasonOf, PriorityOf, Listen, Unlisten, HostOp, PostMessage, AllOp, RaceOp, AnyOp, AllSettled, FinallyOp}
use Rattle.page_parts.specs.Words.{same_bytes}

-- ---- Ours: the names by which a script calls operations

-- a name and its operation
pub record OpName : Type 0 where
  pub name : List ℕ
  pub op : Op

-- the operation of a name in a list
abbrev pub op_in : List OpName → List ℕ → Option Op
op_in [] x = None
op_in (a ∷ more) x = if same_bytes a.name x then Some a.op else op_in more x

-- all names
abbrev pub op_names : List OpName
op_names =
    record { name = codes "log"; op = Log } ∷
    record { name = codes "text"; op = TextOf } ∷
    record { name = codes "kind"; op = KindOf } ∷
    record { name = codes "len"; op = Len } ∷
    record { name = codes "push"; op = Push } ∷
    record { name = codes "bind"; op = Bind } ∷
    record { name = codes "fault"; op = MakeFault } ∷
    record { name = codes "faultName"; op = FaultNameOf } ∷
    record { name = codes "faultText"; op = FaultTextOf } ∷
    record { name = codes "now"; op = NowOp } ∷
    record { name = codes "busy"; op = Busy } ∷
    record { name = codes "queueMicrotask"; op = QueueMicrotask } ∷
    record { name = codes "promise"; op = MakePromise } ∷
    record { name = codes "resolve"; op = ResolveOp } ∷
    record { name = codes "reject"; op = RejectOp } ∷
    record { name = codes "resolved"; op = Resolved } ∷
    record { name = codes "rejected"; op = Rejected } ∷
    record { name = codes "then"; op = Then } ∷
    record { name = codes "setTimeout"; op = SetTimeout } ∷
    record { name = codes "setInterval"; op = SetInterval } ∷
    record { name = codes "clearTimeout"; op = ClearTimeout } ∷
    record { name = codes "clearInterval"; op = ClearInterval } ∷
    record { name = codes "requestAnimationFrame"; op = RequestFrame } ∷
    record { name = codes "cancelAnimationFrame"; op = CancelFrame } ∷
    record { name = codes "requestIdleCallback"; op = RequestIdle } ∷
    record { name = codes "cancelIdleCallback"; op = CancelIdle } ∷
    record { name = codes "didTimeout"; op = DidTimeout } ∷
    record { name = codes "timeRemaining"; op = TimeRemaining } ∷
    record { name = codes "postTask"; op = PostTask } ∷
    record { name = codes "yieldTask"; op = YieldTask } ∷
    record { name = codes "controller"; op = MakeController } ∷
    record { name = codes "taskController"; op = MakeTaskController } ∷
    record { name = codes "signal"; op = SignalOf } ∷
    record { name = codes "abort"; op = AbortOp } ∷
    record { name = codes "setPriority"; op = SetPriority } ∷
    record { name = codes "abortedSignal"; op = AbortedSignal } ∷
    record { name = codes "anySignal"; op = AnySignal } ∷
    record { name = codes "taskAny"; op = TaskAny } ∷
    record { name = codes "timeoutSignal"; op = TimeoutSignal } ∷
    record { name = codes "aborted"; op = Aborted } ∷
    record { name = codes "reason"; op = ReasonOf } ∷
    record { name = codes "priority"; op = PriorityOf } ∷
    record { name = codes "listen"; op = Listen } ∷
    record { name = codes "unlisten"; op = Unlisten } ∷
    record { name = codes "host"; op = HostOp } ∷
    record { name = codes "postMessage"; op = PostMessage } ∷
    record { name = codes "all"; op = AllOp } ∷
    record { name = codes "race"; op = RaceOp } ∷
    record { name = codes "any"; op = AnyOp } ∷
    record { name = codes "allSettled"; op = AllSettled } ∷
    record { name = codes "finally"; op = FinallyOp } ∷
    []

-- the operation with this name
abbrev pub op_named : List ℕ → Option Op
op_named x = op_in op_names x
