-- How many arguments each operation has, and a table of operations as the code has it.
use Rattle.std.specs.Prelude.{ℕ, List, map}
use Rattle.std.specs.Borrow.{Bor}
use Rattle.page_types.specs.declared.Op.{Op}
use Rattle.page_types.specs.declared.Op.TheVariants.{Log, TextOf, KindOf, Len, Push, Bind, MakeFault, FaultNameOf, FaultTextOf, NowOp, Busy, QueueMicrotask, MakePromise, ResolveOp, RejectOp, Resolved, Rejected, Then, SetTimeout, SetInterval, ClearTimeout, ClearInterval, RequestFrame, CancelFrame, RequestIdle, CancelIdle, DidTimeout, TimeRemaining, PostTask, YieldTask, MakeController, MakeTaskController, SignalOf, AbortOp, SetPriority, AbortedSignal, AnySignal, TaskAny, TimeoutSignal, Aborted, ReasonOf, PriorityOf, Listen, Unlisten, HostOp, PostMessage, AllOp, RaceOp, AnyOp, AllSettled, FinallyOp}
use Rattle.lang_meaning.specs.OpNames.{OpName}

-- ---- Ours: the operations of the script language

-- the number of arguments of an operation
abbrev pub count_of : Op → ℕ
count_of Log = 1
count_of TextOf = 1
count_of KindOf = 1
count_of Len = 1
count_of Push = 2
count_of Bind = 2
count_of MakeFault = 1
count_of FaultNameOf = 1
count_of FaultTextOf = 1
count_of NowOp = 0
count_of Busy = 1
count_of QueueMicrotask = 1
count_of MakePromise = 0
count_of ResolveOp = 2
count_of RejectOp = 2
count_of Resolved = 1
count_of Rejected = 1
count_of Then = 3
count_of SetTimeout = 2
count_of SetInterval = 2
count_of ClearTimeout = 1
count_of ClearInterval = 1
count_of RequestFrame = 1
count_of CancelFrame = 1
count_of RequestIdle = 2
count_of CancelIdle = 1
count_of DidTimeout = 1
count_of TimeRemaining = 1
count_of PostTask = 4
count_of YieldTask = 0
count_of MakeController = 0
count_of MakeTaskController = 1
count_of SignalOf = 1
count_of AbortOp = 2
count_of SetPriority = 2
count_of AbortedSignal = 1
count_of AnySignal = 1
count_of TaskAny = 2
count_of TimeoutSignal = 1
count_of Aborted = 1
count_of ReasonOf = 1
count_of PriorityOf = 1
count_of Listen = 3
count_of Unlisten = 1
count_of HostOp = 3
count_of PostMessage = 2
count_of AllOp = 1
count_of RaceOp = 1
count_of AnyOp = 1
count_of AllSettled = 1
count_of FinallyOp = 2

-- the rows of a table of the code
abbrev pub op_rows : List (Bor (List ℕ) × Op) → List OpName
op_rows rows = map (λ row. record { name = row.0.now; op = row.1 }) rows
