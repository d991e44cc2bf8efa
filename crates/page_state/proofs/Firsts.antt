-- The parts of a page before its first turn are the first page.
use Rattle.std.proofs.Common.{◌≡◌, ℕ, ◌/◌, List, [], ◌∷◌, ◌∙◌, ap}
use Rattle.page_types.specs.Tree.{Program}
use Rattle.page_types.specs.declared.Source.TheVariants.{Dom}
use Rattle.page_parts.specs.Setup.{Setup, Latency}
use Rattle.page_parts.specs.HostClosures.{HostClosure}
use Rattle.page_model.specs.State.{Task, SchedTask, RunScript}
use Rattle.page_model.specs.Turns.{first_page}
use Rattle.page_script.specs.Script.{Script, script_of}
use Rattle.parallel_items.specs.InParallel.{Waiting, only_arrivals}
use Rattle.page_frames.specs.Fields.{FrameFields, no_callbacks}
use Rattle.page_tasks.specs.Queued.{Queued}
use Rattle.page_signals.specs.Signalling.{Signalling, nothing}
use Rattle.page_state.specs.First.{HasScriptTask}
use Rattle.page_state.specs.Standing.{Standing, TaskFields, SignalFields, page_of}

abbrev pub script_task : TaskFields
script_task = record { tasks = record { number = 1; source = Dom; steps = RunScript } ∷ []; sched_tasks = []; tasks_made = 1 }

abbrev pub task_fields : List Task → List SchedTask → ℕ → TaskFields
task_fields tasks sched made = record { tasks = tasks; sched_tasks = sched; tasks_made = made }

abbrev pub signal_fields : Signalling → SignalFields
signal_fields st = record { signals = st.signals; prios = st.prios; listeners = st.listeners }

pub first-is : (program : Program) (setup : Setup) (hosts : List HostClosure) (s : Standing)
    → s.script ≡ script_of (first_page program setup hosts)
    → s.tasks ≡ record { tasks = record { number = 1; source = Dom; steps = RunScript } ∷ []; sched_tasks = []; tasks_made = 1 }
    → s.waiting ≡ only_arrivals setup.arrivals
    → s.frames ≡ no_callbacks (1000000 / setup.refresh)
    → s.signals ≡ record { signals = []; prios = []; listeners = [] }
    → s.hosts ≡ hosts → s.latencies ≡ setup.latencies
    → page_of s ≡ first_page program setup hosts
first-is program setup hosts s script tasks waiting frames signals closures latencies =
    ap (λ (x : Script). page_of (record s { script = x })) script
    ∙ (ap (λ (x : TaskFields). page_of (record s { script = script_of (first_page program setup hosts); tasks = x })) tasks
    ∙ (ap (λ (x : Waiting). page_of (record s { script = script_of (first_page program setup hosts); tasks = script_task; waiting = x })) waiting
    ∙ (ap (λ (x : FrameFields). page_of (record s { script = script_of (first_page program setup hosts); tasks = script_task; waiting = only_arrivals setup.arrivals; frames = x })) frames
    ∙ (ap (λ (x : SignalFields). page_of (record s { script = script_of (first_page program setup hosts); tasks = script_task; waiting = only_arrivals setup.arrivals; frames = no_callbacks (1000000 / setup.refresh); signals = x })) signals
    ∙ (ap (λ (x : List HostClosure). page_of (record s { script = script_of (first_page program setup hosts); tasks = script_task; waiting = only_arrivals setup.arrivals; frames = no_callbacks (1000000 / setup.refresh); signals = signal_fields nothing; hosts = x })) closures
    ∙ ap (λ (x : List Latency). page_of (record s { script = script_of (first_page program setup hosts); tasks = script_task; waiting = only_arrivals setup.arrivals; frames = no_callbacks (1000000 / setup.refresh); signals = signal_fields nothing; hosts = hosts; latencies = x })) latencies)))))

pub tasks-are : (q : Queued) → HasScriptTask q → task_fields q.tasks q.sched_tasks q.tasks_made ≡ script_task
tasks-are q h =
    ap (λ (x : List Task). task_fields x q.sched_tasks q.tasks_made) h.tasks
    ∙ (ap (λ (x : List SchedTask). task_fields script_task.tasks x q.tasks_made) h.sched_tasks
    ∙ ap (λ (x : ℕ). task_fields script_task.tasks [] x) h.made)

pub signals-are : (st : Signalling) → st ≡ nothing → signal_fields st ≡ signal_fields nothing
signals-are st e = ap signal_fields e
