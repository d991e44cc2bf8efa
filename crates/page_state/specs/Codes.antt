-- The codes that the model of all that a page keeps asks for.
use Rattle.std.specs.Prelude.{◌≡◌, ℕ, ℤ, Bool, List, [], Option, Some, None, Result, refl}
use Rattle.std.specs.Coded.{Coded, code_by, coded_bool, coded_list, coded_option, coded_result, coded×, coded_ℕ, coded_ℤ}
use Rattle.page_types.specs.Values.{Value}
use Rattle.page_types.specs.ValueCode.{coded_value}
use Rattle.page_types.specs.declared.Priority.{Priority}
use Rattle.page_types.specs.declared.HostKind.{HostKind}
use Rattle.page_types.specs.declared.HostMark.{HostMark}
use Rattle.page_types.specs.contracts.HostKind as kind_code
use Rattle.page_types.specs.contracts.HostMark as mark_code
use Rattle.page_parts.specs.Frames.{Callback, Frames}
use Rattle.page_parts.specs.IdleCallbacks.{Idle}
use Rattle.page_parts.specs.HostClosures.{HostClosure}
use Rattle.page_parts.specs.Setup.{Latency}
use Rattle.page_parts.specs.AbortGraph.{SignalRecord}
use Rattle.page_parts.specs.TaskSignals.{PrioRecord}
use Rattle.page_parts.specs.Listeners.{Target, Window, AtSignal, Listener}
use Rattle.page_model.specs.State.{Task, SchedTask}
use Rattle.page_tasks.specs.Coded.{coded_task, coded_sched_task, coded_priority}
use Rattle.page_script.specs.Script.{Script}
use Rattle.page_script.specs.Codes.{coded_script}
use Rattle.parallel_items.specs.InParallel.{Waiting, InParallel}
use Rattle.parallel_items.specs.Codes.{coded_in_parallel}
use Rattle.page_frames.specs.Fields.{FrameFields}
use Rattle.page_signals.specs.Signalling.{Open}
use Rattle.page_signals.specs.Codes.{coded_open}
use Rattle.page_state.specs.Standing.{TaskFields, SignalFields, Standing}

abbrev coded_pair : Coded (ℕ × ℕ)
coded_pair = coded× coded_ℕ coded_ℕ

-- ---- Tasks and what goes on in parallel

abbrev coded_tasks : Coded TaskFields
coded_tasks =
    code_by (List Task × (List SchedTask × ℕ)) (coded× (coded_list coded_task) (coded× (coded_list coded_sched_task) coded_ℕ))
    (λ s. (s.tasks, (s.sched_tasks, s.tasks_made)))
    (λ t. record { tasks = t.0; sched_tasks = t.1.0; tasks_made = t.1.1 })
    (λ _. refl)

abbrev coded_waiting : Coded Waiting
coded_waiting =
    code_by InParallel coded_in_parallel (λ w. record { waiting = w; owners = []; last_idle = 0; arrivals_made = 0 }) (λ t. t.waiting)
    (λ _. refl)

-- ---- Frames and idle periods

abbrev coded_callbacks : Coded (List Callback)
coded_callbacks =
    coded_list (code_by (ℕ × ℕ) coded_pair (λ c. (c.handle, c.registration)) (λ t. record { handle = t.0; registration = t.1 }) (λ _. refl))

abbrev coded_frame_map : Coded Frames
coded_frame_map =
    code_by (List Callback × ℕ) (coded× coded_callbacks coded_ℕ)
    (λ f. (f.callbacks, f.made)) (λ t. record { callbacks = t.0; made = t.1 }) (λ _. refl)

abbrev coded_idle : Coded Idle
coded_idle =
    code_by (List Callback × (List Callback × ℕ)) (coded× coded_callbacks (coded× coded_callbacks coded_ℕ))
    (λ i. (i.pending, (i.runnable, i.made))) (λ t. record { pending = t.0; runnable = t.1.0; made = t.1.1 }) (λ _. refl)

abbrev coded_frames : Coded FrameFields
coded_frames =
    code_by (Frames × (ℕ × (ℕ × (ℕ × (Idle × (ℕ × ℕ))))))
    (coded× coded_frame_map (coded× coded_ℕ (coded× coded_ℕ (coded× coded_ℕ (coded× coded_idle coded_pair)))))
    (λ f. (f.frames, (f.frames_since, (f.last_opportunity, (f.refresh_period, (f.idle, (f.last_idle_start, f.idle_period_end)))))))
    (λ t. record {
      frames = t.0;
      frames_since = t.1.0;
      last_opportunity = t.1.1.0;
      refresh_period = t.1.1.1.0;
      idle = t.1.1.1.1.0;
      last_idle_start = t.1.1.1.1.1.0;
      idle_period_end = t.1.1.1.1.1.1;
    })
    (λ _. refl)

-- ---- Signals

abbrev coded_signal : Coded (SignalRecord Value)
coded_signal =
    code_by (Option Value × (List ℕ × (List ℕ × List ℕ)))
    (coded× (coded_option coded_value) (coded× (coded_list coded_ℕ) (coded× (coded_list coded_ℕ) (coded_list coded_ℕ))))
    (λ s. (s.reason, (s.sources, (s.dependents, s.algorithms))))
    (λ t. record { reason = t.0; sources = t.1.0; dependents = t.1.1.0; algorithms = t.1.1.1 })
    (λ _. refl)

abbrev coded_prio : Coded PrioRecord
coded_prio =
    code_by (ℕ × (Priority × (Option ℕ × (List ℕ × Bool))))
    (coded× coded_ℕ (coded× coded_priority (coded× (coded_option coded_ℕ) (coded× (coded_list coded_ℕ) coded_bool))))
    (λ r. (r.signal, (r.priority, (r.follows, (r.followers, r.changing)))))
    (λ t. record { signal = t.0; priority = t.1.0; follows = t.1.1.0; followers = t.1.1.1.0; changing = t.1.1.1.1 })
    (λ _. refl)

-- the window as none, and a signal by its number
abbrev split_target : Target → Option ℕ
split_target Window = None
split_target (AtSignal s) = Some s

abbrev joined_target : Option ℕ → Target
joined_target None = Window
joined_target (Some s) = AtSignal s

pub joined_target-split : (target : Target) → joined_target (split_target target) ≡ target
joined_target-split Window = refl
joined_target-split (AtSignal s) = refl

abbrev coded_target : Coded Target
coded_target = code_by (Option ℕ) (coded_option coded_ℕ) split_target joined_target joined_target-split

abbrev coded_listener : Coded Listener
coded_listener =
    code_by (ℕ × (Target × List ℕ)) (coded× coded_ℕ (coded× coded_target (coded_list coded_ℕ)))
    (λ l. (l.registration, (l.target, l.name)))
    (λ t. record { registration = t.0; target = t.1.0; name = t.1.1 })
    (λ _. refl)

abbrev coded_signals : Coded SignalFields
coded_signals =
    code_by (List (SignalRecord Value) × (List PrioRecord × List Listener))
    (coded× (coded_list coded_signal) (coded× (coded_list coded_prio) (coded_list coded_listener)))
    (λ s. (s.signals, (s.prios, s.listeners)))
    (λ t. record { signals = t.0; prios = t.1.0; listeners = t.1.1 })
    (λ _. refl)

-- ---- Hosts

abbrev coded_host : Coded HostClosure
coded_host =
    code_by (HostKind × (ℤ × (ℤ × HostMark))) (coded× kind_code.the_row.coded (coded× coded_ℤ (coded× coded_ℤ mark_code.the_row.coded)))
    (λ h. (h.kind, (h.low, (h.high, h.mark))))
    (λ t. record { kind = t.0; low = t.1.0; high = t.1.1.0; mark = t.1.1.1 })
    (λ _. refl)

abbrev coded_latency : Coded Latency
coded_latency =
    code_by (ℕ × ℕ) coded_pair (λ l. (l.closure, l.latency)) (λ t. record { closure = t.0; latency = t.1 }) (λ _. refl)

-- ---- All

abbrev pub coded_standing : Coded Standing
coded_standing =
    code_by
    (Script × (TaskFields × (Waiting × (FrameFields × (SignalFields × (List HostClosure × (List Latency × (List Open
    × (List HostClosure × (Option (List (Result ℤ ℤ)) × (ℕ × ℕ)))))))))))
    (coded× coded_script (coded× coded_tasks (coded× coded_waiting (coded× coded_frames (coded× coded_signals
    (coded× (coded_list coded_host) (coded× (coded_list coded_latency) (coded× (coded_list coded_open)
    (coded× (coded_list coded_host) (coded× (coded_option (coded_list (coded_result coded_ℤ coded_ℤ))) coded_pair))))))))))
    (λ s. (
      s.script,
      (
        s.tasks,
        (
          s.waiting,
          (
            s.frames,
            (
              s.signals,
              (
                s.hosts,
                (
                  s.latencies,
                  (
                    s.folds,
                    (s.at_port, (s.kept, (s.refusals, s.room))),
                  ),
                ),
              ),
            ),
          ),
        ),
      ),
    ))
    (λ t. record {
      script = t.0;
      tasks = t.1.0;
      waiting = t.1.1.0;
      frames = t.1.1.1.0;
      signals = t.1.1.1.1.0;
      hosts = t.1.1.1.1.1.0;
      latencies = t.1.1.1.1.1.1.0;
      folds = t.1.1.1.1.1.1.1.0;
      at_port = t.1.1.1.1.1.1.1.1.0;
      kept = t.1.1.1.1.1.1.1.1.1.0;
      refusals = t.1.1.1.1.1.1.1.1.1.1.0;
      room = t.1.1.1.1.1.1.1.1.1.1.1;
    })
    (λ _. refl)
