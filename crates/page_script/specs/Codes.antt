-- The codes that a model of the script's part asks for.
use Rattle.std.specs.Prelude.{◌≡◌, ℕ, Bool, List, Option, Some, None, refl}
use Rattle.std.specs.Coded.{Coded, code_by, coded_bool, coded_list, coded_option, coded×, coded_ℕ}
use Rattle.page_types.specs.Values.{Value, Values}
use Rattle.page_types.specs.ValueCode.{coded_value, coded_values}
use Rattle.page_types.specs.declared.RegKind.{RegKind}
use Rattle.page_types.specs.contracts.RegKind as kind_code
use Rattle.page_parts.specs.Kinds.{Func}
use Rattle.page_parts.specs.Notices.{Notices}
use Rattle.page_parts.specs.Combinators.{Combine}
use Rattle.page_parts.specs.Channels.{Post}
use Rattle.promise_combine.specs.Coded.{coded_combine}
use Rattle.page_notices.specs.State.{coded_notices}
use Rattle.page_model.specs.State.{Role, ScriptRole, OfKind, Registration, PrioSource, SchedulingState, Combining, Element}
use Rattle.page_tasks.specs.Coded.{coded_prio_source}
use Rattle.page_script.specs.Script.{Script}

abbrev pub coded_func : Coded Func
coded_func =
    code_by (ℕ × Values) (coded× coded_ℕ coded_values) (λ f. (f.function, f.bound)) (λ t. record { function = t.0; bound = t.1 })
    (λ _. refl)

-- ---- Registrations

abbrev split_role : Role → Option RegKind
split_role ScriptRole = None
split_role (OfKind kind) = Some kind

abbrev joined_role : Option RegKind → Role
joined_role None = ScriptRole
joined_role (Some kind) = OfKind kind

pub joined_role-split : (role : Role) → joined_role (split_role role) ≡ role
joined_role-split ScriptRole = refl
joined_role-split (OfKind kind) = refl

abbrev pub coded_role : Coded Role
coded_role =
    code_by (Option RegKind) (coded_option kind_code.the_row.coded) split_role joined_role joined_role-split

abbrev pub coded_registration : Coded Registration
coded_registration =
    code_by (Role × (Option Func × (Option Func × (ℕ × (ℕ × (Option ℕ × Bool))))))
    (coded× coded_role (coded× (coded_option coded_func) (coded× (coded_option coded_func)
    (coded× coded_ℕ (coded× coded_ℕ (coded× (coded_option coded_ℕ) coded_bool))))))
    (λ r. (r.role, (r.callback, (r.second_callback, (r.timer_id, (r.promise, (r.signal, r.finally)))))))
    (λ t. record {
      role = t.0;
      callback = t.1.0;
      second_callback = t.1.1.0;
      timer_id = t.1.1.1.0;
      promise = t.1.1.1.1.0;
      signal = t.1.1.1.1.1.0;
      finally = t.1.1.1.1.1.1;
    })
    (λ _. refl)

-- ---- Scheduling states

abbrev pub coded_scheduling_state : Coded SchedulingState
coded_scheduling_state =
    code_by (Option ℕ × PrioSource) (coded× (coded_option coded_ℕ) coded_prio_source)
    (λ s. (s.abort_source, s.prio_source)) (λ t. record { abort_source = t.0; prio_source = t.1 }) (λ _. refl)

-- ---- Combinators and messages

abbrev pub coded_combining : Coded Combining
coded_combining =
    code_by (Combine × ℕ) (coded× coded_combine coded_ℕ) (λ c. (c.combine, c.result)) (λ t. record { combine = t.0; result = t.1 })
    (λ _. refl)

abbrev pub coded_element : Coded Element
coded_element =
    code_by (ℕ × (ℕ × ℕ)) (coded× coded_ℕ (coded× coded_ℕ coded_ℕ)) (λ e. (e.promise, (e.combinator, e.place)))
    (λ t. record { promise = t.0; combinator = t.1.0; place = t.1.1 }) (λ _. refl)

abbrev pub coded_post : Coded Post
coded_post =
    code_by (ℕ × (Value × ℕ)) (coded× coded_ℕ (coded× coded_value coded_ℕ)) (λ x. (x.port, (x.value, x.at)))
    (λ t. record { port = t.0; value = t.1.0; at = t.1.1 }) (λ _. refl)

-- ---- The script's part

-- the run and what is current, and the rest in two halves
abbrev Run : Type 0
Run = ℕ × (ℕ × (ℕ × (ℕ × (ℕ × (Option ℕ × Bool)))))

abbrev Callbacks : Type 0
Callbacks = List (List ℕ) × (List ℕ × (List Registration × (List SchedulingState × List Post)))

abbrev Promises : Type 0
Promises = List ℕ × (Notices × (List Combining × List Element))

abbrev coded_run : Coded Run
coded_run =
    coded× coded_ℕ (coded× coded_ℕ (coded× coded_ℕ (coded× coded_ℕ (coded× coded_ℕ (coded× (coded_option coded_ℕ) coded_bool)))))

abbrev coded_callbacks : Coded Callbacks
coded_callbacks =
    coded× (coded_list (coded_list coded_ℕ)) (coded× (coded_list coded_ℕ) (coded× (coded_list coded_registration)
    (coded× (coded_list coded_scheduling_state) (coded_list coded_post))))

abbrev coded_promises : Coded Promises
coded_promises =
    coded× (coded_list coded_ℕ) (coded× coded_notices (coded× (coded_list coded_combining) (coded_list coded_element)))

abbrev run_in : Script → Run
run_in s = (s.form, (s.trace, (s.now, (s.turns, (s.level, (s.scheduling, s.performing))))))

abbrev callbacks_in : Script → Callbacks
callbacks_in s = (s.names, (s.calls, (s.registrations, (s.scheduling_states, s.posts))))

abbrev promises_in : Script → Promises
promises_in s = (s.script_promises, (s.notices, (s.combinators, s.elements)))

abbrev joined_script : Run × (Callbacks × Promises) → Script
joined_script t =
    record {
      form = t.0.0;
      trace = t.0.1.0;
      now = t.0.1.1.0;
      turns = t.0.1.1.1.0;
      names = t.1.0.0;
      calls = t.1.0.1.0;
      level = t.0.1.1.1.1.0;
      scheduling = t.0.1.1.1.1.1.0;
      performing = t.0.1.1.1.1.1.1;
      registrations = t.1.0.1.1.0;
      script_promises = t.1.1.0;
      notices = t.1.1.1.0;
      combinators = t.1.1.1.1.0;
      elements = t.1.1.1.1.1;
      scheduling_states = t.1.0.1.1.1.0;
      posts = t.1.0.1.1.1.1;
    }

abbrev pub coded_script : Coded Script
coded_script =
    code_by (Run × (Callbacks × Promises)) (coded× coded_run (coded× coded_callbacks coded_promises))
    (λ s. (run_in s, (callbacks_in s, promises_in s))) joined_script (λ _. refl)
