-- What registrations, scheduling states and messages of the code are seen as.
use Rattle.std.specs.Prelude.{Option, Some, None}
use Rattle.page_values.specs.declared.Func.{Func}
use Rattle.page_values.specs.Seen.{seen, seen_func}
use Rattle.page_parts.specs.Kinds as Kinds
use Rattle.page_parts.specs.Channels as Channels
use Rattle.page_model.specs.State as m
use Rattle.page_tasks.specs.Seen.{prio_source}
use Rattle.page_script.specs.declared.callbacks.Callbacks.{Callbacks}
use Rattle.page_script.specs.declared.callbacks.Callbacks.TheVariants as callbacks
use Rattle.page_script.specs.declared.parts.Role.{Role}
use Rattle.page_script.specs.declared.parts.Role.TheVariants as role
use Rattle.page_script.specs.declared.parts.Registration.{Registration}
use Rattle.page_script.specs.declared.parts.SchedulingState.{SchedulingState}
use Rattle.page_script.specs.declared.parts.Post.{Post}

abbrev pub role_seen : Role → m.Role
role_seen role.Script = m.ScriptRole
role_seen (role.Of kind) = m.OfKind kind

-- the first callback of a registration
abbrev pub first_seen : Callbacks → Option Kinds.Func
first_seen callbacks.Absent = None
first_seen (callbacks.First f) = Some (seen_func f)
first_seen (callbacks.Second f) = None
first_seen (callbacks.Both fs) = Some (seen_func fs.value.first)

-- its second callback
abbrev pub second_seen : Callbacks → Option Kinds.Func
second_seen callbacks.Absent = None
second_seen (callbacks.First f) = None
second_seen (callbacks.Second f) = Some (seen_func f)
second_seen (callbacks.Both fs) = Some (seen_func fs.value.second)

abbrev pub registration_seen : Registration → m.Registration
registration_seen r =
    record {
      role = role_seen r.role;
      callback = first_seen r.callbacks;
      second_callback = second_seen r.callbacks;
      timer_id = r.timer_id;
      promise = r.promise;
      signal = r.signal;
      finally = r.finally;
    }

abbrev pub state_seen : SchedulingState → m.SchedulingState
state_seen s = record { abort_source = s.abort_source; prio_source = prio_source s.prio_source }

abbrev pub post_seen : Post → Channels.Post
post_seen x = record { port = x.port; value = seen x.value; at = x.at.0 }
