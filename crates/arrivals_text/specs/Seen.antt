-- What the code's setup is seen as.
use Rattle.std.specs.Prelude.{map}
use Rattle.loop_policy.specs.Policies.{policy_of}
use Rattle.arrivals_text.specs.Arrivals.{Settings, Line, PageLine, TraceLine, PolicyLine, FuelLine, UntilLine, RefreshLine, LateLine, RoomLine, HostLine, ArrivalLine}
use Rattle.arrivals_text.specs.declared.setup.PageSetup.{PageSetup}
use Rattle.arrivals_text.specs.declared.line.Line as code
use Rattle.arrivals_text.specs.declared.line.Line.TheVariants as line
use Rattle.arrivals_text.specs.SeenParts.{latency_of, arrival_of}

-- the setup that a run has, and the room
abbrev pub settings_of : PageSetup → Settings
settings_of s = record {
  setup = record {
    form = s.form;
    trace = s.trace;
    policy = policy_of s.policy;
    fuel = s.fuel;
    until = s.until.0;
    refresh = s.refresh;
    late = s.late.items;
    latencies = map latency_of s.hosts.items;
    arrivals = map arrival_of s.arrivals.items;
  };
  room = s.room;
}

abbrev pub line_of : code.Line → Line
line_of (line.Page n) = PageLine n
line_of line.Trace = TraceLine
line_of (line.Policy policy) = PolicyLine (policy_of policy)
line_of (line.Fuel n) = FuelLine n
line_of (line.Until n) = UntilLine n
line_of (line.Refresh n) = RefreshLine n
line_of (line.Late late) = LateLine late.items
line_of (line.Room n) = RoomLine n
line_of (line.Host closure latency) = HostLine (record { closure = closure; latency = latency })
line_of (line.At arrival) = ArrivalLine (arrival_of arrival)
