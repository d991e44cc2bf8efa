use Rattle.std.proofs.Common.{map, refl, ap, ◌∙◌, ◌+◌}
use Rattle.arrivals_text.specs.Seen.{settings_of}
use Rattle.page_frames.specs.Fields.{no_callbacks}
use Rattle.page_hosts.specs.Hosts.{Hosts}
use Rattle.page_signals.specs.Signalling.{Signalling}
use Rattle.page_state.specs.Seen.{latency_seen}
use Rattle.page_state.proofs.Firsts.{first-is, task_fields, signal_fields, tasks-are, signals-are}
use Rattle.page_state.proofs.state.PageState.new.Goals as goal

pub returns-clause-first : goal.returns-clause-first
returns-clause-first g c =
    let parts = c.in-Ok.ensures.first in
    let setup = (settings_of c.args.setup.now).setup in
    record {
      page = λ program names.
          first-is program setup (g.P.HostPort.closures c.args.port)
          (record {
            script = c.in-Ok.parts.script;
            tasks = task_fields c.in-Ok.parts.tasks.tasks c.in-Ok.parts.tasks.sched_tasks c.in-Ok.parts.tasks.tasks_made;
            waiting = c.in-Ok.parts.items.waiting;
            frames = c.new-2.result;
            signals = signal_fields c.new-3.result;
            hosts = c.in_ok-hosts.hosts.closures;
            latencies = map latency_seen c.in-Ok.parts.latencies.entries;
            folds = c.new-3.result.folds;
            at_port = c.in_ok-hosts.hosts.at_port;
            kept = c.in_ok-hosts.hosts.kept;
            refusals = c.in_ok-hosts.hosts.refusals;
            room = c.args.setup.now.room + 1;
          })
          (parts.script.first program setup (g.P.HostPort.closures c.args.port) names refl refl)
          (tasks-are c.in-Ok.parts.tasks parts.tasks) parts.waiting (c.new-2.ensures ∙ ap no_callbacks c.period.ensures.period)
          (signals-are c.new-3.result c.new-3.ensures) (ap (λ (x : Hosts). x.closures) c.in_ok-hosts.ensures.first) parts.latencies;
      folds = ap (λ (x : Signalling). x.folds) c.new-3.ensures;
    }
