use Rattle.std.proofs.Common.{map, sym}
use Rattle.page_values.specs.Seen.{seen}
use Rattle.page_state.specs.Standing.{page_of}
use Rattle.page_host.proofs.ListenerSteps.{behind-fewer}
use Rattle.page_host.proofs.TaskLoops.{listeners-over, listeners-on, listeners-ran_dry, listeners-stopped}
use Rattle.page_host.proofs.page.Page.call_listeners.Goals as goal

pub listeners-init : goal.listeners-init
listeners-init g c = record { ready = c.requires; rest_does = λ why how m p h. h }

pub call_listener-requires : goal.call_listener-requires
call_listener-requires g c = c.listeners.invariant.ready

pub returns-in_err-call_listener : goal.returns-in_err-call_listener
returns-in_err-call_listener g c =
    listeners-stopped (map seen c.args.args.now) c.listeners.left c.listeners.invariant c.in-Some.r c.next_listener.new.left c.in-Some.ensures.registration c.in-Some.ensures.left
    c.from_residual.result c.from_residual.ensures.1 c.in_err-call_listener.ensures

pub listeners-preserved : goal.listeners-preserved
listeners-preserved g c =
    listeners-on (map seen c.args.args.now) c.listeners.left c.listeners.invariant c.in-Some.r c.next_listener.new.left c.in-Some.ensures.registration c.in-Some.ensures.left
    _ c.in-Finished.is c.in_ok-call_listener.ensures

pub listeners-smaller : goal.listeners-smaller
listeners-smaller g c = rw c.in-Some.ensures.left (behind-fewer (page_of c.listeners.self.state).listeners c.listeners.left c.in-Some.r (sym c.in-Some.ensures.registration))

pub returns-in-Fuel : goal.returns-in-Fuel
returns-in-Fuel g c =
    listeners-ran_dry (map seen c.args.args.now) c.listeners.left c.listeners.invariant c.in-Some.r c.next_listener.new.left c.in-Some.ensures.registration c.in-Some.ensures.left
    _ c.in-Fuel.is c.in_ok-call_listener.ensures

pub returns : goal.returns
returns g c = listeners-over (map seen c.args.args.now) c.listeners.left c.listeners.invariant c.in_default.ensures.registration
