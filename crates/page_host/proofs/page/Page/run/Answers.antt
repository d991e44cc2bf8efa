use Rattle.std.proofs.Common.{◌∙◌, ap, Err, Result}
use Rattle.page_interp.specs.declared.machine.Ran.{Ran}
use Rattle.page_interp.specs.declared.machine.Stopped.{Stopped}
use Rattle.page_host.specs.StateActs.{RanOut}
use Rattle.page_host.specs.declared.stop.PageStop.{PageStop}
use Rattle.page_host.proofs.RunEnds.{ok-runs, host-runs, memory-running, memory-runs}
use Rattle.page_host.proofs.page.Page.run.Goals as goal

pub wanting-requires : goal.wanting-requires
wanting-requires g c =
    memory-running g.L.Lines.keeping g.L.Lines.seen c.args.machine.now _ c.args.self.now c.args.fun.now c.args.args c.self.view_is c.self.invariant c.requires.ready c.requires.since c.call-done.new.self c.call-done.new.fuel _ c.call-done.new.host c.self-2.view_is c.self-2.invariant c.call-done.ensures.program c.call-done.ensures.fuel c.call-done.result
    (c.in-Err.is ∙ ap {A = Stopped PageStop} {B = Result Ran (Stopped PageStop)} Err c.in-OutOfMemory.is) c.call-done.ensures.stands

pub returns-in-Ok : goal.returns-in-Ok
returns-in-Ok g c =
    ok-runs g.L.Lines.keeping g.L.Lines.seen c.args.machine.now _ c.args.self.now c.args.fun.now c.args.args c.self.view_is c.self.invariant c.requires.ready c.requires.since c.call-done.new.self c.call-done.new.fuel _ c.call-done.new.host c.self-2.view_is c.self-2.invariant c.call-done.ensures.program c.call-done.ensures.fuel c.call-done.result
    c.in-Ok.ran c.in-Ok.is c.call-done.ensures.meaning c.call-done.ensures.no_fuel c.call-done.ensures.functions c.call-done.ensures.room

pub returns-in-Host : goal.returns-in-Host
returns-in-Host g c =
    host-runs g.L.Lines.keeping g.L.Lines.seen c.args.machine.now _ c.args.self.now c.args.fun.now c.args.args c.self.view_is c.self.invariant c.requires.ready c.requires.since c.call-done.new.self c.call-done.new.fuel _ c.call-done.new.host c.self-2.view_is c.self-2.invariant c.call-done.ensures.program c.call-done.ensures.fuel c.call-done.result
    _ (c.in-Err.is ∙ ap {A = Stopped PageStop} {B = Result Ran (Stopped PageStop)} Err c.in-Host.is) c.call-done.ensures.stands _ RanOut c.unwrap_or.ensures

pub returns-in-OutOfMemory : goal.returns-in-OutOfMemory
returns-in-OutOfMemory g c =
    memory-runs g.L.Lines.keeping g.L.Lines.seen c.args.machine.now _ c.args.self.now c.args.fun.now c.args.args c.self.view_is c.self.invariant c.requires.ready c.requires.since c.call-done.new.self c.call-done.new.fuel _ c.call-done.new.host c.self-2.view_is c.self-2.invariant c.call-done.ensures.program c.call-done.ensures.fuel c.call-done.result
    (c.in-Err.is ∙ ap {A = Stopped PageStop} {B = Result Ran (Stopped PageStop)} Err c.in-OutOfMemory.is) c.call-done.ensures.stands _ RanOut c.wanting.ensures.why c.wanting.ensures.stopped
