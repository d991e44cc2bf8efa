use Rattle.std.proofs.Common.{refl}
use Rattle.page_model.specs.Parallel.{arrive}
use Rattle.arrivals_text.specs.SeenParts.{arrival_of}
use Rattle.page_state.proofs.Telling.{Does-quiet}
use Rattle.page_host.proofs.StopLemmas.{does-stopped}
use Rattle.page_host.proofs.page.Page.arrive.Goals as goal

pub returns-clause-does : goal.returns-clause-does
returns-clause-does g c =
    rw (← c.self.view_is)
    (does-stopped c.arrive-done.result c.or_stop.result c.or_stop.ensures.answer
    (Does-quiet g.L.Lines.keeping (arrive (arrival_of c.args.arrival)) c.self.inside.state c.arrive-done.new.self (g.L.Lines.seen c.self.inside.lines) c.arrive-done.result refl c.arrive-done.ensures.to_come c.arrive-done.ensures.memory))
