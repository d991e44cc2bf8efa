use Rattle.std.proofs.Common.{sym, ◌∙◌}
use Rattle.std.proofs.Math.Facts.{to_z-of_z}
use Rattle.host_jobs.specs.Closures.{meets_at}
use Rattle.page_hosts.specs.Deferred.{given_up_in}
use Rattle.page_hosts.proofs.HostLemmas.{follows_alike}
use Rattle.page_hosts.proofs.DeferredLemmas.{was_live, not_given, takes_is, meets_is, by_meeting, by_firing}
use Rattle.page_hosts.proofs.deferred.DeferredPort.fire_live.Goals as goal

pub fire_live-requires-clause-live : goal.fire_live-requires-clause-live
fire_live-requires-clause-live g c =
    was_live c.self.inside.given_up.items (g.P.HostPort.closures c.self.inside.port) c.args.k (rw (← c.self.view_is) at c.requires.live)

pub fire_live-requires-clause-fits : goal.fire_live-requires-clause-fits
fire_live-requires-clause-fits g c =
    rw (to_z-of_z c.ranges.x)
    (sym (takes_is c.self.inside.given_up.items (g.P.HostPort.closures c.self.inside.port) c.args.k c.args.x) ∙ (rw (← c.self.view_is) at c.requires.fits))

pub returns-clause-met : goal.returns-clause-met
returns-clause-met g c =
    rw (← c.self.view_is)
    (by_meeting c.fire_live.result c.self.inside.given_up.items (g.P.HostPort.closures c.self.inside.port) c.args.k c.args.x (rw (to_z-of_z c.ranges.x) at c.fire_live.ensures.met))

pub returns-clause-marks : goal.returns-clause-marks
returns-clause-marks g c =
    let bs = c.self.inside.given_up.items in
    let cs = g.P.HostPort.closures c.self.inside.port in
    rw (← c.self.view_is)
    (by_firing c.fire_live.result bs cs (g.P.HostPort.closures c.fire_live.new.self) c.args.k (not_given bs cs c.args.k (rw (← c.self.view_is) at c.requires.live)) c.fire_live.ensures.marks)

pub returns-clause-kept : goal.returns-clause-kept
returns-clause-kept g c =
    let bs = c.self.inside.given_up.items in
    let cs = g.P.HostPort.closures c.self.inside.port in
    rw (← c.self.view_is)
    (follows_alike (meets_at cs c.args.k c.args.x) (meets_at (given_up_in bs cs) c.args.k c.args.x) (λ a. sym (meets_is bs cs c.args.k c.args.x a))
    (g.P.HostPort.kept c.self.inside.port) c.fire_live.result (g.P.HostPort.kept c.fire_live.new.self) (rw (to_z-of_z c.ranges.x) at c.fire_live.ensures.kept))
