use Rattle.std.proofs.Common.{ap, sym, ◌∙◌, nat_cmp, Ok, Err}
use Rattle.host_jobs.specs.Overlay.{overlaid}
use Rattle.std.proofs.Math.Facts.{to_z-of_z}
use Rattle.std.specs.BTreeSet.{contains}
use Rattle.host_jobs.proofs.OverlayLemmas.{takes_is}
use Rattle.host_jobs.specs.Closures.{meets_at}
use Rattle.page_hosts.proofs.HostLemmas.{unfired_is, undropped_is, fits_is, meets_is, follows_alike, fire_is, fired_held, answered_overlaid}
use Rattle.page_hosts.proofs.hosts.PageHosts.fire.Goals as goal

pub fire_live-requires-clause-live : goal.fire_live-requires-clause-live
fire_live-requires-clause-live g c =
    let asked = contains nat_cmp c.self.inside.asked in
    let cs = c.self.inside.port.closures in
    sym (undropped_is asked cs c.args.k (unfired_is asked cs c.args.k c.self.invariant.of_port (rw (← c.self.view_is) at c.requires.unfired))) ∙ (rw (← c.self.view_is) at c.requires.undropped)

pub fire_live-requires-clause-fits : goal.fire_live-requires-clause-fits
fire_live-requires-clause-fits g c =
    let asked = contains nat_cmp c.self.inside.asked in
    let cs = c.self.inside.port.closures in
    rw (to_z-of_z c.ranges.x)
    (sym (takes_is asked cs c.args.k c.args.x) ∙ sym (fits_is (overlaid asked cs) c.args.k c.args.x) ∙ (rw (← c.self.view_is) at c.requires.fits))

pub invariant_of-self : goal.invariant_of-self
invariant_of-self g c =
    rw c.in-Ok.ensures.marks (fired_held (contains nat_cmp c.self.inside.asked) (contains nat_cmp c.remove.new.self) c.self.inside.port.closures c.args.k c.remove.ensures.updates.0 c.self.invariant)

pub returns-in-Ok-clause-met : goal.returns-in-Ok-clause-met
returns-in-Ok-clause-met g c =
    let asked = contains nat_cmp c.self.inside.asked in
    let cs = c.self.inside.port.closures in
    rw (← c.self.view_is) (meets_is asked cs c.args.k c.args.x c.in-Ok.answer ∙ (rw (to_z-of_z c.ranges.x) at c.in-Ok.ensures.met))

pub returns-in-Ok-clause-marks : goal.returns-in-Ok-clause-marks
returns-in-Ok-clause-marks g c =
    let asked = contains nat_cmp c.self.inside.asked in
    let now = contains nat_cmp c.remove.new.self in
    let cs = c.self.inside.port.closures in
    rw (← c.self.view_is) (ap (overlaid now) c.in-Ok.ensures.marks ∙ answered_overlaid asked now cs c.args.k c.remove.ensures.updates.0 ∙ fire_is asked cs c.args.k)

pub returns-in-Ok-clause-kept : goal.returns-in-Ok-clause-kept
returns-in-Ok-clause-kept g c =
    let asked = contains nat_cmp c.self.inside.asked in
    let cs = c.self.inside.port.closures in
    rw (← c.self.view_is)
    (follows_alike (meets_at cs c.args.k c.args.x) (meets_at (overlaid asked cs) c.args.k c.args.x) (λ a. sym (meets_is asked cs c.args.k c.args.x a))
    c.self.inside.port.kept (Ok c.in-Ok.answer) c.fire_live.new.self.kept (rw (to_z-of_z c.ranges.x) at c.in-Ok.ensures.kept))

pub returns-in-Err-clause-kept : goal.returns-in-Err-clause-kept
returns-in-Err-clause-kept g c =
    let asked = contains nat_cmp c.self.inside.asked in
    let cs = c.self.inside.port.closures in
    rw (← c.self.view_is)
    (follows_alike (meets_at cs c.args.k c.args.x) (meets_at (overlaid asked cs) c.args.k c.args.x) (λ a. sym (meets_is asked cs c.args.k c.args.x a))
    c.self.inside.port.kept (Err c.in-Err.refused) c.fire_live.new.self.kept (rw (to_z-of_z c.ranges.x) at c.in-Err.ensures.kept))
