use Rattle.std.proofs.Math.Facts.{to_z-of_z}
use Rattle.page_parts.specs.HostClosures.{fired}
use Rattle.host_jobs.specs.ToldClosure.{told}
use Rattle.host_jobs.proofs.Changes.{meets_told, changed, live_within}
use Rattle.host_jobs.proofs.table.HostTableHostPort.fire_live.Goals as goal

pub returns-clause-met : goal.returns-clause-met
returns-clause-met g c =
    let below = live_within (λ slot. told slot.closure) c.args.self.now.slots.items c.args.k c.requires.live in
    rw (meets_told (λ slot. told slot.closure) c.args.self.now.slots.items c.args.k c.index_mut.result.now c.args.x c.fire.result below c.index_mut.ensures.value)
    (rw (to_z-of_z c.ranges.x) at c.fire.ensures.met)

pub returns-clause-marks : goal.returns-clause-marks
returns-clause-marks g c =
    let below = live_within (λ slot. told slot.closure) c.args.self.now.slots.items c.args.k c.requires.live in
    changed (λ slot. told slot.closure) fired c.args.self.now.slots.items c.args.k c.index_mut.result.now c.fire.new.self below c.index_mut.ensures.value c.fire.ensures.after
