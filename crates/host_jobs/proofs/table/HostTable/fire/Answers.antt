use Rattle.std.proofs.Common.{arith, ◌≡◌, ◌<◌, length, sym, ◌∙◌}
use Rattle.std.specs.Prelude.{IsTrue}
use Rattle.std.proofs.Math.Facts.{to_z-of_z}
use Rattle.std.proofs.lemmas.Option.{slice_get-get_or}
use Rattle.page_parts.specs.HostClosures.{fired}
use Rattle.host_jobs.specs.Closures.{is_live, takes}
use Rattle.host_jobs.specs.ToldClosure.{told}
use Rattle.host_jobs.proofs.Changes.{told_at, changed}
use Rattle.host_jobs.proofs.FiringCases.{Fires-answer, Fires-out, Fires-used}
use Rattle.host_jobs.specs.ToldTable.{closures_of}
use Rattle.host_jobs.proofs.table.HostTable.fire.Goals as goal

pub returns-then-not-is_live-clause-answer : goal.returns-then-not-is_live-clause-answer
returns-then-not-is_live-clause-answer g c =
    let slot = c.index.result.now in
    Fires-used (closures_of c.args.self.now) c.args.k (told slot.closure) c.args.x
    (told_at (λ slot. told slot.closure) c.args.self.now.slots.items c.args.k slot (omega arith) c.index.ensures)
    (sym c.is_live.ensures ∙ c.if-not-is_live.true) slot.closure.unqueued

pub returns-then-not-takes-clause-answer : goal.returns-then-not-takes-clause-answer
returns-then-not-takes-clause-answer g c =
    let slot = c.index.result.now in
    Fires-out (closures_of c.args.self.now) c.args.k (told slot.closure) c.args.x
    (told_at (λ slot. told slot.closure) c.args.self.now.slots.items c.args.k slot (omega arith) c.index.ensures)
    (sym c.is_live.ensures ∙ c.if-not-is_live.false) (rw (to_z-of_z c.ranges.x) at (sym c.takes.ensures ∙ c.if-not-takes.true))

pub returns-clause-answer : goal.returns-clause-answer
returns-clause-answer g c =
    let slot = c.index_mut.result.now in
    let below : c.args.k < length c.args.self.now.slots.items = omega arith in
    let one = slice_get-get_or c.args.self.now.slots.items c.args.k c.index.result.now below in
    let two = slice_get-get_or c.args.self.now.slots.items c.args.k slot below in
    let same : c.index.result.now ≡ slot = cc (one, two, c.index.ensures, c.index_mut.ensures.value) in
    let live : IsTrue (is_live c.index.result.now.closure.mark) = sym c.is_live.ensures ∙ c.if-not-is_live.false in
    let fit : IsTrue (takes (told c.index.result.now.closure) c.args.x) = rw (to_z-of_z c.ranges.x) at (sym c.takes.ensures ∙ c.if-not-takes.false) in
    Fires-answer (closures_of c.args.self.now) c.args.k (told slot.closure) c.args.x c.fire.result
    (told_at (λ slot. told slot.closure) c.args.self.now.slots.items c.args.k slot below c.index_mut.ensures.value) (rw same at live) (rw same at fit)
    (rw (to_z-of_z c.ranges.x) at c.fire.ensures.met)

pub returns-clause-marks : goal.returns-clause-marks
returns-clause-marks g c =
    changed (λ slot. told slot.closure) fired c.args.self.now.slots.items c.args.k c.index_mut.result.now c.fire.new.self (omega arith) c.index_mut.ensures.value c.fire.ensures.after
