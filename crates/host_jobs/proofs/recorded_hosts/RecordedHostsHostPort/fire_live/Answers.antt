use Rattle.std.proofs.Common.{rules, ap, Some, ◌≡◌, ◌<◌, ◌+◌, ◌∙◌, sym, refl, length, map, get_or, drop}
use Rattle.std.proofs.Math.Facts.{to_z-of_z}
use Rattle.std.proofs.lemmas.Option.{slice_get_read}
use Rattle.page_parts.specs.HostClosures.{fired}
use Rattle.host_jobs.specs.Closures.{meets_at}
use Rattle.host_jobs.specs.ToldClosure.{told}
use Rattle.host_jobs.specs.RecordedPort.{answers_of}
use Rattle.host_jobs.proofs.Changes.{changed, meets_told, live_within}
use Rattle.host_jobs.proofs.Kept.{refuses, gives}
use Rattle.host_jobs.proofs.recorded_hosts.RecordedHostsHostPort.fire_live.Goals as goal

pub returns-then-not-allows-clause-kept : goal.returns-then-not-allows-clause-kept
returns-then-not-allows-clause-kept c =
    let inside = c.self.inside in
    let recorded = c.in-Some.recorded.now in
    let below = live_within told inside.closures.items c.args.k (rw (← c.self.view_is) at c.requires.live) in
    let next_below : inside.next < length inside.answers.items = search rules in
    let next_is : recorded ≡ get_or inside.answers.items inside.next recorded = search rules in
    let get = slice_get_read inside.answers.items (length inside.answers.items) inside.next recorded refl next_below next_is in
    let fails = meets_told told inside.closures.items c.args.k c.index.result.now c.args.x recorded.answer below c.index.ensures ∙ sym (rw (to_z-of_z c.ranges.x) at c.allows.ensures) ∙ c.if-not-allows.true in
    rw (← c.self.view_is) (
      answers_of (drop inside.next inside.answers.items),
      rw (← c.self.view_is) at (ap (λ p. Some p.answers) c.refuse-then-not-allows.ensures),
      (refuses (meets_at (map told inside.closures.items) c.args.k c.args.x) inside.answers.items inside.next recorded get fails, refl),
    )

pub returns-clause-met : goal.returns-clause-met
returns-clause-met c =
    let inside = c.self.inside in
    let below = live_within told inside.closures.items c.args.k (rw (← c.self.view_is) at c.requires.live) in
    rw (← c.self.view_is)
    (meets_told told inside.closures.items c.args.k c.index.result.now c.args.x c.in-Some.recorded.now.answer below c.index.ensures ∙ sym (rw (to_z-of_z c.ranges.x) at c.allows.ensures) ∙ c.if-not-allows.false)

pub returns-clause-marks : goal.returns-clause-marks
returns-clause-marks c =
    let inside = c.self.inside in
    let below = live_within told inside.closures.items c.args.k (rw (← c.self.view_is) at c.requires.live) in
    rw (← c.self.view_is)
    (changed told fired inside.closures.items c.args.k c.index_mut.result.now c.mark_fired.new.self below c.index_mut.ensures.value c.mark_fired.ensures)

pub returns-clause-kept : goal.returns-clause-kept
returns-clause-kept c =
    let inside = c.self.inside in
    let recorded = c.in-Some.recorded.now in
    let below = live_within told inside.closures.items c.args.k (rw (← c.self.view_is) at c.requires.live) in
    let next_below : inside.next < length inside.answers.items = search rules in
    let next_is : recorded ≡ get_or inside.answers.items inside.next recorded = search rules in
    let get = slice_get_read inside.answers.items (length inside.answers.items) inside.next recorded refl next_below next_is in
    let holds = meets_told told inside.closures.items c.args.k c.index.result.now c.args.x recorded.answer below c.index.ensures ∙ sym (rw (to_z-of_z c.ranges.x) at c.allows.ensures) ∙ c.if-not-allows.false in
    rw (← c.self.view_is) (
      answers_of (drop (inside.next + 1) inside.answers.items),
      refl,
      gives (meets_at (map told inside.closures.items) c.args.k c.args.x) inside.answers.items inside.next recorded get holds,
    )
