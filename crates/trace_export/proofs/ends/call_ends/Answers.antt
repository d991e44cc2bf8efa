use Rattle.std.proofs.Common.{map, [], ◌∷◌, ap, sym, ◌∙◌, subst}
use Rattle.std.proofs.lemmas.List.{map-append}
use Rattle.trace_text.specs.EventSeen.{stamped_seen}
use Rattle.trace_export.specs.EndsSeen.{known_seen}
use Rattle.trace_export.proofs.Ending.{IsBehind, behind_more}
use Rattle.trace_export.proofs.ends.call_ends.Goals as goal

pub loop-e-preserved : goal.loop-e-preserved
loop-e-preserved c =
    let all = map stamped_seen c.args.events.now in
    let before = map stamped_seen c.in-Some.before.now in
    let cut = ap (map stamped_seen) c.in-Some.ensures.cases.0 ∙ map-append stamped_seen c.in-Some.before.now (c.in-Some.e.now ∷ []) in
    subst (λ known. IsBehind all before known) (sym c.in_ok-add.ensures)
    (behind_more all (map stamped_seen c.loop-e.rest.now) before (stamped_seen c.in-Some.e.now) (known_seen c.loop-e.known) cut c.loop-e.invariant)
