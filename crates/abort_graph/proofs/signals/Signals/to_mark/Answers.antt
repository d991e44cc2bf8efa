use Rattle.std.proofs.Common.{◌++◌, ◌∷◌, [], true, false, filter, not, ap, ◌∙◌}
use Rattle.page_parts.specs.AbortGraph as parts
use Rattle.abort_graph.proofs.MarkLemmas.{is_marked, filter_more}
use Rattle.abort_graph.proofs.signals.Signals.to_mark.Goals as goal
use Rattle.abort_graph.proofs.signals.Signals.to_mark.Goals.{then-is_none+in_ok-push-2, else-is_none}

pub loop-dependent-init : goal.loop-dependent-init
loop-dependent-init g c =
    ap (λ xs. xs ++ filter (λ d. not (parts.is_aborted c.args.self.now d)) c.dependents-dependents.result.now) (c.in_ok-push.ensures.items ∙ ap (λ xs. xs ++ c.args.s ∷ []) c.new-signals.ensures.items)

pub loop-dependent-preserved : goal.loop-dependent-preserved
loop-dependent-preserved g c =
    let more = filter_more (λ d. not (parts.is_aborted c.args.self.now d)) in
    let marked = is_marked c.reason-in-loop-dependent.result _ c.is_none.result in
    elim c.if-is_none.branch [
      | then-is_none+in_ok-push-2 w ↦
          more true c.loop-dependent.dependent-index c.dependents-dependents.result.now c.loop-dependent.signals.items c.if-is_none.signals.items _ c.loop-dependent-test.true
          (marked true c.reason-in-loop-dependent.ensures c.is_none.ensures w.if-is_none.true) (ap (λ v. v.items) w.signals-is ∙ w.in_ok-push-2.ensures.items) c.loop-dependent.invariant
      | else-is_none w ↦
          more false c.loop-dependent.dependent-index c.dependents-dependents.result.now c.loop-dependent.signals.items c.if-is_none.signals.items _ c.loop-dependent-test.true
          (marked false c.reason-in-loop-dependent.ensures c.is_none.ensures w.if-is_none.false) (ap (λ v. v.items) w.signals-is) c.loop-dependent.invariant
    ]
