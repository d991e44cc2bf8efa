use Rattle.std.proofs.Common.{ℕ, ◌+◌, ◌∙◌, ap, inl, inr, arith}
use Rattle.post_task.specs.Waiting.{Waiting}
use Rattle.post_task.proofs.Waits.{among_inserted}
use Rattle.bench.proofs.scheduler.enqueue_each.Goals as goal

pub loop-s-preserved : goal.loop-s-preserved
loop-s-preserved g c = record {
  kept = c.enqueue.ensures.kept;
  levels = c.enqueue.ensures.same ∙ c.loop-s.invariant.levels;
  earlier = λ task a.
      elim (among_inserted _ task _ _ c.in-Ok.ensures.waits a) [
        | inl e ↦ let same = ap (λ (w : Waiting ℕ). w.order) e in omega (arith, same)
        | inr before ↦ let x = c.loop-s.invariant.earlier task before in omega (arith, x)
      ];
  inserts = c.in-Ok.ensures.inserts ∙ ap (λ (n : ℕ). n + 1) c.loop-s.invariant.inserts;
}
